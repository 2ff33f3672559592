-- Texts, declarations, axioms and terms each have a first fault or none.
use Rattle.std.proofs.Common.{◌≡◌, ℕ, Bool, true, false, List, [], ◌∷◌, ◌++◌, Option, Some, None}
use Rattle.std.proofs.Common.{refl, sym, ◌∙◌, subst, ◌⊎◌, inl, inr}
use Rattle.std.specs.Prelude.{Contains}
use Rattle.std.proofs.lemmas.Bool.{false≢true}
use Rattle.kore_text.specs.Trees.{SortTree, PatternTree, AxiomDeclaration, DefinitionTree}
use Rattle.kore_text.specs.TokenStream.{token_stream}
use Rattle.kore_text.specs.Faults.{IsFirstFaultOfText, IsPattern, IsDefinition}
use Rattle.kore_text.specs.Table.{run, pattern_symbols, definition_symbols}
use Rattle.kore_text.specs.declared.faults.TextFault.{TextFault}
use Rattle.kore_text.proofs.Explaining.{pattern_fault, definition_fault}
use Rattle.kore_ast.specs.KoreText.{ReadsPattern, ReadsDefinition}
use Rattle.rule_core.specs.Subsorts.{IsBelow, by_pair, by_chain, is_below, HasNoCycle}
use Rattle.rule_core.specs.declared.signature.Signature.{Signature}
use Rattle.rule_core.specs.declared.signature.SortInfo.{SortInfo}
use Rattle.rule_core.proofs.Belows.{is_below-true, true-is_below}
use Rattle.kore_sig.specs.Declarations.{SubsortPair, pairs_of}
use Rattle.kore_sig.specs.FirstFault.{Fault, ByByte, ByNumber, IsFirstBy, Then, IsFirstOfSequence}
use Rattle.kore_sig.specs.Noted.{noted, leads_by_byte, leads_by_number}
use Rattle.kore_sig.specs.Declaring.{placed_faults, placed_behind}
use Rattle.kore_sig.specs.SignatureFaults.{FirstOfModules, FirstOfDeclarations, FirstOfPairs}
use Rattle.kore_sig.specs.SignatureFaults.{FirstOfSignature, HasPairFault, unknown_sort, cycle}
use Rattle.kore_sig.specs.SignatureFaults.{number_faults, pairs_after, declarations_placed}
use Rattle.kore_sig.specs.SignatureFaults.{module_faults, names_after, nothing_declared}
use Rattle.kore_sig.specs.SortReferences.{sort_number, sort_entries}
use Rattle.kore_sig.proofs.FirstLaws.{contains_cases, contains_none, first_of_list, by_byte}
use Rattle.kore_sig.proofs.FirstLaws.{by_number}
use Rattle.kore_sig.proofs.PairLaws.{first_cycle, passes_pair, then_next}
use Rattle.kore_check.specs.Folds.{unfolded}
use Rattle.kore_check.specs.PatternFaults.{all_faults}
use Rattle.kore_shapes.specs.Shapes.{Rewriting}
use Rattle.kore_axioms.specs.AxiomClasses.{AxiomClass, refused, orders_sorts, rewrites, equates}
use Rattle.kore_axioms.specs.AxiomClasses.{passed_over, axiom_class}
use Rattle.kore_axioms.specs.RuleFaults.{FirstOfRule, sorted_faults, use_faults}
use Rattle.kore_axioms.specs.RuleForms.{form_faults}
use Rattle.kore_axioms.specs.RuleParts.{rule_parts}
use Rattle.kore_rules.specs.Refused.{HasTextFault, fault_of_text}
use Rattle.kore_rules.specs.FirstRefusal.{FirstOfClass, FirstOfAxioms, FirstOfTerm, first_sort}
use Rattle.kore_rules.specs.FirstRefusal.{start_faults}
use Rattle.kore_rules.specs.GroundTerms.{ground_faults}

-- ---- texts

pub definition_is_found : (bytes : List ℕ)
    → ((d : DefinitionTree) × ReadsDefinition bytes d)
    ⊎ ((f : Fault) × HasTextFault IsDefinition bytes f)
definition_is_found bytes =
    by_case (run (token_stream bytes) (Some 0) definition_symbols)
    (definition_fault (token_stream bytes))
  where
    by_case : (r : Option TextFault) → IsFirstFaultOfText IsDefinition 0 (token_stream bytes) r
        → ((d : DefinitionTree) × ReadsDefinition bytes d)
        ⊎ ((f : Fault) × HasTextFault IsDefinition bytes f)
    by_case None h = inl (h.0.0, (h.1, (h.0.1, h.0.2)))
    by_case (Some f) h = inr (fault_of_text f, (f, h, refl))

pub pattern_is_found : (bytes : List ℕ)
    → ((p : PatternTree) × ReadsPattern bytes p) ⊎ ((f : Fault) × HasTextFault IsPattern bytes f)
pattern_is_found bytes =
    by_case (run (token_stream bytes) (Some 0) pattern_symbols) (pattern_fault (token_stream bytes))
  where
    by_case : (r : Option TextFault) → IsFirstFaultOfText IsPattern 0 (token_stream bytes) r
        → ((p : PatternTree) × ReadsPattern bytes p)
        ⊎ ((f : Fault) × HasTextFault IsPattern bytes f)
    by_case None h = inl (h.0.0, (h.1, (h.0.1, h.0.2)))
    by_case (Some f) h = inr (fault_of_text f, (f, h, refl))

-- ---- lists, stages and things in order

-- P holds for some first fault, or for none
abbrev pub Found : (Option Fault → Type 0) → Type 0
Found P = (r : Option Fault) × P r

by_byte_found : (fs : List Fault) → Found (IsFirstBy ByByte (Contains fs))
by_byte_found fs = (noted leads_by_byte None fs, first_of_list by_byte fs)

by_number_found : (fs : List Fault) → Found (IsFirstBy ByNumber (Contains fs))
by_number_found fs = (noted leads_by_number None fs, first_of_list by_number fs)

then_found : (P Q : Option Fault → Type 0) → Found P → Found Q → Found (Then P Q)
then_found P Q (None, p) (r, q) = (r, then_next P Q r p q)
then_found P Q (Some f, p) other = (Some f, inl p)

in_order_found : {S A : Type 0} (R : S → A → Option Fault → Type 0) (next : S → A → S)
    → ((s : S) (x : A) → Found (R s x)) → (s : S) (xs : List A)
    → Found (IsFirstOfSequence R next s xs)
in_order_found R next each s [] = (None, refl)
in_order_found R next each s (x ∷ xs) =
    then_found (R s x) (IsFirstOfSequence R next (next s x) xs) (each s x)
    (in_order_found R next each (next s x) xs)

-- ---- pairs of sorts

-- no sort that is the lower one of one of these pairs is below itself
abbrev NoneLoops : List (ℕ × ℕ) → List (ℕ × ℕ) → Type 0
NoneLoops pairs some = (p : ℕ × ℕ) → Contains some p → is_below pairs p.0 p.0 ≡ false

loops : (pairs some : List (ℕ × ℕ))
    → NoneLoops pairs some ⊎ ((p : ℕ × ℕ) × (is_below pairs p.0 p.0 ≡ true))
loops pairs [] = inl (λ p has. absurd (contains_none p has))
loops pairs (q ∷ some) = by_case (is_below pairs q.0 q.0) refl (loops pairs some) where
  with_first : is_below pairs q.0 q.0 ≡ false → NoneLoops pairs some → NoneLoops pairs (q ∷ some)
  with_first e none p has = elim (contains_cases q p some has) [
    | inl same ↦ subst (λ (x : ℕ × ℕ). is_below pairs x.0 x.0 ≡ false) same e
    | inr later ↦ none p later
  ]

  by_case : (b : Bool) → is_below pairs q.0 q.0 ≡ b
      → NoneLoops pairs some ⊎ ((p : ℕ × ℕ) × (is_below pairs p.0 p.0 ≡ true))
      → NoneLoops pairs (q ∷ some) ⊎ ((p : ℕ × ℕ) × (is_below pairs p.0 p.0 ≡ true))
  by_case true e rest = inr (q, e)
  by_case false e (inl none) = inl (with_first e none)
  by_case false e (inr found) = inr found

starts : (pairs : List (ℕ × ℕ)) (a b : ℕ) → IsBelow pairs a b → (m : ℕ) × Contains pairs (a, m)
starts pairs a b (by_pair known) = (b, known)
starts pairs a b (by_chain {b = m} known rest) = (m, known)

no_cycle : (pairs : List (ℕ × ℕ)) → NoneLoops pairs pairs → HasNoCycle pairs
no_cycle pairs none a below =
    let first = starts pairs a a below in
    false≢true (sym (none (a, first.0) first.1) ∙ true-is_below pairs a a below)

cycles : (pairs : List (ℕ × ℕ)) → HasNoCycle pairs ⊎ (HasNoCycle pairs → ⊥)
cycles pairs = elim (loops pairs pairs) [
  | inl none ↦ inl (no_cycle pairs none)
  | inr found ↦ inr (λ fine. fine found.0.0 (is_below-true pairs found.0.0 found.0.0 found.1))
]

unknown_found : (sorts : List (List ℕ × SortInfo)) (before : List (ℕ × ℕ)) (p : SubsortPair)
    → ((a b : ℕ) → sort_number sorts p.lower ≡ Some a → sort_number sorts p.upper ≡ Some b → ⊥)
    → Found (IsFirstBy ByNumber (HasPairFault sorts before p))
unknown_found sorts before p never = by_case first.0 first.1 where
  first : Found
      (IsFirstBy ByNumber (Contains (number_faults sorts p.lower ++ number_faults sorts p.upper)))
  first = by_number_found (number_faults sorts p.lower ++ number_faults sorts p.upper)

  no_other : (Q : Fault → Type 0)
      → ((f : Fault) → Contains (number_faults sorts p.lower ++ number_faults sorts p.upper) f
      → Q f) → (f : Fault) → HasPairFault sorts before p f → Q f
  no_other Q law f (unknown_sort has) = law f has
  no_other Q law _ (cycle lower upper bad) = absurd (never _ _ lower upper)

  by_case : (r : Option Fault)
      → IsFirstBy ByNumber (Contains (number_faults sorts p.lower ++ number_faults sorts p.upper)) r
      → Found (IsFirstBy ByNumber (HasPairFault sorts before p))
  by_case None h = (None, no_other (λ f. ⊥) h)
  by_case (Some f) h = (Some f, (unknown_sort h.0, no_other (ByNumber f) h.1))

pair_found : (sorts : List (List ℕ × SortInfo)) (before : List (ℕ × ℕ)) (p : SubsortPair)
    → Found (IsFirstBy ByNumber (HasPairFault sorts before p))
pair_found sorts before p =
    by_case (sort_number sorts p.lower) (sort_number sorts p.upper) refl refl
  where
    known : (a b : ℕ) → sort_number sorts p.lower ≡ Some a → sort_number sorts p.upper ≡ Some b
        → HasNoCycle (before ++ (a, b) ∷ []) ⊎ (HasNoCycle (before ++ (a, b) ∷ []) → ⊥)
        → Found (IsFirstBy ByNumber (HasPairFault sorts before p))
    known a b lower upper (inl fine) = (
      None,
      ((passes_pair sorts before (before ++ (a, b) ∷ []) p a b lower upper fine refl).first
          [] None refl).0,
    )
    known a b lower upper (inr bad) =
        (Some (record { number = 24; byte = p.at }), first_cycle sorts before p a b lower upper bad)

    by_case : (o q : Option ℕ) → sort_number sorts p.lower ≡ o → sort_number sorts p.upper ≡ q
        → Found (IsFirstBy ByNumber (HasPairFault sorts before p))
    by_case None q lower upper =
        unknown_found sorts before p
        (λ a b e f. let both : None ≡ Some a = sym lower ∙ e in let never : ⊥ = cc in never)
    by_case (Some a) None lower upper =
        unknown_found sorts before p
        (λ c b e f. let both : None ≡ Some b = sym upper ∙ f in let never : ⊥ = cc in never)
    by_case (Some a) (Some b) lower upper = known a b lower upper (cycles (before ++ (a, b) ∷ []))

-- ---- declarations

pub declaration_fault_is_found : (d : DefinitionTree) → Found (FirstOfSignature d)
declaration_fault_is_found d =
    let sorts = sort_entries d in
    then_found (FirstOfModules d.modules)
    (Then (FirstOfDeclarations sorts (declarations_placed [] d.modules))
    (FirstOfPairs sorts (pairs_of d)))
    (in_order_found (λ names m. IsFirstBy ByNumber (Contains (module_faults names m))) names_after
    (λ names m. by_number_found (module_faults names m)) [] d.modules)
    (then_found (FirstOfDeclarations sorts (declarations_placed [] d.modules))
    (FirstOfPairs sorts (pairs_of d))
    (in_order_found (λ before p. IsFirstBy ByNumber (Contains (placed_faults sorts before p)))
    placed_behind (λ before p. by_number_found (placed_faults sorts before p)) nothing_declared
    (declarations_placed [] d.modules))
    (in_order_found (λ before p. IsFirstBy ByNumber (HasPairFault sorts before p))
    (pairs_after sorts) (pair_found sorts) [] (pairs_of d)))

-- ---- axioms and terms

rule_found : (sig : Signature) (first : Option SortTree) (a : AxiomDeclaration) (w : Rewriting)
    → Found (FirstOfRule sig first a w)
rule_found sig first a w =
    let form = form_faults a (rule_parts sig w) in
    let sorts = sorted_faults sig w.sort (rule_parts sig w) in
    let uses = use_faults sig first a.at w.sort (rule_parts sig w) in
    then_found (IsFirstBy ByNumber (Contains form))
    (Then (IsFirstBy ByByte (Contains sorts)) (IsFirstBy ByNumber (Contains uses)))
    (by_number_found form)
    (then_found (IsFirstBy ByByte (Contains sorts)) (IsFirstBy ByNumber (Contains uses))
    (by_byte_found sorts) (by_number_found uses))

class_found : (sig : Signature) (first : Option SortTree) (a : AxiomDeclaration) (k : AxiomClass)
    → Found (FirstOfClass sig first a k)
class_found sig first a (refused n) = (Some (record { number = n; byte = a.at }), refl)
class_found sig first a orders_sorts = (None, refl)
class_found sig first a (rewrites w) = rule_found sig first a w
class_found sig first a (equates e) = (None, refl)
class_found sig first a passed_over = (None, refl)

pub axiom_fault_is_found : (sig : Signature) (axioms : List AxiomDeclaration)
    → Found (FirstOfAxioms sig axioms)
axiom_fault_is_found sig axioms =
    in_order_found (λ (first : Option SortTree) a. FirstOfClass sig first a (axiom_class sig a))
    (λ (first : Option SortTree) a. first_sort first (axiom_class sig a))
    (λ first a. class_found sig first a (axiom_class sig a)) None axioms

pub term_fault_is_found : (sig : Signature) (top : Option ℕ) (p : PatternTree)
    → Found (FirstOfTerm sig top p)
term_fault_is_found sig top p =
    let ground = ground_faults p in
    let sorts = all_faults sig (unfolded p) in
    let start = start_faults sig top (unfolded p) in
    then_found (IsFirstBy ByByte (Contains ground))
    (Then (IsFirstBy ByByte (Contains sorts)) (IsFirstBy ByNumber (Contains start)))
    (by_byte_found ground)
    (then_found (IsFirstBy ByByte (Contains sorts)) (IsFirstBy ByNumber (Contains start))
    (by_byte_found sorts) (by_number_found start))
