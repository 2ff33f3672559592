-- A definition without faults means some program. So each text is decided.
use Rattle.std.proofs.Common.{◌≡◌, ◌<◌, ℕ, zero, suc, Bool, true, false, List, [], ◌∷◌, length}
use Rattle.std.proofs.Common.{Option, Some, None, refl, sym, ap, ◌∙◌, subst, inl, inr, arith}
use Rattle.std.specs.Prelude.{◌⊎◌, ◌↔◌, ◌||◌, IsTrue, Contains, slice_get, slice_index_or}
use Rattle.std.specs.Global.{Global}
use Rattle.std.specs.List.{AllZip, list_any}
use Rattle.std.proofs.lemmas.Bool.{false≢true, eqb-true}
use Rattle.kore_lex.specs.TokenLaws.{TokensCover}
use Rattle.kore_text.specs.Trees.{SortTree, sort_parameter, sort_applied, no_sorts, sort_then}
use Rattle.kore_text.specs.Trees.{AxiomDeclaration, DefinitionTree}
use Rattle.kore_text.specs.Faults.{IsDefinition}
use Rattle.kore_ast.specs.KoreText.{ReadsDefinition}
use Rattle.rule_core.specs.Rules.{RewriteRule, Equation}
use Rattle.rule_core.specs.Theories.{RewriteTheory}
use Rattle.rule_core.specs.WellSorted.{IsSignature}
use Rattle.rule_core.specs.declared.signature.Signature.{Signature}
use Rattle.rule_core.specs.declared.signature.SortInfo.{SortInfo}
use Rattle.rule_core.specs.declared.signature.SymInfo.{SymInfo}
use Rattle.rule_core.specs.declared.signature.SymKind.{SymKind}
use Rattle.kore_sig.specs.Attributes.{subsort_sorts}
use Rattle.kore_sig.specs.Declarations.{axioms_of}
use Rattle.kore_sig.specs.FirstFault.{Fault}
use Rattle.kore_sig.specs.SignatureFaults.{FirstOfSignature}
use Rattle.kore_sig.specs.Signatures.{IsSignatureOf}
use Rattle.kore_sig.specs.SortReferences.{sort_number}
use Rattle.kore_sig.proofs.FirstLaws.{contains_here, contains_there, contains_cases, contains_none}
use Rattle.kore_sig.proofs.ListLaws.{number_within}
use Rattle.kore_shapes.specs.Shapes.{Rewriting}
use Rattle.kore_axioms.specs.AxiomClasses.{AxiomClass, refused, orders_sorts, rewrites, equates}
use Rattle.kore_axioms.specs.AxiomClasses.{passed_over, axiom_class}
use Rattle.rule_core.specs.KindTests.{is_defined_kind}
use Rattle.kore_axioms.specs.AxiomMeanings.{MeansRule}
use Rattle.kore_axioms.specs.RuleFaults.{FirstOfRule}
use Rattle.kore_rules.specs.EquationsAmong.{IsEquationAmong, IsUnreadableAmong}
use Rattle.kore_rules.specs.Acceptance.{IsAccepted}
use Rattle.kore_rules.specs.Refused.{IsRefused, HasTextFault}
use Rattle.kore_rules.specs.AcceptanceLaws.{EachTextIsDecided}
use Rattle.kore_rules.specs.AxiomsRead.{AreFew, is_marked}
use Rattle.kore_rules.specs.FirstRefusal.{FirstOfAxioms}
use Rattle.kore_rules.specs.Programs.{IsSymbolOf, AreEquationsOf, IsProgramUnder, IsTopOf}
use Rattle.kore_rules.specs.ScalarSorts.{MarksTerms, has_terms, entry_makes, states_upper}
use Rattle.kore_rules.specs.ScalarSorts.{puts_below, is_numbered_so, is_number, upper_one}
use Rattle.kore_rules.specs.ScalarSorts.{final_kind}
use Rattle.kore_rules.proofs.AcceptedLaws.{axioms_few, axioms_refused, definition_refused}
use Rattle.kore_rules.proofs.AcceptedLaws.{signature_refused, text_refused, top_any}
use Rattle.kore_rules.proofs.FaultsFound.{definition_is_found, declaration_fault_is_found}
use Rattle.kore_rules.proofs.FaultsFound.{axiom_fault_is_found}
use Rattle.kore_rules.proofs.HookLaws.{final_is, defined}
use Rattle.kore_rules.proofs.KindLaws.{HasPairs}
use Rattle.kore_rules.proofs.ListsFound.{AreOne, AreListed, listed}
use Rattle.kore_rules.proofs.MarkLaws.{makes_declared}
use Rattle.kore_rules.proofs.AmongLaws.{among_one, among_place}
use Rattle.kore_rules.proofs.LastResortsFound.{among_decided, unreadable_decided}
use Rattle.kore_rules.proofs.MeaningsAreOne.{rule_one}
use Rattle.kore_rules.proofs.RuleFirsts.{rule_clear, sort_declared}
use Rattle.kore_rules.proofs.RulesFound.{rule_decided}
use Rattle.kore_rules.proofs.SignatureFacts.{faultless_signature}
use Rattle.kore_rules.proofs.SignaturesFound.{signature_found}

-- ---- which sorts have terms other than values

-- the results of the test for the first numbers
tabulated : (ℕ → Bool) → ℕ → List Bool
tabulated test zero = []
tabulated test (suc n) = test 0 ∷ tabulated (λ k. test (suc k)) n

marked : (test : ℕ → Bool) (n k : ℕ) → (test k ≡ true → k < n)
    → is_marked (tabulated test n) k ≡ test k
unfolding tabulated
marked test zero k within = by_case (test k) refl where
  by_case : (b : Bool) → test k ≡ b → false ≡ test k
  by_case true e = absurd (let lt : k < 0 = within e in omega (arith, lt))
  by_case false e = sym e
marked test (suc n) zero within = refl
marked test (suc n) (suc k) within =
    marked (λ j. test (suc j)) n k (λ e. let lt = within e in omega (arith, lt))

any_at : {X : Type 0} (test : X → Bool) (xs : List X) → list_any test xs ≡ true
    → (i : ℕ) × ((x : X) × (slice_get xs i ≡ Some x) × (test x ≡ true))
any_at test [] e = absurd (false≢true e)
any_at {X} test (x ∷ xs) e = by_case (λ any. any_at test xs any) (test x) refl e where
  by_case : (list_any test xs ≡ true
      → (i : ℕ) × ((y : X) × (slice_get xs i ≡ Some y) × (test y ≡ true))) → (b : Bool)
      → test x ≡ b → (b || list_any test xs) ≡ true
      → (i : ℕ) × ((y : X) × (slice_get (x ∷ xs) i ≡ Some y) × (test y ≡ true))
  by_case rest true h any = (0, (x, refl, h))
  by_case rest false h any = let found = rest any in (suc found.0, found.1)

declared_within : (sorts : List (List ℕ × SortInfo)) (s : SortTree) (n : ℕ)
    → sort_number sorts s ≡ Some n → n < length sorts
declared_within sorts (sort_parameter at name) n e = absurd (let never : ⊥ = cc in never)
declared_within sorts (sort_applied at name no_sorts) n e = number_within sorts name n e
declared_within sorts (sort_applied at name (sort_then s ss)) n e =
    absurd (let never : ⊥ = cc in never)

numbered_within : (sorts : List (List ℕ × SortInfo)) (n : ℕ) (o : Option SortTree)
    → is_numbered_so sorts n o ≡ true → n < length sorts
numbered_within sorts n None e = absurd (false≢true e)
numbered_within sorts n (Some s) e = by_case (sort_number sorts s) refl e where
  by_case : (o : Option ℕ) → sort_number sorts s ≡ o → is_number n o ≡ true → n < length sorts
  by_case None is h = absurd (false≢true h)
  by_case (Some m) is h =
      subst (λ (k : ℕ). k < length sorts) (sym (eqb-true n m h)) (declared_within sorts s m is)

terms_within : (sig : Signature) (axioms : List AxiomDeclaration) (n : ℕ) → IsSignature sig
    → has_terms sig axioms n ≡ true → n < length sig.sorts
terms_within sig axioms n sorted e = by_case (list_any (entry_makes n) sig.symbols) refl e where
  by_case : (b : Bool) → list_any (entry_makes n) sig.symbols ≡ b
      → (b || list_any (states_upper sig.sorts n) axioms) ≡ true → n < length sig.sorts
  by_case true made h =
      let entry = any_at (entry_makes n) sig.symbols made in
      let e : List ℕ × SymInfo = entry.1.0 in
      makes_declared sig e.1 n (sorted.declared entry.0 e.1 (e.0, entry.1.1)) entry.1.2
  by_case false made h =
      let stated = any_at (states_upper sig.sorts n) axioms h in
      let attribute = any_at (puts_below sig.sorts n) stated.1.0.attributes stated.1.2 in
      numbered_within sig.sorts n (upper_one (subsort_sorts attribute.1.0)) attribute.1.2

marks_found : (sig : Signature) (axioms : List AxiomDeclaration) → IsSignature sig
    → (marks : List Bool) × MarksTerms sig axioms marks
marks_found sig axioms sorted = (
  tabulated (has_terms sig axioms) (length sig.sorts),
  λ n. marked (has_terms sig axioms) (length sig.sorts) n (terms_within sig axioms n sorted),
)

-- ---- symbols and their equations

unreadables_found : (sig : Signature) (axioms some : List AxiomDeclaration) (f : List ℕ)
    → IsSignature sig → AreFew axioms
    → (b : Bool) × (IsTrue b
    ↔ ((a : AxiomDeclaration) × Contains some a × IsUnreadableAmong sig axioms f a))
unreadables_found sig axioms [] f sorted few =
    (false, (λ h. absurd (false≢true h), λ some. absurd (contains_none some.0 some.1)))
unreadables_found sig axioms (a ∷ rest) f sorted few =
    by_case (unreadable_decided sig axioms f a sorted few)
    (unreadables_found sig axioms rest f sorted few)
  where
    by_case : IsUnreadableAmong sig axioms f a ⊎ (IsUnreadableAmong sig axioms f a → ⊥)
        → (b : Bool) × (IsTrue b
        ↔ ((c : AxiomDeclaration) × Contains rest c × IsUnreadableAmong sig axioms f c))
        → (b : Bool) × (IsTrue b
        ↔ ((c : AxiomDeclaration) × Contains (a ∷ rest) c × IsUnreadableAmong sig axioms f c))
    by_case (inl bad) later = (true, (λ h. (a, contains_here a rest, bad), λ some. refl))
    by_case (inr fine) (b, same) = (
      b,
      (
        λ h. let some = same.0 h in (some.0, contains_there a some.0 rest some.1, some.2),
        λ some. elim (contains_cases a some.0 rest some.1) [
          | inl here ↦ absurd (fine (subst (IsUnreadableAmong sig axioms f) (sym here) some.2))
          | inr later ↦ same.1 (some.0, later, some.2)
        ],
      ),
    )

abbrev equation_key : Equation → ℕ × ℕ
equation_key e = (e.priority, e.place)

abbrev rule_key : RewriteRule → ℕ × ℕ
rule_key r = (r.priority, r.place)

equations_are_one : (sig : Signature) (axioms : List AxiomDeclaration) (f : List ℕ)
    → AreOne (IsEquationAmong sig axioms f) (λ (e : Equation). e.place)
equations_are_one sig axioms f = record {
  one = λ a x y is other. among_one sig axioms f a x y is other;
  there = λ a x is. among_place sig axioms f a x is;
}

equations_found : (sig : Signature) (axioms : List AxiomDeclaration) (f : List ℕ) (kind : SymKind)
    → IsSignature sig → AreFew axioms → (es : List Equation) × AreEquationsOf sig axioms f kind es
equations_found sig axioms f kind sorted few = by_case (is_defined_kind kind) refl where
  all : AreListed (IsEquationAmong sig axioms f) equation_key axioms
  all =
      listed (IsEquationAmong sig axioms f) equation_key (equations_are_one sig axioms f) axioms few
      (λ a has. among_decided sig axioms f a sorted few)

  by_case : (b : Bool) → is_defined_kind kind ≡ b
      → (es : List Equation) × AreEquationsOf sig axioms f kind es
  by_case true e = (
    all.items,
    record {
      just =
          λ x. (λ has. (defined kind e, (all.just x).0 has), λ (k, some). (all.just x).1 some);
      in_order = all.in_order;
    },
  )
  by_case false e = (
    [],
    record {
      just =
          λ x. (
            λ has. absurd (contains_none x has),
            λ (k, some). absurd (false≢true (sym e ∙ ap is_defined_kind k)),
          );
      in_order = tt;
    },
  )

-- a symbol of the program, and its equations
record IsMade (sig : Signature) (axioms : List AxiomDeclaration) (declared : List ℕ × SymInfo) :
    Type 0 where
  pub made : List ℕ × SymInfo
  pub symbol : IsSymbolOf sig axioms declared made
  pub listed : List Equation
  pub equations : AreEquationsOf sig axioms made.0 made.1.kind listed

symbol_made : (sig : Signature) (axioms : List AxiomDeclaration) (marks : List Bool)
    (declared : List ℕ × SymInfo) → IsSignature sig → AreFew axioms → HasPairs sig axioms
    → MarksTerms sig axioms marks → IsMade sig axioms declared
symbol_made sig axioms marks declared sorted few pairs terms =
    let bad = unreadables_found sig axioms axioms declared.0 sorted few in
    let kind : SymKind = final_kind sig marks declared.1 bad.0 in
    let es = equations_found sig axioms declared.0 kind sorted few in record {
      made = (declared.0, record declared.1 { kind = kind });
      symbol = record {
        name = refl;
        kind = final_is sig axioms marks pairs terms declared.0 declared.1 bad.0 bad.1;
        params = refl;
        args = refl;
        result = refl;
        hook = refl;
        ac = refl;
      };
      listed = es.0;
      equations = es.1;
    }

abbrev Lists : Signature → List AxiomDeclaration → List ℕ × SymInfo → List Equation → Type 0
Lists sig axioms made es = AreEquationsOf sig axioms made.0 made.1.kind es

record AreMade (sig : Signature) (axioms : List AxiomDeclaration)
    (declared : List (List ℕ × SymInfo)) : Type 0 where
  pub made : List (List ℕ × SymInfo)
  pub symbols : AllZip (IsSymbolOf sig axioms) declared made
  pub lists : List (List Equation)
  pub equations : AllZip (Lists sig axioms) made lists

symbols_made : (sig : Signature) (axioms : List AxiomDeclaration)
    (declared : List (List ℕ × SymInfo)) → ((d : List ℕ × SymInfo) → IsMade sig axioms d)
    → AreMade sig axioms declared
symbols_made sig axioms [] each = record { made = []; symbols = tt; lists = []; equations = tt }
symbols_made sig axioms (d ∷ ds) each =
    let one = each d in
    let rest = symbols_made sig axioms ds each in
    record {
      made = one.made ∷ rest.made;
      symbols = (one.symbol, rest.symbols);
      lists = one.listed ∷ rest.lists;
      equations = (one.equations, rest.equations);
    }

some_same : {X : Type 0} (x y : X) → Some x ≡ Some y → x ≡ y
some_same x y e = cc

lists_long : (sig : Signature) (axioms : List AxiomDeclaration) (made : List (List ℕ × SymInfo))
    (lists : List (List Equation)) → AllZip (Lists sig axioms) made lists
    → length lists ≡ length made
lists_long sig axioms [] [] zip = refl
lists_long sig axioms [] (es ∷ lists) zip = absurd zip
lists_long sig axioms (m ∷ made) [] zip = absurd zip
lists_long sig axioms (m ∷ made) (es ∷ lists) zip = ap suc (lists_long sig axioms made lists zip.1)

list_at : (sig : Signature) (axioms : List AxiomDeclaration) (made : List (List ℕ × SymInfo))
    (lists : List (List Equation)) (n : ℕ) (m : List ℕ × SymInfo)
    → AllZip (Lists sig axioms) made lists → slice_get made n ≡ Some m
    → Lists sig axioms m (slice_index_or lists n [])
list_at sig axioms [] lists n m zip e = absurd (let never : ⊥ = cc in never)
list_at sig axioms (x ∷ made) [] n m zip e = absurd zip
list_at sig axioms (x ∷ made) (es ∷ lists) zero m zip e =
    subst (λ (y : List ℕ × SymInfo). Lists sig axioms y es) (some_same x m e) zip.0
list_at sig axioms (x ∷ made) (es ∷ lists) (suc n) m zip e =
    list_at sig axioms made lists n m zip.1 e

-- ---- the sort of the rules

top_found : (sig : Signature) (axioms : List AxiomDeclaration)
    → ((a : AxiomDeclaration) → Contains axioms a → (w : Rewriting) → axiom_class sig a ≡ rewrites w
    → (n : ℕ) × (sort_number sig.sorts w.sort ≡ Some n))
    → (top : Option ℕ) × IsTopOf sig axioms top
top_found sig [] each = (None, λ a has. absurd (contains_none a has))
top_found sig (a ∷ axioms) each =
    by_class (axiom_class sig a) refl
    (top_found sig axioms (λ b has. each b (contains_there a b axioms has)))
  where
    later : (k : AxiomClass) → axiom_class sig a ≡ k → ((w : Rewriting) → k ≡ rewrites w → ⊥)
        → (top : Option ℕ) × IsTopOf sig axioms top
        → (top : Option ℕ) × IsTopOf sig (a ∷ axioms) top
    later k class other (None, none) = (
      None,
      λ b has w is. elim (contains_cases a b axioms has) [
        | inl same ↦ other w (sym class ∙ ap (axiom_class sig) same ∙ is)
        | inr there ↦ none b there w is
      ],
    )
    later k class other (Some n, found) =
        (Some n, (found.0, contains_there a found.0 axioms found.1, found.2))

    by_class : (k : AxiomClass) → axiom_class sig a ≡ k → (top : Option ℕ) × IsTopOf sig axioms top
        → (top : Option ℕ) × IsTopOf sig (a ∷ axioms) top
    by_class (refused n) class rest =
        later (refused n) class (λ w h. let never : ⊥ = cc in never) rest
    by_class orders_sorts class rest =
        later orders_sorts class (λ w h. let never : ⊥ = cc in never) rest
    by_class (rewrites w) class rest =
        let number = each a (contains_here a axioms) w class in
        (Some number.0, (a, contains_here a axioms, (w, class, number.1)))
    by_class (equates e) class rest =
        later (equates e) class (λ w h. let never : ⊥ = cc in never) rest
    by_class passed_over class rest =
        later passed_over class (λ w h. let never : ⊥ = cc in never) rest

-- ---- the program

rules_are_one : (sig : Signature) → AreOne (MeansRule sig) (λ (r : RewriteRule). r.place)
rules_are_one sig = record {
  one = λ a x y is other. rule_one sig a x y is other;
  there = λ a x is. is.place;
}

program_found : (bytes : List ℕ) (d : DefinitionTree) (sig : Signature) → ReadsDefinition bytes d
    → AreFew (axioms_of d) → FirstOfSignature d None → IsSignatureOf d sig
    → FirstOfAxioms sig (axioms_of d) None
    → (theory : RewriteTheory) × ((top : Option ℕ) × IsAccepted bytes theory top)
program_found bytes d sig reads few clear is none =
    let axioms : List AxiomDeclaration = axioms_of d in
    let sorted : IsSignature sig = faultless_signature d sig clear is in
    let rule : (a : AxiomDeclaration) → Contains axioms a → (w : Rewriting) → axiom_class sig a ≡
    rewrites w → (first : Option SortTree) × FirstOfRule sig first a w None =
    λ a has w class. rule_clear sig None axioms a w none has class in
    let rules : AreListed (MeansRule sig) rule_key axioms =
    listed (MeansRule sig) rule_key (rules_are_one sig) axioms few
    (λ a has. rule_decided sig a sorted (rule a has)) in
    let marks = marks_found sig axioms sorted in
    let all : AreMade sig axioms sig.symbols =
    symbols_made sig axioms sig.symbols
    (λ declared. symbol_made sig axioms marks.0 declared sorted few is.subsorts marks.1) in
    let theory : RewriteTheory =
    record {
      sig = record { sorts = sig.sorts; symbols = all.made; subsorts = sig.subsorts };
      rules = rules.items;
      equations = all.lists;
    } in
    let program : IsProgramUnder sig axioms theory = record {
      sorts = refl;
      symbols = all.symbols;
      subsorts = refl;
      rules = record { just = rules.just; in_order = rules.in_order };
      listed = lists_long sig axioms all.made all.lists all.equations;
      equations =
          λ n f info there. list_at sig axioms all.made all.lists n (f, info) all.equations there;
    } in
    let top =
    top_found sig axioms (λ a has w class.
    let found = rule a has w class in sort_declared sig found.0 a w found.1) in (
      theory,
      (
        top.0,
        record {
          definition = d;
          spelled = reads;
          declared = sig;
          signature = is;
          no_fault = clear;
          no_axiom_fault = none;
          program = program;
          sort = top_any sig theory.sig axioms top.0 refl top.1;
        },
      ),
    )

-- ---- texts

-- the text is accepted or refused
abbrev IsDecided : List ℕ → Type 0
IsDecided bytes = ((theory : RewriteTheory) × ((top : Option ℕ) × IsAccepted bytes theory top))
    ⊎ ((f : Fault) × IsRefused bytes f)

by_signature : (bytes : List ℕ) (d : DefinitionTree) (sig : Signature) → ReadsDefinition bytes d
    → AreFew (axioms_of d) → FirstOfSignature d None → IsSignatureOf d sig → IsDecided bytes
by_signature bytes d sig reads few clear is =
    by_fault (axiom_fault_is_found sig (axioms_of d))
  where
    by_fault : (r : Option Fault) × FirstOfAxioms sig (axioms_of d) r → IsDecided bytes
    by_fault (None, none) = inl (program_found bytes d sig reads few clear is none)
    by_fault (Some f, first) =
        inr (f, definition_refused bytes d f reads (axioms_refused d sig f clear is first))

pub each_text_is_decided : Global → TokensCover → EachTextIsDecided
each_text_is_decided alloc law bytes short = by_text (definition_is_found bytes) where
  by_fault : (d : DefinitionTree) → ReadsDefinition bytes d
      → (r : Option Fault) × FirstOfSignature d r → IsDecided bytes
  by_fault d reads (None, clear) =
      let declared = signature_found alloc bytes d short reads clear in
      by_signature bytes d declared.0 reads (axioms_few law bytes d short reads) clear declared.1
  by_fault d reads (Some f, first) =
      inr (f, definition_refused bytes d f reads (signature_refused d f first))

  by_text : ((d : DefinitionTree) × ReadsDefinition bytes d)
      ⊎ ((f : Fault) × HasTextFault IsDefinition bytes f) → IsDecided bytes
  by_text (inl (d, reads)) = by_fault d reads (declaration_fault_is_found d)
  by_text (inr (f, h)) = inr (f, text_refused bytes f h)
