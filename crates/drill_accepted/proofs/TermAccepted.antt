-- The term of a drill is accepted, as a term of its definition.
use Rattle.std.proofs.Common.{◌≡◌, ◌<◌, ◌≤◌, ◌+◌, ℕ, zero, suc, List, [], ◌∷◌, Option, Some, None}
use Rattle.std.proofs.Common.{refl, ap, sym, ◌∙◌, subst, arith, inl, inr, codes}
use Rattle.std.specs.Prelude.{All, slice_get, pos}
use Rattle.std.specs.List.{AllZip}
use Rattle.std.proofs.lemmas.Fmt.{decimal_digit}
use Rattle.std.proofs.lemmas.List.Elements.{All-nil, All-push, All-contains}
use Rattle.kore_text.specs.Trees.{PatternTree, symbol_applied, value_written, no_sorts, no_patterns}
use Rattle.kore_text.specs.Trees.{AxiomDeclaration, DefinitionTree}
use Rattle.rule_core.specs.DistinctNames.{names_of, AreDistinct}
use Rattle.rule_core.specs.Theories.{RewriteTheory}
use Rattle.rule_core.specs.declared.signature.Signature.{Signature}
use Rattle.rule_core.specs.declared.signature.SymInfo.{SymInfo}
use Rattle.rule_core.specs.declared.signature.SymKind.{SymKind}
use Rattle.rule_core.specs.declared.signature.SymKind.TheVariants.{Ctor}
use Rattle.rule_core.specs.declared.signature.SortRef.{SortRef}
use Rattle.kore_sig.specs.Declarations.{axioms_of}
use Rattle.kore_sig.specs.FirstFault.{Fault, unless}
use Rattle.kore_sig.specs.Signatures.{IsSignatureOf}
use Rattle.kore_sig.specs.SortReferences.{sort_number}
use Rattle.kore_check.specs.Folds.{no_more, unfolded}
use Rattle.kore_check.specs.PatternFaults.{all_faults}
use Rattle.kore_axioms.specs.AxiomClasses.{rewrites, axiom_class}
use Rattle.kore_equations.specs.ReadableEquations.{is_one_sort}
use Rattle.kore_shapes.specs.Shapes.{Rewriting}
use Rattle.kore_rules.specs.Acceptance.{IsAccepted}
use Rattle.kore_rules.specs.AcceptanceLaws.{EachTermIsDecided, DefinitionIsOne, PatternIsOne}
use Rattle.kore_rules.specs.AcceptanceLaws.{TermFaultIsOne, SpelledPatternIsFaultless}
use Rattle.kore_rules.specs.FirstRefusal.{start_faults, FirstOfTerm}
use Rattle.kore_rules.specs.GroundTerms.{ground_faults}
use Rattle.kore_rules.specs.Programs.{HasKind, as_declared, hooked_kind, without_hook}
use Rattle.kore_rules.specs.Programs.{by_unreadable, equations_kind, IsSymbolOf, IsProgramUnder}
use Rattle.kore_rules.specs.Programs.{IsTopOf}
use Rattle.kore_rules.proofs.AcceptedPrograms.{accepted_well_sorted}
use Rattle.kore_rules.proofs.DeclaredKinds.{named_by_number}
use Rattle.drill_gen.specs.Drill.{drill_definition, drill_term}
use Rattle.drill_accepted.specs.DrillAcceptance.{DrillTermIsAccepted, DrillTermIsNotRefused}
use Rattle.drill_accepted.proofs.Parts.{numbered_name}
use Rattle.drill_accepted.proofs.DrillTrees.{Places, int_at, state_at, term_tree, rule_axiom}
use Rattle.drill_accepted.proofs.DrillDeclared.{Layout, rules_of, drill_sorts, axioms-are}
use Rattle.drill_accepted.proofs.DrillSymbols.{sort_no, HasSymbol, HasStates, drill-states}
use Rattle.drill_accepted.proofs.DrillSymbols.{zipped-at}
use Rattle.drill_accepted.proofs.NoDeclarationFault.{none-of}
use Rattle.drill_accepted.proofs.NoRuleFault.{IsFine, drill_rewriting, with_sorts, sorts-replaced}
use Rattle.drill_accepted.proofs.NoRuleFault.{applied-fine, applied-to-fine, number-fine}
use Rattle.drill_accepted.proofs.DefinitionAccepted.{spelled_tree, drill-spelled}
use Rattle.drill_accepted.proofs.Spelled.{term_places, term-spelled}

-- ---- the symbols of the program

-- a constructor stays one
constructor-kept : (sig : Signature) (axioms : List AxiomDeclaration) (f : List ℕ) (info : SymInfo)
    (kind : SymKind) → HasKind sig axioms f info kind
    → info.kind ≡ Ctor → kind ≡ Ctor
constructor-kept sig axioms f info kind (as_declared other) e = e
constructor-kept sig axioms f info kind (hooked_kind is h fits) e = let no : ⊥ = cc in absurd no
constructor-kept sig axioms f info kind (without_hook is h fits) e = let no : ⊥ = cc in absurd no
constructor-kept sig axioms f info kind (by_unreadable is h a u) e = let no : ⊥ = cc in absurd no
constructor-kept sig axioms f info kind (equations_kind is h u) e = let no : ⊥ = cc in absurd no

names-kept : (sig : Signature) (axioms : List AxiomDeclaration) (xs ys : List (List ℕ × SymInfo))
    → AllZip (IsSymbolOf sig axioms) xs ys
    → names_of ys ≡ names_of xs
names-kept sig axioms [] [] zipped = refl
names-kept sig axioms [] (y ∷ ys) zipped = absurd zipped
names-kept sig axioms (x ∷ xs) [] zipped = absurd zipped
names-kept sig axioms (x ∷ xs) (y ∷ ys) zipped =
    ap (λ (n : List ℕ). n ∷ names_of ys) zipped.0.name
    ∙ ap (λ (ns : List (List ℕ)). x.0 ∷ ns) (names-kept sig axioms xs ys zipped.1)

-- a constructor is in the program as it is declared
symbol-kept : (sig made : Signature) (axioms : List AxiomDeclaration) (name : List ℕ)
    (args : List SortRef) (result : SortRef)
    → AllZip (IsSymbolOf sig axioms) sig.symbols made.symbols → AreDistinct (names_of made.symbols)
    → HasSymbol sig name Ctor args result
    → HasSymbol made name Ctor args result
symbol-kept sig made axioms name args result zipped distinct has =
    let at = zipped-at (IsSymbolOf sig axioms) sig.symbols made.symbols has.number
    (name, has.info) zipped has.there in
    let there : slice_get made.symbols has.number ≡ Some (name, at.0.1) =
    at.1 ∙ ap (λ (n : List ℕ). Some (n, at.0.1)) at.2.name in record {
      number = has.number;
      info = at.0.1;
      there = there;
      named = named_by_number made has.number name at.0.1 distinct there;
      kind_is = constructor-kept sig axioms name has.info at.0.1.kind at.2.kind has.kind_is;
      params = at.2.params ∙ has.params;
      args_are = at.2.args ∙ has.args_are;
      result_is = at.2.result ∙ has.result_is;
      ac = at.2.ac ∙ has.ac;
    }

states-kept : (m : ℕ) (sig : Signature) (axioms : List AxiomDeclaration) (theory : RewriteTheory)
    → HasStates m sig
    → IsProgramUnder sig axioms theory → HasStates m theory.sig
states-kept m sig axioms theory has program =
    let distinct : AreDistinct (names_of theory.sig.symbols) =
    subst AreDistinct (sym (names-kept sig axioms sig.symbols theory.sig.symbols program.symbols))
    has.distinct in record {
      sorts = program.sorts ∙ has.sorts;
      distinct = distinct;
      state = symbol-kept sig theory.sig axioms _ _ _ program.symbols distinct has.state;
      step = λ i less. symbol-kept sig theory.sig axioms _ _ _ program.symbols distinct
          (has.step i less);
    }

-- ---- the sort of the rules

abbrev IsDrillRule : AxiomDeclaration → Type 0
IsDrillRule a = (i : ℕ) × (q : Places) × (a ≡ rule_axiom i q)

all-rules : (r : Layout) (n : ℕ) → All IsDrillRule (rules_of r n)
all-rules r zero = All-nil IsDrillRule
all-rules r (suc n) = All-push IsDrillRule (rules_of r n) (rule_axiom n (r n)) (all-rules r n)
    (n, r n, refl)

top-is : (sig : Signature) (r : Layout) (n s : ℕ) → sig.sorts ≡ drill_sorts
    → IsTopOf sig (rules_of r n) (Some s) → s ≡ 3
top-is sig r n s sorts (a, has, (w, class, number)) =
    let rule : IsDrillRule a = All-contains IsDrillRule (rules_of r n) a (all-rules r n) has in
    let same : rewrites w ≡ rewrites (drill_rewriting rule.0 rule.1) = sym class
    ∙ ap (axiom_class sig) rule.2 in
    let shape : w ≡ drill_rewriting rule.0 rule.1 = cc in
    let three : Some 3 ≡ Some s =
    sym (ap (λ (x : Rewriting). sort_number sig.sorts x.sort) shape
    ∙ ap (λ es. sort_number es (state_at (rule.1 5))) sorts) ∙ number in cc

-- ---- the term

-- the symbol of the first step, by the name that the term has for it
first-step : (m : ℕ) (sig : Signature) → 0 < m → HasStates m sig
    → HasSymbol sig (codes "c0") Ctor [] (sort_no 2)
first-step m sig some has =
    let name : numbered_name 0 ≡ codes "c0" = ap (λ (ds : List ℕ). 99 ∷ ds)
    (decimal_digit 0 (omega arith)) in
    subst (λ (n : List ℕ). HasSymbol sig n Ctor [] (sort_no 2)) name (has.step 0 some)

term-fine-with : (symbols : List (List ℕ × SymInfo)) (subsorts : List (ℕ × ℕ)) (m : ℕ) (q : Places)
    → 0 < m → HasStates m (with_sorts symbols subsorts)
    → IsFine (with_sorts symbols subsorts) (unfolded (term_tree q)) 3
term-fine-with symbols subsorts m q some has =
    let sig : Signature = with_sorts symbols subsorts in
    applied-to-fine sig (q 0) 2 0 3 (codes "st") Ctor
    (symbol_applied (q 4) (codes "c0") no_sorts no_patterns)
    (value_written (q 10) (int_at (q 12)) (codes "0") (q 17)) has.state refl refl
    (applied-fine sig (q 4) (q 4) 2 (codes "c0") Ctor [] no_more 0
    (first-step m sig some has) refl refl refl refl refl)
    (number-fine symbols subsorts (q 10) (q 12) (q 17) (codes "0") (pos 0) refl)

term-fine : (m : ℕ) (sig : Signature) (q : Places) → 0 < m → HasStates m sig
    → IsFine sig (unfolded (term_tree q)) 3
term-fine m sig q some has =
    let same : sig ≡ with_sorts sig.symbols sig.subsorts = sorts-replaced sig has.sorts in
    subst (λ (s : Signature). IsFine s (unfolded (term_tree q)) 3) (sym same)
    (term-fine-with sig.symbols sig.subsorts m q some (subst (HasStates m) same has))

no-start-fault : (sig : Signature) (r : Layout) (n : ℕ) (top : Option ℕ) (q : Places)
    → sig.sorts ≡ drill_sorts → IsTopOf sig (rules_of r n) top
    → IsFine sig (unfolded (term_tree q)) 3 → start_faults sig top (unfolded (term_tree q)) ≡ []
no-start-fault sig r n None q sorts top fine = refl
no-start-fault sig r n (Some s) q sorts top fine =
    ap (λ (o : Option ℕ). unless (is_one_sort o (Some s)) 19 0) fine.sorted
    ∙ ap (λ (x : ℕ). unless (is_one_sort (Some 3) (Some x)) 19 0) (top-is sig r n s sorts top)

-- ---- the whole

no-term-fault : (m n : ℕ) (sig : Signature) (r : Layout) (top : Option ℕ) (q : Places) → 0 < m
    → HasStates m sig → IsTopOf sig (rules_of r n) top
    → FirstOfTerm sig top (term_tree q) None
no-term-fault m n sig r top q some has is_top =
    let fine : IsFine sig (unfolded (term_tree q)) 3 = term-fine m sig q some has in (
      λ f. none-of (ground_faults (term_tree q)) refl,
      (
        λ f. none-of (all_faults sig (unfolded (term_tree q))) fine.faultless,
        λ f. none-of (start_faults sig top (unfolded (term_tree q)))
            (no-start-fault sig r n top q has.sorts is_top fine),
      ),
    )

-- what is known of a program that the definition of a drill means
record IsDrillSignature (n : ℕ) (sig : Signature) (top : Option ℕ) : Type 0 where
  pub states : HasStates (n + 1) sig
  pub rules : Layout
  pub top_is : IsTopOf sig (rules_of rules n) top

signature-is : DefinitionIsOne → (n : ℕ) (theory : RewriteTheory) (top : Option ℕ) → n ≤ 1000
    → IsAccepted (drill_definition n) theory top
    → IsDrillSignature n theory.sig top
signature-is tree n theory top few accepted =
    let is = drill-spelled n few in
    let d : DefinitionTree = spelled_tree n is in
    let same : accepted.definition ≡ d = tree (drill_definition n) accepted.definition d
    accepted.spelled is.spelled in
    let same_axioms : axioms_of accepted.definition ≡ rules_of is.rules n = ap axioms_of same
    ∙ axioms-are is.first is.steps is.rules (n + 1) n in
    let signature : IsSignatureOf d accepted.declared =
    subst (λ (t : DefinitionTree). IsSignatureOf t accepted.declared) same accepted.signature in
    record {
      states = states-kept (n + 1) accepted.declared (axioms_of accepted.definition) theory
          (drill-states is.first is.steps is.rules (n + 1) n accepted.declared
          (omega (arith, few)) signature) accepted.program;
      rules = is.rules;
      top_is = subst (λ (axioms : List AxiomDeclaration). IsTopOf theory.sig axioms top) same_axioms
          accepted.sort;
    }

none-or-some : (f : Fault) → None ≡ Some f → ⊥
none-or-some f h = cc

pub term-unrefused : DefinitionIsOne → PatternIsOne → TermFaultIsOne → SpelledPatternIsFaultless
    → DrillTermIsNotRefused
term-unrefused tree pattern one spelled n theory top f few accepted (inl h) =
    spelled drill_term (term_tree term_places) f term-spelled h
term-unrefused tree pattern one spelled n theory top f few accepted (inr (p, reads, first)) =
    let is = signature-is tree n theory top few accepted in
    let same : p ≡ term_tree term_places =
    pattern drill_term p (term_tree term_places) reads term-spelled in
    none-or-some f (one theory.sig top (term_tree term_places) None (Some f)
    (no-term-fault (n + 1) n theory.sig is.rules top term_places (omega arith) is.states is.top_is)
    (subst (λ (t : PatternTree). FirstOfTerm theory.sig top t (Some f)) same first))

pub term-accepted : DrillTermIsNotRefused → EachTermIsDecided → DrillTermIsAccepted
term-accepted unrefused decided n theory top few accepted =
    let sorted = accepted_well_sorted (drill_definition n) theory top accepted in
    elim (decided theory.sig top drill_term sorted.signature) [
      | inl found ↦ found
      | inr refused ↦ absurd (unrefused n theory top refused.0 few accepted refused.1)
    ]
