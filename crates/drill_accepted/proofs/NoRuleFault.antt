-- The rules of a drill have no fault.
use Rattle.std.proofs.Common.{◌≡◌, ◌<◌, ◌+◌, ◌^◌, ℕ, zero, suc, true, false, not, ◌&&◌, List, []}
use Rattle.std.proofs.Common.{◌∷◌, ◌++◌, length, Option, Some, None, refl, ap, sym, ◌∙◌, subst}
use Rattle.std.proofs.Common.{arith, eq-eqb, codes}
use Rattle.std.specs.Prelude.{ℤ, pos, nat_lt}
use Rattle.std.specs.Fmt.{decimal}
use Rattle.kore_text.specs.Trees.{SortTree, PatternTree, value_written, AxiomDeclaration}
use Rattle.rule_core.specs.Sorting.{sort_at}
use Rattle.rule_core.specs.declared.signature.Signature.{Signature}
use Rattle.rule_core.specs.declared.signature.SortInfo.{SortInfo}
use Rattle.rule_core.specs.declared.signature.SymInfo.{SymInfo}
use Rattle.rule_core.specs.declared.signature.SymKind.{SymKind}
use Rattle.rule_core.specs.declared.signature.SymKind.TheVariants.{Ctor, Equations}
use Rattle.rule_core.specs.declared.signature.SortRef.{SortRef}
use Rattle.kore_sig.specs.FirstFault.{Fault}
use Rattle.kore_check.specs.Folds.{Unfolded, applied_symbol, Unfoldeds, no_more, and_more, count}
use Rattle.kore_check.specs.Folds.{unfolded_byte, unfolded_height, unfolded}
use Rattle.kore_check.specs.PatternSorts.{symbol_named, result_sort, sort_of_pattern, places_of}
use Rattle.kore_check.specs.PatternFaults.{clash_faults, symbol_faults, pattern_faults}
use Rattle.kore_check.specs.PatternFaults.{argument_faults, all_faults}
use Rattle.rule_core.specs.KindTests.{has_no_kind, is_injection, is_function_kind}
use Rattle.rule_core.specs.Evaluation.{most_height}
use Rattle.kore_check.specs.ValueTexts.{integer_of_text}
use Rattle.kore_axioms.specs.AxiomClasses.{axiom_class}
use Rattle.kore_axioms.specs.RuleFaults.{faults_at_sort, sorted_faults, use_faults, FirstOfParts}
use Rattle.kore_axioms.specs.RuleForms.{form_faults}
use Rattle.kore_axioms.specs.RuleParts.{RuleParts}
use Rattle.kore_axioms.specs.Uses.{is_plain_function, is_plain_function_with, is_ac_symbol}
use Rattle.kore_axioms.specs.Uses.{is_ac_with}
use Rattle.kore_shapes.specs.SameSorts.{same_sort}
use Rattle.kore_shapes.specs.Shapes.{Rewriting, beside, tests}
use Rattle.kore_rules.specs.FirstRefusal.{FirstOfClass, first_sort, FirstOfAxioms}
use Rattle.drill_accepted.proofs.Decimals.{decimal-value}
use Rattle.drill_accepted.proofs.Parts.{numbered_name}
use Rattle.drill_accepted.proofs.DrillTrees.{Places, applied_to, step_at, sum_at, int_at, bool_at}
use Rattle.drill_accepted.proofs.DrillTrees.{state_at, left_tree, tested_tree, condition_tree}
use Rattle.drill_accepted.proofs.DrillTrees.{right_tree, top_tree, before_tree, after_tree}
use Rattle.drill_accepted.proofs.DrillTrees.{rule_axiom}
use Rattle.drill_accepted.proofs.DrillDeclared.{Layout, rules_of, drill_sorts}
use Rattle.drill_accepted.proofs.DrillSymbols.{sort_no, HasSymbol, HasStates, HasFunctions}
use Rattle.drill_accepted.proofs.NoDeclarationFault.{none-of, state_after, after-both, none-in-both}

-- ---- patterns

-- the pattern has no fault, and the sort with this number
pub record IsFine (sig : Signature) (p : Unfolded) (s : ℕ) : Type 0 where
  pub faultless : pattern_faults sig p ≡ []
  pub sorted : sort_of_pattern sig p ≡ Some s

none-of-three : {X : Type 0} (xs ys zs : List X) → xs ≡ [] → ys ≡ [] → zs ≡ []
    → xs ++ (ys ++ zs) ≡ []
none-of-three xs ys zs e f g = rw (e, f, g) refl

none-of-two : {X : Type 0} (xs ys : List X) → xs ≡ [] → ys ≡ [] → xs ++ ys ≡ []
none-of-two xs ys e f = rw (e, f) refl

no-clash : (at s : ℕ) → clash_faults at (Some s) (Some s) ≡ []
no-clash at s = rw (eq-eqb s s refl) refl

clash-fine : (sig : Signature) (p : Unfolded) (s : ℕ) → IsFine sig p s
    → clash_faults (unfolded_byte p) (sort_of_pattern sig p) (Some s) ≡ []
clash-fine sig p s fine =
    ap (λ (o : Option ℕ). clash_faults (unfolded_byte p) o (Some s)) fine.sorted
    ∙ no-clash (unfolded_byte p) s

two-fine : (sig : Signature) (p q : Unfolded) (s t : ℕ) → IsFine sig p s → IsFine sig q t
    → argument_faults sig [] (sort_no s ∷ sort_no t ∷ []) (and_more p (and_more q no_more)) ≡ []
two-fine sig p q s t f g =
    none-of-three (pattern_faults sig p) _ _ f.faultless (clash-fine sig p s f)
    (none-of-three (pattern_faults sig q) _ _ g.faultless (clash-fine sig q t g) refl)

-- a symbol that is there has no fault at so many arguments
symbol-fine : (sig : Signature) (byte n : ℕ) (info : SymInfo) → info.params ≡ 0
    → length info.args.items ≡ n
    → is_injection info.kind ≡ false → has_no_kind info.kind ≡ false
    → symbol_faults sig byte (Some info) [] n ≡ []
symbol-fine sig byte n info params few not_injection some_kind =
    rw (params, few, not_injection, some_kind, eq-eqb n n refl) refl

-- a symbol with these sorts, applied to patterns without a fault
pub applied-fine : (sig : Signature) (at byte s : ℕ) (name : List ℕ) (kind : SymKind)
    (args : List SortRef) (ps : Unfoldeds) (n : ℕ)
    → HasSymbol sig name kind args (sort_no s) → is_injection kind ≡ false
    → has_no_kind kind ≡ false → length args ≡ n → count ps ≡ n
    → argument_faults sig [] args ps ≡ [] → IsFine sig (applied_symbol at byte name [] ps) s
applied-fine sig at byte s name kind args ps n has not_injection some_kind few as_many clear =
    record {
      faultless = none-of-two (symbol_faults sig byte (symbol_named sig name) [] (count ps))
          (argument_faults sig [] (places_of (symbol_named sig name)) ps)
          (ap (λ (o : Option SymInfo). symbol_faults sig byte o [] (count ps)) has.named
          ∙ ap (λ (m : ℕ). symbol_faults sig byte (Some has.info) [] m) as_many
          ∙ symbol-fine sig byte n has.info has.params (ap length has.args_are ∙ few)
          (ap is_injection has.kind_is ∙ not_injection) (ap has_no_kind has.kind_is ∙ some_kind))
          (ap (λ (o : Option SymInfo). argument_faults sig [] (places_of o) ps) has.named
          ∙ ap (λ (refs : List SortRef). argument_faults sig [] refs ps) has.args_are ∙ clear);
      sorted = ap (λ (o : Option SymInfo). result_sort o [] (Some [])) has.named
          ∙ result-is has.info has.params has.result_is;
    } where
      result-is : (info : SymInfo) → info.params ≡ 0 → info.result ≡ sort_no s
          → result_sort (Some info) [] (Some []) ≡ Some s
      result-is info params result = rw params (ap (sort_at []) result)

-- ---- the patterns of a rule

-- a signature with the sorts of a drill
abbrev pub with_sorts : List (List ℕ × SymInfo) → List (ℕ × ℕ) → Signature
with_sorts symbols subsorts = record { sorts = drill_sorts; symbols = symbols; subsorts = subsorts }

pub sorts-replaced : (sig : Signature) → sig.sorts ≡ drill_sorts
    → sig ≡ with_sorts sig.symbols sig.subsorts
sorts-replaced sig e =
    ap (λ (sorts : List (List ℕ × SortInfo)). record
    { sorts = sorts; symbols = sig.symbols; subsorts = sig.subsorts }) e

pub step-fine : (sig : Signature) (m i at : ℕ) → HasStates m sig → i < m
    → IsFine sig (unfolded (step_at i at)) 2
step-fine sig m i at has less =
    applied-fine sig at at 2 (numbered_name i) Ctor [] no_more 0
    (has.step i less) refl refl refl refl refl

sum-fine : (symbols : List (List ℕ × SymInfo)) (subsorts : List (ℕ × ℕ)) (at byte : ℕ)
    → IsFine (with_sorts symbols subsorts) (unfolded (sum_at at byte)) 0
sum-fine symbols subsorts at byte = record { faultless = refl; sorted = refl }

-- a string that is a whole number, as a value
pub number-fine : (symbols : List (List ℕ × SymInfo)) (subsorts : List (ℕ × ℕ)) (at byte there : ℕ)
    (text : List ℕ) (z : ℤ)
    → integer_of_text text ≡ Some z → IsFine (with_sorts symbols subsorts)
    (unfolded (value_written at (int_at byte) text there)) 0
number-fine symbols subsorts at byte there text z e =
    record { faultless = rw e refl; sorted = refl }

-- a symbol with two arguments
pub applied-to-fine : (sig : Signature) (at s t u : ℕ) (name : List ℕ) (kind : SymKind)
    (a b : PatternTree)
    → HasSymbol sig name kind (sort_no s ∷ sort_no t ∷ []) (sort_no u) → is_injection kind ≡ false
    → has_no_kind kind ≡ false
    → IsFine sig (unfolded a) s → IsFine sig (unfolded b) t
    → IsFine sig (unfolded (applied_to at name a b)) u
applied-to-fine sig at s t u name kind a b has not_injection some_kind f g =
    applied-fine sig at at u name kind (sort_no s ∷ sort_no t ∷ [])
    (and_more (unfolded a) (and_more (unfolded b) no_more)) 2
    has not_injection some_kind refl refl (two-fine sig (unfolded a) (unfolded b) s t f g)

-- the sides of a rule, and what its condition tests
record SidesAreFine (sig : Signature) (i : ℕ) (q : Places) : Type 0 where
  pub left : IsFine sig (unfolded (left_tree i q)) 3
  pub tested : IsFine sig (unfolded (tested_tree q)) 1
  pub right : IsFine sig (unfolded (right_tree i q)) 3

sides-fine : (symbols : List (List ℕ × SymInfo)) (subsorts : List (ℕ × ℕ)) (m i : ℕ) (q : Places)
    → HasStates m (with_sorts symbols subsorts)
    → HasFunctions (with_sorts symbols subsorts) → i + 1 < m → i < 2 ^ 64
    → SidesAreFine (with_sorts symbols subsorts) i q
sides-fine symbols subsorts m i q has functions less small =
    let sig : Signature = with_sorts symbols subsorts in record {
      left = applied-to-fine sig (q 17) 2 0 3 (codes "st") Ctor (step_at i (q 21))
          (sum_at (q 27) (q 29)) has.state refl refl
          (step-fine sig m i (q 21) has (omega (arith, less)))
          (sum-fine symbols subsorts (q 27) (q 29));
      tested = applied-to-fine sig (q 45) 0 0 1 (codes "ge") Equations (sum_at (q 49) (q 51))
          (value_written (q 55) (int_at (q 57)) (codes "0") (q 62)) functions.ge refl refl
          (sum-fine symbols subsorts (q 49) (q 51))
          (number-fine symbols subsorts (q 55) (q 57) (q 62) (codes "0") (pos 0) refl);
      right = applied-to-fine sig (q 85) 2 0 3 (codes "st") Ctor (step_at (i + 1) (q 89))
          (applied_to (q 95) (codes "add") (sum_at (q 99) (q 101))
          (value_written (q 105) (int_at (q 107)) (decimal i) (q 112))) has.state refl refl
          (step-fine sig m (i + 1) (q 89) has less)
          (applied-to-fine sig (q 95) 0 0 0 (codes "add") Equations (sum_at (q 99) (q 101))
          (value_written (q 105) (int_at (q 107)) (decimal i) (q 112)) functions.add refl refl
          (sum-fine symbols subsorts (q 99) (q 101))
          (number-fine symbols subsorts (q 105) (q 107) (q 112) (decimal i) (pos i)
          (decimal-value i small)));
    }

-- ---- the stages of a rule

abbrev pub drill_rewriting : ℕ → Places → Rewriting
drill_rewriting i q =
    record { sort = state_at (q 5); before = before_tree i q; after = after_tree i q }

abbrev drill_rule_parts : ℕ → Places → RuleParts
drill_rule_parts i q = record {
  before = beside (condition_tree q) (left_tree i q);
  after = beside (top_tree q) (right_tree i q);
  condition = tests (bool_at (q 36)) (tested_tree q);
}

no-form-fault : (i : ℕ) (q : Places) → form_faults (rule_axiom i q) (drill_rule_parts i q) ≡ []
no-form-fault i q = refl

at-sort : (sig : Signature) (p : Unfolded) (s : ℕ) → IsFine sig p s
    → nat_lt most_height (unfolded_height p) ≡ false → faults_at_sort sig (Some s) p ≡ []
at-sort sig p s fine low =
    none-of-two (all_faults sig p) _ (none-of-two _ (pattern_faults sig p)
    (rw low refl) fine.faultless) (clash-fine sig p s fine)

no-sort-fault : (symbols : List (List ℕ × SymInfo)) (subsorts : List (ℕ × ℕ)) (i : ℕ) (q : Places)
    → SidesAreFine (with_sorts symbols subsorts) i q
    → sorted_faults (with_sorts symbols subsorts) (state_at (q 5)) (drill_rule_parts i q) ≡ []
no-sort-fault symbols subsorts i q fine =
    let sig : Signature = with_sorts symbols subsorts in
    let left : faults_at_sort sig (Some 3) (unfolded (left_tree i q)) ≡ [] =
    at-sort sig (unfolded (left_tree i q)) 3 fine.left refl in
    let tested : faults_at_sort sig (Some 1) (unfolded (tested_tree q)) ≡ [] =
    at-sort sig (unfolded (tested_tree q)) 1 fine.tested refl in
    let right : faults_at_sort sig (Some 3) (unfolded (right_tree i q)) ≡ [] =
    at-sort sig (unfolded (right_tree i q)) 3 fine.right refl in
    none-of-three (faults_at_sort sig (Some 3) (unfolded (left_tree i q)))
    (faults_at_sort sig (Some 1) (unfolded (tested_tree q))) _ left tested
    (none-of-two (faults_at_sort sig (Some 3) (unfolded (right_tree i q))) [] right refl)

constructor-plain : (sig : Signature) (name : List ℕ) (args : List SortRef) (result : SortRef)
    → HasSymbol sig name Ctor args result
    → is_plain_function sig name ≡ false
constructor-plain sig name args result has =
    ap is_plain_function_with has.named
    ∙ ap (λ (k : SymKind). is_function_kind k && not has.info.ac) has.kind_is

not-ac : (sig : Signature) (name : List ℕ) (kind : SymKind) (args : List SortRef) (result : SortRef)
    → HasSymbol sig name kind args result
    → is_ac_symbol sig name ≡ false
not-ac sig name kind args result has = ap is_ac_with has.named ∙ has.ac

-- if a rule was before, the sort of the first one is that of the states
abbrev IsOfStates : Option SortTree → Type 0
IsOfStates None = Unit {0}
IsOfStates (Some s) = (at : ℕ) → same_sort s (state_at at) ≡ true

no-use-fault : (sig : Signature) (m i : ℕ) (q : Places) (first : Option SortTree) → HasStates m sig
    → i < m → IsOfStates first
    → use_faults sig first (q 0) (state_at (q 5)) (drill_rule_parts i q) ≡ []
no-use-fault sig m i q None has less of =
    let step = has.step i less in
    rw (
      constructor-plain sig (codes "st") _ _ has.state,
      constructor-plain sig (numbered_name i) _ _ step,
      not-ac sig (codes "st") _ _ _ has.state,
      not-ac sig (numbered_name i) _ _ _ step,
    ) refl
no-use-fault sig m i q (Some s) has less of =
    let step = has.step i less in
    rw (
      constructor-plain sig (codes "st") _ _ has.state,
      constructor-plain sig (numbered_name i) _ _ step,
      not-ac sig (codes "st") _ _ _ has.state,
      not-ac sig (numbered_name i) _ _ _ step,
      of (q 5),
    ) refl

no-fault-at : (symbols : List (List ℕ × SymInfo)) (subsorts : List (ℕ × ℕ)) (m i : ℕ) (q : Places)
    (first : Option SortTree)
    → HasStates m (with_sorts symbols subsorts) → HasFunctions (with_sorts symbols subsorts)
    → i + 1 < m → i < 2 ^ 64 → IsOfStates first
    → FirstOfParts (with_sorts symbols subsorts) first (rule_axiom i q) (state_at (q 5))
    (drill_rule_parts i q) None
no-fault-at symbols subsorts m i q first has functions less small of =
    let sig : Signature = with_sorts symbols subsorts in
    let fine : SidesAreFine sig i q =
    sides-fine symbols subsorts m i q has functions less small in (
      λ f. none-of (form_faults (rule_axiom i q) (drill_rule_parts i q)) (no-form-fault i q),
      (
        λ f. none-of (sorted_faults sig (state_at (q 5)) (drill_rule_parts i q))
            (no-sort-fault symbols subsorts i q fine),
        λ f. none-of (use_faults sig first (q 0) (state_at (q 5)) (drill_rule_parts i q))
            (no-use-fault sig m i q first has (omega (arith, less)) of),
      ),
    )

-- ---- all rules

abbrev ClassClear : Signature → Option SortTree → AxiomDeclaration → Option Fault → Type 0
ClassClear sig first a = FirstOfClass sig first a (axiom_class sig a)

abbrev sort_after : Signature → Option SortTree → AxiomDeclaration → Option SortTree
sort_after sig first a = first_sort first (axiom_class sig a)

sort-kept : (sig : Signature) (first : Option SortTree) (i : ℕ) (q : Places) → IsOfStates first
    → IsOfStates (sort_after sig first (rule_axiom i q))
sort-kept sig None i q of = λ at. refl
sort-kept sig (Some s) i q of = of

sorts-kept : (sig : Signature) (r : Layout) (n : ℕ)
    → IsOfStates (state_after (sort_after sig) None (rules_of r n))
sorts-kept sig r zero = tt
sorts-kept sig r (suc n) =
    subst IsOfStates (sym (after-both (sort_after sig) None (rules_of r n)
    (rule_axiom n (r n) ∷ [])))
    (sort-kept sig (state_after (sort_after sig) None (rules_of r n)) n (r n) (sorts-kept sig r n))

rules-clear : (symbols : List (List ℕ × SymInfo)) (subsorts : List (ℕ × ℕ)) (m : ℕ) (r : Layout)
    (n : ℕ) → HasStates m (with_sorts symbols subsorts)
    → HasFunctions (with_sorts symbols subsorts) → n < m → n < 2 ^ 64
    → FirstOfAxioms (with_sorts symbols subsorts) (rules_of r n) None
rules-clear symbols subsorts m r zero has functions less small = refl
rules-clear symbols subsorts m r (suc n) has functions less small =
    let sig : Signature = with_sorts symbols subsorts in
    let first : Option SortTree = state_after (sort_after sig) None (rules_of r n) in
    none-in-both (ClassClear sig) (sort_after sig) None (rules_of r n) (rule_axiom n (r n) ∷ [])
    (rules-clear symbols subsorts m r n has functions (omega (arith, less))
    (omega (arith, small))) (
      no-fault-at symbols subsorts m n (r n) first has functions (omega (arith, less))
          (omega (arith, small)) (sorts-kept sig r n),
      refl,
    )

pub no-rule-fault : (m n : ℕ) (r : Layout) (sig : Signature) → HasStates m sig → HasFunctions sig
    → n < m → n < 2 ^ 64
    → FirstOfAxioms sig (rules_of r n) None
no-rule-fault m n r sig has functions less small =
    let same : sig ≡ with_sorts sig.symbols sig.subsorts = sorts-replaced sig has.sorts in
    subst (λ (s : Signature). FirstOfAxioms s (rules_of r n) None) (sym same)
    (rules-clear sig.symbols sig.subsorts m r n (subst (HasStates m) same has)
    (subst HasFunctions same functions) less small)
