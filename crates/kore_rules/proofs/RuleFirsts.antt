-- If no axiom has a fault, no rewrite rule has one, and all rules have the same sort.
use Rattle.std.proofs.Common.{◌≡◌, ℕ, zero, suc, Bool, true, false, ◌&&◌, List, [], ◌∷◌, Option}
use Rattle.std.proofs.Common.{Some, None, ◌⊎◌, ⊎_elim, inl, inr, refl, ap, sym, ◌∙◌, subst, arith}
use Rattle.std.specs.Prelude.{Contains, not, ◌||◌, codes, is_some, if◌then◌else◌}
use Rattle.std.proofs.lemmas.Bool.{false≢true}
use Rattle.kore_text.specs.Trees.{SortTree, PatternTree, AxiomDeclaration}
use Rattle.rule_core.specs.declared.signature.Signature.{Signature}
use Rattle.kore_sig.specs.FirstFault.{IsFirstOfSequence}
use Rattle.kore_sig.specs.SortReferences.{sort_number, sort_place}
use Rattle.kore_check.proofs.BuildLaws.{unless_empty}
use Rattle.kore_check.specs.PatternSorts.{symbol_named}
use Rattle.kore_shapes.specs.SameSorts.{same_sort}
use Rattle.kore_shapes.specs.Shapes.{Rewriting, rewriting}
use Rattle.kore_shapes.specs.Statements.{StatedEquation, stated_equation}
use Rattle.kore_axioms.specs.AxiomClasses.{AxiomClass, refused, orders_sorts, rewrites, equates}
use Rattle.kore_axioms.specs.AxiomClasses.{passed_over, axiom_class, class_of_pattern}
use Rattle.kore_axioms.specs.AxiomClasses.{class_of_statement, is_no_equation, takes_equations}
use Rattle.kore_axioms.specs.AxiomClasses.{states_pairs}
use Rattle.kore_sig.specs.Attributes.{has_attribute}
use Rattle.kore_axioms.specs.Conditions.{tested_pattern}
use Rattle.kore_axioms.specs.RuleFaults.{sorted_faults, use_faults, listed_pattern, is_bound}
use Rattle.kore_axioms.specs.RuleFaults.{differs_from, FirstOfRule}
use Rattle.kore_axioms.specs.RuleParts.{rule_parts, left_of, right_of}
use Rattle.kore_axioms.proofs.BoundLaws.{no_faults, same_number}
use Rattle.kore_axioms.proofs.FirstLaws.{none_by_byte}
use Rattle.kore_axioms.proofs.RuleLaws.{not_raised}
use Rattle.kore_rules.specs.FirstRefusal.{FirstOfClass, first_sort}

pub contains_cases : {X : Type 0} (xs : List X) (first x : X) → Contains (first ∷ xs) x
    → (first ≡ x) ⊎ Contains xs x
contains_cases xs first x (zero, lt, is) = inl is
contains_cases xs first x (suc k, lt, is) = inr (k, omega (arith, lt), is)

pub contains_here : {X : Type 0} (xs : List X) (x : X) → Contains (x ∷ xs) x
contains_here xs x = (0, omega arith, refl)

pub contains_later : {X : Type 0} (xs : List X) (first x : X) → Contains xs x
    → Contains (first ∷ xs) x
contains_later xs first x known = (suc known.0, omega (arith, known.1), known.2)

pub contains_none : {X : Type 0} (x : X) → Contains [] x → ⊥
contains_none x (k, lt, is) = omega (arith, lt)

-- the axioms have no fault, if the first rule before them has this sort
abbrev pub NoneFrom : Signature → Option SortTree → List AxiomDeclaration → Type 0
NoneFrom sig first axioms =
    IsFirstOfSequence
    (λ (s : Option SortTree) (a : AxiomDeclaration). FirstOfClass sig s a (axiom_class sig a))
    (λ (s : Option SortTree) (a : AxiomDeclaration). first_sort s (axiom_class sig a)) first axioms
    None

rule_here : (sig : Signature) (first : Option SortTree) (a : AxiomDeclaration) (c : AxiomClass)
    (w : Rewriting) → c ≡ rewrites w → FirstOfClass sig first a c None
    → FirstOfRule sig first a w None
rule_here sig first a c w e h = subst (λ (k : AxiomClass). FirstOfClass sig first a k None) e h

-- each rule has no fault
pub rule_clear : (sig : Signature) (first : Option SortTree) (axioms : List AxiomDeclaration)
    (a : AxiomDeclaration) (w : Rewriting) → NoneFrom sig first axioms → Contains axioms a
    → axiom_class sig a ≡ rewrites w → (s : Option SortTree) × FirstOfRule sig s a w None
rule_clear sig first [] a w none there class = absurd (contains_none a there)
rule_clear sig first (x ∷ axioms) a w none there class =
    ⊎_elim
    (λ here. (
      first,
      rule_here sig first a (axiom_class sig a) w class (subst
          (λ (y : AxiomDeclaration). FirstOfClass sig first y (axiom_class sig y) None) here
          none.0),
    ))
    (λ later. rule_clear sig (first_sort first (axiom_class sig x)) axioms a w none.1 later class)
    (contains_cases axioms x a there)

not_not : (b : Bool) → not b ≡ false → b ≡ true
not_not true h = refl
not_not false h = sym h

-- a rule after one of this sort has this sort
same_sort_of : (sig : Signature) (s : SortTree) (a : AxiomDeclaration) (w : Rewriting)
    → FirstOfRule sig (Some s) a w None → same_sort s w.sort ≡ true
same_sort_of sig s a w clear =
    let v = rule_parts sig w in
    let uses : use_faults sig (Some s) a.at w.sort v ≡ [] =
    none_by_byte (use_faults sig (Some s) a.at w.sort v) clear.1.1 in
    let one = not_raised _ 12 a.at _ uses in
    let two = not_raised _ 14 a.at _ one.1 in
    let three =
    not_raised (not (is_bound (listed_pattern
    (left_of v)) (tested_pattern v.condition)
    && is_bound (listed_pattern (left_of v)) (right_of v))) 18
    a.at _ two.1 in
    let four = not_raised (differs_from (Some s) w.sort) 19 a.at _ three.1 in
    not_not (same_sort s w.sort) four.0

rules_behind : (sig : Signature) (s : SortTree) (axioms : List AxiomDeclaration)
    (a : AxiomDeclaration) (w : Rewriting) → NoneFrom sig (Some s) axioms → Contains axioms a
    → axiom_class sig a ≡ rewrites w → sort_number sig.sorts w.sort ≡ sort_number sig.sorts s
rules_behind sig s [] a w none there class = absurd (contains_none a there)
rules_behind sig s (x ∷ axioms) a w none there class =
    ⊎_elim
    (λ here. sym (same_number sig.sorts s w.sort (same_sort_of sig s a w (rule_here sig (Some s) a
    (axiom_class sig a) w class (subst
    (λ (y : AxiomDeclaration). FirstOfClass sig (Some s) y (axiom_class sig y) None) here
    none.0)))))
    (λ later. rules_behind sig s axioms a w none.1 later class) (contains_cases axioms x a there)

-- all rules have this sort
abbrev pub AllHave : Signature → List AxiomDeclaration → Option ℕ → Type 0
AllHave sig axioms t = (a : AxiomDeclaration) → Contains axioms a → (w : Rewriting)
    → axiom_class sig a ≡ rewrites w → sort_number sig.sorts w.sort ≡ t

-- an axiom of another class says nothing about the sort of the rules
no_rule : (sig : Signature) (x : AxiomDeclaration) (axioms : List AxiomDeclaration) (t : Option ℕ)
    → ((w : Rewriting) → axiom_class sig x ≡ rewrites w → ⊥) → AllHave sig axioms t
    → AllHave sig (x ∷ axioms) t
no_rule sig x axioms t other all = λ a there w class.
    ⊎_elim (λ here. absurd (other w (ap (axiom_class sig) here ∙ class)))
    (λ later. all a later w class) (contains_cases axioms x a there)

one_rule : (sig : Signature) (x : AxiomDeclaration) (axioms : List AxiomDeclaration) (u : Rewriting)
    → axiom_class sig x ≡ rewrites u → AllHave sig axioms (sort_number sig.sorts u.sort)
    → AllHave sig (x ∷ axioms) (sort_number sig.sorts u.sort)
one_rule sig x axioms u is all = λ a there w class.
    ⊎_elim
    (λ here. let both : rewrites w ≡ rewrites u = sym class ∙ ap (axiom_class sig) (sym here)
    ∙ is in
    let same : w ≡ u = cc in ap (λ (v : Rewriting). sort_number sig.sorts v.sort) same)
    (λ later. all a later w class) (contains_cases axioms x a there)

by_class : (sig : Signature) (x : AxiomDeclaration) (axioms : List AxiomDeclaration)
    (c : AxiomClass) → axiom_class sig x ≡ c → NoneFrom sig (first_sort None c) axioms
    → (NoneFrom sig None axioms → (t : Option ℕ) × AllHave sig axioms t)
    → (t : Option ℕ) × AllHave sig (x ∷ axioms) t
by_class sig x axioms (refused n) is none rest =
    let later = rest none in (
      later.0,
      no_rule sig x axioms later.0 (λ w e.
          let both : refused n ≡ rewrites w = sym is ∙ e in let never : ⊥ = cc in never)
          later.1,
    )
by_class sig x axioms orders_sorts is none rest =
    let later = rest none in (
      later.0,
      no_rule sig x axioms later.0 (λ w e. let both : orders_sorts ≡ rewrites w =
          sym is ∙ e in
          let never : ⊥ = cc in never) later.1,
    )
by_class sig x axioms (equates st) is none rest =
    let later = rest none in (
      later.0,
      no_rule sig x axioms later.0 (λ w e.
          let both : equates st ≡ rewrites w = sym is ∙ e in let never : ⊥ = cc in never)
          later.1,
    )
by_class sig x axioms passed_over is none rest =
    let later = rest none in (
      later.0,
      no_rule sig x axioms later.0 (λ w e.
          let both : passed_over ≡ rewrites w = sym is ∙ e in let never : ⊥ = cc in never)
          later.1,
    )
by_class sig x axioms (rewrites u) is none rest = (
  sort_number sig.sorts u.sort,
  one_rule sig x axioms u is
      (λ a there w class. rules_behind sig u.sort axioms a w none there class),
)

pub one_sort_of_rules : (sig : Signature) (axioms : List AxiomDeclaration)
    → NoneFrom sig None axioms → (t : Option ℕ) × AllHave sig axioms t
one_sort_of_rules sig [] none = (None, λ a there w class. absurd (contains_none a there))
one_sort_of_rules sig (x ∷ axioms) none =
    by_class sig x axioms (axiom_class sig x) refl none.1 (λ later.
    one_sort_of_rules sig axioms later)

there_is : (o : Option ℕ) → is_some o ≡ true → (n : ℕ) × (o ≡ Some n)
there_is None h = absurd (false≢true h)
there_is (Some n) h = (n, refl)

-- the sort of a rule without faults is declared
pub sort_declared : (sig : Signature) (s : Option SortTree) (a : AxiomDeclaration) (w : Rewriting)
    → FirstOfRule sig s a w None → (n : ℕ) × (sort_number sig.sorts w.sort ≡ Some n)
sort_declared sig s a w clear =
    let sorts =
    no_faults _ _ (none_by_byte (sorted_faults sig w.sort (rule_parts sig w)) clear.1.0) in
    there_is (sort_number sig.sorts w.sort)
    (unless_empty (is_some (sort_number sig.sorts w.sort)) 6 (sort_place w.sort) sorts.0)

-- ---- the class of rewrite rules does not depend on the signature

staged : (x y z : Bool) (c d : AxiomClass) (w : Rewriting) → (c ≡ rewrites w → d ≡ rewrites w)
    → (if x then refused 20 else if y then refused 21 else if z then orders_sorts else c)
    ≡ rewrites w
    → (if x then refused 20 else if y then refused 21 else if z then orders_sorts else d)
    ≡ rewrites w
staged true y z c d w f e = e
staged false true z c d w f e = e
staged false false true c d w f e = e
staged false false false c d w f e = f e

statement_never : (sig : Signature) (attributes : List PatternTree) (o : Option StatedEquation)
    (w : Rewriting) → class_of_statement sig attributes o ≡ rewrites w → ⊥
statement_never sig attributes None w e = let never : ⊥ = cc in never
statement_never sig attributes (Some st) w e =
    by_test (not (is_no_equation attributes) && takes_equations (symbol_named sig st.function)) e
  where
    by_test : (b : Bool) → (if b then equates st else passed_over) ≡ rewrites w → ⊥
    by_test true e = let never : ⊥ = cc in never
    by_test false e = let never : ⊥ = cc in never

pattern_same : (sig other : Signature) (a : AxiomDeclaration) (o : Option Rewriting) (w : Rewriting)
    → class_of_pattern sig a o ≡ rewrites w → class_of_pattern other a o ≡ rewrites w
pattern_same sig other a None w e =
    absurd (statement_never sig a.attributes (stated_equation a.pattern) w e)
pattern_same sig other a (Some v) w e = e

pub class_same : (sig other : Signature) (a : AxiomDeclaration) (w : Rewriting)
    → axiom_class sig a ≡ rewrites w → axiom_class other a ≡ rewrites w
class_same sig other a w e =
    staged (has_attribute (codes "anywhere") a.attributes) (has_attribute (codes "overload")
    a.attributes || has_attribute (codes "symbol-overload") a.attributes)
    (states_pairs a.attributes)
    (class_of_pattern sig a (rewriting a.pattern)) (class_of_pattern other a (rewriting a.pattern))
    w (λ e. pattern_same sig other a (rewriting a.pattern) w e) e
