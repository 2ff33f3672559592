-- Conditions of equations that are missed: their sorts, and that they are not true.
use Rattle.std.proofs.Common.{◌≡◌, ℕ, List, [], Option, Some, option_map, sym, ◌∙◌, ap, subst}
use Rattle.std.specs.Prelude.{true, IfSome, slice_get}
use Rattle.ml_pat.specs.Patterns.{Pattern}
use Rattle.ml_pat.specs.Patterns as logic
use Rattle.ml_kernel.specs.Theorems.{Theorem}
use Rattle.term_core.specs.Terms.{Tree, Forest, leaf, truth}
use Rattle.term_core.specs.Patterns.{Pattern as RulePattern, domain_value}
use Rattle.rule_core.specs.Evaluation.{MatchesBy, IsTrueValue}
use Rattle.rule_core.specs.ProgramView.{theory_of}
use Rattle.rule_core.specs.Records.{Record, result_of, condition_false}
use Rattle.rule_core.specs.Rules.{Equation}
use Rattle.rule_core.specs.Sorting.{HasSort, HasValue, IsTermOf, IsValueOf}
use Rattle.rule_core.specs.WellSorted.{IsCondition, IsEquationOf}
use Rattle.rule_core.specs.declared.rules.Program.{Program}
use Rattle.rule_core.specs.declared.signature.SortKind.{SortKind}
use Rattle.rule_core.specs.declared.signature.SymInfo.{SymInfo}
use Rattle.ml_image.specs.Images.{image_of, both}
use Rattle.ml_image.specs.Premises.{sort_of}
use Rattle.prove_term.specs.Contexts.{Context, HasGrown, StaysIn}
use Rattle.prove_term.specs.Values.{SaysValue}
use Rattle.prove_equation.proofs.FillingLaws.{sort_of_sorted, value_grown}
use Rattle.refute.specs.Refutations.{SaysNotTrue}
use Rattle.refute_guard.specs.Guards.{FailsAt}
use Rattle.prove_fun.specs.Missing.{IsFalseAt, IsValued}
use Rattle.prove_fun.proofs.Recording.{result_good}

same_sort : (a b : ℕ) → Some a ≡ Some b → a ≡ b
same_sort a b e = cc

same_condition : (p q : RulePattern) → Some p ≡ Some q → p ≡ q
same_condition p q e = cc

-- the condition's sort has the value `true`, and its value is a term of it
pub condition_sorted : (program : Program) (e : Equation) (ts : Forest) (sigma : List (Option Tree))
    (r : Record) (info : SymInfo) (sort : ℕ) → IsEquationOf program.sig info e
    → (w : IsFalseAt program e ts sigma r)
    → sort_of program.sig e.variables w.condition ≡ Some sort
    → HasValue program.sig sort (truth true) × IsTermOf program.sig (result_of r) sort
condition_sorted program e ts sigma r info sort fits w is =
    let has : IsCondition program.sig e.variables e.arguments e.names w.condition =
    subst (λ (x : Option RulePattern).
    IfSome x (IsCondition program.sig e.variables e.arguments e.names)) w.conditional fits.condition
    in
    let same : has.0 ≡ sort =
    same_sort has.0 sort
    (sym (sort_of_sorted program.sig e.variables w.condition has.0 has.5) ∙ is) in
    let sorted : HasSort program.sig e.variables w.condition w.recorded.sort =
    subst (λ (vs : List ℕ). HasSort program.sig vs w.condition w.recorded.sort) w.own
    w.recorded.sorted in
    let own : w.recorded.sort ≡ sort =
    same_sort w.recorded.sort sort
    (sym (sort_of_sorted program.sig e.variables w.condition w.recorded.sort sorted) ∙ is) in (
      (
        has.1,
        has.2,
        ap (λ (s : ℕ). slice_get program.sig.sorts s) (sym same) ∙ has.3,
        subst (λ (k : SortKind). IsValueOf k (truth true)) (sym has.4) tt,
      ),
      subst (IsTermOf program.sig (result_of r)) own
          (result_good program sigma w.condition r w.recorded).0,
    )

-- its value is not `true`
pub not_true_value : (t : Tree) (sort : ℕ) → (IsTrueValue t → ⊥) → t ≡ leaf sort (truth true) → ⊥
not_true_value t sort untrue is = untrue (sort, is)

-- the theorem that it is not true
pub fails_at : (old cx : Context) (e : Equation) (ts : Forest) (sigma : List (Option Tree))
    (r : Record) (sort : ℕ) (value t : Theorem) → HasGrown old cx
    → (w : IsFalseAt old.program e ts sigma r)
    → sort_of old.program.sig e.variables w.condition ≡ Some sort
    → IsValued old e (condition_false sigma r) (Some value)
    → SaysNotTrue cx sort value.conclusion t.conclusion → t.hypotheses ≡ [] → StaysIn cx t
    → FailsAt cx e ts sigma t
fails_at old cx e ts sigma r sort value t g w is (p, there, says, held) (q, u, d, equation, image, untrue)
    none stays =
    let own : p ≡ w.condition = same_condition p w.condition (sym there ∙ w.conditional) in
    let v : SaysValue cx sigma w.condition (result_of r) value.conclusion =
    subst (λ (x : RulePattern). SaysValue cx sigma x (result_of r) value.conclusion) own
    (value_grown old cx sigma p (result_of r) value.conclusion g says) in
    let same : v.left ≡ q = left_same v.left v.right q u (sym v.says ∙ equation) in
    record {
      matches = subst (λ (x : Program). MatchesBy (theory_of x) e ts sigma) (sym g.program) w.matches;
      condition = w.condition;
      is_condition = w.conditional;
      sort = sort;
      is_sort =
          subst (λ (x : Program). sort_of x.sig e.variables w.condition ≡ Some sort) (sym g.program)
          is;
      says =
          ap (λ (x : Option Pattern). option_map logic.not (both logic.equal x
          (image_of cx.program.sig cx.names (domain_value sort (truth true))))) v.left_image
          ∙ ap (λ (x : Option Pattern). option_map logic.not (both logic.equal (Some v.left) x)) image
          ∙ ap (λ (x : Pattern). Some (logic.not (logic.equal x d))) same
          ∙ ap (λ (x : Pattern). Some x) (sym untrue);
      no_hypotheses = none;
      stays = stays;
    }
  where
    left_same : (a b c d : Pattern) → logic.equal a b ≡ logic.equal c d → a ≡ c
    left_same a b c d e = cc
