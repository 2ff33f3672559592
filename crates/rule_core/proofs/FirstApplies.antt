-- The rule that applies is the first one in order whose condition holds.
use Rattle.std.proofs.Common.{◌≡◌, ℕ, suc, zero, ◌+◌, ◌<◌, ◌≤◌, inl, inr, ⊎_elim, List, [], ◌∷◌}
use Rattle.std.proofs.Common.{Option, Some, None, refl, sym, ◌∙◌, ap, subst, slice_get, map, arith}
use Rattle.std.specs.Prelude.{All, option_map}
use Rattle.std.proofs.lemmas.Bool.{cases_lt}
use Rattle.std.proofs.lemmas.Option.{slice_get-map}
use Rattle.std.proofs.Math.Nat.{eq-or-lt_of_le}
use Rattle.term_core.specs.Terms.{Tree}
use Rattle.rule_core.specs.Rules.{RewriteRule, ComesBefore, AreInOrder}
use Rattle.rule_core.specs.Theories.{RewriteTheory}
use Rattle.rule_core.specs.Evaluation.{holds}
use Rattle.rule_core.specs.FirstRule.{Matches, Meets, applies, none_applies, Tries, no_rule_left}
use Rattle.rule_core.specs.FirstRule.{rule_unmatched, rule_condition_fails, condition_holds}
use Rattle.rule_core.specs.RunLaws.{IsPassedOver, FirstApplies, NoneApplies}
use Rattle.rule_core.proofs.EvaluationUnique.{all_first, all_rest}

pub all_at : {X : Type 0} (P : X → Type 0) (xs : List X) (i : ℕ) (x : X) → All P xs
    → slice_get xs i ≡ Some x → P x
all_at P [] i x each e = let k : None ≡ Some x = e in let no : ⊥ = cc in absurd no
all_at P (y ∷ xs) zero x each e =
    let k : Some y ≡ Some x = e in let same : y ≡ x = cc in subst P same (all_first P y xs each)
all_at P (y ∷ xs) (suc i) x each e = all_at P xs i x (all_rest P y xs each) e

-- the position of the rule that applies among the rules
pub record Applied (theory : RewriteTheory) (t : Tree) (from to left : ℕ) (rules : List RewriteRule)
    (rule : RewriteRule) (theta : List (Option Tree)) : Type 0 where
  pub place : ℕ
  pub counted : to ≡ from + place
  pub there : slice_get rules place ≡ Some rule
  pub matches : Matches theory rule t theta
  pub before : ℕ
  pub holding : Meets theory theta rule.condition before (holds left)
  pub earlier : (j : ℕ) (other : RewriteRule) → j < place → slice_get rules j ≡ Some other
      → IsPassedOver theory t other

one_later : {theory : RewriteTheory} {t : Tree} {i j d : ℕ} {rules : List RewriteRule}
    {rule : RewriteRule} {theta : List (Option Tree)} (first : RewriteRule)
    → IsPassedOver theory t first → Applied theory t (i + 1) j d rules rule theta
    → Applied theory t i j d (first ∷ rules) rule theta
one_later {theory} {t} {rules} first over a = record {
  place = suc a.place;
  counted = omega (arith, a.counted);
  there = a.there;
  matches = a.matches;
  before = a.before;
  holding = a.holding;
  earlier = passed;
} where
  passed : (j : ℕ) (other : RewriteRule) → j < suc a.place
      → slice_get (first ∷ rules) j ≡ Some other → IsPassedOver theory t other
  passed zero other lt s =
      let k : Some first ≡ Some other = s in
      let same : first ≡ other = cc in subst (IsPassedOver theory t) same over
  passed (suc j) other lt s = a.earlier j other (omega arith) s

pub applied : {theory : RewriteTheory} {t : Tree} {i c j d : ℕ} {rules : List RewriteRule}
    {rule : RewriteRule} {theta : List (Option Tree)}
    → Tries theory t i rules c (applies j rule theta d) → Applied theory t i j d rules rule theta
applied (rule_unmatched {rule = first} never others) = one_later first (inl never) (applied others)
applied (rule_condition_fails {c = c} {d = d} {rule = first} {theta = theta} m test others) =
    one_later first (inr (theta, c, d, m, test)) (applied others)
applied (condition_holds {c = c} {d = d} m test) = record {
  place = 0;
  counted = omega arith;
  there = refl;
  matches = m;
  before = c;
  holding = test;
  earlier = λ j other lt s. absurd (omega arith);
}

-- the order of trial of two rules, by their positions in the list
pub in_order : (xs : List (ℕ × ℕ)) → AreInOrder xs → (i j : ℕ) (a b : ℕ × ℕ) → i < j
    → slice_get xs i ≡ Some a → slice_get xs j ≡ Some b → ComesBefore a b
in_order [] order i j a b lt there later =
    let k : None ≡ Some a = there in let no : ⊥ = cc in absurd no
in_order (x ∷ xs) order i zero a b lt there later = absurd (omega arith)
in_order (x ∷ xs) order zero (suc j) a b lt there later =
    let k : Some x ≡ Some a = there in
    let same : x ≡ a = cc in
    subst (λ p. ComesBefore p b) same (all_at (ComesBefore x) xs j b order.0 later)
in_order (x ∷ xs) order (suc i) (suc j) a b lt there later =
    in_order xs order.1 i j a b (omega arith) there later

one_way : (a b : ℕ × ℕ) → ComesBefore a b → ComesBefore b a → ⊥
one_way a b first second =
    ⊎_elim
    (λ (lt : a.0 < b.0). ⊎_elim (λ (gt : b.0 < a.0). omega arith)
    (λ (e : (b.0 ≡ a.0) × (b.1 < a.1)). let same : b.0 ≡ a.0 = e.0 in omega arith) second)
    (λ (e : (a.0 ≡ b.0) × (a.1 < b.1)). let same : a.0 ≡ b.0 = e.0 in let lt : a.1 < b.1 = e.1 in
    ⊎_elim (λ (gt : b.0 < a.0). omega arith)
    (λ (f : (b.0 ≡ a.0) × (b.1 < a.1)). let gt : b.1 < a.1 = f.1 in omega arith) second)
    first

abbrev rank : RewriteRule → ℕ × ℕ
rank rule = (rule.priority, rule.place)

ranked : (rules : List RewriteRule) (i : ℕ) (rule : RewriteRule) → slice_get rules i ≡ Some rule
    → slice_get (map rank rules) i ≡ Some (rank rule)
ranked rules i rule there = slice_get-map rank rules i ∙ ap (option_map rank) there

stands_before : (rules : List RewriteRule) → AreInOrder (map rank rules)
    → (i j : ℕ) (rule other : RewriteRule) → slice_get rules i ≡ Some rule
    → slice_get rules j ≡ Some other → ComesBefore (rank other) (rank rule) → j < i
stands_before rules order i j rule other there later before =
    ⊎_elim
    (λ (lt : j < i). lt)
    (λ (le : i ≤ j). ⊎_elim
    (λ (same : i ≡ j). let k : Some rule ≡ Some other =
    sym there ∙ ap (slice_get rules) same ∙ later in
    let e : rule ≡ other = cc in
    absurd (one_way (rank other) (rank other)
    (subst (λ (r : RewriteRule). ComesBefore (rank other) (rank r)) e before)
    (subst (λ (r : RewriteRule). ComesBefore (rank other) (rank r)) e before)))
    (λ (lt : i < j). absurd (one_way (rank rule) (rank other) (in_order (map rank rules) order i j
    (rank rule) (rank other) lt (ranked rules i rule there) (ranked rules j other later))
    before))
    (eq-or-lt_of_le le))
    (cases_lt j i)

pub first_applies : FirstApplies
first_applies theory t c i d rule theta good tries =
    let a = applied tries in
    let place : a.place ≡ i = omega (arith, a.counted) in
    let there : slice_get theory.rules i ≡ Some rule =
    ap (slice_get theory.rules) (sym place) ∙ a.there in (
      there,
      a.matches,
      (a.before, a.holding),
      λ j other later before.
          let lt : j < i =
          stands_before theory.rules good.rules_in_order i j rule other there later before in
          a.earlier j other (omega (arith, place)) later,
    )

passed_over : {theory : RewriteTheory} {t : Tree} {i c : ℕ} {rules : List RewriteRule}
    → Tries theory t i rules c none_applies → (j : ℕ) (other : RewriteRule)
    → slice_get rules j ≡ Some other → IsPassedOver theory t other
passed_over no_rule_left j other there =
    let k : None ≡ Some other = there in let no : ⊥ = cc in absurd no
passed_over {theory} {t} (rule_unmatched {rule = rule} never others) zero other there =
    let k : Some rule ≡ Some other = there in
    let same : rule ≡ other = cc in subst (IsPassedOver theory t) same (inl never)
passed_over (rule_unmatched never others) (suc j) other there = passed_over others j other there
passed_over {theory} {t}
    (rule_condition_fails {c = c} {d = d} {rule = rule} {theta = theta} m test others) zero other
    there =
    let k : Some rule ≡ Some other = there in
    let same : rule ≡ other = cc in
    subst (IsPassedOver theory t) same (inr (theta, c, d, m, test))
passed_over (rule_condition_fails m test others) (suc j) other there =
    passed_over others j other there

pub none_applies_over : NoneApplies
none_applies_over theory t c j other tries there = passed_over tries j other there
