use Rattle.std.proofs.Common.{◌≡◌, ℕ, List, ◌++◌, length, Some, None, sym, ◌∙◌, ap, arith}
use Rattle.std.proofs.lemmas.Bool.{false≢true}
use Rattle.ml_pat.specs.Patterns.{equal}
use Rattle.ml_image.specs.Sides.{side_sorts}
use Rattle.ml_image.proofs.ImageLaws.{none_some}
use Rattle.ml_image.proofs.ListedLaws.{length-numbers}
use Rattle.term_core.specs.RulePatterns.{sort_numbers}
use Rattle.true_facts.specs.Only.{IsOnly}
use Rattle.true_facts.specs.Sides.{IsSideAt, side_found, sorted_side, plain_side}
use Rattle.true_facts.proofs.OnlyLaws.{only_at, is_false}
use Rattle.true_facts.proofs.UnequalLaws.{IsUnequalFact, unequal_shape, negation_there}
use Rattle.true_facts.proofs.UnequalLaws.{equality_there, left_there, sides_there, no_right}
use Rattle.true_facts.proofs.UnequalLaws.{apart_there, unequal_test}
use Rattle.true_facts.proofs.unequal.is_unequal_fact.Goals as goal

pub returns-in_default : goal.returns-in_default
returns-in_default c =
    is_false (IsUnequalFact c.args.sig.now c.args.names.now c.args.pattern.now) (λ h.
    let s = unequal_shape c.args.sig.now c.args.names.now c.args.pattern.now h in
    c.in_default.ensures (equal s.left s.right) (c.unquantified.ensures
    ∙ negation_there c.args.sig.now c.args.names.now c.args.pattern.now s))

pub returns-in_default-as_equal : goal.returns-in_default-as_equal
returns-in_default-as_equal c =
    is_false (IsUnequalFact c.args.sig.now c.args.names.now c.args.pattern.now) (λ h.
    let s = unequal_shape c.args.sig.now c.args.names.now c.args.pattern.now h in
    c.in_default-as_equal.ensures s.left s.right
    (equality_there c.args.sig.now c.args.names.now c.args.pattern.now c.in-Some.denied.now
    (sym c.unquantified.ensures ∙ c.in-Some.ensures) s))

pub returns-in_default-2 : goal.returns-in_default-2
returns-in_default-2 c =
    is_false (IsUnequalFact c.args.sig.now c.args.names.now c.args.pattern.now) (λ h.
    let s = left_there c.args.sig.now c.args.names.now c.args.pattern.now c.in-Some.denied.now
    c.in-Some-as_equal.left.now c.in-Some-as_equal.right.now
    (sym c.unquantified.ensures ∙ c.in-Some.ensures) c.in-Some-as_equal.ensures h in
    none_some s.0 ((only_at (IsSideAt c.args.sig.now c.args.names.now c.in-Some-as_equal.left.now 0)
    side_found c.in_ok-one.field-0 None c.in_default-2.is c.in_ok-one.ensures s.0).0 s.1.is_left))

pub returns-in_default-3 : goal.returns-in_default-3
returns-in_default-3 c =
    let first : IsOnly (IsSideAt c.args.sig.now c.args.names.now c.in-Some-as_equal.left.now 0)
    (Some (sorted_side c.in-Some-2.one)) =
    only_at (IsSideAt c.args.sig.now c.args.names.now c.in-Some-as_equal.left.now 0) side_found
    c.in_ok-one.field-0 (Some c.in-Some-2.one) c.in-Some-2.is c.in_ok-one.ensures in
    let many : c.len.result ≡ length (side_sorts (plain_side c.in-Some-2.one.side)) =
    omega (
      arith,
      ap length c.in_ok-sorts.ensures,
      length-numbers c.in_ok-sorts.sorts.items,
      c.len.ensures,
    ) in
    is_false (IsUnequalFact c.args.sig.now c.args.names.now c.args.pattern.now) (λ h.
    no_right c.args.sig.now c.args.names.now c.args.pattern.now c.in-Some-as_equal.left.now
    c.in-Some-as_equal.right.now (sorted_side c.in-Some-2.one) c.len.result many
    (only_at (IsSideAt c.args.sig.now c.args.names.now c.in-Some-as_equal.right.now c.len.result)
    side_found c.in_ok-other.field-0 None c.in_default-3.is c.in_ok-other.ensures)
    (sides_there c.args.sig.now c.args.names.now c.args.pattern.now c.in-Some.denied.now
    c.in-Some-as_equal.left.now c.in-Some-as_equal.right.now (sorted_side c.in-Some-2.one)
    (sym c.unquantified.ensures ∙ c.in-Some.ensures) c.in-Some-as_equal.ensures first h))

pub returns-then-not-are_apart : goal.returns-then-not-are_apart
returns-then-not-are_apart c =
    let first : IsOnly (IsSideAt c.args.sig.now c.args.names.now c.in-Some-as_equal.left.now 0)
    (Some (sorted_side c.in-Some-2.one)) =
    only_at (IsSideAt c.args.sig.now c.args.names.now c.in-Some-as_equal.left.now 0) side_found
    c.in_ok-one.field-0 (Some c.in-Some-2.one) c.in-Some-2.is c.in_ok-one.ensures in
    let many : c.len.result ≡ length (side_sorts (plain_side c.in-Some-2.one.side)) =
    omega (
      arith,
      ap length c.in_ok-sorts.ensures,
      length-numbers c.in_ok-sorts.sorts.items,
      c.len.ensures,
    ) in
    let second : IsOnly
    (IsSideAt c.args.sig.now c.args.names.now c.in-Some-as_equal.right.now c.len.result)
    (Some (sorted_side c.in-Some-3.other)) =
    only_at (IsSideAt c.args.sig.now c.args.names.now c.in-Some-as_equal.right.now c.len.result)
    side_found c.in_ok-other.field-0 (Some c.in-Some-3.other) c.in-Some-3.is
    c.in_ok-other.ensures in
    is_false (IsUnequalFact c.args.sig.now c.args.names.now c.args.pattern.now) (λ h.
    false≢true (sym c.if-not-are_apart.true ∙ c.are_apart.ensures.1
    (apart_there c.args.sig.now c.args.names.now c.args.pattern.now c.in-Some-as_equal.left.now
    c.in-Some-as_equal.right.now (sorted_side c.in-Some-2.one) (sorted_side c.in-Some-3.other)
    c.len.result many second
    (sides_there c.args.sig.now c.args.names.now c.args.pattern.now c.in-Some.denied.now
    c.in-Some-as_equal.left.now c.in-Some-as_equal.right.now (sorted_side c.in-Some-2.one)
    (sym c.unquantified.ensures ∙ c.in-Some.ensures) c.in-Some-as_equal.ensures first h)).0))

pub returns : goal.returns
returns c =
    let first : IsOnly (IsSideAt c.args.sig.now c.args.names.now c.in-Some-as_equal.left.now 0)
    (Some (sorted_side c.in-Some-2.one)) =
    only_at (IsSideAt c.args.sig.now c.args.names.now c.in-Some-as_equal.left.now 0) side_found
    c.in_ok-one.field-0 (Some c.in-Some-2.one) c.in-Some-2.is c.in_ok-one.ensures in
    let many : c.len.result ≡ length (side_sorts (plain_side c.in-Some-2.one.side)) =
    omega (
      arith,
      ap length c.in_ok-sorts.ensures,
      length-numbers c.in_ok-sorts.sorts.items,
      c.len.ensures,
    ) in
    let second : IsOnly
    (IsSideAt c.args.sig.now c.args.names.now c.in-Some-as_equal.right.now c.len.result)
    (Some (sorted_side c.in-Some-3.other)) =
    only_at (IsSideAt c.args.sig.now c.args.names.now c.in-Some-as_equal.right.now c.len.result)
    side_found c.in_ok-other.field-0 (Some c.in-Some-3.other) c.in-Some-3.is
    c.in_ok-other.ensures in
    let ones : sort_numbers c.deref.result.now ≡ side_sorts (plain_side c.in-Some-2.one.side) =
    ap sort_numbers c.deref.ensures.value ∙ c.in_ok-sorts.ensures in
    let others : sort_numbers c.deref-2.result.now
    ≡ side_sorts (plain_side c.in-Some-3.other.side) =
    ap sort_numbers c.deref-2.ensures.value ∙ c.in_ok-others.ensures in
    let sorts : sort_numbers c.deref.result.now ++ sort_numbers c.deref-2.result.now
    ≡ side_sorts (plain_side c.in-Some-2.one.side)
    ++ side_sorts (plain_side c.in-Some-3.other.side) =
    ap (λ (ns : List ℕ). ns ++ sort_numbers c.deref-2.result.now) ones
    ∙ ap (λ (ns : List ℕ). side_sorts (plain_side c.in-Some-2.one.side) ++ ns) others in
    unequal_test c.args.sig.now c.args.names.now c.args.pattern.now c.in-Some.denied.now
    c.in-Some-as_equal.left.now c.in-Some-as_equal.right.now (sorted_side c.in-Some-2.one)
    (sorted_side c.in-Some-3.other) c.len.result
    (sort_numbers c.deref.result.now ++ sort_numbers c.deref-2.result.now) c.is_closed.result
    (sym c.unquantified.ensures ∙ c.in-Some.ensures) c.in-Some-as_equal.ensures first many second
    (c.are_apart.ensures.0 c.if-not-are_apart.false) sorts c.is_closed.ensures
