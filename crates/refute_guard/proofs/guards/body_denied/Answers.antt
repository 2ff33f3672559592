use Rattle.std.proofs.Common.{◌≡◌, ◌<◌, List, Option, Some, length, slice_get, sym, subst, arith}
use Rattle.std.proofs.lemmas.Option.{slice_get_within}
use Rattle.term_core.specs.Terms.{Tree}
use Rattle.term_core.specs.RulePatterns.{sort_numbers}
use Rattle.term_core.specs.declared.ids.SortId.{SortId}
use Rattle.rule_core.specs.declared.rules.Program.{Program}
use Rattle.guard_body.specs.Arguments.{AreFound, AreOne, MatchTogether}
use Rattle.guard_body.specs.declared.arguments.Argument.{Argument}
use Rattle.refute_guard.proofs.FoundEnds.{all_together, each_short, matched_at, next_mismatched}
use Rattle.refute_guard.proofs.FoundEnds.{two_read}
use Rattle.guard_body.proofs.FoundLists.{item_there}
use Rattle.refute_guard.proofs.guards.body_denied.Goals.{In_ok-found, In-Some, After-index-sigma}
use Rattle.refute_guard.proofs.guards.body_denied.Goals as goal

-- what was found, of the guard's arguments
found : (c : In_ok-found) → AreFound c.args.cx.now.program.sig
    (sort_numbers c.args.guard.now.sorts.items) c.args.guard.now.arguments.items
    c.in_ok-found.found.items
found c =
    subst (λ (program : Program). AreFound program.sig (sort_numbers c.args.guard.now.sorts.items)
    c.args.guard.now.arguments.items c.in_ok-found.found.items) c.program.ensures
    (subst (λ (ss : List SortId). AreFound c.program.result.now.sig (sort_numbers ss)
    c.args.guard.now.arguments.items c.in_ok-found.found.items) c.deref.ensures.value
    (subst (λ (bs : List Argument). AreFound c.program.result.now.sig
    (sort_numbers c.deref.result.now) bs c.in_ok-found.found.items) c.deref-2.ensures.value
    c.in_ok-found.ensures))

pub by_mismatch-requires-clause-mismatch : goal.by_mismatch-requires-clause-mismatch
by_mismatch-requires-clause-mismatch c =
    next_mismatched c.args.cx.now.program.sig (sort_numbers c.args.guard.now.sorts.items)
    c.args.guard.now.arguments.items c.in_ok-found.found.items c.len-then-len.result
    (found (goal.at.by_mismatch-requires-clause-mismatch c).In_ok-found)
    (omega (arith, c.len-then-len.ensures))
    (omega (arith, c.len-then-len.ensures, c.len.ensures, c.len-2.ensures, c.if-len.true))

pub bound_twice-requires : goal.bound_twice-requires
bound_twice-requires c =
    each_short c.args.cx.now c.requires.guard.0 c.args.guard.now c.deref-3.result.now
    c.requires.guard.1
    (subst (AreFound c.args.cx.now.program.sig (sort_numbers c.args.guard.now.sorts.items)
    c.args.guard.now.arguments.items) (sym c.deref-3.ensures.value)
    (found (goal.at.bound_twice-requires c).In_ok-found))

-- the places of the two that differ
first_low : (c : In-Some) → c.in-Some.twice.first < length c.in_ok-found.found.items
first_low c =
    omega (
      arith,
      slice_get_within c.deref-3.result.now c.in-Some.twice.first c.in-Some.ensures.there.0
          c.in-Some.ensures.there.2,
      c.deref-3.ensures.len,
    )

second_low : (c : In-Some) → c.in-Some.twice.second < length c.in_ok-found.found.items
second_low c =
    omega (
      arith,
      slice_get_within c.deref-3.result.now c.in-Some.twice.second c.in-Some.ensures.there.1
          c.in-Some.ensures.there.3,
      c.deref-3.ensures.len,
    )

pub index-theta-requires : goal.index-theta-requires
index-theta-requires c =
    omega (arith, first_low (goal.at.index-theta-requires c).In-Some)

pub index-sigma-requires : goal.index-sigma-requires
index-sigma-requires c =
    omega (arith, second_low (goal.at.index-sigma-requires c).In-Some)

-- what was read at these places
theta_there : (c : After-index-sigma)
    → c.in-Some.twice.first < length c.in_ok-found.found.items
    → slice_get c.in_ok-found.found.items c.in-Some.twice.first ≡ Some c.index-theta.result.now
theta_there c low =
    item_there c.in_ok-found.found.items c.in-Some.twice.first c.index-theta.result.now
    low c.index-theta.ensures

sigma_there : (c : After-index-sigma)
    → c.in-Some.twice.second < length c.in_ok-found.found.items
    → slice_get c.in_ok-found.found.items c.in-Some.twice.second ≡ Some c.index-sigma.result.now
sigma_there c low =
    item_there c.in_ok-found.found.items c.in-Some.twice.second c.index-sigma.result.now
    low c.index-sigma.ensures

pub by_bindings-requires-clause-first : goal.by_bindings-requires-clause-first
by_bindings-requires-clause-first c =
    matched_at c.args.cx.now.program.sig (sort_numbers c.args.guard.now.sorts.items)
    c.args.guard.now.arguments.items c.in_ok-found.found.items c.in-Some.twice.first
    c.index-theta.result.now (found (goal.at.by_bindings-requires-clause-first c).In_ok-found)
    (theta_there (goal.at.by_bindings-requires-clause-first c).After-index-sigma
    (first_low (goal.at.by_bindings-requires-clause-first c).In-Some))

pub by_bindings-requires-clause-second : goal.by_bindings-requires-clause-second
by_bindings-requires-clause-second c =
    matched_at c.args.cx.now.program.sig (sort_numbers c.args.guard.now.sorts.items)
    c.args.guard.now.arguments.items c.in_ok-found.found.items c.in-Some.twice.second
    c.index-sigma.result.now (found (goal.at.by_bindings-requires-clause-second c).In_ok-found)
    (sigma_there (goal.at.by_bindings-requires-clause-second c).After-index-sigma
    (second_low (goal.at.by_bindings-requires-clause-second c).In-Some))

pub by_bindings-requires-clause-two : goal.by_bindings-requires-clause-two
by_bindings-requires-clause-two c =
    let at : After-index-sigma =
    (goal.at.by_bindings-requires-clause-two c).After-index-sigma in
    let some : In-Some = (goal.at.by_bindings-requires-clause-two c).In-Some in
    two_read c.deref-3.result.now c.in-Some.twice.first c.in-Some.twice.second
    c.in-Some.twice.variable c.index-theta.result.now c.index-sigma.result.now
    c.in-Some.ensures.there
    (subst (λ (xs : List (List (Option Tree))). slice_get xs c.in-Some.twice.first
    ≡ Some c.index-theta.result.now) (sym c.deref-3.ensures.value)
    (theta_there at (first_low some)))
    (subst (λ (xs : List (List (Option Tree))). slice_get xs c.in-Some.twice.second
    ≡ Some c.index-sigma.result.now) (sym c.deref-3.ensures.value)
    (sigma_there at (second_low some)))

pub one_denied-requires-clause-together : goal.one_denied-requires-clause-together
one_denied-requires-clause-together c =
    let one : AreOne c.in_ok-found.found.items =
    subst AreOne c.deref-3.ensures.value (c.bound_twice.ensures.none c.in-None.is) in
    subst (λ (xs : List (List (Option Tree))). MatchTogether c.args.cx.now.program.sig
    (sort_numbers c.args.guard.now.sorts.items) c.args.guard.now.arguments.items xs)
    (sym c.deref-in-None.ensures.value)
    (all_together c.args.cx.now.program.sig (sort_numbers c.args.guard.now.sorts.items)
    c.args.guard.now.arguments.items c.in_ok-found.found.items
    (found (goal.at.one_denied-requires-clause-together c).In_ok-found)
    (omega (arith, c.if-len.false, c.len.ensures, c.len-2.ensures)) one)
