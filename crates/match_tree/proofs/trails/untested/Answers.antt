use Rattle.std.proofs.Common.{◌≡◌, ℕ, List, true, false, Some, sym, ◌∙◌, ap, arith, rules}
use Rattle.match_tree.specs.Trails.{was_tested}
use Rattle.match_tree.specs.TrailView.{plain_trail}
use Rattle.match_tree.proofs.KnownLaws.{next_untested}
use Rattle.match_tree.proofs.trails.untested.Goals as goal

pub returns-then-not-contains : goal.returns-then-not-contains
returns-then-not-contains c =
    let trail = plain_trail c.args.trail.now in
    let place = c.position-item.result.items in
    let fresh : was_tested trail place ≡ false =
    sym (c.in_ok-known.ensures place) ∙ (search rules) in
    let copied : c.in_ok-to_vec.field-0.items ≡ place = search rules in
    ap (λ (p : List ℕ). Some p) copied
    ∙ sym (next_untested trail c.deref-position-items.result.now c.loop-position.position-index
    c.position-item.result false (omega arith) c.position-item.is fresh)
    ∙ c.loop-position.invariant

pub loop-position-preserved : goal.loop-position-preserved
loop-position-preserved c =
    let trail = plain_trail c.args.trail.now in
    let place = c.position-item.result.items in
    let tested : was_tested trail place ≡ true =
    sym (c.in_ok-known.ensures place) ∙ (search rules) in
    sym (next_untested trail c.deref-position-items.result.now c.loop-position.position-index
    c.position-item.result true (omega arith) c.position-item.is tested)
    ∙ c.loop-position.invariant
