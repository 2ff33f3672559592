use Rattle.std.proofs.Common.{drop, ap, ◌∙◌}
use Rattle.std.specs.List.{list_any}
use Rattle.std.proofs.lemmas.List.{drop_all}
use Rattle.mm_frame.specs.PlainFrames.{in_groups, groups_of}
use Rattle.mm_frame.specs.HypothesesView.{hypotheses_in}
use Rattle.mm_frame.specs.DisjointView.{groups_in}
use Rattle.mm_scope.specs.Sharing.{shares_wanted}
use Rattle.mm_frame.proofs.Apartness.{any-end}
use Rattle.mm_scope.proofs.CommonPairs.{places-own}
use Rattle.mm_scope.proofs.scopes.Scopes.own_pairs.Goals as goal

pub returns : goal.returns
returns c = λ a b.
    let hs = hypotheses_in c.args.self.now.hyps in
    let gs = groups_in c.args.self.now.disjoint in
    let own = c.args.own.now in
    let xs = c.deref-place-items.result.now in
    any-end (shares_wanted hs gs own a b) (in_groups (groups_of c.loop-place.pairs.items) a b)
    (drop c.loop-place.place-index xs) _ (drop_all _ xs c.loop-place-test.false)
    (c.loop-place.invariant a b)
    ∙ ap (list_any (shares_wanted hs gs own a b)) c.deref-place-items.ensures.value
    ∙ places-own hs gs own c.in_ok-places.places.items c.in_ok-places.ensures a b
