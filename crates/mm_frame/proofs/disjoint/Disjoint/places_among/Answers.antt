use Rattle.std.proofs.Common.{◌≡◌, [], ◌++◌, drop, ap, sym, ◌∙◌}
use Rattle.std.specs.Prelude.{flat_map}
use Rattle.std.proofs.lemmas.List.{append-nil, drop_all}
use Rattle.std.proofs.lemmas.List.Filters.{dedup_is}
use Rattle.mm_frame.specs.PlainFrames.{has_number}
use Rattle.mm_frame.specs.DisjointView.{groups_in}
use Rattle.mm_frame.specs.Listed.{group_places}
use Rattle.mm_frame.proofs.Apartness.{listed-has}
use Rattle.mm_frame.proofs.Placing.{sorted-has}
use Rattle.mm_frame.proofs.disjoint.Disjoint.places_among.Goals as goal

gathered : (c : goal.After-dedup)
    → c.loop-n.places.items ≡ flat_map (group_places (groups_in c.args.self.now)) c.args.numbers.now
gathered c =
    let done : drop c.loop-n.n-index c.args.numbers.now ≡ [] =
    drop_all _ c.args.numbers.now c.loop-n-test.false in
    sym (append-nil c.loop-n.places.items)
    ∙ ap (λ ns. c.loop-n.places.items ++ flat_map (group_places (groups_in c.args.self.now)) ns)
    (sym done) ∙ c.loop-n.invariant

pub returns : goal.returns
returns c = λ i.
    sorted-has _ _ _ c.sort_unstable.ensures.permutation (dedup_is _ _ _ c.dedup.ensures.filtered) i
    ∙ ap (λ ms. has_number ms i) (gathered c)
    ∙ listed-has (groups_in c.args.self.now) c.args.numbers.now i
