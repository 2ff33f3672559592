use Rattle.std.proofs.Common.{◌≡◌, ◌<◌, ◌+◌, suc, length, drop, get_or, drop-cons, ◌∷◌, ap, ◌∙◌}
use Rattle.std.proofs.Common.{arith}
use Rattle.std.proofs.lemmas.List.{drop_all}
use Rattle.std.specs.List.{list_any}
use Rattle.mm_frame.specs.PlainFrames.{in_groups, groups_of}
use Rattle.mm_frame.specs.DisjointView.{groups_in}
use Rattle.mm_frame.specs.Listed.{shares}
use Rattle.mm_frame.proofs.Apartness.{kept-shares, places-share, any-step, any-end}
use Rattle.mm_frame.proofs.disjoint.Disjoint.groups_within.Goals as goal

pub loop-place-preserved : goal.loop-place-preserved
loop-place-preserved c = λ a b.
    let gs = groups_in c.args.self.now in
    let ns = c.args.numbers.now in
    let xs = c.deref-place-items.result.now in
    let i = c.loop-place.place-index in
    let x = get_or xs i 0 in
    let within : i < length xs = omega arith in
    let next : suc i ≡ i + 1 = omega arith in
    let front : drop i xs ≡ x ∷ drop (i + 1) xs =
    drop-cons xs i 0 within ∙ ap (λ n. x ∷ drop n xs) next in
    any-step (shares gs ns a b) (in_groups (groups_of c.loop-place.groups.items) a b) _ _ x
    (drop (i + 1) xs) (drop i xs) _
    (c.in_ok-push_group.ensures a b)
    (kept-shares gs ns c.in_ok-group.group.items x c.in_ok-group.ensures a b)
    front (c.loop-place.invariant a b)

pub returns : goal.returns
returns c = λ a b.
    let gs = groups_in c.args.self.now in
    let ns = c.args.numbers.now in
    let xs = c.deref-place-items.result.now in
    any-end (shares gs ns a b) (in_groups (groups_of c.loop-place.groups.items) a b)
    (drop c.loop-place.place-index xs) _ (drop_all _ xs c.loop-place-test.false)
    (c.loop-place.invariant a b)
    ∙ ap (list_any (shares gs ns a b)) c.deref-place-items.ensures.value
    ∙ places-share gs ns c.in_ok-places.places.items c.in_ok-places.ensures a b
