use Rattle.std.proofs.Common.{rules, ◌≡◌, ◌∙◌, ◌+◌, sym, ap, drop, get_or, false}
use Rattle.std.specs.List.{list_all}
use Rattle.std.proofs.lemmas.List.{drop_all, take_rest}
use Rattle.mm_verify.specs.Filling.{are_parts_apart}
use Rattle.mm_verify.proofs.Spreading.{group-pairs, pairs-end, pairs-all}
use Rattle.mm_verify.proofs.spreads.are_pairs_apart.Goals as goal

pub returns-then-not-branch-clause-apart : goal.returns-then-not-branch-clause-apart
returns-then-not-branch-clause-apart g c =
    let p = g.P.Place.place c.args.place.now in
    let entries = drop c.args.base c.args.stack.now in
    let group = c.args.group.now in
    let row : list_all
    (are_parts_apart p entries (get_or group c.loop-i.i (record { symbol = 0; place = 0 })))
    (drop (c.loop-i.i + 1) group) ≡ false =
    ap (list_all (are_parts_apart p entries
    (get_or group c.loop-i.i (record { symbol = 0; place = 0 }))))
    (sym (take_rest group (c.loop-i.i + 1)))
    ∙ sym c.in_ok-is_part_apart.ensures.apart ∙ search rules in
    pairs-end (are_parts_apart p entries) group c.loop-i.i (record { symbol = 0; place = 0 })
    c.loop-i-test.true row c.loop-i.invariant.pairs
    ∙ sym (group-pairs p (g.met.P.Place.turned c.args.place.now) entries group)

pub returns-clause-apart : goal.returns-clause-apart
returns-clause-apart g c =
    let p = g.P.Place.place c.args.place.now in
    let entries = drop c.args.base c.args.stack.now in
    let group = c.args.group.now in
    pairs-all (are_parts_apart p entries) group c.loop-i.i (drop_all _ group c.loop-i-test.false)
    c.loop-i.invariant.pairs
    ∙ sym (group-pairs p (g.met.P.Place.turned c.args.place.now) entries group)
