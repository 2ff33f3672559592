use Rattle.std.proofs.Common.{rules, arith, ◌∙◌, ◌<◌, ap, sym, ℕ, Option, length, map}
use Rattle.std.proofs.lemmas.List.{get_or-map, length-map}
use Rattle.mm_frame.specs.PlainFrames.{plain_hypothesis, types_number}
use Rattle.mm_verify.specs.Places.{first_place}
use Rattle.mm_verify.proofs.Placing.{place_more}
use Rattle.mm_verify.proofs.finding.place_table.Goals as goal

pub loop-i-preserved : goal.loop-i-preserved
loop-i-preserved c symbol =
    let h = plain_hypothesis c.index-hyps-i.result in
    let all = map plain_hypothesis c.args.hyps.now in
    let within : c.loop-i.i < length c.args.hyps.now = search rules in
    let is =
    ap plain_hypothesis c.index-hyps-i.is
    ∙
    sym (get_or-map plain_hypothesis c.args.hyps.now c.loop-i.i c.index-hyps-i.result h
    within) in
    c.in_ok-add_place.ensures symbol
    ∙ ap (λ (o : Option ℕ). first_place o (types_number symbol h) c.loop-i.i)
    (c.loop-i.invariant symbol)
    ∙ place_more all c.loop-i.i h symbol
    (omega (arith, within, length-map c.args.hyps.now plain_hypothesis)) is
