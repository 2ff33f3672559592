use Rattle.std.proofs.Common.{rules, arith, ◌<◌, ◌≤◌, ◌∙◌, ap, sym, length, map}
use Rattle.std.proofs.lemmas.List.{get_or-map, length-map, drop_all}
use Rattle.mm_frame.specs.PlainFrames.{plain_hypothesis}
use Rattle.mm_verify.proofs.Placing.{place-here, place-behind, place-nowhere}
use Rattle.mm_verify.proofs.finding.first_place.Goals as goal

pub returns-then-types : goal.returns-then-types
returns-then-types c =
    let h = plain_hypothesis c.index-hyps-i.result in
    let all = map plain_hypothesis c.args.hyps.now in
    let within : c.loop-i.i < length c.args.hyps.now = search rules in
    let is =
    ap plain_hypothesis c.index-hyps-i.is
    ∙
    sym (get_or-map plain_hypothesis c.args.hyps.now c.loop-i.i c.index-hyps-i.result h
    within) in
    place-here all c.args.symbol c.loop-i.i h
    (omega (arith, within, length-map c.args.hyps.now plain_hypothesis)) is
    (sym c.types.ensures ∙ c.if-types.true) c.loop-i.invariant

pub loop-i-preserved : goal.loop-i-preserved
loop-i-preserved c =
    let h = plain_hypothesis c.index-hyps-i.result in
    let all = map plain_hypothesis c.args.hyps.now in
    let within : c.loop-i.i < length c.args.hyps.now = search rules in
    let is =
    ap plain_hypothesis c.index-hyps-i.is
    ∙
    sym (get_or-map plain_hypothesis c.args.hyps.now c.loop-i.i c.index-hyps-i.result h
    within) in
    place-behind all c.args.symbol c.loop-i.i h
    (omega (arith, within, length-map c.args.hyps.now plain_hypothesis)) is
    (sym c.types.ensures ∙ c.if-types.false) c.loop-i.invariant

pub returns : goal.returns
returns c =
    let all = map plain_hypothesis c.args.hyps.now in
    let past : length c.args.hyps.now ≤ c.loop-i.i = search rules in
    place-nowhere all c.args.symbol c.loop-i.i
    (drop_all c.loop-i.i all (omega (arith, past, length-map c.args.hyps.now plain_hypothesis)))
    c.loop-i.invariant
