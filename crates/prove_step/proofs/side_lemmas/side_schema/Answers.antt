use Rattle.std.proofs.Common.{◌≡◌, ◌∙◌}
use Rattle.ml_kernel.specs.Theorems.{Theorem}
use Rattle.prove_term.proofs.ResultLaws.{if_ok, if_ok_two}
use Rattle.prove_step.proofs.SideLaws.{same, given, place, made_same, made_given, made_place}
use Rattle.prove_step.proofs.SideLaws.{can_carry, made_says, made_stays, made_of}
use Rattle.prove_step.proofs.side_lemmas.side_schema.Goals as goal

pub carry-requires : goal.carry-requires
carry-requires c =
    let one : c.in_ok-same.same ≡ same =
    made_same c.in_ok-first.first c.in_ok-second.second c.in_ok-same.same c.in_ok-first.ensures
    c.in_ok-second.ensures c.in_ok-same.ensures in
    let two : c.in_ok-given.given ≡ given c.args.side =
    made_given c.args.side c.in_ok-first.first c.in_ok-other.other c.in_ok-given.given
    c.in_ok-first.ensures c.in_ok-other.ensures c.in_ok-given.ensures in
    let at : c.in_ok-context.context ≡ place c.args.side =
    made_place c.args.side c.in_ok-place.place c.in_ok-other.other c.in_ok-context.context
    c.in_ok-place.ensures c.in_ok-other.ensures c.in_ok-context.ensures in
    can_carry c.args.side c.in_ok-equality.equality.conclusion c.in_ok-context.context
    c.in_ok-step.step.conclusion (c.in_ok-equality.ensures.conclusion ∙ one) at
    (c.in_ok-step.ensures.conclusion ∙ two)

pub returns-clause-says : goal.returns-clause-says
returns-clause-says c =
    let e : Theorem = c.in_ok-equality.equality in
    let step : Theorem = c.in_ok-step.step in
    let one : c.in_ok-same.same ≡ same =
    made_same c.in_ok-first.first c.in_ok-second.second c.in_ok-same.same c.in_ok-first.ensures
    c.in_ok-second.ensures c.in_ok-same.ensures in
    let two : c.in_ok-given.given ≡ given c.args.side =
    made_given c.args.side c.in_ok-first.first c.in_ok-other.other c.in_ok-given.given
    c.in_ok-first.ensures c.in_ok-other.ensures c.in_ok-given.ensures in
    let at : c.in_ok-context.context ≡ place c.args.side =
    made_place c.args.side c.in_ok-place.place c.in_ok-other.other c.in_ok-context.context
    c.in_ok-place.ensures c.in_ok-other.ensures c.in_ok-context.ensures in
    if_ok_two c.carry.result
    (λ t carried stays. made_says c.args.side e step t c.in_ok-context.context
    (made_of c.args.side e step t c.in_ok-same.same c.in_ok-given.given c.in_ok-context.context one
    two at c.in_ok-equality.ensures.stays c.in_ok-step.ensures.stays stays)
    (c.in_ok-equality.ensures.conclusion ∙ one) at carried)
    c.carry.ensures.conclusion c.carry.ensures.stays

pub returns-clause-stays : goal.returns-clause-stays
returns-clause-stays c =
    let e : Theorem = c.in_ok-equality.equality in
    let step : Theorem = c.in_ok-step.step in
    let one : c.in_ok-same.same ≡ same =
    made_same c.in_ok-first.first c.in_ok-second.second c.in_ok-same.same c.in_ok-first.ensures
    c.in_ok-second.ensures c.in_ok-same.ensures in
    let two : c.in_ok-given.given ≡ given c.args.side =
    made_given c.args.side c.in_ok-first.first c.in_ok-other.other c.in_ok-given.given
    c.in_ok-first.ensures c.in_ok-other.ensures c.in_ok-given.ensures in
    let at : c.in_ok-context.context ≡ place c.args.side =
    made_place c.args.side c.in_ok-place.place c.in_ok-other.other c.in_ok-context.context
    c.in_ok-place.ensures c.in_ok-other.ensures c.in_ok-context.ensures in
    if_ok c.carry.result
    (λ t stays. made_stays c.args.side e step t
    (made_of c.args.side e step t c.in_ok-same.same c.in_ok-given.given c.in_ok-context.context one
    two at c.in_ok-equality.ensures.stays c.in_ok-step.ensures.stays stays))
    c.carry.ensures.stays
