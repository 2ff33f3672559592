use Rattle.std.proofs.Common.{drop, sym, subst, List, ℕ}
use Rattle.std.proofs.lemmas.Result.{IfOk-weaker}
use Rattle.mm_verify.specs.Filling.{text_at}
use Rattle.mm_verify.specs.Pairs.{HasVariables}
use Rattle.mm_verify.proofs.Meeting.{meets-text}
use Rattle.mm_verify.proofs.together.meet_text.Goals as goal

pub returns-clause-met : goal.returns-clause-met
returns-clause-met g c =
    let p = g.P.Place.place c.args.place.now in
    let entries = drop c.args.base c.args.stack.now in
    let text = text_at entries c.args.i in
    IfOk-weaker c.meet_all.result _ _
    (λ r meets yes. meets-text p entries c.args.met.now c.meet_all.new.self text c.list.result.now
    (subst (λ (vs : List ℕ). HasVariables p text vs) (sym c.list.ensures)
    (c.in_ok-number.ensures.known.variables c.args.i c.in_ok-number.number
    c.in_ok-number.ensures.found))
    (meets yes))
    c.meet_all.ensures
