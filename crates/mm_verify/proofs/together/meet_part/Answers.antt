use Rattle.std.proofs.Common.{rules, ◌≡◌, drop, Option, None, Some, sym, subst, ℕ}
use Rattle.std.proofs.lemmas.Result.{IfOk-weaker}
use Rattle.mm_verify.specs.Places.{place_in}
use Rattle.mm_verify.specs.Filling.{text_for}
use Rattle.mm_verify.specs.Meeting.{MeetsText}
use Rattle.mm_verify.proofs.Meeting.{meets-nothing}
use Rattle.mm_verify.proofs.together.meet_part.Goals as goal

pub returns-in-None-clause-met : goal.returns-in-None-clause-met
returns-in-None-clause-met g c = λ yes.
    let none : place_in c.args.part.now ≡ None = search rules in
    meets-nothing (g.P.Place.place c.args.place.now) (drop c.args.base c.args.stack.now)
    c.args.met.now (place_in c.args.part.now) c.requires.seen none

pub returns-in-Some-clause-met : goal.returns-in-Some-clause-met
returns-in-Some-clause-met g c =
    let p = g.P.Place.place c.args.place.now in
    let entries = drop c.args.base c.args.stack.now in
    let some : place_in c.args.part.now ≡ Some c.in-Some.i = search rules in
    IfOk-weaker c.meet_text.result _ _
    (λ r meets yes. subst
    (λ (o : Option ℕ). MeetsText p (text_for entries o) c.args.met.now c.meet_text.new.met)
    (sym some) (meets yes))
    c.meet_text.ensures.met
