use Rattle.prove_term.proofs.ContextLaws.{grown_twice}
use Rattle.prove_schema.proofs.ResultLaws.{if_ok}
use Rattle.prove_equation.proofs.TurningLaws.{can_flip, can_join, can_close, turned_says}
use Rattle.prove_equation.proofs.TurningLaws.{turned_stays}
use Rattle.prove_equation.proofs.direct.from_normal.Goals as goal

pub flip-requires : goal.flip-requires
flip-requires c =
    can_flip c.args.made.conclusion c.args.normal.now c.in-Some.equality c.in-Some.is c.requires

pub join-requires-clause-joinable : goal.join-requires-clause-joinable
join-requires-clause-joinable c =
    can_join c.args.made.conclusion c.in_ok-turned-in-Some.turned.conclusion c.args.normal.now
    c.in-Some.equality c.in-Some.is c.requires c.in_ok-turned-in-Some.ensures.conclusion

pub join-requires-clause-closed : goal.join-requires-clause-closed
join-requires-clause-closed c =
    can_close c.args.made.conclusion c.args.normal.now c.in-Some.equality c.in-Some.is c.requires

pub returns-in_ok-turned-in-Some-clause-says : goal.returns-in_ok-turned-in-Some-clause-says
returns-in_ok-turned-in-Some-clause-says c =
    if_ok c.join.result
    (λ t joins. turned_says c.args.made c.in_ok-turned-in-Some.turned t c.args.normal.now
    c.in-Some.equality c.in-Some.is c.in_ok-turned-in-Some.ensures.conclusion joins)
    c.join.ensures.conclusion

pub returns-in_ok-turned-in-Some-clause-stays : goal.returns-in_ok-turned-in-Some-clause-stays
returns-in_ok-turned-in-Some-clause-stays c =
    if_ok c.join.result
    (λ t stays. turned_stays c.flip.new.cx c.join.new.cx c.args.made c.in_ok-turned-in-Some.turned
    t c.args.normal.now c.in-Some.equality c.in-Some.is c.join.ensures.grown
    c.in_ok-turned-in-Some.ensures.stays stays)
    c.join.ensures.stays

pub returns-in_ok-turned-in-Some-clause-grown : goal.returns-in_ok-turned-in-Some-clause-grown
returns-in_ok-turned-in-Some-clause-grown c =
    grown_twice c.args.cx.now c.flip.new.cx c.join.new.cx c.in_ok-turned-in-Some.ensures.grown
    c.join.ensures.grown
