use Rattle.std.proofs.Common.{ℕ, length, sym, subst}
use Rattle.term_core.specs.Forests.{forest}
use Rattle.rule_core.specs.ProgramView.{function_equation, sorts_of, theory_of}
use Rattle.ml_image.specs.LastResorts.{sorts_at}
use Rattle.ml_image.proofs.ConditionLaws.{length-sorts_of}
use Rattle.prove_term.proofs.ResultLaws.{if_ok_two}
use Rattle.refute_guard.proofs.GuardEnds.{AreOpened, all_opened, denies, is_open}
use Rattle.rule_core.specs.WellSorted.{IsWellSorted}
use Rattle.rule_core.specs.declared.rules.Program.{Program}
use Rattle.prove_term.specs.Contexts.{HasGrown}
use Rattle.guard_body.specs.Guarded.{IsAppliedTo, IsOrderOf}
use Rattle.refute_guard.proofs.MissedLaws.{missed_grown, missed_here}
use Rattle.refute_guard.proofs.guards.guard_denied.Goals.{In_ok-none}
use Rattle.refute_guard.proofs.guards.guard_denied.Goals as goal

pub body_denied-requires : goal.body_denied-requires
body_denied-requires c =
    let g : HasGrown c.args.cx.now c.repeated.new.cx = c.in_ok-guard.ensures.grown in
    let w = c.in_ok-guard.ensures.guard in record {
      guard = (
        w.condition,
        w.guarded,
        missed_here c.repeated.new.cx c.args.first c.args.order.now (forest c.args.args.now)
            (function_equation c.args.equation.now) c.in_ok-guard.guard c.args.missed.now
            (subst (λ (p : Program). IsWellSorted (theory_of p)) (sym g.program)
            c.requires.well_sorted)
            (subst (λ (p : Program). IsAppliedTo p.sig (function_equation c.args.equation.now)
            (forest c.args.args.now)) (sym g.program) c.requires.equation)
            (subst (λ (n : ℕ). IsOrderOf n c.args.order.now)
            (sym (length-sorts_of c.args.equation.now.vars.items)) c.requires.order) w
            (missed_grown c.args.cx.now c.repeated.new.cx (function_equation c.args.equation.now)
            (forest c.args.args.now) c.args.missed.now g c.requires.missed),
      );
    }

-- the order of the variables by their sorts
is_order : (c : In_ok-none)
    → IsOrderOf (length (sorts_of c.args.equation.now.vars.items)) c.args.order.now
is_order c =
    subst (λ (n : ℕ). IsOrderOf n c.args.order.now)
    (sym (length-sorts_of c.args.equation.now.vars.items)) c.requires.order

pub closed-requires : goal.closed-requires
closed-requires c =
    let o : AreOpened c.body_denied.new.cx c.args.first (length c.args.order.now)
    (sorts_at (sorts_of c.args.equation.now.vars.items) c.args.order.now)
    c.in_ok-guard.guard.given.hypothesis =
    all_opened c.repeated.new.cx c.body_denied.new.cx c.args.first c.args.order.now
    (forest c.args.args.now) (function_equation c.args.equation.now) c.in_ok-guard.guard
    c.in_ok-none.ensures.grown (is_order c) c.in_ok-guard.ensures.guard in (
      o.pairs,
      c.in_ok-guard.guard.body,
      is_open c.body_denied.new.cx c.args.first (length c.args.order.now)
          (sorts_at (sorts_of c.args.equation.now.vars.items) c.args.order.now)
          c.in_ok-guard.guard c.in_ok-none.none o c.in_ok-none.ensures.says,
      o.many,
    )

pub returns-clause-denied : goal.returns-clause-denied
returns-clause-denied c =
    if_ok_two c.closed.result
    (λ t says stays. denies c.repeated.new.cx c.body_denied.new.cx c.args.first c.args.order.now
    (forest c.args.args.now) (function_equation c.args.equation.now) c.in_ok-guard.guard
    c.in_ok-none.none t c.in_ok-none.ensures.grown
    (is_order (goal.at.returns-clause-denied c).In_ok-none) c.in_ok-guard.ensures.guard
    c.in_ok-none.ensures.says says stays) c.closed.ensures.conclusion c.closed.ensures.stays
