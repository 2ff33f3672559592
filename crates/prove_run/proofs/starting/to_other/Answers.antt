use Rattle.std.proofs.Common.{rules, ◌≡◌}
use Rattle.ml_pat.specs.Patterns.{imp, ev, var}
use Rattle.prove_term.proofs.ResultLaws.{if_ok}
use Rattle.prove_run.proofs.StartingLaws.{CanGoOn, carry_on, carried_on}
use Rattle.prove_run.proofs.starting.to_other.Goals as goal

pub carry-requires : goal.carry-requires
carry-requires c =
    let says : c.args.reached.now.conclusion ≡ imp c.in-Imp.before c.in-Imp.field-1 =
    search rules in
    let context : c.in_ok-context.context ≡ imp c.in-Imp.before (ev (var 0)) = search rules in
    let can : CanGoOn c.args.e.now c.args.reached.now =
    record {
      from = c.requires.0;
      to = c.requires.1;
      other = c.requires.2;
      equal_to = c.requires.3;
      says = c.requires.4;
      closed = c.requires.5;
    } in
    carry_on c.args.e.now c.args.reached.now c.in_ok-context.context c.in-Imp.before
    c.in-Imp.field-1 can says context

pub returns-clause-conclusion : goal.returns-clause-conclusion
returns-clause-conclusion c =
    let says : c.args.reached.now.conclusion ≡ imp c.in-Imp.before c.in-Imp.field-1 =
    search rules in
    let context : c.in_ok-context.context ≡ imp c.in-Imp.before (ev (var 0)) = search rules in
    let can : CanGoOn c.args.e.now c.args.reached.now =
    record {
      from = c.requires.0;
      to = c.requires.1;
      other = c.requires.2;
      equal_to = c.requires.3;
      says = c.requires.4;
      closed = c.requires.5;
    } in
    if_ok c.carry.result
    (λ t carried. carried_on c.args.e.now c.args.reached.now t c.in_ok-context.context
    c.in-Imp.before c.in-Imp.field-1 can says context carried)
    c.carry.ensures.conclusion
