use Rattle.std.proofs.Common.{List, [], Option, Some, None, sym, subst}
use Rattle.std.specs.Prelude.{IfSome}
use Rattle.ml_kernel.specs.Theorems.{Theorem}
use Rattle.term_core.specs.Terms.{Tree}
use Rattle.term_core.specs.RulePatterns.{plain_pattern}
use Rattle.rule_core.specs.ProgramView.{theory_of}
use Rattle.rule_core.specs.Records.{Records, result_of}
use Rattle.rule_core.specs.RecordView.{plain_record}
use Rattle.prove_term.specs.Contexts.{StaysIn}
use Rattle.prove_term.specs.Values.{SaysValue}
use Rattle.prove_term.proofs.ContextLaws.{stays_grown}
use Rattle.prove_term.proofs.ResultLaws.{if_ok}
use Rattle.prove_fun.specs.Valuing.{EqualsValue, HasImageOf}
use Rattle.prove_run.proofs.StartingLaws.{start_serves, same_reached, can_turn, other_reached}
use Rattle.prove_run.proofs.StartingLaws.{other_stays}
use Rattle.prove_run.proofs.starting.valued.Goals as goal

pub eval_eq-requires-clause-sorted : goal.eval_eq-requires-clause-sorted
eval_eq-requires-clause-sorted c =
    let is = c.requires.start in (
      [],
      is.sort,
      is.sorted,
      start_serves c.args.prover.now.program.sig c.in_ok-none.none
          (plain_pattern c.args.start.now) is.sort c.in_ok-none.ensures is.sorted,
    )

pub eval_eq-requires-clause-recorded : goal.eval_eq-requires-clause-recorded
eval_eq-requires-clause-recorded c =
    subst (λ (s : List (Option Tree)). Records (theory_of c.args.prover.now.program) s
    (plain_pattern c.args.start.now) (plain_record c.args.evaluation.now))
    (sym c.in_ok-none.ensures)
    c.requires.recorded

pub to_other-requires : goal.to_other-requires
to_other-requires c =
    let start = plain_pattern c.args.start.now in
    let value = result_of (plain_record c.args.evaluation.now) in
    let is : SaysValue c.eval_eq.new.self c.in_ok-none.none start value c.in-Some.e.conclusion =
    subst (λ (o : Option Theorem). EqualsValue c.eval_eq.new.self c.in_ok-none.none start value o)
    c.in-Some.is c.in_ok-e.ensures.says in
    can_turn c.args.prover.now c.eval_eq.new.self start c.in_ok-none.none value c.in-Some.e
    c.args.itself c.in_ok-none.ensures c.in_ok-e.ensures.grown c.requires.says is

pub returns-in-Some-clause-says : goal.returns-in-Some-clause-says
returns-in-Some-clause-says c =
    let start = plain_pattern c.args.start.now in
    let value = result_of (plain_record c.args.evaluation.now) in
    let is : SaysValue c.eval_eq.new.self c.in_ok-none.none start value c.in-Some.e.conclusion =
    subst (λ (o : Option Theorem). EqualsValue c.eval_eq.new.self c.in_ok-none.none start value o)
    c.in-Some.is c.in_ok-e.ensures.says in
    if_ok c.to_other.result
    (λ t turns. other_reached c.args.prover.now c.eval_eq.new.self start c.in_ok-none.none value
    c.in-Some.e c.args.itself t c.in_ok-none.ensures c.in_ok-e.ensures.grown c.requires.says is
    turns)
    c.to_other.ensures.conclusion

pub returns-in-Some-clause-stays : goal.returns-in-Some-clause-stays
returns-in-Some-clause-stays c =
    let on_equality : StaysIn c.eval_eq.new.self c.in-Some.e =
    subst (λ (o : Option Theorem). IfSome o (StaysIn c.eval_eq.new.self)) c.in-Some.is
    c.in_ok-e.ensures.stays in
    if_ok c.to_other.result
    (λ t turns. other_stays c.args.prover.now c.eval_eq.new.self c.in-Some.e c.args.itself t
    c.in_ok-e.ensures.grown c.requires.stays on_equality turns)
    c.to_other.ensures.stays

pub returns-in-None-clause-says : goal.returns-in-None-clause-says
returns-in-None-clause-says c =
    let start = plain_pattern c.args.start.now in
    let value = result_of (plain_record c.args.evaluation.now) in
    let same : HasImageOf c.eval_eq.new.self c.in_ok-none.none start value =
    subst (λ (o : Option Theorem). EqualsValue c.eval_eq.new.self c.in_ok-none.none start value o)
    c.in-None.is c.in_ok-e.ensures.says in
    same_reached c.args.prover.now c.eval_eq.new.self start c.in_ok-none.none value c.args.itself
    c.in_ok-none.ensures c.in_ok-e.ensures.grown c.requires.says same

pub returns-in-None-clause-stays : goal.returns-in-None-clause-stays
returns-in-None-clause-stays c =
    stays_grown c.args.prover.now c.eval_eq.new.self c.args.itself c.in_ok-e.ensures.grown
    c.requires.stays
