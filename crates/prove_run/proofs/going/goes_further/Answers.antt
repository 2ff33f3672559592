use Rattle.std.proofs.Common.{◌≡◌}
use Rattle.ml_derived.specs.Implications.{ReachesOneFurther}
use Rattle.rule_core.specs.RecordView.{plain_step}
use Rattle.prove_term.proofs.ResultLaws.{if_ok_two}
use Rattle.prove_run.specs.ReachLemma.{CitesReachLemma}
use Rattle.prove_run.proofs.GoingLaws.{Making, last_no_meta, linked, both_closed, goes_on}
use Rattle.term_core.specs.Patterns.{ground_pattern}
use Rattle.prove_run.proofs.going.goes_further.Goals as goal

pub step-requires-clause-follows : goal.step-requires-clause-follows
step-requires-clause-follows c = (c.requires.term, c.requires.follows)

pub use_lemma-requires-clause-conclusion_metas : goal.use_lemma-requires-clause-conclusion_metas
use_lemma-requires-clause-conclusion_metas c =
    last_no_meta c.args.prover.now c.requires.start (ground_pattern c.requires.term) c.args.last.now
    c.requires.says

pub reach_further-requires-clause-linked : goal.reach_further-requires-clause-linked
reach_further-requires-clause-linked c =
    let m : Making c.args.prover.now c.step.new.self c.args.last.now c.args.reach.now
    c.in_ok-sofar.sofar c.in_ok-moved.moved (plain_step c.args.step.now) =
    record {
      may = c.requires;
      grown = c.in_ok-moved.ensures.grown;
      moves = c.in_ok-moved.ensures.says;
      again = c.in_ok-sofar.ensures.conclusion;
    } in
    linked c.args.prover.now c.step.new.self c.args.last.now c.args.reach.now c.in_ok-sofar.sofar
    c.in_ok-moved.moved (plain_step c.args.step.now) m

pub reach_further-requires-clause-closed : goal.reach_further-requires-clause-closed
reach_further-requires-clause-closed c =
    let m : Making c.args.prover.now c.step.new.self c.args.last.now c.args.reach.now
    c.in_ok-sofar.sofar c.in_ok-moved.moved (plain_step c.args.step.now) =
    record {
      may = c.requires;
      grown = c.in_ok-moved.ensures.grown;
      moves = c.in_ok-moved.ensures.says;
      again = c.in_ok-sofar.ensures.conclusion;
    } in
    both_closed c.args.prover.now c.step.new.self c.args.last.now c.args.reach.now
    c.in_ok-sofar.sofar c.in_ok-moved.moved (plain_step c.args.step.now) m

pub returns : goal.returns
returns c =
    let m : Making c.args.prover.now c.step.new.self c.args.last.now c.args.reach.now
    c.in_ok-sofar.sofar c.in_ok-moved.moved (plain_step c.args.step.now) =
    record {
      may = c.requires;
      grown = c.in_ok-moved.ensures.grown;
      moves = c.in_ok-moved.ensures.says;
      again = c.in_ok-sofar.ensures.conclusion;
    } in
    if_ok_two {P =
    λ t. ReachesOneFurther c.in_ok-sofar.sofar.conclusion c.in_ok-moved.moved.conclusion
    t.conclusion}
    {Q = CitesReachLemma c.args.reach.now c.in_ok-sofar.sofar c.in_ok-moved.moved}
    c.reach_further.result
    (λ t reaches goes. goes_on c.args.prover.now c.step.new.self c.args.last.now c.args.reach.now
    c.in_ok-sofar.sofar c.in_ok-moved.moved t (plain_step c.args.step.now) m
    c.in_ok-sofar.ensures.lemma c.in_ok-moved.ensures.stays reaches goes)
    c.reach_further.ensures.conclusion c.reach_further.ensures.stays
