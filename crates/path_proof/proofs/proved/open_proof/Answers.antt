use Rattle.std.proofs.Common.{◌≡◌, ◌≤◌, ◌+◌, ◌∙◌, List, ◌∷◌, length, map, drop, sym, subst, arith}
use Rattle.term_core.specs.RulePatterns.{plain_pattern}
use Rattle.term_core.specs.Terms.{Tree, height}
use Rattle.rule_core.specs.Evaluation.{most_height}
use Rattle.rule_core.specs.ProgramView.{theory_of}
use Rattle.rule_core.specs.RecordView.{plain_step}
use Rattle.prove_run.proofs.FileLaws.{on_err}
use Rattle.path_proof.specs.OpenPaths.{IsProvedTo, WritesFrontOfPath}
use Rattle.path_proof.specs.RecordedPaths.{first_of, steps_of}
use Rattle.path_proof.proofs.PathLaws.{can_step, front_of_first, front_of_step, next_step}
use Rattle.path_proof.proofs.PathLaws.{no_step_left, path_written, proved_further, proved_to_first}
use Rattle.path_proof.proofs.proved.open_proof.Goals as goal

pub returns-in_err-proof-clause-front : goal.returns-in_err-proof-clause-front
returns-in_err-proof-clause-front g c =
    let old = (g.D.Desk.state c.args.desk.now).told in
    let new = (g.D.Desk.state c.begin.new.desk).told in
    let theory = theory_of c.args.program.now in
    on_err c.from_residual.result
    (WritesFrontOfPath old new theory (plain_pattern c.args.path.now.start)
    (first_of c.args.path.now) (steps_of c.args.path.now))
    (front_of_first old new theory c.args.path.now c.in_err-proof.ensures.front)

pub loop-step-init : goal.loop-step-init
loop-step-init g c =
    let old = (g.D.Desk.state c.args.desk.now).told in
    let new = (g.D.Desk.state c.begin.new.desk).told in record {
      created = c.begin.ensures.created;
      counts = c.begin.ensures.counts;
      no_fault = c.in_ok-proof.ensures.no_fault;
      reads = c.begin.ensures.reads;
      proved =
          subst (λ (t : Tree). IsProvedTo old new c.args.program.now c.args.path.now
          c.in_ok-proof.proof t (steps_of c.args.path.now)) (sym c.result-here.ensures)
          (proved_to_first old new c.args.program.now c.args.path.now c.in_ok-proof.proof
          c.requires.provable c.in_ok-proof.ensures.begins);
    }

pub step-requires-clause-applies : goal.step-requires-clause-applies
step-requires-clause-applies g c =
    let old = (g.D.Desk.state c.args.desk.now).told in
    let mid = (g.D.Desk.state c.loop-step.desk).told in
    let items = c.args.path.now.steps.items in
    let step = plain_step c.step-item.result in
    let left = map plain_step (drop (c.loop-step.step-index + 1) items) in
    let is : map plain_step (drop c.loop-step.step-index items) ≡ step ∷ left =
    next_step items c.deref-step-items.result.now c.loop-step.step-index c.step-item.result
    c.deref-step-items.ensures.value c.step-item.is c.loop-step-test.true in
    let low : height c.loop-step.here.now ≤ most_height =
    omega (arith, c.height-high.ensures.value, c.height-high.ensures.bound) in
    can_step old mid c.args.program.now c.args.path.now c.loop-step.proof c.loop-step.here.now step
    left
    (subst (IsProvedTo old mid c.args.program.now c.args.path.now c.loop-step.proof
    c.loop-step.here.now) is c.loop-step.invariant.proved) low

pub returns-in_err-step-clause-front : goal.returns-in_err-step-clause-front
returns-in_err-step-clause-front g c =
    let old = (g.D.Desk.state c.args.desk.now).told in
    let mid = (g.D.Desk.state c.loop-step.desk).told in
    let new = (g.D.Desk.state c.step.new.desk).told in
    let items = c.args.path.now.steps.items in
    let step = plain_step c.step-item.result in
    let left = map plain_step (drop (c.loop-step.step-index + 1) items) in
    let is : map plain_step (drop c.loop-step.step-index items) ≡ step ∷ left =
    next_step items c.deref-step-items.result.now c.loop-step.step-index c.step-item.result
    c.deref-step-items.ensures.value c.step-item.is c.loop-step-test.true in
    on_err c.from_residual-in_err-step.result
    (WritesFrontOfPath old new (theory_of c.args.program.now) (plain_pattern c.args.path.now.start)
    (first_of c.args.path.now) (steps_of c.args.path.now))
    (front_of_step old mid new c.args.program.now c.args.path.now c.loop-step.proof
    c.loop-step.here.now step left
    (subst (IsProvedTo old mid c.args.program.now c.args.path.now c.loop-step.proof
    c.loop-step.here.now) is c.loop-step.invariant.proved)
    c.in_err-step.ensures.front)

pub loop-step-preserved : goal.loop-step-preserved
loop-step-preserved g c =
    let old = (g.D.Desk.state c.args.desk.now).told in
    let mid = (g.D.Desk.state c.loop-step.desk).told in
    let new = (g.D.Desk.state c.step.new.desk).told in
    let items = c.args.path.now.steps.items in
    let step = plain_step c.step-item.result in
    let left = map plain_step (drop (c.loop-step.step-index + 1) items) in
    let is : map plain_step (drop c.loop-step.step-index items) ≡ step ∷ left =
    next_step items c.deref-step-items.result.now c.loop-step.step-index c.step-item.result
    c.deref-step-items.ensures.value c.step-item.is c.loop-step-test.true in record {
      created = c.step.ensures.created;
      counts = omega (arith, c.loop-step.invariant.counts, c.step.ensures.counts);
      no_fault = c.in_ok-step.ensures.no_fault ∙ c.loop-step.invariant.no_fault;
      reads = c.step.ensures.reads ∙ c.loop-step.invariant.reads;
      proved =
          subst (λ (t : Tree). IsProvedTo old new c.args.program.now c.args.path.now
          c.step.new.self t left) (sym c.result-here-in-loop-step.ensures)
          (proved_further old mid new c.args.program.now c.args.path.now c.loop-step.proof
          c.step.new.self c.loop-step.here.now step left
          (subst (IsProvedTo old mid c.args.program.now c.args.path.now c.loop-step.proof
          c.loop-step.here.now) is c.loop-step.invariant.proved)
          c.in_ok-step.ensures.steps);
    }

pub returns-clause-proved : goal.returns-clause-proved
returns-clause-proved g c =
    let old = (g.D.Desk.state c.args.desk.now).told in
    let new = (g.D.Desk.state c.loop-step.desk).told in
    let items = c.args.path.now.steps.items in
    let all : length items ≤ c.loop-step.step-index =
    subst (λ (xs : List _). length xs ≤ c.loop-step.step-index) c.deref-step-items.ensures.value
    (omega (arith, c.loop-step-test.false)) in
    path_written old new c.args.program.now c.args.path.now c.loop-step.proof
    c.loop-step.here.now
    (subst (IsProvedTo old new c.args.program.now c.args.path.now c.loop-step.proof
    c.loop-step.here.now) (no_step_left items c.loop-step.step-index all)
    c.loop-step.invariant.proved)
