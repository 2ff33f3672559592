use Rattle.std.proofs.Common.{◌≡◌, [], false, refl, ap, ◌∙◌, sym, subst, arith}
use Rattle.std.specs.Prelude.{IfSome, option_copied}
use Rattle.term_core.specs.RulePatterns.{plain_pattern}
use Rattle.rule_core.specs.ProgramView.{theory_of}
use Rattle.rule_core.specs.Records.{Records}
use Rattle.rule_core.specs.RecordView.{plain_record}
use Rattle.rule_core.specs.declared.rules.Program.{Program}
use Rattle.prove_term.specs.Contexts.{Context, new_context, HasGrown}
use Rattle.proof_writer.specs.PlainNames.{HasPlainNames}
use Rattle.prove_run.specs.Proving.{value_told}
use Rattle.prove_run.specs.Starting.{IsStarting}
use Rattle.prove_run.proofs.ContextLaws.{sorted_has_none, lemma_grown}
use Rattle.prove_run.proofs.ProofLaws.{is_proof, begun_grown, begun_written, begins}
use Rattle.prove_run.specs.declared.proof.Proof.TheInside.{Inside}
use Rattle.prove_run.proofs.proof.Proof.begun.Goals as goal

pub start_reaches-requires-clause-start : goal.start_reaches-requires-clause-start
start_reaches-requires-clause-start c =
    let program : c.keep_reach_lemma.new.prover.program ≡ c.args.program.now =
    c.in_ok-reach.ensures.grown.program
    ∙ ap (λ (cx : Context). cx.program) c.in_ok-prover.ensures in
    subst (λ (p : Program). IsStarting p (plain_pattern c.args.start.now)) (sym program)
    (record {
      well_sorted = c.requires.well_sorted;
      bound = c.requires.bound;
      sort = c.requires.start.0;
      sorted = c.requires.start.1;
    })

pub start_reaches-requires-clause-value : goal.start_reaches-requires-clause-value
start_reaches-requires-clause-value c =
    let program : c.keep_reach_lemma.new.prover.program ≡ c.args.program.now =
    c.in_ok-reach.ensures.grown.program
    ∙ ap (λ (cx : Context). cx.program) c.in_ok-prover.ensures in
    subst (λ (p : Program). IfSome c.args.value
    (λ r. Records (theory_of p) [] (plain_pattern c.args.start.now) (plain_record r.now)))
    (sym program) c.requires.value

pub state-requires-clause-names : goal.state-requires-clause-names
state-requires-clause-names c =
    let grown : HasGrown (new_context c.args.program.now) c.start_reaches.new.prover =
    begun_grown c.args.program.now c.in_ok-prover.prover c.keep_reach_lemma.new.prover
    c.start_reaches.new.prover c.in_ok-prover.ensures c.in_ok-reach.ensures.grown
    c.in_ok-first.ensures.grown in
    subst (λ (p : Program). HasPlainNames p.sig) (sym grown.program) c.requires.names

pub state-requires-clause-written : goal.state-requires-clause-written
state-requires-clause-written c =
    begun_written c.args.program.now c.in_ok-prover.prover c.keep_reach_lemma.new.prover
    c.start_reaches.new.prover c.in_ok-writer.writer c.in_ok-prover.ensures
    c.in_ok-reach.ensures.grown
    c.in_ok-first.ensures.grown c.in_ok-writer.ensures.written

pub state-requires-clause-follows : goal.state-requires-clause-follows
state-requires-clause-follows c s has told = c.in_ok-first.ensures.stays s has

pub invariant_of-result : goal.invariant_of-result
invariant_of-result c =
    let grown : HasGrown (new_context c.args.program.now) c.start_reaches.new.prover =
    begun_grown c.args.program.now c.in_ok-prover.prover c.keep_reach_lemma.new.prover
    c.start_reaches.new.prover c.in_ok-prover.ensures c.in_ok-reach.ensures.grown
    c.in_ok-first.ensures.grown in
    let proof : Inside =
    record {
      prover = c.start_reaches.new.prover;
      writer = c.state.new.writer;
      start = c.args.start;
      reached = c.in_ok-reached.reached;
      last = c.in_ok-last.last;
      reach = c.in_ok-reach.reach;
      steps = 0;
      bytes = c.len.result;
      failed = false;
    } in
    is_proof c.args.program.now (value_told (option_copied c.args.value)) c.in_ok-first.first proof
    grown.program c.requires.well_sorted c.requires.bound c.requires.names
    (sorted_has_none c.args.program.now.sig (plain_pattern c.args.start.now) c.requires.start.0
    c.requires.start.1) c.in_ok-first.ensures.says c.in_ok-reached.ensures
    c.in_ok-last.ensures.lemma
    c.in_ok-reach.ensures.says
    (lemma_grown c.keep_reach_lemma.new.prover c.start_reaches.new.prover c.in_ok-reach.reach
    c.in_ok-first.ensures.grown c.in_ok-reach.ensures.there)
    c.in_ok-last.ensures.all.written c.in_ok-last.ensures.no_hypotheses c.in_ok-last.ensures.stated

pub returns : goal.returns
returns c =
    let grown : HasGrown (new_context c.args.program.now) c.start_reaches.new.prover =
    begun_grown c.args.program.now c.in_ok-prover.prover c.keep_reach_lemma.new.prover
    c.start_reaches.new.prover c.in_ok-prover.ensures c.in_ok-reach.ensures.grown
    c.in_ok-first.ensures.grown in
    let proof : Inside =
    record {
      prover = c.start_reaches.new.prover;
      writer = c.state.new.writer;
      start = c.args.start;
      reached = c.in_ok-reached.reached;
      last = c.in_ok-last.last;
      reach = c.in_ok-reach.reach;
      steps = 0;
      bytes = c.len.result;
      failed = false;
    } in
    begins c.args.program.now (value_told (option_copied c.args.value)) c.in_ok-writer.writer
    c.in_ok-first.first proof c.args.to.now.items c.begin.new.to.items c.state.new.to.items
    grown
    (sorted_has_none c.args.program.now.sig (plain_pattern c.args.start.now) c.requires.start.0
    c.requires.start.1) c.in_ok-first.ensures.says c.in_ok-reached.ensures
    c.in_ok-writer.ensures.written c.in_ok-writer.ensures.text c.in_ok-last.ensures.concludes
    c.in_ok-last.ensures.text c.requires.none refl refl (omega arith)
