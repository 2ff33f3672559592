use Rattle.std.proofs.Common.{◌≡◌, ◌+◌, ℕ, length, ◌∙◌, ap, arith}
use Rattle.rule_core.specs.Records.{result_of}
use Rattle.rule_core.specs.RecordView.{plain_step}
use Rattle.mm_justify.specs.Counting.{capped}
use Rattle.prove_run.specs.ProofView.{IsProof}
use Rattle.prove_run.proofs.ProofLaws.{may_go_on, names_kept, written_before, further_follows}
use Rattle.prove_run.proofs.ProofLaws.{goes_proof, steps_to, not_failed}
use Rattle.prove_run.proofs.proof.Proof.state_step.Goals as goal

pub goes_further-requires : goal.goes_further-requires
goes_further-requires c =
    let proof : IsProof c.self.inside =
    not_failed c.self.inside c.args.self.now c.self.view_is c.requires.sound c.self.invariant in
    may_go_on c.self.inside c.args.self.now (plain_step c.args.step.now) c.self.view_is proof
    c.requires.applies

pub state-requires-clause-names : goal.state-requires-clause-names
state-requires-clause-names c =
    let proof : IsProof c.self.inside =
    not_failed c.self.inside c.args.self.now c.self.view_is c.requires.sound c.self.invariant in
    names_kept c.self.inside c.goes_further.new.prover
    (result_of (plain_step c.args.step.now).right) c.in_ok-further.further proof
    c.in_ok-further.ensures

pub state-requires-clause-written : goal.state-requires-clause-written
state-requires-clause-written c =
    let proof : IsProof c.self.inside =
    not_failed c.self.inside c.args.self.now c.self.view_is c.requires.sound c.self.invariant in
    written_before c.self.inside c.goes_further.new.prover
    (result_of (plain_step c.args.step.now).right) c.in_ok-further.further proof
    c.in_ok-further.ensures

pub state-requires-clause-follows : goal.state-requires-clause-follows
state-requires-clause-follows c =
    let proof : IsProof c.self.inside =
    not_failed c.self.inside c.args.self.now c.self.view_is c.requires.sound c.self.invariant in
    further_follows c.self.inside c.goes_further.new.prover
    (result_of (plain_step c.args.step.now).right) c.in_ok-further.further proof
    c.in_ok-further.ensures

pub invariant_of-self-2 : goal.invariant_of-self-2
invariant_of-self-2 c =
    let proof : IsProof c.self.inside =
    not_failed c.self.inside c.args.self.now c.self.view_is c.requires.sound c.self.invariant in
    goes_proof c.self.inside c.goes_further.new.prover c.state.new.writer c.in_ok-further.further
    c.in_ok-last.last (result_of (plain_step c.args.step.now).right) c.in_ok-made.made
    c.saturating_add-self-inside.result
    c.saturating_add-self-inside-2.result
    proof c.in_ok-further.ensures (c.in_ok-made.ensures.same ∙ c.result.ensures)
    c.in_ok-last.ensures.lemma c.in_ok-last.ensures.all.written c.in_ok-last.ensures.no_hypotheses
    c.in_ok-last.ensures.stated

pub returns-clause-steps : goal.returns-clause-steps
returns-clause-steps c =
    let proof : IsProof c.self.inside =
    not_failed c.self.inside c.args.self.now c.self.view_is c.requires.sound c.self.invariant in
    let bytes : c.len.result ≡ length c.state.new.to.items = omega arith in
    steps_to c.self.inside c.args.self.now c.goes_further.new.prover c.state.new.writer
    c.in_ok-further.further c.in_ok-last.last (result_of (plain_step c.args.step.now).right)
    c.in_ok-made.made
    c.args.to.now.items c.state.new.to.items c.saturating_add-self-inside.result
    c.saturating_add-self-inside-2.result
    c.self.view_is proof c.in_ok-further.ensures
    (c.in_ok-made.ensures.same ∙ c.result.ensures)
    c.in_ok-last.ensures.concludes c.in_ok-last.ensures.text c.requires.none
    c.saturating_add-self-inside.ensures
    (c.saturating_add-self-inside-2.ensures
    ∙ ap (λ (n : ℕ). capped (c.self.inside.bytes + n)) bytes)
