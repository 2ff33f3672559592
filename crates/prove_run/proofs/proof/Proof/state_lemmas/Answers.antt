use Rattle.std.proofs.Common.{◌≡◌, ◌+◌, ℕ, length, ◌∙◌, ap, arith}
use Rattle.mm_justify.specs.Counting.{capped}
use Rattle.prove_term.specs.Contexts.{HasGrown}
use Rattle.prove_run.specs.ProofView.{IsProof}
use Rattle.prove_run.proofs.LemmaLaws.{stay_here, grown_by, last_metas, plain_names}
use Rattle.prove_run.proofs.LemmaLaws.{written_so_far, again_follows, lemmas_proof, adds_lemmas}
use Rattle.prove_run.proofs.ProofLaws.{not_failed}
use Rattle.prove_run.proofs.proof.Proof.state_lemmas.Goals as goal

pub keep_lemmas-requires : goal.keep_lemmas-requires
keep_lemmas-requires c =
    stay_here c.self.inside c.args.self.now c.args.thms.now c.self.view_is c.requires.stays

pub once_more-requires-clause-metas : goal.once_more-requires-clause-metas
once_more-requires-clause-metas c =
    last_metas c.self.inside
    (not_failed c.self.inside c.args.self.now c.self.view_is c.requires.sound c.self.invariant)

pub once_more-requires-clause-hypotheses : goal.once_more-requires-clause-hypotheses
once_more-requires-clause-hypotheses c =
    let proof : IsProof c.self.inside =
    not_failed c.self.inside c.args.self.now c.self.view_is c.requires.sound c.self.invariant in
    proof.has_reached.no_hypotheses

pub state-requires-clause-names : goal.state-requires-clause-names
state-requires-clause-names c =
    plain_names c.self.inside c.keep_lemmas.new.prover
    (grown_by c.self.inside c.keep_lemmas.new.prover c.args.thms.now c.in_ok-keep_lemmas.ensures)
    (not_failed c.self.inside c.args.self.now c.self.view_is c.requires.sound c.self.invariant)

pub state-requires-clause-written : goal.state-requires-clause-written
state-requires-clause-written c =
    written_so_far c.self.inside c.keep_lemmas.new.prover
    (grown_by c.self.inside c.keep_lemmas.new.prover c.args.thms.now c.in_ok-keep_lemmas.ensures)
    (not_failed c.self.inside c.args.self.now c.self.view_is c.requires.sound c.self.invariant)

pub state-requires-clause-follows : goal.state-requires-clause-follows
state-requires-clause-follows c =
    again_follows c.self.inside c.keep_lemmas.new.prover c.in_ok-again.again
    (grown_by c.self.inside c.keep_lemmas.new.prover c.args.thms.now c.in_ok-keep_lemmas.ensures)
    (not_failed c.self.inside c.args.self.now c.self.view_is c.requires.sound c.self.invariant)
    c.in_ok-again.ensures.stays

pub invariant_of-self-2 : goal.invariant_of-self-2
invariant_of-self-2 c =
    lemmas_proof c.self.inside c.keep_lemmas.new.prover c.state.new.writer c.in_ok-again.again
    c.in_ok-last.last c.saturating_add-self-inside.result
    (not_failed c.self.inside c.args.self.now c.self.view_is c.requires.sound c.self.invariant)
    (grown_by c.self.inside c.keep_lemmas.new.prover c.args.thms.now c.in_ok-keep_lemmas.ensures)
    c.in_ok-again.ensures.says c.in_ok-last.ensures.lemma c.in_ok-last.ensures.all.written
    c.in_ok-last.ensures.no_hypotheses c.in_ok-last.ensures.stated

pub returns-clause-adds : goal.returns-clause-adds
returns-clause-adds c =
    let bytes : c.len.result ≡ length c.state.new.to.items = omega arith in
    adds_lemmas c.self.inside c.args.self.now c.keep_lemmas.new.prover c.state.new.writer
    c.args.thms.now c.in_ok-again.again c.in_ok-last.last c.args.to.now.items
    c.state.new.to.items c.saturating_add-self-inside.result c.self.view_is
    (not_failed c.self.inside c.args.self.now c.self.view_is c.requires.sound c.self.invariant)
    c.in_ok-keep_lemmas.ensures c.in_ok-again.ensures.says c.in_ok-last.ensures.concludes
    c.in_ok-last.ensures.text c.in_ok-last.ensures.theorems c.requires.none
    (c.saturating_add-self-inside.ensures
    ∙ ap (λ (n : ℕ). capped (c.self.inside.bytes + n)) bytes)
