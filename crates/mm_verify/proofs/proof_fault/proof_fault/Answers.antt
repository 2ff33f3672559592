use Rattle.std.proofs.Common.{◌∙◌, ap, sym, subst, map, List, ℕ}
use Rattle.std.specs.Prelude.{option_map}
use Rattle.mm_text.specs.Reader.{words_of}
use Rattle.mm_scope.specs.ScopeState.{ScopeState, scope_state}
use Rattle.mm_frame.specs.ExpressionView.{expression_symbols}
use Rattle.mm_frame.specs.PlainFrames.{plain_frame, mandatory_hypotheses}
use Rattle.mm_scope.specs.StandingLaws.{place_of}
use Rattle.mm_verify.specs.declared.machine.Step.{Step}
use Rattle.mm_verify.specs.Running.{step_of, steps_in, steps_fault}
use Rattle.mm_verify.specs.ProofSteps.{IsLabelled, steps_named}
use Rattle.mm_verify.proofs.ReadProofs.{kind-is}
use Rattle.mm_verify.proofs.proof_fault.proof_fault.Goals as goal

pub returns-in_ok-check_steps-in-Some : goal.returns-in_ok-check_steps-in-Some
returns-in_ok-check_steps-in-Some c = λ labelled.
    let frame = c.args.theorem.now.frame in
    let words = words_of c.args.bytes.now c.args.theorem.now.proof.now in
    let known = scope_state c.new-known.result.scopes.now in
    let ready =
    subst (λ (h : ScopeState). IsLabelled h (plain_frame frame))
    (sym (ap scope_state c.new-known.ensures)) labelled in
    let named =
    sym (c.in_ok-read_proof.ensures ready)
    ∙ ap (option_map steps_in) c.in-Some.is in
    let fault =
    c.in_ok-check_steps-in-Some.ensures
    ∙ ap (λ (ss : List Step).
    steps_fault (place_of known) (map step_of ss) c.symbols.result.now)
    c.deref.ensures.value
    ∙ ap (λ (ns : List ℕ). steps_fault (place_of known) (steps_in c.in-Some.steps) ns)
    (c.symbols.ensures ∙ ap expression_symbols c.deref-in-Some.ensures) in
    kind-is (scope_state c.args.scopes.now) known (expression_symbols frame.statement.value)
    (λ h. steps_named h (mandatory_hypotheses frame.mandatory.value) words)
    (steps_in c.in-Some.steps) c.in_ok-check_steps-in-Some.field-0 c.kind.result
    (ap scope_state c.new-known.ensures) named fault c.kind.ensures
