use Rattle.std.proofs.Common.{◌≡◌, ◌∙◌, ap, sym, List, ℕ, []}
use Rattle.std.specs.Prelude.{◌||◌}
use Rattle.std.specs.List.{list_any}
use Rattle.std.proofs.lemmas.Result.{IfOk-weaker}
use Rattle.mm_text.specs.Reader.{words_of}
use Rattle.mm_frame.specs.PlainFrames.{plain_frame}
use Rattle.mm_scope.specs.ScopeState.{scope_state}
use Rattle.mm_scope.specs.StateReads.{is_mandatory_named}
use Rattle.mm_frame.specs.ExpressionView.{expression_symbols}
use Rattle.mm_verify.specs.ProofSteps.{clashes}
use Rattle.mm_verify.proofs.Clashing.{clashes-labelled}
use Rattle.mm_verify.proofs.proof_text.clash.Goals as goal

pub returns-in-Shared : goal.returns-in-Shared
returns-in-Shared c =
    let h = scope_state c.args.known.now.scopes.now in
    let words = words_of c.args.bytes.now c.args.labels.now in
    IfOk-weaker c.clash_with_mandatory.result _ _
    (λ r is labelled. is
    ∙ ap (λ (ns : List ℕ). list_any (is_mandatory_named h ns) words || clashes [] words)
    (c.symbols-symbols.ensures ∙ ap expression_symbols c.deref-in-Shared.ensures)
    ∙ sym (clashes-labelled h (plain_frame c.args.frame.now) words labelled))
    c.clash_with_mandatory.ensures
