use Rattle.std.proofs.Common.{◌∙◌, sym}
use Rattle.mm_scope.specs.ScopeState.{scope_state}
use Rattle.mm_scope.specs.StateReads.{is_mandatory_named}
use Rattle.mm_verify.proofs.Clashing.{found-among, none-among}
use Rattle.mm_verify.proofs.proof_text.cite_mandatory.Goals as goal

pub returns-then-is_mandatory : goal.returns-then-is_mandatory
returns-then-is_mandatory c =
    found-among (is_mandatory_named (scope_state c.args.known.now.scopes.now)
    c.args.symbols.now) c.args.bytes.now
    c.args.labels.now c.loop-label.label-index (record { from = 0; to = 0 }) c.word.result.now
    c.loop-label-test.true c.word.ensures
    (sym c.is_mandatory.ensures ∙ c.if-is_mandatory.true)

pub loop-label-preserved : goal.loop-label-preserved
loop-label-preserved c =
    none-among (is_mandatory_named (scope_state c.args.known.now.scopes.now)
    c.args.symbols.now) c.args.bytes.now
    c.args.labels.now c.loop-label.label-index (record { from = 0; to = 0 }) c.word.result.now
    c.loop-label-test.true c.word.ensures
    (sym c.is_mandatory.ensures ∙ c.if-is_mandatory.false)
    c.loop-label.invariant
