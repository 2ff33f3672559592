use Rattle.std.proofs.Common.{◌≡◌, false, take}
use Rattle.std.specs.List.{list_any}
use Rattle.mm_text.specs.Reader.{words_of}
use Rattle.mm_scope.specs.ScopeState.{scope_state}
use Rattle.mm_scope.specs.StateReads.{is_mandatory_named}
use Rattle.mm_verify.proofs.proof_text.cite_mandatory.Given as goal

abbrev pub invariant-loop-label : goal.invariant-loop-label
invariant-loop-label l =
    list_any (is_mandatory_named (scope_state l.known.scopes.now) l.symbols)
    (words_of l.bytes (take l.label-index l.labels)) ≡ false
