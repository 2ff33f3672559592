use Rattle.std.specs.Prelude.{◌≡◌, map, drop}
use Rattle.mm_text.specs.Reader.{words_of}
use Rattle.mm_scope.specs.ScopeState.{scope_state}
use Rattle.mm_verify.specs.Running.{citation_of}
use Rattle.mm_verify.specs.Reading.{behind_items}
use Rattle.mm_verify.specs.Citing.{all_cited}
use Rattle.mm_verify.proofs.proof_text.cite_all.Given as goal

abbrev pub invariant-loop-label : goal.invariant-loop-label
invariant-loop-label l =
    behind_items (map citation_of l.fn.citations.items)
    (all_cited (scope_state l.known.scopes.now) (words_of l.bytes l.labels))
    ≡ behind_items (map citation_of l.citations.items)
    (all_cited (scope_state l.known.scopes.now)
    (words_of l.bytes (drop l.label-index l.labels)))
