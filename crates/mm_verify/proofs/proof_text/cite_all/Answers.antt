use Rattle.std.proofs.Common.{◌∙◌, ◌+◌, ◌∷◌, [], List, ap, sym, map, drop}
use Rattle.std.specs.Prelude.{option_map}
use Rattle.std.proofs.lemmas.List.{map-append}
use Rattle.mm_text.specs.Reader.{words_of}
use Rattle.mm_scope.specs.ScopeState.{scope_state}
use Rattle.mm_frame.specs.NumberedSteps.{Citation}
use Rattle.mm_verify.specs.Running.{citation_of}
use Rattle.mm_verify.specs.Reading.{behind_items}
use Rattle.mm_verify.specs.Citing.{all_cited}
use Rattle.mm_verify.proofs.ReadProofs.{cited-next}
use Rattle.mm_verify.proofs.proof_text.cite_all.Goals as goal

pub loop-label-preserved : goal.loop-label-preserved
loop-label-preserved c =
    let h = scope_state c.args.known.now.scopes.now in
    let labels = c.args.labels.now in
    let i = c.loop-label.label-index in
    c.loop-label.invariant
    ∙ cited-next h c.args.bytes.now labels i (record { from = 0; to = 0 })
    (map citation_of c.loop-label.citations.items) c.word.result.now
    (citation_of c.in-Some.citation)
    c.loop-label-test.true c.word.ensures
    (sym (ap (option_map citation_of) c.in-Some.is) ∙ c.cite.ensures)
    ∙ ap (λ (done : List Citation).
    behind_items done (all_cited h (words_of c.args.bytes.now (drop (i + 1) labels))))
    (sym (ap (map
    citation_of) c.in_ok-push-in-Some.ensures.items ∙ map-append citation_of
    c.loop-label.citations.items (c.in-Some.citation ∷ [])))
