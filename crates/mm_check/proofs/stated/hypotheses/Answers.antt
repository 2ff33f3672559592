use Rattle.std.proofs.Common.{◌∙◌, ap, sym, ◌≡◌}
use Rattle.std.specs.Prelude.{slice_get, Some, None}
use Rattle.mm_frame.specs.PlainFrames.{mandatory_hypotheses, plain_hypothesis}
use Rattle.mm_scope.specs.ScopeState.{scope_state}
use Rattle.mm_check.specs.Stated.{all_typed_by, premises_by, plain_types, plain_premises}
use Rattle.mm_check.proofs.Lists.{take_past}
use Rattle.mm_check.proofs.StatedParts.{typed_next, premises_next}
use Rattle.mm_check.proofs.stated.hypotheses.Goals as goal
use Rattle.mm_check.proofs.stated.hypotheses.Goals.{in-Some+in_ok-note, in_default}

pub loop-number-preserved : goal.loop-number-preserved
loop-number-preserved c =
    let symbols = (scope_state c.args.scopes.now).symbols in
    let hs = mandatory_hypotheses c.args.mandatory.now in
    elim c.match-hyp.branch [
      | in-Some+in_ok-note w ↦
          let there : slice_get hs c.loop-number.number
          ≡ Some (plain_hypothesis w.in-Some.hyp.now) =
          sym w.in-Some.ensures in (
            ap (λ v. plain_types v.items) w.types-is
                ∙ typed_next symbols hs c.loop-number.number (plain_hypothesis w.in-Some.hyp.now)
                (plain_types c.loop-number.types.items) (plain_types w.note.new.types.items) there
                c.loop-number.invariant.0 w.in_ok-note.ensures.types,
            ap (λ v. plain_premises v.items) w.premises-is
                ∙ premises_next symbols hs c.loop-number.number (plain_hypothesis w.in-Some.hyp.now)
                (plain_premises c.loop-number.premises.items)
                (plain_premises w.note.new.premises.items) there
                c.loop-number.invariant.1 w.in_ok-note.ensures.premises,
          )
      | in_default w ↦
          let there : slice_get hs c.loop-number.number ≡ None = sym w.in_default.ensures in
          let past = take_past hs c.loop-number.number there in (
            ap (λ v. plain_types v.items) w.types-is ∙ c.loop-number.invariant.0
                ∙ ap (all_typed_by symbols) (sym past),
            ap (λ v. plain_premises v.items) w.premises-is ∙ c.loop-number.invariant.1
                ∙ ap (premises_by symbols) (sym past),
          )
    ]
