use Rattle.std.proofs.Common.{ℕ, List, length, ap, sym, subst, ◌∙◌}
use Rattle.std.specs.Prelude.{IfOk, option_map}
use Rattle.mm_database.specs.Stack.{saving, stack_with}
use Rattle.mm_frame.specs.Numbered.{NumberedFrame}
use Rattle.mm_frame.specs.NumberedSteps.{numbered_applied}
use Rattle.mm_verify.specs.StoredView.{stored_frame}
use Rattle.mm_verify.specs.Applied.{AgreesWithStep}
use Rattle.mm_verify.proofs.stored.StoredAssertion.apply.Goals as goal

pub returns-in-Built-clause-step : goal.returns-in-Built-clause-step
returns-in-Built-clause-step g c =
    subst (λ (f : NumberedFrame). IfOk c.apply.result (AgreesWithStep
    (option_map (λ (s : List (List ℕ)). saving s c.args.entries.now.saved)
    (stack_with (numbered_applied (g.P.Place.place c.args.place.now) f) (length f.hypotheses)
    c.args.entries.now.stack)) c.args.entries.now c.apply.new.entries))
    (ap stored_frame (sym c.in-Built.is)) c.apply.ensures.step

pub returns-in_ok-assertion-in-Shared-clause-step :
    goal.returns-in_ok-assertion-in-Shared-clause-step
returns-in_ok-assertion-in-Shared-clause-step g c =
    subst (λ (f : NumberedFrame). IfOk c.apply-in-Shared.result
    (AgreesWithStep (option_map (λ (s : List (List ℕ)). saving s c.args.entries.now.saved)
    (stack_with (numbered_applied (g.P.Place.place c.args.place.now) f)
    (length f.hypotheses) c.args.entries.now.stack)) c.args.entries.now
    c.apply-in-Shared.new.entries))
    (c.in_ok-assertion-in-Shared.ensures ∙ ap stored_frame (sym c.in-Shared.is))
    c.apply-in-Shared.ensures.step
