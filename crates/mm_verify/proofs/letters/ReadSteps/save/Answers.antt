use Rattle.std.proofs.Common.{rules, ◌≡◌, ◌∙◌, ◌+◌, ◌∷◌, [], List, ap, sym, map}
use Rattle.std.proofs.lemmas.List.{map-append}
use Rattle.mm_text.specs.Compressed.{a_number, a_save}
use Rattle.mm_database.specs.Steps.{Step}
use Rattle.mm_frame.specs.NumberedSteps.{Citation}
use Rattle.mm_verify.specs.declared.machine.Step.TheVariants as code
use Rattle.mm_verify.specs.Running.{step_of}
use Rattle.mm_verify.specs.Digits.{before_of}
use Rattle.mm_frame.specs.PlainFrames.{mandatory_hypotheses}
use Rattle.mm_verify.specs.Reading.{left_meanings, behind_items, table_of}
use Rattle.mm_verify.proofs.ReadLetters.{save-on}
use Rattle.mm_verify.proofs.letters.ReadSteps.save.Goals as goal

pub returns : goal.returns
returns c b is others =
    let s = c.args.self.now in
    let table = table_of (mandatory_hypotheses s.mandatory.now) s.listed.items in
    let number : before_of s.behind ≡ a_number = search rules in
    save-on (map step_of s.steps.items) table s.saved b (before_of s.behind) others number is
    ∙ ap (λ (done : List (Step Citation)).
    behind_items done (left_meanings table (s.saved + 1) a_save others))
    (sym (ap (map
    step_of) c.in_ok-push.ensures.items ∙ map-append step_of s.steps.items (code.Saves ∷ [])))
