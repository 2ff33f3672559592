use Rattle.std.proofs.Common.{rules, arith, ◌∙◌, ◌+◌, ◌-◌, ◌*◌, ◌^◌, ◌≤◌, ap, sym, List, ℕ, map}
use Rattle.std.proofs.Common.{Option, Some, ◌≡◌, ◌∷◌, []}
use Rattle.std.specs.Prelude.{option_map}
use Rattle.std.proofs.lemmas.List.{map-append}
use Rattle.mm_verify.specs.declared.machine.Citation as code
use Rattle.mm_text.specs.Compressed.{value_before, a_number}
use Rattle.mm_database.specs.Steps.{Step}
use Rattle.mm_frame.specs.NumberedSteps.{Citation}
use Rattle.mm_verify.specs.Running.{step_of}
use Rattle.mm_verify.specs.Digits.{before_of}
use Rattle.mm_database.specs.ProofText.{with_step, step_of_number}
use Rattle.mm_frame.specs.PlainFrames.{mandatory_hypotheses}
use Rattle.mm_verify.specs.Reading.{left_meanings, behind_items, table_of}
use Rattle.mm_verify.proofs.ReadLetters.{last-read, step_of_number-past, number-on}
use Rattle.mm_verify.proofs.FewSteps.{few_steps}
use Rattle.mm_verify.proofs.letters.ReadSteps.end_number.Goals as goal

pub returns-in_default : goal.returns-in_default
returns-in_default c b is others =
    let past : 2 ^ 128 ≤ 20 * value_before (before_of c.args.self.now.behind) + c.args.d =
    search rules in
    let few = few_steps c.args.self.now in
    let table =
    table_of (mandatory_hypotheses c.args.self.now.mandatory.now)
    c.args.self.now.listed.items in
    let none =
    step_of_number-past table c.args.self.now.saved
    (20 * value_before (before_of c.args.self.now.behind) + c.args.d - 1)
    (omega (arith, few, past)) in
    ap (λ (o : Option (List (Step Citation))).
    behind_items (map step_of c.args.self.now.steps.items) o)
    (last-read table c.args.self.now.saved c.args.d b (before_of c.args.self.now.behind) others is
    ∙ ap (λ (o : Option (Step Citation)).
    with_step o (left_meanings table c.args.self.now.saved a_number others)) none)

pub returns-in_ok-push-in-Some-meaning : goal.returns-in_ok-push-in-Some-meaning
returns-in_ok-push-in-Some-meaning c b is others =
    let s = c.args.self.now in
    let before = before_of s.behind in
    let table = table_of (mandatory_hypotheses s.mandatory.now) s.listed.items in
    let step = c.in-Some-meaning.step in
    let number : c.in-Some.number ≡ 20 * value_before before + c.args.d =
    c.in-Some.ensures ∙ ap (λ (v : ℕ). 20 * v + c.args.d) c.value.ensures in
    let found : step_of_number table s.saved (20 * value_before before + c.args.d - 1) ≡ Some
    (step_of step) =
    ap (λ (n : ℕ). step_of_number table s.saved (n - 1)) (sym number)
    ∙ ap (λ (xs : List code.Citation). step_of_number
    (table_of (mandatory_hypotheses s.mandatory.now) xs) s.saved (c.in-Some.number - 1))
    (sym c.deref.ensures.value)
    ∙ sym c.meaning.ensures ∙ ap (option_map step_of) c.in-Some-meaning.is in
    number-on (map step_of s.steps.items) table s.saved c.args.d b before others (step_of step) is
    found
    ∙ ap (λ (done : List (Step Citation)).
    behind_items done (left_meanings table s.saved a_number others))
    (sym (ap (map
    step_of) c.in_ok-push-in-Some-meaning.ensures.items ∙ map-append step_of s.steps.items
    (step ∷ [])))
