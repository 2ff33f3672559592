use Rattle.std.proofs.Common.{rules, arith, ◌∙◌, ◌+◌, ◌*◌, ◌^◌, ◌<◌, ◌≤◌, ap, List, map, length}
use Rattle.std.proofs.Common.{Option}
use Rattle.mm_text.specs.Compressed.{value_before}
use Rattle.mm_database.specs.Steps.{Step}
use Rattle.mm_frame.specs.NumberedSteps.{Citation}
use Rattle.mm_verify.specs.Running.{step_of}
use Rattle.mm_verify.specs.Digits.{before_of}
use Rattle.mm_frame.specs.PlainFrames.{mandatory_hypotheses}
use Rattle.mm_verify.specs.Reading.{behind_items, table_of}
use Rattle.mm_verify.proofs.ReadLetters.{digit-read, letters-past}
use Rattle.mm_verify.proofs.FewSteps.{few_steps}
use Rattle.mm_verify.proofs.letters.ReadSteps.add_digit.Goals as goal

pub returns-in-None : goal.returns-in-None
returns-in-None c b is others =
    let past : 2 ^ 128 ≤ 5 * value_before (before_of c.args.self.now.behind) + c.args.d =
    search rules in
    let few : length (table_of (mandatory_hypotheses c.args.self.now.mandatory.now)
    c.args.self.now.listed.items) + c.args.self.now.saved < 2 ^ 128 =
    few_steps c.args.self.now in
    ap (λ (o : Option (List (Step Citation))).
    behind_items (map step_of c.args.self.now.steps.items) o)
    (digit-read
    (table_of (mandatory_hypotheses c.args.self.now.mandatory.now) c.args.self.now.listed.items)
    c.args.self.now.saved c.args.d b (before_of c.args.self.now.behind) others is
    ∙ letters-past
    (table_of (mandatory_hypotheses c.args.self.now.mandatory.now) c.args.self.now.listed.items)
    c.args.self.now.saved (5 * value_before (before_of c.args.self.now.behind) + c.args.d)
    others (omega (arith, few, past)))
