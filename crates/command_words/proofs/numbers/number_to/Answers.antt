use Rattle.std.proofs.Common.{sym, ◌∙◌}
use Rattle.command_words.proofs.NumberLaws.{number-parsed}
use Rattle.command_words.proofs.numbers.number_to.Goals as goal

pub returns-in_default-2-clause-bad : goal.returns-in_default-2-clause-bad
returns-in_default-2-clause-bad c =
    let read =
    number-parsed c.args.word.now c.parse.result c.parse.ensures.value.0
    (sym c.is_number.ensures ∙ c.if-not-is_number.false) in
    absurd (let wrong : ⊥ = cc in wrong)
