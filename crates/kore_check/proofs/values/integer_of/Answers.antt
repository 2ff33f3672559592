use Rattle.std.proofs.Common.{◌∙◌, ap}
use Rattle.kore_check.specs.ValueTexts.{integer_of_text}
use Rattle.kore_check.proofs.IntegerTexts.{parsed}
use Rattle.kore_check.proofs.values.integer_of.Goals as goal

pub returns : goal.returns
returns c =
    c.ok.ensures.value ∙ parsed c.as_str.result.now c.parse.result (c.parse.ensures.value.0)
    ∙ ap integer_of_text c.as_str.ensures
