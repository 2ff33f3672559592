use Rattle.std.proofs.Common.{◌∙◌, ap, arith}
use Rattle.kore_lex.specs.Value.{unescaped_text}
use Rattle.kore_lex.proofs.ValueLaws.{plain-past}
use Rattle.kore_lex.proofs.value.text_value.Goals as goal

pub returns : goal.returns
returns c = plain-past _ c.loop-at.at _ (omega arith) ∙ c.loop-at.invariant.read
    ∙ ap (unescaped_text 0) c.inner-inner.ensures.bytes
