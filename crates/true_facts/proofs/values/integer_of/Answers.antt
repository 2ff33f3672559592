use Rattle.std.proofs.Common.{sym, ◌∙◌}
use Rattle.true_facts.proofs.IntegerLaws.{not_parsed, parsed_only, parsed_other}
use Rattle.true_facts.proofs.values.integer_of.Goals as goal

pub returns-in_default : goal.returns-in_default
returns-in_default c =
    not_parsed c.args.text.now c.parse.result c.in_default.not-Ok c.parse.ensures.value.0

pub returns-then-eq : goal.returns-then-eq
returns-then-eq c =
    parsed_only c.in-Ok.number c.args.text.now c.format.result.now c.parse.result c.in-Ok.is
    c.parse.ensures.value.0 c.format.ensures.text (sym c.eq.ensures ∙ c.if-eq.true)

pub returns-else-eq : goal.returns-else-eq
returns-else-eq c =
    parsed_other c.in-Ok.number c.args.text.now c.format.result.now c.parse.result c.in-Ok.is
    c.parse.ensures.value.0 c.format.ensures.text (sym c.eq.ensures ∙ c.if-eq.false)
