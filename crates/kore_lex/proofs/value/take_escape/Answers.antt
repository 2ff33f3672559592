use Rattle.std.proofs.Common.{◌∙◌, ap}
use Rattle.kore_lex.specs.Escapes.{escape}
use Rattle.kore_lex.proofs.ValueLaws.{escape-took, escape-there}
use Rattle.kore_lex.proofs.value.take_escape.Goals as goal

pub unreachable-requires : goal.unreachable-requires
unreachable-requires c =
    escape-there c.args.bytes.now c.requires.some c.requires.begins c.requires.inner
    (c.in_default.ensures.value ∙ ap escape c.behind.ensures)

pub returns : goal.returns
returns c =
    escape-took c.args.bytes.now _ _ c.in-Some.escape c.requires.some c.requires.begins
    c.requires.inner
    (c.in-Some.ensures.value ∙ ap escape c.behind.ensures) c.in_ok-push.ensures.bytes
