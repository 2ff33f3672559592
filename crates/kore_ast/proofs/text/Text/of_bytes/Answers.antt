use Rattle.std.proofs.lemmas.Str.{IsUtf8-from_is_utf8}
use Rattle.kore_ast.proofs.text.Text.of_bytes.Goals as goal

pub unreachable-requires : goal.unreachable-requires
unreachable-requires c = c.in_default.ensures.cases.0 (IsUtf8-from_is_utf8 c.args.bytes.now c.requires)
