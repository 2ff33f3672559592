use Rattle.std.proofs.Common.{ap, sym, ◌∙◌}
use Rattle.kore_text.specs.Remaining.{size as count}
use Rattle.kore_ast.specs.Reading.{left}
use Rattle.kore_ast.proofs.Steps.{after_done, count_after}
use Rattle.kore_ast.proofs.reader.Reader.pass.Goals as goal

pub returns-then-is_done-clause-shorter : goal.returns-then-is_done-clause-shorter
returns-then-is_done-clause-shorter c =
    ap count (after_done (left c.args.self.now) (sym c.is_done.ensures.same ∙ c.if-is_done.true))
    ∙ count_after (left c.args.self.now)
