use Rattle.std.proofs.Common.{sym, ◌∙◌}
use Rattle.kore_ast.specs.Reading.{left}
use Rattle.kore_ast.proofs.Steps.{not_over}
use Rattle.kore_ast.proofs.reader.Reader.another.Goals as goal

pub returns-then-not-first-clause-some : goal.returns-then-not-first-clause-some
returns-then-not-first-clause-some c =
    λ h. not_over c.args.close (left c.args.self.now) (sym c.is_over.ensures ∙ c.if-is_over.false)

pub returns-else-not-first-clause-some : goal.returns-else-not-first-clause-some
returns-else-not-first-clause-some c =
    λ h. not_over c.args.close (left c.args.self.now) (sym c.is_over.ensures ∙ c.if-is_over.false)
