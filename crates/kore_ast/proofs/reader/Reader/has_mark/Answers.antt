use Rattle.kore_text.specs.Remaining.{left as behind}
use Rattle.kore_ast.proofs.Steps.{first-some}
use Rattle.kore_ast.proofs.reader.Reader.has_mark.Goals as goal

pub returns-in-Token-Punct-default-default-clause-some :
    goal.returns-in-Token-Punct-default-default-clause-some
returns-in-Token-Punct-default-default-clause-some c = λ h.
    first-some c.args.self.now.next (behind c.args.self.now.tokens) _ _ _
    c.in-Token-Punct-default-default.is
