use Rattle.kore_prove.specs.Limits.{definition_limit}
use Rattle.kore_prove.proofs.Deciding.{unread_definition}
use Rattle.kore_prove.proofs.reading.definition_end.Goals as goal

pub returns-in-Unread : goal.returns-in-Unread
returns-in-Unread c = λ told reads reads' cause.
    unread_definition told c.args.name.now reads reads' _
    (c.unread_end.ensures told definition_limit reads reads' (rw c.in-Unread.is at cause))
