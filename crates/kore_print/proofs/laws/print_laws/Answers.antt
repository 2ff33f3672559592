use Rattle.kore_print.proofs.ReadingBack.{reads_back}
use Rattle.kore_print.proofs.Readable.{read_readable}
use Rattle.kore_print.proofs.laws.print_laws.Goals as goal

pub returns-clause-back : goal.returns-clause-back
returns-clause-back c = reads_back

pub returns-clause-only : goal.returns-clause-only
returns-clause-only c = read_readable
