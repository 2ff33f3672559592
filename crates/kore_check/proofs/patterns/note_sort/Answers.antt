use Rattle.kore_ast.specs.Plain.{plain_sort}
use Rattle.kore_check.specs.PatternFaults.{sort_faults}
use Rattle.kore_check.proofs.NotedLaws.{first-kept}
use Rattle.kore_check.proofs.patterns.note_sort.Goals as goal

pub returns-clause-first : goal.returns-clause-first
returns-clause-first c = λ before is.
    first-kept before (sort_faults c.args.sig.now (plain_sort c.args.sort.now)) c.args.first.now
    c.check_sort.new.first is c.check_sort.ensures.first
