use Rattle.kore_ast.specs.Plain.{plain_sort}
use Rattle.kore_check.specs.PatternFaults.{sort_faults}
use Rattle.kore_axioms.proofs.NotingLaws.{as_noted}
use Rattle.kore_axioms.proofs.sides.noted_sort.Goals as goal

pub returns-clause-first : goal.returns-clause-first
returns-clause-first c =
    as_noted (sort_faults c.args.sig.now (plain_sort c.args.sort.now)) c.args.first.now
    c.note_sort.new.first c.note_sort.ensures.first
