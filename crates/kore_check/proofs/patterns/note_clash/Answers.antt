use Rattle.std.specs.Prelude.{option_map}
use Rattle.kore_check.specs.PatternFaults.{clash_faults}
use Rattle.kore_check.specs.Notes.{sort_no}
use Rattle.kore_check.proofs.NotedLaws.{first-kept}
use Rattle.kore_check.proofs.patterns.note_clash.Goals as goal

pub returns : goal.returns
returns c = λ before is.
    first-kept before
    (clash_faults c.args.at (option_map sort_no c.args.own) (option_map sort_no c.args.wanted))
    c.args.first.now c.check_clash.new.first is c.check_clash.ensures
