use Rattle.std.proofs.Common.{ℕ}
use Rattle.std.specs.Prelude.{Option, option_map}
use Rattle.kore_ast.specs.Plain.{pattern_tree}
use Rattle.kore_check.specs.Folds.{unfolded}
use Rattle.kore_check.specs.Notes.{sort_no}
use Rattle.kore_axioms.specs.RuleFaults.{faults_at_sort}
use Rattle.kore_axioms.proofs.NotingLaws.{none_seen}
use Rattle.kore_axioms.proofs.sides.is_faultless.Goals as goal

pub returns : goal.returns
returns c =
    let wanted : Option ℕ = option_map sort_no c.args.wanted in
    none_seen (faults_at_sort c.args.sig.now wanted (unfolded (pattern_tree c.args.pat.now)))
    c.note_at_sort.new.first c.is_none.result c.note_at_sort.ensures c.is_none.ensures
