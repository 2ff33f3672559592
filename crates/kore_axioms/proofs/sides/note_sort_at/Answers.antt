use Rattle.std.proofs.Common.{◌≡◌, ℕ, subst}
use Rattle.std.specs.Prelude.{Option, option_map}
use Rattle.kore_ast.specs.Plain.{plain_sort}
use Rattle.kore_sig.specs.SortReferences.{sort_number}
use Rattle.kore_check.specs.PatternFaults.{sort_faults, clash_faults}
use Rattle.kore_check.specs.Notes.{kept_fault, after, sort_no}
use Rattle.kore_axioms.proofs.NotingLaws.{as_noted, noted_both}
use Rattle.kore_axioms.proofs.sides.note_sort_at.Goals as goal

pub returns : goal.returns
returns c =
    let t = plain_sort c.args.sort.now in
    let wanted : Option ℕ = option_map sort_no c.args.wanted in
    let middle = c.noted_sort-own.new.first in
    let clash : kept_fault c.note_clash.new.first ≡ after middle
    (clash_faults c.args.at (option_map sort_no c.noted_sort-own.result) wanted) =
    as_noted (clash_faults c.args.at (option_map sort_no c.noted_sort-own.result) wanted) middle
    c.note_clash.new.first c.note_clash.ensures in
    noted_both (sort_faults c.args.sig.now t)
    (clash_faults c.args.at (sort_number c.args.sig.now.sorts t) wanted) c.args.first.now middle
    c.note_clash.new.first c.noted_sort-own.ensures.first
    (subst (λ (o : Option ℕ).
    kept_fault c.note_clash.new.first ≡ after middle (clash_faults c.args.at o wanted))
    c.noted_sort-own.ensures.sort clash)
