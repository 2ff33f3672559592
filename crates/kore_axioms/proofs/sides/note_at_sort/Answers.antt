use Rattle.std.proofs.Common.{◌≡◌, ℕ, sym, subst}
use Rattle.std.specs.Prelude.{Option, option_map}
use Rattle.kore_ast.specs.Plain.{pattern_tree}
use Rattle.kore_check.specs.Folds.{unfolded, unfolded_byte}
use Rattle.kore_check.specs.PatternSorts.{sort_of_pattern}
use Rattle.kore_check.specs.PatternFaults.{all_faults, clash_faults}
use Rattle.kore_check.proofs.Places.{byte_of_next-unfolded}
use Rattle.kore_check.specs.Notes.{kept_fault, after, sort_no}
use Rattle.kore_axioms.proofs.NotingLaws.{as_noted, noted_both}
use Rattle.kore_axioms.proofs.sides.note_at_sort.Goals as goal

pub returns : goal.returns
returns c =
    let sig = c.args.sig.now in
    let u = unfolded (pattern_tree c.args.pat.now) in
    let wanted : Option ℕ = option_map sort_no c.args.wanted in
    let own : Option ℕ = option_map sort_no c.note_pattern-own.result in
    let clash : kept_fault c.note_clash.new.first ≡ after c.note_pattern-own.new.first
    (clash_faults c.args.pat.now.at own wanted) =
    as_noted _ _ _ c.note_clash.ensures in
    let placed : kept_fault c.note_clash.new.first ≡ after c.note_pattern-own.new.first
    (clash_faults (unfolded_byte u) own wanted) =
    subst (λ (b : ℕ). kept_fault c.note_clash.new.first
    ≡ after c.note_pattern-own.new.first (clash_faults b own wanted))
    (sym (byte_of_next-unfolded c.args.pat.now)) clash in
    noted_both (all_faults sig u) (clash_faults (unfolded_byte u) (sort_of_pattern sig u) wanted)
    c.args.first.now c.note_pattern-own.new.first c.note_clash.new.first
    (as_noted (all_faults sig u) c.args.first.now c.note_pattern-own.new.first
    c.note_pattern-own.ensures.first)
    (subst (λ (o : Option ℕ). kept_fault c.note_clash.new.first
    ≡ after c.note_pattern-own.new.first (clash_faults (unfolded_byte u) o wanted))
    c.note_pattern-own.ensures.sort placed)
