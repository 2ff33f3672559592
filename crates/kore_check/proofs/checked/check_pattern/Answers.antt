use Rattle.std.proofs.Common.{rules, ◌≡◌, [], None, Some, sym, subst}
use Rattle.std.specs.Prelude.{nat_lt}
use Rattle.kore_ast.specs.Plain.{pattern_tree as plain_tree}
use Rattle.kore_sig.specs.FirstFault.{when}
use Rattle.kore_check.specs.FaultNumbers.{IsRefusal}
use Rattle.kore_check.specs.Folds.{unfolded, unfolded_height, unfolded_byte}
use Rattle.kore_check.specs.PatternSorts.{sort_of_pattern}
use Rattle.rule_core.specs.Evaluation.{most_height}
use Rattle.kore_check.specs.PatternFaults.{pattern_faults, all_faults}
use Rattle.kore_check.proofs.BuildLaws.{parts_empty}
use Rattle.kore_check.proofs.CheckLaws.{nothing_noted, something_noted, faultless_sorted}
use Rattle.term_core.specs.RulePatterns.{plain_pattern}
use Rattle.kore_check.proofs.SortedLaws.{meanings_are_sorted}
use Rattle.kore_check.proofs.checked.check_pattern.Goals as goal

pub returns-in-Some-clause-refused : goal.returns-in-Some-clause-refused
returns-in-Some-clause-refused c =
    subst (IsRefusal (all_faults c.args.sig.now (unfolded (plain_tree c.args.pat.now))))
    (sym c.from.ensures)
    (something_noted (all_faults c.args.sig.now (unfolded (plain_tree c.args.pat.now)))
    c.note_pattern-sort.new.first c.in-Some.fault c.note_pattern-sort.ensures.first
    c.in-Some.is)

pub unreachable-requires : goal.unreachable-requires
unreachable-requires c =
    let none : all_faults c.args.sig.now (unfolded (plain_tree c.args.pat.now)) ≡ [] =
    nothing_noted (all_faults c.args.sig.now (unfolded (plain_tree c.args.pat.now)))
    c.note_pattern-sort.new.first c.note_pattern-sort.ensures.first c.in_default.is in
    let no_sort : sort_of_pattern c.args.sig.now (unfolded (plain_tree c.args.pat.now)) ≡ None =
    search rules in
    faultless_sorted c.args.sig.now (unfolded (plain_tree c.args.pat.now)) c.requires.signature
    c.requires.form
    ((parts_empty (when (nat_lt most_height
    (unfolded_height (unfolded (plain_tree c.args.pat.now)))) 3
    (unfolded_byte (unfolded (plain_tree c.args.pat.now))))
    (pattern_faults c.args.sig.now (unfolded (plain_tree c.args.pat.now))) none).1) no_sort

pub build_pattern-requires-clause-faultless : goal.build_pattern-requires-clause-faultless
build_pattern-requires-clause-faultless c =
    let none : all_faults c.args.sig.now (unfolded (plain_tree c.args.pat.now)) ≡ [] =
    nothing_noted (all_faults c.args.sig.now (unfolded (plain_tree c.args.pat.now)))
    c.note_pattern-sort.new.first c.note_pattern-sort.ensures.first c.in_default.is in
    (parts_empty (when (nat_lt most_height (unfolded_height (unfolded (plain_tree c.args.pat.now))))
    3
    (unfolded_byte (unfolded (plain_tree c.args.pat.now))))
    (pattern_faults c.args.sig.now (unfolded (plain_tree c.args.pat.now))) none).1

pub returns-clause-faultless : goal.returns-clause-faultless
returns-clause-faultless c =
    nothing_noted (all_faults c.args.sig.now (unfolded (plain_tree c.args.pat.now)))
    c.note_pattern-sort.new.first c.note_pattern-sort.ensures.first c.in_default.is

pub returns-clause-sorted : goal.returns-clause-sorted
returns-clause-sorted c =
    let sort : sort_of_pattern c.args.sig.now (unfolded (plain_tree c.args.pat.now)) ≡ Some
    c.in-Some-sort.sort.0 =
    search rules in
    meanings_are_sorted c.args.sig.now c.build_pattern.new.vars
    (unfolded (plain_tree c.args.pat.now)) (plain_pattern c.in_ok-made.made)
    c.in-Some-sort.sort.0 c.requires.signature
    ((parts_empty (when (nat_lt most_height
    (unfolded_height (unfolded (plain_tree c.args.pat.now)))) 3
    (unfolded_byte (unfolded (plain_tree c.args.pat.now))))
    (pattern_faults c.args.sig.now (unfolded (plain_tree c.args.pat.now)))
    (returns-clause-faultless c)).1) c.in_ok-made.ensures.means sort
