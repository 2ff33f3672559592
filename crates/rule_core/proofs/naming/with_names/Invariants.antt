use Rattle.std.proofs.Common.{◌≡◌, List, ◌++◌}
use Rattle.term_core.specs.PatternLists.{plain_patterns}
use Rattle.rule_core.specs.NamedLaws.{AddsNames}
use Rattle.rule_core.specs.ProgramView.{names_of}
use Rattle.rule_core.specs.declared.rules.Named.{Named}
use Rattle.rule_core.proofs.naming.with_names.Given as goal

abbrev pub invariant-loop-name : goal.invariant-loop-name
invariant-loop-name l =
    (done : List Named) × (l.named ≡ l.name-iterator.iter.rest.now ++ done)
    × AddsNames (plain_patterns l.pats) (names_of done) l.fn.subst l.whole
