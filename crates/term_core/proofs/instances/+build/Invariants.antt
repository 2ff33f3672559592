use Rattle.std.proofs.Common.{◌≡◌, ◌++◌, Some, drop}
use Rattle.term_core.specs.Terms.{Forest}
use Rattle.term_core.specs.Forests.{forest, trees}
use Rattle.term_core.specs.Patterns.{instances_of}
use Rattle.term_core.specs.PatternLists.{AllFitWithin, plain_patterns}
use Rattle.term_core.proofs.instances.+build.Given as goal

abbrev pub invariant-build_all-loop-pat : goal.invariant-build_all-loop-pat
invariant-build_all-loop-pat l = record {
  fits : AllFitWithin 499 l.subst (plain_patterns (drop l.pat-index l.pats));
  built : (others : Forest)
      → instances_of l.subst (plain_patterns (drop l.pat-index l.pats)) ≡ Some others
      → instances_of l.subst (plain_patterns l.pats)
      ≡ Some (forest (l.terms.items ++ trees others));
}
