use Rattle.std.proofs.Common.{◌↔◌, drop}
use Rattle.term_core.specs.PatternLists.{AllFitWithin, plain_patterns}
use Rattle.term_core.proofs.instances.+fits_within.Given as goal

abbrev pub invariant-all_fit_within-loop-pat : goal.invariant-all_fit_within-loop-pat
invariant-all_fit_within-loop-pat l =
    AllFitWithin l.limit l.subst (plain_patterns (drop l.pat-index l.pats))
    ↔ AllFitWithin l.limit l.subst (plain_patterns l.pats)
