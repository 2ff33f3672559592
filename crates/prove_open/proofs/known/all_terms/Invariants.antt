use Rattle.std.proofs.Common.{◌≡◌, List, take}
use Rattle.term_core.specs.Patterns.{ground_patterns}
use Rattle.term_core.specs.Forests.{forest}
use Rattle.term_core.specs.PatternLists.{plain_patterns}
use Rattle.term_core.specs.declared.rule_patterns.RulePat.{RulePat}
use Rattle.prove_open.specs.Known.{AreTheTerms}
use Rattle.prove_open.proofs.known.all_terms.Given as goal

abbrev pub invariant-loop-part : goal.invariant-loop-part
invariant-loop-part l = (ps : List RulePat) → AreTheTerms ps l.parts
    → plain_patterns (take l.part-index ps) ≡ ground_patterns (forest l.terms.items)
