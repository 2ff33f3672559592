-- What the private functions that choose a rule leave in the slots.
use Rattle.std.specs.Prelude.{Option, Some, None}
use Rattle.term_core.specs.Terms as terms
use Rattle.match_tree.specs.declared.compiling.Tree.{Tree}
use Rattle.match_tree.specs.declared.slots.Slots.{Slots}
use Rattle.rewriter.specs.KeptRules.{KeepsRow}
use Rattle.rewriter.specs.declared.rules.Choice.{Choice}
use Rattle.rewriter.specs.declared.step.Further.{Further}

-- the rule that was chosen, if any
abbrev pub KeepsChoice : {R : Type 0} → Tree → terms.Tree → Slots → Option (Choice R) → Type 0
KeepsChoice tree t slots None = Unit {0}
KeepsChoice tree t slots (Some chosen) = KeepsRow tree t slots chosen.number

-- the rule of the step, if there is one
abbrev pub KeepsFurther : {R : Type 0} → Tree → terms.Tree → Slots → Option (Further R) → Type 0
KeepsFurther tree t slots None = Unit {0}
KeepsFurther tree t slots (Some further) = KeepsRow tree t slots further.made.rule
