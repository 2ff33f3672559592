-- What the slots of a walk keep after a step.
use Rattle.std.specs.Prelude.{ℕ, [], ◌∷◌}
use Rattle.term_core.specs.Terms as terms
use Rattle.rule_core.specs.declared.records.StepRecord.{StepRecord}
use Rattle.match_tree.specs.SlotView.{Fits, IsKeptRow}
use Rattle.match_tree.specs.declared.compiling.Tree.{Tree}
use Rattle.match_tree.specs.declared.slots.Slots.{Slots}
use Rattle.rewriter.specs.declared.run.Next.{Next}
use Rattle.rewriter.specs.declared.run.Next.TheVariants as answer
use Rattle.rewriter.specs.declared.step.Made.{Made}

-- they fit the tree and the term, and keep the row with this number
abbrev pub KeepsRow : Tree → terms.Tree → Slots → ℕ → Type 0
KeepsRow tree t slots row = Fits tree (t ∷ []) slots × IsKeptRow slots row

-- after a step from the term they keep the rule that was used
abbrev pub KeepsRule : Tree → terms.Tree → Slots → Next StepRecord → Type 0
KeepsRule tree t slots (answer.Made s) = KeepsRow tree t slots s.rule
KeepsRule tree t slots answer.Stuck = Unit {0}
KeepsRule tree t slots (answer.Blocked why) = Unit {0}

-- the same, for a step with another recording
abbrev pub KeepsMadeRule : {R : Type 0} → Tree → terms.Tree → Slots → Next (Made R) → Type 0
KeepsMadeRule tree t slots (answer.Made s) = KeepsRow tree t slots s.rule
KeepsMadeRule tree t slots answer.Stuck = Unit {0}
KeepsMadeRule tree t slots (answer.Blocked why) = Unit {0}
