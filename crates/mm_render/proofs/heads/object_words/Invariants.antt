use Rattle.std.proofs.Common.{take}
use Rattle.mm_render.specs.HeadText.{AreWordsOf}
use Rattle.mm_claims.specs.Variables.{object_tokens}
use Rattle.mm_render.specs.VariablesView.{plain_variables}
use Rattle.mm_render.proofs.heads.object_words.Given as goal

abbrev pub invariant-loop-variable : goal.invariant-loop-variable
invariant-loop-variable l =
    AreWordsOf (object_tokens (plain_variables (take l.variable-index l.variables))) l.words.items
