-- The image of a rule, by the rule's place in the program.
use Rattle.std.specs.Prelude.{◌≡◌, ℕ, Some, slice_get}
use Rattle.ml_pat.specs.Patterns.{Pattern}
use Rattle.rule_core.specs.ProgramView.{rewrite_rule}
use Rattle.rule_core.specs.declared.rules.Program.{Program}
use Rattle.rule_core.specs.declared.rules.Rule.{Rule}
use Rattle.ml_image.specs.HasImages.{HasRuleImage}
use Rattle.ml_image.specs.OwnAxioms.{SaysRule}
use Rattle.ml_image.specs.Sentences.{IsImageOf}
use Rattle.prove_term.specs.Contexts.{Context}

-- there is a rule at place i of the program, and it has an image
abbrev pub HasImageAt : Program → ℕ → Type 0
HasImageAt program i =
    (r : Rule) × (slice_get program.rules.items i ≡ Some r)
    × HasRuleImage program.sig (rewrite_rule r)

-- the pattern is the image of what the rule at place i says
abbrev pub SaysRuleAt : Context → ℕ → Pattern → Type 0
SaysRuleAt cx i p =
    (r : Rule) → slice_get cx.program.rules.items i ≡ Some r →
    IsImageOf cx.program.sig cx.names (SaysRule cx.program.sig (rewrite_rule r)) p
