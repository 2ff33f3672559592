-- The program and the initial term that the texts of a drill mean.
use Rattle.std.specs.Prelude.{ℕ, Option}
use Rattle.term_core.specs.Patterns.{Pattern}
use Rattle.rule_core.specs.Theories.{RewriteTheory}
use Rattle.drill_gen.specs.Drill.{drill_definition, drill_term}
use Rattle.kore_rules.specs.Acceptance.{IsAccepted, IsAcceptedTerm}

-- the texts of a drill of this many steps are accepted, and mean this program and this initial term
pub record IsDrillProgram (steps : ℕ) (theory : RewriteTheory) (start : Pattern) : Type 0 where
  pub top : Option ℕ
  pub definition : IsAccepted (drill_definition steps) theory top
  pub term : IsAcceptedTerm theory.sig top drill_term start
