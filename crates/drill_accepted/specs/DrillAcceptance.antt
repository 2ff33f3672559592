-- The texts of a drill are accepted, and so they are never refused.
use Rattle.std.specs.Prelude.{ℕ, ◌≤◌, Option}
use Rattle.term_core.specs.Patterns.{Pattern}
use Rattle.rule_core.specs.Theories.{RewriteTheory}
use Rattle.kore_sig.specs.FirstFault.{Fault}
use Rattle.kore_rules.specs.Acceptance.{IsAccepted, IsAcceptedTerm}
use Rattle.kore_rules.specs.Refused.{IsRefused, IsRefusedTerm}
use Rattle.drill_gen.specs.Drill.{drill_definition, drill_term}

-- the definition of a drill of at most a thousand steps is accepted, as some program
abbrev pub DrillIsAccepted : Type 0
DrillIsAccepted =
    (n : ℕ) → n ≤ 1000 →
    (theory : RewriteTheory) × (top : Option ℕ) × IsAccepted (drill_definition n) theory top

-- its term is accepted as a term of whatever program that is
abbrev pub DrillTermIsAccepted : Type 0
DrillTermIsAccepted =
    (n : ℕ) (theory : RewriteTheory) (top : Option ℕ) → n ≤ 1000 →
    IsAccepted (drill_definition n) theory top →
    (start : Pattern) × IsAcceptedTerm theory.sig top drill_term start

-- the definition is refused for no fault
abbrev pub DrillIsNotRefused : Type 0
DrillIsNotRefused = (n : ℕ) (f : Fault) → n ≤ 1000 → IsRefused (drill_definition n) f → ⊥

-- nor is its term
abbrev pub DrillTermIsNotRefused : Type 0
DrillTermIsNotRefused =
    (n : ℕ) (theory : RewriteTheory) (top : Option ℕ) (f : Fault) → n ≤ 1000 →
    IsAccepted (drill_definition n) theory top → IsRefusedTerm theory.sig top drill_term f → ⊥
