-- Equations that are missed, by what a record says of each, and what is proved of their conditions.
use Rattle.std.specs.Prelude.{◌≡◌, ℕ, List, length, Option, Some, None, slice_get}
use Rattle.term_core.specs.Terms.{Tree, Forest}
use Rattle.term_core.specs.Patterns.{Pattern}
use Rattle.ml_kernel.specs.Theorems.{Theorem}
use Rattle.rule_core.specs.Rules.{Equation}
use Rattle.rule_core.specs.Theories.{equations_of}
use Rattle.rule_core.specs.Evaluation.{IsTrueValue, MatchesBy, IsUnmatchedBy}
use Rattle.rule_core.specs.ProgramView.{theory_of}
use Rattle.rule_core.specs.Records.{Record, Miss, no_match, condition_false, result_of}
use Rattle.rule_core.specs.declared.rules.Program.{Program}
use Rattle.prove_term.specs.Contexts.{Context, StaysIn}
use Rattle.prove_term.specs.Values.{SaysValue}
use Rattle.prove_fun.specs.Evaluating.{IsRecorded}

-- The equation matches the terms with this substitution. The record is right for its condition, whose
-- value is not `true`.
pub record IsFalseAt (program : Program) (e : Equation) (ts : Forest) (sigma : List (Option Tree))
    (r : Record) : Type 0 where
  pub matches : MatchesBy (theory_of program) e ts sigma
  pub condition : Pattern
  pub conditional : e.condition ≡ Some condition
  pub recorded : IsRecorded program sigma condition r
  pub own : recorded.variables ≡ e.variables
  pub untrue : IsTrueValue (result_of r) → ⊥

-- the equation is missed at the terms: it does not match, or its condition is not true
abbrev pub IsMissedAt : Program → Equation → Forest → Miss → Type 0
IsMissedAt program e ts no_match = IsUnmatchedBy (theory_of program) e ts
IsMissedAt program e ts (condition_false sigma r) = IsFalseAt program e ts sigma r

-- the equations of the function f with these numbers are missed at the terms
abbrev pub AreMissedAt : Program → ℕ → Forest → List Miss → Type 0
AreMissedAt program f ts missed =
    (j : ℕ) (m : Miss) → slice_get missed j ≡ Some m →
    (e : Equation) × (slice_get (equations_of (theory_of program) f) j ≡ Some e)
    × IsMissedAt program e ts m

-- If the equation matches, the theorem says that its condition equals the recorded value, and stays
-- in the context.
abbrev pub IsValued : Context → Equation → Miss → Option Theorem → Type 0
IsValued cx e no_match o = Unit {0}
IsValued cx e (condition_false sigma r) None = ⊥
IsValued cx e (condition_false sigma r) (Some t) =
    (p : Pattern) × (e.condition ≡ Some p) × SaysValue cx sigma p (result_of r) t.conclusion
    × StaysIn cx t

-- the same for each of the equations of the function f with these numbers
pub record AreValued (cx : Context) (f : ℕ) (missed : List Miss) (values : List (Option Theorem)) :
    Type 0 where
  pub as_many : length values ≡ length missed
  pub each : (j : ℕ) (e : Equation) (m : Miss) (o : Option Theorem)
      → slice_get (equations_of (theory_of cx.program) f) j ≡ Some e → slice_get missed j ≡ Some m
      → slice_get values j ≡ Some o → IsValued cx e m o
