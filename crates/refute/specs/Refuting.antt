-- Refutations under a hypothesis on the variables of a pattern.
use Rattle.std.specs.Prelude.{◌≡◌, ℕ, List, length, Option, Some, None}
use Rattle.ml_pat.specs.Patterns.{Pattern as LogicPattern}
use Rattle.term_core.specs.Terms.{Tree, IsNormal}
use Rattle.term_core.specs.Patterns.{Pattern, variable, ground_pattern}
use Rattle.term_core.specs.RulePatterns.{sort_numbers}
use Rattle.rule_core.specs.AcSymbols.{IsAcFree}
use Rattle.rule_core.specs.ProgramView.{theory_of}
use Rattle.rule_core.specs.Sorting.{IsTermOf}
use Rattle.rule_core.specs.WellSorted.{IsWellSorted}
use Rattle.rule_core.specs.declared.signature.Signature.{Signature}
use Rattle.ml_image.specs.Sentences.{term, not, equals}
use Rattle.prove_term.specs.Contexts.{Context, StaysIn}
use Rattle.prove_open.specs.Givens.{IsGiven, IsCovered}
use Rattle.prove_open.specs.Under.{SaysUnder}
use Rattle.prove_open.specs.Differences.{SaysDifference, theorem_of}
use Rattle.prove_open.specs.declared.givens.Given.{Given}
use Rattle.prove_open.specs.declared.differences.Difference.{Difference}
use Rattle.refute.specs.Clashes.{Clash, ComesTo}
use Rattle.refute.specs.declared.settings.Setting.{Setting}
use Rattle.refute.specs.declared.settings.Goal.{Goal}
use Rattle.refute.specs.declared.settings.Goal.TheVariants as goal

-- two patterns of one sort, whose variables are given
pub record AreCovered (sig : Signature) (sorts : List ℕ) (g : Given) (p q : Pattern) : Type 0 where
  pub sort : ℕ
  pub left : IsCovered sig sorts g p sort
  pub right : IsCovered sig sorts g q sort

-- a pattern whose variables are given, and a normal term of its sort
pub record IsPair (sig : Signature) (sorts : List ℕ) (g : Given) (p : Pattern) (t : Tree) : Type 0
  where
    pub sort : ℕ
    pub left : IsCovered sig sorts g p sort
    pub right : IsTermOf sig t sort
    pub normal : IsNormal t

-- under the hypothesis the variable of the goal does not equal its term
abbrev pub IsGoal : Context → LogicPattern → Goal → Type 0
IsGoal cx h goal.Clash = Unit {0}
IsGoal cx h (goal.Binding x t fact) =
    SaysUnder cx h (not (equals (term (variable x)) (term (ground_pattern t))))
    fact.conclusion
    × StaysIn cx fact

-- comparing has come to the variable and the term of the goal
abbrev pub Attains : Goal → Pattern → Tree → Type 0
Attains goal.Clash q u = ⊥
Attains (goal.Binding x t fact) q u = (q ≡ variable x) × (u ≡ t)

-- The definition has no constructor that is associative, commutative or idempotent, or has a unit.
-- The setting's hypothesis is about variables of these sorts, and they are numbered below the new
-- variable.
pub record IsSetting (cx : Context) (s : Setting) : Type 0 where
  pub well_sorted : IsWellSorted (theory_of cx.program)
  pub no_ac : IsAcFree cx.program.sig
  pub given : IsGiven cx (sort_numbers s.sorts.now) s.given
  pub new : s.new.0 ≡ length s.sorts.now
  pub goal : IsGoal cx s.given.hypothesis s.goal

-- comparing the pattern with the term comes to no clash, and does not come to the goal
abbrev pub AreFree : List (ℕ × ℕ) → Goal → Pattern → Tree → Type 0
AreFree pairs g p t =
    (q : Pattern) (u : Tree) → ComesTo pairs q u p t → (Clash pairs q u → ⊥) × (Attains g q u → ⊥)

-- under the hypothesis the two patterns are not equal, or have nothing in common
pub record Denies (cx : Context) (h : LogicPattern) (p q : Pattern) (d : Difference) : Type 0 where
  pub says : SaysDifference cx h p q d
  pub stays : StaysIn cx (theorem_of d)

-- the pattern and the term are denied, or else there is nothing that denies them
abbrev pub IsRefuted : Context → Setting → Pattern → Tree → Option Difference → Type 0
IsRefuted cx s p t None = AreFree cx.program.sig.subsorts s.goal p t
IsRefuted cx s p t (Some d) = Denies cx s.given.hypothesis p (ground_pattern t) d
