-- What is known when an equation is used at terms, and what is proved then.
use Rattle.std.specs.Prelude.{◌≡◌, ℕ, ◌<◌, ◌+◌, true, List, [], ◌∷◌, length, Option, Some, None}
use Rattle.std.specs.Prelude.{IsSome, IfSome, All, Contains, slice_get}
use Rattle.term_core.specs.Terms.{Tree, Forest, leaf, truth}
use Rattle.term_core.specs.Patterns.{Pattern as RulePattern, binding}
use Rattle.ml_pat.specs.Patterns.{Pattern}
use Rattle.ml_kernel.specs.Theorems.{Theorem}
use Rattle.rule_core.specs.Rules.{Equation, Guard}
use Rattle.rule_core.specs.Theories.{equations_of}
use Rattle.rule_core.specs.Sorting.{HasSort}
use Rattle.rule_core.specs.Matching.{MatchNamed}
use Rattle.rule_core.specs.ProgramView.{theory_of}
use Rattle.rule_core.specs.WellSorted.{IsWellSorted}
use Rattle.ml_image.specs.HasImages.{HasEquationImage}
use Rattle.ml_image.specs.OwnAxioms.{IsEquationFor}
use Rattle.ml_image.specs.Sentences.{Sentence, sentence_image, not}
use Rattle.prove_term.specs.Contexts.{Context, StaysIn}
use Rattle.prove_term.specs.GuardsAt.{guards_at}
use Rattle.prove_term.specs.Values.{SaysEquationAt, SaysValue}
use Rattle.prove_equation.specs.EquationLemmas.{IsEquationLemma}

-- There is a theorem exactly when there is a condition. The theorem says that the condition is true
-- when a substitution replaces its variables, and stays in the context. The variables have the
-- given sorts.
abbrev pub SaysCondition : Context → List ℕ → List (Option Tree) → Option RulePattern
    → Option Theorem → Type 0
SaysCondition cx variables theta None None = Unit {0}
SaysCondition cx variables theta None (Some t) = ⊥
SaysCondition cx variables theta (Some p) None = ⊥
SaysCondition cx variables theta (Some p) (Some t) =
    (sort : ℕ) × HasSort cx.program.sig variables p sort
    × SaysValue cx theta p (leaf sort (truth true)) t.conclusion
    × StaysIn cx t

-- each guard lists each variable of the equation that it repeats, which is one of these
abbrev pub ListEachVariable : List Equation → List Guard → Type 0
ListEachVariable equations gs =
    All (λ (g : Guard). IfSome (slice_get equations g.equation)
    (λ (q : Equation). (x : ℕ) → x < length q.variables → Contains g.order x)) gs

-- the pattern says that none of the guards of the equation e of the function f holds at the terms
pub record SaysNoGuard (cx : Context) (f : ℕ) (e : Equation) (gs : List Guard) (ts : Forest)
    (p : Pattern) : Type 0 where
  pub holds : Sentence
  pub is_holds : guards_at cx.program.sig (equations_of (theory_of cx.program) f)
      (e.parameters + length e.variables) gs ts ≡ Some holds
  pub image : sentence_image cx.program.sig cx.names (not holds) ≡ Some p

-- There is a theorem exactly when there are guards. The theorem says that none of them holds at the
-- terms, and stays in the context.
abbrev pub DeniesEach : Context → ℕ → Equation → Option (List Guard) → Forest → Option Theorem
    → Type 0
DeniesEach cx f e None ts None = Unit {0}
DeniesEach cx f e None ts (Some t) = ⊥
DeniesEach cx f e (Some gs) ts None = ⊥
DeniesEach cx f e (Some gs) ts (Some t) = SaysNoGuard cx f e gs ts t.conclusion × StaysIn cx t

-- the same for the guards of the equation
abbrev pub DeniesGuards : Context → ℕ → Equation → Forest → Option Theorem → Type 0
DeniesGuards cx f e ts o = DeniesEach cx f e e.last_resort ts o

-- the list of the theorem, or the empty list
abbrev pub listed : Option Theorem → List Theorem
listed None = []
listed (Some t) = t ∷ []

-- the substitution binds each of the variables
abbrev pub BindsEach : List ℕ → List (Option Tree) → Type 0
BindsEach variables theta = (x : ℕ) → x < length variables → IsSome (binding theta x)

-- The lemma of the equation e of the function f may be used at the terms ts: they are what the
-- equation's arguments match. The theorem o says that the condition holds, if there is one. The
-- theorem d says that no guard holds, if there are guards.
pub record CanUseAt (cx : Context) (f : ℕ) (e : Equation) (lemma : Theorem)
    (theta : List (Option Tree)) (ts : Forest) (o d : Option Theorem) : Type 0 where
  pub well_sorted : IsWellSorted (theory_of cx.program)
  pub image : HasEquationImage cx.program.sig (equations_of (theory_of cx.program) f) f e
  pub own : IsEquationFor (theory_of cx.program) f e
  pub is_lemma : IsEquationLemma cx f e lemma
  pub matches : MatchNamed cx.program.sig e.variables e.arguments e.names ts theta
  pub bound : BindsEach e.variables theta
  pub condition : SaysCondition cx e.variables theta e.condition o
  pub each : IfSome e.last_resort (ListEachVariable (equations_of (theory_of cx.program) f))
  pub guards : DeniesGuards cx f e ts d

-- The theorem says what the equation says of its function at the terms ts. It has no hypotheses and
-- stays in the context.
pub record ProvesAt (cx : Context) (f : ℕ) (e : Equation) (theta : List (Option Tree)) (ts : Forest)
    (t : Theorem) : Type 0 where
  pub says : SaysEquationAt cx f e theta ts t.conclusion
  pub no_hypotheses : t.hypotheses ≡ []
  pub stays : StaysIn cx t
