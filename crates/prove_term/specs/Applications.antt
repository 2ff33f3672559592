-- Patterns that are applied to patterns, and what equalities of the parts say of the whole.
use Rattle.std.specs.Prelude.{◌≡◌, List, [], ◌∷◌, Option, Some, None}
use Rattle.ml_pat.specs.Patterns.{Pattern, app, equal}
use Rattle.ml_kernel.specs.Lemmas.{HasNoVariable}
use Rattle.ml_kernel.specs.Theorems.{Theorem}
use Rattle.ml_derived.specs.Equalities.{IsApplied, IsAppliedTo, IsArgument}
use Rattle.prove_term.specs.Contexts.{Context, StaysInWith}

-- the head, applied to each pattern of the list in turn
abbrev pub applied_to : Pattern → List Pattern → Pattern
applied_to head [] = head
applied_to head (q ∷ qs) = applied_to (app head q) qs

-- the pattern is an equality whose sides have no object variable
abbrev pub HasClosedSides : Pattern → Type 0
HasClosedSides e =
    (p : Pattern) × ((q : Pattern) × ((e ≡ equal p q) × (HasNoVariable p × HasNoVariable q)))

-- There is no theorem, or the theorem says that a closed pattern equals p.
abbrev pub SaysEqualTo : Pattern → Option Theorem → Type 0
SaysEqualTo p None = Unit {0}
SaysEqualTo p (Some t) = (left : Pattern) × (t.conclusion ≡ equal left p) × HasNoVariable left

-- The option holds a theorem. P is true of its conclusion, and it stays in the context with ps and
-- ts.
pub record IsTheorem (cx : Context) (P : Pattern → Type 0) (ps : List Pattern) (ts : List Theorem)
    (o : Option Theorem) : Type 0 where
  pub made : Theorem
  pub is : o ≡ Some made
  pub says : P made.conclusion
  pub stays : StaysInWith cx ps ts made

-- What is proved of `app f a` from an equality for f and an equality for a. Each equality may be
-- missing, and without both there is no theorem.
abbrev pub IsApplication : Context → Pattern → Pattern → Option Theorem → Option Theorem
    → Option Theorem → Type 0
IsApplication cx f a None None o = o ≡ None
IsApplication cx f a (Some d) None o =
    IsTheorem cx (IsAppliedTo d.conclusion a) (a ∷ []) (d ∷ []) o
IsApplication cx f a None (Some e) o =
    IsTheorem cx (IsArgument f e.conclusion) (f ∷ []) (e ∷ []) o
IsApplication cx f a (Some d) (Some e) o =
    IsTheorem cx (IsApplied d.conclusion e.conclusion) [] (d ∷ e ∷ []) o
