-- Lemmas of equations, by their places.
use Rattle.std.specs.Prelude.{◌≡◌, ℕ, List, Some, IfSome, slice_get}
use Rattle.std.specs.BTreeMap.{is_at}
use Rattle.std.specs.Map.{lookup}
use Rattle.std.specs.Ordering.{nat_cmp, ordering_then}
use Rattle.std.specs.declared.cmp.Ordering.{Ordering}
use Rattle.ml_kernel.specs.Theorems.{Theorem}
use Rattle.rule_core.specs.Rules.{Equation}
use Rattle.rule_core.specs.Theories.{equations_of}
use Rattle.rule_core.specs.ProgramView.{theory_of}
use Rattle.prove_term.specs.Contexts.{Context}
use Rattle.prove_equation.specs.EquationLemmas.{SaysEquationSchema}

-- the lemma at place k of the context is the lemma of the equation with number i of the function f
abbrev pub IsLemmaAt : Context → ℕ → ℕ → ℕ → Type 0
IsLemmaAt cx f i k =
    (e : Equation) → slice_get (equations_of (theory_of cx.program) f) i ≡ Some e →
    (t : Theorem) × (slice_get cx.lemmas k ≡ Some t) × SaysEquationSchema cx f e t

-- the order in which places are kept, by the numbers of functions and of their equations
abbrev pub pair_cmp : ℕ × ℕ → ℕ × ℕ → Ordering
pair_cmp a b = ordering_then (nat_cmp a.0 b.0) (nat_cmp a.1 b.1)

-- The place that is kept for a function and the number of one of its equations is the place of the
-- equation's lemma.
pub record IsKeptIn (cx : Context) (kept : List ((ℕ × ℕ) × ℕ)) : Type 0 where
  pub each : (f i : ℕ) → IfSome (lookup (is_at (pair_cmp (f, i))) kept) (IsLemmaAt cx f i)
