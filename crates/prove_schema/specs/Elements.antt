-- The terms that a substitution gives variables: each is one element of its sort.
use Rattle.std.specs.Prelude.{◌≡◌, ◌<◌, ℕ, List, length, Option, Some, None, All}
use Rattle.std.specs.List.{AllZip}
use Rattle.ml_kernel.specs.Theorems.{Theorem}
use Rattle.term_core.specs.Terms.{Tree}
use Rattle.term_core.specs.Patterns.{binding}
use Rattle.rule_core.specs.Sorting.{IsTermOf}
use Rattle.rule_core.specs.declared.signature.Signature.{Signature}
use Rattle.prove_term.specs.Contexts.{Context, StaysIn}
use Rattle.prove_term.specs.Functional.{SaysFunctional}

-- the substitution binds the variable to a term of some sort
abbrev pub IsBound : Signature → List (Option Tree) → ℕ → Type 0
IsBound sig theta x = (t : Tree) × (binding theta x ≡ Some t) × ((sort : ℕ) × IsTermOf sig t sort)

-- the same for each variable
abbrev pub AllBound : Signature → List (Option Tree) → Type 0
AllBound sig theta = (x : ℕ) → x < length theta → IsBound sig theta x

-- each is a term of some sort
abbrev pub AreTerms : Signature → List Tree → Type 0
AreTerms sig us = All (λ (u : Tree). (sort : ℕ) × IsTermOf sig u sort) us

-- the theorem says that the term is one element of its sort, and stays in the context
abbrev pub IsElementOf : Context → Tree → Theorem → Type 0
IsElementOf cx u t = SaysFunctional cx u t.conclusion × StaysIn cx t

-- the same for the term that is bound to a variable
abbrev pub IsElementFor : Context → Option Tree → Theorem → Type 0
IsElementFor cx None t = ⊥
IsElementFor cx (Some u) t = IsElementOf cx u t

abbrev pub AreElementsFor : Context → List (Option Tree) → List Theorem → Type 0
AreElementsFor cx theta ts = AllZip (IsElementFor cx) theta ts
