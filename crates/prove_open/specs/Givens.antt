-- What is given of variables: a hypothesis, and for some variables the theorem that under the
-- hypothesis the variable is one element of its sort.
use Rattle.std.specs.Prelude.{◌≡◌, ℕ, List, [], ◌∷◌, Some, slice_get, slice_index_or}
use Rattle.ml_pat.specs.Patterns.{Pattern, imp, fun, var}
use Rattle.ml_pat.specs.Judgements.{IsPredicate}
use Rattle.ml_kernel.specs.Theorems.{Theorem}
use Rattle.ml_derived.specs.Scopes.{Scope, IsOver}
use Rattle.term_core.specs.Patterns.{Pattern as RulePattern, variable}
use Rattle.rule_core.specs.Matching.{OccursIn}
use Rattle.rule_core.specs.Sorting.{HasSort}
use Rattle.rule_core.specs.WellSorted.{HasNoCall}
use Rattle.rule_core.specs.declared.signature.Signature.{Signature}
use Rattle.ml_image.specs.Images.{sort_image}
use Rattle.ml_image.specs.Sentences.{Sentence, term, top, and, functional}
use Rattle.prove_term.specs.Contexts.{Context, HasContext, StaysIn}
use Rattle.prove_open.specs.declared.givens.Given.{Given}

-- the theorem says that under the hypothesis h the variable x is one element of its sort, which is
-- listed in `sorts`
pub record IsFactOn (cx : Context) (sorts : List ℕ) (h : Pattern) (x : ℕ) (t : Theorem)
    : Type 0 where
  pub sort : ℕ
  pub is_sort : slice_get sorts x ≡ Some sort
  pub number : ℕ
  pub is_number : sort_image cx.program.sig cx.names sort ≡ Some number
  pub says : t.conclusion ≡ imp h (fun (var x) number)
  pub stays : StaysIn cx t

-- in each scope that has the context, the pattern uses only what the scope has
abbrev pub IsOverContext : Context → Pattern → Type 0
IsOverContext cx p = (s : Scope) → HasContext s cx → IsOver s p

-- The hypothesis is everything or nothing, and uses only what the context has. Each theorem is such
-- a fact on its variable.
pub record IsGiven (cx : Context) (sorts : List ℕ) (g : Given) : Type 0 where
  pub predicate : IsPredicate g.hypothesis
  pub over : IsOverContext cx g.hypothesis
  pub facts : (x : ℕ) (t : Theorem) → slice_get g.facts.items x ≡ Some (Some t)
      → IsFactOn cx sorts g.hypothesis x t

-- there is a fact on the variable
abbrev pub HasFact : Given → ℕ → Type 0
HasFact g x = (t : Theorem) × (slice_get g.facts.items x ≡ Some (Some t))

-- the pattern has this sort and no calls, and there is a fact on each of its variables
pub record IsCovered (sig : Signature) (sorts : List ℕ) (g : Given) (p : RulePattern) (sort : ℕ)
    : Type 0 where
  pub sorted : HasSort sig sorts p sort
  pub no_call : HasNoCall p
  pub given : (x : ℕ) → OccursIn x p → HasFact g x

-- each of these variables is one element of its sort: the conjunction of that for each, in order,
-- and of `top`
abbrev pub all_sorted : List ℕ → List ℕ → Sentence
all_sorted sorts [] = top
all_sorted sorts (x ∷ xs) =
    and (functional (term (variable x)) (slice_index_or sorts x 0)) (all_sorted sorts xs)
