-- Patterns without variables: each is one element of its sort.
use Rattle.std.specs.Prelude.{◌≡◌, ℕ, Some, List, [], map}
use Rattle.ml_pat.specs.Patterns.{Pattern, fun}
use Rattle.ml_kernel.specs.Lemmas.{HasNoVariable, HaveNoVariables, HasNoMeta, AreMetasBelow}
use Rattle.ml_kernel.specs.Theorems.{Theorem, conclusions, all_hypotheses}
use Rattle.ml_derived.specs.Scopes.{Scope, AreWithin}
use Rattle.term_core.specs.Patterns.{Pattern as RulePattern, Patterns as RulePatterns}
use Rattle.rule_core.specs.Sorting.{HasSort, HaveSorts}
use Rattle.rule_core.specs.declared.signature.Signature.{Signature}
use Rattle.rule_core.specs.declared.signature.SortRef.{SortRef}
use Rattle.ml_image.specs.Images.{image_of, sort_image}
use Rattle.ml_image.specs.OwnAxioms.{sort_numbered}
use Rattle.prove_term.specs.Contexts.{Context, HasContext}
use Rattle.prove_term.specs.Schemas.{AreImages, facts, reversed}
use Rattle.prove_term.specs.Numbered.{AreSortImages}

abbrev pub IsSorted : Signature → RulePattern → Type 0
IsSorted sig p = (sort : ℕ) × HasSort sig [] p sort

-- the patterns have the sorts of a declaration
abbrev pub AreSorted : Signature → RulePatterns → Type 0
AreSorted sig ps = (refs : List SortRef) × HaveSorts sig [] [] ps refs

-- the pattern q says that the image of p is one element of the sort; the image is closed
pub record IsElementAt (cx : Context) (p : RulePattern) (sort : ℕ) (q : Pattern) : Type 0 where
  pub image : Pattern
  pub is_image : image_of cx.program.sig cx.names p ≡ Some image
  pub number : ℕ
  pub is_number : sort_image cx.program.sig cx.names sort ≡ Some number
  pub says : q ≡ fun image number
  pub no_variable : HasNoVariable image
  pub no_meta : HasNoMeta image

-- the same for each sort of p
abbrev pub IsElement : Context → RulePattern → Pattern → Type 0
IsElement cx p q = (sort : ℕ) → HasSort cx.program.sig [] p sort → IsElementAt cx p sort q

-- The theorems are in reverse order. They say that the images qs of the patterns are each one
-- element of the declared sort. The images are closed.
pub record AreElements (cx : Context) (ps : RulePatterns) (qs : List Pattern) (ts : List Theorem) :
    Type 0 where
  pub images : AreImages cx.program.sig cx.names ps qs
  pub say : (refs : List SortRef) (sorts : List ℕ) → HaveSorts cx.program.sig [] [] ps refs
      → refs ≡ map sort_numbered sorts
      → (numbers : List ℕ) × AreSortImages cx.program.sig cx.names sorts numbers
      × (conclusions ts ≡ reversed (facts qs numbers))
  pub no_hypotheses : all_hypotheses ts ≡ []
  pub stay : (s : Scope) → HasContext s cx → AreWithin s ts
  pub no_variables : HaveNoVariables qs
  pub no_metas : AreMetasBelow 0 qs

-- the same if the images too are in reverse order
pub record AreGathered (cx : Context) (ps : RulePatterns) (images : List Pattern)
    (ts : List Theorem) : Type 0 where
  pub natural : List Pattern
  pub are : images ≡ reversed natural
  pub elements : AreElements cx ps natural ts
