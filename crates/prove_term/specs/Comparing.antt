-- Patterns of rules and the normal terms that they become. What a pattern becomes as it is written
-- may differ from the normal term. Then an equality of both images is proved, part by part.
use Rattle.std.specs.Prelude.{◌≡◌, ◌≢◌, ℕ, List, [], Option, Some, None}
use Rattle.ml_pat.specs.Patterns.{Pattern, app, equal, fun}
use Rattle.ml_kernel.specs.Lemmas.{HasNoVariable}
use Rattle.ml_kernel.specs.Theorems.{Theorem}
use Rattle.ml_derived.specs.Scopes.{Scope, IsOver}
use Rattle.term_core.specs.Terms.{Tree, Forest}
use Rattle.term_core.specs.Patterns.{Pattern as RulePattern, Patterns as RulePatterns, instance_of}
use Rattle.term_core.specs.Patterns.{instances_of, ground_pattern, ground_patterns, injection}
use Rattle.term_core.specs.Instances.{substituted, all_substituted}
use Rattle.rule_core.specs.Sorting.{HasSort, HaveSorts}
use Rattle.rule_core.specs.Matching.{RespectsSorts}
use Rattle.rule_core.specs.declared.signature.Signature.{Signature}
use Rattle.rule_core.specs.declared.signature.SortRef.{SortRef}
use Rattle.ml_image.specs.Images.{image_of, sort_image, injection_image}
use Rattle.prove_term.specs.Contexts.{Context, HasContext, StaysIn}
use Rattle.prove_term.specs.Schemas.{AreImages}
use Rattle.prove_term.specs.Applications.{applied_to}

-- Under the substitution the pattern becomes the term u. The pattern has this sort, and the
-- substitution gives each variable a normal term of the variable's sort.
pub record IsInstance (sig : Signature) (variables : List ℕ) (theta : List (Option Tree))
    (p : RulePattern) (sort : ℕ)
    (u : Tree) : Type 0 where
  pub sorted : HasSort sig variables p sort
  pub respects : RespectsSorts sig variables theta
  pub makes : instance_of theta p ≡ Some u

pub record AreInstances (sig : Signature) (variables : List ℕ) (theta : List (Option Tree))
    (ps : RulePatterns)
    (refs : List SortRef) (us : Forest) : Type 0 where
  pub sorted : HaveSorts sig variables [] ps refs
  pub respects : RespectsSorts sig variables theta
  pub make : instances_of theta ps ≡ Some us

-- the pattern w is the pattern of the term that p becomes under some such substitution
abbrev pub MakesTerm : Signature → RulePattern → RulePattern → Type 0
MakesTerm sig p w =
    (variables : List ℕ) × (theta : List (Option Tree)) × (sort : ℕ) × (u : Tree)
    × IsInstance sig variables theta p sort u × (w ≡ ground_pattern u)

abbrev pub MakeTerms : Signature → RulePatterns → RulePatterns → Type 0
MakeTerms sig ps ws =
    (variables : List ℕ) × (theta : List (Option Tree)) × (refs : List SortRef) × (us : Forest)
    × AreInstances sig variables theta ps refs us × (ws ≡ ground_patterns us)

-- What p becomes as it is written differs from the term u, which has this image. The theorem says
-- that the two images are equal.
pub record IsJoined (cx : Context) (theta : List (Option Tree)) (p : RulePattern) (u : Tree)
    (image : Pattern)
    (t : Theorem) : Type 0 where
  pub written : Tree
  pub is_written : substituted theta p ≡ Some written
  pub differs : written ≢ u
  pub left : Pattern
  pub is_left : image_of cx.program.sig cx.names (ground_pattern written) ≡ Some left
  pub closed : HasNoVariable left
  pub says : t.conclusion ≡ equal left image
  pub stays : StaysIn cx t

-- There is no theorem and p becomes u as it is written, or the theorem says that the images are
-- equal.
abbrev pub IsCompared : Context → List (Option Tree) → RulePattern → Tree → Pattern → Option Theorem
    → Type 0
IsCompared cx theta p u image None = substituted theta p ≡ Some u
IsCompared cx theta p u image (Some t) = IsJoined cx theta p u image t

-- the same for each substitution
abbrev pub Compares : Context → RulePattern → RulePattern → Pattern → Option Theorem → Type 0
Compares cx p w image o =
    (variables : List ℕ) (theta : List (Option Tree)) (sort : ℕ) (u : Tree) →
    IsInstance cx.program.sig variables theta p sort u → w ≡ ground_pattern u
    → IsCompared cx theta p u image o

-- the same for lists of arguments, to whose images a head is applied
pub record AreJoined (cx : Context) (theta : List (Option Tree)) (ps : RulePatterns) (us : Forest)
    (head : Pattern)
    (images : List Pattern) (t : Theorem) : Type 0 where
  pub written : Forest
  pub are_written : all_substituted theta ps ≡ Some written
  pub differ : written ≢ us
  pub lefts : List Pattern
  pub are_lefts : AreImages cx.program.sig cx.names (ground_patterns written) lefts
  pub closed : HasNoVariable (applied_to head lefts)
  pub says : t.conclusion ≡ equal (applied_to head lefts) (applied_to head images)
  pub stays : StaysIn cx t

abbrev pub AreCompared : Context → List (Option Tree) → RulePatterns → Forest → Pattern
    → List Pattern → Option Theorem → Type 0
AreCompared cx theta ps us head images None = all_substituted theta ps ≡ Some us
AreCompared cx theta ps us head images (Some t) = AreJoined cx theta ps us head images t

abbrev pub AllCompare : Context → RulePatterns → RulePatterns → Pattern → List Pattern
    → Option Theorem → Type 0
AllCompare cx ps ws head images o =
    (variables : List ℕ) (theta : List (Option Tree)) (refs : List SortRef) (us : Forest) →
    AreInstances cx.program.sig variables theta ps refs us → ws ≡ ground_patterns us →
    AreCompared cx theta ps us head images o

-- in each scope that has what the context has, the pattern uses only what the scope has
abbrev pub IsOverContext : Context → Pattern → Type 0
IsOverContext cx p = (s : Scope) → HasContext s cx → IsOver s p

-- the theorem says that the image of a pattern w of this sort is one element of it; the image has
-- no object variable
pub record IsFactOn (cx : Context) (w : RulePattern) (sort : ℕ) (fact : Theorem) : Type 0 where
  pub image : Pattern
  pub is_image : image_of cx.program.sig cx.names w ≡ Some image
  pub number : ℕ
  pub is_number : sort_image cx.program.sig cx.names sort ≡ Some number
  pub says : fact.conclusion ≡ fun image number
  pub closed : HasNoVariable image
  pub no_hypotheses : fact.hypotheses ≡ []
  pub stays : StaysIn cx fact

-- the theorem says that both injections of the term of w are one
pub record IsOnce (cx : Context) (a b d : ℕ) (w : RulePattern) (once : Theorem) : Type 0 where
  pub head : Pattern
  pub is_head : injection_image cx.program.sig cx.names b d ≡ Some head
  pub middle : Pattern
  pub is_middle : image_of cx.program.sig cx.names (injection a b w) ≡ Some middle
  pub last : Pattern
  pub is_last : image_of cx.program.sig cx.names (injection a d w) ≡ Some last
  pub says : once.conclusion ≡ equal (app head middle) last
  pub stays : StaysIn cx once
