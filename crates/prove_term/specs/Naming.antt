-- Patterns whose parts have names, and the normal terms that they become. An equality of both images
-- is proved, part by part.
use Rattle.std.specs.Prelude.{◌≡◌, ◌≤◌, ℕ, Bool, if◌then◌else◌, List, [], All, Option, Some, None}
use Rattle.std.specs.Option.{option_and_then}
use Rattle.ml_pat.specs.Patterns.{Pattern, equal, app}
use Rattle.ml_kernel.specs.Lemmas.{HasNoVariable}
use Rattle.ml_kernel.specs.Theorems.{Theorem}
use Rattle.term_core.specs.Terms.{Tree, Forest, height, heights}
use Rattle.term_core.specs.Patterns.{Pattern as RulePattern, Patterns as RulePatterns, binding}
use Rattle.term_core.specs.Patterns.{instance_of, ground_pattern, ground_patterns, injection}
use Rattle.rule_core.specs.Evaluation.{most_height}
use Rattle.rule_core.specs.NamedParts.{Name, part_at, pattern_at}
use Rattle.rule_core.specs.declared.signature.Signature.{Signature}
use Rattle.rule_core.specs.declared.signature.SortRef.{SortRef}
use Rattle.ml_image.specs.Images.{image_of, symbol_image}
use Rattle.ml_image.specs.Sentences.{Sentence, term, symbol, inject, apply, and, sentence_image}
use Rattle.ml_image.specs.NamedSides.{left_sentence, applied_sides, named_parts}
use Rattle.ml_image.specs.NamedSides.{of_child, of_whole}
use Rattle.ml_image.specs.PartNames.{part_sentence}
use Rattle.prove_term.specs.Applications.{applied_to}
use Rattle.prove_term.specs.Comparing.{IsInstance, AreInstances}
use Rattle.prove_term.specs.Contexts.{Context, StaysIn}
use Rattle.prove_term.specs.FilledSides.{filled_sentence}

-- each name, whose place begins at the pattern, is bound to the term that its part becomes
abbrev pub AreBoundInside : List (Option Tree) → RulePattern → List Name → Type 0
AreBoundInside theta p names =
    All (λ (n : Name). binding theta n.variable
    ≡ option_and_then (instance_of theta) (part_at n.place p)) names

-- the same for patterns with these names, each of whose places begins with the number of a pattern
abbrev pub AreBoundBelow : List (Option Tree) → RulePatterns → List Name → Type 0
AreBoundBelow theta ps names =
    (k : ℕ) (p : RulePattern) → pattern_at ps k ≡ Some p → AreBoundInside theta p (of_child k names)

-- the theorem says that the image of the sentence equals this image
pub record EqualsImage (cx : Context) (s : Sentence) (image : Pattern) (t : Theorem) : Type 0 where
  pub left : Pattern
  pub is_left : sentence_image cx.program.sig cx.names s ≡ Some left
  pub closed : HasNoVariable left
  pub says : t.conclusion ≡ equal left image
  pub stays : StaysIn cx t

-- There is no theorem and the sentence has this image, or the theorem says that its image equals
-- this one.
abbrev pub BecomesImage : Context → Sentence → Pattern → Option Theorem → Type 0
BecomesImage cx s image None = sentence_image cx.program.sig cx.names s ≡ Some image
BecomesImage cx s image (Some t) = EqualsImage cx s image t

-- Under the substitution the pattern becomes the term u, which is not too high. Each name is bound
-- to the term that its part becomes.
pub record IsNamedInstance (sig : Signature) (names : List Name) (variables : List ℕ)
    (theta : List (Option Tree)) (p : RulePattern) (sort : ℕ) (u : Tree) : Type 0 where
  pub instance : IsInstance sig variables theta p sort u
  pub low : height u ≤ most_height
  pub bound : AreBoundInside theta p names

pub record AreNamedInstances (sig : Signature) (names : List Name) (variables : List ℕ)
    (theta : List (Option Tree)) (ps : RulePatterns) (refs : List SortRef) (us : Forest)
    : Type 0 where
  pub instances : AreInstances sig variables theta ps refs us
  pub low : heights us ≤ most_height
  pub bound : AreBoundBelow theta ps names

-- the same for an injection of a pattern whose parts have these names
pub record IsBelowNamed (sig : Signature) (names : List Name) (variables : List ℕ)
    (theta : List (Option Tree)) (a b : ℕ) (p : RulePattern) (sort : ℕ) (u : Tree) : Type 0 where
  pub instance : IsInstance sig variables theta (injection a b p) sort u
  pub low : height u ≤ most_height
  pub bound : AreBoundInside theta p names

-- the pattern w is the pattern of the term that p becomes under some such substitution
abbrev pub MakesNamed : Signature → List Name → RulePattern → RulePattern → Type 0
MakesNamed sig names p w =
    (variables : List ℕ) × (theta : List (Option Tree)) × (sort : ℕ) × (u : Tree)
    × IsNamedInstance sig names variables theta p sort u × (w ≡ ground_pattern u)

abbrev pub MakeNamed : Signature → List Name → RulePatterns → RulePatterns → Type 0
MakeNamed sig names ps ws =
    (variables : List ℕ) × (theta : List (Option Tree)) × (refs : List SortRef) × (us : Forest)
    × AreNamedInstances sig names variables theta ps refs us × (ws ≡ ground_patterns us)

-- the same for an injection whose argument's parts have these names
abbrev pub MakesBelow : Signature → List Name → ℕ → ℕ → RulePattern → RulePattern → Type 0
MakesBelow sig names a b p w =
    (variables : List ℕ) × (theta : List (Option Tree)) × (sort : ℕ) × (u : Tree)
    × IsBelowNamed sig names variables theta a b p sort u × (w ≡ ground_pattern u)

-- for each substitution under which p becomes the term with the pattern w, the pattern with its
-- names becomes this image
abbrev pub ComparesNamed : Context → List Name → RulePattern → RulePattern → Pattern
    → Option Theorem → Type 0
ComparesNamed cx names p w image o =
    (variables : List ℕ) (theta : List (Option Tree)) (sort : ℕ) (u : Tree) →
    IsNamedInstance cx.program.sig names variables theta p sort u → w ≡ ground_pattern u
    → BecomesImage cx (filled_sentence theta (left_sentence names p)) image o

-- the same without the names of the whole pattern
abbrev pub ComparesPart : Context → List Name → RulePattern → RulePattern → Pattern
    → Option Theorem → Type 0
ComparesPart cx names p w image o =
    (variables : List ℕ) (theta : List (Option Tree)) (sort : ℕ) (u : Tree) →
    IsNamedInstance cx.program.sig names variables theta p sort u → w ≡ ground_pattern u
    → BecomesImage cx (filled_sentence theta (part_sentence names p)) image o

-- the same for an injection
abbrev pub ComparesBelow : Context → List Name → ℕ → ℕ → RulePattern → RulePattern → Pattern
    → Option Theorem → Type 0
ComparesBelow cx names a b p w image o =
    (variables : List ℕ) (theta : List (Option Tree)) (sort : ℕ) (u : Tree) →
    IsBelowNamed cx.program.sig names variables theta a b p sort u → w ≡ ground_pattern u
    → BecomesImage cx (filled_sentence theta (apply (inject a b) (left_sentence names p))) image o

-- the same for the arguments of a symbol, which has this image in the old context
abbrev pub AllCompareNamed : Context → Context → List Name → RulePatterns → RulePatterns → Pattern
    → List Pattern → Option Theorem → Type 0
AllCompareNamed old cx names ps ws head images o =
    (variables : List ℕ) (theta : List (Option Tree)) (refs : List SortRef) (us : Forest) (f : ℕ) →
    AreNamedInstances cx.program.sig names variables theta ps refs us → ws ≡ ground_patterns us →
    symbol_image old.program.sig old.names f ≡ Some head →
    BecomesImage cx (filled_sentence theta (applied_sides names 0 (symbol f) ps))
    (applied_to head images) o

-- ---- names of the whole

-- each name of the whole pattern is bound to the term u
abbrev pub NamesTerm : List (Option Tree) → List Name → Tree → Type 0
NamesTerm theta names u =
    All (λ (n : Name). n.place ≡ [] → binding theta n.variable ≡ Some u) names

-- If a sentence becomes the image of a term, then with those names it becomes the same image. The
-- theorem about the former is in the old context.
abbrev pub IsConjoinedTo : Context → Context → List Name → Pattern → Option Theorem → Option Theorem
    → Type 0
IsConjoinedTo old cx names image part o =
    (theta : List (Option Tree)) (u : Tree) (s : Sentence) →
    image_of old.program.sig old.names (ground_pattern u) ≡ Some image → NamesTerm theta names u →
    BecomesImage old (filled_sentence theta s) image part →
    BecomesImage cx (filled_sentence theta (named_parts s (of_whole names))) image o

-- the conjunction of a sentence and the term that it becomes, as they are written
abbrev pub with_term : Bool → Tree → Sentence → Sentence
with_term first u s = if first then and (term (ground_pattern u)) s else and s (term (ground_pattern u))

-- the same for one name
abbrev pub IsNamedTerm : Context → Context → Bool → Pattern → Option Theorem → Theorem → Type 0
IsNamedTerm old cx first image part t =
    (u : Tree) (s : Sentence) →
    image_of old.program.sig old.names (ground_pattern u) ≡ Some image →
    BecomesImage old s image part → EqualsImage cx (with_term first u s) image t

-- the theorem says for each sentence that it becomes the image, if the option does
abbrev pub IsEqualityOf : Pattern → Option Theorem → Theorem → Type 0
IsEqualityOf image part t =
    (cx : Context) (s : Sentence) → BecomesImage cx s image part → EqualsImage cx s image t
