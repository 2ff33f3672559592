-- The statements of a definition in matching logic, over its own sorts and symbols, and their
-- images (Chen and Rosu 2019).
use Rattle.std.specs.Prelude.{◌≡◌, ℕ, ◌+◌, suc, zero, List, [], ◌∷◌, Option, Some, option_map}
use Rattle.ml_pat.specs.Patterns.{Pattern}
use Rattle.ml_pat.specs.Patterns as logic
use Rattle.term_core.specs.Patterns.{Pattern as RulePattern, variable}
use Rattle.rule_core.specs.declared.signature.Signature.{Signature}
use Rattle.ml_image.specs.Images.{both, symbol_image, sort_image, injection_image, image_of}

-- A sentence is built from rules' patterns and from symbols. `inject a b` is the injection symbol
-- from the sort a to the sort b. `is_in x p` says that the element x is in p. `functional p s` says
-- that p is one element of the sort s. `next p` is everything that can make one step to p. A
-- quantifier has the number of its variable and its sort.
pub data Sentence : Type 0 where
  term : RulePattern → Sentence
  symbol : ℕ → Sentence
  inject : ℕ → ℕ → Sentence
  apply : Sentence → Sentence → Sentence
  top : Sentence
  bottom : Sentence
  not : Sentence → Sentence
  and : Sentence → Sentence → Sentence
  or : Sentence → Sentence → Sentence
  implies : Sentence → Sentence → Sentence
  equals : Sentence → Sentence → Sentence
  is_in : Sentence → Sentence → Sentence
  functional : Sentence → ℕ → Sentence
  exists : ℕ → ℕ → Sentence → Sentence
  forall : ℕ → ℕ → Sentence → Sentence
  next : Sentence → Sentence

-- the image of a sentence: the images of its patterns, symbols and sorts, under the same
-- connectives
abbrev pub sentence_image : Signature → List (List ℕ) → Sentence → Option Pattern
sentence_image sig names (term p) = image_of sig names p
sentence_image sig names (symbol f) = symbol_image sig names f
sentence_image sig names (inject a b) = injection_image sig names a b
sentence_image sig names (apply p q) =
    both logic.app (sentence_image sig names p) (sentence_image sig names q)
sentence_image sig names top = Some logic.top
sentence_image sig names bottom = Some logic.bot
sentence_image sig names (not p) = option_map logic.not (sentence_image sig names p)
sentence_image sig names (and p q) =
    both logic.and (sentence_image sig names p) (sentence_image sig names q)
sentence_image sig names (or p q) =
    both logic.or (sentence_image sig names p) (sentence_image sig names q)
sentence_image sig names (implies p q) =
    both logic.imp (sentence_image sig names p) (sentence_image sig names q)
sentence_image sig names (equals p q) =
    both logic.equal (sentence_image sig names p) (sentence_image sig names q)
sentence_image sig names (is_in p q) =
    both logic.member (sentence_image sig names p) (sentence_image sig names q)
sentence_image sig names (functional p s) =
    both logic.fun (sentence_image sig names p) (sort_image sig names s)
sentence_image sig names (exists x s p) =
    both (logic.ex x) (sort_image sig names s) (sentence_image sig names p)
sentence_image sig names (forall x s p) =
    both (logic.all x) (sort_image sig names s) (sentence_image sig names p)
sentence_image sig names (next p) = option_map logic.next (sentence_image sig names p)

-- `for each x:k of the first sort, each x:(k+1) of the second, ..`, the first outermost
abbrev pub for_all : ℕ → List ℕ → Sentence → Sentence
for_all k [] p = p
for_all k (s ∷ ss) p = forall k s (for_all (k + 1) ss p)

-- `for some x:k of the first sort, some x:(k+1) of the second, ..`, the first outermost
abbrev pub for_some : ℕ → List ℕ → Sentence → Sentence
for_some k [] p = p
for_some k (s ∷ ss) p = exists k s (for_some (k + 1) ss p)

-- this many variables, numbered from k
abbrev pub variables : ℕ → ℕ → List Sentence
variables k zero = []
variables k (suc n) = term (variable k) ∷ variables (k + 1) n

-- the first applied to the others, one after another
abbrev pub apply_all : Sentence → List Sentence → Sentence
apply_all head [] = head
apply_all head (p ∷ ps) = apply_all (apply head p) ps

-- the patterns of a list as conjunctions with those of another, in order
abbrev pub conjunctions : List Sentence → List Sentence → List Sentence
conjunctions [] qs = []
conjunctions (p ∷ ps) [] = []
conjunctions (p ∷ ps) (q ∷ qs) = and p q ∷ conjunctions ps qs

-- the pattern is the image of a sentence with this property
abbrev pub IsImageOf : Signature → List (List ℕ) → (Sentence → Type 0) → Pattern → Type 0
IsImageOf sig names P p = (s : Sentence) × P s × (sentence_image sig names s ≡ Some p)
