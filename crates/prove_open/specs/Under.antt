-- What holds under a hypothesis, as a sentence over rules' patterns.
use Rattle.std.specs.Prelude.{◌≡◌, ℕ, List, [], ◌∷◌, Some}
use Rattle.ml_pat.specs.Patterns.{Pattern, imp, bot}
use Rattle.term_core.specs.Patterns.{Pattern as RulePattern, Patterns, application, injection}
use Rattle.term_core.specs.Patterns.{no_pattern, more_patterns}
use Rattle.ml_image.specs.Sentences.{Sentence, term, symbol, and, implies, equals, functional}
use Rattle.ml_image.specs.Sentences.{sentence_image, apply_all, conjunctions}
use Rattle.prove_term.specs.Contexts.{Context}

-- the pattern is the implication from the hypothesis to the image of the sentence
pub record SaysUnder (cx : Context) (h : Pattern) (s : Sentence) (p : Pattern) : Type 0 where
  pub image : Pattern
  pub is_image : sentence_image cx.program.sig cx.names s ≡ Some image
  pub says : p ≡ imp h image

-- the pattern says that the sentence denies itself under the hypothesis: it implies `bot`
pub record DeniesUnder (cx : Context) (h : Pattern) (s : Sentence) (p : Pattern) : Type 0 where
  pub image : Pattern
  pub is_image : sentence_image cx.program.sig cx.names s ≡ Some image
  pub says : p ≡ imp h (imp image bot)

-- the sentences of patterns, in order
abbrev pub terms : Patterns → List Sentence
terms no_pattern = []
terms (more_patterns p ps) = term p ∷ terms ps

-- what a constructor makes of the patterns ps and of qs in common is what it makes of what each of
-- ps has in common with its counterpart
abbrev pub freedom : ℕ → Patterns → Patterns → Sentence
freedom f ps qs =
    implies (and (term (application f ps)) (term (application f qs)))
    (apply_all (symbol f) (conjunctions (terms ps) (terms qs)))

-- if the injections of p and q are equal, then p and q are
abbrev pub injectivity : ℕ → ℕ → RulePattern → RulePattern → Sentence
injectivity a b p q =
    implies (equals (term (injection a b p)) (term (injection a b q))) (equals (term p) (term q))

-- the pattern is one element of the sort
abbrev pub element : RulePattern → ℕ → Sentence
element p sort = functional (term p) sort
