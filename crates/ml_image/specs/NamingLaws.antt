-- What does not change in images when names gain tokens.
use Rattle.std.specs.Prelude.{◌≡◌, ℕ, List, ◌++◌, length, drop, Some}
use Rattle.ml_pat.specs.Patterns.{Pattern}
use Rattle.term_core.specs.Patterns.{Pattern as RulePattern}
use Rattle.rule_core.specs.declared.signature.Signature.{Signature}
use Rattle.ml_image.specs.Images.{image_of}
use Rattle.ml_image.specs.Sentences.{Sentence, sentence_image}
use Rattle.ml_image.specs.Gained.{AreOwnTokens, HasGained}

-- names that have gained tokens are the old names followed by own tokens
abbrev pub GainedAreOwn : Type 0
GainedAreOwn =
    (sig : Signature) (old new : List (List ℕ)) → HasGained sig old new
    → AreOwnTokens sig (drop (length old) new)

-- an image of a pattern does not change when names gain tokens
abbrev pub ImageStays : Type 0
ImageStays =
    (sig : Signature) (names more : List (List ℕ)) (a : RulePattern) (p : Pattern)
    → image_of sig names a ≡ Some p →
    image_of sig (names ++ more) a ≡ Some p

abbrev pub SentenceStays : Type 0
SentenceStays =
    (sig : Signature) (names more : List (List ℕ)) (s : Sentence) (p : Pattern) →
    sentence_image sig names s ≡ Some p → sentence_image sig (names ++ more) s ≡ Some p
