-- What a database proves beside its last statement.
use Rattle.std.specs.Prelude.{◌≡◌, ℕ, true, List, All, Contains, Some}
use Rattle.mm_text.specs.Bytes.{Token}
use Rattle.mm_database.specs.Assertions.{Assertion, assertions_of}
use Rattle.ml_pat.specs.Patterns.{Pattern}
use Rattle.ml_pat.specs.Named.{AreDistinct}
use Rattle.rule_core.specs.declared.signature.Signature.{Signature}
use Rattle.ml_image.specs.Sentences.{Sentence, sentence_image}
use Rattle.mm_justify.specs.Stating.{IsName, holds_frame}
use Rattle.mm_justify.specs.Justifying.{SaysNoMore}

-- A text proves a sentence: one of its `$p`s says that the sentence's image holds, with the tokens of
-- names. It has no `$e`, and only pairs of the sentence's own variables have to stay apart.
pub record ProvesSentence (bytes : List ℕ) (sig : Signature) (s : Sentence) : Type 0 where
  pub names : List Token
  pub are_names : All IsName names
  pub distinct : AreDistinct names
  pub image : Pattern
  pub is_image : sentence_image sig names s ≡ Some image
  pub theorem : Assertion
  pub there : Contains (assertions_of bytes) theorem
  pub proved : theorem.is_proved ≡ true
  pub says : SaysNoMore (holds_frame names image) theorem.frame
