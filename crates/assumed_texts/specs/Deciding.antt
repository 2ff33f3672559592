-- Deciding whether a pattern is the image of a sentence with a property.
use Rattle.std.specs.Prelude.{IsTrue, List, Bool}
use Rattle.mm_text.specs.Bytes.{Token}
use Rattle.ml_pat.specs.Patterns.{Pattern}
use Rattle.rule_core.specs.declared.signature.Signature.{Signature}
use Rattle.ml_image.specs.Sentences.{Sentence, IsImageOf}

-- The answer says whether the pattern is the image of a sentence with this property. A yes is said of
-- the names as they are now, a no of the names as they were.
pub record Decides (sig : Signature) (old new : List Token) (P : Sentence → Type 0) (p : Pattern)
    (answer : Bool) : Type 0 where
  pub sound : IsTrue answer → IsImageOf sig new P p
  pub complete : IsImageOf sig old P p → IsTrue answer
