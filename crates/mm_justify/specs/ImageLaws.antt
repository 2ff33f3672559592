-- The leaves of images: what a text declares before it states them.
use Rattle.std.specs.Prelude.{◌≡◌, ℕ, List, Some}
use Rattle.mm_text.specs.Bytes.{Token}
use Rattle.ml_pat.specs.Patterns.{Pattern}
use Rattle.ml_pat.specs.Leaves.{EachLeaf}
use Rattle.ml_kernel.specs.Lemmas.{HasNoMeta}
use Rattle.term_core.specs.Patterns.{Pattern as RulePattern}
use Rattle.rule_core.specs.declared.signature.Signature.{Signature}
use Rattle.rule_core.specs.Matching.{OccursIn}
use Rattle.ml_image.specs.Images.{image_of}
use Rattle.ml_image.specs.Sentences.{Sentence, sentence_image}
use Rattle.mm_claims.specs.OverNames.{closed_over, over_names}

-- the sorts and constants of the image of a sentence are among the names, and it has no pattern
-- variables
abbrev pub SentenceIsOver : Type 0
SentenceIsOver =
    (sig : Signature) (names : List Token) (s : Sentence) (p : Pattern)
    → sentence_image sig names s ≡ Some p →
    EachLeaf (over_names names) p

abbrev pub SentenceHasNoMeta : Type 0
SentenceHasNoMeta =
    (sig : Signature) (names : List Token) (s : Sentence) (p : Pattern)
    → sentence_image sig names s ≡ Some p →
    HasNoMeta p

-- the image of a pattern in which no variable occurs is closed over the names
abbrev pub ImageIsClosed : Type 0
ImageIsClosed =
    (sig : Signature) (names : List Token) (a : RulePattern) (p : Pattern)
    → ((x : ℕ) → OccursIn x a → ⊥) →
    image_of sig names a ≡ Some p → EachLeaf (closed_over names) p
