-- How it is decided whether a pattern is an image: by the only candidate.
use Rattle.std.proofs.Common.{◌≡◌, ◌⊎◌, inl, inr, Result, Ok, Err, List, Bool, refl, sym, ap, ◌∙◌, subst}
use Rattle.std.specs.Prelude.{IsTrue, ◌↔◌, false, true, IfOk}
use Rattle.std.proofs.lemmas.Bool.{false≢true}
use Rattle.mm_text.specs.Bytes.{Token}
use Rattle.ml_pat.specs.Patterns.{Pattern}
use Rattle.rule_core.specs.declared.signature.Signature.{Signature}
use Rattle.ml_image.specs.Gained.{HasGained}
use Rattle.ml_image.specs.Sentences.{Sentence, sentence_image, IsImageOf}
use Rattle.ml_image.proofs.ImageLaws.{some_same}
use Rattle.ml_image.proofs.NamingLaws.{sentence-keeps}
use Rattle.assumed_texts.specs.Deciding.{Decides}
use Rattle.assumed_texts.specs.Kinds.{IsEither}

-- an image stays when names gain tokens
pub image-gained : (sig : Signature) (old new : List Token) (P : Sentence → Type 0) (p : Pattern)
    → HasGained sig old new → IsImageOf sig old P p → IsImageOf sig new P p
image-gained sig old new P p gained (s, holds, is) = (
  s,
  holds,
  ap (λ (ns : List Token). sentence_image sig ns s) gained.all
      ∙ sentence-keeps sig old gained.gained s p is,
)

-- there is no candidate
pub decides-no : (sig : Signature) (names new : List Token) (P : Sentence → Type 0) (p : Pattern)
    → (IsImageOf sig names P p → ⊥) → Decides sig names new P p false
decides-no sig names new P p none = record {
  sound = λ t. absurd (false≢true t);
  complete = λ i. absurd (none i);
}

-- Q is the property, and P the one of the only candidate q, which belongs to one sentence
pub decides-same : (sig : Signature) (old new : List Token) (P Q : Sentence → Type 0)
    (p q : Pattern) (answer : Bool) → HasGained sig old new
    → ((s : Sentence) → P s → Q s) → ((s t : Sentence) → P s → P t → s ≡ t)
    → (IsImageOf sig old Q p → IsImageOf sig old P p) → IsImageOf sig new P q
    → IsTrue answer ↔ (q ≡ p) → Decides sig old new Q p answer
decides-same sig old new P Q p q answer gained weaker unique only made same = record {
  sound = λ t. subst (IsImageOf sig new Q) (same.0 t) (made.0, weaker made.0 made.1, made.2);
  complete = λ i. same.1 (go (image-gained sig old new P p gained (only i)));
}
  where
    go : IsImageOf sig new P p → q ≡ p
    go (s, holds, is) =
        some_same q p (sym made.2
        ∙ ap (sentence_image sig new) (unique made.0 s made.1 holds) ∙ is)

-- ---- two properties

either-image : (sig : Signature) (names : List Token) (P Q : Sentence → Type 0) (p : Pattern)
    → IsImageOf sig names (IsEither P Q) p
    → IsImageOf sig names P p ⊎ IsImageOf sig names Q p
either-image sig names P Q p (s, inl h, is) = inl (s, h, is)
either-image sig names P Q p (s, inr h, is) = inr (s, h, is)

-- the first is decided with yes
pub first-yes : (sig : Signature) (old new : List Token) (P Q : Sentence → Type 0) (p : Pattern)
    → Decides sig old new P p true → Decides sig old new (IsEither P Q) p true
first-yes sig old new P Q p d = record {
  sound = λ t. go (d.sound refl);
  complete = λ i. refl;
}
  where
    go : IsImageOf sig new P p → IsImageOf sig new (IsEither P Q) p
    go (s, h, is) = (s, inl h, is)

-- it is decided with no, and then the second is decided
pub then-second : (sig : Signature) (old mid new : List Token) (P Q : Sentence → Type 0)
    (p : Pattern) (b : Bool) → HasGained sig old mid → Decides sig old mid P p false
    → Decides sig mid new Q p b → Decides sig old new (IsEither P Q) p b
then-second sig old mid new P Q p b gained none d = record {
  sound = λ t. go (d.sound t);
  complete = λ i. back (either-image sig old P Q p i);
}
  where
    go : IsImageOf sig new Q p → IsImageOf sig new (IsEither P Q) p
    go (s, h, is) = (s, inr h, is)

    back : IsImageOf sig old P p ⊎ IsImageOf sig old Q p → IsTrue b
    back (inl i) = absurd (false≢true (none.complete i))
    back (inr i) = d.complete (image-gained sig old mid Q p gained i)

pub then-second-ok : {E : Type 0} (sig : Signature) (old mid new : List Token)
    (P Q : Sentence → Type 0) (p : Pattern) (b : Bool) (r : Result Bool E) → HasGained sig old mid
    → Decides sig old mid P p b → b ≡ false → IfOk r (Decides sig mid new Q p)
    → IfOk r (Decides sig old new (IsEither P Q) p)
then-second-ok sig old mid new P Q p b (Err e) gained none is d = tt
then-second-ok sig old mid new P Q p b (Ok a) gained none is d =
    then-second sig old mid new P Q p a gained
    (subst (λ (x : Bool). Decides sig old mid P p x) is none) d
