-- Images do not change when names gain tokens.
use Rattle.std.proofs.Common.{◌≡◌, ℕ, List, [], ◌∷◌, ◌++◌, length, drop, refl, ap, ◌∙◌, sym}
use Rattle.std.proofs.Common.{subst}
use Rattle.ml_pat.specs.Patterns.{Pattern}
use Rattle.ml_pat.specs.Patterns as logic
use Rattle.rule_core.specs.declared.signature.Signature.{Signature}
use Rattle.ml_image.specs.Tokens.{token_of_sort}
use Rattle.ml_image.specs.Sentences.{Sentence, term, symbol, inject, apply, top, bottom, not}
use Rattle.ml_image.specs.Sentences.{and, or, implies, equals, is_in, functional, exists, forall}
use Rattle.ml_image.specs.Sentences.{next}
use Rattle.ml_image.specs.Sentences.{sentence_image}
use Rattle.ml_image.specs.Gained.{AreOwnTokens, HasGained}
use Rattle.ml_image.proofs.ImageLaws.{Keeps, both-keeps, map-keeps, numbered-keeps, symbol-keeps}
use Rattle.ml_image.proofs.ImageLaws.{image-keeps, injection-keeps}
use Rattle.ml_image.specs.NamingLaws.{GainedAreOwn, ImageStays, SentenceStays}

drop-front : (xs ys : List (List ℕ)) → drop (length xs) (xs ++ ys) ≡ ys
drop-front [] ys = refl
drop-front (x ∷ xs) ys = drop-front xs ys

pub gained_are_own : GainedAreOwn
gained_are_own sig old new gained =
    subst (AreOwnTokens sig)
    (sym (ap (drop (length old)) gained.all ∙ drop-front old gained.gained)) gained.own

pub image_stays : ImageStays
image_stays sig names more a p h = image-keeps sig names more a p h

pub sentence-keeps : (sig : Signature) (names more : List (List ℕ)) (s : Sentence)
    → Keeps (sentence_image sig names s) (sentence_image sig (names ++ more) s)
sentence-keeps sig names more (term p) = image-keeps sig names more p
sentence-keeps sig names more (symbol f) = symbol-keeps sig names more f
sentence-keeps sig names more (inject a b) = injection-keeps sig names more a b
sentence-keeps sig names more (apply p q) =
    both-keeps logic.app _ _ _ _ (sentence-keeps sig names more p) (sentence-keeps sig names more q)
sentence-keeps sig names more top = λ m h. h
sentence-keeps sig names more bottom = λ m h. h
sentence-keeps sig names more (not p) = map-keeps logic.not _ _ (sentence-keeps sig names more p)
sentence-keeps sig names more (and p q) =
    both-keeps logic.and _ _ _ _ (sentence-keeps sig names more p) (sentence-keeps sig names more q)
sentence-keeps sig names more (or p q) =
    both-keeps logic.or _ _ _ _ (sentence-keeps sig names more p) (sentence-keeps sig names more q)
sentence-keeps sig names more (implies p q) =
    both-keeps logic.imp _ _ _ _ (sentence-keeps sig names more p) (sentence-keeps sig names more q)
sentence-keeps sig names more (equals p q) =
    both-keeps logic.equal _ _ _ _ (sentence-keeps sig names more p)
    (sentence-keeps sig names more q)
sentence-keeps sig names more (is_in p q) =
    both-keeps logic.member _ _ _ _ (sentence-keeps sig names more p)
    (sentence-keeps sig names more q)
sentence-keeps sig names more (functional p s) =
    both-keeps logic.fun _ _ _ _ (sentence-keeps sig names more p)
    (numbered-keeps names more (token_of_sort sig s))
sentence-keeps sig names more (exists x s p) =
    both-keeps (logic.ex x) _ _ _ _ (numbered-keeps names more (token_of_sort sig s))
    (sentence-keeps sig names more p)
sentence-keeps sig names more (forall x s p) =
    both-keeps (logic.all x) _ _ _ _ (numbered-keeps names more (token_of_sort sig s))
    (sentence-keeps sig names more p)
sentence-keeps sig names more (next p) = map-keeps logic.next _ _ (sentence-keeps sig names more p)

pub sentence_stays : SentenceStays
sentence_stays sig names more s p h = sentence-keeps sig names more s p h

-- a result under the old names is the same under the names that have gained tokens
pub gained-sentence : (sig : Signature) (old new : List (List ℕ)) (s : Sentence)
    → HasGained sig old new → Keeps (sentence_image sig old s) (sentence_image sig new s)
gained-sentence sig old new s g =
    subst (λ (ns : List (List ℕ)). Keeps (sentence_image sig old s) (sentence_image sig ns s))
    (sym g.all) (sentence-keeps sig old g.gained s)
