-- Sentences without quantifiers: what occurs in their images.
use Rattle.std.proofs.Common.{◌≡◌, ℕ, List, Option, Some, option_map, sym, subst}
use Rattle.ml_pat.specs.Patterns.{Pattern}
use Rattle.ml_pat.specs.Patterns as logic
use Rattle.ml_pat.proofs.LeafLaws.{EachLeaf-implied}
use Rattle.ml_derived.specs.Scopes.{Scope, IsOverPlaces, leaves_of, place_leaves_of}
use Rattle.rule_core.specs.declared.signature.Signature.{Signature}
use Rattle.ml_image.specs.Tokens.{token_of_symbol, number_in_names}
use Rattle.ml_image.specs.Images.{both, sort_image}
use Rattle.ml_image.specs.HasImages.{HasImage}
use Rattle.ml_image.specs.Sentences.{Sentence, sentence_image, term, symbol, inject, apply, top}
use Rattle.ml_image.specs.Sentences.{bottom, not, and, or, implies, equals, is_in, functional}
use Rattle.ml_image.specs.Sentences.{exists, forall, next}
use Rattle.ml_image.proofs.ImageLaws.{some_same}
use Rattle.prove_term.specs.Contexts.{Context, HasContext}
use Rattle.prove_term.proofs.ImageShapes.{both_some, map_some}
use Rattle.prove_schema.specs.Schemas.{with_metas}
use Rattle.prove_schema.proofs.OpenLaws.{IsOpenFrom, image_is_open, injection_is_open}
use Rattle.prove_schema.proofs.OpenLaws.{schema_leaves}

-- the sentence has no quantifier, and its patterns have images whose variables have numbers below n
abbrev pub IsOpenSentence : Signature → ℕ → Sentence → Type 0
IsOpenSentence sig n (term p) = HasImage sig n p
IsOpenSentence sig n (symbol f) = Unit {0}
IsOpenSentence sig n (inject a b) = Unit {0}
IsOpenSentence sig n (apply p q) = IsOpenSentence sig n p × IsOpenSentence sig n q
IsOpenSentence sig n top = Unit {0}
IsOpenSentence sig n bottom = Unit {0}
IsOpenSentence sig n (not p) = IsOpenSentence sig n p
IsOpenSentence sig n (and p q) = IsOpenSentence sig n p × IsOpenSentence sig n q
IsOpenSentence sig n (or p q) = IsOpenSentence sig n p × IsOpenSentence sig n q
IsOpenSentence sig n (implies p q) = IsOpenSentence sig n p × IsOpenSentence sig n q
IsOpenSentence sig n (equals p q) = IsOpenSentence sig n p × IsOpenSentence sig n q
IsOpenSentence sig n (is_in p q) = IsOpenSentence sig n p × IsOpenSentence sig n q
IsOpenSentence sig n (functional p s) = IsOpenSentence sig n p
IsOpenSentence sig n (exists x s p) = ⊥
IsOpenSentence sig n (forall x s p) = ⊥
IsOpenSentence sig n (next p) = IsOpenSentence sig n p

abbrev IsOpenImage : ℕ → Option Pattern → Type 0
IsOpenImage n o = (p : Pattern) → o ≡ Some p → IsOpenFrom 0 n p

open_both : (n : ℕ) (f : Pattern → Pattern → Pattern) (a b : Option Pattern)
    → ((p q : Pattern) → IsOpenFrom 0 n p → IsOpenFrom 0 n q → IsOpenFrom 0 n (f p q))
    → IsOpenImage n a → IsOpenImage n b → IsOpenImage n (both f a b)
open_both n f a b joins ha hb r h =
    let w : (x : Pattern) × (y : Pattern) × (a ≡ Some x) × (b ≡ Some y) × (r ≡ f x y) =
    both_some f a b r h in
    subst (IsOpenFrom 0 n) (sym w.4) (joins w.0 w.1 (ha w.0 w.2) (hb w.1 w.3))

open_map : (n : ℕ) (f : Pattern → Pattern) (a : Option Pattern)
    → ((p : Pattern) → IsOpenFrom 0 n p → IsOpenFrom 0 n (f p)) → IsOpenImage n a
    → IsOpenImage n (option_map f a)
open_map n f a keeps ha r h =
    let w : (x : Pattern) × (a ≡ Some x) × (r ≡ f x) = map_some f a r h in
    subst (IsOpenFrom 0 n) (sym w.2) (keeps w.0 (ha w.0 w.1))

open_number : (n : ℕ) (o : Option ℕ) → IsOpenImage n (option_map logic.constant o)
open_number n o r h =
    let w : (x : ℕ) × (o ≡ Some x) × (r ≡ logic.constant x) = map_some logic.constant o r h in
    subst (IsOpenFrom 0 n) (sym w.2) tt

open_sorted : (n : ℕ) (a : Option Pattern) (o : Option ℕ) → IsOpenImage n a
    → IsOpenImage n (both logic.fun a o)
open_sorted n a o ha r h =
    let w : (x : Pattern) × (s : ℕ) × (a ≡ Some x) × (o ≡ Some s) × (r ≡ logic.fun x s) =
    both_some logic.fun a o r h in
    subst (IsOpenFrom 0 n) (sym w.4) (ha w.0 w.2)

pub sentence_is_open : (sig : Signature) (names : List (List ℕ)) (n : ℕ) (s : Sentence)
    → IsOpenSentence sig n s → IsOpenImage n (sentence_image sig names s)
sentence_is_open sig names n (term p) h = image_is_open sig names n p h
sentence_is_open sig names n (symbol f) h =
    open_number n (number_in_names names (token_of_symbol sig f))
sentence_is_open sig names n (inject a b) h = injection_is_open sig names n a b
sentence_is_open sig names n (apply p q) h =
    open_both n logic.app (sentence_image sig names p) (sentence_image sig names q)
    (λ a b x y. (x, y)) (sentence_is_open sig names n p h.0)
    (sentence_is_open sig names n q h.1)
sentence_is_open sig names n top h = λ r is. subst (IsOpenFrom 0 n) (some_same logic.top r is) tt
sentence_is_open sig names n bottom h = λ r is. subst (IsOpenFrom 0 n) (some_same logic.bot r is) tt
sentence_is_open sig names n (not p) h =
    open_map n logic.not (sentence_image sig names p) (λ a x. x) (sentence_is_open sig names n p h)
sentence_is_open sig names n (and p q) h =
    open_both n logic.and (sentence_image sig names p) (sentence_image sig names q)
    (λ a b x y. (x, y)) (sentence_is_open sig names n p h.0)
    (sentence_is_open sig names n q h.1)
sentence_is_open sig names n (or p q) h =
    open_both n logic.or (sentence_image sig names p) (sentence_image sig names q)
    (λ a b x y. (x, y)) (sentence_is_open sig names n p h.0)
    (sentence_is_open sig names n q h.1)
sentence_is_open sig names n (implies p q) h =
    open_both n logic.imp (sentence_image sig names p) (sentence_image sig names q)
    (λ a b x y. (x, y)) (sentence_is_open sig names n p h.0)
    (sentence_is_open sig names n q h.1)
sentence_is_open sig names n (equals p q) h =
    open_both n logic.equal (sentence_image sig names p) (sentence_image sig names q)
    (λ a b x y. (x, y)) (sentence_is_open sig names n p h.0)
    (sentence_is_open sig names n q h.1)
sentence_is_open sig names n (is_in p q) h =
    open_both n logic.member (sentence_image sig names p) (sentence_image sig names q)
    (λ a b x y. (x, y)) (sentence_is_open sig names n p h.0)
    (sentence_is_open sig names n q h.1)
sentence_is_open sig names n (functional p s) h =
    open_sorted n (sentence_image sig names p) (sort_image sig names s)
    (sentence_is_open sig names n p h)
sentence_is_open sig names n (exists x s p) h = absurd h
sentence_is_open sig names n (forall x s p) h = absurd h
sentence_is_open sig names n (next p) h =
    open_map n logic.next (sentence_image sig names p) (λ a x. x) (sentence_is_open sig names n p h)

-- the schema of an image uses only what a scope with the context has, apart from pattern variables
pub schema_over_places : (s : Scope) (cx : Context) (n : ℕ) (q : Sentence) (p : Pattern)
    → HasContext s cx → sentence_image cx.program.sig cx.names q ≡ Some p
    → IsOverPlaces s (with_metas n p)
schema_over_places s cx n q p has is =
    schema_leaves (place_leaves_of s) n p (λ i. tt)
    (EachLeaf-implied (leaves_of s) (place_leaves_of s) p
    (record { sort = λ i h. h; constant = λ i h. h; object = λ i h. h; meta = λ i h. tt })
    (has.images q p is))
