-- What is assumed over other names is assumed over the names of the reader.
use Rattle.std.proofs.Common.{◌≡◌, ℕ, List, [], ◌∷◌, Bool, true, false, Some, refl, ap}
use Rattle.std.proofs.Common.{sym, ◌∙◌, inl, inr}
use Rattle.std.specs.Prelude.{codes, bytes_eq, take, ◌||◌}
use Rattle.std.proofs.lemmas.Slice.Eq.{bytes_eq-Decides}
use Rattle.mm_text.specs.Bytes.{Token}
use Rattle.ml_pat.specs.Named.{AreDistinct}
use Rattle.ml_pat.specs.Patterns.{Pattern, nullary, unary, binary, sorted, quantified, var, meta}
use Rattle.ml_pat.specs.Patterns.{constant}
use Rattle.ml_pat.specs.Leaves.{LeafFacts, EachLeaf}
use Rattle.rule_core.specs.declared.signature.Signature.{Signature}
use Rattle.ml_image.specs.Sentences.{Sentence, sentence_image}
use Rattle.mm_proof.specs.Tokens.{name_of, pattern_tokens}
use Rattle.pattern_reader.specs.Readings.{IsReading, IsSortToken, IsConstantToken, written_with}
use Rattle.pattern_reader.specs.ReadingLaws.{ReadingsAgree, IsRenumbered}
use Rattle.assumed_texts.proofs.SmallVariables.{small_variables}
use Rattle.mm_justify.proofs.ImageLeaves.{is_sort_token, is_constant_token, sentence_leaves}
use Rattle.assumed_texts.proofs.Renaming.{sentence-follows}

-- a token with a front of two bytes
led : (a b : ℕ) (t : Token) → bytes_eq (take 2 t) (a ∷ (b ∷ [])) ≡ true
    → (rest : Token) × (t ≡ a ∷ (b ∷ rest))
led a b t h = go t ((bytes_eq-Decides (take 2 t) (a ∷ (b ∷ []))).0 h)
  where
    go : (u : Token) → take 2 u ≡ a ∷ (b ∷ []) → (rest : Token) × (u ≡ a ∷ (b ∷ rest))
    go [] e = absurd (let z : ⊥ = cc in z)
    go (x ∷ []) e = absurd (let z : ⊥ = cc in z)
    go (x ∷ (y ∷ rest)) e = (rest, (let s : x ∷ (y ∷ rest) ≡ a ∷ (b ∷ rest) = cc in s))

sort_led : (t : Token) → is_sort_token t ≡ true → IsSortToken t
sort_led t h = led 115 58 t h

constant_led : (t : Token) → is_constant_token t ≡ true → IsConstantToken t
constant_led t h = go (bytes_eq (take 2 t) (codes "f:")) refl (bytes_eq (take 2 t) (codes "d:")) refl h
  where
    go : (x : Bool) → bytes_eq (take 2 t) (codes "f:") ≡ x → (y : Bool)
        → bytes_eq (take 2 t) (codes "d:") ≡ y → (x || y) ≡ true → IsConstantToken t
    go true hx y hy e = inl (led 102 58 t hx)
    go false hx true hy e = inr (led 100 58 t hy)
    go false hx false hy e = absurd (let z : ⊥ = cc in z)

-- all but the sizes of numbers
abbrev named_with : List Token → LeafFacts
named_with names = record {
  sort = λ i. IsSortToken (name_of names i);
  constant = λ i. IsConstantToken (name_of names i);
  object = λ x. Unit {0};
  meta = λ i. ⊥;
}

together : (names : List Token) (p : Pattern) → EachLeaf (named_with names) p
    → EachLeaf small_variables p → EachLeaf (written_with names) p
together names (nullary c) h k = tt
together names (unary c p) h k = together names p h k
together names (binary c p q) h k = (together names p h.0 k.0, together names q h.1 k.1)
together names (sorted c p s) h k = (together names p h.0 k.0, h.1)
together names (quantified c x s p) h k = (together names p h.0 k.0, (k.1.0, h.1.1))
together names (var x) h k = k
together names (meta i) h k = absurd h
together names (constant c) h k = h

-- the text of an image is read as that image
pub image-read : (sig : Signature) (names tokens : List Token) (s : Sentence) (p : Pattern)
    → sentence_image sig names s ≡ Some p → EachLeaf small_variables p
    → tokens ≡ pattern_tokens names p → IsReading names tokens p
image-read sig names tokens s p is small text = record {
  leaves = together names p
      (sentence_leaves sig names (named_with names) (record {
        sorts = λ n w t. sort_led (name_of names n) t;
        constants = λ n w t. constant_led (name_of names n) t;
      }) (λ x. tt) s p is) small;
  text = text;
}

-- so what is read over other names is its image too
pub image-over : (sig : Signature) (names others tokens : List Token) (s : Sentence) (p q : Pattern)
    → ReadingsAgree → AreDistinct names → IsReading names tokens p
    → sentence_image sig others s ≡ Some q → EachLeaf small_variables q
    → tokens ≡ pattern_tokens others q → sentence_image sig names s ≡ Some p
image-over sig names others tokens s p q agree distinct read is small text =
    let same : IsRenumbered names others p q =
    agree names others tokens p q distinct read (image-read sig others tokens s q is small text) in
    sentence-follows (record {
      names = names;
      others = others;
      number = same.number;
      distinct = distinct;
    }) sig s q is same.same
    ∙ ap Some (sym same.is)
