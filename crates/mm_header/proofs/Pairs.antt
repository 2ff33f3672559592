-- The required pair of a frame.
use Rattle.std.proofs.Common.{◌≡◌, Bool, true, false, [], ◌∷◌, refl, sym, ap, ◌∙◌, ◌⊎◌, inl, inr}
use Rattle.std.specs.Prelude.{not, ◌&&◌, ◌||◌, bytes_eq}
use Rattle.std.specs.List.{list_any}
use Rattle.std.proofs.lemmas.Slice.Eq.{bytes_eq-Decides}
use Rattle.mm_text.specs.Bytes.{Token}
use Rattle.mm_database.specs.Database.{are_different_tokens}
use Rattle.mm_header.specs.HeaderRows.{is_pair}

pub same_token : (a b : Token) → bytes_eq a b ≡ true → a ≡ b
same_token a b h = (bytes_eq-Decides a b).0 h

pub token_same : (a b : Token) → a ≡ b → bytes_eq a b ≡ true
token_same a b h = (bytes_eq-Decides a b).1 h

-- whether x or y is a, or is b, and whether a is b
pair_tests : (xa ya xb yb ab : Bool) → (xa ≡ true → xb ≡ true → ab ≡ true)
    → (ya ≡ true → yb ≡ true → ab ≡ true) → (xa ≡ true → ya ≡ true → ⊥)
    → (xb ≡ true → yb ≡ true → ⊥) → (xa ≡ true → yb ≡ true → ab ≡ true → ⊥)
    → (ya ≡ true → xb ≡ true → ab ≡ true → ⊥)
    → (not ab && ((xa || (ya || false)) && (xb || (yb || false))))
    ≡ (((xa && yb) || (ya && xb)) || false)
pair_tests true true xb yb ab xx yy xy xy' d d' = absurd (xy refl refl)
pair_tests true false true true ab xx yy xy xy' d d' = absurd (xy' refl refl)
pair_tests true false true false true xx yy xy xy' d d' = refl
pair_tests true false true false false xx yy xy xy' d d' =
    absurd (let no : false ≡ true = xx refl refl in cc)
pair_tests true false false true true xx yy xy xy' d d' = absurd (d refl refl refl)
pair_tests true false false true false xx yy xy xy' d d' = refl
pair_tests true false false false true xx yy xy xy' d d' = refl
pair_tests true false false false false xx yy xy xy' d d' = refl
pair_tests false true true true ab xx yy xy xy' d d' = absurd (xy' refl refl)
pair_tests false true true false true xx yy xy xy' d d' = absurd (d' refl refl refl)
pair_tests false true true false false xx yy xy xy' d d' = refl
pair_tests false true false true true xx yy xy xy' d d' = refl
pair_tests false true false true false xx yy xy xy' d d' =
    absurd (let no : false ≡ true = yy refl refl in cc)
pair_tests false true false false true xx yy xy xy' d d' = refl
pair_tests false true false false false xx yy xy xy' d d' = refl
pair_tests false false xb yb true xx yy xy xy' d d' = refl
pair_tests false false xb yb false xx yy xy xy' d d' = refl

different_pair : (x y a b : Token) → bytes_eq x y ≡ false
    → are_different_tokens (x ∷ (y ∷ [])) a b ≡ list_any (is_pair a b) ((x, y) ∷ [])
different_pair x y a b differ =
    pair_tests (bytes_eq x a) (bytes_eq y a) (bytes_eq x b) (bytes_eq y b) (bytes_eq a b)
    (λ p q. token_same a b (sym (same_token x a p) ∙ same_token x b q))
    (λ p q. token_same a b (sym (same_token y a p) ∙ same_token y b q))
    (λ p q. no (same_token x a p ∙ sym (same_token y a q)))
    (λ p q. no (same_token x b p ∙ sym (same_token y b q)))
    (λ p q r. no (same_token x a p ∙ same_token a b r ∙ sym (same_token y b q)))
    (λ p q r. no (same_token x b q ∙ sym (same_token a b r) ∙ sym (same_token y a p)))
  where
    no : x ≡ y → ⊥
    no same = let yes : bytes_eq x y ≡ true = token_same x y same in cc

implied : (p q : Bool) → (p ≡ true → q ≡ true) → (p && q) ≡ p
implied true q h = h refl
implied false q h = refl

both : (p q : Bool) → p ≡ true → q ≡ true → (p && q) ≡ true
both true q h k = k
both false q h k = absurd (cc)

either : (p q p' q' : Bool) → (((p && q) || (p' && q')) || false) ≡ true
    → ((p ≡ true) × (q ≡ true)) ⊎ ((p' ≡ true) × (q' ≡ true))
either true true p' q' h = inl (refl, refl)
either true false true true h = inr (refl, refl)
either true false true false h = absurd (cc)
either true false false q' h = absurd (cc)
either false q true true h = inr (refl, refl)
either false q true false h = absurd (cc)
either false q false q' h = absurd (cc)

-- both variables of the pair are needed
pub needed_pair : (needed : Token → Bool) (x y a b : Token) → bytes_eq x y ≡ false → needed x ≡ true
    → needed y ≡ true
    → (are_different_tokens (x ∷ (y ∷ [])) a b && (needed a && needed b))
    ≡ list_any (is_pair a b) ((x, y) ∷ [])
needed_pair needed x y a b differ nx ny =
    ap (λ p. p && (needed a && needed b)) (different_pair x y a b differ)
    ∙ implied (list_any (is_pair a b) ((x, y) ∷ [])) (needed a && needed b)
    (λ h. go (either (bytes_eq x a) (bytes_eq y b) (bytes_eq y a) (bytes_eq x b) h))
  where
    go : ((bytes_eq x a ≡ true) × (bytes_eq y b ≡ true))
        ⊎ ((bytes_eq y a ≡ true) × (bytes_eq x b ≡ true)) → (needed a && needed b) ≡ true
    go (inl (p, q)) =
        both (needed a) (needed b) (ap needed (sym (same_token x a p)) ∙ nx)
        (ap needed (sym (same_token y b q)) ∙ ny)
    go (inr (p, q)) =
        both (needed a) (needed b) (ap needed (sym (same_token y a p)) ∙ ny)
        (ap needed (sym (same_token x b q)) ∙ nx)
