use Rattle.std.proofs.Common.{◌≡◌, ℕ, ◌+◌, List, [], ◌∷◌, ◌++◌, length, Bool, true, false, cond}
use Rattle.std.proofs.Common.{Option, Some, None, refl, sym, ◌∙◌, ap, ◌≢◌, arith, add-zero, String}
use Rattle.std.proofs.Common.{map, string_bytes, ◌||◌, if◌then◌else◌}
use Rattle.std.specs.List.{list_any, position, position_from}
use Rattle.std.specs.Global.{Global}
use Rattle.std.specs.Str.{bytes_eq}
use Rattle.std.specs.String.{string_eq}
use Rattle.indexmap.specs.IndexSet.{insert_key}
use Rattle.std.proofs.lemmas.Iterator.Adapters.{position_from-zero}
use Rattle.std.proofs.lemmas.List.{map-append}
use Rattle.std.proofs.lemmas.Bool.{false≢true}
use Rattle.std.proofs.lemmas.Bool.Decides.{same_from_decides}
use Rattle.std.proofs.lemmas.Slice.Eq.{bytes_eq-Decides}
use Rattle.ml_pat.specs.Named.{token_number, IsNoneOf, AreDistinct}

-- whether two tokens are the same does not depend on their order
bytes_eq-comm : (a b : List ℕ) → bytes_eq a b ≡ bytes_eq b a
bytes_eq-comm a b =
    let d = bytes_eq-Decides b a in
    same_from_decides _ _ (bytes_eq-Decides a b) (λ e. sym (d.0 e), λ p. d.1 (sym p))

only_none : (b : Bool) (i : ℕ) (rest : Option ℕ) → cond b (Some i) rest ≡ None
    → (b ≡ false) × (rest ≡ None)
only_none true i rest h = absurd (let z : ⊥ = cc in z)
only_none false i rest h = (refl, h)

step : (e k q : List ℕ) (i n : ℕ) (rest old : Option ℕ) (b same : Bool) → bytes_eq k q ≡ same
    → bytes_eq q e ≡ b → bytes_eq k e ≡ false → rest ≡ cond same (Some n) old
    → cond b (Some i) rest ≡ cond same (Some n) (cond b (Some i) old)
step e k q i n rest old true true es eb kb h =
    absurd (false≢true (sym kb ∙ ap (λ x. bytes_eq x e) ((bytes_eq-Decides k q).0 es) ∙ eb))
step e k q i n rest old true false es eb kb h = refl
step e k q i n rest old false same es eb kb h = h

-- a token that is not found differs from the first one, and is not found among the others
not_found : (e : List ℕ) (es : List (List ℕ)) (i : ℕ) (k : List ℕ)
    → position_from (λ (other : List ℕ). bytes_eq k other) i (e ∷ es) ≡ None
    → (bytes_eq k e ≡ false)
    × (position_from (λ (other : List ℕ). bytes_eq k other) (i + 1) es ≡ None)
not_found e es i k h = only_none (bytes_eq k e) i _ h

from : (es : List (List ℕ)) (i : ℕ) (k q : List ℕ)
    → position_from (λ (e : List ℕ). bytes_eq k e) i es ≡ None
    → position_from (λ (e : List ℕ). bytes_eq q e) i (es ++ k ∷ [])
    ≡ cond (bytes_eq k q) (Some (i + length es))
    (position_from (λ (e : List ℕ). bytes_eq q e) i es)
from [] i k q h = rw (bytes_eq-comm q k, add-zero) refl
from (e ∷ es) i k q h =
    let o = not_found e es i k h in
    step e k q i (i + length (e ∷ es)) _ _ (bytes_eq q e) (bytes_eq k q) refl refl o.0 (from es
    (i + 1) k q o.1
    ∙ ap (λ n. cond (bytes_eq k q) (Some n)
    (position_from (λ (other : List ℕ). bytes_eq q other) (i + 1) es)) (omega arith))

-- the number of each token after a new token is added
pub number_of-push : (es : List (List ℕ)) (k q : List ℕ) → token_number es k ≡ None
    → token_number (es ++ k ∷ []) q ≡ cond (bytes_eq k q) (Some (length es)) (token_number es q)
number_of-push es k q h =
    from es 0 k q h ∙ ap (λ n. cond (bytes_eq k q) (Some n) (token_number es q)) (omega arith)

-- different tokens stay different when a token is added that is none of them
IsNoneOf-push : (name : List ℕ) (others : List (List ℕ)) (new : List ℕ) → IsNoneOf name others
    → name ≢ new → IsNoneOf name (others ++ new ∷ [])
IsNoneOf-push name [] new all last = (last, tt)
IsNoneOf-push name (other ∷ others) new all last = (all.0, IsNoneOf-push name others new all.1 last)

differ : (es : List (List ℕ)) (i : ℕ) (k : List ℕ) → AreDistinct es
    → position_from (λ (e : List ℕ). bytes_eq k e) i es ≡ None → AreDistinct (es ++ k ∷ [])
differ [] i k had absent = (tt, tt)
differ (e ∷ es) i k had absent =
    let o = not_found e es i k absent in (
      IsNoneOf-push e es k had.0
          (λ same. false≢true (sym o.0 ∙ (bytes_eq-Decides k e).1 (sym same))),
      differ es (i + 1) k had.1 o.1,
    )

pub AreDistinct-push : (es : List (List ℕ)) (k : List ℕ) → AreDistinct es → token_number es k ≡ None
    → AreDistinct (es ++ k ∷ [])
AreDistinct-push es k had absent = differ es 0 k had absent

-- ---- tokens in a set

-- the tokens that the strings say
abbrev pub tokens_in : List (String Global) → List (List ℕ)
tokens_in ks = map (λ k. string_bytes k) ks

found_at : (token : List ℕ) (i : ℕ) (ks : List (String Global))
    → position_from (λ (k : String Global). bytes_eq token (string_bytes k)) i ks
    ≡ position_from (λ (other : List ℕ). bytes_eq token other) i (tokens_in ks)
found_at token i [] = refl
found_at token i (k ∷ ks) =
    ap (cond (bytes_eq token (string_bytes k)) (Some i)) (found_at token (i + 1) ks)

-- a set finds a token at its number
pub index-token : (token : List ℕ) (ks : List (String Global))
    → position (λ (k : String Global). bytes_eq token (string_bytes k)) ks
    ≡ token_number (tokens_in ks) token
index-token token ks =
    position_from-zero (λ (k : String Global). bytes_eq token (string_bytes k)) ks
    ∙ found_at token 0 ks

-- a set has no token that has no number
absent : (token : List ℕ) (i : ℕ) (ks : List (String Global))
    → position_from (λ (other : List ℕ). bytes_eq token other) i (tokens_in ks) ≡ None
    → list_any (λ (k : String Global). bytes_eq token (string_bytes k)) ks ≡ false
absent token i [] h = refl
absent token i (k ∷ ks) h =
    let o = not_found (string_bytes k) (tokens_in ks) i token h in
    ap (λ b. b || list_any (λ (k' : String Global). bytes_eq token (string_bytes k')) ks) o.0
    ∙ absent token (i + 1) ks o.1

-- the tokens of a set after a new one is added
pub tokens-added : (old new : List (String Global)) (k : String Global)
    → token_number (tokens_in old) (string_bytes k) ≡ None → new ≡ insert_key string_eq old k
    → tokens_in new ≡ tokens_in old ++ string_bytes k ∷ []
tokens-added old new k none is =
    ap tokens_in (is
    ∙ ap (λ b. if b then old else old ++ k ∷ []) (absent (string_bytes k) 0 old none))
    ∙ map-append _ _ _
