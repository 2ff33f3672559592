-- The characters of a string are written one by one.
use Rattle.std.proofs.Common.{◌≡◌, ℕ, List, [], ◌∷◌, ◌++◌, length, ap, sym, ◌∙◌, append_assoc}
use Rattle.std.proofs.Common.{arith, chars, IsUtf8}
use Rattle.std.proofs.lemmas.Str.{chars_past_char, chars-nil}
use Rattle.std.specs.Char.{encode_utf8}
use Rattle.kore_print.specs.TokenText.{character_text, characters_text}

-- a character was added, and what is written and what is left together are as before
pub character_added : (c : ℕ) (old new left rest whole : List ℕ) → IsUtf8 left
    → left ≡ encode_utf8 c ++ rest → new ≡ old ++ character_text c
    → old ++ (characters_text (chars left) ++ (34 ∷ [])) ≡ whole
    → new ++ (characters_text (chars rest) ++ (34 ∷ [])) ≡ whole
character_added c old new left rest whole u s h w =
    let e : chars left ≡ c ∷ chars rest = chars_past_char left rest c u s in
    ap (λ (t : List ℕ). t ++ (characters_text (chars rest) ++ (34 ∷ []))) h
    ∙ append_assoc old (character_text c) (characters_text (chars rest) ++ (34 ∷ []))
    ∙ ap (λ (t : List ℕ). old ++ t)
    (sym (append_assoc (character_text c) (characters_text (chars rest)) (34 ∷ [])))
    ∙ ap (λ (cs : List ℕ). old ++ (characters_text cs ++ (34 ∷ []))) (sym e)
    ∙ w

no-bytes : (bs : List ℕ) → length bs ≡ 0 → chars bs ≡ []
no-bytes [] h = chars-nil
no-bytes (b ∷ bs) h = let z : ⊥ = omega (arith, h) in absurd z

-- no character is left
pub quote_added : (old new left whole : List ℕ) → length left ≡ 0
    → old ++ (characters_text (chars left) ++ (34 ∷ [])) ≡ whole → new ≡ old ++ (34 ∷ [])
    → new ≡ whole
quote_added old new left whole n w h =
    h ∙ ap (λ (cs : List ℕ). old ++ (characters_text cs ++ (34 ∷ []))) (sym (no-bytes left n)) ∙ w
