-- Hexadecimal digits, byte by byte.
use Rattle.std.proofs.Common.{◌≡◌, ◌<◌, ◌/◌, ◌%◌, ℕ, ◌+◌, List, [], ◌∷◌, ◌++◌, refl, ap, sym, ◌∙◌}
use Rattle.std.proofs.Common.{length, take, get_or, append_assoc}
use Rattle.std.proofs.lemmas.List.{take_more}
use Rattle.std.specs.Char.{digit_char}
use Rattle.ml_image.specs.Tokens.{hexadecimal}

pub hexadecimal-push : (bytes : List ℕ) (byte : ℕ)
    → hexadecimal (bytes ++ byte ∷ [])
    ≡ hexadecimal bytes ++ digit_char (byte / 16) ∷ (digit_char (byte % 16) ∷ [])
hexadecimal-push [] byte = refl
hexadecimal-push (b ∷ bytes) byte =
    ap (λ (ds : List ℕ). digit_char (b / 16) ∷ (digit_char (b % 16) ∷ ds))
    (hexadecimal-push bytes byte)

pub hexadecimal-next : (bytes : List ℕ) (i byte : ℕ) (start old : List ℕ) → i < length bytes
    → byte ≡ get_or bytes i byte → old ≡ start ++ hexadecimal (take i bytes)
    → (old ++ digit_char (byte / 16) ∷ []) ++ digit_char (byte % 16) ∷ []
    ≡ start ++ hexadecimal (take (i + 1) bytes)
hexadecimal-next bytes i byte start old lt e before =
    let front : take (i + 1) bytes ≡ take i bytes ++ byte ∷ [] =
    take_more bytes i byte lt ∙ ap (λ (b : ℕ). take i bytes ++ b ∷ []) (sym e) in
    append_assoc old (digit_char (byte / 16) ∷ []) (digit_char (byte % 16) ∷ [])
    ∙ ap (λ (bs : List ℕ). bs ++ (digit_char (byte / 16) ∷ (digit_char (byte % 16) ∷ []))) before
    ∙ append_assoc start (hexadecimal (take i bytes))
    (digit_char (byte / 16) ∷ (digit_char (byte % 16) ∷ []))
    ∙ ap (λ (bs : List ℕ). start ++ bs)
    (sym (hexadecimal-push (take i bytes) byte) ∙ ap hexadecimal (sym front))
