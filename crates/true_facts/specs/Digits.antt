-- Hexadecimal digits, and what stands in front of them in a token.
use Rattle.std.specs.Prelude.{◌≡◌, ◌≢◌, ◌<◌, ℕ, List, Vec, Option, MatchOption, All, length}
use Rattle.std.specs.Prelude.{slice_index}
use Rattle.std.specs.Global.{Global}
use Rattle.ml_image.specs.Tokens.{hexadecimal}

abbrev pub AreBytes : List ℕ → Type 0
AreBytes bytes = All (λ b. b < 256) bytes

-- the bytes that the digits spell, or they spell no bytes
abbrev pub AreSpelled : List ℕ → Option (Vec ℕ Global) → Type 0
AreSpelled digits r =
    MatchOption r ((bytes : List ℕ) → AreBytes bytes → digits ≢ hexadecimal bytes)
    (λ v. AreBytes v.items × (digits ≡ hexadecimal v.items))

-- no byte of the text is a colon
abbrev pub HasNoColon : List ℕ → Type 0
HasNoColon bytes = (i : ℕ) → i < length bytes → slice_index bytes i ≢ 58
