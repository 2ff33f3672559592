-- Short tokens, as the entries of names hold them.
use Rattle.std.specs.Prelude.{◌≡◌, ◌≤◌, ℕ, List, length, take}

-- the front begins with the whole token if the token is short
abbrev pub IsFront : List ℕ → List ℕ → Type 0
IsFront front word = length word ≤ 16 → take (length word) front ≡ word
