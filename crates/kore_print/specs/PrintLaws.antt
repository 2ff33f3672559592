-- Laws on canonical texts: which patterns can be read from a text, and that the canonical text of
-- each of them reads back.
use Rattle.std.specs.Prelude.{◌≡◌, ◌≤◌, ℕ, true, false, IsTrue, List, [], ◌∷◌}
use Rattle.std.specs.Str.{IsUtf8}
use Rattle.kore_lex.specs.Pieces.{is_mark}
use Rattle.kore_lex.specs.Tokens.{IsName}
use Rattle.kore_text.specs.TokenStream.{KoreToken, identifier, set_identifier, builtin}
use Rattle.kore_text.specs.TokenStream.{string_token, mark, assign}
use Rattle.kore_text.specs.Trees.{PatternTree}
use Rattle.kore_text.specs.Grammar.{Requirement, placed, any, provided, spell_pattern}
use Rattle.kore_text.specs.Depth.{opened}
use Rattle.kore_print.specs.CanonicalText.{canonical_text}
use Rattle.kore_print.specs.Reading.{ReadsAs}

-- the token can occur in a text: names are identifiers, strings are UTF-8, marks are marks
abbrev pub IsTextual : KoreToken → Type 0
IsTextual (identifier n) = IsName n
IsTextual (set_identifier n) = IsName n
IsTextual (builtin b) = Unit {0}
IsTextual (string_token t) = IsUtf8 t
IsTextual (mark c) = is_mark c ≡ true
IsTextual assign = Unit {0}

-- the conditions hold, the tokens can occur in a text, and at most 500 brackets are open anywhere,
-- with n open at the start
abbrev pub CanStand : ℕ → List Requirement → Type 0
CanStand n [] = Unit {0}
CanStand n (provided b ∷ ws) = IsTrue b × CanStand n ws
CanStand n (placed at t ∷ ws) = IsTextual t × (opened t n ≤ 500) × CanStand (opened t n) ws
CanStand n (any t ∷ ws) = IsTextual t × (opened t n ≤ 500) × CanStand (opened t n) ws

-- some text spells the pattern, except for places
abbrev pub IsReadable : PatternTree → Type 0
IsReadable p = CanStand 0 (spell_pattern false p [])

-- the canonical text of a pattern that can be read spells it
abbrev pub ReadableReadsBack : Type 0
ReadableReadsBack = (p : PatternTree) → IsReadable p → ReadsAs (canonical_text p) p

-- a text spells only patterns that can be read
abbrev pub ReadIsReadable : Type 0
ReadIsReadable = (bytes : List ℕ) (p : PatternTree) → ReadsAs bytes p → IsReadable p
