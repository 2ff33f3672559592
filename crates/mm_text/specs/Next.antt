-- What reading the next token of a text returns.
use Rattle.std.specs.Prelude.{◌≡◌, ◌<◌, ◌≤◌, ℕ, List, length, drop, Option, Some, None, Result, Ok}
use Rattle.std.specs.Prelude.{Err}
use Rattle.std.specs.List.{slice_range}
use Rattle.mm_text.specs.Tokens.{Tokens, no_token, bad_text, next_token, tokens_from}
use Rattle.mm_text.specs.declared.fault.MmFault.{MmFault}
use Rattle.mm_text.specs.declared.tokens.MmToken.{MmToken}
use Rattle.mm_text.specs.declared.tokens.MmTokens.{MmTokens}

-- the tokens that are left
abbrev pub left : MmTokens → Tokens
left t = tokens_from t.at (drop t.at t.bytes.now)

-- the first token of `before` is returned, and `behind` has the others; at the end and at a fault
-- nothing is read
abbrev pub Gives : List ℕ → Tokens → Tokens → Result (Option MmToken) MmFault → Type 0
Gives bytes before behind (Ok (Some t)) =
    before ≡ next_token t.from (slice_range bytes t.from t.to) behind
Gives bytes before behind (Ok None) = (before ≡ no_token) × (behind ≡ no_token)
Gives bytes before behind (Err f) = (before ≡ bad_text f) × (behind ≡ bad_text f)

-- a token begins at or after `old`, and ends at `new`
abbrev pub Lies : List ℕ → ℕ → ℕ → Option MmToken → Type 0
Lies bytes old new (Some t) =
    (old ≤ t.from) × (t.from < t.to) × (t.to ≤ length bytes) × (new ≡ t.to)
Lies bytes old new None = Unit {0}
