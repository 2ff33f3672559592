-- The tokens of a text that consists of required tokens: these tokens, each at its place.
use Rattle.std.proofs.Common.{◌≡◌, ◌+◌, ℕ, Bool, true, false, List, [], ◌∷◌, ◌++◌, length, drop}
use Rattle.std.proofs.Common.{refl, ap, ◌∙◌, arith, ◌==◌, ◌&&◌, ◌||◌, not, Some, None}
use Rattle.std.proofs.lemmas.Bool.Decides.{nat_tests}
use Rattle.kore_lex.specs.Pieces.{piece, is_letter, is_word, is_mark}
use Rattle.kore_lex.specs.Lexed.{lexed}
use Rattle.kore_lex.specs.Tokens.{IsName}
use Rattle.kore_lex.proofs.Lexing.{lexed-is}
use Rattle.kore_text.specs.TokenStream.{KoreToken, identifier, set_identifier, builtin}
use Rattle.kore_text.specs.TokenStream.{string_token, mark, assign, Stream, end, token}
use Rattle.kore_text.specs.TokenStream.{named_tokens, token_stream}
use Rattle.kore_text.specs.Grammar.{Requirement, placed, any, provided}
use Rattle.kore_text.specs.Depth.{opened, IsShallow}
use Rattle.kore_print.specs.TokenText.{token_text}
use Rattle.kore_print.specs.CanonicalText.{text_of}
use Rattle.kore_print.specs.PrintLaws.{CanStand, IsTextual}
use Rattle.kore_lex.proofs.WholePieces.{begins_word, begins_equals}
use Rattle.kore_print.proofs.TokenPieces.{IsApart, token-cut, behind-token}

-- the required tokens from a place, each after the text of the tokens before it
abbrev pub stream_of : ℕ → List Requirement → Stream
stream_of at [] = end at
stream_of at (provided b ∷ ws) = stream_of at ws
stream_of at (placed p t ∷ ws) = token t at (stream_of (at + length (token_text t)) ws)
stream_of at (any t ∷ ws) = token t at (stream_of (at + length (token_text t)) ws)

-- the next required token is a mark, or there is none
abbrev pub is_marked : List Requirement → Bool
is_marked [] = true
is_marked (provided b ∷ ws) = is_marked ws
is_marked (placed p (mark c) ∷ ws) = true
is_marked (any (mark c) ∷ ws) = true
is_marked _ = false

-- the next required token is an identifier
abbrev pub is_named : List Requirement → Bool
is_named (provided b ∷ ws) = is_named ws
is_named (placed p (identifier n) ∷ ws) = true
is_named (any (identifier n) ∷ ws) = true
is_named _ = false

-- the required tokens may follow the token
abbrev pub Suits : KoreToken → List Requirement → Type 0
Suits (identifier n) ws = is_marked ws ≡ true
Suits (set_identifier n) ws = is_marked ws ≡ true
Suits (builtin (Some b)) ws = is_marked ws ≡ true
Suits (builtin None) ws = ⊥
Suits (string_token t) ws = Unit {0}
Suits (mark c) ws = (not (c == 58) || is_named ws) ≡ true
Suits assign ws = Unit {0}

-- each token may be followed by what follows it
abbrev pub Parted : List Requirement → Type 0
Parted [] = Unit {0}
Parted (provided b ∷ ws) = Parted ws
Parted (placed p t ∷ ws) = Suits t ws × Parted ws
Parted (any t ∷ ws) = Suits t ws × Parted ws

mark-no-word : (c : ℕ) → is_mark c ≡ true → is_word c ≡ false
mark-no-word c h = grind (arith, nat_tests)

letter-no-equals : (c : ℕ) → is_letter c ≡ true → (c == 61) ≡ false
letter-no-equals c h = grind (arith, nat_tests)

marked-apart : (ws : List Requirement) (n : ℕ) → is_marked ws ≡ true → CanStand n ws
    → begins_word (text_of ws) ≡ false
marked-apart [] n m h = refl
marked-apart (provided b ∷ ws) n m h = marked-apart ws n m h.1
marked-apart (placed p (mark c) ∷ ws) n m h = mark-no-word c h.0
marked-apart (placed p (identifier x) ∷ ws) n m h = let z : ⊥ = cc in absurd z
marked-apart (placed p (set_identifier x) ∷ ws) n m h = let z : ⊥ = cc in absurd z
marked-apart (placed p (builtin x) ∷ ws) n m h = let z : ⊥ = cc in absurd z
marked-apart (placed p (string_token x) ∷ ws) n m h = let z : ⊥ = cc in absurd z
marked-apart (placed p assign ∷ ws) n m h = let z : ⊥ = cc in absurd z
marked-apart (any (mark c) ∷ ws) n m h = mark-no-word c h.0
marked-apart (any (identifier x) ∷ ws) n m h = let z : ⊥ = cc in absurd z
marked-apart (any (set_identifier x) ∷ ws) n m h = let z : ⊥ = cc in absurd z
marked-apart (any (builtin x) ∷ ws) n m h = let z : ⊥ = cc in absurd z
marked-apart (any (string_token x) ∷ ws) n m h = let z : ⊥ = cc in absurd z
marked-apart (any assign ∷ ws) n m h = let z : ⊥ = cc in absurd z

name-no-equals : (x r : List ℕ) → IsName x → begins_equals (x ++ r) ≡ false
name-no-equals [] r h = absurd h
name-no-equals (c ∷ cs) r h = letter-no-equals c h.0

named-apart : (ws : List Requirement) (n : ℕ) → is_named ws ≡ true → CanStand n ws
    → begins_equals (text_of ws) ≡ false
named-apart [] n m h = refl
named-apart (provided b ∷ ws) n m h = named-apart ws n m h.1
named-apart (placed p (identifier x) ∷ ws) n m h = name-no-equals x (text_of ws) h.0
named-apart (placed p (mark x) ∷ ws) n m h = let z : ⊥ = cc in absurd z
named-apart (placed p (set_identifier x) ∷ ws) n m h = let z : ⊥ = cc in absurd z
named-apart (placed p (builtin x) ∷ ws) n m h = let z : ⊥ = cc in absurd z
named-apart (placed p (string_token x) ∷ ws) n m h = let z : ⊥ = cc in absurd z
named-apart (placed p assign ∷ ws) n m h = let z : ⊥ = cc in absurd z
named-apart (any (identifier x) ∷ ws) n m h = name-no-equals x (text_of ws) h.0
named-apart (any (mark x) ∷ ws) n m h = let z : ⊥ = cc in absurd z
named-apart (any (set_identifier x) ∷ ws) n m h = let z : ⊥ = cc in absurd z
named-apart (any (builtin x) ∷ ws) n m h = let z : ⊥ = cc in absurd z
named-apart (any (string_token x) ∷ ws) n m h = let z : ⊥ = cc in absurd z
named-apart (any assign ∷ ws) n m h = let z : ⊥ = cc in absurd z

colon-apart : (a : Bool) (ws : List Requirement) (n : ℕ) → (not a || is_named ws) ≡ true
    → CanStand n ws → (a && begins_equals (text_of ws)) ≡ false
colon-apart true ws n m h = named-apart ws n m h
colon-apart false ws n m h = refl

suits-apart : (t : KoreToken) (ws : List Requirement) (n : ℕ) → Suits t ws → CanStand n ws
    → IsApart t (text_of ws)
suits-apart (identifier x) ws n s h = marked-apart ws n s h
suits-apart (set_identifier x) ws n s h = marked-apart ws n s h
suits-apart (builtin (Some b)) ws n s h = marked-apart ws n s h
suits-apart (builtin None) ws n s h = s
suits-apart (string_token x) ws n s h = tt
suits-apart (mark c) ws n s h = colon-apart (c == 58) ws n s h
suits-apart assign ws n s h = tt

nothing-left : (whole : List ℕ) (at : ℕ) → named_tokens whole (lexed at []) ≡ end at
unfolding piece
nothing-left whole at = ap (named_tokens whole) (lexed-is at [])

one-token : (t : KoreToken) (ws : List Requirement) (whole : List ℕ) (n at : ℕ) → IsTextual t
    → CanStand n ws → Suits t ws → drop at whole ≡ token_text t ++ text_of ws
    → ((i : ℕ) → drop i whole ≡ text_of ws → named_tokens whole (lexed i (text_of ws))
    ≡ stream_of i ws)
    → named_tokens whole (lexed at (token_text t ++ text_of ws))
    ≡ token t at (stream_of (at + length (token_text t)) ws)
one-token t ws whole n at x h s d go =
    let i : ℕ = at + length (token_text t) in
    token-cut t (text_of ws) whole at x (suits-apart t ws n s h) d
    ∙ ap (token t at) (go i (behind-token t (text_of ws) whole at d))

-- the text of requirements has the required tokens
pub spelled-stream : (ws : List Requirement) (whole : List ℕ) (n at : ℕ) → CanStand n ws → Parted ws
    → drop at whole ≡ text_of ws → named_tokens whole (lexed at (text_of ws)) ≡ stream_of at ws
spelled-stream [] whole n at h s d = nothing-left whole at
spelled-stream (provided b ∷ ws) whole n at h s d = spelled-stream ws whole n at h.1 s d
spelled-stream (placed p t ∷ ws) whole n at h s d =
    one-token t ws whole (opened t n) at h.0 h.2 s.0 d
    (λ i e. spelled-stream ws whole (opened t n) i h.2 s.1 e)
spelled-stream (any t ∷ ws) whole n at h s d =
    one-token t ws whole (opened t n) at h.0 h.2 s.0 d
    (λ i e. spelled-stream ws whole (opened t n) i h.2 s.1 e)

pub tokens-spelled : (ws : List Requirement) (n : ℕ) → CanStand n ws → Parted ws
    → token_stream (text_of ws) ≡ stream_of 0 ws
unfolding token_stream
tokens-spelled ws n h s = spelled-stream ws (text_of ws) n 0 h s refl

-- few brackets are open in these tokens
pub spelled-shallow : (ws : List Requirement) (n at : ℕ) → CanStand n ws
    → IsShallow n (stream_of at ws)
spelled-shallow [] n at h = tt
spelled-shallow (provided b ∷ ws) n at h = spelled-shallow ws n at h.1
spelled-shallow (placed p t ∷ ws) n at h =
    (h.1, spelled-shallow ws (opened t n) (at + length (token_text t)) h.2)
spelled-shallow (any t ∷ ws) n at h =
    (h.1, spelled-shallow ws (opened t n) (at + length (token_text t)) h.2)
