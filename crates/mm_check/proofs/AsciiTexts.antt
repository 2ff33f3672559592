-- The tokens of the statements of a text are ASCII.
use Rattle.std.proofs.Common.{◌≡◌, ℕ, ◌<◌, ◌+◌, Bool, true, false, List, [], ◌∷◌, ◌++◌, refl, arith}
use Rattle.std.proofs.Common.{lt-ltb}
use Rattle.std.specs.Prelude.{if◌then◌else◌, nat_le, nat_lt, Option, Some, None}
use Rattle.std.proofs.lemmas.Bool.{leb-true, and_parts}
use Rattle.mm_text.specs.Bytes.{Token, Class, printable, white, foreign, class_of, is_white}
use Rattle.mm_text.specs.Bytes.{is_printable}
use Rattle.mm_text.specs.Tokens.{Piece, run, stray, with_byte, begins_printable, pieces_from}
use Rattle.mm_text.specs.Tokens.{Place, outside, in_comment, nothing, a_token, a_fault}
use Rattle.mm_text.specs.Tokens.{comment_end, with_given, Tokens, no_token, bad_text, next_token}
use Rattle.mm_text.specs.Tokens.{place_after, tokens_in, opens_comment, closes_comment}
use Rattle.mm_text.specs.Tokens.{has_comment_mark}
use Rattle.mm_text.specs.Statements.{Statements, Reading, between, within, is_whole, ends_statement}
use Rattle.mm_text.specs.Statements.{reading_after, with_ended, statements_in, statement}
use Rattle.mm_text.specs.Statements.{statements_of}
use Rattle.mm_text.specs.declared.fault.MmFault.{MmFault}
use Rattle.mm_proof.proofs.LeafLaws.{list_all-append}
use Rattle.mm_check.specs.PlainStatements.{is_ascii_token, are_ascii, AreAscii}

-- ---- pieces

abbrev RunsAscii : List Piece → Type 0
RunsAscii [] = Unit {0}
RunsAscii (run at token ∷ ps) = (is_ascii_token token ≡ true) × RunsAscii ps
RunsAscii (stray at ∷ ps) = RunsAscii ps

small : (b : ℕ) → class_of b ≡ printable → nat_lt b 128 ≡ true
small b is = go (is_white b) (is_printable b) refl is
  where
    go : (w p : Bool) → is_printable b ≡ p
        → (if w then white else if p then printable else foreign) ≡ printable
        → nat_lt b 128 ≡ true
    go true p e h = let no : ⊥ = cc in absurd no
    go false false e h = let no : ⊥ = cc in absurd no
    go false true e h =
        let top : b < 128 =
        omega (arith, leb-true b 126 (and_parts (nat_le 33 b) (nat_le b 126) e).1) in
        lt-ltb b 128 top

byte_ascii : (k : Class) (begins : Bool) (at b : ℕ) (ps : List Piece)
    → (k ≡ printable → nat_lt b 128 ≡ true) → RunsAscii ps → RunsAscii (with_byte k begins at b ps)
byte_ascii printable true at b [] below all = (rw (below refl) refl, tt)
byte_ascii printable true at b (run later token ∷ ps) below all = (rw (below refl) all.0, all.1)
byte_ascii printable true at b (stray later ∷ ps) below all = (rw (below refl) refl, all)
byte_ascii printable false at b ps below all = (rw (below refl) refl, all)
byte_ascii white begins at b ps below all = all
byte_ascii foreign begins at b ps below all = all

runs_ascii : (at : ℕ) (bytes : List ℕ) → RunsAscii (pieces_from at bytes)
runs_ascii at [] = tt
runs_ascii at (b ∷ bytes) =
    byte_ascii (class_of b) (begins_printable bytes) at b (pieces_from (at + 1) bytes) (small b)
    (runs_ascii (at + 1) bytes)

-- ---- tokens

abbrev TokensAscii : Tokens → Type 0
TokensAscii no_token = Unit {0}
TokensAscii (bad_text f) = Unit {0}
TokensAscii (next_token at token ts) = (is_ascii_token token ≡ true) × TokensAscii ts

outside_ascii : (opens closes : Bool) (f : MmFault) (at : ℕ) (token : Token) (ts : Tokens)
    → is_ascii_token token ≡ true → TokensAscii ts
    → TokensAscii (with_given
    (if opens then nothing else if closes then a_fault f else a_token at token) ts)
outside_ascii true closes f at token ts first rest = rest
outside_ascii false true f at token ts first rest = tt
outside_ascii false false f at token ts first rest = (first, rest)

ended_ascii : (bad : Option ℕ) (ts : Tokens) → TokensAscii ts
    → TokensAscii (with_given (comment_end bad) ts)
ended_ascii None ts rest = rest
ended_ascii (Some at) ts rest = tt

inside_ascii : (closes marks : Bool) (bad : Option ℕ) (f : MmFault) (ts : Tokens) → TokensAscii ts
    → TokensAscii (with_given
    (if closes then comment_end bad else if marks then a_fault f else nothing) ts)
inside_ascii true marks bad f ts rest = ended_ascii bad ts rest
inside_ascii false true bad f ts rest = tt
inside_ascii false false bad f ts rest = rest

tokens_ascii : (place : Place) (ps : List Piece) → RunsAscii ps → TokensAscii (tokens_in place ps)
tokens_ascii outside [] all = tt
tokens_ascii (in_comment opened bad) [] all = tt
tokens_ascii outside (stray at ∷ ps) all = tt
tokens_ascii (in_comment opened bad) (stray at ∷ ps) all =
    tokens_ascii (place_after (in_comment opened bad) (stray at)) ps all
tokens_ascii outside (run at token ∷ ps) all =
    outside_ascii (opens_comment token) (closes_comment token) _ at token
    (tokens_in (place_after outside (run at token)) ps) all.0
    (tokens_ascii (place_after outside (run at token)) ps all.1)
tokens_ascii (in_comment opened bad) (run at token ∷ ps) all =
    inside_ascii (closes_comment token) (has_comment_mark token) bad _
    (tokens_in (place_after (in_comment opened bad) (run at token)) ps)
    (tokens_ascii (place_after (in_comment opened bad) (run at token)) ps all.1)

-- ---- statements

abbrev ReadingAscii : Reading → Type 0
ReadingAscii between = Unit {0}
ReadingAscii (within at ts) = are_ascii ts ≡ true

alone_ascii : (token : Token) → is_ascii_token token ≡ true → are_ascii (token ∷ []) ≡ true
alone_ascii token is = rw is refl

whole_ascii : (whole : Bool) (at : ℕ) (token : Token) (ss : Statements)
    → is_ascii_token token ≡ true → AreAscii ss
    → AreAscii (with_ended (if whole then Some (statement at (token ∷ [])) else None) ss)
whole_ascii true at token ss first rest = (alone_ascii token first, rest)
whole_ascii false at token ss first rest = rest

end_ascii : (ends : Bool) (at : ℕ) (tokens : List Token) (ss : Statements)
    → are_ascii tokens ≡ true → AreAscii ss
    → AreAscii (with_ended (if ends then Some (statement at tokens) else None) ss)
end_ascii true at tokens ss all rest = (all, rest)
end_ascii false at tokens ss all rest = rest

begun_ascii : (whole : Bool) (at : ℕ) (token : Token) → is_ascii_token token ≡ true
    → ReadingAscii (if whole then between else within at (token ∷ []))
begun_ascii true at token first = tt
begun_ascii false at token first = alone_ascii token first

more_ascii : (ends : Bool) (at : ℕ) (tokens : List Token) → are_ascii tokens ≡ true
    → ReadingAscii (if ends then between else within at tokens)
more_ascii true at tokens all = tt
more_ascii false at tokens all = all

statements_ascii : (reading : Reading) (ts : Tokens) → ReadingAscii reading → TokensAscii ts
    → AreAscii (statements_in reading ts)
statements_ascii between no_token begun all = tt
statements_ascii (within at tokens) no_token begun all = tt
statements_ascii reading (bad_text f) begun all = tt
statements_ascii between (next_token at token ts) begun all =
    whole_ascii (is_whole token) at token (statements_in (reading_after between at token) ts) all.0
    (statements_ascii (reading_after between at token) ts
    (begun_ascii (is_whole token) at token all.0)
    all.1)
statements_ascii (within at tokens) (next_token here token ts) begun all =
    let more : are_ascii (tokens ++ token ∷ []) ≡ true =
    list_all-append is_ascii_token tokens (token ∷ []) begun (alone_ascii token all.0) in
    end_ascii (ends_statement token) at (tokens ++ token ∷ [])
    (statements_in (reading_after (within at tokens) here token) ts) more
    (statements_ascii (reading_after (within at tokens) here token) ts
    (more_ascii (ends_statement token) at (tokens ++ token ∷ []) more) all.1)

pub text_ascii : (bytes : List ℕ) → AreAscii (statements_of bytes)
text_ascii bytes =
    statements_ascii between (tokens_in outside (pieces_from 0 bytes)) tt
    (tokens_ascii outside (pieces_from 0 bytes) (runs_ascii 0 bytes))
