-- A text after a text that ends well is read the same as on its own.
use Rattle.std.proofs.Common.{◌≡◌, ℕ, ◌+◌, Bool, true, false, List, [], ◌∷◌, ◌++◌, length, refl, ap}
use Rattle.std.proofs.Common.{◌∙◌, arith}
use Rattle.std.specs.Prelude.{Option, Some, None}
use Rattle.mm_text.specs.Bytes.{Class, printable, white, foreign, class_of, is_printable_class}
use Rattle.mm_text.specs.Tokens.{Piece, run, stray, begins_printable, grown, with_byte, pieces_from}
use Rattle.mm_text.specs.Tokens.{Place, outside, in_comment, place_after, Given, nothing, a_token}
use Rattle.mm_text.specs.Tokens.{a_fault, given, Tokens, no_token, bad_text, next_token, with_given}
use Rattle.mm_text.specs.Tokens.{tokens_in, tokens_from}
use Rattle.mm_text.specs.Statements.{Statement, Statements, Reading, between, within, reading_after}
use Rattle.mm_text.specs.Statements.{ended_by, with_ended, statements_in}
use Rattle.mm_text.specs.TextLaws.{end_well, followed_by, AppendedText}
use Rattle.mm_text.proofs.Truths.{white_class}
use Rattle.mm_text.specs.Written.{ends_white}

grown-append : (at b : ℕ) (p : Piece) (ps qs : List Piece)
    → grown at b ((p ∷ ps) ++ qs) ≡ grown at b (p ∷ ps) ++ qs
grown-append at b (run later token) ps qs = refl
grown-append at b (stray later) ps qs = refl

-- a byte before a byte that has pieces after it
with_byte-append : (k l : Class) (begins : Bool) (at b later c : ℕ) (ps qs : List Piece)
    → with_byte k (is_printable_class l) at b (with_byte l begins later c ps ++ qs)
    ≡ with_byte k (is_printable_class l) at b (with_byte l begins later c ps) ++ qs
with_byte-append printable printable true at b later c [] qs = refl
with_byte-append printable printable true at b later c (run place token ∷ ps) qs = refl
with_byte-append printable printable true at b later c (stray place ∷ ps) qs = refl
with_byte-append printable printable false at b later c ps qs = refl
with_byte-append printable white begins at b later c ps qs = refl
with_byte-append printable foreign begins at b later c ps qs = refl
with_byte-append white l begins at b later c ps qs = refl
with_byte-append foreign l begins at b later c ps qs = refl

pub pieces_from-append : (at : ℕ) (xs ys : List ℕ) → ends_white xs ≡ true
    → pieces_from at (xs ++ ys) ≡ pieces_from at xs ++ pieces_from (at + length xs) ys
pieces_from-append at [] ys h = ap (λ n. pieces_from n ys) (omega arith)
pieces_from-append at (b ∷ []) ys h = rw (white_class b h) refl
pieces_from-append at (b ∷ (c ∷ bs)) ys h =
    ap (with_byte (class_of b) (is_printable_class (class_of c)) at b)
    (pieces_from-append (at + 1) (c ∷ bs) ys h)
    ∙ with_byte-append (class_of b) (class_of c) (begins_printable bs) at b (at + 1) c
    (pieces_from (at + 1 + 1) bs) (pieces_from (at + 1 + length (c ∷ bs)) ys)
    ∙ ap (λ n. pieces_from at (b ∷ (c ∷ bs)) ++ pieces_from n ys) (omega arith)

-- the tokens end outside comments
abbrev pub end_outside : Tokens → Bool
end_outside no_token = true
end_outside (bad_text f) = false
end_outside (next_token at token tokens) = end_outside tokens

-- tokens, with others instead of their end
abbrev pub then_tokens : Tokens → Tokens → Tokens
then_tokens no_token more = more
then_tokens (bad_text f) more = bad_text f
then_tokens (next_token at token tokens) more = next_token at token (then_tokens tokens more)

end_outside-rest : (g : Given) (s : Tokens) → end_outside (with_given g s) ≡ true
    → end_outside s ≡ true
end_outside-rest nothing s h = h
end_outside-rest (a_token at token) s h = h
end_outside-rest (a_fault f) s h = absurd (cc)

with_given-then : (g : Given) (s t : Tokens)
    → with_given g (then_tokens s t) ≡ then_tokens (with_given g s) t
with_given-then nothing s t = refl
with_given-then (a_token at token) s t = refl
with_given-then (a_fault f) s t = refl

pub tokens_in-append : (place : Place) (ps qs : List Piece)
    → end_outside (tokens_in place ps) ≡ true
    → tokens_in place (ps ++ qs) ≡ then_tokens (tokens_in place ps) (tokens_in outside qs)
tokens_in-append outside [] qs h = refl
tokens_in-append (in_comment opened bad) [] qs h = absurd (cc)
tokens_in-append place (p ∷ ps) qs h =
    ap (with_given (given place p)) (tokens_in-append (place_after place p) ps qs
    (end_outside-rest (given place p) (tokens_in (place_after place p) ps) h))
    ∙ with_given-then (given place p) (tokens_in (place_after place p) ps) (tokens_in outside qs)

end_well-rest : (s : Option Statement) (statements : Statements)
    → end_well (with_ended s statements) ≡ true → end_well statements ≡ true
end_well-rest None statements h = h
end_well-rest (Some s) statements h = h

with_ended-followed : (s : Option Statement) (statements more : Statements)
    → with_ended s (followed_by statements more) ≡ followed_by (with_ended s statements) more
with_ended-followed None statements more = refl
with_ended-followed (Some s) statements more = refl

pub statements_in-then : (reading : Reading) (s t : Tokens)
    → end_well (statements_in reading s) ≡ true
    → statements_in reading (then_tokens s t)
    ≡ followed_by (statements_in reading s) (statements_in between t)
statements_in-then between no_token t h = refl
statements_in-then (within begun tokens) no_token t h = absurd (cc)
statements_in-then reading (bad_text f) t h = absurd (cc)
statements_in-then reading (next_token at token s) t h =
    ap (with_ended (ended_by reading at token)) (statements_in-then (reading_after reading at token)
    s t (end_well-rest (ended_by reading at token)
    (statements_in (reading_after reading at token) s) h))
    ∙ with_ended-followed (ended_by reading at token)
    (statements_in (reading_after reading at token) s) (statements_in between t)

-- the tokens of statements that end well end outside comments
end_outside-end_well : (reading : Reading) (s : Tokens) → end_well (statements_in reading s) ≡ true
    → end_outside s ≡ true
end_outside-end_well reading no_token h = refl
end_outside-end_well reading (bad_text f) h = absurd (cc)
end_outside-end_well reading (next_token at token s) h =
    end_outside-end_well (reading_after reading at token) s (end_well-rest
    (ended_by reading at token) (statements_in (reading_after reading at token) s) h)

pub appended_text : AppendedText
appended_text at text more ends well =
    ap (λ ps. statements_in between (tokens_in outside ps)) (pieces_from-append at text more ends)
    ∙ ap (statements_in between) (tokens_in-append outside (pieces_from at text)
    (pieces_from (at + length text) more)
    (end_outside-end_well between (tokens_from at text) well))
    ∙ statements_in-then between (tokens_from at text) (tokens_from (at + length text) more) well
