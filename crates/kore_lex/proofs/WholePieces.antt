-- Texts that are one whole token, for proofs on texts that are written token by token.
use Rattle.std.proofs.Common.{◌≡◌, ◌+◌, ◌-◌, ℕ, suc, Bool, true, false, List, [], ◌∷◌, ◌++◌, length}
use Rattle.std.proofs.Common.{take, drop, refl, ap, sym, ◌∙◌, arith, ◌==◌, ◌&&◌, if◌then◌else◌}
use Rattle.std.proofs.Common.{Some, None}
use Rattle.std.proofs.lemmas.Bool.Decides.{nat_tests}
use Rattle.std.proofs.lemmas.List.Sums.{take_while-cons}
use Rattle.std.proofs.Math.Seq.{take-append_seam}
use Rattle.std.specs.Str.{is_utf8}
use Rattle.kore_lex.specs.declared.lexer.TokenKind.{TokenKind}
use Rattle.kore_lex.specs.declared.lexer.TokenKind.TheVariants.{Ident, SetIdent, Builtin, Text}
use Rattle.kore_lex.specs.declared.lexer.TokenKind.TheVariants.{Punct, Assign}
use Rattle.kore_lex.specs.declared.piece.Piece.{Piece}
use Rattle.kore_lex.specs.declared.piece.Piece.TheVariants.{Whole, Bad}
use Rattle.kore_lex.specs.Escapes.{bad_at}
use Rattle.kore_lex.specs.Pieces.{is_space, is_letter, is_word, is_mark, word_len, quote_len}
use Rattle.kore_lex.specs.Pieces.{body_piece, by_end, name_piece, colon, piece}
use Rattle.kore_lex.specs.Lexed.{cut_token, lexed, onward}
use Rattle.kore_lex.specs.Tokens.{IsName, AllWord}
use Rattle.kore_lex.proofs.Lexing.{lexed-is}

-- a token of `n` bytes
abbrev pub whole : TokenKind → ℕ → Piece
whole k n = Whole k n

-- after a whole token the rest is cut
pub lexed-whole : (k : TokenKind) (n at : ℕ) (bs : List ℕ) → piece bs ≡ whole k n
    → lexed at bs ≡ cut_token k at (at + n) (lexed (at + n) (drop n bs))
lexed-whole k n at bs h = lexed-is at bs ∙ ap (onward lexed at bs) h

-- the bytes begin with a byte that may continue a name, or (`begins_equals`) with `=`
abbrev pub begins_word : List ℕ → Bool
begins_word [] = false
begins_word (c ∷ cs) = is_word c

abbrev pub begins_equals : List ℕ → Bool
begins_equals [] = false
begins_equals (c ∷ cs) = c == 61

-- names

word-stops : (r : List ℕ) → begins_word r ≡ false → word_len r ≡ 0
word-stops [] h = refl
word-stops (c ∷ cs) h = ap (λ (l : List ℕ). length l) (take_while-cons is_word c cs) ∙ rw h refl

word-runs : (cs r : List ℕ) → AllWord cs → begins_word r ≡ false → word_len (cs ++ r) ≡ length cs
word-runs [] r a h = word-stops r h
word-runs (c ∷ cs) r a h =
    ap (λ (l : List ℕ). length l) (take_while-cons is_word c (cs ++ r))
    ∙ rw a.0 (ap (λ (n : ℕ). suc n) (word-runs cs r a.1 h))

letter-no-space : (c : ℕ) → is_letter c ≡ true → is_space c ≡ false
letter-no-space c h = grind (arith, nat_tests)

pub name-piece : (n r : List ℕ) → IsName n → begins_word r ≡ false
    → piece (n ++ r) ≡ whole Ident (length n)
unfolding piece
name-piece [] r h b = absurd h
name-piece (c ∷ cs) r h b =
    let e : word_len (cs ++ r) + 1 ≡ suc (length cs) = omega (arith, word-runs cs r h.1 b) in
    rw (letter-no-space c h.0, h.0) (ap (Whole Ident) e)

named-piece : (k : TokenKind) (n r : List ℕ) → IsName n → begins_word r ≡ false
    → name_piece k (n ++ r) ≡ Whole k (suc (length n))
named-piece k [] r h b = absurd h
named-piece k (c ∷ cs) r h b =
    let e : word_len (cs ++ r) + 2 ≡ suc (suc (length cs)) = omega (arith, word-runs cs r h.1 b) in
    rw h.0 (ap (Whole k) e)

pub set-piece : (n r : List ℕ) → IsName n → begins_word r ≡ false
    → piece (64 ∷ (n ++ r)) ≡ whole SetIdent (suc (length n))
unfolding piece
set-piece n r h b = named-piece SetIdent n r h b

pub builtin-piece : (n r : List ℕ) → IsName n → begins_word r ≡ false
    → piece (92 ∷ (n ++ r)) ≡ whole Builtin (suc (length n))
unfolding piece
builtin-piece n r h b = named-piece Builtin n r h b

-- marks

same-byte : (c d : ℕ) → (c == d) ≡ true → c ≡ d
same-byte c d h = grind (arith, nat_tests)

colon-piece : (r : List ℕ) → begins_equals r ≡ false → colon r ≡ Whole (Punct 58) 1
colon-piece [] h = refl
colon-piece (c ∷ cs) h = rw h refl

mark-if : (c : ℕ) (r : List ℕ) (b : Bool) → (c == 58) ≡ b → is_mark c ≡ true
    → (b && begins_equals r) ≡ false
    → (if b then colon r else (if is_mark c then Whole (Punct c) 1 else Bad 0)) ≡ Whole (Punct c) 1
mark-if c r true e m a =
    colon-piece r a ∙ ap (λ (d : ℕ). Whole (Punct d) 1) (sym (same-byte c 58 e))
mark-if c r false e m a = rw m refl

pub mark-piece : (c : ℕ) (r : List ℕ) → is_mark c ≡ true → ((c == 58) && begins_equals r) ≡ false
    → piece (c ∷ r) ≡ whole (Punct c) 1
unfolding piece
mark-piece c r m a =
    let s : is_space c ≡ false = grind (arith, nat_tests) in
    let l : is_letter c ≡ false = grind (arith, nat_tests) in
    let b : (c == 47) ≡ false = grind (arith, nat_tests) in
    let d : (c == 34) ≡ false = grind (arith, nat_tests) in
    let e : (c == 64) ≡ false = grind (arith, nat_tests) in
    let f : (c == 92) ≡ false = grind (arith, nat_tests) in
    rw (s, l, b, d, e, f) (mark-if c r (c == 58) refl m a)

pub assign-piece : (r : List ℕ) → piece (58 ∷ 61 ∷ r) ≡ whole Assign 2
unfolding piece
assign-piece r = refl

-- strings

good-body : (body : List ℕ) → is_utf8 body ≡ true → bad_at 0 body ≡ None
    → body_piece body ≡ Whole Text (length body + 2)
good-body body u b = rw (u, b) refl

pub string-piece : (body r : List ℕ) → quote_len 0 (body ++ (34 ∷ r)) ≡ Some (length body + 1)
    → is_utf8 body ≡ true → bad_at 0 body ≡ None
    → piece (34 ∷ (body ++ (34 ∷ r))) ≡ whole Text (length body + 2)
unfolding piece
string-piece body r q u b =
    let i : length body + 1 - 1 ≡ length body = omega arith in
    let t : take (length body + 1 - 1) (body ++ (34 ∷ r)) ≡ body =
    ap (λ (n : ℕ). take n (body ++ (34 ∷ r))) i ∙ take-append_seam body (34 ∷ r) in
    ap (by_end (body ++ (34 ∷ r))) q ∙ ap body_piece t ∙ good-body body u b
