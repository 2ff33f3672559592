-- Whole strings: their quotes and the bytes between them. A string does not depend on what follows
-- it.
use Rattle.std.proofs.Common.{◌≡◌, ◌≤◌, ◌+◌, ◌-◌, ℕ, zero, suc, Bool, true, false, List, [], ◌∷◌}
use Rattle.std.proofs.Common.{length, take, drop, refl, ap, sym, ◌∙◌, subst, arith, ◌==◌}
use Rattle.std.proofs.Common.{if◌then◌else◌, Option, Some, None}
use Rattle.std.specs.Option.{IfSome}
use Rattle.std.specs.Str.{is_utf8}
use Rattle.std.proofs.lemmas.List.{length-take-le, take-take}
use Rattle.std.proofs.lemmas.Bool.Decides.{nat_tests}
use Rattle.std.proofs.lemmas.Str.{IsUtf8-from_is_utf8}
use Rattle.kore_lex.specs.declared.lexer.TokenKind.{TokenKind}
use Rattle.kore_lex.specs.declared.lexer.TokenKind.TheVariants.{Ident, SetIdent, Builtin, Text}
use Rattle.kore_lex.specs.declared.lexer.TokenKind.TheVariants.{Punct, Assign}
use Rattle.kore_lex.specs.declared.lexer.Token.{Token}
use Rattle.kore_lex.specs.declared.piece.Piece.{Piece}
use Rattle.kore_lex.specs.declared.piece.Piece.TheVariants.{Gap, Whole, Bad}
use Rattle.kore_lex.specs.Escapes.{further, bad_at}
use Rattle.kore_lex.specs.Tokens.{IsInner, IsString}
use Rattle.kore_lex.specs.Pieces.{is_space, is_letter, is_mark, word_len, line_len, block_len}
use Rattle.kore_lex.specs.Pieces.{passed, quote_len, block, comment, by_escapes, body_piece, by_end}
use Rattle.kore_lex.specs.Pieces.{string_piece, name_piece, colon, piece}
use Rattle.kore_lex.proofs.Lexing.{quote-within}

-- a whole string has two quotes and the bytes between them

piece-if : (b : Bool) (p q : Piece) (n : ℕ) (G : Type 0) → (p ≡ Whole Text n → G)
    → (q ≡ Whole Text n → G) → (if b then p else q) ≡ Whole Text n → G
piece-if true p q n G h k e = h e
piece-if false p q n G h k e = k e

abbrev Inside : List ℕ → Type 0
Inside bs = (2 ≤ length bs) × IsInner (take (length bs - 2) (drop 1 bs))

inside-utf8 : (c : ℕ) (cs : List ℕ) (i : ℕ) (b : Bool) (x : Option ℕ) → 1 ≤ i → i ≤ length cs
    → is_utf8 (take (i - 1) cs) ≡ b → bad_at 0 (take (i - 1) cs) ≡ x
    → (if b then by_escapes (take (i - 1) cs) x else Bad 0) ≡ Whole Text (suc (length cs))
    → Inside (c ∷ cs)
inside-utf8 c cs i false x l m u a e = absurd (let z : ⊥ = cc in z)
inside-utf8 c cs i true (Some n) l m u a e = absurd (let z : ⊥ = cc in z)
inside-utf8 c cs i true None l m u a e =
    let k : length (take (i - 1) cs) + 2 ≡ suc (length cs) = cc in
    let j : length (take (i - 1) cs) ≡ i - 1 = length-take-le (i - 1) cs (omega arith) in
    let q : i - 1 ≡ suc (length cs) - 2 = omega arith in (
      omega arith,
      subst (λ n. IsInner (take n cs)) q
          (record { utf8 = IsUtf8-from_is_utf8 (take (i - 1) cs) u; escapes = a }),
    )

inside-end : (c : ℕ) (cs : List ℕ) (x : Option ℕ) → IfSome x (λ i. (1 ≤ i) × (i ≤ length cs))
    → by_end cs x ≡ Whole Text (suc (length cs)) → Inside (c ∷ cs)
inside-end c cs None h e = absurd (let z : ⊥ = cc in z)
inside-end c cs (Some i) h e =
    inside-utf8 c cs i (is_utf8 (take (i - 1) cs)) (bad_at 0 (take (i - 1) cs)) h.0 h.1 refl refl e

no-named : (k : TokenKind) (cs : List ℕ) (n : ℕ) (G : Type 0) → (k ≡ Text → ⊥)
    → name_piece k cs ≡ Whole Text n → G
no-named k [] n G h e = absurd (let z : ⊥ = cc in z)
no-named k (c ∷ cs) n G h e =
    piece-if (is_letter c) (Whole k (word_len cs + 2)) (Bad 0) n G
    (λ e. absurd (h (let q : k ≡ Text = cc in q))) (λ e. absurd (let z : ⊥ = cc in z)) e

no-colon : (cs : List ℕ) (n : ℕ) (G : Type 0) → colon cs ≡ Whole Text n → G
no-colon [] n G e = absurd (let z : ⊥ = cc in z)
no-colon (c ∷ cs) n G e =
    piece-if (c == 61) (Whole Assign 2) (Whole (Punct 58) 1) n G (λ e. absurd (let z : ⊥ = cc in z))
    (λ e. absurd (let z : ⊥ = cc in z)) e

pub no-block : (x : Option ℕ) (k : TokenKind) (n : ℕ) (G : Type 0) → block x ≡ Whole k n → G
no-block None k n G e = absurd (let z : ⊥ = cc in z)
no-block (Some m) k n G e = absurd (let z : ⊥ = cc in z)

no-comment : (cs : List ℕ) (n : ℕ) (G : Type 0) → comment cs ≡ Whole Text n → G
no-comment [] n G e = absurd (let z : ⊥ = cc in z)
no-comment (c ∷ cs) n G e =
    piece-if (c == 47) (Gap (line_len cs + 2)) _ n G (λ e. absurd (let z : ⊥ = cc in z))
    (piece-if (c == 42) (block (block_len cs)) (Bad 0) n G (no-block (block_len cs) Text n G)
    (λ e. absurd (let z : ⊥ = cc in z))) e

piece-when : (b : Bool) (p q : Piece) (n : ℕ) (G : Type 0) → (b ≡ true → p ≡ Whole Text n → G)
    → (q ≡ Whole Text n → G) → (if b then p else q) ≡ Whole Text n → G
piece-when true p q n G h k e = h refl e
piece-when false p q n G h k e = k e

-- a string begins with a quote
pub text-quote : (c : ℕ) (cs : List ℕ) (n : ℕ) → piece (c ∷ cs) ≡ Whole Text n
    → (c ≡ 34) × (string_piece cs ≡ Whole Text n)
unfolding piece
text-quote c cs n e =
    let G : Type 0 = (c ≡ 34) × (string_piece cs ≡ Whole Text n) in
    piece-if (is_space c) (Gap 1) _ n G (λ e. absurd (let z : ⊥ = cc in z))
    (piece-if (is_letter c) (Whole Ident (word_len cs + 1)) _ n G
    (λ e. absurd (let z : ⊥ = cc in z))
    (piece-if (c == 47) (comment cs) _ n G (no-comment cs n G)
    (piece-when (c == 34) (string_piece cs) _ n G
    (λ h e. ((let q : c ≡ 34 = grind (arith, nat_tests) in q), e))
    (piece-if (c == 64) (name_piece SetIdent cs) _ n G (no-named SetIdent cs n G (λ e. cc))
    (piece-if (c == 92) (name_piece Builtin cs) _ n G (no-named Builtin cs n G (λ e. cc))
    (piece-if (c == 58) (colon cs) _ n G (no-colon cs n G)
    (piece-if (is_mark c) (Whole (Punct c) 1) (Bad 0) n G (λ e. absurd (let z : ⊥ = cc in z))
    (λ e. absurd (let z : ⊥ = cc in z)))))))))
    e

pub string-inside : (bs : List ℕ) → IsString bs → Inside bs
unfolding piece
string-inside [] e = absurd (let z : ⊥ = cc in z)
string-inside (c ∷ cs) e =
    inside-end c cs (quote_len 0 cs) (quote-within 0 cs) (text-quote c cs (suc (length cs)) e).1

-- what follows a string makes no difference

quote-more : (n i : ℕ) (cs : List ℕ) (x : Option ℕ) → quote_len n cs ≡ x
    → ((j : ℕ) → quote_len n cs ≡ Some j → quote_len n (take j cs) ≡ Some j)
    → further 1 x ≡ Some i → (j : ℕ) × ((i ≡ suc j) × (quote_len n (take j cs) ≡ Some j))
quote-more n i cs None e h g = absurd (let z : ⊥ = cc in z)
quote-more n i cs (Some j) e h g = (j, (let q : 1 + j ≡ i = cc in omega arith, h j e))

quote-first : (c i : ℕ) (cs : List ℕ) (b : Bool) → (c == 34) ≡ b
    → ((j : ℕ) → quote_len (passed c) cs ≡ Some j → quote_len (passed c) (take j cs) ≡ Some j)
    → (if b then Some 1 else further 1 (quote_len (passed c) cs)) ≡ Some i
    → quote_len 0 (take i (c ∷ cs)) ≡ Some i
unfolding quote_len
quote-first c i cs true e h g =
    let q : i ≡ 1 = cc in subst (λ i. quote_len 0 (take i (c ∷ cs)) ≡ Some i) (sym q) (rw e refl)
quote-first c i cs false e h g =
    let m = quote-more (passed c) i cs (quote_len (passed c) cs) refl h g in
    subst (λ i. quote_len 0 (take i (c ∷ cs)) ≡ Some i) (sym m.1.0)
    (rw e (ap (further 1) m.1.1 ∙ ap Some (let q : 1 + m.0 ≡ suc m.0 = omega arith in q)))

pub quote-take : (n i : ℕ) (cs : List ℕ) → quote_len n cs ≡ Some i
    → quote_len n (take i cs) ≡ Some i
unfolding quote_len
quote-take zero i [] e = absurd (let z : ⊥ = cc in z)
quote-take (suc n) i [] e = absurd (let z : ⊥ = cc in z)
quote-take (suc n) i (c ∷ cs) e =
    let m = quote-more n i cs (quote_len n cs) refl (λ j. quote-take n j cs) e in
    subst (λ i. quote_len (suc n) (take i (c ∷ cs)) ≡ Some i) (sym m.1.0)
    (ap (further 1) m.1.1 ∙ ap Some (let q : 1 + m.0 ≡ suc m.0 = omega arith in q))
quote-take zero i (c ∷ cs) e = quote-first c i cs (c == 34) refl (λ j. quote-take (passed c) j cs) e

body-len : (body : List ℕ) (n : ℕ) (b : Bool) (x : Option ℕ)
    → (if b then by_escapes body x else Bad 0) ≡ Whole Text n → n ≡ length body + 2
body-len body n false x e = absurd (let z : ⊥ = cc in z)
body-len body n true None e = cc
body-len body n true (Some i) e = absurd (let z : ⊥ = cc in z)

end-alone : (n : ℕ) (cs : List ℕ) (x : Option ℕ) → quote_len 0 cs ≡ x
    → IfSome x (λ i. (1 ≤ i) × (i ≤ length cs)) → by_end cs x ≡ Whole Text n
    → (i : ℕ) × ((n ≡ suc i) × (i ≤ length cs) × (string_piece (take i cs) ≡ Whole Text n))
end-alone n cs None q h e = absurd (let z : ⊥ = cc in z)
end-alone n cs (Some i) q h e =
    let body : List ℕ = take (i - 1) cs in
    let l : n ≡ length body + 2 = body-len body n (is_utf8 body) (bad_at 0 body) e in
    let m : length body ≡ i - 1 = length-take-le (i - 1) cs (omega (arith, h.1)) in
    let t : take (i - 1) (take i cs) ≡ body = take-take (i - 1) i cs (omega arith) in (
      i,
      (
        (let p : 1 ≤ i = h.0 in let z : n ≡ suc i = omega arith in z),
        h.1,
        ap (by_end (take i cs)) (quote-take 0 i cs q) ∙ ap body_piece t ∙ e,
      ),
    )

pub string-alone : (bs : List ℕ) (n : ℕ) → piece bs ≡ Whole Text n → IsString (take n bs)
unfolding piece
string-alone [] n e = absurd (let z : ⊥ = cc in z)
string-alone (c ∷ cs) n e =
    let q = text-quote c cs n e in
    let m = end-alone n cs (quote_len 0 cs) refl (quote-within 0 cs) q.1 in
    let l : length (take m.0 cs) ≡ m.0 = length-take-le m.0 cs m.1.1 in
    let g : piece (34 ∷ take m.0 cs) ≡ Whole Text (suc (length (take m.0 cs))) =
    m.1.2 ∙ ap (Whole Text) (m.1.0 ∙ ap (λ i. suc i) (sym l)) in
    subst (λ i. IsString (take i (c ∷ cs))) (sym m.1.0)
    (subst (λ c. IsString (c ∷ take m.0 cs)) (sym q.0) g)

-- the bytes of a string token that the lexer returns are a whole string
pub token-string : (k : TokenKind) (at n : ℕ) (text whole : List ℕ) (t : Token)
    → Whole k n ≡ piece (drop at text) → text ≡ whole → t.kind ≡ k → t.from ≡ at → t.to ≡ at + n
    → t.kind ≡ Text → IsString (take (t.to - t.from) (drop t.from whole))
token-string k at n text whole t p w a b c d =
    let q : k ≡ Text = sym a ∙ d in
    let g : IsString (take n (drop at text)) =
    string-alone (drop at text) n (sym p ∙ ap (λ k. Whole k n) q) in
    let m : n ≡ t.to - t.from = omega arith in
    subst (λ ws. IsString (take (t.to - t.from) (drop t.from ws))) w
    (subst (λ i. IsString (take (t.to - t.from) (drop i text))) (sym b)
    (subst (λ i. IsString (take i (drop at text))) m g))
