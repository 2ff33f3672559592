-- The law of `lexed`: the piece at the head, and then the stream of the bytes after it.
use Rattle.std.proofs.Common.{◌≡◌, ◌≤◌, ◌+◌, ◌-◌, ℕ, zero, suc, Bool, true, false, List, [], ◌∷◌}
use Rattle.std.proofs.Common.{length, take, drop, refl, ap, sym, ◌∙◌, subst, if◌then◌else◌, not}
use Rattle.std.proofs.Common.{◌==◌, arith, length-drop, Option, Some, None, Ok, Result}
use Rattle.std.specs.Option.{IfSome}
use Rattle.std.specs.Str.{is_utf8}
use Rattle.std.proofs.lemmas.List.{drop-drop, length-take-le}
use Rattle.std.proofs.lemmas.List.Folds.{length-prefix_len}
use Rattle.std.proofs.lemmas.List.Sums.{prefix_len-le-length}
use Rattle.kore_lex.specs.declared.lexer.TokenKind.{TokenKind}
use Rattle.kore_lex.specs.declared.lexer.TokenKind.TheVariants.{Ident, SetIdent, Builtin, Punct}
use Rattle.kore_lex.specs.declared.lexer.TokenKind.TheVariants.{Assign}
use Rattle.kore_lex.specs.declared.lexer.Token.{Token}
use Rattle.kore_lex.specs.declared.lexer.LexFault.{LexFault}
use Rattle.kore_lex.specs.declared.escape.Escape.{Escape}
use Rattle.kore_lex.specs.declared.piece.Piece.{Piece}
use Rattle.kore_lex.specs.declared.piece.Piece.TheVariants.{Nothing, Gap, Whole, Bad}
use Rattle.kore_lex.specs.Escapes.{further, escape, on_escape, bad_at}
use Rattle.kore_lex.specs.Pieces.{is_space, is_letter, is_word, is_mark, word_len, line_len}
use Rattle.kore_lex.specs.Pieces.{ends_block, block_len, passed, quote_len, block, comment}
use Rattle.kore_lex.specs.Pieces.{by_escapes, body_piece, by_end, string_piece, name_piece, colon}
use Rattle.kore_lex.specs.Pieces.{piece}
use Rattle.kore_lex.specs.Lexed.{Cut, cut_end, cut_fault, cut_token, onward, lexed_by, lexed}

-- a piece has at least one byte, and no more bytes than there are
abbrev pub Within : Piece → ℕ → Type 0
Within Nothing n = Unit {0}
Within (Gap m) n = (1 ≤ m) × (m ≤ n)
Within (Whole k m) n = (1 ≤ m) × (m ≤ n)
Within (Bad m) n = m ≤ n

within-if : (b : Bool) (p q : Piece) (n : ℕ) → Within p n → Within q n
    → Within (if b then p else q) n
within-if true p q n h k = h
within-if false p q n h k = k

widen : (p : Piece) (m n : ℕ) → Within p m → m ≤ n → Within p n
widen Nothing m n h l = tt
widen (Gap i) m n h l = (h.0, omega arith)
widen (Whole k i) m n h l = (h.0, omega arith)
widen (Bad i) m n h l = omega arith

word-within : (bs : List ℕ) → word_len bs ≤ length bs
word-within bs = omega (arith, length-prefix_len is_word bs, prefix_len-le-length is_word bs)

line-within : (bs : List ℕ) → line_len bs ≤ length bs
line-within bs =
    omega (
      arith,
      length-prefix_len (λ c. not (c == 10)) bs,
      prefix_len-le-length (λ c. not (c == 10)) bs,
    )

some-if : (b : Bool) (x y : Option ℕ) (P : ℕ → Type 0) → IfSome x P → IfSome y P
    → IfSome (if b then x else y) P
some-if true x y P h k = h
some-if false x y P h k = k

some-further : (x : Option ℕ) (n : ℕ) → IfSome x (λ i. i ≤ n)
    → IfSome (further 1 x) (λ i. (1 ≤ i) × (i ≤ suc n))
some-further None n h = tt
some-further (Some i) n h = (omega arith, omega arith)

some-less : (x : Option ℕ) (n : ℕ) → IfSome x (λ i. (1 ≤ i) × (i ≤ n)) → IfSome x (λ i. i ≤ n)
some-less None n h = tt
some-less (Some i) n h = h.1

block-within : (bs : List ℕ) → IfSome (block_len bs) (λ i. (1 ≤ i) × (i ≤ length bs))
unfolding block_len
block-within [] = tt
block-within (c ∷ []) = tt
block-within (c ∷ d ∷ rest) =
    some-if (ends_block c d) (Some 2) (further 1 (block_len (d ∷ rest))) _
    (omega arith, omega arith)
    (some-further (block_len (d ∷ rest)) (suc (length rest))
    (some-less (block_len (d ∷ rest)) _ (block-within (d ∷ rest))))

pub quote-within : (n : ℕ) (bs : List ℕ) → IfSome (quote_len n bs) (λ i. (1 ≤ i) × (i ≤ length bs))
unfolding quote_len
quote-within zero [] = tt
quote-within (suc n) [] = tt
quote-within (suc n) (c ∷ cs) =
    some-further (quote_len n cs) (length cs) (some-less (quote_len n cs) _ (quote-within n cs))
quote-within zero (c ∷ cs) =
    some-if (c == 34) (Some 1) (further 1 (quote_len (passed c) cs)) _ (omega arith, omega arith)
    (some-further (quote_len (passed c) cs) (length cs)
    (some-less (quote_len (passed c) cs) _ (quote-within (passed c) cs)))

by-block : (x : Option ℕ) (n : ℕ) → IfSome x (λ i. (1 ≤ i) × (i ≤ n)) → Within (block x) (n + 2)
by-block None n h = omega arith
by-block (Some i) n h = (omega arith, omega arith)

comment-within : (cs : List ℕ) → Within (comment cs) (suc (length cs))
comment-within [] = omega arith
comment-within (c ∷ cs) =
    let n : ℕ = suc (suc (length cs)) in
    within-if (c == 47) (Gap (line_len cs + 2)) _ n (omega arith, omega (arith, line-within cs))
    (within-if (c == 42) (block (block_len cs)) (Bad 0) n
    (widen (block (block_len cs)) (length cs + 2) n
    (by-block (block_len cs) (length cs) (block-within cs)) (omega arith)) (omega arith))

named-within : (k : TokenKind) (cs : List ℕ) → Within (name_piece k cs) (suc (length cs))
named-within k [] = omega arith
named-within k (c ∷ cs) =
    within-if (is_letter c) (Whole k (word_len cs + 2)) (Bad 0) _
    (omega (arith, word-within cs), omega (arith, word-within cs)) (omega arith)

colon-within : (cs : List ℕ) → Within (colon cs) (suc (length cs))
colon-within [] = (omega arith, omega arith)
colon-within (c ∷ cs) =
    within-if (c == 61) (Whole Assign 2) (Whole (Punct 58) 1) _ (omega arith, omega arith)
    (omega arith, omega arith)

escape-first : (cs : List ℕ) (x : Option Escape)
    → ((n : ℕ) → IfSome (bad_at n cs) (λ i. i ≤ length cs))
    → IfSome (on_escape (Some 0) (λ n. further 1 (bad_at n cs)) x) (λ i. i ≤ suc (length cs))
escape-first cs None h = omega arith
escape-first cs (Some e) h = some-less _ _ (some-further (bad_at e.len cs) (length cs) (h e.len))

bad-within : (n : ℕ) (bs : List ℕ) → IfSome (bad_at n bs) (λ i. i ≤ length bs)
unfolding bad_at
bad-within zero [] = tt
bad-within (suc n) [] = tt
bad-within (suc n) (c ∷ cs) =
    some-less _ _ (some-further (bad_at n cs) (length cs) (bad-within n cs))
bad-within zero (c ∷ cs) =
    some-if (c == 92) (on_escape (Some 0) (λ n. further 1 (bad_at n cs)) (escape cs))
    (further 1 (bad_at 0 cs)) _
    (escape-first cs (escape cs) (λ n. bad-within n cs))
    (some-less _ _ (some-further (bad_at 0 cs) (length cs) (bad-within 0 cs)))

escapes-within : (body : List ℕ) (x : Option ℕ) → IfSome x (λ i. i ≤ length body)
    → Within (by_escapes body x) (length body + 2)
escapes-within body None h = (omega arith, omega arith)
escapes-within body (Some n) h = omega arith

body-within : (body : List ℕ) → Within (body_piece body) (length body + 2)
body-within body =
    within-if (is_utf8 body) (by_escapes body (bad_at 0 body)) (Bad 0) _
    (escapes-within body (bad_at 0 body) (bad-within 0 body)) (omega arith)

end-within : (cs : List ℕ) (x : Option ℕ) → IfSome x (λ i. (1 ≤ i) × (i ≤ length cs))
    → Within (by_end cs x) (suc (length cs))
end-within cs None h = omega arith
end-within cs (Some i) h =
    widen (body_piece (take (i - 1) cs)) (length (take (i - 1) cs) + 2) (suc (length cs))
    (body-within (take (i - 1) cs))
    (omega (arith, length-take-le (i - 1) cs (omega arith)))

pub piece-within : (bs : List ℕ) → Within (piece bs) (length bs)
unfolding piece
piece-within [] = tt
piece-within (c ∷ cs) =
    let n : ℕ = suc (length cs) in
    within-if (is_space c) (Gap 1) _ n (omega arith, omega arith)
    (within-if (is_letter c) (Whole Ident (word_len cs + 1)) _ n
    (omega (arith, word-within cs), omega (arith, word-within cs))
    (within-if (c == 47) (comment cs) _ n (comment-within cs)
    (within-if (c == 34) (string_piece cs) _ n (end-within cs (quote_len 0 cs) (quote-within 0 cs))
    (within-if (c == 64) (name_piece SetIdent cs) _ n (named-within SetIdent cs)
    (within-if (c == 92) (name_piece Builtin cs) _ n (named-within Builtin cs)
    (within-if (c == 58) (colon cs) _ n (colon-within cs)
    (within-if (is_mark c) (Whole (Punct c) 1) (Bad 0) n (omega arith, omega arith)
    (omega arith))))))))

onward-same : (f g : ℕ → List ℕ → Cut) (at : ℕ) (bs : List ℕ) (p : Piece) → Within p (length bs)
    → ((n : ℕ) → 1 ≤ n → n ≤ length bs → f (at + n) (drop n bs) ≡ g (at + n) (drop n bs))
    → onward f at bs p ≡ onward g at bs p
onward-same f g at bs Nothing w h = refl
onward-same f g at bs (Gap n) w h = h n w.0 w.1
onward-same f g at bs (Whole k n) w h = ap (cut_token k at (at + n)) (h n w.0 w.1)
onward-same f g at bs (Bad n) w h = refl

-- any two bounds on the count of pieces that are large enough give the same stream
lexed_by-same : (m n at : ℕ) (bs : List ℕ) → length bs ≤ m → length bs ≤ n
    → lexed_by m at bs ≡ lexed_by n at bs
unfolding lexed_by piece
lexed_by-same zero zero at bs a b = refl
lexed_by-same zero (suc n) at [] a b = refl
lexed_by-same zero (suc n) at (c ∷ cs) a b = absurd (omega arith)
lexed_by-same (suc m) zero at [] a b = refl
lexed_by-same (suc m) zero at (c ∷ cs) a b = absurd (omega arith)
lexed_by-same (suc m) (suc n) at bs a b =
    onward-same (lexed_by m) (lexed_by n) at bs (piece bs) (piece-within bs)
    (λ k lo hi. lexed_by-same m n (at + k) (drop k bs) (omega (arith, length-drop k bs))
    (omega (arith, length-drop k bs)))

pub lexed-is : (at : ℕ) (bs : List ℕ) → lexed at bs ≡ onward lexed at bs (piece bs)
unfolding lexed lexed_by piece
lexed-is at [] = refl
lexed-is at (c ∷ cs) =
    onward-same (lexed_by (length cs)) lexed at (c ∷ cs) (piece (c ∷ cs)) (piece-within (c ∷ cs))
    (λ k lo hi. lexed_by-same (length cs) (length (drop k (c ∷ cs))) (at + k) (drop k (c ∷ cs))
    (omega (arith, length-drop k (c ∷ cs))) (omega arith))

-- one step of the lexer, by the piece at its place

lexed-at : (at : ℕ) (text : List ℕ) (p : Piece) → p ≡ piece (drop at text)
    → lexed at (drop at text) ≡ onward lexed at (drop at text) p
lexed-at at text p h = lexed-is at (drop at text) ∙ ap (onward lexed at (drop at text)) (sym h)

within-at : (at : ℕ) (text : List ℕ) (p : Piece) → at ≤ length text → p ≡ piece (drop at text)
    → Within p (length text - at)
within-at at text p l h =
    subst (λ n. Within p n) (length-drop at text)
    (subst (λ q. Within q (length (drop at text))) (sym h) (piece-within (drop at text)))

pub end-step : (at : ℕ) (text : List ℕ) → Nothing ≡ piece (drop at text)
    → lexed at (drop at text) ≡ cut_end at
end-step at text h = lexed-at at text Nothing h

pub gap-step : (at n : ℕ) (text : List ℕ) → at ≤ length text → Gap n ≡ piece (drop at text)
    → (1 ≤ n) × (at + n ≤ length text)
    × (lexed (at + n) (drop (at + n) text) ≡ lexed at (drop at text))
gap-step at n text l h =
    let w : (1 ≤ n) × (n ≤ length text - at) = within-at at text (Gap n) l h in (
      w.0,
      omega (arith, w.1),
      ap (lexed (at + n)) (sym (drop-drop n at text))
          ∙ sym (lexed-at at text (Gap n) h),
    )

pub whole-step : (k : TokenKind) (at n : ℕ) (text : List ℕ) → at ≤ length text
    → Whole k n ≡ piece (drop at text)
    → (at + n ≤ length text)
    × (lexed at (drop at text) ≡ cut_token k at (at + n) (lexed (at + n) (drop (at + n) text)))
whole-step k at n text l h =
    let w : (1 ≤ n) × (n ≤ length text - at) = within-at at text (Whole k n) l h in (
      omega (arith, w.1),
      lexed-at at text (Whole k n) h
          ∙ ap (λ bs. cut_token k at (at + n) (lexed (at + n) bs)) (drop-drop n at text),
    )

pub bad-step : (at n : ℕ) (text : List ℕ) → at ≤ length text → Bad n ≡ piece (drop at text)
    → (at + n ≤ length text) × (lexed at (drop at text) ≡ cut_fault (at + n))
bad-step at n text l h =
    let w : n ≤ length text - at = within-at at text (Bad n) l h in
    (omega (arith, w), lexed-at at text (Bad n) h)

abbrev made : TokenKind → ℕ → ℕ → Result Token LexFault
made k from to = Ok (record { kind = k; from = from; to = to })

pub is-token : (k : TokenKind) (from to : ℕ) (t : Token) → t.kind ≡ k → t.from ≡ from → t.to ≡ to
    → ◌≡◌ {A = Result Token LexFault} (Ok t) (Ok (record { kind = k; from = from; to = to }))
is-token k from to t a b c =
    ap (λ (x : TokenKind). made x t.from t.to) a ∙ ap (λ (x : ℕ). made k x t.to) b
    ∙ ap (λ (x : ℕ). made k from x) c
