-- Each token is the longest at its place.
use Rattle.std.proofs.Common.{◌≡◌, ◌≤◌, ◌+◌, ◌-◌, ℕ, zero, suc, Bool, true, false, List, [], ◌∷◌}
use Rattle.std.proofs.Common.{length, take, drop, refl, ap, sym, ◌∙◌, subst, arith, cond, ◌==◌}
use Rattle.std.proofs.Common.{if◌then◌else◌, Option, Some, None}
use Rattle.std.specs.Option.{IfSome}
use Rattle.std.specs.Str.{is_utf8}
use Rattle.std.specs.List.{take_while}
use Rattle.std.proofs.lemmas.List.{length-take-le, take-take}
use Rattle.std.proofs.lemmas.List.Sums.{take_while-cons}
use Rattle.std.proofs.lemmas.Bool.Decides.{nat_tests}
use Rattle.kore_lex.specs.declared.lexer.TokenKind.{TokenKind}
use Rattle.kore_lex.specs.declared.lexer.TokenKind.TheVariants.{Ident, SetIdent, Builtin, Text}
use Rattle.kore_lex.specs.declared.lexer.TokenKind.TheVariants.{Punct, Assign, End}
use Rattle.kore_lex.specs.declared.piece.Piece.{Piece}
use Rattle.kore_lex.specs.declared.piece.Piece.TheVariants.{Gap, Whole, Bad}
use Rattle.kore_lex.specs.Escapes.{further, bad_at}
use Rattle.kore_lex.specs.Tokens.{IsInner, AllWord, IsName, IsToken, IsLongest}
use Rattle.kore_lex.specs.Pieces.{is_space, is_letter, is_word, is_mark, word_len, line_len}
use Rattle.kore_lex.specs.Pieces.{block_len, passed, quote_len, block, comment, by_escapes}
use Rattle.kore_lex.specs.Pieces.{body_piece, by_end, string_piece, name_piece, colon, piece}
use Rattle.std.proofs.lemmas.Str.{IsUtf8-from_is_utf8}
use Rattle.kore_lex.specs.declared.lexer.Token.{Token}
use Rattle.kore_lex.proofs.StringLaws.{no-block, quote-take}
use Rattle.kore_lex.proofs.Lexing.{quote-within, Within, piece-within}

-- no prefix that is a token is longer than the piece, kind by kind

word-if : (c i : ℕ) (cs : List ℕ) (b : Bool) → b ≡ true → i ≤ length (take_while is_word cs)
    → suc i ≤ length (cond b (c ∷ take_while is_word cs) [])
word-if c i cs true e h = omega arith
word-if c i cs false e h = absurd (let z : ⊥ = cc in z)

word-long : (i : ℕ) (cs : List ℕ) → i ≤ length cs → AllWord (take i cs) → i ≤ word_len cs
word-long zero cs l h = omega arith
word-long (suc i) [] l h = absurd (omega arith)
word-long (suc i) (c ∷ cs) l h =
    subst (λ ws. suc i ≤ length ws) (sym (take_while-cons is_word c cs))
    (word-if c i cs (is_word c) h.0 (word-long i cs (omega arith) h.1))

pub letter-space : (c : ℕ) → is_letter c ≡ true → is_space c ≡ false
letter-space c h = grind (arith, nat_tests)

ident-long : (c i n : ℕ) (cs : List ℕ) (k : TokenKind) → piece (c ∷ cs) ≡ Whole k n → i ≤ length cs
    → IsName (c ∷ take i cs) → suc i ≤ n
unfolding piece
ident-long c i n cs k e l h =
    let s : is_space c ≡ false = letter-space c h.0 in
    let p : piece (c ∷ cs) ≡ Whole Ident (word_len cs + 1) = rw (s, h.0) refl in
    let q : Whole Ident (word_len cs + 1) ≡ Whole k n = sym p ∙ e in
    let w : i ≤ word_len cs = word-long i cs l h.1 in
    let m : word_len cs + 1 ≡ n = cc in
    omega (arith, w, m)

named-long : (i n : ℕ) (cs : List ℕ) (j k : TokenKind) → name_piece j cs ≡ Whole k n → i ≤ length cs
    → IsName (take i cs) → suc i ≤ n
named-long zero n cs j k e l h = absurd h
named-long (suc i) n [] j k e l h = absurd h
named-long (suc i) n (d ∷ ds) j k e l h =
    let p : name_piece j (d ∷ ds) ≡ Whole j (word_len ds + 2) = rw h.0 refl in
    let q : Whole j (word_len ds + 2) ≡ Whole k n = sym p ∙ e in
    let w : i ≤ word_len ds = word-long i ds (omega arith) h.1 in
    let m : word_len ds + 2 ≡ n = cc in
    omega (arith, w, m)

further-out : (i : ℕ) (x : Option ℕ) → further 1 x ≡ Some (suc i) → x ≡ Some i
further-out i None h = absurd (let z : ⊥ = cc in z)
further-out i (Some j) h = let q : 1 + j ≡ suc i = cc in ap Some (let z : j ≡ i = omega arith in z)

-- a quote that ends the string in a prefix ends it in all the bytes
quote-on-if : (c i : ℕ) (cs : List ℕ) (b : Bool) → i ≤ length cs
    → (quote_len (passed c) (take i cs) ≡ Some i → quote_len (passed c) cs ≡ Some i)
    → (if b then Some 1 else further 1 (quote_len (passed c) (take i cs))) ≡ Some (suc i)
    → (if b then Some 1 else further 1 (quote_len (passed c) cs)) ≡ Some (suc i)
quote-on-if c i cs true l h e = e
quote-on-if c i cs false l h e =
    ap (further 1) (h (further-out i _ e)) ∙ ap Some (let q : 1 + i ≡ suc i = omega arith in q)

pub quote-on : (n i : ℕ) (cs : List ℕ) → i ≤ length cs → quote_len n (take i cs) ≡ Some i
    → quote_len n cs ≡ Some i
unfolding quote_len
quote-on n zero cs l e = absurd (let z : ⊥ = cc in z)
quote-on n (suc i) [] l e = absurd (omega arith)
quote-on (suc n) (suc i) (c ∷ cs) l e =
    ap (further 1) (quote-on n i cs (omega arith) (further-out i _ e))
    ∙ ap Some (let q : 1 + i ≡ suc i = omega arith in q)
quote-on zero (suc i) (c ∷ cs) l e =
    quote-on-if c i cs (c == 34) (omega arith) (λ h. quote-on (passed c) i cs (omega arith) h) e

body-long : (body : List ℕ) (n : ℕ) (k : TokenKind) (b : Bool) (x : Option ℕ)
    → (if b then by_escapes body x else Bad 0) ≡ Whole k n → length body + 2 ≡ n
body-long body n k false x e = absurd (let z : ⊥ = cc in z)
body-long body n k true None e = cc
body-long body n k true (Some i) e = absurd (let z : ⊥ = cc in z)

string-long : (i n : ℕ) (cs : List ℕ) (k : TokenKind) → string_piece cs ≡ Whole k n → i ≤ length cs
    → quote_len 0 (take i cs) ≡ Some i → suc i ≤ n
string-long i n cs k e l h =
    let q : quote_len 0 cs ≡ Some i = quote-on 0 i cs l h in
    let w : (1 ≤ i) × (i ≤ length cs) =
    subst (λ x. IfSome x (λ i. (1 ≤ i) × (i ≤ length cs))) q (quote-within 0 cs) in
    let p : body_piece (take (i - 1) cs) ≡ Whole k n = sym (ap (by_end cs) q) ∙ e in
    let m : length (take (i - 1) cs) + 2 ≡ n =
    body-long (take (i - 1) cs) n k (is_utf8 (take (i - 1) cs)) (bad_at 0 (take (i - 1) cs))
    p in
    let r : length (take (i - 1) cs) ≡ i - 1 = length-take-le (i - 1) cs (omega (arith, w.1)) in
    omega (arith, w.0, m, r)

assign-long : (i n : ℕ) (cs : List ℕ) (k : TokenKind) → colon cs ≡ Whole k n → take i cs ≡ 61 ∷ []
    → i ≤ length cs → suc i ≤ n
assign-long zero n cs k e h l = absurd (let z : ⊥ = cc in z)
assign-long (suc i) n [] k e h l = absurd (omega arith)
assign-long (suc i) n (d ∷ ds) k e h l =
    let c : d ≡ 61 = cc in
    let p : colon (d ∷ ds) ≡ Whole Assign 2 = rw c refl in
    let q : Whole Assign 2 ≡ Whole k n = sym p ∙ e in
    let m : 2 ≡ n = cc in
    let t : take i ds ≡ [] = cc in
    let r : length (take i ds) ≡ i = length-take-le i ds (omega arith) in
    let z : length (take i ds) ≡ 0 = ap (λ l. length l) t in
    omega (arith, m, r, z)

mark-long : (i : ℕ) (cs : List ℕ) → i ≤ length cs → take i cs ≡ [] → i ≡ 0
mark-long i cs l h = omega (arith, length-take-le i cs l, ap (λ l. length l) h)

no-longer : (j k : TokenKind) (m n : ℕ) (bs : List ℕ) → piece bs ≡ Whole k n → m ≤ length bs
    → IsToken j (take m bs) → m ≤ n
unfolding piece
no-longer j k zero n bs e l h = omega arith
no-longer j k (suc i) n [] e l h = absurd (omega arith)
no-longer Ident k (suc i) n (c ∷ cs) e l h = ident-long c i n cs k e (omega arith) h
no-longer SetIdent k (suc i) n (c ∷ cs) e l h =
    let p : piece (64 ∷ cs) ≡ Whole k n = subst (λ c. piece (c ∷ cs) ≡ Whole k n) h.0 e in
    named-long i n cs SetIdent k p (omega arith) h.1
no-longer Builtin k (suc i) n (c ∷ cs) e l h =
    let p : piece (92 ∷ cs) ≡ Whole k n = subst (λ c. piece (c ∷ cs) ≡ Whole k n) h.0 e in
    named-long i n cs Builtin k p (omega arith) h.1
no-longer Text k (suc i) n (c ∷ cs) e l h =
    let p : piece (34 ∷ cs) ≡ Whole k n = subst (λ c. piece (c ∷ cs) ≡ Whole k n) h.0 e in
    string-long i n cs k p (omega arith) (h.1 ∙ ap Some (length-take-le i cs (omega arith)))
no-longer (Punct d) k (suc i) n (c ∷ cs) e l h =
    let w : (1 ≤ n) × (n ≤ suc (length cs)) =
    subst (λ p. Within p (suc (length cs))) e (piece-within (c ∷ cs)) in
    let z : i ≡ 0 = mark-long i cs (omega arith) h.2 in
    omega (arith, w.0, z)
no-longer Assign k (suc i) n (c ∷ cs) e l h =
    let p : piece (58 ∷ cs) ≡ Whole k n = subst (λ c. piece (c ∷ cs) ≡ Whole k n) h.0 e in
    assign-long i n cs k p h.1 (omega arith)
no-longer End k (suc i) n (c ∷ cs) e l h = absurd h

-- the piece that the lexer takes is a token

pub piece-to : (b : Bool) (p q r : Piece) (G : Type 0) → (b ≡ true → p ≡ r → G) → (q ≡ r → G)
    → (if b then p else q) ≡ r → G
piece-to true p q r G h k e = h refl e
piece-to false p q r G h k e = k e

pub same-byte : (c d : ℕ) → (c == d) ≡ true → c ≡ d
same-byte c d h = grind (arith, nat_tests)

word-take-if : (c : ℕ) (cs : List ℕ) (b : Bool) → is_word c ≡ b → AllWord (take (word_len cs) cs)
    → AllWord (take (length (cond b (c ∷ take_while is_word cs) [])) (c ∷ cs))
word-take-if c cs true e h = (e, h)
word-take-if c cs false e h = tt

word-take : (cs : List ℕ) → AllWord (take (word_len cs) cs)
word-take [] = tt
word-take (c ∷ cs) =
    subst (λ ws. AllWord (take (length ws) (c ∷ cs))) (sym (take_while-cons is_word c cs))
    (word-take-if c cs (is_word c) refl (word-take cs))

-- equal kinds and equal lengths may replace each other
moved : (j k : TokenKind) (m n : ℕ) (bs : List ℕ) → j ≡ k → m ≡ n → IsToken j (take m bs)
    → IsToken k (take n bs)
moved j k m n bs a b h =
    subst (λ k. IsToken k (take n bs)) a (subst (λ n. IsToken j (take n bs)) b h)

ident-is : (c n : ℕ) (cs : List ℕ) (k : TokenKind) → is_letter c ≡ true
    → Whole Ident (word_len cs + 1) ≡ Whole k n → IsToken k (take n (c ∷ cs))
ident-is c n cs k h e =
    let a : Ident ≡ k = cc in
    let b : word_len cs + 1 ≡ n = cc in
    moved Ident k (suc (word_len cs)) n (c ∷ cs) a (omega (arith, b)) (h, word-take cs)

no-comment-of : (cs : List ℕ) (k : TokenKind) (n : ℕ) (G : Type 0) → comment cs ≡ Whole k n → G
no-comment-of [] k n G e = absurd (let z : ⊥ = cc in z)
no-comment-of (c ∷ cs) k n G e =
    piece-to (c == 47) (Gap (line_len cs + 2)) _ (Whole k n) G (λ h e. absurd (let z : ⊥ = cc in z))
    (piece-to (c == 42) (block (block_len cs)) (Bad 0) (Whole k n) G
    (λ h. no-block (block_len cs) k n G) (λ e. absurd (let z : ⊥ = cc in z))) e

named-is : (n : ℕ) (cs : List ℕ) (j k : TokenKind) → name_piece j cs ≡ Whole k n
    → (m : ℕ) × ((j ≡ k) × (suc m ≡ n) × IsName (take m cs))
named-is n [] j k e = absurd (let z : ⊥ = cc in z)
named-is n (d ∷ ds) j k e =
    piece-to (is_letter d) (Whole j (word_len ds + 2)) (Bad 0) (Whole k n)
    ((m : ℕ) × ((j ≡ k) × (suc m ≡ n) × IsName (take m (d ∷ ds))))
    (λ h e.
    let a : j ≡ k = cc in
    let b : word_len ds + 2 ≡ n = cc in
    (suc (word_len ds), (a, omega (arith, b), (h, word-take ds))))
    (λ e. absurd (let z : ⊥ = cc in z)) e

colon-is : (n : ℕ) (cs : List ℕ) (k : TokenKind) → colon cs ≡ Whole k n
    → IsToken k (take n (58 ∷ cs))
colon-is n [] k e =
    let a : Punct 58 ≡ k = cc in
    let b : 1 ≡ n = cc in
    moved (Punct 58) k 1 n (58 ∷ []) a b (refl, refl, refl)
colon-is n (d ∷ ds) k e =
    piece-to (d == 61) (Whole Assign 2) (Whole (Punct 58) 1) (Whole k n)
    (IsToken k (take n (58 ∷ d ∷ ds)))
    (λ h e.
    let a : Assign ≡ k = cc in
    let b : 2 ≡ n = cc in
    moved Assign k 2 n (58 ∷ d ∷ ds) a b (refl, ap (λ d. d ∷ []) (same-byte d 61 h)))
    (λ e.
    let a : Punct 58 ≡ k = cc in
    let b : 1 ≡ n = cc in
    moved (Punct 58) k 1 n (58 ∷ d ∷ ds) a b (refl, refl, refl)) e

mark-is : (c n : ℕ) (cs : List ℕ) (k : TokenKind) → is_mark c ≡ true → Whole (Punct c) 1 ≡ Whole k n
    → IsToken k (take n (c ∷ cs))
mark-is c n cs k h e =
    let a : Punct c ≡ k = cc in
    let b : 1 ≡ n = cc in
    moved (Punct c) k 1 n (c ∷ cs) a b (refl, h, refl)

body-is : (n i : ℕ) (cs : List ℕ) (k : TokenKind) (b : Bool) (x : Option ℕ)
    → quote_len 0 cs ≡ Some i → 1 ≤ i → i ≤ length cs → is_utf8 (take (i - 1) cs) ≡ b
    → bad_at 0 (take (i - 1) cs) ≡ x
    → (if b then by_escapes (take (i - 1) cs) x else Bad 0) ≡ Whole k n
    → IsToken k (take n (34 ∷ cs))
body-is n i cs k false x q l m u a e = absurd (let z : ⊥ = cc in z)
body-is n i cs k true (Some j) q l m u a e = absurd (let z : ⊥ = cc in z)
body-is n i cs k true None q l m u a e =
    let f : Text ≡ k = cc in
    let g : length (take (i - 1) cs) + 2 ≡ n = cc in
    let r : length (take (i - 1) cs) ≡ i - 1 = length-take-le (i - 1) cs (omega (arith, m)) in
    let s : length (take i cs) ≡ i = length-take-le i cs m in
    let t : take (length (take i cs) - 1) (take i cs) ≡ take (i - 1) cs =
    ap (λ j. take (j - 1) (take i cs)) s ∙ take-take (i - 1) i cs (omega arith) in
    let z : suc i ≡ n = omega (arith, g, r, l) in
    moved Text k (suc i) n (34 ∷ cs) f z (
      refl,
      quote-take 0 i cs q
          ∙ ap Some (sym s),
      subst IsInner (sym t)
          (record { utf8 = IsUtf8-from_is_utf8 (take (i - 1) cs) u; escapes = a }),
    )

string-is : (n : ℕ) (cs : List ℕ) (k : TokenKind) (x : Option ℕ) → quote_len 0 cs ≡ x
    → IfSome x (λ i. (1 ≤ i) × (i ≤ length cs)) → by_end cs x ≡ Whole k n
    → IsToken k (take n (34 ∷ cs))
string-is n cs k None q h e = absurd (let z : ⊥ = cc in z)
string-is n cs k (Some i) q h e =
    body-is n i cs k (is_utf8 (take (i - 1) cs)) (bad_at 0 (take (i - 1) cs)) q h.0 h.1 refl refl e

at-byte : (c d n : ℕ) (cs : List ℕ) (k : TokenKind) → (c == d) ≡ true → IsToken k (take n (d ∷ cs))
    → IsToken k (take n (c ∷ cs))
at-byte c d n cs k h g = subst (λ b. IsToken k (take n (b ∷ cs))) (sym (same-byte c d h)) g

set-is : (n : ℕ) (cs : List ℕ) (k : TokenKind) → name_piece SetIdent cs ≡ Whole k n
    → IsToken k (take n (64 ∷ cs))
set-is n cs k e =
    let m = named-is n cs SetIdent k e in
    moved SetIdent k (suc m.0) n (64 ∷ cs) m.1.0 m.1.1 (refl, m.1.2)

builtin-is : (n : ℕ) (cs : List ℕ) (k : TokenKind) → name_piece Builtin cs ≡ Whole k n
    → IsToken k (take n (92 ∷ cs))
builtin-is n cs k e =
    let m = named-is n cs Builtin k e in
    moved Builtin k (suc m.0) n (92 ∷ cs) m.1.0 m.1.1 (refl, m.1.2)

is-token-of : (bs : List ℕ) (k : TokenKind) (n : ℕ) → piece bs ≡ Whole k n → IsToken k (take n bs)
unfolding piece
is-token-of [] k n e = absurd (let z : ⊥ = cc in z)
is-token-of (c ∷ cs) k n e =
    let r : Piece = Whole k n in
    let G : Type 0 = IsToken k (take n (c ∷ cs)) in
    piece-to (is_space c) (Gap 1) _ r G (λ h e. absurd (let z : ⊥ = cc in z))
    (piece-to (is_letter c) (Whole Ident (word_len cs + 1)) _ r G (λ h e. ident-is c n cs k h e)
    (piece-to (c == 47) (comment cs) _ r G (λ h. no-comment-of cs k n G)
    (piece-to (c == 34) (string_piece cs) _ r G (λ h e.
    at-byte c 34 n cs k h (string-is n cs k (quote_len 0 cs) refl (quote-within 0 cs) e))
    (piece-to (c == 64) (name_piece SetIdent cs) _ r G (λ h e.
    at-byte c 64 n cs k h (set-is n cs k e))
    (piece-to (c == 92) (name_piece Builtin cs) _ r G
    (λ h e. at-byte c 92 n cs k h (builtin-is n cs k e))
    (piece-to (c == 58) (colon cs) _ r G (λ h e. at-byte c 58 n cs k h (colon-is n cs k e))
    (piece-to (is_mark c) (Whole (Punct c) 1) (Bad 0) r G (λ h e. mark-is c n cs k h e)
    (λ e. absurd (let z : ⊥ = cc in z)))))))))
    e

pub piece-longest : (bs : List ℕ) (k : TokenKind) (n : ℕ) → piece bs ≡ Whole k n → IsLongest k n bs
piece-longest bs k n e = (is-token-of bs k n e, λ j m l h. no-longer j k m n bs e l h)

-- the token that the lexer returns is the longest
pub token-longest : (k : TokenKind) (at n : ℕ) (text whole : List ℕ) (t : Token)
    → Whole k n ≡ piece (drop at text) → text ≡ whole → t.kind ≡ k → t.from ≡ at → t.to ≡ at + n
    → IsLongest t.kind (t.to - t.from) (drop t.from whole)
token-longest k at n text whole t p w a b c =
    let m : n ≡ t.to - t.from = omega arith in
    subst (λ ws. IsLongest t.kind (t.to - t.from) (drop t.from ws)) w
    (subst (λ i. IsLongest t.kind (t.to - t.from) (drop i text)) (sym b)
    (subst (λ i. IsLongest t.kind i (drop at text)) m
    (subst (λ k. IsLongest k n (drop at text)) (sym a) (piece-longest (drop at text) k n (sym p)))))
