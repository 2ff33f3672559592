-- The tokens of a text cover it, and at a fault no token starts.
use Rattle.std.proofs.Common.{◌≡◌, ◌≤◌, ◌+◌, ◌-◌, ℕ, zero, suc, Bool, true, false, List, [], ◌∷◌}
use Rattle.std.proofs.Common.{length, take, drop, refl, ap, sym, ◌∙◌, subst, arith, ◌==◌}
use Rattle.std.proofs.Common.{if◌then◌else◌, ◌⊎◌, inl, inr, Option, Some, None, length-drop}
use Rattle.std.specs.Option.{IfSome}
use Rattle.std.specs.Str.{is_utf8}
use Rattle.std.proofs.lemmas.List.{drop-drop, length-take-le, take-take}
use Rattle.std.proofs.lemmas.Bool.Decides.{nat_tests}
use Rattle.std.proofs.lemmas.Str.{IsUtf8-from_is_utf8, is_utf8-from_IsUtf8}
use Rattle.kore_lex.specs.declared.lexer.TokenKind.{TokenKind}
use Rattle.kore_lex.specs.declared.lexer.TokenKind.TheVariants.{Ident, SetIdent, Builtin, Text}
use Rattle.kore_lex.specs.declared.lexer.TokenKind.TheVariants.{Punct, Assign, End}
use Rattle.kore_lex.specs.declared.piece.Piece.{Piece}
use Rattle.kore_lex.specs.declared.piece.Piece.TheVariants.{Nothing, Gap, Whole, Bad}
use Rattle.kore_lex.specs.Escapes.{bad_at}
use Rattle.kore_lex.specs.Tokens.{IsInner, IsName, IsToken, IsLongest}
use Rattle.kore_lex.specs.Pieces.{is_space, is_letter, is_mark, word_len, line_len, block_len}
use Rattle.kore_lex.specs.Pieces.{quote_len, block, comment, by_escapes, body_piece, by_end}
use Rattle.kore_lex.specs.Pieces.{string_piece, name_piece, colon, piece}
use Rattle.kore_lex.specs.Lexed.{Cut, cut_end, cut_fault, cut_token, onward, lexed}
use Rattle.kore_lex.specs.TokenLaws.{IsBlank, white, line_comment, block_comment, IsGap, nothing}
use Rattle.kore_lex.specs.TokenLaws.{blank_then, HasBadEscape, bad_escape, IsFault, Covers}
use Rattle.kore_lex.specs.TokenLaws.{TokensCover, fault_of, NoTokenAtFault}
use Rattle.kore_lex.proofs.Lexing.{Within, piece-within, quote-within, lexed-is}
use Rattle.kore_lex.proofs.Longest.{letter-space, piece-to, piece-longest, quote-on, same-byte}

-- if a token starts at the head, the piece there is no fault

named-good : (k : TokenKind) (i n : ℕ) (cs : List ℕ) → IsName (take i cs) → name_piece k cs ≡ Bad n
    → ⊥
named-good k zero n cs h e = h
named-good k (suc i) n [] h e = h
named-good k (suc i) n (d ∷ ds) h e =
    let p : name_piece k (d ∷ ds) ≡ Whole k (word_len ds + 2) = rw h.0 refl in
    let q : Whole k (word_len ds + 2) ≡ Bad n = sym p ∙ e in absurd (let z : ⊥ = cc in z)

whole-good : (k : TokenKind) (m n : ℕ) → Whole k m ≡ Bad n → ⊥
whole-good k m n e = let z : ⊥ = cc in z

colon-good : (n : ℕ) (cs : List ℕ) → colon cs ≡ Bad n → ⊥
colon-good n [] e = absurd (let z : ⊥ = cc in z)
colon-good n (c ∷ cs) e =
    piece-to (c == 61) (Whole Assign 2) (Whole (Punct 58) 1) (Bad n) ⊥ (λ h e. let z : ⊥ = cc in z)
    (λ e. let z : ⊥ = cc in z) e

mark-if : (c n : ℕ) (b : Bool) → b ≡ true → (if b then Whole (Punct c) 1 else Bad 0) ≡ Bad n → ⊥
mark-if c n true h e = whole-good (Punct c) 1 n e
mark-if c n false h e = absurd (let z : ⊥ = cc in z)

mark-good : (c n : ℕ) (cs : List ℕ) → is_mark c ≡ true → piece (c ∷ cs) ≡ Bad n → ⊥
unfolding piece
mark-good c n cs m e =
    let s : is_space c ≡ false = grind (arith, nat_tests) in
    let l : is_letter c ≡ false = grind (arith, nat_tests) in
    let b : (c == 47) ≡ false = grind (arith, nat_tests) in
    let d : (c == 34) ≡ false = grind (arith, nat_tests) in
    let f : (c == 64) ≡ false = grind (arith, nat_tests) in
    let g : (c == 92) ≡ false = grind (arith, nat_tests) in
    let p : piece (c ∷ cs) ≡
    (if c == 58 then colon cs else (if is_mark c then Whole (Punct c) 1 else Bad 0)) =
    rw (s, l, b, d, f, g) refl in
    piece-to (c == 58) (colon cs) _ (Bad n) ⊥ (λ h. colon-good n cs) (mark-if c n (is_mark c) m)
    (sym p ∙ e)

good-body : (body : List ℕ) (n : ℕ) → IsInner body → body_piece body ≡ Bad n → ⊥
good-body body n h e =
    let u : is_utf8 body ≡ true = is_utf8-from_IsUtf8 body h.utf8 in
    let p : body_piece body ≡ Whole Text (length body + 2) = rw (u, h.escapes) refl in
    let q : Whole Text (length body + 2) ≡ Bad n = sym p ∙ e in absurd (let z : ⊥ = cc in z)

string-good : (i n : ℕ) (cs : List ℕ) → i ≤ length cs
    → quote_len 0 (take i cs) ≡ Some (length (take i cs))
    → IsInner (take (length (take i cs) - 1) (take i cs)) → string_piece cs ≡ Bad n → ⊥
string-good i n cs l h g e =
    let r : length (take i cs) ≡ i = length-take-le i cs l in
    let q : quote_len 0 cs ≡ Some i = quote-on 0 i cs l (h ∙ ap Some r) in
    let t : take (length (take i cs) - 1) (take i cs) ≡ take (i - 1) cs =
    ap (λ (j : ℕ). take (j - 1) (take i cs)) r ∙ take-take (i - 1) i cs (omega arith) in
    good-body (take (i - 1) cs) n (subst IsInner t g) (sym (ap (by_end cs) q) ∙ e)

token-good : (k : TokenKind) (i n : ℕ) (bs : List ℕ) → i ≤ length bs → IsToken k (take i bs)
    → piece bs ≡ Bad n → ⊥
unfolding piece
token-good k zero n bs l h e = h
token-good k (suc i) n [] l h e = h
token-good Ident (suc i) n (c ∷ cs) l h e =
    let p : piece (c ∷ cs) ≡ Whole Ident (word_len cs + 1) = rw (letter-space c h.0, h.0) refl in
    let q : Whole Ident (word_len cs + 1) ≡ Bad n = sym p ∙ e in absurd (let z : ⊥ = cc in z)
token-good SetIdent (suc i) n (c ∷ cs) l h e =
    named-good SetIdent i n cs h.1 (subst (λ (c : ℕ). piece (c ∷ cs) ≡ Bad n) h.0 e)
token-good Builtin (suc i) n (c ∷ cs) l h e =
    named-good Builtin i n cs h.1 (subst (λ (c : ℕ). piece (c ∷ cs) ≡ Bad n) h.0 e)
token-good Text (suc i) n (c ∷ cs) l h e =
    string-good i n cs (omega arith) h.1 h.2 (subst (λ (c : ℕ). piece (c ∷ cs) ≡ Bad n) h.0 e)
token-good (Punct d) (suc i) n (c ∷ cs) l h e = mark-good c n cs h.1 e
token-good Assign (suc i) n (c ∷ cs) l h e =
    colon-good n cs (subst (λ (c : ℕ). piece (c ∷ cs) ≡ Bad n) h.0 e)
token-good End (suc i) n (c ∷ cs) l h e = h

-- white space and comments are exactly the pieces that are gaps

blank-gap : (n : ℕ) (bs : List ℕ) → IsBlank n bs → piece bs ≡ Gap n
unfolding piece
blank-gap _ _ (white c cs h) = rw h refl
blank-gap _ _ (line_comment cs) = refl
blank-gap _ _ (block_comment n cs h) = ap block h

block-gap : (x : Option ℕ) (n : ℕ) (cs : List ℕ) → block_len cs ≡ x → block x ≡ Gap n
    → IsBlank n (47 ∷ 42 ∷ cs)
block-gap None n cs h e = absurd (let z : ⊥ = cc in z)
block-gap (Some m) n cs h e =
    let z : m + 2 ≡ n = cc in subst (λ (n : ℕ). IsBlank n (47 ∷ 42 ∷ cs)) z (block_comment m cs h)

comment-gap : (n : ℕ) (cs : List ℕ) → comment cs ≡ Gap n → IsBlank n (47 ∷ cs)
comment-gap n [] e = absurd (let z : ⊥ = cc in z)
comment-gap n (c ∷ cs) e =
    let G : Type 0 = IsBlank n (47 ∷ c ∷ cs) in
    piece-to (c == 47) (Gap (line_len cs + 2)) _ (Gap n) G
    (λ h e.
    let z : line_len cs + 2 ≡ n = cc in
    subst (λ (d : ℕ). IsBlank n (47 ∷ d ∷ cs)) (sym (same-byte c 47 h))
    (subst (λ (n : ℕ). IsBlank n (47 ∷ 47 ∷ cs)) z (line_comment cs)))
    (piece-to (c == 42) (block (block_len cs)) (Bad 0) (Gap n) G
    (λ h e. subst (λ (d : ℕ). IsBlank n (47 ∷ d ∷ cs)) (sym (same-byte c 42 h))
    (block-gap (block_len cs) n cs refl e))
    (λ e. absurd (let z : ⊥ = cc in z))) e

escapes-no-gap : (body : List ℕ) (n : ℕ) (b : Bool) (x : Option ℕ)
    → (if b then by_escapes body x else Bad 0) ≡ Gap n → ⊥
escapes-no-gap body n false x e = let z : ⊥ = cc in z
escapes-no-gap body n true None e = let z : ⊥ = cc in z
escapes-no-gap body n true (Some i) e = let z : ⊥ = cc in z

string-no-gap : (n : ℕ) (cs : List ℕ) (x : Option ℕ) → by_end cs x ≡ Gap n → ⊥
string-no-gap n cs None e = let z : ⊥ = cc in z
string-no-gap n cs (Some i) e =
    escapes-no-gap (take (i - 1) cs) n (is_utf8 (take (i - 1) cs)) (bad_at 0 (take (i - 1) cs)) e

named-no-gap : (k : TokenKind) (n : ℕ) (cs : List ℕ) → name_piece k cs ≡ Gap n → ⊥
named-no-gap k n [] e = let z : ⊥ = cc in z
named-no-gap k n (c ∷ cs) e =
    piece-to (is_letter c) (Whole k (word_len cs + 2)) (Bad 0) (Gap n) ⊥
    (λ h e. let z : ⊥ = cc in z) (λ e. let z : ⊥ = cc in z) e

colon-no-gap : (n : ℕ) (cs : List ℕ) → colon cs ≡ Gap n → ⊥
colon-no-gap n [] e = let z : ⊥ = cc in z
colon-no-gap n (c ∷ cs) e =
    piece-to (c == 61) (Whole Assign 2) (Whole (Punct 58) 1) (Gap n) ⊥ (λ h e. let z : ⊥ = cc in z)
    (λ e. let z : ⊥ = cc in z) e

gap-blank : (n : ℕ) (bs : List ℕ) → piece bs ≡ Gap n → IsBlank n bs
unfolding piece
gap-blank n [] e = absurd (let z : ⊥ = cc in z)
gap-blank n (c ∷ cs) e =
    let r : Piece = Gap n in
    let G : Type 0 = IsBlank n (c ∷ cs) in
    piece-to (is_space c) (Gap 1) _ r G
    (λ h e. let z : 1 ≡ n = cc in subst (λ (n : ℕ). IsBlank n (c ∷ cs)) z (white c cs h))
    (piece-to (is_letter c) (Whole Ident (word_len cs + 1)) _ r G
    (λ h e. absurd (let z : ⊥ = cc in z))
    (piece-to (c == 47) (comment cs) _ r G
    (λ h e. subst (λ (d : ℕ). IsBlank n (d ∷ cs)) (sym (same-byte c 47 h)) (comment-gap n cs e))
    (piece-to (c == 34) (string_piece cs) _ r G (λ h e.
    absurd (string-no-gap n cs (quote_len 0 cs) e))
    (piece-to (c == 64) (name_piece SetIdent cs) _ r G (λ h e.
    absurd (named-no-gap SetIdent n cs e))
    (piece-to (c == 92) (name_piece Builtin cs) _ r G (λ h e. absurd (named-no-gap Builtin n cs e))
    (piece-to (c == 58) (colon cs) _ r G (λ h e. absurd (colon-no-gap n cs e))
    (piece-to (is_mark c) (Whole (Punct c) 1) (Bad 0) r G (λ h e. absurd (let z : ⊥ = cc in z))
    (λ e. absurd (let z : ⊥ = cc in z)))))))))
    e

-- the byte of a fault is at the head, or at a bad escape

abbrev Placed : ℕ → List ℕ → Type 0
Placed n bs = (n ≡ 0) ⊎ HasBadEscape n bs

escapes-place : (i n : ℕ) (cs : List ℕ) (b : Bool) (x : Option ℕ) → quote_len 0 cs ≡ Some i → 1 ≤ i
    → is_utf8 (take (i - 1) cs) ≡ b → bad_at 0 (take (i - 1) cs) ≡ x
    → (if b then by_escapes (take (i - 1) cs) x else Bad 0) ≡ Bad n → Placed n (34 ∷ cs)
escapes-place i n cs false x q l u a e = inl (let z : n ≡ 0 = cc in z)
escapes-place i n cs true None q l u a e = absurd (let z : ⊥ = cc in z)
escapes-place i n cs true (Some j) q l u a e =
    let z : j + 1 ≡ n = cc in
    let w : i ≡ i - 1 + 1 = omega arith in
    inr (subst (λ (n : ℕ). HasBadEscape n (34 ∷ cs)) z
    (bad_escape j (i - 1) cs (q ∙ ap Some w) (IsUtf8-from_is_utf8 (take (i - 1) cs) u) a))

string-place : (n : ℕ) (cs : List ℕ) (x : Option ℕ) → quote_len 0 cs ≡ x
    → IfSome x (λ i. (1 ≤ i) × (i ≤ length cs)) → by_end cs x ≡ Bad n → Placed n (34 ∷ cs)
string-place n cs None q h e = inl (let z : n ≡ 0 = cc in z)
string-place n cs (Some i) q h e =
    escapes-place i n cs (is_utf8 (take (i - 1) cs)) (bad_at 0 (take (i - 1) cs)) q h.0 refl refl e

block-place : (n : ℕ) (x : Option ℕ) → block x ≡ Bad n → n ≡ 0
block-place n None e = cc
block-place n (Some m) e = absurd (let z : ⊥ = cc in z)

comment-place : (n : ℕ) (cs : List ℕ) → comment cs ≡ Bad n → n ≡ 0
comment-place n [] e = cc
comment-place n (c ∷ cs) e =
    piece-to (c == 47) (Gap (line_len cs + 2)) _ (Bad n) (n ≡ 0)
    (λ h e. absurd (let z : ⊥ = cc in z))
    (piece-to (c == 42) (block (block_len cs)) (Bad 0) (Bad n) (n ≡ 0)
    (λ h. block-place n (block_len cs)) (λ e. let z : n ≡ 0 = cc in z)) e

named-place : (k : TokenKind) (n : ℕ) (cs : List ℕ) → name_piece k cs ≡ Bad n → n ≡ 0
named-place k n [] e = cc
named-place k n (c ∷ cs) e =
    piece-to (is_letter c) (Whole k (word_len cs + 2)) (Bad 0) (Bad n) (n ≡ 0)
    (λ h e. absurd (let z : ⊥ = cc in z)) (λ e. let z : n ≡ 0 = cc in z) e

piece-place : (n : ℕ) (bs : List ℕ) → piece bs ≡ Bad n → Placed n bs
unfolding piece
piece-place n [] e = absurd (let z : ⊥ = cc in z)
piece-place n (c ∷ cs) e =
    let r : Piece = Bad n in
    let G : Type 0 = Placed n (c ∷ cs) in
    piece-to (is_space c) (Gap 1) _ r G (λ h e. absurd (let z : ⊥ = cc in z))
    (piece-to (is_letter c) (Whole Ident (word_len cs + 1)) _ r G
    (λ h e. absurd (let z : ⊥ = cc in z))
    (piece-to (c == 47) (comment cs) _ r G (λ h e. inl (comment-place n cs e))
    (piece-to (c == 34) (string_piece cs) _ r G (λ h e. subst (λ (d : ℕ). Placed n (d ∷ cs))
    (sym (same-byte c 34 h)) (string-place n cs (quote_len 0 cs) refl (quote-within 0 cs) e))
    (piece-to (c == 64) (name_piece SetIdent cs) _ r G (λ h e. inl (named-place SetIdent n cs e))
    (piece-to (c == 92) (name_piece Builtin cs) _ r G (λ h e. inl (named-place Builtin n cs e))
    (piece-to (c == 58) (colon cs) _ r G (λ h e. absurd (colon-good n cs e))
    (piece-to (is_mark c) (Whole (Punct c) 1) (Bad 0) r G (λ h e. absurd (let z : ⊥ = cc in z))
    (λ e. inl (let z : n ≡ 0 = cc in z)))))))))
    e

bad_escape-piece : (n : ℕ) (bs : List ℕ) → HasBadEscape n bs → (piece bs ≡ Bad n) × (1 ≤ n)
unfolding piece
bad_escape-piece _ _ (bad_escape i m cs q u a) =
    let t : m + 1 - 1 ≡ m = omega arith in
    let v : is_utf8 (take m cs) ≡ true = is_utf8-from_IsUtf8 (take m cs) u in
    let p : body_piece (take m cs) ≡ Bad (i + 1) = rw (v, a) refl in
    (ap (by_end cs) q ∙ ap (λ (j : ℕ). body_piece (take j cs)) t ∙ p, omega arith)

placed-once : (n : ℕ) (bs : List ℕ) → piece bs ≡ Bad n → Placed n bs
    → ((n ≡ 0) × ((m : ℕ) → HasBadEscape m bs → ⊥)) ⊎ HasBadEscape n bs
placed-once n bs e (inr h) = inr h
placed-once n bs e (inl z) = inl (
  z,
  λ m h.
      let p : (piece bs ≡ Bad m) × (1 ≤ m) = bad_escape-piece m bs h in
      let q : Bad m ≡ Bad n = sym p.0 ∙ e in
      let w : m ≡ n = cc in omega (arith, w, z, p.1),
)

empty-good : (n : ℕ) → piece [] ≡ Bad n → ⊥
unfolding piece
empty-good n e = let z : ⊥ = cc in z

bad-fault : (n : ℕ) (bs : List ℕ) → piece bs ≡ Bad n → IsFault n bs
bad-fault n bs e = record {
  some = λ z. empty-good n (sym (ap piece z) ∙ e);
  no_token = λ k i l h. token-good k i n bs l h e;
  no_blank = λ m b. let q : Gap m ≡ Bad n = sym (blank-gap m bs b) ∙ e in let z : ⊥ = cc in z;
  place = placed-once n bs e (piece-place n bs e);
}

-- if there are bytes, there is a piece at the head

abbrev IsSome : Piece → Type 0
IsSome Nothing = ⊥
IsSome (Gap n) = Unit {0}
IsSome (Whole k n) = Unit {0}
IsSome (Bad n) = Unit {0}

some-if : (b : Bool) (p q : Piece) → IsSome p → IsSome q → IsSome (if b then p else q)
some-if true p q h k = h
some-if false p q h k = k

block-some : (x : Option ℕ) → IsSome (block x)
block-some None = tt
block-some (Some m) = tt

comment-some : (cs : List ℕ) → IsSome (comment cs)
comment-some [] = tt
comment-some (c ∷ cs) =
    some-if (c == 47) (Gap (line_len cs + 2)) _ tt
    (some-if (c == 42) (block (block_len cs)) (Bad 0) (block-some (block_len cs)) tt)

escapes-some : (body : List ℕ) (x : Option ℕ) → IsSome (by_escapes body x)
escapes-some body None = tt
escapes-some body (Some i) = tt

string-some : (cs : List ℕ) (x : Option ℕ) → IsSome (by_end cs x)
string-some cs None = tt
string-some cs (Some i) =
    some-if (is_utf8 (take (i - 1) cs)) (by_escapes (take (i - 1) cs) (bad_at 0 (take (i - 1) cs)))
    (Bad 0) (escapes-some (take (i - 1) cs) _) tt

named-some : (k : TokenKind) (cs : List ℕ) → IsSome (name_piece k cs)
named-some k [] = tt
named-some k (c ∷ cs) = some-if (is_letter c) (Whole k (word_len cs + 2)) (Bad 0) tt tt

colon-some : (cs : List ℕ) → IsSome (colon cs)
colon-some [] = tt
colon-some (c ∷ cs) = some-if (c == 61) (Whole Assign 2) (Whole (Punct 58) 1) tt tt

piece-some : (c : ℕ) (cs : List ℕ) → IsSome (piece (c ∷ cs))
unfolding piece
piece-some c cs =
    some-if (is_space c) (Gap 1) _ tt (some-if (is_letter c) (Whole Ident (word_len cs + 1)) _ tt
    (some-if (c == 47) (comment cs) _ (comment-some cs)
    (some-if (c == 34) (string_piece cs) _ (string-some cs (quote_len 0 cs))
    (some-if (c == 64) (name_piece SetIdent cs) _ (named-some SetIdent cs)
    (some-if (c == 92) (name_piece Builtin cs) _ (named-some Builtin cs)
    (some-if (c == 58) (colon cs) _ (colon-some cs)
    (some-if (is_mark c) (Whole (Punct c) 1) (Bad 0) tt tt)))))))

nothing-empty : (bs : List ℕ) → piece bs ≡ Nothing → bs ≡ []
nothing-empty [] e = refl
nothing-empty (c ∷ cs) e = absurd (subst IsSome e (piece-some c cs))

-- the tokens of a text cover it

wider : (m at : ℕ) (bs : List ℕ) (s : Cut) → m ≤ length bs → IsBlank m bs
    → Covers (at + m) (drop m bs) s → Covers at bs s
wider m at bs (cut_end e) l b h =
    let z : m + length (drop m bs) ≡ length bs = omega (arith, length-drop m bs) in (
      subst (λ (n : ℕ). IsGap n bs) z (blank_then m (length (drop m bs)) bs b h.0),
      omega (arith, h.1, z),
    )
wider m at bs (cut_fault e) l b (i, n, g, f, q) = (
  m
      + i,
  n,
  blank_then m i bs b g,
  subst (λ (xs : List ℕ). IsFault n xs) (drop-drop i m bs) f,
  omega (arith, q),
)
wider m at bs (cut_token k from to s) l b (i, n, g, p, q, w, r, t) =
    let e : drop i (drop m bs) ≡ drop (m + i) bs = drop-drop i m bs in (
      m + i,
      n,
      blank_then m i bs b g,
      omega (arith, p),
      q,
      subst (λ (xs : List ℕ). n ≤ length xs) e w,
      subst (λ (xs : List ℕ). IsLongest k n xs) e r,
      subst (λ (xs : List ℕ). Covers to (drop n xs) s) e t,
    )

covers-onward : (at : ℕ) (bs : List ℕ) (p : Piece) → piece bs ≡ p → Within p (length bs)
    → ((n : ℕ) → 1 ≤ n → n ≤ length bs → Covers (at + n) (drop n bs) (lexed (at + n) (drop n bs)))
    → Covers at bs (onward lexed at bs p)
covers-onward at bs Nothing e w go =
    let z : length bs ≡ 0 = ap (λ (xs : List ℕ). length xs) (nothing-empty bs e) in
    (subst (λ (n : ℕ). IsGap n bs) (sym z) (nothing bs), omega (arith, z))
covers-onward at bs (Gap n) e w go =
    wider n at bs (lexed (at + n) (drop n bs)) w.1 (gap-blank n bs e) (go n w.0 w.1)
covers-onward at bs (Whole k n) e w go =
    (0, n, nothing bs, omega arith, refl, w.1, piece-longest bs k n e, go n w.0 w.1)
covers-onward at bs (Bad n) e w go = (0, n, nothing bs, bad-fault n bs e, omega arith)

covers-from : (at : ℕ) (bs : List ℕ)
    → ((n : ℕ) → 1 ≤ n → n ≤ length bs → Covers (at + n) (drop n bs) (lexed (at + n) (drop n bs)))
    → Covers at bs (lexed at bs)
covers-from at bs go =
    subst (λ (s : Cut). Covers at bs s) (sym (lexed-is at bs))
    (covers-onward at bs (piece bs) refl (piece-within bs) go)

covers-all : (m at : ℕ) (bs : List ℕ) → length bs ≤ m → Covers at bs (lexed at bs)
covers-all zero at bs l = covers-from at bs (λ n lo hi. absurd (omega arith))
covers-all (suc m) at bs l =
    covers-from at bs
    (λ n lo hi. covers-all m (at + n) (drop n bs) (omega (arith, length-drop n bs)))

pub tokens-cover : TokensCover
tokens-cover text = covers-all (length text) 0 text (omega arith)

at-fault : (text : List ℕ) (at : ℕ) (bs : List ℕ) (s : Cut) (e : ℕ) → bs ≡ drop at text
    → Covers at bs s → fault_of s ≡ Some e → (p n : ℕ) × IsFault n (drop p text) × (e ≡ p + n)
at-fault text at bs (cut_end f) e b h q = absurd (let z : ⊥ = cc in z)
at-fault text at bs (cut_fault f) e b (m, n, g, x, p) q =
    let z : f ≡ e = cc in
    let d : drop m bs ≡ drop (at + m) text =
    ap (λ (xs : List ℕ). drop m xs) b ∙ drop-drop m at text in
    (at + m, n, subst (λ (xs : List ℕ). IsFault n xs) d x, omega (arith, z, p))
at-fault text at bs (cut_token k from to s) e b (m, n, g, p, r, w, x, t) q =
    let d : drop n (drop m bs) ≡ drop (at + m + n) text =
    ap (λ (xs : List ℕ). drop n (drop m xs)) b
    ∙ ap (λ (xs : List ℕ). drop n xs) (drop-drop m at text) ∙ drop-drop n (at + m) text in
    let i : at + m + n ≡ to = omega (arith, p, r) in
    at-fault text to (drop n (drop m bs)) s e (d ∙ ap (λ (j : ℕ). drop j text) i) t q

pub no-token-at-fault : NoTokenAtFault
no-token-at-fault text e q = at-fault text 0 text (lexed 0 text) e refl (tokens-cover text) q
