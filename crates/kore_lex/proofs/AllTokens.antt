-- What is known of each token of a text, and that the text of a string is UTF-8.
use Rattle.std.proofs.Common.{◌≡◌, ◌≤◌, ◌<◌, ◌+◌, ◌*◌, ◌-◌, ℕ, zero, suc, Bool, true, false, List}
use Rattle.std.proofs.Common.{[], ◌∷◌, length, take, drop, get_or, refl, ap, sym, ◌∙◌, subst, arith}
use Rattle.std.proofs.Common.{◌==◌, if◌then◌else◌, Option, Some, None, length-drop}
use Rattle.std.specs.Option.{IfSome}
use Rattle.std.specs.Str.{IsUtf8}
use Rattle.std.specs.Char.{encode_utf8}
use Rattle.std.proofs.lemmas.List.{drop-drop}
use Rattle.std.proofs.lemmas.Bool.Decides.{nat_tests}
use Rattle.std.proofs.lemmas.Str.{IsUtf8-nil, IsUtf8-append, IsUtf8-encode}
use lib.Utf8.{scalar}
use Rattle.kore_lex.specs.declared.lexer.TokenKind.{TokenKind}
use Rattle.kore_lex.specs.declared.lexer.TokenKind.TheVariants.{Text}
use Rattle.kore_lex.specs.declared.escape.Escape.{Escape}
use Rattle.kore_lex.specs.declared.piece.Piece.{Piece}
use Rattle.kore_lex.specs.declared.piece.Piece.TheVariants.{Nothing, Gap, Whole, Bad}
use Rattle.kore_lex.specs.Escapes.{hex_digit, bind, hex_number, by_number, escape}
use Rattle.kore_lex.specs.Tokens.{IsInner, IsToken, IsString}
use Rattle.kore_lex.specs.Pieces.{piece}
use Rattle.kore_lex.specs.Lexed.{Cut, cut_end, cut_fault, cut_token, lexed, onward}
use Rattle.kore_lex.specs.Value.{unescaped_text, string_value}
use Rattle.kore_lex.specs.Steps.{Took, run_len}
use Rattle.kore_lex.proofs.Lexing.{Within, lexed-is, piece-within}
use Rattle.kore_lex.proofs.Longest.{piece-longest}
use Rattle.kore_lex.proofs.StringLaws.{string-alone, string-inside}
use Rattle.kore_lex.proofs.ValueLaws.{escape-took, escape-there, run-took, run-utf8}

-- the value of an escape is a Unicode scalar value

if-scalar : (b : Bool) (n : ℕ) → scalar n ≡ b
    → IfSome (if b then Some n else None) (λ m. scalar m ≡ true)
if-scalar true n h = h
if-scalar false n h = tt

digit-scalar : (o : Option ℕ) (f : ℕ → Option ℕ) → ((d : ℕ) → IfSome (f d) (λ m. scalar m ≡ true))
    → IfSome (bind o f) (λ m. scalar m ≡ true)
digit-scalar None f h = tt
digit-scalar (Some d) f h = h d

number-scalar : (k n : ℕ) (bs : List ℕ) → IfSome (hex_number k n bs) (λ m. scalar m ≡ true)
unfolding hex_number
number-scalar zero n bs = if-scalar (scalar n) n refl
number-scalar (suc k) n [] = tt
number-scalar (suc k) n (c ∷ cs) =
    digit-scalar (hex_digit c) (λ d. hex_number k (16 * n + d) cs)
    (λ d. number-scalar k (16 * n + d) cs)

numbered-scalar : (k : ℕ) (o : Option ℕ) → IfSome o (λ m. scalar m ≡ true)
    → IfSome (by_number k o) (λ e. scalar e.character ≡ true)
numbered-scalar k None h = tt
numbered-scalar k (Some m) h = h

escape-if : (b : Bool) (x y : Option Escape) → IfSome x (λ e. scalar e.character ≡ true)
    → IfSome y (λ e. scalar e.character ≡ true)
    → IfSome (if b then x else y) (λ e. scalar e.character ≡ true)
escape-if true x y h k = h
escape-if false x y h k = k

escape-scalar : (bs : List ℕ) → IfSome (escape bs) (λ e. scalar e.character ≡ true)
unfolding escape
escape-scalar [] = tt
escape-scalar (c ∷ cs) =
    escape-if (c == 110) _ _ refl
    (escape-if (c == 114) _ _ refl (escape-if (c == 116) _ _ refl (escape-if (c == 102) _ _ refl
    (escape-if (c == 34) _ _ refl (escape-if (c == 92) _ _ refl
    (escape-if (c == 120) _ _ (numbered-scalar 2 (hex_number 2 0 cs) (number-scalar 2 0 cs))
    (escape-if (c == 117) _ _ (numbered-scalar 4 (hex_number 4 0 cs) (number-scalar 4 0 cs))
    (escape-if (c == 85) _ None (numbered-scalar 8 (hex_number 8 0 cs) (number-scalar 8 0 cs))
    tt))))))))

-- the text of the bytes inside a string is UTF-8

taken-utf8 : (bs t : List ℕ) (n : ℕ) → Took bs [] t n → IsUtf8 t
    → IsUtf8 (unescaped_text 0 (drop n bs))
    → IsUtf8 (unescaped_text 0 bs)
taken-utf8 bs t n k u v =
    subst (λ (x : List ℕ). IsUtf8 x) k.grown (IsUtf8-append t (unescaped_text 0 (drop n bs)) u v)

escape-utf8 : (bs : List ℕ) (o : Option Escape) → o ≡ escape (drop 1 bs) → 0 < length bs
    → get_or bs 0 0 ≡ 92 → IsInner bs
    → ((n : ℕ) → 1 ≤ n → n ≤ length bs → IsInner (drop n bs)
    → IsUtf8 (unescaped_text 0 (drop n bs)))
    → IsUtf8 (unescaped_text 0 bs)
escape-utf8 bs None e l b h go = absurd (escape-there bs l b h e)
escape-utf8 bs (Some x) e l b h go =
    let k : Took bs [] (encode_utf8 x.character) (x.len + 1) =
    escape-took bs [] (encode_utf8 x.character) x l b h e refl in
    let s : scalar x.character ≡ true =
    subst (λ (o : Option Escape). IfSome o (λ e. scalar e.character ≡ true)) (sym e)
    (escape-scalar (drop 1 bs)) in
    taken-utf8 bs (encode_utf8 x.character) (x.len + 1) k (IsUtf8-encode x.character s)
    (go (x.len + 1) k.some k.within k.inner)

run-plain : (bs : List ℕ) → 0 < length bs → (get_or bs 0 0 ≡ 92 → ⊥) → IsInner bs
    → ((n : ℕ) → 1 ≤ n → n ≤ length bs → IsInner (drop n bs)
    → IsUtf8 (unescaped_text 0 (drop n bs)))
    → IsUtf8 (unescaped_text 0 bs)
run-plain bs l b h go =
    let n : ℕ = run_len bs in
    let k : Took bs [] (take n bs) n = run-took bs [] (take n bs) l b h refl in
    taken-utf8 bs (take n bs) n k (run-utf8 bs h) (go n k.some k.within k.inner)

by-first : (bs : List ℕ) (x : Bool) → (get_or bs 0 0 == 92) ≡ x → 0 < length bs → IsInner bs
    → ((n : ℕ) → 1 ≤ n → n ≤ length bs → IsInner (drop n bs)
    → IsUtf8 (unescaped_text 0 (drop n bs)))
    → IsUtf8 (unescaped_text 0 bs)
by-first bs true e l h go =
    escape-utf8 bs (escape (drop 1 bs)) refl l (grind (arith, nat_tests)) h go
by-first bs false e l h go = run-plain bs l (λ z. grind (arith, nat_tests)) h go

plain-utf8 : (m : ℕ) (bs : List ℕ) → length bs ≤ m → IsInner bs → IsUtf8 (unescaped_text 0 bs)
unfolding unescaped_text
plain-utf8 m [] l h = IsUtf8-nil
plain-utf8 zero (c ∷ cs) l h = absurd (omega arith)
plain-utf8 (suc m) (c ∷ cs) l h =
    by-first (c ∷ cs) (c == 92) refl (omega arith) h
    (λ n lo hi i. plain-utf8 m (drop n (c ∷ cs)) (omega (arith, length-drop n (c ∷ cs))) i)

pub string-utf8 : (bs : List ℕ) → IsString bs → IsUtf8 (string_value bs)
string-utf8 bs h =
    let inner : List ℕ = take (length bs - 2) (drop 1 bs) in
    let i : (2 ≤ length bs) × IsInner inner = string-inside bs h in
    plain-utf8 (length inner) inner (omega arith) i.1

-- tokens of a text

-- the bytes are a token of the kind, and if the kind is `Text` they are a whole string
abbrev pub IsRead : TokenKind → List ℕ → Type 0
IsRead k bs = IsToken k bs × (k ≡ Text → IsString bs)

-- each token of the stream is such a token
abbrev pub AllRead : List ℕ → Cut → Type 0
AllRead text (cut_end e) = Unit {0}
AllRead text (cut_fault e) = Unit {0}
AllRead text (cut_token k from to s) = IsRead k (take (to - from) (drop from text)) × AllRead text s

whole-read : (k : TokenKind) (n at : ℕ) (text : List ℕ) → piece (drop at text) ≡ Whole k n
    → IsRead k (take (at + n - at) (drop at text))
whole-read k n at text e =
    let i : n ≡ at + n - at = omega arith in
    subst (λ (i : ℕ). IsRead k (take i (drop at text))) i (
      (piece-longest (drop at text) k n e).0,
      λ z. string-alone (drop at text) n (e ∙ ap (λ (j : TokenKind). Whole j n) z),
    )

by-piece : (at : ℕ) (text : List ℕ) (p : Piece) → piece (drop at text) ≡ p
    → ((n : ℕ) → 1 ≤ n → n ≤ length (drop at text)
    → AllRead text (lexed (at + n) (drop n (drop at text))))
    → Within p (length (drop at text)) → AllRead text (onward lexed at (drop at text) p)
by-piece at text Nothing e go w = tt
by-piece at text (Gap n) e go w = go n w.0 w.1
by-piece at text (Whole k n) e go w = (whole-read k n at text e, go n w.0 w.1)
by-piece at text (Bad n) e go w = tt

from-piece : (at : ℕ) (text : List ℕ)
    → ((n : ℕ) → 1 ≤ n → n ≤ length (drop at text)
    → AllRead text (lexed (at + n) (drop n (drop at text))))
    → AllRead text (lexed at (drop at text))
from-piece at text go =
    subst (λ (s : Cut). AllRead text s) (sym (lexed-is at (drop at text)))
    (by-piece at text (piece (drop at text)) refl go (piece-within (drop at text)))

further-on : (m at n : ℕ) (text : List ℕ) → length (drop at text) ≤ suc m → 1 ≤ n
    → n ≤ length (drop at text)
    → (length (drop (at + n) text) ≤ m → AllRead text (lexed (at + n) (drop (at + n) text)))
    → AllRead text (lexed (at + n) (drop n (drop at text)))
further-on m at n text l lo hi go =
    let e : drop n (drop at text) ≡ drop (at + n) text = drop-drop n at text in
    let k : length (drop n (drop at text)) ≡ length (drop (at + n) text) =
    ap (λ (bs : List ℕ). length bs) e in
    subst (λ (bs : List ℕ). AllRead text (lexed (at + n) bs)) (sym e)
    (go (omega (arith, k, length-drop n (drop at text))))

all-behind : (m at : ℕ) (text : List ℕ) → length (drop at text) ≤ m
    → AllRead text (lexed at (drop at text))
all-behind zero at text l = from-piece at text (λ n lo hi. absurd (omega arith))
all-behind (suc m) at text l =
    from-piece at text
    (λ n lo hi. further-on m at n text l lo hi (λ h. all-behind m (at + n) text h))

-- each token of a text is such a token
pub all-read : (text : List ℕ) → AllRead text (lexed 0 text)
all-read text = all-behind (length text) 0 text (omega arith)
