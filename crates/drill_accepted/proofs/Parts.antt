-- Texts made of tokens and white space, and the tokens that are read in them.
use Rattle.std.proofs.Common.{◌≡◌, ◌<◌, ◌+◌, ◌-◌, ◌^◌, ℕ, Bool, true, false, not, ◌==◌, ◌&&◌, ◌||◌}
use Rattle.std.proofs.Common.{List, [], ◌∷◌, ◌++◌, length, take, drop, refl, ap, sym, ◌∙◌, arith}
use Rattle.std.proofs.Common.{append_assoc, Some, None}
use Rattle.std.specs.Prelude.{nat_lt}
use Rattle.std.specs.Fmt.{decimal}
use Rattle.std.specs.Str.{IsAscii}
use Rattle.std.proofs.lemmas.Bool.{ltb-true}
use Rattle.std.proofs.lemmas.List.{drop-drop, length-append}
use Rattle.std.proofs.lemmas.Str.{IsUtf8-from_ascii, is_utf8-from_IsUtf8}
use Rattle.std.proofs.lemmas.Str.Ascii.{IsAscii-nil, IsAscii-cons}
use Rattle.std.proofs.Math.Seq.{take-append_seam, drop-append_seam}
use Rattle.rule_core.proofs.Belows.{both_true}
use Rattle.kore_lex.specs.declared.lexer.TokenKind.TheVariants as kind
use Rattle.kore_lex.specs.Escapes.{further, bad_at}
use Rattle.kore_lex.specs.Pieces.{is_space, is_letter, is_word, is_mark, piece, quote_len}
use Rattle.kore_lex.specs.Lexed.{lexed, cut_token}
use Rattle.kore_lex.specs.Tokens.{IsName, AllWord}
use Rattle.kore_lex.specs.Value.{unescaped_text, string_value}
use Rattle.kore_lex.proofs.Lexing.{lexed-is}
use Rattle.kore_lex.proofs.WholePieces.{whole as whole_piece, lexed-whole, string-piece}
use Rattle.kore_lex.proofs.WholePieces.{begins_word, begins_equals}
use Rattle.kore_text.specs.TokenStream.{KoreToken, identifier, set_identifier, builtin}
use Rattle.kore_text.specs.TokenStream.{string_token, mark, assign, Stream, token, named_tokens}
use Rattle.kore_print.specs.TokenText.{token_text}
use Rattle.kore_print.specs.PrintLaws.{IsTextual}
use Rattle.kore_print.proofs.TokenPieces.{IsApart, token-cut}
use Rattle.drill_accepted.proofs.Decimals.{AllPlain, decimal-plain, decimal-word}

pub data Part : Type 0 where
  -- a byte of white space
  blank : ℕ → Part
  -- a token that is no string
  written : KoreToken → Part
  -- a string, by what stands between its quotes
  quoted : List ℕ → Part
  -- the name that is `c` and a number
  named_number : ℕ → Part
  -- a string that is a number
  quoted_number : ℕ → Part

abbrev pub numbered_name : ℕ → List ℕ
numbered_name i = 99 ∷ decimal i

abbrev pub quoted_text : List ℕ → List ℕ
quoted_text w = 34 ∷ (w ++ (34 ∷ []))

abbrev pub parts_text : List Part → List ℕ
parts_text [] = []
parts_text (blank c ∷ ps) = c ∷ parts_text ps
parts_text (written t ∷ ps) = token_text t ++ parts_text ps
parts_text (quoted w ∷ ps) = 34 ∷ (w ++ (34 ∷ parts_text ps))
parts_text (named_number i ∷ ps) = 99 ∷ (decimal i ++ parts_text ps)
parts_text (quoted_number i ∷ ps) = 34 ∷ (decimal i ++ (34 ∷ parts_text ps))

-- the tokens of the parts from a place on, and more after them
abbrev pub tokens_from : ℕ → List Part → (ℕ → Stream) → Stream
tokens_from at [] more = more at
tokens_from at (blank c ∷ ps) more = tokens_from (at + 1) ps more
tokens_from at (written t ∷ ps) more = token t at (tokens_from (at + length (token_text t)) ps more)
tokens_from at (quoted w ∷ ps) more =
    token (string_token w) at (tokens_from (at + length (quoted_text w)) ps more)
tokens_from at (named_number i ∷ ps) more =
    token (identifier (numbered_name i)) at (tokens_from (at + length (numbered_name i)) ps more)
tokens_from at (quoted_number i ∷ ps) more =
    token (string_token (decimal i)) at (tokens_from
    (at + length (quoted_text (decimal i))) ps more)

-- the place after them
abbrev pub place_after : ℕ → List Part → ℕ
place_after at [] = at
place_after at (blank c ∷ ps) = place_after (at + 1) ps
place_after at (written t ∷ ps) = place_after (at + length (token_text t)) ps
place_after at (quoted w ∷ ps) = place_after (at + length (quoted_text w)) ps
place_after at (named_number i ∷ ps) = place_after (at + length (numbered_name i)) ps
place_after at (quoted_number i ∷ ps) = place_after (at + length (quoted_text (decimal i))) ps

pub tokens-append : (ps qs : List Part) (at : ℕ) (more : ℕ → Stream)
    → tokens_from at (ps ++ qs) more ≡ tokens_from at ps (λ i. tokens_from i qs more)
tokens-append [] qs at more = refl
tokens-append (blank c ∷ ps) qs at more = tokens-append ps qs (at + 1) more
tokens-append (written t ∷ ps) qs at more =
    ap (token t at) (tokens-append ps qs (at + length (token_text t)) more)
tokens-append (quoted w ∷ ps) qs at more =
    ap (token (string_token w) at) (tokens-append ps qs (at + length (quoted_text w)) more)
tokens-append (named_number i ∷ ps) qs at more =
    ap (token (identifier (numbered_name i)) at) (tokens-append ps qs
    (at + length (numbered_name i)) more)
tokens-append (quoted_number i ∷ ps) qs at more =
    ap (token (string_token (decimal i)) at) (tokens-append ps qs
    (at + length (quoted_text (decimal i))) more)

pub place-append : (ps qs : List Part) (at : ℕ)
    → place_after at (ps ++ qs) ≡ place_after (place_after at ps) qs
place-append [] qs at = refl
place-append (blank c ∷ ps) qs at = place-append ps qs (at + 1)
place-append (written t ∷ ps) qs at = place-append ps qs (at + length (token_text t))
place-append (quoted w ∷ ps) qs at = place-append ps qs (at + length (quoted_text w))
place-append (named_number i ∷ ps) qs at = place-append ps qs (at + length (numbered_name i))
place-append (quoted_number i ∷ ps) qs at = place-append ps qs
    (at + length (quoted_text (decimal i)))

-- only what comes at the place after the parts counts
pub tokens-last : (ps : List Part) (at : ℕ) (f g : ℕ → Stream)
    → f (place_after at ps) ≡ g (place_after at ps)
    → tokens_from at ps f ≡ tokens_from at ps g
tokens-last [] at f g e = e
tokens-last (blank c ∷ ps) at f g e = tokens-last ps (at + 1) f g e
tokens-last (written t ∷ ps) at f g e =
    ap (token t at) (tokens-last ps (at + length (token_text t)) f g e)
tokens-last (quoted w ∷ ps) at f g e =
    ap (token (string_token w) at) (tokens-last ps (at + length (quoted_text w)) f g e)
tokens-last (named_number i ∷ ps) at f g e =
    ap (token (identifier (numbered_name i)) at) (tokens-last ps
    (at + length (numbered_name i)) f g e)
tokens-last (quoted_number i ∷ ps) at f g e =
    ap (token (string_token (decimal i)) at) (tokens-last ps
    (at + length (quoted_text (decimal i))) f g e)

pub text-append : (ps qs : List Part) → parts_text (ps ++ qs) ≡ parts_text ps ++ parts_text qs
text-append [] qs = refl
text-append (blank c ∷ ps) qs = ap (λ (bs : List ℕ). c ∷ bs) (text-append ps qs)
text-append (written t ∷ ps) qs =
    ap (λ (bs : List ℕ). token_text t ++ bs) (text-append ps qs)
    ∙ sym (append_assoc (token_text t) (parts_text ps) (parts_text qs))
text-append (quoted w ∷ ps) qs =
    ap (λ (bs : List ℕ). 34 ∷ (w ++ (34 ∷ bs))) (text-append ps qs)
    ∙ ap (λ (bs : List ℕ). 34 ∷ bs) (sym (append_assoc w (34 ∷ parts_text ps) (parts_text qs)))
text-append (named_number i ∷ ps) qs =
    ap (λ (bs : List ℕ). 99 ∷ (decimal i ++ bs)) (text-append ps qs)
    ∙ ap (λ (bs : List ℕ). 99 ∷ bs) (sym (append_assoc (decimal i) (parts_text ps) (parts_text qs)))
text-append (quoted_number i ∷ ps) qs =
    ap (λ (bs : List ℕ). 34 ∷ (decimal i ++ (34 ∷ bs))) (text-append ps qs)
    ∙ ap (λ (bs : List ℕ). 34 ∷ bs)
    (sym (append_assoc (decimal i) (34 ∷ parts_text ps) (parts_text qs)))

-- ---- parts that are told apart

-- the bytes are there, and do not go on a name, and so with `=`
abbrev ends_word : List ℕ → Bool
ends_word [] = false
ends_word (c ∷ cs) = not (is_word c)

abbrev ends_colon : List ℕ → Bool
ends_colon [] = false
ends_colon (c ∷ cs) = not (c == 61)

abbrev all_word : List ℕ → Bool
all_word [] = true
all_word (c ∷ cs) = is_word c && all_word cs

abbrev is_name : List ℕ → Bool
is_name [] = false
is_name (c ∷ cs) = is_letter c && all_word cs

-- a token of which these bytes may come next
abbrev may_stand : KoreToken → List ℕ → Bool
may_stand (identifier n) next = is_name n && ends_word next
may_stand (set_identifier n) next = false
may_stand (builtin None) next = false
may_stand (builtin (Some b)) next = ends_word next
may_stand (string_token t) next = false
may_stand (mark c) next = is_mark c && (not (c == 58) || ends_colon next)
may_stand assign next = false

abbrev is_plain : List ℕ → Bool
is_plain [] = true
is_plain (c ∷ cs) = not (c == 34) && (not (c == 92) && (nat_lt c 128 && is_plain cs))

-- each token may stand in front of what follows it, whatever follows them all
abbrev pub are_parted : List Part → Bool
are_parted [] = true
are_parted (blank c ∷ ps) = is_space c && are_parted ps
are_parted (written t ∷ ps) = may_stand t (parts_text ps) && are_parted ps
are_parted (quoted w ∷ ps) = is_plain w && are_parted ps
are_parted (named_number i ∷ ps) = ends_word (parts_text ps) && are_parted ps
are_parted (quoted_number i ∷ ps) = are_parted ps

-- the numbers have 64 bits
abbrev pub AreSmall : List Part → Type 0
AreSmall [] = Unit {0}
AreSmall (blank c ∷ ps) = AreSmall ps
AreSmall (written t ∷ ps) = AreSmall ps
AreSmall (quoted w ∷ ps) = AreSmall ps
AreSmall (named_number i ∷ ps) = (i < 2 ^ 64) × AreSmall ps
AreSmall (quoted_number i ∷ ps) = (i < 2 ^ 64) × AreSmall ps

word-all : (cs : List ℕ) → all_word cs ≡ true → AllWord cs
word-all [] h = tt
word-all (c ∷ cs) h = let p = both_true (is_word c) (all_word cs) h in (p.0, word-all cs p.1)

name-is : (n : List ℕ) → is_name n ≡ true → IsName n
name-is [] h = let no : ⊥ = cc in absurd no
name-is (c ∷ cs) h = let p = both_true (is_letter c) (all_word cs) h in (p.0, word-all cs p.1)

is_false : (b : Bool) → not b ≡ true → b ≡ false
is_false true h = let no : ⊥ = cc in absurd no
is_false false h = refl

plain-is : (w : List ℕ) → is_plain w ≡ true → AllPlain w
plain-is [] h = tt
plain-is (c ∷ cs) h =
    let p = both_true (not (c == 34)) (not (c == 92) && (nat_lt c 128 && is_plain cs)) h in
    let q = both_true (not (c == 92)) (nat_lt c 128 && is_plain cs) p.1 in
    let r = both_true (nat_lt c 128) (is_plain cs) q.1 in
    (is_false (c == 34) p.0, is_false (c == 92) q.0, ltb-true c 128 r.0, plain-is cs r.1)

word-ended : (w r : List ℕ) → ends_word w ≡ true → begins_word (w ++ r) ≡ false
word-ended [] r h = let no : ⊥ = cc in absurd no
word-ended (c ∷ cs) r h = is_false (is_word c) h

colon-ended : (b : Bool) (w r : List ℕ) → (not b || ends_colon w) ≡ true
    → (b && begins_equals (w ++ r)) ≡ false
colon-ended false w r h = refl
colon-ended true [] r h = let no : ⊥ = cc in absurd no
colon-ended true (c ∷ cs) r h = is_false (c == 61) h

abbrev Stands : KoreToken → List ℕ → Type 0
Stands t r = IsTextual t × IsApart t r

stands : (t : KoreToken) (w r : List ℕ) → may_stand t w ≡ true → Stands t (w ++ r)
stands (identifier n) w r h =
    let p = both_true (is_name n) (ends_word w) h in (name-is n p.0, word-ended w r p.1)
stands (set_identifier n) w r h = let no : ⊥ = cc in absurd no
stands (builtin None) w r h = let no : ⊥ = cc in absurd no
stands (builtin (Some b)) w r h = (tt, word-ended w r h)
stands (string_token t) w r h = let no : ⊥ = cc in absurd no
stands (mark c) w r h =
    let p = both_true (is_mark c) (not (c == 58) || ends_colon w) h in
    (p.0, colon-ended (c == 58) w r p.1)
stands assign w r h = let no : ⊥ = cc in absurd no

-- ---- strings of plain bytes

plain-quoted : (w r : List ℕ) → AllPlain w → quote_len 0 (w ++ (34 ∷ r)) ≡ Some (length w + 1)
unfolding quote_len
plain-quoted [] r h = refl
plain-quoted (c ∷ cs) r h =
    rw (h.0, h.1) (ap (further 1) (plain-quoted cs r h.3) ∙ ap (λ (n : ℕ). Some n) (omega arith))

plain-good : (w : List ℕ) → AllPlain w → bad_at 0 w ≡ None
unfolding bad_at
plain-good [] h = refl
plain-good (c ∷ cs) h = rw h.1 (ap (further 1) (plain-good cs h.3))

plain-itself : (w : List ℕ) → AllPlain w → unescaped_text 0 w ≡ w
unfolding unescaped_text
plain-itself [] h = refl
plain-itself (c ∷ cs) h = rw h.1 (ap (λ (bs : List ℕ). c ∷ bs) (plain-itself cs h.3))

plain-ascii : (w : List ℕ) → AllPlain w → IsAscii w
plain-ascii [] h = IsAscii-nil
plain-ascii (c ∷ cs) h = IsAscii-cons c cs h.2 (plain-ascii cs h.3)

length-quoted : (w : List ℕ) → length (quoted_text w) ≡ length w + 2
length-quoted w =
    let e : length (w ++ (34 ∷ [])) ≡ length w + 1 = length-append w (34 ∷ []) in omega (arith, e)

quoted-piece : (w r : List ℕ) → AllPlain w
    → piece (quoted_text w ++ r) ≡ whole_piece kind.Text (length (quoted_text w))
quoted-piece w r h =
    ap (λ (bs : List ℕ). piece (34 ∷ bs)) (append_assoc w (34 ∷ []) r)
    ∙ string-piece w r (plain-quoted w r h) (is_utf8-from_IsUtf8 w
    (IsUtf8-from_ascii w (plain-ascii w h))) (plain-good w h)
    ∙ ap (whole_piece kind.Text) (sym (length-quoted w))

quoted-value : (w : List ℕ) → AllPlain w → string_value (quoted_text w) ≡ w
quoted-value w h =
    let n : length (quoted_text w) - 2 ≡ length w = omega (arith, length-quoted w) in
    ap (unescaped_text 0) (ap (λ (i : ℕ). take i (w ++ (34 ∷ []))) n ∙ take-append_seam w (34 ∷ []))
    ∙ plain-itself w h

-- ---- one part

-- the bytes after a piece
after-piece : (w r text : List ℕ) (at : ℕ) → drop at text ≡ w ++ r → drop (at + length w) text ≡ r
after-piece w r text at d =
    sym (drop-drop (length w) at text) ∙ ap (drop (length w)) d ∙ drop-append_seam w r

-- a string is cut off
string-cut : (w r text : List ℕ) (at : ℕ) → AllPlain w → drop at text ≡ quoted_text w ++ r
    → named_tokens text (lexed at (quoted_text w ++ r))
    ≡ token (string_token w) at (named_tokens text (lexed (at + length (quoted_text w)) r))
string-cut w r text at h d =
    let bs : List ℕ = quoted_text w in
    let n : ℕ = length bs in
    let l : lexed at (bs ++ r) ≡ cut_token kind.Text at (at + n) (lexed (at + n) r) =
    lexed-whole kind.Text n at (bs ++ r) (quoted-piece w r h)
    ∙ ap (λ (rest : List ℕ). cut_token kind.Text at (at + n) (lexed (at + n) rest))
    (drop-append_seam bs r) in
    let m : at + n - at ≡ n = omega arith in
    let b : take (at + n - at) (drop at text) ≡ bs =
    ap (λ (i : ℕ). take i (drop at text)) m ∙ ap (take n) d ∙ take-append_seam bs r in
    ap (named_tokens text) l
    ∙ ap (λ (t : List ℕ). token (string_token t) at (named_tokens text (lexed (at + n) r)))
    (ap string_value b ∙ quoted-value w h)

blank-cut : (c : ℕ) (bs : List ℕ) (at : ℕ) → is_space c ≡ true
    → lexed at (c ∷ bs) ≡ lexed (at + 1) bs
unfolding piece
blank-cut c bs at h = lexed-is at (c ∷ bs) ∙ rw h refl

-- ---- all parts

-- the text of the parts, with whatever comes after it, has their tokens
pub record Reads (ps : List Part) (at : ℕ) (text r : List ℕ) : Type 0 where
  pub tokens : named_tokens text (lexed at (parts_text ps ++ r))
      ≡ tokens_from at ps (λ i. named_tokens text (lexed i r))
  pub rest : drop (place_after at ps) text ≡ r

abbrev pub AreRead : List Part → Type 0
AreRead ps = (at : ℕ) (text r : List ℕ) → drop at text ≡ parts_text ps ++ r → Reads ps at text r

-- a token in front of parts that are read
in-front : (w bs r text : List ℕ) (t : KoreToken) (ps : List Part) (at : ℕ)
    → bs ≡ w ++ (parts_text ps ++ r) → drop at text ≡ bs
    → (drop at text ≡ w ++ (parts_text ps ++ r)
    → named_tokens text (lexed at (w ++ (parts_text ps ++ r)))
    ≡ token t at (named_tokens text (lexed (at + length w) (parts_text ps ++ r))))
    → AreRead ps
    → (named_tokens text (lexed at bs)
    ≡ token t at (tokens_from (at + length w) ps (λ i. named_tokens text (lexed i r))))
    × (drop (place_after (at + length w) ps) text ≡ r)
in-front w bs r text t ps at same d cut later =
    let here : drop at text ≡ w ++ (parts_text ps ++ r) = d ∙ same in
    let next = later (at + length w) text r (after-piece w (parts_text ps ++ r) text at here) in (
      ap (λ (x : List ℕ). named_tokens text (lexed at x)) same ∙ cut here
          ∙ ap (token t at) next.tokens,
      next.rest,
    )

quoted-same : (w u r : List ℕ) → (34 ∷ (w ++ (34 ∷ u))) ++ r ≡ quoted_text w ++ (u ++ r)
quoted-same w u r =
    ap (λ (bs : List ℕ). 34 ∷ bs) (append_assoc w (34 ∷ u) r
    ∙ sym (append_assoc w (34 ∷ []) (u ++ r)))

pub are-read : (ps : List Part) → are_parted ps ≡ true → AreSmall ps → AreRead ps
are-read [] h s at text r d = record { tokens = refl; rest = d }
are-read (blank c ∷ ps) h s at text r d =
    let p = both_true (is_space c) (are_parted ps) h in
    let next = are-read ps p.1 s (at + 1) text r (after-piece (c ∷ [])
    (parts_text ps ++ r) text at d)
    in record {
      tokens = ap (named_tokens text) (blank-cut c (parts_text ps ++ r) at p.0) ∙ next.tokens;
      rest = next.rest;
    }
are-read (written t ∷ ps) h s at text r d =
    let p = both_true (may_stand t (parts_text ps)) (are_parted ps) h in
    let fit = stands t (parts_text ps) r p.0 in
    let both = in-front (token_text t) (parts_text (written t ∷ ps) ++ r) r text t ps at
    (append_assoc (token_text t) (parts_text ps) r) d
    (λ here. token-cut t (parts_text ps ++ r) text at fit.0 fit.1 here) (are-read ps p.1 s) in
    record { tokens = both.0; rest = both.1 }
are-read (quoted w ∷ ps) h s at text r d =
    let p = both_true (is_plain w) (are_parted ps) h in
    let both = in-front (quoted_text w) (parts_text (quoted w ∷ ps) ++ r) r text
    (string_token w) ps at
    (quoted-same w (parts_text ps) r) d
    (string-cut w (parts_text ps ++ r) text at (plain-is w p.0)) (are-read ps p.1 s) in
    record { tokens = both.0; rest = both.1 }
are-read (named_number i ∷ ps) h s at text r d =
    let p = both_true (ends_word (parts_text ps)) (are_parted ps) h in
    let same : parts_text (named_number i ∷ ps) ++ r ≡ numbered_name i ++ (parts_text ps ++ r) =
    ap (λ (bs : List ℕ). 99 ∷ bs) (append_assoc (decimal i) (parts_text ps) r) in
    let both = in-front (numbered_name i) (parts_text (named_number i ∷ ps) ++ r) r text
    (identifier (numbered_name i)) ps at same d
    (λ here. token-cut (identifier (numbered_name i)) (parts_text ps ++ r) text at
    (refl, decimal-word i s.0) (word-ended (parts_text ps) r p.0) here)
    (are-read ps p.1 s.1) in
    record { tokens = both.0; rest = both.1 }
are-read (quoted_number i ∷ ps) h s at text r d =
    let both = in-front (quoted_text (decimal i)) (parts_text (quoted_number i ∷ ps) ++ r) r text
    (string_token (decimal i)) ps at
    (quoted-same (decimal i) (parts_text ps) r) d
    (string-cut (decimal i) (parts_text ps ++ r) text at (decimal-plain i s.0))
    (are-read ps h s.1) in
    record { tokens = both.0; rest = both.1 }

-- one list of parts after another
pub read-both : (ps qs : List Part) → AreRead ps → AreRead qs → AreRead (ps ++ qs)
read-both ps qs first second at text r d =
    let same : parts_text (ps ++ qs) ++ r ≡ parts_text ps ++ (parts_text qs ++ r) =
    ap (λ (bs : List ℕ). bs ++ r) (text-append ps qs)
    ∙ append_assoc (parts_text ps) (parts_text qs) r in
    let here = first at text (parts_text qs ++ r) (d ∙ same) in
    let there = second (place_after at ps) text r here.rest in record {
      tokens = ap (λ (bs : List ℕ). named_tokens text (lexed at bs)) same ∙ here.tokens
          ∙ tokens-last ps at (λ i. named_tokens text (lexed i (parts_text qs ++ r)))
          (λ i. tokens_from i qs (λ j. named_tokens text (lexed j r))) there.tokens
          ∙ sym (tokens-append ps qs at (λ j. named_tokens text (lexed j r)));
      rest = ap (λ (i : ℕ). drop i text) (place-append ps qs at) ∙ there.rest;
    }
