-- The bytes between the quotes of a string: what escapes and runs of other bytes stand for.
use Rattle.std.proofs.Common.{◌≡◌, ◌≤◌, ◌<◌, ◌+◌, ◌*◌, ℕ, zero, suc, Bool, true, false, List, []}
use Rattle.std.proofs.Common.{◌∷◌, ◌++◌, length, take, drop, get_or, refl, ap, sym, ◌∙◌, subst}
use Rattle.std.proofs.Common.{arith, append_assoc, ◌==◌, if◌then◌else◌, not, Option, Some, None}
use Rattle.std.proofs.Common.{cond}
use Rattle.std.proofs.lemmas.List.{append-nil}
use Rattle.std.proofs.lemmas.List.Sums.{take_while-cons}
use Rattle.std.proofs.lemmas.Bool.Decides.{nat_tests}
use Rattle.std.proofs.lemmas.Str.{IsUtf8-take, IsUtf8-drop, IsCharBoundary-after_ascii}
use Rattle.std.specs.Char.{encode_utf8}
use Rattle.std.specs.Str.{IsUtf8, IsCharBoundary}
use Rattle.std.specs.List.{take_while}
use Rattle.std.specs.Option.{IfSome}
use lib.Utf8.{scalar}
use Rattle.kore_lex.specs.declared.escape.Escape.{Escape}
use Rattle.kore_lex.specs.Escapes.{hex_digit, bind, hex_number, by_number, escape, further, bad_at}
use Rattle.kore_lex.specs.Tokens.{IsInner}
use Rattle.kore_lex.specs.Value.{unescaped_text}
use Rattle.kore_lex.specs.Steps.{run_len, Took, unit_len}
use Rattle.kore_lex.proofs.Runs.{drop-past}
use Rattle.kore_lex.proofs.EscapeLaws.{unit-bad, none-bad}

-- there are at least as many bytes as the first argument says, and that many at the head are ASCII
abbrev pub Ascii : ℕ → List ℕ → Type 0
Ascii zero bs = Unit {0}
Ascii (suc n) [] = ⊥
Ascii (suc n) (c ∷ cs) = (c < 128) × Ascii n cs

ascii-length : (n : ℕ) (bs : List ℕ) → Ascii n bs → n ≤ length bs
ascii-length zero bs h = omega arith
ascii-length (suc n) [] h = absurd h
ascii-length (suc n) (c ∷ cs) h = omega (arith, ascii-length n cs h.1)

ascii-utf8 : (n : ℕ) (bs : List ℕ) → Ascii n bs → IsUtf8 bs → IsUtf8 (drop n bs)
ascii-utf8 zero bs h u = u
ascii-utf8 (suc n) [] h u = absurd h
ascii-utf8 (suc n) (c ∷ cs) h u =
    ascii-utf8 n cs h.1
    (IsUtf8-drop (c ∷ cs) 1 u (IsCharBoundary-after_ascii (c ∷ cs) 0 u (omega arith) h.0))

-- an escape is ASCII

hex-ascii : (c d : ℕ) → hex_digit c ≡ Some d → c < 128
hex-ascii c d h = grind (arith, nat_tests)

some-and : (x : Option ℕ) (A B : Type 0) → A → IfSome x (λ n. B) → IfSome x (λ n. A × B)
some-and None A B a h = tt
some-and (Some n) A B a h = (a, h)

some-any : (b : Bool) (n : ℕ) → IfSome (if b then Some n else None) (λ m. Unit {0})
some-any true n = tt
some-any false n = tt

digit-ascii : (c k : ℕ) (cs : List ℕ) (o : Option ℕ) (f : ℕ → Option ℕ) → hex_digit c ≡ o
    → ((d : ℕ) → IfSome (f d) (λ n. Ascii k cs)) → IfSome (bind o f) (λ n. (c < 128) × Ascii k cs)
digit-ascii c k cs None f e h = tt
digit-ascii c k cs (Some d) f e h = some-and (f d) (c < 128) (Ascii k cs) (hex-ascii c d e) (h d)

number-ascii : (k n : ℕ) (cs : List ℕ) → IfSome (hex_number k n cs) (λ m. Ascii k cs)
unfolding hex_number
number-ascii zero n cs = some-any (scalar n) n
number-ascii (suc k) n [] = tt
number-ascii (suc k) n (c ∷ cs) =
    digit-ascii c k cs (hex_digit c) (λ d. hex_number k (16 * n + d) cs) refl
    (λ d. number-ascii k (16 * n + d) cs)

numbered-ascii : (c k : ℕ) (cs : List ℕ) (x : Option ℕ) → c < 128 → IfSome x (λ m. Ascii k cs)
    → IfSome (by_number k x) (λ e. Ascii e.len (c ∷ cs))
numbered-ascii c k cs None l h = tt
numbered-ascii c k cs (Some m) l h =
    subst (λ n. Ascii n (c ∷ cs)) (let q : suc k ≡ k + 1 = omega arith in q) (l, h)

escape-when : (b : Bool) (x y : Option Escape) (P : Escape → Type 0) → (b ≡ true → IfSome x P)
    → IfSome y P → IfSome (if b then x else y) P
escape-when true x y P h k = h refl
escape-when false x y P h k = k

same-ascii : (c d : ℕ) → (c == d) ≡ true → d < 128 → c < 128
same-ascii c d h l = grind (arith, nat_tests)

escape-ascii : (bs : List ℕ) → IfSome (escape bs) (λ e. Ascii e.len bs)
unfolding escape
escape-ascii [] = tt
escape-ascii (c ∷ cs) =
    let P : Escape → Type 0 = λ e. Ascii e.len (c ∷ cs) in
    escape-when (c == 110) _ _ P (λ h. (same-ascii c 110 h (omega arith), tt))
    (escape-when (c == 114) _ _ P (λ h. (same-ascii c 114 h (omega arith), tt))
    (escape-when (c == 116) _ _ P (λ h. (same-ascii c 116 h (omega arith), tt))
    (escape-when (c == 102) _ _ P (λ h. (same-ascii c 102 h (omega arith), tt))
    (escape-when (c == 34) _ _ P (λ h. (same-ascii c 34 h (omega arith), tt))
    (escape-when (c == 92) _ _ P (λ h. (same-ascii c 92 h (omega arith), tt))
    (escape-when (c == 120) _ _ P (λ h. numbered-ascii c 2 cs (hex_number 2 0 cs)
    (same-ascii c 120 h (omega arith)) (number-ascii 2 0 cs))
    (escape-when (c == 117) _ _ P (λ h. numbered-ascii c 4 cs (hex_number 4 0 cs)
    (same-ascii c 117 h (omega arith)) (number-ascii 4 0 cs))
    (escape-when (c == 85) _ None P (λ h. numbered-ascii c 8 cs (hex_number 8 0 cs)
    (same-ascii c 85 h (omega arith)) (number-ascii 8 0 cs))
    tt))))))))

this-ascii : (cs : List ℕ) (e : Escape) → Some e ≡ escape cs → Ascii e.len cs
this-ascii cs e h = subst (λ x. IfSome x (λ e. Ascii e.len cs)) (sym h) (escape-ascii cs)

-- an escape at the head

plain-skip : (n : ℕ) (bs : List ℕ) → unescaped_text n bs ≡ unescaped_text 0 (drop n bs)
unfolding unescaped_text
plain-skip zero bs = refl
plain-skip (suc n) [] = refl
plain-skip (suc n) (c ∷ cs) = plain-skip n cs

further-no : (n : ℕ) (x : Option ℕ) → further n x ≡ None → x ≡ None
further-no n None h = refl
further-no n (Some m) h = absurd (let z : ⊥ = cc in z)

unit-escape : (c : ℕ) (cs : List ℕ) (e : Escape) → c ≡ 92 → Some e ≡ escape cs
    → Some (e.len + 1) ≡ unit_len (c ∷ cs)
unit-escape c cs e h g = rw (h, sym g) refl

plain-escape : (c : ℕ) (cs : List ℕ) (e : Escape) → c ≡ 92 → Some e ≡ escape cs
    → unescaped_text 0 (c ∷ cs) ≡ encode_utf8 e.character ++ unescaped_text e.len cs
unfolding unescaped_text
plain-escape c cs e h g = rw (h, sym g) refl

pub escape-took : (bs old new : List ℕ) (e : Escape) → 0 < length bs → get_or bs 0 0 ≡ 92
    → IsInner bs → Some e ≡ escape (drop 1 bs) → new ≡ old ++ encode_utf8 e.character
    → Took bs old new (e.len + 1)
escape-took [] old new e l b h g n = absurd (omega arith)
escape-took (c ∷ cs) old new e l b h g n =
    let a : Ascii e.len cs = this-ascii cs e g in
    let q : suc e.len ≡ e.len + 1 = omega arith in
    let d : drop e.len cs ≡ drop (e.len + 1) (c ∷ cs) = ap (λ i. drop i (c ∷ cs)) q in
    record {
      some = omega arith;
      within = omega (arith, ascii-length e.len cs a);
      inner = record {
        utf8 = subst IsUtf8 d (ascii-utf8 (suc e.len) (c ∷ cs) (omega (arith, b), a) h.utf8);
        escapes =
            further-no (e.len + 1) _ (sym (unit-bad (c
            ∷ cs) (e.len + 1) (omega arith) l (unit-escape c cs e b g)) ∙ h.escapes);
      };
      grown = ap (λ t. t ++ unescaped_text 0 (drop (e.len + 1) (c ∷ cs))) n
          ∙ append_assoc old (encode_utf8 e.character) _
          ∙ ap (λ t. old ++ t) (ap (λ t. encode_utf8 e.character ++ unescaped_text 0 t) (sym d)
          ∙ ap (λ t. encode_utf8 e.character ++ t) (sym (plain-skip e.len cs))
          ∙ sym (plain-escape c cs e b g));
    }

unit-no : (c : ℕ) (cs : List ℕ) → c ≡ 92 → None ≡ escape cs → None ≡ unit_len (c ∷ cs)
unit-no c cs h g = rw (h, sym g) refl

pub escape-there : (bs : List ℕ) → 0 < length bs → get_or bs 0 0 ≡ 92 → IsInner bs
    → None ≡ escape (drop 1 bs) → ⊥
escape-there [] l b h g = omega arith
escape-there (c ∷ cs) l b h g =
    let e = none-bad (c ∷ cs) l (unit-no c cs b g) in let f = h.escapes in cc

-- a run of bytes without a backslash at the head

abbrev is_plain : ℕ → Bool
is_plain c = not (c == 92)

-- there are at least as many bytes as the first argument says, and that many at the head are no
-- backslash
abbrev Plain : ℕ → List ℕ → Type 0
Plain zero bs = Unit {0}
Plain (suc n) [] = ⊥
Plain (suc n) (c ∷ cs) = ((c == 92) ≡ false) × Plain n cs

plain-run : (n : ℕ) (bs : List ℕ) → Plain n bs → unescaped_text 0 bs ≡ take n bs
    ++ unescaped_text 0 (drop n bs)
unfolding unescaped_text
plain-run zero bs h = refl
plain-run (suc n) [] h = absurd h
plain-run (suc n) (c ∷ cs) h = rw h.0 (ap (λ t. c ∷ t) (plain-run n cs h.1))

bad-run : (n : ℕ) (bs : List ℕ) → Plain n bs → bad_at 0 bs ≡ None → bad_at 0 (drop n bs) ≡ None
unfolding bad_at
bad-run zero bs h e = e
bad-run (suc n) [] h e = absurd h
bad-run (suc n) (c ∷ cs) h e =
    bad-run n cs h.1 (further-no 1 (bad_at 0 cs) (sym (rw h.0 refl) ∙ e))

-- the first backslash, or the end, comes after `n` bytes
pub record Run (n : ℕ) (bs : List ℕ) : Type 0 where
  pub plain : Plain n bs
  pub within : n ≤ length bs
  pub stops : n < length bs → get_or bs n 0 ≡ 92

run-if : (c : ℕ) (cs : List ℕ) (b : Bool) → (c == 92) ≡ b → Run (length (take_while is_plain cs)) cs
    → Run (length (cond (not b) (c ∷ take_while is_plain cs) [])) (c ∷ cs)
run-if c cs true e r = record {
  plain = tt;
  within = omega arith;
  stops = λ l. grind (arith, nat_tests);
}
run-if c cs false e r = record {
  plain = (e, r.plain);
  within = omega (arith, r.within);
  stops = λ l. r.stops (omega arith);
}

run-of : (bs : List ℕ) → Run (length (take_while is_plain bs)) bs
run-of [] = record { plain = tt; within = omega arith; stops = λ l. absurd (omega arith) }
run-of (c ∷ cs) =
    subst (λ l. Run (length l) (c ∷ cs)) (sym (take_while-cons is_plain c cs))
    (run-if c cs (c == 92) refl (run-of cs))

pub run-at : (bs : List ℕ) → Run (run_len bs) bs
run-at bs = run-of bs

boundary-if : (bs : List ℕ) (n : ℕ) → n ≤ length bs → (n < length bs → get_or bs n 0 ≡ 92)
    → IsCharBoundary bs n
boundary-if bs n l h = (l, λ m g. absurd (let e : get_or bs n 0 ≡ 92 = h m in omega arith))

pub run-utf8 : (bs : List ℕ) → IsInner bs → IsUtf8 (take (run_len bs) bs)
run-utf8 bs h =
    let r = run-at bs in
    IsUtf8-take bs (run_len bs) h.utf8 (boundary-if bs (run_len bs) r.within r.stops)

run-some : (n : ℕ) (bs : List ℕ) → Run n bs → 0 < length bs → (get_or bs 0 0 ≡ 92 → ⊥) → 1 ≤ n
run-some zero bs r l h = absurd (h (r.stops l))
run-some (suc n) bs r l h = omega arith

pub run-took : (bs old new : List ℕ) → 0 < length bs → (get_or bs 0 0 ≡ 92 → ⊥) → IsInner bs
    → new ≡ old ++ take (run_len bs) bs → Took bs old new (run_len bs)
run-took bs old new l b h n =
    let m : ℕ = run_len bs in
    let r : Run m bs = run-at bs in
    record {
      some = run-some m bs r l b;
      within = r.within;
      inner = record {
        utf8 = IsUtf8-drop bs m h.utf8 (boundary-if bs m r.within r.stops);
        escapes = bad-run m bs r.plain h.escapes;
      };
      grown = ap (λ t. t ++ unescaped_text 0 (drop m bs)) n ∙ append_assoc old (take m bs) _
          ∙ ap (λ t. old ++ t) (sym (plain-run m bs r.plain));
    }

-- at the end of the bytes nothing is left to append
pub plain-past : (t : List ℕ) (at : ℕ) (bs : List ℕ) → length bs ≤ at
    → t ≡ t ++ unescaped_text 0 (drop at bs)
unfolding unescaped_text
plain-past t at bs h = sym (ap (λ l. t ++ unescaped_text 0 l) (drop-past at bs h) ∙ append-nil t)
