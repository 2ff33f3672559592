-- Escapes: their numbers digit by digit, and how many bytes they take.
use Rattle.std.proofs.Common.{◌≡◌, ◌≤◌, ◌<◌, ◌+◌, ◌*◌, ◌-◌, ℕ, zero, suc, Bool, true, false, List}
use Rattle.std.proofs.Common.{[], ◌∷◌, length, drop, get_or, refl, ap, sym, ◌∙◌, arith, length-drop}
use Rattle.std.proofs.Common.{◌==◌, if◌then◌else◌, Option, Some, None, Result, Ok, Err, not}
use Rattle.std.proofs.lemmas.List.{drop-drop}
use Rattle.std.proofs.lemmas.Bool.Decides.{nat_tests}
use Rattle.std.proofs.lemmas.Str.{IsUtf8-from_is_utf8, IsUtf8-drop, IsCharBoundary-after_ascii}
use Rattle.std.proofs.lemmas.Str.{is_utf8-from_IsUtf8}
use Rattle.std.specs.Result.{MatchResult, is_err}
use Rattle.std.specs.Str.{IsUtf8, is_utf8}
use Rattle.std.specs.Option.{SomeIff}
use Rattle.std.specs.Char.{IsScalar}
use lib.Utf8.{scalar}
use Rattle.kore_lex.specs.declared.escape.Escape.{Escape}
use Rattle.kore_lex.specs.Escapes.{hex_digit, bind, hex_number, escape, further, on_escape, bad_at}
use Rattle.kore_lex.specs.Steps.{unit_len}
use Rattle.kore_lex.proofs.Runs.{further-none, further-sum, drop-past, drop-here}

-- a number digit by digit

pub hex-past : (k n i : ℕ) (bs : List ℕ) → length bs ≤ i → hex_number (suc k) n (drop i bs) ≡ None
unfolding hex_number
hex-past k n i bs h = ap (hex_number (suc k) n) (drop-past i bs h)

pub hex-here : (k n i : ℕ) (bs : List ℕ) → i < length bs
    → hex_number (suc k) n (drop i bs)
    ≡ bind (hex_digit (get_or bs i 0)) (λ d. hex_number k (16 * n + d) (drop (i + 1) bs))
unfolding hex_number
hex-here k n i bs h = ap (hex_number (suc k) n) (drop-here i bs h)

no-text-if : (bs : List ℕ) (b : Bool) → is_utf8 bs ≡ b → (IsUtf8 bs → ⊥) → b ≡ false
no-text-if bs true e h = absurd (h (IsUtf8-from_is_utf8 bs e))
no-text-if bs false e h = refl

no-text : (bs : List ℕ) → (IsUtf8 bs → ⊥) → is_utf8 bs ≡ false
no-text bs h = no-text-if bs (is_utf8 bs) refl h

-- the test of the result of `from_utf8`
pub text-if-ok : {T E : Type 0} (P : T → Type 0) (Q : E → Type 0) (bs : List ℕ) (r : Result T E)
    (b : Bool) → b ≡ is_err r
    → MatchResult r (λ t. P t × IsUtf8 bs) (λ e. (IsUtf8 bs → ⊥) × Q e) → is_utf8 bs ≡ not b
text-if-ok P Q bs (Ok t) b e h = is_utf8-from_IsUtf8 bs h.1 ∙ sym (ap not e)
text-if-ok P Q bs (Err x) b e h = no-text bs h.0 ∙ sym (ap not e)

not-scalar : (n : ℕ) (b : Bool) → scalar n ≡ b → (IsScalar n → ⊥)
    → None ≡ (if b then Some n else None)
not-scalar n true e h = absurd (h e)
not-scalar n false e h = refl

scalar-is : (n : ℕ) (x : Option ℕ) → SomeIff x (IsScalar n) n
    → x ≡ (if scalar n then Some n else None)
scalar-is n None h = not-scalar n (scalar n) refl h
scalar-is n (Some m) h = rw h.0 (ap Some h.1)

above : (n : ℕ) → 1114111 < n → scalar n ≡ false
above n h = grind (arith, nat_tests)

bind-none : (o : Option ℕ) (f : ℕ → Option ℕ) → ((d : ℕ) → f d ≡ None) → bind o f ≡ None
bind-none None f h = refl
bind-none (Some d) f h = h d

pub hex-above : (k n : ℕ) (bs : List ℕ) → 1114111 < n → hex_number k n bs ≡ None
unfolding hex_number
hex-above zero n bs h = rw (above n h) refl
hex-above (suc k) n [] h = refl
hex-above (suc k) n (c ∷ cs) h =
    bind-none (hex_digit c) (λ d. hex_number k (16 * n + d) cs)
    (λ d. hex-above k (16 * n + d) cs (omega arith))

-- the number is read from digit `i` on, and `r` is the result for the whole

pub past-is : (k n i : ℕ) (bs : List ℕ) (r : Option ℕ) → i < k → length bs ≤ i
    → hex_number (k - i) n (drop i bs) ≡ r → None ≡ r
past-is k n i bs r l h e =
    let m : ℕ = k - i - 1 in
    let q : suc m ≡ k - i = omega arith in
    sym (hex-past m n i bs h) ∙ ap (λ j. hex_number j n (drop i bs)) q ∙ e

pub digit-is : (k n i : ℕ) (bs : List ℕ) (r : Option ℕ) → i < k → i < length bs
    → hex_number (k - i) n (drop i bs) ≡ r
    → bind (hex_digit (get_or bs i 0))
    (λ d. hex_number (k - (i + 1)) (16 * n + d) (drop (i + 1) bs)) ≡ r
digit-is k n i bs r l h e =
    let m : ℕ = k - (i + 1) in
    let q : suc m ≡ k - i = omega arith in
    sym (hex-here m n i bs h) ∙ ap (λ j. hex_number j n (drop i bs)) q ∙ e

pub none-is : (k n i : ℕ) (bs : List ℕ) (r : Option ℕ) → i < k → i < length bs
    → hex_number (k - i) n (drop i bs) ≡ r → None ≡ hex_digit (get_or bs i 0) → None ≡ r
none-is k n i bs r l h e d =
    ap (λ o. bind o (λ d. hex_number (k - (i + 1)) (16 * n + d) (drop (i + 1) bs))) d
    ∙ digit-is k n i bs r l h e

pub some-is : (k n i d : ℕ) (bs : List ℕ) (r : Option ℕ) → i < k → i < length bs
    → hex_number (k - i) n (drop i bs) ≡ r → Some d ≡ hex_digit (get_or bs i 0)
    → hex_number (k - (i + 1)) (16 * n + d) (drop (i + 1) bs) ≡ r
some-is k n i d bs r l h e s =
    ap (λ o. bind o (λ d. hex_number (k - (i + 1)) (16 * n + d) (drop (i + 1) bs))) s
    ∙ digit-is k n i bs r l h e

pub end-is : (k n i : ℕ) (bs : List ℕ) (r x : Option ℕ) → k ≤ i
    → hex_number (k - i) n (drop i bs) ≡ r → SomeIff x (IsScalar n) n → x ≡ r
unfolding hex_number
end-is k n i bs r x l e s =
    let q : 0 ≡ k - i = omega arith in
    scalar-is n x s ∙ ap (λ j. hex_number j n (drop i bs)) q ∙ e

pub digit-small : (c d : ℕ) → Some d ≡ hex_digit c → d < 16
digit-small c d h = grind (arith, nat_tests)

-- there are at least as many bytes as the first argument says, and that many at the head are ASCII
abbrev pub Ascii : ℕ → List ℕ → Type 0
Ascii zero bs = Unit {0}
Ascii (suc n) [] = ⊥
Ascii (suc n) (c ∷ cs) = (c < 128) × Ascii n cs

pub ascii-length : (n : ℕ) (bs : List ℕ) → Ascii n bs → n ≤ length bs
ascii-length zero bs h = omega arith
ascii-length (suc n) [] h = absurd h
ascii-length (suc n) (c ∷ cs) h = omega (arith, ascii-length n cs h.1)

pub ascii-utf8 : (n : ℕ) (bs : List ℕ) → Ascii n bs → IsUtf8 bs → IsUtf8 (drop n bs)
ascii-utf8 zero bs h u = u
ascii-utf8 (suc n) [] h u = absurd h
ascii-utf8 (suc n) (c ∷ cs) h u =
    ascii-utf8 n cs h.1
    (IsUtf8-drop (c ∷ cs) 1 u (IsCharBoundary-after_ascii (c ∷ cs) 0 u (omega arith) h.0))

hex-ascii : (c d : ℕ) → hex_digit c ≡ Some d → c < 128
hex-ascii c d h = grind (arith, nat_tests)

-- the unit at the head inside a string

unit-cons : (c : ℕ) (cs : List ℕ) (b : Bool) (x : Option Escape) (k : ℕ)
    → Some k ≡ (if b then on_escape None (λ n. Some (n + 1)) x else Some 1)
    → (if b then on_escape (Some 0) (λ n. further 1 (bad_at n cs)) x else further 1 (bad_at 0 cs))
    ≡ further 1 (bad_at (k - 1) cs)
unit-cons c cs true None k h = absurd (let z : ⊥ = cc in z)
unit-cons c cs true (Some e) k h =
    let q : k ≡ e.len + 1 = cc in
    ap (λ n. further 1 (bad_at n cs)) (let z : e.len ≡ k - 1 = omega arith in z)
unit-cons c cs false x k h =
    let q : k ≡ 1 = cc in ap (λ n. further 1 (bad_at n cs)) (let z : 0 ≡ k - 1 = omega arith in z)

bad-skip : (n : ℕ) (bs : List ℕ) → bad_at n bs ≡ further n (bad_at 0 (drop n bs))
unfolding bad_at
bad-skip zero bs = sym (further-none (bad_at 0 bs))
bad-skip (suc n) [] = refl
bad-skip (suc n) (c ∷ cs) =
    ap (further 1) (bad-skip n cs) ∙ further-sum 1 n (suc n) (bad_at 0 (drop n cs)) (omega arith)

pub unit-bad : (bs : List ℕ) (k : ℕ) → 1 ≤ k → 0 < length bs → Some k ≡ unit_len bs
    → bad_at 0 bs ≡ further k (bad_at 0 (drop k bs))
unfolding bad_at
unit-bad [] k l m h = absurd (omega arith)
unit-bad (c ∷ cs) zero l m h = absurd (omega arith)
unit-bad (c ∷ cs) (suc k) l m h =
    unit-cons c cs (c == 92) (escape cs) (suc k) h
    ∙ ap (λ n. further 1 (bad_at n cs)) (let z : suc k - 1 ≡ k = omega arith in z)
    ∙ ap (further 1) (bad-skip k cs) ∙ further-sum 1 k (suc k) (bad_at 0 (drop k cs)) (omega arith)

none-cons : (c : ℕ) (cs : List ℕ) (b : Bool) (x : Option Escape)
    → None ≡ (if b then on_escape None (λ n. Some (n + 1)) x else Some 1)
    → (if b then on_escape (Some 0) (λ n. further 1 (bad_at n cs)) x else further 1 (bad_at 0 cs))
    ≡ Some 0
none-cons c cs true None h = refl
none-cons c cs true (Some e) h = absurd (let z : ⊥ = cc in z)
none-cons c cs false x h = absurd (let z : ⊥ = cc in z)

pub none-bad : (bs : List ℕ) → 0 < length bs → None ≡ unit_len bs → bad_at 0 bs ≡ Some 0
unfolding bad_at
none-bad [] m h = absurd (omega arith)
none-bad (c ∷ cs) m h = none-cons c cs (c == 92) (escape cs) h

-- the loop that looks for a bad escape

pub unit-pass : (at k : ℕ) (bs : List ℕ) → at < length bs → 1 ≤ k → Some k ≡ unit_len (drop at bs)
    → further at (bad_at 0 (drop at bs)) ≡ further (at + k) (bad_at 0 (drop (at + k) bs))
unit-pass at k bs l m h =
    ap (further at) (unit-bad (drop at bs) k m (omega (arith, length-drop at bs)) h)
    ∙ further-sum at k (at + k) (bad_at 0 (drop k (drop at bs))) refl
    ∙ ap (λ l. further (at + k) (bad_at 0 l)) (drop-drop k at bs)

pub unit-none : (at : ℕ) (bs : List ℕ) → at < length bs → None ≡ unit_len (drop at bs)
    → further at (bad_at 0 (drop at bs)) ≡ Some at
unit-none at bs l h =
    ap (further at) (none-bad (drop at bs) (omega (arith, length-drop at bs)) h)
    ∙ ap Some (let z : at + 0 ≡ at = omega arith in z)

pub bad-past : (at : ℕ) (bs : List ℕ) → length bs ≤ at → further at (bad_at 0 (drop at bs)) ≡ None
unfolding bad_at
bad-past at bs h = ap (λ l. further at (bad_at 0 l)) (drop-past at bs h)
