-- Lengths that are found byte by byte: up to the end of a comment, and up to the end of a string.
use Rattle.std.proofs.Common.{◌≡◌, ◌≤◌, ◌<◌, ◌+◌, ℕ, zero, suc, Bool, true, false, List, [], ◌∷◌}
use Rattle.std.proofs.Common.{length, drop, get_or, refl, ap, sym, ◌∙◌, arith, add-one, drop-cons}
use Rattle.std.proofs.Common.{◌==◌, if◌then◌else◌, Option, Some, None}
use Rattle.std.proofs.lemmas.List.{drop-drop}
use Rattle.std.proofs.lemmas.Bool.Decides.{nat_tests}
use Rattle.kore_lex.specs.Escapes.{further}
use Rattle.kore_lex.specs.Pieces.{ends_block, block_len, passed, quote_len}

pub further-none : (x : Option ℕ) → further 0 x ≡ x
further-none None = refl
further-none (Some m) = ap Some (let e : 0 + m ≡ m = omega arith in e)

pub further-sum : (m n k : ℕ) (x : Option ℕ) → m + n ≡ k → further m (further n x) ≡ further k x
further-sum m n k None h = refl
further-sum m n k (Some i) h = ap Some (let e : m + (n + i) ≡ k + i = omega arith in e)

pub drop-past : (n : ℕ) (bs : List ℕ) → length bs ≤ n → drop n bs ≡ []
drop-past zero [] h = refl
drop-past zero (c ∷ cs) h = absurd (omega arith)
drop-past (suc n) [] h = refl
drop-past (suc n) (c ∷ cs) h = drop-past n cs (omega arith)

pub drop-here : (n : ℕ) (bs : List ℕ) → n < length bs → drop n bs ≡ get_or bs n 0 ∷ drop (n + 1) bs
drop-here n bs h = rw (add-one, drop-cons bs n 0)

-- the end of a comment

pub block-past : (n : ℕ) (bs : List ℕ) → length bs ≤ n + 1 → block_len (drop n bs) ≡ None
unfolding block_len
block-past zero [] h = refl
block-past zero (c ∷ []) h = refl
block-past zero (c ∷ d ∷ cs) h = absurd (omega arith)
block-past (suc n) [] h = refl
block-past (suc n) (c ∷ cs) h = block-past n cs (omega arith)

pub block-here : (n : ℕ) (bs : List ℕ) → n + 1 < length bs
    → ends_block (get_or bs n 0) (get_or bs (n + 1) 0) ≡ true → block_len (drop n bs) ≡ Some 2
unfolding block_len
block-here zero [] h e = absurd (omega arith)
block-here zero (c ∷ []) h e = absurd (omega arith)
block-here zero (c ∷ d ∷ cs) h e = rw e refl
block-here (suc n) [] h e = absurd (omega arith)
block-here (suc n) (c ∷ cs) h e =
    block-here n cs (omega arith) (ap (λ i. ends_block (get_or cs n 0) (get_or (c ∷ cs) i 0))
    (let q : suc (n + 1) ≡ suc n + 1 = omega arith in q) ∙ e)

pub block-pass : (n : ℕ) (bs : List ℕ) → n + 1 < length bs
    → ends_block (get_or bs n 0) (get_or bs (n + 1) 0) ≡ false
    → block_len (drop n bs) ≡ further 1 (block_len (drop (n + 1) bs))
unfolding block_len
block-pass zero [] h e = absurd (omega arith)
block-pass zero (c ∷ []) h e = absurd (omega arith)
block-pass zero (c ∷ d ∷ cs) h e = rw e refl
block-pass (suc n) [] h e = absurd (omega arith)
block-pass (suc n) (c ∷ cs) h e =
    block-pass n cs (omega arith) (ap (λ i. ends_block (get_or cs n 0) (get_or (c ∷ cs) i 0))
    (let q : suc (n + 1) ≡ suc n + 1 = omega arith in q) ∙ e)
    ∙ ap (λ i. further 1 (block_len (drop i (c ∷ cs))))
    (let q : suc (n + 1) ≡ suc n + 1 = omega arith in q)

-- the end of a string

passed-if : (b : Bool) → (if b then 1 else 0) ≤ 1
passed-if true = omega arith
passed-if false = omega arith

pub passed-small : (c : ℕ) → passed c ≤ 1
passed-small c = passed-if (c == 92)

quote-skip : (n : ℕ) (bs : List ℕ) → quote_len n bs ≡ further n (quote_len 0 (drop n bs))
unfolding quote_len
quote-skip zero bs = sym (further-none (quote_len 0 bs))
quote-skip (suc n) [] = refl
quote-skip (suc n) (c ∷ cs) =
    ap (further 1) (quote-skip n cs)
    ∙ further-sum 1 n (suc n) (quote_len 0 (drop n cs)) (omega arith)

quote-cons : (c : ℕ) (cs : List ℕ) → (c ≡ 34 → ⊥)
    → quote_len 0 (c ∷ cs) ≡ further 1 (quote_len (passed c) cs)
unfolding quote_len
quote-cons c cs h = let e : (c == 34) ≡ false = grind (arith, nat_tests) in rw e refl

pub quote-past : (n : ℕ) (bs : List ℕ) → length bs ≤ n → quote_len 0 (drop n bs) ≡ None
unfolding quote_len
quote-past n bs h = ap (quote_len 0) (drop-past n bs h)

pub quote-here : (n : ℕ) (bs : List ℕ) → n < length bs → get_or bs n 0 ≡ 34
    → quote_len 0 (drop n bs) ≡ Some 1
unfolding quote_len
quote-here n bs h e =
    ap (quote_len 0) (drop-here n bs h) ∙ ap (λ c. quote_len 0 (c ∷ drop (n + 1) bs)) e

pub quote-pass : (n m : ℕ) (bs : List ℕ) → n < length bs → (get_or bs n 0 ≡ 34 → ⊥)
    → m ≡ n + (passed (get_or bs n 0) + 1)
    → further n (quote_len 0 (drop n bs)) ≡ further m (quote_len 0 (drop m bs))
quote-pass n m bs h e q =
    let p : ℕ = passed (get_or bs n 0) in
    let a : quote_len 0 (drop n bs) ≡ further 1 (quote_len p (drop (n + 1) bs)) =
    ap (quote_len 0) (drop-here n bs h) ∙ quote-cons (get_or bs n 0) (drop (n + 1) bs) e in
    let b : quote_len p (drop (n + 1) bs) ≡ further p (quote_len 0 (drop m bs)) =
    quote-skip p (drop (n + 1) bs)
    ∙ ap (λ l. further p (quote_len 0 l)) (drop-drop p (n + 1) bs
    ∙ ap (λ i. drop i bs) (let z : n + 1 + p ≡ m = omega arith in z)) in
    ap (further n) (a ∙ ap (further 1) b ∙ further-sum 1 p (1 + p) (quote_len 0 (drop m bs)) refl)
    ∙ further-sum n (1 + p) m (quote_len 0 (drop m bs)) (omega arith)
