-- The words of a set of sorts, and their bits.
use Rattle.std.proofs.Common.{◌≡◌, ◌≢◌, ℕ, zero, suc, ◌<◌, ◌≤◌, ◌⊎◌, inl, inr, true, false, List}
use Rattle.std.proofs.Common.{length, refl, sym, ◌∙◌, ap, arith, w64}
use Rattle.std.proofs.Math.ListN.{set}
use Rattle.std.specs.Prelude.{◌==◌, ◌||◌, ◌/◌, ◌%◌, ◌*◌, ◌^◌, max, bit_or}
use Rattle.std.specs.Int.{bit_at}
use Rattle.std.specs.Int.Bits.{or_zero_r}
use Rattle.std.proofs.lemmas.Bool.{cases_lt}
use Rattle.std.proofs.lemmas.Bool.Decides.{eqb_tells}
use Rattle.std.proofs.lemmas.List.{get_or-set_other}
use Rattle.std.proofs.lemmas.Grind.{get_or-set_at}
use Rattle.std.proofs.lemmas.Nat.Bits.{bit_at_or, bit_at-lt, bit_at_set_same, bit_at_set_other}
use Rattle.rule_core.specs.SubsortFields.{word_at, has}

-- the greater of two bits is 1 if and only if one of them is 1
greater_bit : (x y : ℕ) → x < 2 → y < 2 → (max x y == 1) ≡ (x == 1 || y == 1)
greater_bit zero zero p q = refl
greater_bit zero (suc zero) p q = refl
greater_bit (suc zero) zero p q = refl
greater_bit (suc zero) (suc zero) p q = refl
greater_bit (suc (suc x)) y p q = absurd (omega (arith, p))
greater_bit x (suc (suc y)) p q = absurd (omega (arith, q))

-- if the words of a set are the joined words of two others, its members are theirs
pub has_joined : (all one other : List ℕ)
    → ((k : ℕ) → word_at all k ≡ bit_or (word_at one k) (word_at other k)) → (y : ℕ)
    → has all y ≡ (has one y || has other y)
has_joined all one other words y =
    rw (words (y / 64), bit_at_or (word_at one (y / 64)) (word_at other (y / 64)) (y % 64))
    (greater_bit _ _ (bit_at-lt _ (y % 64)) (bit_at-lt _ (y % 64)))

pub joined_none : (one other : ℕ) → other ≡ 0 → one ≡ bit_or one other
joined_none one other none = rw none (sym (or_zero_r one))

-- all words are joined, if they are joined up to an index and the other set has only zeros from
-- there on
pub joined_words : (all one other : List ℕ) (i : ℕ)
    → ((k : ℕ) → k < i → word_at all k ≡ bit_or (word_at one k) (word_at other k))
    → ((k : ℕ) → i ≤ k → word_at all k ≡ word_at one k) → ((k : ℕ) → i ≤ k → word_at other k ≡ 0)
    → (k : ℕ) → word_at all k ≡ bit_or (word_at one k) (word_at other k)
joined_words all one other i done rest none k = by_case (cases_lt k i) where
  by_case : (k < i) ⊎ (i ≤ k) → word_at all k ≡ bit_or (word_at one k) (word_at other k)
  by_case (inl lt) = done k lt
  by_case (inr le) = rest k le ∙ joined_none _ _ (none k le)

-- a set to which one sort was added
pub has_inserted : (old : List ℕ) (b word y : ℕ) → b / 64 < length old → word ≡ word_at old (b / 64)
    → has (set old (b / 64) (bit_or word (1 * 2 ^ (b % 64) % 2 ^ 64))) y ≡ (b == y || has old y)
has_inserted old b word y lt read = by_sort (eqb_tells b y) where
  new : ℕ
  new = bit_or word (1 * 2 ^ (b % 64) % 2 ^ 64)

  within : b % 64 < 64
  within = omega arith

  other : y ≢ b → has (set old (b / 64) new) y ≡ has old y
  other n = by_word (eqb_tells (y / 64) (b / 64)) where
    by_word : (((y / 64 == b / 64) ≡ true) × (y / 64 ≡ b / 64))
        ⊎ (((y / 64 == b / 64) ≡ false) × (y / 64 ≢ b / 64))
        → has (set old (b / 64) new) y ≡ has old y
    by_word (inl (t, e)) =
        ap (λ w. bit_at w (y % 64) == 1) (get_or-set_at old (b / 64) (y / 64) new 0 e lt)
        ∙ ap (λ t. t == 1) (bit_at_set_other w64 word (b % 64) within (y % 64)
        (λ same. n (omega (arith, same, e))))
        ∙ ap (λ w. bit_at w (y % 64) == 1) (read ∙ ap (λ k. word_at old k) (sym e))
    by_word (inr (t, e)) =
        ap (λ w. bit_at w (y % 64) == 1) (get_or-set_other old (b / 64) (y / 64) new 0 e)

  by_sort : (((b == y) ≡ true) × (b ≡ y)) ⊎ (((b == y) ≡ false) × (b ≢ y))
      → has (set old (b / 64) new) y ≡ (b == y || has old y)
  by_sort (inl (t, e)) =
      let same : y / 64 ≡ b / 64 = omega (arith, e) in
      let bit : y % 64 ≡ b % 64 = omega (arith, e) in
      rw (
        t,
        get_or-set_at old (b / 64) (y / 64) new 0 same lt,
        bit,
        bit_at_set_same w64 word (b % 64) within,
      ) refl
  by_sort (inr (t, n)) = rw t (other (λ e. n (sym e)))
