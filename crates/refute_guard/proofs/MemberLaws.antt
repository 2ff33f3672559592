-- Members of a conjunction, found by going along it.
use Rattle.std.proofs.Common.{◌≡◌, ◌<◌, ◌≤◌, ◌+◌, ℕ, List, [], ◌∷◌, Some, length, drop}
use Rattle.std.proofs.Common.{get_or, slice_get, sym, ◌∙◌, ap, subst, arith}
use Rattle.std.proofs.lemmas.List.{drop_more}
use Rattle.std.proofs.lemmas.Option.{get_or_from_slice_get, slice_get_within}
use Rattle.ml_pat.specs.Patterns.{Pattern, imp, and, not}
use Rattle.ml_kernel.specs.Theorems.{Theorem}
use Rattle.ml_derived.specs.Scopes.{IsOver, StaysWithin}
use Rattle.refute_guard.specs.Implications.{all_of}
use Rattle.refute_body.proofs.Shapes.{imp_left, imp_right, and_left, and_right, not_same}

-- the theorem says that the members from this place on hold
abbrev pub IsFrom : Pattern → ℕ → Theorem → Type 0
IsFrom b i t =
    ((c : Pattern) (ms : List Pattern) → b ≡ and c (all_of ms) → i ≤ length ms
    → t.conclusion ≡ imp b (all_of (drop i ms)))
    × StaysWithin (b ∷ []) [] t

-- the member at a place, in front of those behind it
pub front : (ms : List Pattern) (i : ℕ) (d : Pattern) → i < length ms
    → all_of (drop i ms) ≡ and (get_or ms i d) (all_of (drop (i + 1) ms))
front ms i d low = ap all_of (drop_more ms i d low)

pub from_next : (b : Pattern) (i : ℕ) (t made : Theorem) → IsFrom b i t
    → ((b' m r : Pattern) → t.conclusion ≡ imp b' (and m r) → made.conclusion ≡ imp b' r)
    → StaysWithin [] (t ∷ []) made → IsFrom b (i + 1) made
from_next b i t made sofar says stays = (
  λ c ms is low.
      let inside : i < length ms = omega (arith, low) in
      says b (get_or ms i c) (all_of (drop (i + 1) ms))
      (sofar.0 c ms is (omega (arith, low)) ∙ ap (imp b) (front ms i c inside)),
  λ s hp ht. stays s tt (sofar.1 s hp tt, tt),
)

pub member_there : (ms : List Pattern) (i : ℕ) (d m : Pattern) → slice_get ms i ≡ Some m
    → get_or ms i d ≡ m
member_there ms i d m there = get_or_from_slice_get ms i m d there

pub within : (ms : List Pattern) (i : ℕ) (m : Pattern) → slice_get ms i ≡ Some m → i < length ms
within ms i m there = slice_get_within ms i m there

-- nothing is passed over yet
pub from_first : (b c rest : Pattern) (t : Theorem) → b ≡ and c rest → t.conclusion ≡ imp (and c rest) rest
    → StaysWithin (c ∷ rest ∷ []) [] t → IsFrom b 0 t
from_first b c rest t is says stays = (
  λ c' ms split low.
      let same : rest ≡ all_of ms = and_right c rest c' (all_of ms) (sym is ∙ split) in
      says ∙ ap (λ (p : Pattern). imp p rest) (sym is) ∙ ap (imp b) same,
  λ s hp ht.
      let over : IsOver s (and c rest) = subst (IsOver s) is hp.0 in
      stays s (over.0, (over.1, tt)) tt,
)

-- what is denied, as it was read
pub denied_is : (c x y z g q t : Pattern) → c ≡ imp g (not (and q t)) → c ≡ imp x y → y ≡ not z
    → z ≡ and q t
denied_is c x y z g q t is split below =
    not_same z (and q t) (sym below ∙ imp_right x y g (not (and q t)) (sym split ∙ is))

-- the member at a place, as it was read
pub member_is : (c x y m o b : Pattern) (ms : List Pattern) (i : ℕ) (d n : Pattern)
    → c ≡ imp b (and (get_or ms i d) o) → c ≡ imp x y → (r : Pattern) → y ≡ and m r
    → slice_get ms i ≡ Some n → (x ≡ b) × (m ≡ n)
member_is c x y m o b ms i d n is split r parts there = (
  imp_left x y b (and (get_or ms i d) o) (sym split ∙ is),
  and_left m r (get_or ms i d) o
      (sym parts ∙ imp_right x y b (and (get_or ms i d) o) (sym split ∙ is))
      ∙ member_there ms i d n there,
)

-- what the rule rests on, as it was read
pub inverted_is : (c x y k w h q e : Pattern) → c ≡ imp (and h q) e → c ≡ imp x y → x ≡ and k w
    → w ≡ q
inverted_is c x y k w h q e is split parts =
    and_right k w h q (sym parts ∙ imp_left x y (and h q) e (sym split ∙ is))
