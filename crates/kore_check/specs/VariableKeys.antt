-- The order of variables by name and sort.
use Rattle.std.specs.Prelude.{◌≡◌, ℕ, List, String, string_bytes, IsTrue}
use Rattle.std.proofs.Common.{refl, ◌∙◌}
use Rattle.std.specs.Cmp.{IsTotalOrder, on_total, then_total, nat_cmp_total}
use Rattle.std.specs.Cmp.Lexicographic.{slice_cmp, nat_list_cmp_total}
use Rattle.std.specs.Ordering.{nat_cmp, ordering_then, is_le}
use Rattle.std.specs.declared.cmp.Ordering.{Ordering}
use Rattle.std.specs.declared.cmp.Ordering.TheVariants.{Less, Equal, Greater}
use Rattle.std.specs.Global.{Global}

-- a key of the map: a name and the number of a sort
abbrev pub key_of : String Global × ℕ → List ℕ × ℕ
key_of k = (string_bytes k.0, k.1)

-- by name, and for the same name by sort
abbrev pub key_cmp : List ℕ × ℕ → List ℕ × ℕ → Ordering
key_cmp a b = ordering_then (slice_cmp nat_cmp a.0 b.0) (nat_cmp a.1 b.1)

pub key_cmp_total : IsTotalOrder key_cmp
key_cmp_total = then_total (on_total (λ (k : List ℕ × ℕ). k.0) nat_list_cmp_total)
    (on_total (λ (k : List ℕ × ℕ). k.1) nat_cmp_total)

-- a key that is not greater than y is less than each key that is greater than y
pub key_cmp-below : (x y z : List ℕ × ℕ) → IsTrue (is_le (key_cmp x y)) → key_cmp y z ≡ Less
    → key_cmp x z ≡ Less
key_cmp-below x y z le lt = by_case (key_cmp x y) refl where
  by_case : (r : Ordering) → key_cmp x y ≡ r → key_cmp x z ≡ Less
  by_case Less e = key_cmp_total.trans x y z e lt
  by_case Equal e = key_cmp_total.congr x y z e ∙ lt
  by_case Greater e = absurd (let above : ⊥ = cc in above)
