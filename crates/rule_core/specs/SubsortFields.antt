-- The stored pairs, and the tables that are stored with them.
use Rattle.std.specs.Prelude.{◌≡◌, ◌↔◌, ◌==◌, ◌||◌, ◌/◌, ◌%◌, ℕ, Bool, IsTrue, List, Vec, [], map}
use Rattle.std.specs.Prelude.{Contains, slice_index_or}
use Rattle.std.specs.Global.{Global}
use Rattle.std.specs.Int.{bit_at}
use Rattle.term_core.specs.declared.ids.SortId.{SortId}
use Rattle.rule_core.specs.Subsorts.{HasNoCycle, is_below}
use Rattle.rule_core.specs.declared.subsorts.Subsorts.TheInside.{Inside}

-- pairs of sorts, by number
abbrev pub sort_pairs : List (SortId × SortId) → List (ℕ × ℕ)
sort_pairs pairs = map (λ (p : SortId × SortId). (p.0.0, p.1.0)) pairs

abbrev pub pairs_of : Inside → List (ℕ × ℕ)
pairs_of a = sort_pairs a.pairs.items

-- the word of a set at this index, or 0 past its end
abbrev pub word_at : List ℕ → ℕ → ℕ
word_at set k = slice_index_or set k 0

-- the set contains the sort with this number: a bit of one of its words
abbrev pub has : List ℕ → ℕ → Bool
has set s = bit_at (word_at set (s / 64)) (s % 64) == 1

-- the set of the sort with this number
abbrev pub set_at : List (Vec ℕ Global) → ℕ → List ℕ
set_at sets a = slice_index_or (map (λ (set : Vec ℕ Global). set.items) sets) a []

-- the set of the first sort contains the second
abbrev pub is_in : List (Vec ℕ Global) → ℕ → ℕ → Bool
is_in sets a b = has (set_at sets a) b

-- the sort is a, or its set contains a
abbrev pub reaches : List (Vec ℕ Global) → ℕ → ℕ → Bool
reaches sets x a = x == a || is_in sets x a

-- a set contains everything that the sets of its members contain
abbrev pub IsClosed : List (Vec ℕ Global) → Type 0
IsClosed sets =
    (x y z : ℕ) → IsTrue (is_in sets x y) → IsTrue (is_in sets y z) → IsTrue (is_in sets x z)

-- the tables agree with the pairs, and no sort is below itself
pub record IsTable (t : Inside) : Type 0 where
  pub chains : (a b : ℕ) → is_in t.above.items a b ≡ is_below (pairs_of t) a b
  pub single : (a b : ℕ) → IsTrue (is_in t.direct.items a b) ↔ Contains (pairs_of t) (a, b)
  pub no_cycle : HasNoCycle (pairs_of t)
