-- The size of a record is greater than the sizes of its parts.
use Rattle.std.proofs.Common.{◌≡◌, ◌<◌, ◌≤◌, ◌+◌, ℕ, zero, suc, List, [], ◌∷◌, Option, Some, sym}
use Rattle.std.proofs.Common.{slice_get}
use Rattle.std.proofs.Common.{subst, arith}
use Rattle.term_core.specs.Terms.{Tree}
use Rattle.rule_core.specs.Records.{Record, RecordList, OptionalRecord, bound, itself, made}
use Rattle.rule_core.specs.Records.{injected_record, by_hook, by_equation, no_record, more_records}
use Rattle.rule_core.specs.Records.{unconditional, conditional, Miss, MissList, none_missed}
use Rattle.rule_core.specs.Records.{more_missed, no_match, condition_false}
use Rattle.rule_core.specs.RecordView.{misses}
use Rattle.prove_fun.specs.RecordParts.{children, children_of, listed}

abbrev mutual
  pub size : Record → ℕ
  size (bound x t) = 1
  size (itself t) = 1
  size (made f rs t) = sizes rs + 1
  size (injected_record a b r t) = size r + 1
  size (by_hook f rs t) = sizes rs + 1
  size (by_equation f rs i theta condition body missed) =
      sizes rs + (size_if condition + (size body + (miss_sizes missed + 1)))

  pub sizes : RecordList → ℕ
  sizes no_record = 0
  sizes (more_records r rs) = size r + sizes rs

  pub size_if : OptionalRecord → ℕ
  size_if unconditional = 0
  size_if (conditional r) = size r

  pub miss_size : Miss → ℕ
  miss_size no_match = 0
  miss_size (condition_false sigma r) = size r

  pub miss_sizes : MissList → ℕ
  miss_sizes none_missed = 0
  miss_sizes (more_missed m ms) = miss_size m + miss_sizes ms

item_size : (rs : RecordList) (i : ℕ) (q : Record) → slice_get (listed rs) i ≡ Some q
    → size q ≤ sizes rs
item_size no_record i q there = absurd (let no : ⊥ = cc in no)
item_size (more_records r rs) zero q there =
    let same : r ≡ q = first r q there in
    subst (λ (x : Record). size x ≤ sizes (more_records r rs)) same (omega arith)
  where
    first : (r q : Record) → Some r ≡ Some q → r ≡ q
    first r q e = cc
item_size (more_records r rs) (suc i) q there = omega (arith, item_size rs i q there)

children_size : (r : Record) → sizes (children_of r) < size r
children_size (bound x t) = omega arith
children_size (itself t) = omega arith
children_size (made f rs t) = omega arith
children_size (injected_record a b r t) = omega arith
children_size (by_hook f rs t) = omega arith
children_size (by_equation f rs i theta condition body missed) = omega arith

pub child_size : (r : Record) (i : ℕ) (q : Record) → slice_get (children r) i ≡ Some q
    → size q < size r
child_size r i q there = omega (arith, item_size (children_of r) i q there, children_size r)

-- no record has size zero
pub some_size : (r : Record) → 1 ≤ size r
some_size (bound x t) = omega arith
some_size (itself t) = omega arith
some_size (made f rs t) = omega arith
some_size (injected_record a b r t) = omega arith
some_size (by_hook f rs t) = omega arith
some_size (by_equation f rs i theta condition body missed) = omega arith

pub equation_size : (r : Record) (f : ℕ) (rs : RecordList) (i : ℕ) (theta : List (Option Tree))
    (condition : OptionalRecord) (body : Record) (missed : MissList)
    → r ≡ by_equation f rs i theta condition body missed
    → size_if condition + (size body + (miss_sizes missed + 1)) ≤ size r
equation_size r f rs i theta condition body missed is =
    subst (λ (q : Record). size_if condition + (size body + (miss_sizes missed + 1)) ≤ size q)
    (sym is) (omega arith)

pub item_missed : (ms : List Miss) (j : ℕ) (m : Miss) → slice_get ms j ≡ Some m
    → miss_size m ≤ miss_sizes (misses ms)
item_missed [] j m there = absurd (let no : ⊥ = cc in no)
item_missed (n ∷ ms) zero m there =
    let same : n ≡ m = first n m there in
    subst (λ (x : Miss). miss_size x ≤ miss_sizes (misses (n ∷ ms))) same (omega arith)
  where
    first : (n m : Miss) → Some n ≡ Some m → n ≡ m
    first n m e = cc
item_missed (n ∷ ms) (suc j) m there = omega (arith, item_missed ms j m there)
