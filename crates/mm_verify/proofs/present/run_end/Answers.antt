use Rattle.std.proofs.Common.{rules, ◌≡◌, ℕ, get_or, refl, true, false, leb}
use Rattle.std.specs.List.Sorted.{IsPartitionPoint}
use Rattle.std.proofs.lemmas.List.Sorted.{IsPartitionPoint-from_clause}
use Rattle.mm_frame.specs.Spots.{symbol_at}
use Rattle.mm_verify.proofs.Runs.{any-default, run-point, run-more, run-same}
use Rattle.mm_verify.proofs.present.run_end.Goals as goal

-- the first spot of the run
abbrev first : goal.After-partition_point → ℕ
first c = get_or c.args.spots.now c.args.at 0

first-is : (c : goal.After-partition_point) → first c ≡ get_or c.args.spots.now c.args.at (first c)
first-is c = any-default c.args.spots.now c.args.at 0 (first c) c.requires.at

point : (c : goal.After-partition_point)
    → IsPartitionPoint (λ (n : ℕ). leb (symbol_at n) (symbol_at (first c)) ≡ true)
    (λ n. leb (symbol_at n) (symbol_at (first c)) ≡ false) c.args.spots.now
    c.partition_point.result
point c =
    IsPartitionPoint-from_clause (λ (n : ℕ). leb (symbol_at n) (symbol_at (first c)))
    c.args.spots.now c.partition_point.result c.partition_point.ensures.partitioned
    (run-point c.args.spots.now c.args.spots.now (symbol_at (first c)) refl
    c.requires.ordered)
    (λ a r q k. search rules)

pub returns-clause-more : goal.returns-clause-more
returns-clause-more c =
    run-more c.args.spots.now c.args.spots.now c.args.at c.partition_point.result
    (first c) refl (first-is c) c.requires.at (point c)

pub returns-clause-same : goal.returns-clause-same
returns-clause-same c =
    run-same c.args.spots.now c.args.spots.now c.args.at c.partition_point.result
    (first c) refl (first-is c) c.requires.at (point c) c.requires.ordered
    c.partition_point.ensures.bound
