use Rattle.std.proofs.Common.{rules, ℕ, ◌<◌, ◌≡◌, true, List, length, map, subst}
use Rattle.std.specs.Prelude.{All}
use Rattle.mm_frame.specs.PlainFrames.{has_number}
use Rattle.mm_frame.specs.Spots.{IsSpot, position_at}
use Rattle.mm_frame.proofs.Spotting.{spots-sorted}
use Rattle.mm_frame.proofs.expression.Expression.shared.Goals as goal

pub invariant_of-long : goal.invariant_of-long
invariant_of-long c = record {
  are_spots =
      spots-sorted c.args.symbols.items c.in_ok-spots.spots.items c.sort_unstable.new.self.items
      (subst (λ (ns : List ℕ). All (IsSpot ns) c.in_ok-spots.spots.items) c.deref.ensures.value
      c.in_ok-spots.ensures.each)
      (subst (λ (ns : List ℕ). (i : ℕ) → i < length ns
      → has_number (map position_at c.in_ok-spots.spots.items) i ≡ true)
      c.deref.ensures.value c.in_ok-spots.ensures.all)
      c.sort_unstable.ensures.permutation c.sort_unstable.ensures.sorted;
  listed = search rules;
}
