use Rattle.std.specs.Prelude.{◌≡◌, drop}
use Rattle.mm_verify.specs.Filling.{are_parts_apart}
use Rattle.mm_verify.specs.Pairs.{each_pair, AreKnown}
use Rattle.mm_verify.proofs.spreads.are_pairs_apart.Given as goal

abbrev pub invariant-loop-i : goal.invariant-loop-i
invariant-loop-i g l = record {
  known : AreKnown (g.P.Place.place l.place) (drop l.base l.stack) l.spreads;
  pairs : each_pair (are_parts_apart (g.P.Place.place l.place) (drop l.base l.stack))
      (drop l.i l.group)
      ≡ each_pair (are_parts_apart (g.P.Place.place l.place) (drop l.base l.stack)) l.group;
}
