use Rattle.std.specs.Prelude.{◌≡◌, true, take, drop}
use Rattle.std.specs.List.{list_all}
use Rattle.mm_verify.specs.Filling.{are_parts_apart}
use Rattle.mm_verify.specs.Pairs.{AreKnown}
use Rattle.mm_verify.proofs.spreads.is_part_apart.Given as goal

abbrev pub invariant-loop-other : goal.invariant-loop-other
invariant-loop-other g l = record {
  known : AreKnown (g.P.Place.place l.place) (drop l.base l.stack) l.spreads;
  all : list_all (are_parts_apart (g.P.Place.place l.place) (drop l.base l.stack) l.one)
      (take l.other-index l.others) ≡ true;
}
