use Rattle.std.specs.Prelude.{◌≡◌, true, take, drop}
use Rattle.std.specs.List.{list_all}
use Rattle.mm_verify.specs.Filling.{is_group_apart}
use Rattle.mm_verify.specs.Pairs.{AreKnown}
use Rattle.mm_verify.specs.Places.{parts_of}
use Rattle.mm_verify.proofs.spreads.are_groups_apart.Given as goal

abbrev pub invariant-loop-group : goal.invariant-loop-group
invariant-loop-group g l = record {
  known : AreKnown (g.P.Place.place l.place) (drop l.base l.stack) l.spreads;
  all : list_all (λ i. is_group_apart (g.P.Place.place l.place) (drop l.base l.stack) (parts_of i))
      (take l.group-index l.groups) ≡ true;
}
