use Rattle.std.proofs.Common.{sym, ◌∙◌}
use Rattle.mm_frame.specs.DisjointView.{groups_in}
use Rattle.mm_frame.proofs.Grouped.{pairs-known, group-listed}
use Rattle.mm_frame.proofs.disjoint.Disjoint.has_pairs_of.Goals as goal

pub returns-then-group-le-SMALL : goal.returns-then-group-le-SMALL
returns-then-group-le-SMALL c =
    λ yes.
    pairs-known (groups_in c.args.self.now) c.args.group.now (sym c.are_all_apart.ensures ∙ yes)

pub returns-in-Some : goal.returns-in-Some
returns-in-Some c =
    λ yes. group-listed (groups_in c.args.self.now) c.args.group.now c.in-Some.place.now
    (sym c.are_listed.ensures ∙ yes)
