use Rattle.std.proofs.Common.{sym, ◌∙◌}
use Rattle.mm_frame.specs.DisjointView.{groups_in}
use Rattle.mm_frame.proofs.Grouped.{group-listed}
use Rattle.mm_frame.proofs.disjoint.Disjoint.are_together.Goals as goal

pub returns-then-are_listed : goal.returns-then-are_listed
returns-then-are_listed c =
    λ yes. group-listed (groups_in c.args.self.now) c.args.variables.now _
    (sym c.are_listed.ensures ∙ c.if-are_listed.true)
