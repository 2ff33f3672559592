use Rattle.std.proofs.Common.{sym, ◌∙◌}
use Rattle.mm_frame.specs.DisjointView.{groups_in}
use Rattle.mm_frame.proofs.Listing.{unequal}
use Rattle.mm_frame.proofs.Grouped.{listed-apart}
use Rattle.mm_frame.proofs.disjoint.Disjoint.has_both.Goals as goal

pub returns-then-is_listed : goal.returns-then-is_listed
returns-then-is_listed c = λ yes.
    listed-apart (groups_in c.args.self.now) c.args.a c.args.b c.args.place
    (unequal c.args.a c.args.b c.if-a-b.false)
    (sym c.is_listed.ensures ∙ c.if-is_listed.true) (sym c.is_listed-then-is_listed.ensures ∙ yes)
