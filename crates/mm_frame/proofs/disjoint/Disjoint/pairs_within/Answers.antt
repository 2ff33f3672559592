use Rattle.std.proofs.Common.{drop, ◌∙◌}
use Rattle.std.proofs.lemmas.List.{drop_all}
use Rattle.mm_frame.specs.PlainFrames.{in_groups, groups_of}
use Rattle.mm_frame.specs.DisjointView.{groups_in}
use Rattle.mm_frame.proofs.Grouped.{pairs-end, pair-is}
use Rattle.mm_frame.proofs.disjoint.Disjoint.pairs_within.Goals as goal

pub returns : goal.returns
returns c = λ a b.
    let gs = groups_in c.args.self.now in
    let ns = c.args.numbers.now in
    pairs-end gs (in_groups (groups_of c.loop-i.groups.items) a b) (drop c.loop-i.i ns) a b _
    (drop_all _ ns c.loop-i-test.false) (c.loop-i.invariant a b)
    ∙ pair-is gs ns a b
