use Rattle.std.proofs.Common.{rules, ◌≡◌, [], ◌∷◌, ◌++◌, ap, ◌∙◌}
use Rattle.mm_frame.specs.Listed.{list_of}
use Rattle.mm_frame.proofs.Listing.{list_of-more}
use Rattle.mm_frame.proofs.disjoint.reach.Goals as goal

pub loop-alloc-preserved : goal.loop-alloc-preserved
loop-alloc-preserved c = λ n.
    let items : c.push.new.self.items ≡ c.loop-alloc.lists.items ++ c.new.result ∷ [] =
    search rules in
    ap (λ ls. list_of ls n) items
    ∙ list_of-more c.loop-alloc.lists.items c.new.result n (search rules)
    ∙ c.loop-alloc.invariant n
