use Rattle.mm_proof.proofs.Stacking.{put_leaf}
use Rattle.mm_proof.proofs.stacks.put_leaf.Goals as goal

pub returns : goal.returns
returns c =
    put_leaf c.args.label c.args.stack.now.items c.push.new.self.items c.in_ok-push.ensures.items
