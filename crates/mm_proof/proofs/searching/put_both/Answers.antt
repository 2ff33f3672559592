use Rattle.mm_proof.proofs.Looking.{two_left}
use Rattle.mm_proof.proofs.searching.put_both.Goals as goal

pub returns : goal.returns
returns c =
    two_left c.args.x.0 c.args.p c.args.q c.args.stack.now.items c.push.new.self.items
    c.push-2.new.self.items c.in_ok-push.ensures.items c.in_ok-push-2.ensures.items
