use Rattle.mm_proof.proofs.Looking.{one_left}
use Rattle.mm_proof.proofs.searching.put_part.Goals as goal

pub returns : goal.returns
returns c =
    one_left c.args.x.0 c.args.p c.args.stack.now.items c.push.new.self.items
    c.in_ok-push.ensures.items
