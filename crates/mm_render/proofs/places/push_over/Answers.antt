use Rattle.mm_render.proofs.KeyLaws.{over_added}
use Rattle.mm_render.proofs.places.push_over.Goals as goal

pub returns : goal.returns
returns c =
    over_added c.args.p c.args.form c.args.variable c.args.sort c.args.stack.now.items
    c.push.new.self.items c.args.key.now.items c.push_numbers.new.key.items
    c.in_ok-push_numbers.ensures c.in_ok-push.ensures.items
