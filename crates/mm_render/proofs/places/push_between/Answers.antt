use Rattle.mm_render.proofs.KeyLaws.{between_added}
use Rattle.mm_render.proofs.places.push_between.Goals as goal

pub returns : goal.returns
returns c =
    between_added c.args.p c.args.q c.args.form 0 0 c.args.stack.now.items c.push.new.self.items
    c.push-2.new.self.items c.args.key.now.items c.push_numbers.new.key.items
    c.in_ok-push_numbers.ensures c.in_ok-push.ensures.items c.in_ok-push-2.ensures.items
