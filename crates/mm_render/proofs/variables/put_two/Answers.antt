use Rattle.mm_render.proofs.StackedVariables.{two_put}
use Rattle.mm_render.proofs.variables.put_two.Goals as goal

pub returns : goal.returns
returns c =
    two_put c.args.p c.args.q c.args.stack.now.items c.push.new.self.items c.push-2.new.self.items
    c.in_ok-push.ensures.items c.in_ok-push-2.ensures.items
