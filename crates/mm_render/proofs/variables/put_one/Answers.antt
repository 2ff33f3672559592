use Rattle.mm_render.proofs.StackedVariables.{one_put}
use Rattle.mm_render.proofs.variables.put_one.Goals as goal

pub returns : goal.returns
returns c = one_put c.args.p c.args.stack.now.items c.push.new.self.items c.in_ok-push.ensures.items
