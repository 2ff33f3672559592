use Rattle.std.proofs.Common.{length, refl}
use Rattle.mm_proof.proofs.Stacking.{on_ok, put_cite}
use Rattle.mm_proof.proofs.stacks.put_steps.Goals as goal

pub returns : goal.returns
returns c =
    on_ok c.put_all.result (λ more. put_cite c.args.label (length c.args.parts.now)
    c.args.parts.now c.args.stack.now.items c.push.new.self.items c.put_all.new.stack.items
    c.in_ok-push.ensures.items refl more) c.put_all.ensures
