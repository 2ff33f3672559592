use Rattle.mm_proof.proofs.Stacking.{kept_syntax, on_ok, repeated_syntax, same_table}
use Rattle.mm_proof.proofs.works.take_syntax.Goals as goal

pub returns-then-branch : goal.returns-then-branch
returns-then-branch c =
    repeated_syntax c.args.pat c.args.stack.now.items c.args.table.now c.repeat_syntax.new.self
    (rw c.if-branch.true at c.in_ok-repeat_syntax.ensures.repeated)

pub returns : goal.returns
returns c =
    on_ok c.expand_syntax-2.result (λ put.
    same_table c.args.pat c.args.stack.now.items c.expand_syntax-2.new.stack.items
    c.args.table.now c.repeat_syntax.new.self
    (rw c.if-branch.false at c.in_ok-repeat_syntax.ensures.repeated)
    (kept_syntax c.args.pat c.args.stack.now.items c.push.new.self.items
    c.expand_syntax-2.new.stack.items c.repeat_syntax.new.self c.in_ok-push.ensures.items put))
    c.expand_syntax-2.ensures
