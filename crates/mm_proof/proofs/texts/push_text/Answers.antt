use Rattle.std.proofs.Common.{◌++◌, ap, ◌∙◌, append-nil}
use Rattle.mm_text.specs.Written.{written}
use Rattle.mm_proof.specs.TextStacks.{stack_tokens}
use Rattle.mm_proof.specs.Writing.{text_tokens}
use Rattle.mm_proof.proofs.TextStacking.{written_next, written_smaller}
use Rattle.mm_proof.proofs.texts.push_text.Goals as goal

pub loop-next-smaller : goal.loop-next-smaller
loop-next-smaller c =
    written_smaller c.args.names.now c.args.serial c.in-Some.next c.loop-next.stack.items
    c.pop.new.self.items c.push_part.new.stack.items c.loop-next.to.items
    c.push_part.new.to.items c.in-Some.ensures.items c.in_ok-push_part.ensures

pub loop-next-preserved : goal.loop-next-preserved
loop-next-preserved c =
    written_next c.args.names.now c.args.serial c.in-Some.next c.loop-next.stack.items
    c.pop.new.self.items c.push_part.new.stack.items c.loop-next.to.items
    c.push_part.new.to.items _ c.in-Some.ensures.items c.in_ok-push_part.ensures
    c.loop-next.invariant

pub loop-next-init : goal.loop-next-init
loop-next-init c =
    ap (λ ts. c.args.to.now.items ++ written ts)
    (c.in_ok-put_parts.ensures.writes c.args.names.now c.args.serial
    ∙ ap (λ ws. text_tokens c.args.names.now c.args.serial c.args.parts.now
    ++ stack_tokens c.args.names.now c.args.serial ws) c.new-stack.ensures.items
    ∙ append-nil (text_tokens c.args.names.now c.args.serial c.args.parts.now))
