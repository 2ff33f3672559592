use Rattle.std.proofs.Common.{refl, ◌∙◌}
use Rattle.proof_writer.specs.Writing.{context_of}
use Rattle.proof_writer.proofs.WritingLaws.{writes_none, writes_then}
use Rattle.proof_writer.proofs.writer.Writer.write_axioms.Goals as goal

pub loop-no-init : goal.loop-no-init
loop-no-init c = (
  writes_none (context_of c.args.made.now) c.args.self.now c.args.to.now.items c.requires.written
      c.requires.named,
  refl,
  refl,
)

pub loop-no-preserved : goal.loop-no-preserved
loop-no-preserved c = (
  writes_then (context_of c.args.made.now) c.args.self.now c.loop-no.self c.axiom.new.self
      c.args.to.now.items c.loop-no.to.items c.axiom.new.to.items c.loop-no.invariant.0
      c.in_ok-axiom.ensures.writes,
  c.in_ok-axiom.ensures.one,
  c.in_ok-axiom.ensures.lemmas ∙ c.loop-no.invariant.2,
)
