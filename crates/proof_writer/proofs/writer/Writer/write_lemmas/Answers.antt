use Rattle.std.proofs.Common.{refl}
use Rattle.proof_writer.specs.Writing.{context_of}
use Rattle.proof_writer.proofs.TheoremLaws.{all_lemmas, lemmas_none, lemmas_then}
use Rattle.proof_writer.proofs.WritingLaws.{writes_none, writes_then}
use Rattle.proof_writer.proofs.writer.Writer.write_lemmas.Goals as goal

pub loop-place-init : goal.loop-place-init
loop-place-init c = (
  writes_none (context_of c.args.made.now) c.args.self.now c.args.to.now.items c.requires.written
      c.requires.named,
  refl,
  c.requires.axioms,
  lemmas_none (context_of c.args.made.now) c.args.self.now c.args.to.now.items,
)

pub loop-place-preserved : goal.loop-place-preserved
loop-place-preserved c = (
  writes_then (context_of c.args.made.now) c.args.self.now c.loop-place.self c.lemma.new.self
      c.args.to.now.items c.loop-place.to.items c.lemma.new.to.items c.loop-place.invariant.0
      c.in_ok-lemma.ensures.writes,
  c.in_ok-lemma.ensures.one,
  c.in_ok-lemma.ensures.axioms,
  lemmas_then (context_of c.args.made.now) c.args.self.now c.loop-place.self c.lemma.new.self
      c.loop-place.place c.args.to.now.items c.loop-place.to.items c.lemma.new.to.items
      c.loop-place.invariant.0.text c.in_ok-lemma.ensures.writes.text c.loop-place.invariant.3
      c.in_ok-lemma.ensures.states c.in_ok-lemma.ensures.assertions,
)

pub returns-clause-theorems : goal.returns-clause-theorems
returns-clause-theorems c =
    all_lemmas (context_of c.args.made.now) c.args.self.now c.loop-place.place c.args.to.now.items
    c.loop-place.to.items c.loop-place-test.false c.loop-place.invariant.3
