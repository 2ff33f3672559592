use Rattle.std.proofs.Common.{◌≡◌, length}
use Rattle.proof_writer.specs.Writing.{context_of}
use Rattle.proof_writer.specs.WritingOn.{StatesLemmasBefore, WritesOn}
use Rattle.proof_writer.proofs.writer.Writer.write_lemmas.Given as goal

abbrev pub invariant-loop-place : goal.invariant-loop-place
invariant-loop-place l =
    WritesOn (context_of l.made) l.initial.self l.self l.initial.to.items l.to.items
    × (l.self.lemmas ≡ l.place) × (l.self.axioms ≡ length l.made.theory.now)
    × StatesLemmasBefore l.place (context_of l.made) l.initial.self l.initial.to.items l.to.items
