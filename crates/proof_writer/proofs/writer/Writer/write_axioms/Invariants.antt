use Rattle.std.proofs.Common.{◌≡◌}
use Rattle.proof_writer.specs.Writing.{context_of}
use Rattle.proof_writer.specs.WritingOn.{WritesOn}
use Rattle.proof_writer.proofs.writer.Writer.write_axioms.Given as goal

abbrev pub invariant-loop-no : goal.invariant-loop-no
invariant-loop-no l =
    WritesOn (context_of l.made) l.initial.self l.self l.initial.to.items l.to.items
    × (l.self.axioms ≡ l.no) × (l.self.lemmas ≡ l.initial.self.lemmas)
