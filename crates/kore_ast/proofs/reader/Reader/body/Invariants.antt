use Rattle.std.proofs.Common.{List, ◌≤◌, map}
use Rattle.kore_text.specs.TokenStream.{Stream}
use Rattle.kore_text.specs.Grammar.{Requirement, spell_declaration}
use Rattle.kore_ast.specs.Plain.{plain_declaration}
use Rattle.kore_ast.specs.Reading.{left, size}
use Rattle.kore_ast.proofs.Sequences.{Follows}
use Rattle.kore_ast.proofs.Declared.{ending}
use Rattle.kore_ast.proofs.reader.Reader.body.Given as goal

abbrev pub invariant-loop-self : goal.invariant-loop-self
invariant-loop-self l = record {
  follows : (k : List Requirement) (e : Stream)
      → Follows spell_declaration (map plain_declaration l.decls.items) (ending k) e
      (left l.fn.self) (left l.self);
  shorter : size l.self ≤ size l.fn.self;
}

abbrev pub decreases-loop-self : goal.decreases-loop-self
decreases-loop-self l = size l.self
