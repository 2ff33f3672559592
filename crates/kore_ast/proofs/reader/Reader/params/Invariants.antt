use Rattle.std.proofs.Common.{List, ℕ, ◌≤◌, ◌-◌, map}
use Rattle.kore_text.specs.Grammar.{spell_name}
use Rattle.kore_ast.specs.Streams.{after}
use Rattle.kore_ast.specs.Reading.{left, size}
use Rattle.kore_ast.proofs.Lists.{Keeps}
use Rattle.kore_ast.proofs.reader.Reader.params.Given as goal

abbrev pub invariant-loop-self : goal.invariant-loop-self
invariant-loop-self l = record {
  keeps : Keeps spell_name 125 (map (λ (n : List ℕ). n) l.params.items) (after (left l.fn.self))
      (left l.self);
  shorter : size l.self ≤ size l.fn.self - 1;
}

abbrev pub decreases-loop-self : goal.decreases-loop-self
decreases-loop-self l = size l.self
