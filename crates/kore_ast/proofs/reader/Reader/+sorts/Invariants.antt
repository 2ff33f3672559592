use Rattle.std.proofs.Common.{◌*◌, ◌+◌, ◌≤◌, map}
use Rattle.kore_ast.specs.Plain.{plain_sort}
use Rattle.kore_text.specs.Grammar.{spell_sort}
use Rattle.kore_ast.specs.Reading.{left, size}
use Rattle.kore_ast.proofs.Lists.{Keeps}
use Rattle.kore_ast.proofs.reader.Reader.+sorts.Given as goal

abbrev pub decreases-sort : goal.decreases-sort
decreases-sort l = 2 * size l.self.now

abbrev pub decreases-sorts : goal.decreases-sorts
decreases-sorts l = 2 * size l.self.now + 1

abbrev pub invariant-sorts-loop-self : goal.invariant-sorts-loop-self
invariant-sorts-loop-self l = record {
  keeps : Keeps spell_sort l.close (map plain_sort l.sorts.items) (left l.fn.self) (left l.self);
  shorter : size l.self ≤ size l.fn.self;
}

abbrev pub decreases-sorts-loop-self : goal.decreases-sorts-loop-self
decreases-sorts-loop-self l = size l.self
