use Rattle.std.proofs.Common.{◌*◌, ◌+◌, ◌≤◌, Bool, map}
use Rattle.kore_ast.specs.Plain.{pattern_tree}
use Rattle.kore_text.specs.Grammar.{spell_pattern}
use Rattle.kore_ast.specs.Reading.{left, size}
use Rattle.kore_ast.proofs.Lists.{Keeps}
use Rattle.kore_ast.proofs.reader.Reader.+patterns.Given as goal

abbrev pub decreases-pattern : goal.decreases-pattern
decreases-pattern l = 3 * size l.self.now + 1

abbrev pub decreases-named : goal.decreases-named
decreases-named l = 3 * size l.self.now

abbrev pub decreases-connected : goal.decreases-connected
decreases-connected l = 3 * size l.self.now

abbrev pub decreases-binding : goal.decreases-binding
decreases-binding l = 3 * size l.self.now

abbrev pub decreases-fold : goal.decreases-fold
decreases-fold l = 3 * size l.self.now

abbrev pub decreases-patterns : goal.decreases-patterns
decreases-patterns l = 3 * size l.self.now + 2

abbrev pub invariant-patterns-loop-self : goal.invariant-patterns-loop-self
invariant-patterns-loop-self l = record {
  keeps : (b : Bool)
      → Keeps (spell_pattern b) l.close (map pattern_tree l.patterns.items) (left l.fn.self)
      (left l.self);
  shorter : size l.self ≤ size l.fn.self;
}

abbrev pub decreases-patterns-loop-self : goal.decreases-patterns-loop-self
decreases-patterns-loop-self l = size l.self
