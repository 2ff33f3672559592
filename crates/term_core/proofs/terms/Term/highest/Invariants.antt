use Rattle.std.proofs.Common.{◌≡◌, ◌≤◌, take}
use Rattle.term_core.specs.Terms.{heights, AreNormal}
use Rattle.term_core.specs.Forests.{forest}
use Rattle.term_core.proofs.terms.Term.highest.Given as goal

abbrev pub invariant-loop-arg : goal.invariant-loop-arg
invariant-loop-arg l = record {
  value : l.highest ≡ heights (forest (take l.arg-index l.args));
  bound : l.highest ≤ 500;
  normal : AreNormal (forest (take l.arg-index l.args));
}
