use Rattle.std.proofs.Common.{◌≡◌, map, take, drop, None, Option}
use Rattle.kore_text.specs.Trees.{SortTree, AxiomDeclaration}
use Rattle.kore_sig.specs.FirstFault.{Fault, IsFirstOfSequence}
use Rattle.kore_rules.specs.AxiomsRead.{HaveRead, IsFirstSort, sort_at, tree_at}
use Rattle.kore_rules.specs.FirstRefusal.{FirstOfAxioms}
use Rattle.kore_rules.proofs.FirstLaws.{FirstBehind}
use Rattle.kore_rules.proofs.axioms.read_axioms.Given as goal

abbrev pub invariant-loop-decl : goal.invariant-loop-decl
invariant-loop-decl l = record {
  read : HaveRead l.sig (map tree_at (take l.decl-index l.axioms)) l.readings;
  first : IsFirstSort l.sig (map tree_at (take l.decl-index l.axioms)) (sort_at l.first);
  behind : (r : Option Fault)
      → FirstBehind l.sig (sort_at l.first) (map tree_at (drop l.decl-index l.axioms)) r
      → FirstOfAxioms l.sig (map tree_at l.axioms) r;
}
