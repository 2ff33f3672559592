use Rattle.std.proofs.Common.{◌≡◌, length, map, take}
use Rattle.kore_rules.specs.AxiomsRead.{tree_at}
use Rattle.kore_rules.proofs.LastResortReads.{AreCounted}
use Rattle.kore_rules.proofs.last_resorts.with_two.Given as goal

abbrev pub invariant-loop-decl : goal.invariant-loop-decl
invariant-loop-decl l = record {
  one : length l.one.items ≡ length l.sig.symbols;
  two : length l.two.items ≡ length l.sig.symbols;
  counted : AreCounted l.sig (map tree_at (take l.decl-index l.axioms)) l.one.items l.two.items;
}
