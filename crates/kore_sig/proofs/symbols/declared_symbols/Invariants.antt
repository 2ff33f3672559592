use Rattle.std.proofs.Common.{◌≡◌, map, take, drop}
use Rattle.rule_core.specs.DistinctNames.{names_of}
use Rattle.kore_ast.specs.Plain.{plain_declaration}
use Rattle.kore_sig.specs.declared.counted.Placed.{Placed}
use Rattle.kore_sig.specs.Declaring.{AreSymbols, before_of, first_declared}
use Rattle.kore_sig.specs.Knowing.{entries_in}
use Rattle.kore_sig.specs.Placing.{plain_placed}
use Rattle.kore_sig.specs.SignatureFaults.{nothing_declared}
use Rattle.kore_sig.proofs.symbols.declared_symbols.Given as goal

abbrev pub invariant-loop-placed : goal.invariant-loop-placed
invariant-loop-placed l = record {
  first : first_declared l.known.sorts (before_of l.seen l.symbols)
      (map (plain_placed (names_of l.modules)) (drop l.placed-index l.decls))
      ≡ first_declared l.known.sorts nothing_declared
      (map (plain_placed (names_of l.modules)) l.decls);
  sorts : names_of l.seen
      ≡ names_of (entries_in
      (map (λ (p : Placed). plain_declaration p.decl.now) (take l.placed-index l.decls)));
  symbols : AreSymbols l.known
      (map (λ (p : Placed). plain_declaration p.decl.now) (take l.placed-index l.decls)) l.symbols;
}
