use Rattle.std.specs.Prelude.{◌≡◌, map, take}
use Rattle.mm_verify.specs.Places.{symbol_of, place_in}
use Rattle.mm_verify.specs.Locating.{place_by}
use Rattle.mm_verify.proofs.parts.located.Given as goal

abbrev pub invariant-loop-symbol : goal.invariant-loop-symbol
invariant-loop-symbol l = record {
  symbols : map symbol_of l.parts.items ≡ take l.symbol-index l.fn.symbols;
  places : map place_in l.parts.items
      ≡ map (place_by l.fn.places) (take l.symbol-index l.fn.symbols);
}
