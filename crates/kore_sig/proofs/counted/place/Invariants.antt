use Rattle.std.proofs.Common.{◌≡◌, ◌++◌, ◌+◌, ◌-◌, ◌≤◌, ℕ, List, map, take, vec_len, vec_capacity}
use Rattle.std.proofs.Common.{length}
use Rattle.kore_ast.specs.Plain.{plain_declaration}
use Rattle.kore_sig.specs.SignatureFaults.{placed_at}
use Rattle.kore_sig.specs.Placing.{plain_placed}
use Rattle.kore_sig.proofs.counted.place.Given as goal

abbrev pub invariant-loop-decl : goal.invariant-loop-decl
invariant-loop-decl l = record {
  room : vec_len l.placed + (length l.decls - l.decl-index) ≤ vec_capacity l.placed;
  placed : (names : List (List ℕ))
      → map (plain_placed names) l.placed.items
      ≡ map (plain_placed names) l.fn.placed.items
      ++ map (placed_at (take l.module_index names))
      (map plain_declaration (take l.decl-index l.decls));
}
