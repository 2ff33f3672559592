use Rattle.std.proofs.Common.{◌≡◌, ◌+◌, ◌<◌, ◌++◌, ◌∷◌, [], arith, map, drop, take, length, ap, sym}
use Rattle.std.proofs.Common.{◌∙◌, List, ℕ, Vec, Global}
use Rattle.std.specs.Prelude.{flat_map}
use Rattle.kore_ast.specs.declared.tree.Decl.{Decl}
use Rattle.kore_sig.specs.declared.counted.Placed.{Placed as PlacedDecl}
use Rattle.std.proofs.lemmas.List.{length-map, drop-map, get_or-map, drop_all, append-nil}
use Rattle.kore_text.specs.Trees.{ModuleTree}
use Rattle.kore_ast.specs.Plain.{plain_module, plain_declaration}
use Rattle.kore_ast.specs.declared.tree.Module.{Module}
use Rattle.kore_sig.specs.CountedModules.{counts, counted}
use Rattle.kore_sig.specs.Placing.{marks_of, plain_placed, names_of_modules}
use Rattle.kore_sig.specs.SignatureFaults.{Placed, declarations_placed, placed_at, names_after}
use Rattle.kore_sig.proofs.CountedLaws.{mark_at, length_marks, placed_with, placed_without}
use Rattle.kore_sig.proofs.CountedLaws.{placed_counted, declarations_of}
use Rattle.kore_sig.proofs.ListLaws.{take_step, drop_step}
use Rattle.kore_sig.proofs.counted.placed_declarations.Goals as goal
use Rattle.kore_sig.proofs.counted.placed_declarations.Goals.{then-index+in_ok-place, else-index}

pub index-requires : goal.index-requires
index-requires c =
    let modules = c.deref-module-items.result.now in
    let marks : c.in_ok-counted.counted.items ≡ marks_of (map plain_module modules) =
    c.in_ok-counted.ensures
    ∙ ap (λ (xs : List Module). marks_of (map plain_module xs))
    (c.deref.ensures.value ∙ sym c.deref-module-items.ensures.value) in
    omega (
      arith,
      ap length marks,
      length_marks (map plain_module modules),
      length-map modules plain_module,
    )

pub loop-i-preserved : goal.loop-i-preserved
loop-i-preserved c =
    let modules = c.deref-module-items.result.now in
    let names = names_of_modules modules in
    let here = take c.loop-i.i names in
    let m = plain_module c.module-item.result in
    let later = map plain_module (drop (c.loop-i.i + 1) modules) in
    let lt : c.loop-i.i < length modules = omega arith in
    let within : c.loop-i.i < length (map plain_module modules) =
    omega (arith, length-map modules plain_module) in
    let rest : map plain_module (drop c.loop-i.i modules) ≡ m ∷ later =
    ap (map plain_module)
    (drop_step modules c.loop-i.i c.module-item.result lt c.module-item.is) in
    let marks : c.in_ok-counted.counted.items ≡ marks_of (map plain_module modules) =
    c.in_ok-counted.ensures
    ∙ ap (λ (xs : List Module). marks_of (map plain_module xs))
    (c.deref.ensures.value ∙ sym c.deref-module-items.ensures.value) in
    let is : c.index.result.now ≡ counts m later (counted later) =
    mark_at (map plain_module modules) c.in_ok-counted.counted.items c.loop-i.i m later
    c.index.result.now marks within c.index.ensures
    (drop-map plain_module c.loop-i.i modules ∙ rest) in
    let named : length names ≡ length modules = length-map modules (λ (x : Module). x.name) in
    let next : take (c.loop-i.i + 1) names ≡ names_after here m =
    take_step names c.loop-i.i c.module-item.result.name (omega arith) (ap (λ (x : Module). x.name)
    c.module-item.is
    ∙
    sym (get_or-map (λ (x : Module).
    x.name) modules c.loop-i.i c.module-item.result c.module-item.result.name lt)) in
    let so_far = map (plain_placed names) c.loop-i.placed.items in
    let whole : so_far ++ declarations_placed here (m ∷ later)
    ≡ declarations_placed [] (map plain_module modules) =
    ap (λ (ms : List ModuleTree). so_far ++ declarations_placed here ms) (sym rest)
    ∙ c.loop-i.invariant in
    elim c.if-index.branch [
      | then-index+in_ok-place w ↦ let grown : map (plain_placed names) c.if-index.placed.items
          ≡ so_far ++ map (placed_at here) m.declarations =
          ap (λ (v : Vec PlacedDecl Global). map (plain_placed names) v.items) w.placed-is
          ∙ w.in_ok-place.ensures names
          ∙ ap (λ (ds : List Decl). so_far ++ map (placed_at here) (map plain_declaration ds))
          w.deref-then-index.ensures.value in
          ap (λ (ns : List (List ℕ)).
          map (plain_placed names) c.if-index.placed.items ++ declarations_placed ns later) next
          ∙ ap (λ (ps : List Placed). ps ++ declarations_placed (names_after here m) later) grown
          ∙ placed_with here m later c.index.result.now so_far is w.if-index.true
          ∙ whole
      | else-index w ↦ ap (λ (ns : List (List ℕ)).
          map (plain_placed names) c.if-index.placed.items ++ declarations_placed ns later) next
          ∙ ap (λ (v : Vec PlacedDecl Global).
          map (plain_placed names) v.items ++ declarations_placed (names_after here m) later)
          w.placed-is
          ∙ placed_without here m later c.index.result.now so_far is w.if-index.false
          ∙ whole
    ]

pub returns-clause-counted : goal.returns-clause-counted
returns-clause-counted c =
    let modules = c.deref-module-items.result.now in
    let names = names_of_modules modules in
    let over : drop c.loop-i.i modules ≡ [] = drop_all c.loop-i.i modules (omega arith) in
    let whole : map (plain_placed names) c.loop-i.placed.items ≡ declarations_placed []
    (map plain_module modules) =
    sym (append-nil (map (plain_placed names) c.loop-i.placed.items))
    ∙ ap (λ (ms : List Module). map (plain_placed names) c.loop-i.placed.items
    ++ declarations_placed (take c.loop-i.i names) (map plain_module ms)) (sym over)
    ∙ c.loop-i.invariant in
    sym (declarations_of names c.loop-i.placed.items)
    ∙ ap (map (λ (p : Placed). p.declaration)) whole
    ∙ placed_counted [] (map plain_module modules)
    ∙ ap (λ (ms : List Module).
    flat_map (λ (m : ModuleTree). m.declarations) (counted (map plain_module ms)))
    c.deref-module-items.ensures.value
