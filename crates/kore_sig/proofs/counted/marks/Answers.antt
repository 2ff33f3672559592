use Rattle.std.proofs.Common.{◌≡◌, ◌-◌, ◌+◌, arith, ◌<◌, ◌≤◌, ◌++◌, ◌∷◌, length, ap, sym, ◌∙◌, map}
use Rattle.std.proofs.Common.{drop}
use Rattle.std.proofs.Common.{reverse, refl, eq-eqb}
use Rattle.std.specs.Prelude.{flat_map, filter_map}
use Rattle.std.proofs.lemmas.List.{length-drop, length-map, drop_all}
use Rattle.kore_ast.specs.Plain.{plain_module, plain_declaration}
use Rattle.kore_sig.specs.CountedModules.{import_name, imports_of, counts, counted}
use Rattle.kore_sig.specs.Placing.{marks_of}
use Rattle.kore_sig.proofs.CountedLaws.{behind, counts_main, counts_imported, marks_more}
use Rattle.kore_sig.proofs.CountedLaws.{counted_with, counted_without}
use Rattle.kore_sig.proofs.SetLaws.{knows_same, knows_swap}
use Rattle.kore_sig.proofs.counted.marks.Goals as goal
use Rattle.kore_sig.proofs.counted.marks.Goals.{then-i-modules, else-i-modules}
use Rattle.kore_sig.proofs.counted.marks.Goals.{then-counts+in_ok-add_imports, else-counts}

pub loop-i-preserved : goal.loop-i-preserved
loop-i-preserved c =
    let modules = c.args.modules.now in
    let later = map plain_module (drop c.loop-i.i modules) in
    let here = plain_module c.index-modules-i.result in
    let names = flat_map imports_of (counted later) in
    let some : 0 < c.loop-i.i = omega (arith, c.loop-i-test.true) in
    let within : c.loop-i.i ≤ length modules = omega (arith, c.loop-i.auto.i) in
    let whole : map plain_module (drop (c.loop-i.i - 1) modules) ≡ here ∷ later =
    behind modules c.loop-i.i c.index-modules-i.result some within c.index-modules-i.is in
    let is : c.if-i-modules.counts ≡ counts here later (counted later) =
    elim c.if-i-modules.branch [
      | then-i-modules w ↦ counts_main here later c.if-i-modules.counts
          (ap (map plain_module) (drop_all c.loop-i.i modules (omega arith)))
          (w.counts-is ∙ eq-eqb (c.loop-i.i - 1 + 1) (length modules) w.if-i-modules.true)
      | else-i-modules w ↦ let some_later : 0
          < length (map plain_module (drop c.loop-i.i modules)) =
          omega (
            arith,
            length-map (drop c.loop-i.i modules) plain_module,
            length-drop c.loop-i.i modules,
          ) in
          counts_imported here later c.if-i-modules.counts some_later
          (w.counts-is ∙ w.has_name-counts.ensures.number
          ∙ c.loop-i.invariant.imported c.index-modules-i.result.name)
    ] in record {
      marked = ap reverse c.in_ok-push.ensures.items
          ∙ marks_more c.loop-i.marks.items c.if-i-modules.counts here later is
          c.loop-i.invariant.marked ∙ ap marks_of (sym whole);
      imported = elim c.if-counts.branch [
        | then-counts+in_ok-add_imports w ↦ let imports : filter_map import_name
            (map plain_declaration w.deref.result.now) ≡ imports_of here =
            ap (λ ds. filter_map import_name (map plain_declaration ds)) w.deref.ensures.value in
            knows_same w.add_imports.new.imported c.if-counts.imported (imports_of here ++ names) _
            w.imported-is
            (ap (flat_map imports_of) (sym (counted_with here later c.if-i-modules.counts is
            w.if-counts.true) ∙ ap counted (sym whole)))
            (knows_swap w.add_imports.new.imported names (imports_of here)
            (knows_same w.add_imports.new.imported w.add_imports.new.imported
            (names ++ filter_map import_name (map plain_declaration w.deref.result.now))
            (names ++ imports_of here) refl (ap (λ ns. names ++ ns) imports)
            (w.in_ok-add_imports.ensures names c.loop-i.invariant.imported)))
        | else-counts w ↦ knows_same c.loop-i.imported c.if-counts.imported names _ w.imported-is
            (ap (flat_map imports_of) (sym (counted_without here later c.if-i-modules.counts is
            w.if-counts.false) ∙ ap counted (sym whole)))
            c.loop-i.invariant.imported
      ];
    }
