use Rattle.std.proofs.Common.{arith, ◌<◌, ◌++◌, ◌∷◌, [], length, ap, sym, ◌∙◌, map, take}
use Rattle.std.specs.Prelude.{filter_map}
use Rattle.std.proofs.lemmas.List.{append_assoc}
use Rattle.kore_ast.specs.Plain.{plain_declaration}
use Rattle.kore_sig.specs.CountedModules.{import_name}
use Rattle.kore_sig.proofs.ListLaws.{filter_map_some, filter_map_none}
use Rattle.kore_sig.proofs.NotDeclared.{no_import}
use Rattle.kore_sig.proofs.SetLaws.{knows_same}
use Rattle.kore_sig.proofs.counted.add_imports.Goals as goal
use Rattle.kore_sig.proofs.counted.add_imports.Goals.{in-Import+in_ok-add_name, in_default}

pub loop-decl-preserved : goal.loop-decl-preserved
loop-decl-preserved c =
    let lt : c.loop-decl.decl-index < length c.args.decls.now = omega arith in
    let so_far =
    filter_map import_name
    (map plain_declaration (take c.loop-decl.decl-index c.args.decls.now)) in
    elim c.match-decl.branch [
      | in-Import+in_ok-add_name w ↦ λ names known.
          knows_same w.add_name.new.names c.match-decl.imported
          ((names ++ so_far) ++ w.in-Import.import.name ∷ []) _ w.imported-is
          (append_assoc names so_far (w.in-Import.import.name ∷ [])
          ∙ ap (λ ns. names ++ ns) (sym (filter_map_some plain_declaration import_name
          c.args.decls.now c.loop-decl.decl-index c.decl-item.result w.in-Import.import.name lt
          c.decl-item.is (ap (λ d. import_name (plain_declaration d)) w.in-Import.is))))
          (w.in_ok-add_name.ensures.known (names ++ so_far) (c.loop-decl.invariant names known))
      | in_default w ↦ λ names known.
          knows_same c.loop-decl.imported c.match-decl.imported (names ++ so_far) _ w.imported-is
          (ap (λ ns. names ++ ns) (sym (filter_map_none plain_declaration import_name
          c.args.decls.now c.loop-decl.decl-index c.decl-item.result lt c.decl-item.is
          (no_import c.decl-item.result w.in_default.not-Import))))
          (c.loop-decl.invariant names known)
    ]
