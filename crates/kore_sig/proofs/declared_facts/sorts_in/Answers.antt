use Rattle.std.proofs.Common.{◌≡◌, ◌+◌, ◌<◌, ◌++◌, ◌∷◌, [], arith, ap, ◌∙◌, map, take, length}
use Rattle.kore_text.specs.Trees.{Declaration}
use Rattle.kore_ast.specs.Plain.{plain_declaration}
use Rattle.kore_sig.specs.declared.counted.Placed.{Placed}
use Rattle.kore_sig.proofs.KnowingLaws.{sort_table_at, sort_table_past}
use Rattle.kore_sig.proofs.ListLaws.{map_step}
use Rattle.kore_sig.proofs.NotDeclared.{no_sort}
use Rattle.kore_sig.proofs.declared_facts.sorts_in.Goals as goal
use Rattle.kore_sig.proofs.declared_facts.sorts_in.Goals.{in-SortDecl+in_ok-add_sort, in_default}

pub loop-placed-preserved : goal.loop-placed-preserved
loop-placed-preserved c =
    let lt : c.loop-placed.placed-index < length c.args.decls.now = omega arith in
    let f : Placed → Declaration = λ (p : Placed). plain_declaration p.decl.now in
    let ds = map f (take c.loop-placed.placed-index c.args.decls.now) in
    let next : map f (take (c.loop-placed.placed-index + 1) c.args.decls.now) ≡ ds ++ f
    c.placed-item.result ∷ [] =
    map_step f c.args.decls.now c.loop-placed.placed-index c.placed-item.result lt
    c.placed-item.is in
    elim c.match-placed.branch [
      | in-SortDecl+in_ok-add_sort w ↦ sort_table_at w.add_sort.new.sorts c.match-placed.sorts _ _
          w.sorts-is (next ∙ ap (λ d. ds ++ plain_declaration d ∷ []) w.in-SortDecl.is)
          (w.in_ok-add_sort.ensures ds c.loop-placed.invariant)
      | in_default w ↦ sort_table_past ds (f c.placed-item.result) c.loop-placed.sorts
          c.match-placed.sorts _ w.sorts-is next
          (no_sort c.placed-item.result.decl.now w.in_default.not-SortDecl) c.loop-placed.invariant
    ]
