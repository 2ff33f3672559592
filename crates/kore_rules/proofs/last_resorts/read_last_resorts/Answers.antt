use Rattle.std.proofs.Common.{◌≡◌, ◌+◌, ◌∙◌, ap, sym, subst, length, map, take, Option, List, Bool}
use Rattle.std.proofs.Common.{◌∷◌, ◌++◌, [], Contains}
use Rattle.std.specs.Prelude.{option_map}
use Rattle.kore_text.specs.Trees.{AxiomDeclaration}
use Rattle.kore_sig.proofs.ListLaws.{map_step}
use Rattle.kore_shapes.specs.StatementViews.{plain_statement}
use Rattle.kore_shapes.specs.declared.statements.Statement.{Statement}
use Rattle.kore_rules.specs.AxiomsRead.{tree_at}
use Rattle.kore_rules.specs.LastResortsRead.{IsStatedLast, HaveStated, HaveReadLast}
use Rattle.kore_rules.specs.declared.last_resorts.LastResorts.{LastResorts}
use Rattle.kore_rules.proofs.LastResortReads.{last_passed}
use Rattle.kore_rules.proofs.ProgramLaws.{contains_map}
use Rattle.kore_rules.proofs.last_resorts.read_last_resorts.Goals.{in-Some+in_ok-read_beside}
use Rattle.kore_rules.proofs.last_resorts.read_last_resorts.Goals.{in_default}
use Rattle.kore_rules.proofs.last_resorts.read_last_resorts.Goals as goal

pub read_beside-requires : goal.read_beside-requires
read_beside-requires c = record {
  numbered = c.requires.numbered;
  signature = c.requires.signature;
  stated = c.in-Some.ensures;
  lists = c.requires.lists;
  counted = ap length c.deref.ensures.value ∙ c.in_ok-two.ensures.len;
  marks = c.loop-decl.invariant.marks ∙ c.requires.marks;
}

pub loop-decl-preserved : goal.loop-decl-preserved
loop-decl-preserved c =
    let sig = c.args.sig.now in
    let i = c.loop-decl.decl-index in
    let a = tree_at c.decl-item.result in
    let all = map tree_at c.args.axioms.now in
    let some = map tree_at (take i c.args.axioms.now) in
    let marked = c.args.unreadable.items in
    let more : map tree_at (take (i + 1) c.args.axioms.now) ≡ some ++ a ∷ [] =
    map_step tree_at c.args.axioms.now i c.decl-item.result c.loop-decl-test.true c.decl-item.is in
    let has : Contains all a =
    contains_map tree_at c.args.axioms.now c.decl-item.result
    (i, c.loop-decl-test.true, sym c.decl-item.is) in
    subst (λ (axioms : List AxiomDeclaration).
    HaveReadLast sig all axioms marked c.match-stated_last_resort.read) (sym more)
    (elim c.match-stated_last_resort.branch [
      | in-Some+in_ok-read_beside w ↦
          subst (λ (r : LastResorts). HaveReadLast sig all (some ++ a ∷ []) marked r) (sym w.read-is)
          (w.in_ok-read_beside.ensures all some marked has c.requires.others
          (subst (λ (two : List Bool). HaveStated sig 2 all two) (sym w.deref.ensures.value)
          c.in_ok-two.ensures.two) c.loop-decl.invariant)
      | in_default w ↦
          subst (λ (r : LastResorts). HaveReadLast sig all (some ++ a ∷ []) marked r) (sym w.read-is)
          (last_passed sig all some a marked c.loop-decl.read
          (subst (λ (o : Option Statement). IsStatedLast sig a (option_map plain_statement o))
          w.in_default.is c.stated_last_resort.ensures) c.loop-decl.invariant)
    ])
