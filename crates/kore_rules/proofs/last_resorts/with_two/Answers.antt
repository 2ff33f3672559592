use Rattle.std.proofs.Common.{◌≡◌, ◌+◌, ◌∙◌, ap, sym, subst, arith, length, map, take, Option}
use Rattle.std.proofs.Common.{List, Bool, ◌∷◌, ◌++◌, []}
use Rattle.std.specs.Prelude.{Vec, option_map}
use Rattle.std.specs.Borrow.{Bor}
use Rattle.std.specs.Global.{Global}
use Rattle.std.proofs.lemmas.List.{take_all}
use Rattle.kore_text.specs.Trees.{AxiomDeclaration}
use Rattle.kore_ast.specs.declared.tree.AxiomDecl.{AxiomDecl}
use Rattle.kore_sig.proofs.ListLaws.{map_step, number_within}
use Rattle.kore_shapes.specs.StatementViews.{plain_statement}
use Rattle.kore_shapes.specs.declared.statements.Statement.{Statement}
use Rattle.kore_rules.specs.AxiomsRead.{tree_at}
use Rattle.kore_rules.specs.LastResortsRead.{IsStatedLast}
use Rattle.kore_rules.proofs.LastResortReads.{AreCounted, counted_more, counted_same}
use Rattle.kore_rules.proofs.last_resorts.with_two.Goals.{in-Some, in_default}
use Rattle.kore_rules.proofs.last_resorts.with_two.Goals as goal

pub count_one-requires-clause-one : goal.count_one-requires-clause-one
count_one-requires-clause-one c =
    let within =
    number_within c.args.sig.now.symbols c.in-Some.stated.function.now c.function_number.result
    c.function_number.ensures in
    let many = c.loop-decl.invariant.one in omega (arith, within, many)

pub count_one-requires-clause-two : goal.count_one-requires-clause-two
count_one-requires-clause-two c =
    let within =
    number_within c.args.sig.now.symbols c.in-Some.stated.function.now c.function_number.result
    c.function_number.ensures in
    let many = c.loop-decl.invariant.two in omega (arith, within, many)

pub loop-decl-preserved : goal.loop-decl-preserved
loop-decl-preserved c =
    let sig = c.args.sig.now in
    let a = tree_at c.decl-item.result in
    let axioms = map tree_at (take c.loop-decl.decl-index c.args.axioms.now) in
    let more : map tree_at (take (c.loop-decl.decl-index + 1) c.args.axioms.now)
    ≡ axioms ++ a ∷ [] =
    map_step tree_at c.args.axioms.now c.loop-decl.decl-index c.decl-item.result
    c.loop-decl-test.true c.decl-item.is in
    elim c.match-stated_last_resort.branch [
      | in-Some w ↦
          record {
            one = ap (λ (v : Vec Bool Global). length v.items) w.one-is ∙ w.count_one.ensures.len_one
                ∙ c.loop-decl.invariant.one;
            two = ap (λ (v : Vec Bool Global). length v.items) w.two-is ∙ w.count_one.ensures.len_two
                ∙ c.loop-decl.invariant.two;
            counted =
                subst (λ (all : List AxiomDeclaration). AreCounted sig all
                c.match-stated_last_resort.one.items c.match-stated_last_resort.two.items) (sym more)
                (subst (λ (v : Vec Bool Global). AreCounted sig (axioms ++ a ∷ []) v.items
                c.match-stated_last_resort.two.items) (sym w.one-is)
                (subst (λ (v : Vec Bool Global). AreCounted sig (axioms ++ a ∷ [])
                w.count_one.new.one.items v.items) (sym w.two-is)
                (counted_more sig axioms a (plain_statement w.in-Some.stated)
                w.function_number.result c.loop-decl.one.items c.loop-decl.two.items
                w.count_one.new.one.items w.count_one.new.two.items w.in-Some.ensures
                w.function_number.ensures w.count_one.ensures.one w.count_one.ensures.two
                c.loop-decl.invariant.counted)));
          }
      | in_default w ↦
          record {
            one = ap (λ (v : Vec Bool Global). length v.items) w.one-is ∙ c.loop-decl.invariant.one;
            two = ap (λ (v : Vec Bool Global). length v.items) w.two-is ∙ c.loop-decl.invariant.two;
            counted =
                subst (λ (all : List AxiomDeclaration). AreCounted sig all
                c.match-stated_last_resort.one.items c.match-stated_last_resort.two.items) (sym more)
                (subst (λ (v : Vec Bool Global). AreCounted sig (axioms ++ a ∷ []) v.items
                c.match-stated_last_resort.two.items) (sym w.one-is)
                (subst (λ (v : Vec Bool Global). AreCounted sig (axioms ++ a ∷ [])
                c.loop-decl.one.items v.items) (sym w.two-is)
                (counted_same sig axioms a c.loop-decl.one.items c.loop-decl.two.items
                (subst (λ (o : Option Statement). IsStatedLast sig a (option_map plain_statement o))
                w.in_default.is c.stated_last_resort.ensures) c.loop-decl.invariant.counted)));
          }
    ]

pub returns-clause-two : goal.returns-clause-two
returns-clause-two c =
    let counted : AreCounted c.args.sig.now (map tree_at c.args.axioms.now) c.loop-decl.one.items
    c.loop-decl.two.items =
    subst (λ (xs : List (Bor AxiomDecl)). AreCounted c.args.sig.now (map tree_at xs)
    c.loop-decl.one.items c.loop-decl.two.items)
    (take_all c.loop-decl.decl-index c.args.axioms.now c.loop-decl-test.false)
    c.loop-decl.invariant.counted in
    counted.two
