use Rattle.std.proofs.Common.{◌≡◌, ◌+◌, ◌<◌, ◌++◌, ◌∷◌, [], arith, ap, sym, ◌∙◌, List, map, take}
use Rattle.std.proofs.Common.{drop, length, Option, None, subst, refl}
use Rattle.std.specs.List.{cons_option, AllZip}
use Rattle.kore_sig.specs.Signatures.{IsPairOf}
use Rattle.std.specs.Prelude.{flat_map}
use Rattle.std.proofs.lemmas.Result.{err_from_is_err_and}
use Rattle.std.proofs.lemmas.List.{append-nil, take_all}
use Rattle.kore_text.specs.Trees.{Declaration, AxiomDeclaration}
use Rattle.kore_ast.specs.declared.tree.Decl.{Decl}
use Rattle.kore_ast.specs.Plain.{plain_declaration, plain_axiom_decl}
use Rattle.kore_sig.specs.Declarations.{SubsortPair, pairs_of_axiom}
use Rattle.kore_sig.specs.Ordering.{FirstFrom, pairs_in}
use Rattle.kore_sig.specs.declared.counted.Placed.{Placed}
use Rattle.kore_sig.proofs.ListLaws.{map_step}
use Rattle.kore_sig.proofs.NotDeclared.{no_axiom}
use Rattle.kore_sig.proofs.PairLaws.{passes_then, passes_at, pairs_push, split_order, refuses_map}
use Rattle.kore_sig.proofs.pairs.stated_order.Goals as goal
use Rattle.kore_sig.proofs.pairs.stated_order.Goals.{in-Axiom+in_ok-add_pairs, in_default}

pub loop-placed-preserved : goal.loop-placed-preserved
loop-placed-preserved c =
    let decls = c.args.decls.now in
    let i = c.loop-placed.placed-index in
    let f : Placed → Declaration = λ (p : Placed). plain_declaration p.decl.now in
    let so_far = pairs_in (map f (take i decls)) in
    let lt : i < length decls = omega arith in
    let next : pairs_in (map f (take (i + 1) decls)) ≡ so_far ++ pairs_in
    (f c.placed-item.result ∷ []) =
    ap pairs_in (map_step f decls i c.placed-item.result lt c.placed-item.is)
    ∙ pairs_push (map f (take i decls)) (f c.placed-item.result) in
    elim c.match-placed.branch [
      | in-Axiom+in_ok-add_pairs w ↦ let ps = pairs_of_axiom (plain_axiom_decl w.in-Axiom.decl) in
          passes_at c.args.sorts.now [] w.add_pairs.new.subsorts c.match-placed.subsorts
          (so_far ++ ps) _ w.subsorts-is
          (next ∙ ap (λ (d : Decl). so_far ++ pairs_in (plain_declaration d ∷ [])) w.in-Axiom.is
          ∙ ap (λ (xs : List SubsortPair). so_far ++ xs) (append-nil ps))
          (passes_then c.args.sorts.now [] c.loop-placed.subsorts w.add_pairs.new.subsorts so_far ps
          c.loop-placed.invariant w.in_ok-add_pairs.ensures.passes)
      | in_default w ↦ passes_at c.args.sorts.now [] c.loop-placed.subsorts c.match-placed.subsorts
          so_far _ w.subsorts-is
          (next
          ∙ ap (λ (o : Option AxiomDeclaration).
          so_far ++ flat_map pairs_of_axiom (cons_option o []))
          (no_axiom c.placed-item.result.decl.now w.in_default.not-Axiom)
          ∙ append-nil so_far)
          c.loop-placed.invariant
    ]

pub returns-in_err-add_pairs-clause-refused : goal.returns-in_err-add_pairs-clause-refused
returns-in_err-add_pairs-clause-refused c =
    let decls = c.args.decls.now in
    let i = c.loop-placed.placed-index in
    let sorts = c.args.sorts.now in
    let f : Placed → Declaration = λ (p : Placed). plain_declaration p.decl.now in
    let so_far = pairs_in (map f (take i decls)) in
    let ps = pairs_of_axiom (plain_axiom_decl c.in-Axiom.decl) in
    let left = pairs_in (map f (drop (i + 1) decls)) in
    let lt : i < length decls = omega arith in
    let all : pairs_in (map f decls) ≡ so_far ++ (ps ++ left) =
    split_order f decls i c.placed-item.result lt c.placed-item.is
    ∙ ap (λ (d : Decl). so_far ++ (pairs_in (plain_declaration d ∷ []) ++ left)) c.in-Axiom.is
    ∙ ap (λ (xs : List SubsortPair). so_far ++ (xs ++ left)) (append-nil ps) in
    let q = err_from_is_err_and c.from_residual.result c.from_residual.ensures.1 in
    rw (q.1, q.2) (refuses_map
    (λ r. (rest : List SubsortPair) → FirstFrom sorts c.loop-placed.subsorts (ps ++ rest) r)
    (FirstFrom sorts [] (pairs_in (map f decls))) c.in_err-add_pairs.field-0.0
    (λ r h. subst (λ (xs : List SubsortPair). FirstFrom sorts [] xs r) (sym all)
    (c.loop-placed.invariant.first (ps ++ left) r (h left)))
    c.in_err-add_pairs.ensures.refused)

pub returns-clause-clear : goal.returns-clause-clear
returns-clause-clear c =
    let decls = c.args.decls.now in
    let f : Placed → Declaration = λ (p : Placed). plain_declaration p.decl.now in
    let whole : take c.loop-placed.placed-index decls ≡ decls =
    take_all c.loop-placed.placed-index decls (omega arith) in
    subst (λ (xs : List SubsortPair). FirstFrom c.args.sorts.now [] xs None)
    (append-nil (pairs_in (map f (take c.loop-placed.placed-index decls)))
    ∙ ap (λ (ps : List Placed). pairs_in (map f ps)) whole)
    (c.loop-placed.invariant.first [] None refl)

pub returns-clause-pairs : goal.returns-clause-pairs
returns-clause-pairs c =
    let decls = c.args.decls.now in
    let f : Placed → Declaration = λ (p : Placed). plain_declaration p.decl.now in
    let whole : take c.loop-placed.placed-index decls ≡ decls =
    take_all c.loop-placed.placed-index decls (omega arith) in
    subst (λ (ps : List Placed).
    AllZip (IsPairOf c.args.sorts.now) (pairs_in (map f ps)) c.loop-placed.subsorts) whole
    (c.loop-placed.invariant.numbers [] tt)
