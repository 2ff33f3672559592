use Rattle.std.proofs.Common.{◌≡◌, ◌+◌, ◌<◌, ◌++◌, ◌∷◌, [], arith, ap, sym, ◌∙◌, List, map, take}
use Rattle.std.proofs.Common.{drop, get_or, length, Option, subst}
use Rattle.std.specs.List.{cons_option}
use Rattle.std.proofs.lemmas.Result.{err_from_is_err_and}
use Rattle.std.proofs.lemmas.List.{append-nil, append_assoc}
use Rattle.kore_text.specs.Trees.{SortTree, PatternTree}
use Rattle.kore_ast.specs.declared.tree.Pat.{Pat}
use Rattle.kore_ast.specs.Plain.{pattern_tree, plain_sort, plain_axiom_decl}
use Rattle.kore_sig.specs.Attributes.{subsort_pairs}
use Rattle.kore_sig.specs.Declarations.{SubsortPair, pair_at, pairs_of_axiom}
use Rattle.kore_sig.specs.Ordering.{FirstFrom}
use Rattle.kore_sig.proofs.ListLaws.{map_step}
use Rattle.kore_sig.proofs.PairLaws.{passes_then, passes_at, attribute_pairs, split_pairs}
use Rattle.kore_sig.proofs.PairLaws.{refuses_map}
use Rattle.kore_sig.proofs.pairs.add_pairs.Goals as goal
use Rattle.kore_sig.proofs.pairs.add_pairs.Goals.{in-Some+in_ok-add_pair, in_default}

pub loop-attr-preserved : goal.loop-attr-preserved
loop-attr-preserved c =
    let attrs = c.args.decl.now.attrs.items in
    let at = c.args.decl.now.at in
    let i = c.loop-attr.attr-index in
    let ps = map pattern_tree (take i attrs) in
    let so_far = map (pair_at at) (subsort_pairs ps) in
    let lt : i < length attrs = omega arith in
    let next : map (pair_at at) (subsort_pairs (map pattern_tree (take (i + 1) attrs))) ≡ so_far ++
    map (pair_at at) (subsort_pairs (pattern_tree c.attr-item.result ∷ [])) =
    ap (λ (xs : List PatternTree). map (pair_at at) (subsort_pairs xs))
    (map_step pattern_tree attrs i c.attr-item.result lt (c.attr-item.is
    ∙ ap (λ (xs : List Pat). get_or xs i c.attr-item.result)
    c.deref-attr-items.ensures.value))
    ∙ attribute_pairs at ps (pattern_tree c.attr-item.result) in
    elim c.match-subsort_sorts.branch [
      | in-Some+in_ok-add_pair w ↦ let p : SubsortPair =
          record {
            at = at;
            lower = plain_sort w.in-Some.lower.now;
            upper = plain_sort w.in-Some.upper.now;
          } in
          passes_at c.args.sorts.now c.args.subsorts.now w.add_pair.new.subsorts
          c.match-subsort_sorts.subsorts (so_far ++ p ∷ []) _ w.subsorts-is
          (next
          ∙ ap (λ (o : Option (SortTree × SortTree)).
          so_far ++ map (pair_at at) (cons_option o [])) (sym w.in-Some.ensures))
          (passes_then c.args.sorts.now c.args.subsorts.now c.loop-attr.subsorts
          w.add_pair.new.subsorts so_far (p ∷ []) c.loop-attr.invariant
          w.in_ok-add_pair.ensures.passes)
      | in_default w ↦ passes_at c.args.sorts.now c.args.subsorts.now c.loop-attr.subsorts
          c.match-subsort_sorts.subsorts so_far _ w.subsorts-is
          (next
          ∙ ap (λ (o : Option (SortTree × SortTree)).
          so_far ++ map (pair_at at) (cons_option o [])) (sym w.in_default.ensures)
          ∙ append-nil so_far)
          c.loop-attr.invariant
    ]

pub returns-in_err-add_pair-clause-refused : goal.returns-in_err-add_pair-clause-refused
returns-in_err-add_pair-clause-refused c =
    let attrs = c.args.decl.now.attrs.items in
    let at = c.args.decl.now.at in
    let i = c.loop-attr.attr-index in
    let sorts = c.args.sorts.now in
    let p : SubsortPair =
    record {
      at = at;
      lower = plain_sort c.in-Some.lower.now;
      upper = plain_sort c.in-Some.upper.now;
    } in
    let so_far = map (pair_at at) (subsort_pairs (map pattern_tree (take i attrs))) in
    let left = map (pair_at at) (subsort_pairs (map pattern_tree (drop (i + 1) attrs))) in
    let lt : i < length attrs = omega arith in
    let all : pairs_of_axiom (plain_axiom_decl c.args.decl.now) ≡ so_far ++ p ∷ left =
    split_pairs at attrs i c.attr-item.result (plain_sort c.in-Some.lower.now)
    (plain_sort c.in-Some.upper.now) lt (c.attr-item.is
    ∙ ap (λ (xs : List Pat). get_or xs i c.attr-item.result)
    c.deref-attr-items.ensures.value) c.in-Some.ensures in
    let q = err_from_is_err_and c.from_residual.result c.from_residual.ensures.1 in
    rw (q.1, q.2) (refuses_map
    (λ r. (rest : List SubsortPair) → FirstFrom sorts c.loop-attr.subsorts (p ∷ rest) r)
    (λ r. (rest : List SubsortPair)
    → FirstFrom sorts c.args.subsorts.now
    (pairs_of_axiom (plain_axiom_decl c.args.decl.now) ++ rest) r)
    c.in_err-add_pair.field-0.0
    (λ r h rest. subst (λ (ps : List SubsortPair). FirstFrom sorts c.args.subsorts.now ps r)
    (sym (append_assoc so_far (p ∷ left) rest)
    ∙ ap (λ (ps : List SubsortPair). ps ++ rest) (sym all))
    (c.loop-attr.invariant.first (p ∷ (left ++ rest)) r (h (left ++ rest))))
    c.in_err-add_pair.ensures.refused)
