use Rattle.std.proofs.Common.{◌≡◌, ◌+◌, ◌∷◌, ◌∙◌, ℕ, List, length, get_or, true}
use Rattle.std.proofs.Common.{false, ap, sym, refl, subst, arith}
use Rattle.std.specs.Prelude.{is_some}
use Rattle.std.proofs.lemmas.List.{length-map}
use Rattle.term_core.specs.Patterns.{Pattern}
use Rattle.term_core.specs.Instances.{patterns}
use Rattle.term_core.specs.RulePatterns.{plain_pattern}
use Rattle.pat_matrix.specs.Collapsed.{AreCollapsed}
use Rattle.pat_matrix.specs.MatchTrees.{matching_rows, rows_from, row_match}
use Rattle.pat_matrix.specs.MatrixView.{rows_of, row_of, order_of}
use Rattle.pat_matrix.specs.Occurrences.{row_twins}
use Rattle.pat_matrix.specs.PlaceView.{twins_of}
use Rattle.match_tree.proofs.OrderLaws.{one_row, no_row, row_collapsed, row_wide, own_twins}
use Rattle.match_tree.proofs.OrderLaws.{whole_number, left_count, twins_count}
use Rattle.match_tree.proofs.compiling.Tree.try_rows.Goals as goal

pub row_matches-requires-clause-collapsed : goal.row_matches-requires-clause-collapsed
row_matches-requires-clause-collapsed g c =
    let m = c.args.self.now.matrix in
    let left = c.left-left.result.now in
    let row_is = whole_number m left c.loop-i.i c.requires.tree.whole c.left-left.ensures
    c.loop-i-test.true in
    let count = left_count m left c.left-left.ensures in
    let P : List Pattern → Type 0 = λ ps. AreCollapsed (patterns ps) in
    subst P (sym (c.row-patterns.ensures ∙ ap (row_of m) row_is))
    (row_collapsed m c.loop-i.i c.requires.tree.whole c.requires.tree.collapsed (omega arith))

pub row_matches-requires-clause-count : goal.row_matches-requires-clause-count
row_matches-requires-clause-count g c =
    let m = c.args.self.now.matrix in
    let left = c.left-left.result.now in
    let row_is = whole_number m left c.loop-i.i c.requires.tree.whole c.left-left.ensures
    c.loop-i-test.true in
    let count = left_count m left c.left-left.ensures in
    sym (length-map c.row-patterns.result.now plain_pattern)
    ∙ ap length (c.row-patterns.ensures ∙ ap (row_of m) row_is)
    ∙ row_wide m (length c.args.subjects.now) c.loop-i.i c.requires.tree.whole c.requires.wide
    (omega arith)

pub row_matches-requires-clause-own : goal.row_matches-requires-clause-own
row_matches-requires-clause-own g c =
    let m = c.args.self.now.matrix in
    let left = c.left-left.result.now in
    let row_is = whole_number m left c.loop-i.i c.requires.tree.whole c.left-left.ensures
    c.loop-i-test.true in
    let count = left_count m left c.left-left.ensures in
    let many = twins_count m c.args.self.now.twins.items c.requires.tree.twins in
    ap twins_of c.deref.ensures.value
    ∙ own_twins m c.args.self.now.twins.items c.loop-i.i c.index.result.now
    c.requires.tree.whole c.requires.tree.twins c.index.ensures (omega arith) (omega arith)
    ∙ sym (ap row_twins (c.row-patterns.ensures ∙ ap (row_of m) row_is))

pub returns-then-row_matches-clause-first : goal.returns-then-row_matches-clause-first
returns-then-row_matches-clause-first g c =
    let m = c.args.self.now.matrix in
    let ts = c.args.subjects.now in
    let i = c.loop-i.i in
    let left = c.left-left.result.now in
    let row_is = whole_number m left i c.requires.tree.whole c.left-left.ensures
    c.loop-i-test.true in
    let count = left_count m left c.left-left.ensures in
    let P : ℕ → Type 0 = λ k. matching_rows (order_of m) (rows_from c.args.from (rows_of m)) ts
    ≡ k ∷ matching_rows (order_of m) (rows_from (k + 1) (rows_of m)) ts in
    subst P (sym row_is)
    (c.loop-i.invariant
    ∙ one_row m ts i true c.requires.tree.whole (omega arith)
    (sym (ap (λ o. is_some (row_match o (row_of m i) ts)) (sym c.subsorts.ensures)
    ∙ ap (λ ps. is_some (row_match c.subsorts.result.now ps ts))
    (sym (c.row-patterns.ensures ∙ ap (row_of m) row_is))
    ∙ sym c.row_matches.ensures ∙ c.if-row_matches.true)))

pub returns-then-row_matches-clause-tried : goal.returns-then-row_matches-clause-tried
returns-then-row_matches-clause-tried g c =
    let m = c.args.self.now.matrix in
    let ts = c.args.subjects.now in
    let row_is = whole_number m c.left-left.result.now c.loop-i.i c.requires.tree.whole
    c.left-left.ensures c.loop-i-test.true in (
      refl,
      omega (arith, row_is, c.loop-i.auto.i),
      ap (λ o. is_some (row_match o (row_of m (get_or c.left-left.result.now c.loop-i.i 0)) ts))
          (sym c.subsorts.ensures)
          ∙ ap (λ ps. is_some (row_match c.subsorts.result.now ps ts))
          (sym c.row-patterns.ensures)
          ∙ sym c.row_matches.ensures ∙ c.if-row_matches.true,
    )

pub loop-i-preserved : goal.loop-i-preserved
loop-i-preserved g c =
    let m = c.args.self.now.matrix in
    let ts = c.args.subjects.now in
    let i = c.loop-i.i in
    let left = c.left-left.result.now in
    let row_is = whole_number m left i c.requires.tree.whole c.left-left.ensures
    c.loop-i-test.true in
    let count = left_count m left c.left-left.ensures in
    c.loop-i.invariant
    ∙ one_row m ts i false c.requires.tree.whole (omega arith)
    (sym (ap (λ o. is_some (row_match o (row_of m i) ts)) (sym c.subsorts.ensures)
    ∙ ap (λ ps. is_some (row_match c.subsorts.result.now ps ts))
    (sym (c.row-patterns.ensures ∙ ap (row_of m) row_is))
    ∙ sym c.row_matches.ensures ∙ c.if-row_matches.false))

pub returns-clause-first : goal.returns-clause-first
returns-clause-first g c =
    let count = left_count c.args.self.now.matrix c.left-left.result.now c.left-left.ensures in
    c.loop-i.invariant
    ∙ no_row c.args.self.now.matrix c.args.subjects.now c.loop-i.i c.requires.tree.whole
    (omega arith)
