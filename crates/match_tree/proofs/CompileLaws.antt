-- A draft from its first node to the tree.
use Rattle.std.proofs.Common.{◌≡◌, ◌<◌, ℕ, List, [], ◌∷◌, ◌++◌, length, map, refl, sym, ◌∙◌, ap}
use Rattle.std.proofs.Common.{subst, arith}
use Rattle.std.proofs.lemmas.List.{map-append}
use Rattle.pat_matrix.specs.Rows.{Row, numbers_from}
use Rattle.pat_matrix.specs.MatchTrees.{MatchTree, IsMatchTree}
use Rattle.pat_matrix.specs.Occurrences.{Place, row_twins}
use Rattle.pat_matrix.specs.MatrixView.{row_of, rows_of, order_of, numbered_rows}
use Rattle.pat_matrix.specs.declared.matrix.Matrix.{Matrix}
use Rattle.pat_matrix.proofs.Loops.{numbers-rows_at}
use Rattle.match_tree.specs.Labels.{Label}
use Rattle.match_tree.specs.FlatNodes.{PlainNode, try_node, Grows}
use Rattle.match_tree.specs.Drafting.{Work, IsDraft}
use Rattle.match_tree.specs.NodeView.{plain_nodes}
use Rattle.match_tree.specs.WorkView.{work_of, works_of, IsDraftAt, IsDraftOf}
use Rattle.match_tree.specs.TrailView.{plain_trail}
use Rattle.match_tree.specs.declared.draft.Draft.{Draft}
use Rattle.match_tree.specs.declared.draft.Opened.{Opened}
use Rattle.match_tree.specs.declared.trails.Tested.{Tested}
use Rattle.match_tree.proofs.DraftLaws.{draft_last}
use Rattle.match_tree.proofs.FlatLaws.{HasTree, grown}
use Rattle.match_tree.proofs.RefineLaws.{draft_starts}

twins_of_numbers : (m : Matrix) (ns : List ℕ)
    → map (λ (n : ℕ). row_twins (row_of m n)) ns
    ≡ map (λ (r : Row). row_twins r.1) (numbered_rows m ns)
twins_of_numbers m [] = refl
twins_of_numbers m (n ∷ ns) =
    ap (λ (es : List (List (Place × Place))). row_twins (row_of m n) ∷ es) (twins_of_numbers m ns)

-- the twins of all rows
pub twins_by_row : (m : Matrix) (ns : List ℕ) → ns ≡ map (λ (r : Row). r.0) (rows_of m)
    → map (λ (n : ℕ). row_twins (row_of m n)) ns ≡ map (λ (r : Row). row_twins r.1) (rows_of m)
twins_by_row m ns is =
    ap (map (λ (n : ℕ). row_twins (row_of m n)))
    (is ∙ numbers-rows_at m.rows.value.items m.left.items)
    ∙ twins_of_numbers m m.left.items

-- the first draft
pub first_draft : (m : Matrix) (draft : Draft) (rows : List ℕ) (trail : List Tested) (n : ℕ)
    → plain_nodes draft.nodes.items ≡ try_node 0 ∷ [] → draft.pending.items ≡ []
    → rows ≡ map (λ (r : Row). r.0) (rows_of m)
    → map (λ (r : Row). r.0) (rows_of m) ≡ numbers_from 0 n → trail ≡ []
    → IsDraftAt m draft 0 0 rows (plain_trail trail)
first_draft m draft rows trail n nodes pending are numbers none =
    let P : List PlainNode → Type 0 = λ ns. IsDraft m ns
    (record { place = 0; from = 0; rows = rows; trail = plain_trail trail }
    ∷ works_of draft.pending.items) in
    let Q : List Opened → Type 0 = λ os. IsDraft m (try_node 0 ∷ [])
    (record { place = 0; from = 0; rows = rows; trail = plain_trail trail } ∷ works_of os) in
    let R : List Tested → Type 0 = λ t. IsDraft m (try_node 0 ∷ [])
    (record { place = 0; from = 0; rows = rows; trail = plain_trail t } ∷ []) in
    subst P (sym nodes)
    (subst Q (sym pending)
    (subst R (sym none)
    (draft_starts m rows n
    (sym (ap (numbered_rows m) (are ∙ numbers-rows_at m.rows.value.items m.left.items)))
    (are ∙ numbers))))

-- the last work that is left
pub last_work : (m : Matrix) (draft : Draft) (before : List Opened) (opened : Opened)
    → IsDraftOf m draft → draft.pending.items ≡ before ++ opened ∷ []
    → IsDraft m (plain_nodes draft.nodes.items) (work_of opened ∷ works_of before)
last_work m draft before opened h is =
    let P : List Work → Type 0 = IsDraft m (plain_nodes draft.nodes.items) in
    draft_last m (plain_nodes draft.nodes.items) (works_of before) (work_of opened)
    (subst P (ap works_of is ∙ map-append work_of before (opened ∷ [])) h)

-- a draft where nothing is left to do is a tree
pub tree_of : (m : Matrix) (nodes : List PlainNode) → IsDraft m nodes [] → 0 < length nodes
    → (u : MatchTree) × Grows nodes 0 u × IsMatchTree (order_of m) u 0 [] (rows_of m)
tree_of m nodes (labels, h, works) some =
    let P : Label → Type 0 = HasTree (order_of m) nodes 0 in
    subst P h.root (grown (order_of m) labels nodes 0 h.are some)

empty : {X : Type 0} (xs : List X) → length xs ≡ 0 → xs ≡ []
empty [] e = refl
empty (x ∷ xs) e = absurd (omega arith)

pub nothing_left : (m : Matrix) (draft : Draft) → IsDraftOf m draft
    → length draft.pending.items ≡ 0
    → IsDraft m (plain_nodes draft.nodes.items) []
nothing_left m draft h none =
    let P : List Opened → Type 0 = λ os. IsDraft m (plain_nodes draft.nodes.items) (works_of os) in
    subst P (empty draft.pending.items none) h
