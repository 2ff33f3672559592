-- What the steps of the code make of a draft.
use Rattle.std.proofs.Common.{◌≡◌, ◌<◌, ◌≤◌, ◌+◌, ℕ, zero, suc, Bool, false, List, [], ◌∷◌, ◌++◌, length, map}
use Rattle.std.proofs.Common.{set, drop, get_or, replicate, Option, Some, None, option_map, refl}
use Rattle.std.proofs.Common.{inl, inr, sym, ◌∙◌, ap, subst, arith}
use Rattle.std.specs.Prelude.{◌||◌}
use Rattle.std.specs.Global.{Vec, Box}
use Rattle.std.specs.List.{IsDistinct, All}
use Rattle.std.proofs.lemmas.List.Elements.{All-from_recursion}
use Rattle.std.proofs.lemmas.Map.Keys.{IsDistinct-head, IsDistinct-tail}
use Rattle.std.proofs.lemmas.List.{length-map, map-append, append_assoc, length-append, drop_more}
use Rattle.std.proofs.lemmas.List.{length-replicate}
use Rattle.term_core.specs.Patterns.{Pattern}
use Rattle.term_core.specs.declared.ids.SortId.{SortId}
use Rattle.pat_matrix.specs.Heads.{PlainHead, head_eq}
use Rattle.pat_matrix.specs.HeadView.{head_of, is_listed}
use Rattle.pat_matrix.specs.Groups.{lists_of, IsSplit}
use Rattle.pat_matrix.specs.contracts.heads.HeadPartialEq.TheImpl as derived
use Rattle.pat_matrix.specs.declared.groups.Groups.{Groups}
use Rattle.pat_matrix.specs.declared.groups.Split.{Split}
use Rattle.pat_matrix.proofs.HeadLists.{same_head}
use Rattle.pat_matrix.specs.Rows.{numbers_from}
use Rattle.pat_matrix.specs.declared.heads.Head.{Head}
use Rattle.pat_matrix.proofs.Loops.{numbers_from-next}
use Rattle.match_tree.specs.Joining.{joined}
use Rattle.match_tree.specs.TrailView.{sort_number, plain_trail}
use Rattle.match_tree.specs.WorkView.{branch_trail, work_of, works_of, IsDraftAt}
use Rattle.match_tree.specs.WorkView.{IsHanded, IsTestOf}
use Rattle.match_tree.specs.declared.draft.Draft.{Draft}
use Rattle.match_tree.specs.declared.draft.Parted.{Parted}
use Rattle.match_tree.specs.declared.testing.Test.{Test}
use Rattle.match_tree.specs.declared.trails.Tested.{Tested}
use Rattle.pat_matrix.specs.Positions.{asked_positions}
use Rattle.pat_matrix.specs.Occurrences.{row_twins}
use Rattle.pat_matrix.specs.Rows.{Row, some_takes}
use Rattle.pat_matrix.specs.MatrixView.{row_of, order_of, numbered_rows}
use Rattle.pat_matrix.specs.declared.matrix.Matrix.{Matrix}
use Rattle.match_tree.specs.FlatNodes.{PlainNode, hit_node, test_node, try_node, has_head}
use Rattle.match_tree.specs.Trails.{Trail, source_of, first_untested}
use Rattle.match_tree.specs.Spots.{spots_of}
use Rattle.match_tree.specs.SpotView.{plain_spots}
use Rattle.match_tree.specs.Drafting.{Work, IsDraft, branch_works, AreApart, most_nodes}
use Rattle.match_tree.specs.Drafting.{most_tested}
use Rattle.match_tree.specs.NodeView.{plain_node, plain_nodes}
use Rattle.match_tree.specs.declared.nodes.Node.{Node}
use Rattle.match_tree.specs.declared.nodes.Node.TheVariants as form
use Rattle.match_tree.specs.declared.nodes.RowHit.{RowHit}
use Rattle.match_tree.proofs.RefineLaws.{draft_hit, draft_test, other_work}
use Rattle.match_tree.proofs.DraftLaws.{draft_leave, draft_end}
use Rattle.match_tree.proofs.TestLaws.{head_eq-turned}

pub set_map : {X Y : Type 0} (f : X → Y) (xs : List X) (k : ℕ) (x : X)
    → set (map f xs) k (f x) ≡ map f (set xs k x)
set_map f [] k x = refl
set_map f (y ∷ xs) zero x = refl
set_map f (y ∷ xs) (suc k) x = ap (λ (zs : List _). f y ∷ zs) (set_map f xs k x)

-- a hit, and the place of its later rows
pub hit_added : (m : Matrix) (old mid : List Node) (ws : List Work) (place from : ℕ)
    (rows : List ℕ) (trail : Trail) (hit : RowHit)
    → IsDraft m (plain_nodes old)
    (record { place = place; from = from; rows = hit.row ∷ rows; trail = trail } ∷ ws)
    → first_untested trail (asked_positions (row_of m hit.row)) ≡ None
    → mid ≡ old ++ form.Try (hit.row + 1) ∷ [] → hit.next ≡ length old
    → plain_spots hit.spots.items ≡ spots_of trail (row_twins (row_of m hit.row))
    → IsDraft m (plain_nodes (set mid place (form.Hit hit)))
    (record { place = hit.next; from = hit.row + 1; rows = rows; trail = trail } ∷ ws)
hit_added m old mid ws place from rows trail hit draft none more next spots =
    let count : length (plain_nodes old) ≡ hit.next = length-map old plain_node ∙ sym next in
    let P : ℕ → Type 0 = λ n. IsDraft m
    (set (plain_nodes old ++ try_node (hit.row + 1) ∷ []) place
    (hit_node hit.row (plain_spots hit.spots.items) n))
    (record { place = n; from = hit.row + 1; rows = rows; trail = trail } ∷ ws) in
    let Q : List PlainNode → Type 0 = λ nodes. IsDraft m nodes
    (record { place = hit.next; from = hit.row + 1; rows = rows; trail = trail } ∷ ws) in
    let nodes : set (plain_nodes old ++ try_node (hit.row + 1) ∷ []) place
    (hit_node hit.row (plain_spots hit.spots.items) hit.next)
    ≡ plain_nodes (set mid place (form.Hit hit)) =
    ap (λ (ns : List PlainNode). set ns place (plain_node (form.Hit hit)))
    (sym (map-append plain_node old (form.Try (hit.row + 1) ∷ [])) ∙ ap plain_nodes (sym more))
    ∙ set_map plain_node mid place (form.Hit hit) in
    subst Q nodes
    (subst P count
    (draft_hit m (plain_nodes old)
    (record { place = place; from = from; rows = hit.row ∷ rows; trail = trail }) ws hit.row rows
    (plain_spots hit.spots.items) draft refl none spots))

-- ---- the branches of a test

replicate_next : {X : Type 0} (n : ℕ) (x : X) → replicate (n + 1) x ≡ replicate n x ++ x ∷ []
replicate_next zero x = refl
replicate_next (suc n) x =
    let next : suc n + 1 ≡ suc (n + 1) = omega arith in
    rw next (ap (λ (xs : List _). x ∷ xs) (replicate_next n x))

-- how many nodes there are after so many branches
pub nodes_so_far : (old now : List Node) (n : ℕ) (from : ℕ)
    → plain_nodes now ≡ plain_nodes old ++ replicate n (try_node from)
    → length now ≡ length old + n
nodes_so_far old now n from is =
    sym (length-map now plain_node) ∙ ap length is
    ∙ length-append (plain_nodes old) (replicate n (try_node from))
    ∙ ap (λ (k : ℕ). k + length (replicate n (try_node from))) (length-map old plain_node)
    ∙ ap (λ (k : ℕ). length old + k) (length-replicate n (try_node from))

pub nodes_next : (old now new : List Node) (n many : ℕ) (p q : Parted) → many ≡ n + 1
    → q ≡ p → plain_nodes now ≡ plain_nodes old ++ replicate n (try_node p.from)
    → plain_nodes new ≡ plain_nodes now ++ try_node q.from ∷ []
    → plain_nodes new ≡ plain_nodes old ++ replicate many (try_node p.from)
nodes_next old now new n many p q count same was more =
    more ∙ ap (λ (r : Parted). plain_nodes now ++ try_node r.from ∷ []) same
    ∙ ap (λ (ns : List PlainNode). ns ++ try_node p.from ∷ []) was
    ∙ append_assoc (plain_nodes old) (replicate n (try_node p.from)) (try_node p.from ∷ [])
    ∙ ap (λ (ns : List PlainNode). plain_nodes old ++ ns)
    (sym (replicate_next n (try_node p.from)))
    ∙ ap (λ (k : ℕ). plain_nodes old ++ replicate k (try_node p.from)) (sym count)

pub places_next : (count n many at : ℕ) (old new : List ℕ) → many ≡ n + 1 → at ≡ count + n
    → old ≡ numbers_from count n → new ≡ old ++ at ∷ [] → new ≡ numbers_from count many
places_next count n many at old new counted is was more =
    more ∙ ap (λ (k : ℕ). old ++ k ∷ []) is
    ∙ ap (λ (ns : List ℕ). ns ++ (count + n) ∷ []) was ∙ sym (numbers_from-next count n)
    ∙ ap (numbers_from count) (sym counted)

-- what is left to do for the branches from one on, after that one was opened
pub works_next : (count n many at i : ℕ) (heads : List Head) (head : Head) (own : Vec ℕ)
    (rest later : List (Vec ℕ)) (p q : Parted) (source : Option SortId) (now new whole : List Work)
    → many ≡ n + 1 → at ≡ count + n → i ≡ n → q ≡ p → n < length heads
    → head ≡ get_or heads i head
    → option_map sort_number source ≡ source_of (Some (head_of head)) → rest ≡ own ∷ later
    → now ++ branch_works (count + n) p.from p.wild.items (branch_trail p) p.position.items
    (map head_of (drop n heads)) (lists_of rest) ≡ whole
    → new ≡ now ++ record {
      place = at;
      from = q.from;
      rows = joined own.items q.wild.items;
      trail = branch_trail q ++ (q.position.items, option_map sort_number source) ∷ [];
    } ∷ []
    → new ++ branch_works (count + many) p.from p.wild.items (branch_trail p) p.position.items
    (map head_of (drop many heads)) (lists_of later) ≡ whole
works_next count n many at i heads head own rest later p q source now new whole counted placed
    index_is same lt is sort steps was more =
    let front : drop n heads ≡ head ∷ drop (n + 1) heads =
    drop_more heads n head lt
    ∙ ap (λ (k : Head). k ∷ drop (n + 1) heads)
    (sym (is ∙ ap (λ (j : ℕ). get_or heads j head) index_is)) in
    let index : count + n + 1 ≡ count + (n + 1) = omega arith in
    ap (λ (ws : List Work). ws ++ branch_works (count + many) p.from p.wild.items (branch_trail p)
    p.position.items (map head_of (drop many heads)) (lists_of later))
    (more
    ∙ ap (λ (k : ℕ). now ++ record {
      place = k;
      from = q.from;
      rows = joined own.items q.wild.items;
      trail = branch_trail q ++ (q.position.items, option_map sort_number source) ∷ [];
    } ∷ []) placed
    ∙ ap (λ (r : Parted). now ++ record {
      place = count + n;
      from = r.from;
      rows = joined own.items r.wild.items;
      trail = branch_trail r ++ (r.position.items, option_map sort_number source) ∷ [];
    } ∷ []) same
    ∙ ap (λ (o : Option ℕ). now ++ record {
      place = count + n;
      from = p.from;
      rows = joined own.items p.wild.items;
      trail = branch_trail p ++ (p.position.items, o) ∷ [];
    } ∷ []) sort)
    ∙ append_assoc now _ _
    ∙ ap (λ (k : ℕ). now ++ (record {
      place = count + n;
      from = p.from;
      rows = joined own.items p.wild.items;
      trail = branch_trail p ++ (p.position.items, source_of (Some (head_of head))) ∷ [];
    } ∷ branch_works (count + k) p.from p.wild.items (branch_trail p) p.position.items
    (map head_of (drop k heads)) (lists_of later))) counted
    ∙ ap (λ (k : ℕ). now ++ (record {
      place = count + n;
      from = p.from;
      rows = joined own.items p.wild.items;
      trail = branch_trail p ++ (p.position.items, source_of (Some (head_of head))) ∷ [];
    } ∷ branch_works k p.from p.wild.items (branch_trail p) p.position.items
    (map head_of (drop (n + 1) heads)) (lists_of later))) (sym index)
    ∙ sym (ap (λ (vs : List (Vec ℕ)). now ++ branch_works (count + n) p.from p.wild.items
    (branch_trail p) p.position.items (map head_of (drop n heads)) (lists_of vs)) steps
    ∙ ap (λ (hs : List Head). now ++ branch_works (count + n) p.from p.wild.items
    (branch_trail p) p.position.items (map head_of hs) (lists_of (own ∷ later))) front)
    ∙ was

-- ---- a test

has_head-keys : (ks : List Head) (h : PlainHead) → has_head (map head_of ks) h ≡ is_listed ks h
has_head-keys [] h = refl
has_head-keys (k ∷ ks) h = ap (λ (b : Bool). head_eq (head_of k) h || b) (has_head-keys ks h)

none_is : (k : Head) (ks : List Head) → All (λ (y : Head). derived.ghosts.eq k y ≡ false) ks
    → has_head (map head_of ks) (head_of k) ≡ false
none_is k [] h = refl
none_is k (y ∷ ks) h =
    ap (λ (b : Bool). b || has_head (map head_of ks) (head_of k))
    (head_eq-turned (head_of k) (head_of y) false
    (sym (same_head k y) ∙ h 0 y (omega arith)))
    ∙ none_is k ks (λ i d lt. h (suc i) d (omega arith))

pub keys_apart : (ks : List Head) → IsDistinct derived.ghosts.eq ks → AreApart (map head_of ks)
keys_apart [] h = tt
keys_apart (k ∷ ks) h = (
  none_is k ks (All-from_recursion _ ks (IsDistinct-head derived.ghosts.eq k ks h)),
  keys_apart ks (IsDistinct-tail derived.ghosts.eq k ks h),
)

-- there is no room for a test
pub no_room : (m : Matrix) (nodes : List Node) (w : Work) (ws : List Work) (position : List ℕ)
    (s : Split) → IsDraft m (plain_nodes nodes) (w ∷ ws) → IsSplit m position w.rows s
    → AreApart (map head_of s.groups.heads.keys)
    → most_nodes ≤ length nodes + length s.groups.heads.keys → IsDraft m (plain_nodes nodes) ws
no_room m nodes w ws position s draft split apart past =
    draft_leave m (plain_nodes nodes) w ws draft (inl (
      position,
      map head_of s.groups.heads.keys,
      apart,
      λ h. has_head-keys s.groups.heads.keys h ∙ split.listed h,
      omega (arith, length-map nodes plain_node, length-map s.groups.heads.keys head_of),
    ))

pub length-branch_works : (place from : ℕ) (wild : List ℕ) (trail : Trail) (position : List ℕ)
    (hs : List PlainHead) (lists : List (List ℕ))
    → length (branch_works place from wild trail position hs lists) ≤ length hs
length-branch_works place from wild trail position [] lists = omega arith
length-branch_works place from wild trail position (h ∷ hs) [] = omega arith
length-branch_works place from wild trail position (h ∷ hs) (ns ∷ lists) =
    let rest = length-branch_works (place + 1) from wild trail position hs lists in omega arith

pub handed : (old mid new : Draft) (p q r : Parted) (none : Vec ℕ) (groups : Groups) → q ≡ p
    → r ≡ p → none.items ≡ []
    → plain_nodes mid.nodes.items ≡ plain_nodes old.nodes.items ++ try_node q.from ∷ []
    → works_of mid.pending.items ≡ works_of old.pending.items ++ record {
      place = length old.nodes.items;
      from = q.from;
      rows = joined none.items q.wild.items;
      trail = branch_trail q ++ (q.position.items, None) ∷ [];
    } ∷ []
    → plain_nodes new.nodes.items ≡ plain_nodes mid.nodes.items
    ++ replicate (length groups.heads.keys) (try_node r.from)
    → works_of new.pending.items ≡ works_of mid.pending.items
    ++ branch_works (length mid.nodes.items) r.from r.wild.items (branch_trail r) r.position.items
    (map head_of groups.heads.keys) (lists_of groups.rows.items)
    → IsHanded old new p groups
handed old mid new p q r none groups same like empty nodes works more later =
    let n : ℕ = length groups.heads.keys in
    let hs : List PlainHead = map head_of groups.heads.keys in
    let count : length mid.nodes.items ≡ length old.nodes.items + 1 =
    sym (length-map mid.nodes.items plain_node) ∙ ap length nodes
    ∙ length-append (plain_nodes old.nodes.items) (try_node q.from ∷ [])
    ∙ ap (λ (k : ℕ). k + 1) (length-map old.nodes.items plain_node) in record {
      nodes = more
          ∙ ap (λ (t : Parted). plain_nodes mid.nodes.items ++ replicate n (try_node t.from)) like
          ∙ ap (λ (ns : List PlainNode). ns ++ replicate n (try_node p.from))
          (nodes
          ∙ ap (λ (t : Parted). plain_nodes old.nodes.items ++ try_node t.from ∷ []) same)
          ∙ append_assoc (plain_nodes old.nodes.items) (try_node p.from ∷ [])
          (replicate n (try_node p.from));
      works = later
          ∙ ap (λ (t : Parted). works_of mid.pending.items
          ++ branch_works (length mid.nodes.items) t.from t.wild.items (branch_trail t)
          t.position.items hs (lists_of groups.rows.items)) like
          ∙ ap (λ (k : ℕ). works_of mid.pending.items
          ++ branch_works k p.from p.wild.items (branch_trail p) p.position.items hs
          (lists_of groups.rows.items)) count
          ∙ ap (λ (ws : List Work). ws ++ branch_works (length old.nodes.items + 1) p.from
          p.wild.items (branch_trail p) p.position.items hs (lists_of groups.rows.items))
          (works
          ∙ ap (λ (ns : List ℕ). works_of old.pending.items ++ record {
            place = length old.nodes.items;
            from = q.from;
            rows = joined ns q.wild.items;
            trail = branch_trail q ++ (q.position.items, None) ∷ [];
          } ∷ []) empty
          ∙ ap (λ (t : Parted). works_of old.pending.items ++ record {
            place = length old.nodes.items;
            from = t.from;
            rows = t.wild.items;
            trail = branch_trail t ++ (t.position.items, None) ∷ [];
          } ∷ []) same)
          ∙ append_assoc (works_of old.pending.items) _ _;
    }

-- how many they are
pub handed_nodes : (old new : Draft) (p : Parted) (groups : Groups) → IsHanded old new p groups
    → length new.nodes.items ≡ length old.nodes.items + 1 + length groups.heads.keys
handed_nodes old new p groups h =
    let n : ℕ = length groups.heads.keys in
    let more : length (try_node p.from ∷ replicate n (try_node p.from)) ≡ suc n =
    ap suc (length-replicate n (try_node p.from)) in
    sym (length-map new.nodes.items plain_node) ∙ ap length h.nodes
    ∙ length-append (plain_nodes old.nodes.items) _
    ∙ ap (λ (k : ℕ). length (plain_nodes old.nodes.items) + k) more
    ∙ ap (λ (k : ℕ). k + suc n) (length-map old.nodes.items plain_node)
    ∙ omega arith

pub handed_works : (old new : Draft) (p : Parted) (groups : Groups) → IsHanded old new p groups
    → length new.pending.items ≤ length old.pending.items + 1 + length groups.heads.keys
handed_works old new p groups h =
    let most = length-branch_works (length old.nodes.items + 1) p.from p.wild.items
    (branch_trail p) p.position.items (map head_of groups.heads.keys)
    (lists_of groups.rows.items) in
    let same : length (works_of new.pending.items) ≡ length new.pending.items =
    length-map new.pending.items work_of in
    let first : length (works_of old.pending.items) ≡ length old.pending.items =
    length-map old.pending.items work_of in
    let many : length (map head_of groups.heads.keys) ≡ length groups.heads.keys =
    length-map groups.heads.keys head_of in
    let all = ap length h.works ∙ length-append (works_of old.pending.items) _ in omega arith

pub test_added : (m : Matrix) (old new : Draft) (p : Parted) (place row : ℕ)
    (rows later : List ℕ) (position : Vec ℕ) (test : Box Test) (s : Split)
    → IsDraftAt m old place p.from rows (branch_trail p) → rows ≡ row ∷ later
    → first_untested (branch_trail p) (asked_positions (row_of m row)) ≡ Some position.items
    → IsSplit m position.items rows s → AreApart (map head_of s.groups.heads.keys)
    → IsHanded old new p s.groups → p.position.items ≡ position.items
    → p.wild.items ≡ s.wild.items
    → IsTestOf test.value position s.groups (length old.nodes.items)
    → IsDraft m (plain_nodes (set new.nodes.items place (form.Test test)))
    (works_of new.pending.items)
test_added m old new p place row rows later position test s draft is asks split apart handed
    place_is wild_is made =
    let hs : List PlainHead = map head_of s.groups.heads.keys in
    let ws : List Work = works_of old.pending.items in
    let nodes : List PlainNode = plain_nodes old.nodes.items in
    let lists : List (List ℕ) = lists_of s.groups.rows.items in
    let at : List ℕ = position.items in
    let count : length nodes ≡ length old.nodes.items = length-map old.nodes.items plain_node in
    let heads : length hs ≡ length s.groups.heads.keys =
    length-map s.groups.heads.keys head_of in
    let drafted = draft_test m nodes
    (record { place = place; from = p.from; rows = rows; trail = branch_trail p }) ws row later at
    hs lists s.wild.items draft is asks apart
    (length-map s.groups.rows.items (λ (v : Vec ℕ). v.items) ∙ split.counted ∙ sym heads)
    (λ h. has_head-keys s.groups.heads.keys h ∙ split.listed h) (λ h there. split.taking h)
    split.wild in
    let plain : PlainNode =
    test_node at hs (numbers_from (length nodes + 1) (length hs)) (length nodes) in
    let node : plain ≡ plain_node (form.Test test) =
    ap (λ (n : ℕ). test_node at hs (numbers_from (n + 1) (length hs)) n) count
    ∙ ap (λ (n : ℕ). test_node at hs (numbers_from (length old.nodes.items + 1) n)
    (length old.nodes.items)) heads
    ∙ ap (λ (ns : List ℕ). test_node at hs ns (length old.nodes.items)) (sym made.branches)
    ∙ ap (λ (n : ℕ). test_node at hs test.value.branches.items n) (sym made.other)
    ∙ ap (λ (ks : List Head). test_node at (map head_of ks) test.value.branches.items
    test.value.other) (sym made.heads)
    ∙ ap (λ (x : List ℕ). test_node x (map head_of test.value.heads.keys)
    test.value.branches.items test.value.other) (sym made.position) in
    let P : List PlainNode → Type 0 = λ ns. IsDraft m ns (works_of new.pending.items) in
    let Q : List Work → Type 0 = λ vs. IsDraft m
    (set (nodes ++ (try_node p.from ∷ replicate (length hs) (try_node p.from))) place plain) vs in
    subst P
    (ap (λ (n : ℕ). set (nodes ++ (try_node p.from ∷ replicate n (try_node p.from))) place plain)
    heads
    ∙ ap (λ (ns : List PlainNode). set ns place plain) (sym handed.nodes)
    ∙ ap (set (plain_nodes new.nodes.items) place) node
    ∙ set_map plain_node new.nodes.items place (form.Test test))
    (subst Q
    (ap (λ (n : ℕ). ws ++ other_work n p.from s.wild.items (branch_trail p) at
    ∷ branch_works (n + 1) p.from s.wild.items (branch_trail p) at hs lists) count
    ∙ ap (λ (ns : List ℕ). ws ++ other_work (length old.nodes.items) p.from ns (branch_trail p) at
    ∷ branch_works (length old.nodes.items + 1) p.from ns (branch_trail p) at hs lists)
    (sym wild_is)
    ∙ ap (λ (x : List ℕ). ws
    ++ other_work (length old.nodes.items) p.from p.wild.items (branch_trail p) x
    ∷ branch_works (length old.nodes.items + 1) p.from p.wild.items (branch_trail p) x hs lists)
    (sym place_is)
    ∙ sym handed.works)
    drafted)

-- ---- no room for a hit, and an end

none_asked : (pairs : List (ℕ × ℕ)) (h : PlainHead) (rows : List Row)
    → false ≡ some_takes pairs [] h rows
none_asked pairs h [] = refl
none_asked pairs h (r ∷ rows) = none_asked pairs h rows

pub no_room_for_hit : (m : Matrix) (nodes : List Node) (w : Work) (ws : List Work)
    → IsDraft m (plain_nodes nodes) (w ∷ ws) → most_nodes ≤ length nodes
    → IsDraft m (plain_nodes nodes) ws
no_room_for_hit m nodes w ws draft past =
    draft_leave m (plain_nodes nodes) w ws draft (inl (
      [],
      [],
      tt,
      λ h. none_asked (order_of m) h (numbered_rows m w.rows),
      omega (arith, length-map nodes plain_node),
    ))

-- enough was tested on the way
pub enough_tested : (m : Matrix) (nodes : List Node) (place from : ℕ) (rows : List ℕ)
    (trail : List Tested) (ws : List Work)
    → IsDraft m (plain_nodes nodes)
    (record { place = place; from = from; rows = rows; trail = plain_trail trail } ∷ ws)
    → most_tested ≤ length trail → IsDraft m (plain_nodes nodes) ws
enough_tested m nodes place from rows trail ws draft enough =
    let count : length trail ≡ length (plain_trail trail) =
    sym (length-map trail (λ e. (e.position.items, option_map sort_number e.source))) in
    draft_leave m (plain_nodes nodes)
    (record { place = place; from = from; rows = rows; trail = plain_trail trail }) ws draft
    (inr (subst (λ (n : ℕ). most_tested ≤ n) count enough))

pub end_added : (m : Matrix) (nodes : List Node) (place from : ℕ) (rows : List ℕ) (trail : Trail)
    (ws : List Work)
    → IsDraft m (plain_nodes nodes)
    (record { place = place; from = from; rows = rows; trail = trail } ∷ ws)
    → rows ≡ [] → IsDraft m (plain_nodes (set nodes place form.End)) ws
end_added m nodes place from rows trail ws draft none =
    let P : List PlainNode → Type 0 = λ ns. IsDraft m ns ws in
    subst P (set_map plain_node nodes place form.End)
    (draft_end m (plain_nodes nodes)
    (record { place = place; from = from; rows = rows; trail = trail }) ws draft none)

-- a hit of the first of the rows that are left
pub hit_goes_on : (m : Matrix) (old new : Draft) (place from i next : ℕ) (rows : List ℕ)
    (t u v : List Tested) (ps : List Pattern) (o : Option (Vec ℕ)) → i < length rows → u ≡ t
    → v ≡ t → ps ≡ row_of m (get_or rows i 0) → o ≡ None
    → option_map (λ (p : Vec ℕ). p.items) o
    ≡ first_untested (plain_trail u) (asked_positions ps)
    → IsDraftAt m old place from (drop i rows) (plain_trail t)
    → ((f : ℕ) (later : List ℕ)
    → IsDraftAt m old place f (get_or rows i 0 ∷ later) (plain_trail v)
    → first_untested (plain_trail v) (asked_positions (row_of m (get_or rows i 0))) ≡ None
    → IsDraftAt m new next (get_or rows i 0 + 1) later (plain_trail v))
    → IsDraftAt m new next (get_or rows i 0 + 1) (drop (i + 1) rows) (plain_trail t)
hit_goes_on m old new place from i next rows t u v ps o lt same like row none found draft hit =
    let P : List ℕ → Type 0 = λ ns. IsDraftAt m old place from ns (plain_trail t) in
    let Q : List Tested → Type 0 =
    λ x. IsDraftAt m old place from (get_or rows i 0 ∷ drop (i + 1) rows) (plain_trail x) in
    let R : List Tested → Type 0 =
    λ x. IsDraftAt m new next (get_or rows i 0 + 1) (drop (i + 1) rows) (plain_trail x) in
    subst R like
    (hit from (drop (i + 1) rows)
    (subst Q (sym like) (subst P (drop_more rows i 0 lt) draft))
    (ap (λ (x : List Tested). first_untested (plain_trail x)
    (asked_positions (row_of m (get_or rows i 0)))) (like ∙ sym same)
    ∙ ap (λ (qs : List Pattern). first_untested (plain_trail u) (asked_positions qs)) (sym row)
    ∙ sym found ∙ ap (option_map (λ (p : Vec ℕ). p.items)) none))
