-- A matching tree finds the rows that match, in their order.
use Rattle.std.proofs.Common.{◌≡◌, ◌+◌, ◌<◌, ◌≤◌, nat_lt, arith, ◌⊎◌, inl, inr, ℕ, Bool, true}
use Rattle.std.proofs.Common.{false, List, [], ◌∷◌}
use Rattle.std.proofs.Common.{Option, Some, None, option_map, refl, sym, ◌∙◌, ap, subst}
use Rattle.std.specs.Prelude.{◌||◌, if◌then◌else◌, filter, is_some, not}
use Rattle.std.specs.List.{list_any}
use Rattle.std.proofs.lemmas.Bool.{false≢true, lt-ltb, le-ltb, ltb-true, ltb-false}
use Rattle.term_core.specs.Terms.{Tree}
use Rattle.term_core.specs.Patterns.{Pattern}
use Rattle.term_core.specs.Instances.{patterns}
use Rattle.pat_matrix.specs.Collapsed.{AreCollapsed}
use Rattle.pat_matrix.specs.Heads.{PlainHead, head_eq, root}
use Rattle.pat_matrix.specs.Positions.{row_asks, subject_at}
use Rattle.pat_matrix.specs.Rows.{Row, is_wild, wants, takes_there, specialized, others, some_takes}
use Rattle.pat_matrix.specs.MatchTrees.{MatchTree, end, hit, test, in_order, Branches, no_branch}
use Rattle.pat_matrix.specs.MatchTrees.{branch, has_branch, AreBranches, AllCollapsed}
use Rattle.pat_matrix.specs.MatchTrees.{hits, branch_hits, matching_rows, row_match, rows_from}
use Rattle.pat_matrix.specs.MatchTrees.{AreRising}
use Rattle.pat_matrix.specs.MatchTrees.{Findings}
use Rattle.pat_matrix.specs.MatrixLaws.{takes_root}
use Rattle.pat_matrix.specs.TreeLaws.{TreeFindsMatches}
use Rattle.pat_matrix.proofs.HeadLaws.{head_eq-true}
use Rattle.pat_matrix.proofs.PartLaws.{untaken_do_not_match}

-- the rows that are left out do not match
abbrev pub LeftOut : List (ℕ × ℕ) → (Row → Bool) → List Tree → List Row → Type 0
LeftOut pairs keep ts [] = Unit {0}
LeftOut pairs keep ts (r ∷ rows) =
    (keep r ≡ false → row_match pairs r.1 ts ≡ None) × LeftOut pairs keep ts rows

kept_step : (pairs : List (ℕ × ℕ)) (keep : Row → Bool) (r : Row) (rows : List Row) (ts : List Tree)
    (b : Bool) → keep r ≡ b → (b ≡ false → row_match pairs r.1 ts ≡ None)
    → matching_rows pairs (filter keep rows) ts ≡ matching_rows pairs rows ts
    → matching_rows pairs (filter keep (r ∷ rows)) ts ≡ matching_rows pairs (r ∷ rows) ts
kept_step pairs keep r rows ts true is none rest =
    rw is
    (ap (λ (ns : List ℕ). if is_some (row_match pairs r.1 ts) then r.0 ∷ ns else ns) rest)
kept_step pairs keep r rows ts false is none rest = rw (is, none refl) rest

-- they make no difference
pub matching_rows-kept : (pairs : List (ℕ × ℕ)) (keep : Row → Bool) (rows : List Row)
    (ts : List Tree) → LeftOut pairs keep ts rows
    → matching_rows pairs (filter keep rows) ts ≡ matching_rows pairs rows ts
matching_rows-kept pairs keep [] ts h = refl
matching_rows-kept pairs keep (r ∷ rows) ts h =
    kept_step pairs keep r rows ts (keep r) refl h.0
    (matching_rows-kept pairs keep rows ts h.1)

all_collapsed-step : (keep : Row → Bool) (r : Row) (rows : List Row) (b : Bool) → keep r ≡ b
    → AreCollapsed (patterns r.1) → AllCollapsed (filter keep rows)
    → AllCollapsed (filter keep (r ∷ rows))
all_collapsed-step keep r rows true is first rest = rw is (first, rest)
all_collapsed-step keep r rows false is first rest = rw is rest

pub all_collapsed-filter : (keep : Row → Bool) (rows : List Row) → AllCollapsed rows
    → AllCollapsed (filter keep rows)
all_collapsed-filter keep [] h = h
all_collapsed-filter keep (r ∷ rows) h =
    all_collapsed-step keep r rows (keep r) refl h.0 (all_collapsed-filter keep rows h.1)

-- ---- rows that do not match

unwanted : (pairs : List (ℕ × ℕ)) (ps : List Pattern) (ts : List Tree) (position : List ℕ)
    (u : Tree) (o : Option Pattern) → AreCollapsed (patterns ps) → subject_at ts position ≡ Some u
    → row_asks ps position ≡ o → wants pairs (root u) o ≡ false → row_match pairs ps ts ≡ None
unwanted pairs ps ts position u None h there is no_want = absurd (false≢true (sym no_want))
unwanted pairs ps ts position u (Some q) h there is no_want =
    untaken_do_not_match pairs ps ts position q _ h is
    (ap (takes_root pairs q) there ∙ no_want)

pub unwanted_left_out : (pairs : List (ℕ × ℕ)) (position : List ℕ) (u : Tree) (rows : List Row)
    (ts : List Tree) → AllCollapsed rows → subject_at ts position ≡ Some u
    → LeftOut pairs (λ (r : Row). wants pairs (root u) (row_asks r.1 position)) ts rows
unwanted_left_out pairs position u [] ts h there = tt
unwanted_left_out pairs position u (r ∷ rows) ts h there = (
  λ no_want. unwanted pairs r.1 ts position u (row_asks r.1 position) h.0 there refl no_want,
  unwanted_left_out pairs position u rows ts h.1 there,
)

-- a row has the head that the subjects have there, if they have one there
abbrev pub takes_found : List (ℕ × ℕ) → Option Tree → Option Pattern → Bool
takes_found pairs None o = false
takes_found pairs (Some u) o = takes_there pairs (root u) o

untaken : (pairs : List (ℕ × ℕ)) (ps : List Pattern) (ts : List Tree) (position : List ℕ)
    (found : Option Tree) (o : Option Pattern) → AreCollapsed (patterns ps)
    → subject_at ts position ≡ found → row_asks ps position ≡ o → is_wild o ≡ false
    → takes_found pairs found o ≡ false → row_match pairs ps ts ≡ None
untaken pairs ps ts position found None h there is asks fails = absurd (false≢true (sym asks))
untaken pairs ps ts position None (Some q) h there is asks fails =
    untaken_do_not_match pairs ps ts position q _ h is (ap (takes_root pairs q) there)
untaken pairs ps ts position (Some u) (Some q) h there is asks fails =
    untaken_do_not_match pairs ps ts position q _ h is (ap (takes_root pairs q) there ∙ fails)

both_false : (a b : Bool) → (a || b) ≡ false → (a ≡ false) × (b ≡ false)
both_false true b e = absurd (false≢true (sym e))
both_false false b e = (refl, e)

-- no row has the head that the subjects have there
abbrev pub none_found : List (ℕ × ℕ) → List ℕ → Option Tree → List Row → Bool
none_found pairs position found rows =
    list_any (λ (r : Row). takes_found pairs found (row_asks r.1 position)) rows

pub untaken_left_out : (pairs : List (ℕ × ℕ)) (position : List ℕ) (found : Option Tree)
    (rows : List Row) (ts : List Tree) → AllCollapsed rows → subject_at ts position ≡ found
    → none_found pairs position found rows ≡ false
    → LeftOut pairs (λ (r : Row). is_wild (row_asks r.1 position)) ts rows
untaken_left_out pairs position found [] ts h there none = tt
untaken_left_out pairs position found (r ∷ rows) ts h there none =
    let parts = both_false (takes_found pairs found (row_asks r.1 position))
    (none_found pairs position found rows) none in (
      λ asks. untaken pairs r.1 ts position found (row_asks r.1 position) h.0 there refl asks
          parts.0,
      untaken_left_out pairs position found rows ts h.1 there parts.1,
    )

no_subject : (pairs : List (ℕ × ℕ)) (position : List ℕ) (rows : List Row)
    → none_found pairs position None rows ≡ false
no_subject pairs position [] = refl
no_subject pairs position (r ∷ rows) = no_subject pairs position rows

-- ---- rows from a number on

not_true : (b : Bool) → b ≡ true → not b ≡ false
not_true b e = rw e refl

not_false : (b : Bool) → b ≡ false → not b ≡ true
not_false b e = rw e refl

-- a number is one of the later ones, or is not
later_or_not : (n k : ℕ) → (k ≤ n) ⊎ (n < k)
later_or_not n k = told (nat_lt n k) refl where
  told : (b : Bool) → nat_lt n k ≡ b → (k ≤ n) ⊎ (n < k)
  told true e = inr (ltb-true n k e)
  told false e = inl (ltb-false n k e)

pub from_kept : (k : ℕ) (r : Row) (rows : List Row) → k ≤ r.0
    → rows_from k (r ∷ rows) ≡ r ∷ rows_from k rows
from_kept k r rows le = rw (le-ltb r.0 k le) refl

pub from_dropped : (k : ℕ) (r : Row) (rows : List Row) → r.0 < k
    → rows_from k (r ∷ rows) ≡ rows_from k rows
from_dropped k r rows lt = rw (lt-ltb r.0 k lt) refl

-- rows that rise from a number on are all from there on
pub rows_from-rising : (k n : ℕ) (rows : List Row) → k ≤ n → AreRising n rows → rows_from k rows ≡ rows
rows_from-rising k n [] le h = refl
rows_from-rising k n (r ∷ rows) le h =
    from_kept k r rows (omega (arith, h.0))
    ∙ ap (λ (rs : List Row). r ∷ rs)
    (rows_from-rising k (r.0 + 1) rows (omega (arith, h.0)) h.1)

-- the numbers from a number on
abbrev pub numbers_after : ℕ → List ℕ → List ℕ
numbers_after k ns = filter (λ (n : ℕ). not (nat_lt n k)) ns

numbers_kept : (k n : ℕ) (ns : List ℕ) → k ≤ n → numbers_after k (n ∷ ns) ≡ n ∷ numbers_after k ns
numbers_kept k n ns le = rw (le-ltb n k le) refl

numbers_dropped : (k n : ℕ) (ns : List ℕ) → n < k → numbers_after k (n ∷ ns) ≡ numbers_after k ns
numbers_dropped k n ns lt = rw (lt-ltb n k lt) refl

matching_from_step : (pairs : List (ℕ × ℕ)) (k : ℕ) (r : Row) (rows : List Row) (ts : List Tree)
    (b : Bool) → is_some (row_match pairs r.1 ts) ≡ b → (k ≤ r.0) ⊎ (r.0 < k)
    → matching_rows pairs (rows_from k rows) ts ≡ numbers_after k (matching_rows pairs rows ts)
    → matching_rows pairs (rows_from k (r ∷ rows)) ts
    ≡ numbers_after k (matching_rows pairs (r ∷ rows) ts)
matching_from_step pairs k r rows ts true is (inl le) rest =
    ap (λ (rs : List Row). matching_rows pairs rs ts) (from_kept k r rows le)
    ∙ rw is
    (ap (λ (ns : List ℕ). r.0 ∷ ns) rest
    ∙ sym (numbers_kept k r.0 (matching_rows pairs rows ts) le))
matching_from_step pairs k r rows ts true is (inr lt) rest =
    ap (λ (rs : List Row). matching_rows pairs rs ts) (from_dropped k r rows lt)
    ∙ rw is (rest ∙ sym (numbers_dropped k r.0 (matching_rows pairs rows ts) lt))
matching_from_step pairs k r rows ts false is (inl le) rest =
    ap (λ (rs : List Row). matching_rows pairs rs ts) (from_kept k r rows le) ∙ rw is rest
matching_from_step pairs k r rows ts false is (inr lt) rest =
    ap (λ (rs : List Row). matching_rows pairs rs ts) (from_dropped k r rows lt) ∙ rw is rest

matching_rows-from : (pairs : List (ℕ × ℕ)) (k : ℕ) (rows : List Row) (ts : List Tree)
    → matching_rows pairs (rows_from k rows) ts ≡ numbers_after k (matching_rows pairs rows ts)
matching_rows-from pairs k [] ts = refl
matching_rows-from pairs k (r ∷ rows) ts =
    matching_from_step pairs k r rows ts (is_some (row_match pairs r.1 ts)) refl
    (later_or_not r.0 k) (matching_rows-from pairs k rows ts)

from_twice_step : (k j : ℕ) (r : Row) (rows : List Row) → k ≤ j → (k ≤ r.0) ⊎ (r.0 < k)
    → (j ≤ r.0) ⊎ (r.0 < j) → rows_from j (rows_from k rows) ≡ rows_from j rows
    → rows_from j (rows_from k (r ∷ rows)) ≡ rows_from j (r ∷ rows)
from_twice_step k j r rows le (inl own) (inl other) rest =
    ap (rows_from j) (from_kept k r rows own) ∙ from_kept j r (rows_from k rows) other
    ∙ ap (λ (rs : List Row). r ∷ rs) rest ∙ sym (from_kept j r rows other)
from_twice_step k j r rows le (inl own) (inr other) rest =
    ap (rows_from j) (from_kept k r rows own) ∙ from_dropped j r (rows_from k rows) other
    ∙ rest ∙ sym (from_dropped j r rows other)
from_twice_step k j r rows le (inr own) (inl other) rest = absurd (omega arith)
from_twice_step k j r rows le (inr own) (inr other) rest =
    ap (rows_from j) (from_dropped k r rows own) ∙ rest ∙ sym (from_dropped j r rows other)

rows_from-twice : (k j : ℕ) (rows : List Row) → k ≤ j
    → rows_from j (rows_from k rows) ≡ rows_from j rows
rows_from-twice k j [] le = refl
rows_from-twice k j (r ∷ rows) le =
    from_twice_step k j r rows le (later_or_not r.0 k) (later_or_not r.0 j)
    (rows_from-twice k j rows le)

-- after a hit, the later rows are those that are left
pub after_hit : (pairs : List (ℕ × ℕ)) (all : List Row) (from n : ℕ) (ps : List Pattern)
    (later : List Row) (ts : List Tree) → AreRising from ((n, ps) ∷ later)
    → matching_rows pairs (rows_from from all) ts ≡ matching_rows pairs ((n, ps) ∷ later) ts
    → matching_rows pairs (rows_from (n + 1) all) ts ≡ matching_rows pairs later ts
after_hit pairs all from n ps later ts rising same =
    ap (λ (rs : List Row). matching_rows pairs rs ts)
    (sym (rows_from-twice from (n + 1) all (omega (arith, rising.0))))
    ∙ matching_rows-from pairs (n + 1) (rows_from from all) ts
    ∙ ap (numbers_after (n + 1)) same
    ∙ sym (matching_rows-from pairs (n + 1) ((n, ps) ∷ later) ts)
    ∙ ap (λ (rs : List Row). matching_rows pairs rs ts)
    (from_dropped (n + 1) (n, ps) later (omega arith)
    ∙ rows_from-rising (n + 1) (n + 1) later (omega arith) rising.1)

rising-lower : (k n : ℕ) (rows : List Row) → k ≤ n → AreRising n rows → AreRising k rows
rising-lower k n [] le h = tt
rising-lower k n (r ∷ rows) le h = (omega (arith, h.0), h.1)

rising-step : (keep : Row → Bool) (k : ℕ) (r : Row) (rows : List Row) (b : Bool) → keep r ≡ b
    → k ≤ r.0 → AreRising (r.0 + 1) (filter keep rows) → AreRising k (filter keep (r ∷ rows))
rising-step keep k r rows true is le rest = rw is (le, rest)
rising-step keep k r rows false is le rest =
    rw is (rising-lower k (r.0 + 1) (filter keep rows) (omega arith) rest)

pub rising-filter : (keep : Row → Bool) (k : ℕ) (rows : List Row) → AreRising k rows
    → AreRising k (filter keep rows)
rising-filter keep k [] h = tt
rising-filter keep k (r ∷ rows) h =
    rising-step keep k r rows (keep r) refl h.0 (rising-filter keep (r.0 + 1) rows h.1)

-- ---- trees

branch_hits-none : (pairs : List (ℕ × ℕ)) (all : List Row) (bs : Branches) (ts : List Tree)
    (rest : List ℕ)
    → branch_hits pairs all bs None ts rest ≡ rest
branch_hits-none pairs all no_branch ts rest = refl
branch_hits-none pairs all (branch h t bs) ts rest = refl

-- the head of the term that is there has a branch that finds the rows which can match, or the other
-- tree goes on
abbrev pub BranchesFind : List (ℕ × ℕ) → List Row → Branches → List ℕ → List Row → List Tree
    → List ℕ → Type 0
BranchesFind pairs all bs position rows ts rest =
    (u : Tree) → subject_at ts position ≡ Some u
    → branch_hits pairs all bs (Some (root u)) ts rest
    ≡ (if has_branch bs (root u)
    then matching_rows pairs (specialized pairs position (root u) rows) ts else rest)

-- rows that cannot match make no difference
pub unwanted_no_matter : (pairs : List (ℕ × ℕ)) (position : List ℕ) (u : Tree) (rows : List Row)
    (ts : List Tree) → AllCollapsed rows → subject_at ts position ≡ Some u
    → matching_rows pairs (specialized pairs position (root u) rows) ts
    ≡ matching_rows pairs rows ts
unwanted_no_matter pairs position u rows ts coll there =
    matching_rows-kept pairs _ rows ts (unwanted_left_out pairs position u rows ts coll there)

-- rows that are left without a branch
pub others_no_matter : (pairs : List (ℕ × ℕ)) (position : List ℕ) (found : Option Tree)
    (rows : List Row) (ts : List Tree) → AllCollapsed rows → subject_at ts position ≡ found
    → none_found pairs position found rows ≡ false
    → matching_rows pairs (others position rows) ts ≡ matching_rows pairs rows ts
others_no_matter pairs position found rows ts coll there none =
    matching_rows-kept pairs _ rows ts
    (untaken_left_out pairs position found rows ts coll there none)

test_finds : (pairs : List (ℕ × ℕ)) (all : List Row) (bs : Branches) (position : List ℕ)
    (rows : List Row) (ts : List Tree) (rest : List ℕ) (found : Option Tree) → AllCollapsed rows
    → subject_at ts position ≡ found
    → ((h : PlainHead) → has_branch bs h ≡ some_takes pairs position h rows)
    → BranchesFind pairs all bs position rows ts rest
    → (matching_rows pairs (others position rows) ts ≡ matching_rows pairs rows ts
    → rest ≡ matching_rows pairs (others position rows) ts)
    → branch_hits pairs all bs (option_map root found) ts rest ≡ matching_rows pairs rows ts
test_finds pairs all bs position rows ts rest None coll there heads find others_find =
    let same : matching_rows pairs (others position rows) ts ≡ matching_rows pairs rows ts =
    others_no_matter pairs position None rows ts coll there (no_subject pairs position rows) in
    branch_hits-none pairs all bs ts rest ∙ others_find same ∙ same
test_finds pairs all bs position rows ts rest (Some u) coll there heads find others_find =
    find u there ∙ told (has_branch bs (root u)) refl where
      told : (b : Bool) → has_branch bs (root u) ≡ b
          → (if has_branch bs (root u)
          then matching_rows pairs (specialized pairs position (root u) rows) ts else rest)
          ≡ matching_rows pairs rows ts
      told true is = rw is (unwanted_no_matter pairs position u rows ts coll there)
      told false is =
          let same : matching_rows pairs (others position rows) ts ≡ matching_rows pairs rows ts =
          others_no_matter pairs position (Some u) rows ts coll there
          (sym (heads (root u)) ∙ is) in
          rw is (others_find same ∙ same)

branch_step : (pairs : List (ℕ × ℕ)) (all : List Row) (h : PlainHead) (u : Tree) (t : MatchTree)
    (bs : Branches) (position : List ℕ) (rows : List Row) (ts : List Tree) (rest : List ℕ)
    (b : Bool)
    → head_eq h (root u) ≡ b
    → (h ≡ root u
    → hits pairs all t ts ≡ matching_rows pairs (specialized pairs position h rows) ts)
    → branch_hits pairs all bs (Some (root u)) ts rest
    ≡ (if has_branch bs (root u)
    then matching_rows pairs (specialized pairs position (root u) rows) ts else rest)
    → branch_hits pairs all (branch h t bs) (Some (root u)) ts rest
    ≡ (if has_branch (branch h t bs) (root u)
    then matching_rows pairs (specialized pairs position (root u) rows) ts else rest)
branch_step pairs all h u t bs position rows ts rest true is own later =
    let same : h ≡ root u = head_eq-true h (root u) is in
    rw is
    (own same
    ∙ ap (λ (j : PlainHead). matching_rows pairs (specialized pairs position j rows) ts) same)
branch_step pairs all h u t bs position rows ts rest false is own later = rw is later

mutual
  pub tree_finds_matches : TreeFindsMatches
  tree_finds_matches pairs all end from rows found ts coll rising same none =
      ap (λ (rs : List Row). matching_rows pairs rs ts) (sym none)
  tree_finds_matches pairs all (hit n ps next) from rows found ts coll rising same
      (later, is, whole, tree) =
      let P : List Row → Type 0 = AllCollapsed in
      let Q : List Row → Type 0 = AreRising from in
      let R : List Row → Type 0 =
      λ rs. matching_rows pairs (rows_from from all) ts ≡ matching_rows pairs rs ts in
      let both : AllCollapsed ((n, ps) ∷ later) = subst P is coll in
      let up : AreRising from ((n, ps) ∷ later) = subst Q is rising in
      ap (λ (ns : List ℕ). if is_some (row_match pairs ps ts) then n ∷ ns else ns)
      (tree_finds_matches pairs all next (n + 1) later found ts both.1 up.1
      (after_hit pairs all from n ps later ts up (subst R is same)) tree)
      ∙ ap (λ (rs : List Row). matching_rows pairs rs ts) (sym is)
  tree_finds_matches pairs all (test position bs other) from rows found ts coll rising same
      (asks, reached, new, heads, branches, tree) =
      test_finds pairs all bs position rows ts (hits pairs all other ts) (subject_at ts position)
      coll refl heads
      (branches_find pairs all bs position from rows found ts (hits pairs all other ts) coll
      rising same branches)
      (λ others_same. tree_finds_matches pairs all other from (others position rows) _ ts
      (all_collapsed-filter _ rows coll) (rising-filter _ from rows rising)
      (same ∙ sym others_same) tree)
  tree_finds_matches pairs all (in_order k) from rows found ts coll rising same is =
      ap (λ (j : ℕ). matching_rows pairs (rows_from j all) ts) is ∙ same

  pub branches_find : (pairs : List (ℕ × ℕ)) (all : List Row) (bs : Branches) (position : List ℕ)
      (from : ℕ) (rows : List Row) (found : Findings) (ts : List Tree) (rest : List ℕ)
      → AllCollapsed rows → AreRising from rows
      → matching_rows pairs (rows_from from all) ts ≡ matching_rows pairs rows ts
      → AreBranches pairs bs position from found rows
      → BranchesFind pairs all bs position rows ts rest
  branches_find pairs all no_branch position from rows found ts rest coll rising same h u there =
      refl
  branches_find pairs all (branch h t bs) position from rows found ts rest coll rising same
      (once, tree, later) u there =
      branch_step pairs all h u t bs position rows ts rest (head_eq h (root u)) refl
      (λ is. tree_finds_matches pairs all t from (specialized pairs position h rows) _ ts
      (all_collapsed-filter _ rows coll) (rising-filter _ from rows rising)
      (same
      ∙ sym (ap (λ (k : PlainHead). matching_rows pairs (specialized pairs position k rows) ts) is
      ∙ unwanted_no_matter pairs position u rows ts coll there))
      tree)
      (branches_find pairs all bs position from rows found ts rest coll rising same later u there)
