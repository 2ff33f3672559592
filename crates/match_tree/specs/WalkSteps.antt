-- The steps of a walk.
use Rattle.std.specs.Prelude.{◌≡◌, ◌+◌, ◌++◌, ℕ, Bool, false, List, [], ◌∷◌, Some, None, is_some}
use Rattle.std.specs.Prelude.{if◌then◌else◌}
use Rattle.term_core.specs.Terms.{Tree}
use Rattle.term_core.specs.Patterns.{Pattern}
use Rattle.pat_matrix.specs.Heads.{root}
use Rattle.pat_matrix.specs.Positions.{subject_at}
use Rattle.pat_matrix.specs.Rows.{Row, specialized, others, some_takes}
use Rattle.pat_matrix.specs.MatchTrees.{IsFound, matching_rows, rows_from, row_match}
use Rattle.pat_matrix.specs.Occurrences.{row_twins, twins_agree}
use Rattle.match_tree.specs.Labels.{Label}
use Rattle.match_tree.specs.Walking.{Tells}

-- A test leads to the branch of the head that is there, or to the place for every other head.
abbrev pub BranchTells : Type 0
BranchTells =
    (pairs : List (ℕ × ℕ)) (all : List Row) (ts : List Tree) (l : Label) (position : List ℕ)
    (t : Tree) → Tells pairs all ts l → subject_at ts position ≡ Some t →
    Tells pairs all ts (record {
      from = l.from;
      found = l.found ++ (position, Some (root t)) ∷ [];
      rows = specialized pairs position (root t) l.rows;
    })

abbrev pub OtherTells : Type 0
OtherTells =
    (pairs : List (ℕ × ℕ)) (all : List Row) (ts : List Tree) (l : Label) (position : List ℕ)
    (t : Tree) → Tells pairs all ts l → subject_at ts position ≡ Some t →
    some_takes pairs position (root t) l.rows ≡ false →
    Tells pairs all ts (record {
      from = l.from;
      found = l.found ++ (position, None) ∷ [];
      rows = others position l.rows;
    })

-- A hit leads to the later rows. Its row matches exactly if its twins agree, and is then the first
-- that matches.
abbrev pub LaterTells : Type 0
LaterTells =
    (pairs : List (ℕ × ℕ)) (all : List Row) (ts : List Tree) (l : Label) (r : ℕ)
    (ps : List Pattern) (later : List Row) → Tells pairs all ts l → l.rows ≡ (r, ps) ∷ later →
    Tells pairs all ts (record { from = r + 1; found = l.found; rows = later })

abbrev pub HitMatchesByTwins : Type 0
HitMatchesByTwins =
    (pairs : List (ℕ × ℕ)) (all : List Row) (ts : List Tree) (l : Label) (r : ℕ)
    (ps : List Pattern) (later : List Row) → Tells pairs all ts l → l.rows ≡ (r, ps) ∷ later →
    IsFound pairs l.found ps → is_some (row_match pairs ps ts) ≡ twins_agree ts (row_twins ps)

abbrev pub HitComesFirst : Type 0
HitComesFirst =
    (pairs : List (ℕ × ℕ)) (all : List Row) (ts : List Tree) (l : Label) (r : ℕ)
    (ps : List Pattern) (later : List Row) (b : Bool) → Tells pairs all ts l →
    l.rows ≡ (r, ps) ∷ later → is_some (row_match pairs ps ts) ≡ b →
    matching_rows pairs (rows_from l.from all) ts
    ≡ (if b then r ∷ matching_rows pairs (rows_from (r + 1) all) ts
    else matching_rows pairs (rows_from (r + 1) all) ts)
