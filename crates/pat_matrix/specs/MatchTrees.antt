-- Matching trees (Maranget 2008, "Compiling Pattern Matching to Good Decision Trees"). A tree looks
-- at positions of the subjects, one after another, until a row's heads are all found. The rows that
-- it finds are those that match, in their order.
use Rattle.std.specs.Prelude.{◌≡◌, ◌+◌, ◌||◌, max, ℕ, Bool, true, false, List, [], ◌∷◌, ◌++◌}
use Rattle.std.specs.Prelude.{Contains}
use Rattle.std.specs.Prelude.{Option, Some, None, option_map, is_some, if◌then◌else◌, replicate}
use Rattle.std.specs.Prelude.{not}
use Rattle.std.specs.Prelude.{◌≤◌, ◌<◌, ◌⊎◌, filter, nat_lt}
use Rattle.std.specs.List.{list_any}
use Rattle.term_core.specs.Terms.{Tree}
use Rattle.term_core.specs.Forests.{forest}
use Rattle.term_core.specs.Patterns.{Pattern, Patterns, variable, domain_value, application}
use Rattle.term_core.specs.Patterns.{injection, call, no_pattern, more_patterns}
use Rattle.term_core.specs.Instances.{patterns}
use Rattle.rule_core.specs.MatchSteps.{all_matched}
use Rattle.pat_matrix.specs.Collapsed.{AreCollapsed}
use Rattle.pat_matrix.specs.Heads.{PlainHead, head_eq, root, takes}
use Rattle.pat_matrix.specs.Positions.{row_asks, subject_at}
use Rattle.pat_matrix.specs.Rows.{Row, is_wild, specialized, others, some_takes, width}

-- A tree ends; or it finds a row, with its patterns, and goes on with the later rows; or it tests a
-- position, with a branch for each head and a tree for every other head; or it tries all rows from
-- a number on, in order.
mutual
  pub data MatchTree : Type 0 where
    end : MatchTree
    hit : ℕ → List Pattern → MatchTree → MatchTree
    test : List ℕ → Branches → MatchTree → MatchTree
    in_order : ℕ → MatchTree

  pub data Branches : Type 0 where
    no_branch : Branches
    branch : PlainHead → MatchTree → Branches → Branches

-- there is a branch for the head
abbrev pub has_branch : Branches → PlainHead → Bool
has_branch no_branch k = false
has_branch (branch h t bs) k = head_eq h k || has_branch bs k

-- what tests have found: each position with the head of the branch that was taken, or with none if
-- there was no branch
abbrev pub Findings : Type 0
Findings = List (List ℕ × Option PlainHead)

-- each head for which the row asks was found, and the row takes it
abbrev pub IsFound : List (ℕ × ℕ) → Findings → List Pattern → Type 0
IsFound pairs found ps =
    (position : List ℕ) (q : Pattern) → row_asks ps position ≡ Some q
    → (h : PlainHead) × Contains found (position, Some h) × (takes pairs q h ≡ true)

-- the position is that of a subject, or of a child of a term whose head was found
abbrev pub IsReached : Findings → List ℕ → Type 0
IsReached found position =
    (parent : List ℕ) × (i : ℕ) × (position ≡ parent ++ i ∷ [])
    × ((parent ≡ [])
    ⊎ ((h : PlainHead) × Contains found (parent, Some h) × (i < width h)))

-- one of the rows asks the position
abbrev pub some_asks : List ℕ → List Row → Bool
some_asks position rows = list_any (λ (r : Row). not (is_wild (row_asks r.1 position))) rows

-- The tree is one for these rows after these findings, when the rows before the number are done
-- with. A hit is the first row, of which every head was found. A test is at a position that a row
-- asks, that is reached and that was not tested. It has one branch for each head that a row takes
-- there, for the rows that can match subjects with that head. The rows that ask nothing there are
-- left for every other head.
abbrev mutual
  pub IsMatchTree : List (ℕ × ℕ) → MatchTree → ℕ → Findings → List Row → Type 0
  IsMatchTree pairs end from found rows = rows ≡ []
  IsMatchTree pairs (hit n ps next) from found rows =
      (later : List Row) × (rows ≡ (n, ps) ∷ later) × IsFound pairs found ps
      × IsMatchTree pairs next (n + 1) found later
  IsMatchTree pairs (test position bs other) from found rows =
      (some_asks position rows ≡ true) × IsReached found position
      × ((o : Option PlainHead) → Contains found (position, o) → ⊥)
      × ((h : PlainHead) → has_branch bs h ≡ some_takes pairs position h rows)
      × AreBranches pairs bs position from found rows
      × IsMatchTree pairs other from (found ++ (position, None) ∷ []) (others position rows)
  IsMatchTree pairs (in_order k) from found rows = k ≡ from

  -- each head has one branch, which is a tree for the rows that can match subjects with the head
  pub AreBranches : List (ℕ × ℕ) → Branches → List ℕ → ℕ → Findings → List Row → Type 0
  AreBranches pairs no_branch position from found rows = Unit {0}
  AreBranches pairs (branch h t bs) position from found rows =
      (has_branch bs h ≡ false)
      × IsMatchTree pairs t from (found ++ (position, Some h) ∷ [])
      (specialized pairs position h rows)
      × AreBranches pairs bs position from found rows

-- room for each variable of a pattern: one more than the greatest
abbrev mutual
  pub room : Pattern → ℕ
  room (variable x) = x + 1
  room (domain_value s v) = 0
  room (application f ps) = rooms ps
  room (injection a b p) = room p
  room (call f ss ps) = rooms ps

  pub rooms : Patterns → ℕ
  rooms no_pattern = 0
  rooms (more_patterns p ps) = max (room p) (rooms ps)

-- the substitution by which a row matches subjects, with room for its own variables; none if it
-- does not match
abbrev pub row_match : List (ℕ × ℕ) → List Pattern → List Tree → Option (List (Option Tree))
row_match pairs ps ts =
    all_matched pairs (patterns ps) (forest ts) (replicate (rooms (patterns ps)) None)

-- the numbers of the rows that match, in order
abbrev pub matching_rows : List (ℕ × ℕ) → List Row → List Tree → List ℕ
matching_rows pairs [] ts = []
matching_rows pairs (r ∷ rows) ts =
    if is_some (row_match pairs r.1 ts) then r.0 ∷ matching_rows pairs rows ts
    else matching_rows pairs rows ts

-- the rows from this number on
abbrev pub rows_from : ℕ → List Row → List Row
rows_from k rows = filter (λ (r : Row). not (nat_lt r.0 k)) rows

-- the numbers of the rows that a tree finds among all rows, in order
abbrev mutual
  pub hits : List (ℕ × ℕ) → List Row → MatchTree → List Tree → List ℕ
  hits pairs all end ts = []
  hits pairs all (hit n ps next) ts =
      if is_some (row_match pairs ps ts) then n ∷ hits pairs all next ts
      else hits pairs all next ts
  hits pairs all (test position bs other) ts =
      branch_hits pairs all bs (option_map root (subject_at ts position)) ts
      (hits pairs all other ts)
  hits pairs all (in_order k) ts = matching_rows pairs (rows_from k all) ts

  -- the hits in the branch for the head, or those without a branch
  pub branch_hits : List (ℕ × ℕ) → List Row → Branches → Option PlainHead → List Tree → List ℕ
      → List ℕ
  branch_hits pairs all no_branch o ts rest = rest
  branch_hits pairs all (branch h t bs) None ts rest = rest
  branch_hits pairs all (branch h t bs) (Some k) ts rest =
      if head_eq h k then hits pairs all t ts else branch_hits pairs all bs (Some k) ts rest

-- the rows' numbers rise, from this number on
abbrev pub AreRising : ℕ → List Row → Type 0
AreRising k [] = Unit {0}
AreRising k (r ∷ rows) = (k ≤ r.0) × AreRising (r.0 + 1) rows

-- no row has nested injections
abbrev pub AllCollapsed : List Row → Type 0
AllCollapsed [] = Unit {0}
AllCollapsed (r ∷ rows) = AreCollapsed (patterns r.1) × AllCollapsed rows
