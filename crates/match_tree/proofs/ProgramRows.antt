-- Numbered rows, and the first of them that matches.
use Rattle.std.proofs.Common.{◌≡◌, ◌<◌, ◌≤◌, ◌+◌, ◌⊎◌, inl, inr, ℕ, zero, suc, Bool, true, false}
use Rattle.std.proofs.Common.{List, [], ◌∷◌, length, map, slice_get, Option, Some, None}
use Rattle.std.proofs.Common.{refl, sym, ◌∙◌, ap, subst, arith, nat_lt, ◌++◌, take, get_or, All}
use Rattle.std.specs.Prelude.{is_some, IfOk, Result, Ok, Err}
use Rattle.std.specs.Prelude.{slice_index_or}
use Rattle.std.specs.Borrow.{Bor}
use Rattle.std.specs.Global.{Vec}
use Rattle.std.specs.declared.alloc.AllocError.{AllocError}
use Rattle.std.proofs.lemmas.Bool.{ltb-true, ltb-false}
use Rattle.std.proofs.lemmas.List.{length-map, map-append}
use Rattle.term_core.specs.Terms as terms
use Rattle.term_core.specs.Instances.{patterns}
use Rattle.term_core.specs.Patterns.{Pattern}
use Rattle.term_core.specs.PatternLists.{plain_patterns}
use Rattle.term_core.specs.RulePatterns.{plain_pattern}
use Rattle.term_core.specs.declared.rule_patterns.RulePat.{RulePat}
use Rattle.rule_core.specs.Subsorts.{IsBelow, by_pair, by_chain}
use Rattle.rule_core.specs.WellSorted.{IsPair}
use Rattle.rule_core.specs.ProgramView.{theory_of, function_equation}
use Rattle.rule_core.specs.Theories.{equations_of}
use Rattle.rule_core.specs.declared.rules.Equation.{Equation}
use Rattle.rule_core.specs.declared.rules.Program.{Program}
use Rattle.rule_core.specs.declared.signature.Signature.{Signature}
use Rattle.pat_matrix.specs.Collapsed.{collapsed, AreCollapsed}
use Rattle.pat_matrix.specs.Rows.{Row, numbered, numbers_from, collapsed_rows}
use Rattle.pat_matrix.specs.MatchTrees.{AllCollapsed, matching_rows, rows_from, row_match}
use Rattle.pat_matrix.specs.Heads.{pattern_list}
use Rattle.pat_matrix.specs.MatrixView.{rows_of, row_of, order_of, lent_rows}
use Rattle.pat_matrix.specs.declared.matrix.Matrix.{Matrix}
use Rattle.pat_matrix.proofs.CollapsedLaws.{are_collapsed-collapsed, all_collapsed-patterns}
use Rattle.pat_matrix.proofs.Loops.{take_next, length-collapsed_rows}
use Rattle.pat_matrix.proofs.PartLaws.{pattern_list-patterns}
use Rattle.pat_matrix.proofs.TreeHits.{from_kept, from_dropped}
use Rattle.match_tree.specs.Walking.{AreWide}
use Rattle.match_tree.specs.TreeView.{IsTree, HasMatchTree}
use Rattle.match_tree.specs.Programs.{IsTreeOf}
use Rattle.match_tree.specs.declared.compiling.Tree.{Tree}
use Rattle.match_tree.proofs.OrderLaws.{whole_at}

-- ---- numbered rows

pub count_numbered : (k : ℕ) (rows : List (List Pattern)) → length (numbered k rows) ≡ length rows
count_numbered k [] = refl
count_numbered k (ps ∷ rows) = ap suc (count_numbered (k + 1) rows)

pub numbers_of_numbered : (k : ℕ) (rows : List (List Pattern))
    → map (λ (r : Row). r.0) (numbered k rows) ≡ numbers_from k (length rows)
numbers_of_numbered k [] = refl
numbers_of_numbered k (ps ∷ rows) = ap (λ (ns : List ℕ). k ∷ ns) (numbers_of_numbered (k + 1) rows)

-- rows that are numbered from 0 are whole
pub numbered_whole : (rows : List Row) (all : List (List Pattern)) → rows ≡ numbered 0 all
    → map (λ (r : Row). r.0) rows ≡ numbers_from 0 (length rows)
numbered_whole rows all are =
    ap (map (λ (r : Row). r.0)) are ∙ numbers_of_numbered 0 all
    ∙ ap (numbers_from 0) (sym (ap (λ (rs : List Row). length rs) are ∙ count_numbered 0 all))

collapsed_numbered : (k : ℕ) (rows : List (List Pattern))
    → AllCollapsed (numbered k (collapsed_rows rows))
collapsed_numbered k [] = tt
collapsed_numbered k (ps ∷ rows) = (
  subst AreCollapsed (all_collapsed-patterns ps) (are_collapsed-collapsed (patterns ps)),
  collapsed_numbered (k + 1) rows,
)

pub numbered_collapsed : (rows : List Row) (all : List (List Pattern))
    → rows ≡ numbered 0 (collapsed_rows all) → AllCollapsed rows
numbered_collapsed rows all are = subst AllCollapsed (sym are) (collapsed_numbered 0 all)

wide_numbered : (n k : ℕ) (rows : List (List Pattern))
    → ((i : ℕ) (ps : List Pattern) → slice_get rows i ≡ Some ps → length ps ≡ n)
    → AreWide n (numbered k rows)
wide_numbered n k [] each = tt
wide_numbered n k (ps ∷ rows) each =
    (each 0 ps refl, wide_numbered n (k + 1) rows (λ i qs at. each (suc i) qs at))

pub numbered_wide : (n : ℕ) (rows : List Row) (all : List (List Pattern)) → rows ≡ numbered 0 all
    → ((i : ℕ) (ps : List Pattern) → slice_get all i ≡ Some ps → length ps ≡ n) → AreWide n rows
numbered_wide n rows all are each = subst (AreWide n) (sym are) (wide_numbered n 0 all each)

numbered_get : (k : ℕ) (rows : List (List Pattern)) (i : ℕ) (ps : List Pattern)
    → slice_get rows i ≡ Some ps → slice_get (numbered k rows) i ≡ Some (k + i, ps)
numbered_get k [] i ps at = absurd (let no : ⊥ = cc in no)
numbered_get k (qs ∷ rows) zero ps at =
    let same : qs ≡ ps = cc in
    ap (λ (rs : List Pattern). Some (k, rs)) same ∙ ap (λ (j : ℕ). Some (j, ps)) (omega arith)
numbered_get k (qs ∷ rows) (suc i) ps at =
    numbered_get (k + 1) rows i ps at ∙ ap (λ (j : ℕ). Some (j, ps)) (omega arith)

-- an index of a list
get_within : {A : Type 0} (xs : List A) (i : ℕ) (x : A) → slice_get xs i ≡ Some x → i < length xs
get_within [] i x at = absurd (let no : ⊥ = cc in no)
get_within (y ∷ xs) zero x at = omega arith
get_within (y ∷ xs) (suc i) x at = omega (arith, get_within xs i x at)

abbrev patterns_in : Option Row → List Pattern
patterns_in None = []
patterns_in (Some r) = r.1

-- the row of a matrix with a number
pub row_numbered : (m : Matrix) (all : List (List Pattern)) (i : ℕ) (ps : List Pattern)
    → rows_of m ≡ numbered 0 all → slice_get all i ≡ Some ps → row_of m i ≡ ps
row_numbered m all i ps are at =
    let here : slice_get (rows_of m) i ≡ Some (i, ps) =
    ap (λ (rs : List Row). slice_get rs i) are ∙ numbered_get 0 all i ps at
    ∙ ap (λ (j : ℕ). Some (j, ps)) (omega arith) in
    let own : slice_get (rows_of m) i ≡ Some (i, row_of m i) =
    whole_at m i (numbered_whole (rows_of m) all are) (get_within (rows_of m) i (i, ps) here) in
    ap patterns_in (sym own ∙ here)

-- ---- rows that are lent

-- one more row
pub rows_next : {X : Type 0} (f : X → List Pattern) (xs : List X) (i : ℕ) (x : X)
    (rows more : List (Bor (List RulePat))) (row : Bor (List RulePat)) → i < length xs
    → x ≡ get_or xs i x → more ≡ rows ++ row ∷ []
    → map collapsed (map plain_pattern row.now) ≡ f x
    → collapsed_rows (lent_rows rows) ≡ map f (take i xs)
    → collapsed_rows (lent_rows more) ≡ map f (take (i + 1) xs)
rows_next f xs i x rows more row lt is added own was =
    ap (λ (rs : List (Bor (List RulePat))). collapsed_rows (lent_rows rs)) added
    ∙ ap collapsed_rows
    (map-append (λ (ps : Bor (List RulePat)). map plain_pattern ps.now) rows (row ∷ []))
    ∙ map-append (λ (ps : List Pattern). map collapsed ps) (lent_rows rows)
    (map plain_pattern row.now ∷ [])
    ∙ ap (λ (rs : List (List Pattern)). rs ++ map collapsed (map plain_pattern row.now) ∷ []) was
    ∙ ap (λ (ps : List Pattern). map f (take i xs) ++ ps ∷ []) own
    ∙ sym (take_next f xs i x lt is)

-- as many as what they are made of
pub rows_count : {X : Type 0} (f : X → List Pattern) (xs : List X)
    (rows : List (Bor (List RulePat))) → collapsed_rows (lent_rows rows) ≡ map f xs
    → length rows ≡ length xs
rows_count f xs rows e =
    length-collapsed_rows rows ∙ ap (λ (rs : List (List Pattern)). length rs) e ∙ length-map xs f

pub arguments_row : (ps : List RulePat)
    → map collapsed (map plain_pattern ps) ≡ map collapsed (pattern_list (plain_patterns ps))
arguments_row ps = ap (map collapsed) (sym (pattern_list-patterns (map plain_pattern ps)))

pub mapped_after : {X Y Z : Type 0} (g : Y → Z) (f : X → Y) (xs : List X)
    → map (λ (x : X). g (f x)) xs ≡ map g (map f xs)
mapped_after g f [] = refl
mapped_after g f (x ∷ xs) = ap (λ (zs : List _). g (f x) ∷ zs) (mapped_after g f xs)

mapped_item : {X Y : Type 0} (f : X → Y) (xs : List X) (i : ℕ) (x : X) (d : Y) → i < length xs
    → x ≡ get_or xs i x → slice_index_or (map f xs) i d ≡ f x
mapped_item f [] i x d lt is = absurd (omega arith)
mapped_item f (y ∷ xs) zero x d lt is = ap f (sym is)
mapped_item f (y ∷ xs) (suc i) x d lt is = mapped_item f xs i x d (omega arith) is

-- the equations of a function
pub own_equations : (p : Program) (f : ℕ) (v : Vec Equation) → f < length p.equations.items
    → v ≡ get_or p.equations.items f v
    → map function_equation v.items ≡ equations_of (theory_of p) f
own_equations p f v lt is =
    sym (mapped_item (λ (es : Vec Equation). map function_equation es.items) p.equations.items f v
    [] lt is)

-- ---- trees of rows

-- the tree of a matrix
pub tree_is_of : (answer : Result Tree AllocError) (m : Matrix) (pairs : List (ℕ × ℕ))
    (lists : List (List Pattern)) → IfOk answer HasMatchTree → IfOk answer IsTree
    → IfOk answer (λ (t : Tree). t.matrix ≡ m) → order_of m ≡ pairs
    → rows_of m ≡ numbered 0 lists → IfOk answer (IsTreeOf pairs lists)
tree_is_of (Err e) m pairs lists finds tree of order rows = tt
tree_is_of (Ok t) m pairs lists finds tree of order rows = record {
  tree = tree;
  finds = finds;
  order = ap order_of of ∙ order;
  rows = ap rows_of of ∙ rows;
}

pub other_lists : (answer : Result Tree AllocError) (pairs : List (ℕ × ℕ))
    (lists others : List (List Pattern)) → lists ≡ others → IfOk answer (IsTreeOf pairs lists)
    → IfOk answer (IsTreeOf pairs others)
other_lists answer pairs lists others same h =
    let P : List (List Pattern) → Type 0 = λ ls. IfOk answer (IsTreeOf pairs ls) in
    subst P same h

-- a sort that is below another is declared
pub lower_is_declared : (sig : Signature) (a b : ℕ) → All (IsPair sig) sig.subsorts
    → IsBelow sig.subsorts a b → a < length sig.sorts
lower_is_declared sig a b all (by_pair (k, lt, at)) =
    let P : ℕ × ℕ → Type 0 = IsPair sig in (subst P at (all k (a, b) lt)).0
lower_is_declared sig a b all (by_chain {b = m} (k, lt, at) rest) =
    let P : ℕ × ℕ → Type 0 = IsPair sig in (subst P at (all k (a, m) lt)).0

-- ---- the first row that matches

-- Of the rows with numbers from k on, those from one number up to another one do not match.
abbrev pub NoneMatch : List (ℕ × ℕ) → List terms.Tree → ℕ → List (List Pattern) → ℕ → ℕ → Type 0
NoneMatch pairs ts k rows from to =
    (i : ℕ) (ps : List Pattern) → slice_get rows i ≡ Some ps → from ≤ k + i → k + i < to
    → is_some (row_match pairs ps ts) ≡ false

-- The row with the number is the first that matches.
pub record IsFirst (pairs : List (ℕ × ℕ)) (ts : List terms.Tree) (k : ℕ) (rows : List (List Pattern))
    (from row : ℕ) : Type 0
  where
    pub index : ℕ
    pub number : k + index ≡ row
    pub ps : List Pattern
    pub there : slice_get rows index ≡ Some ps
    pub low : from ≤ row
    pub hit : is_some (row_match pairs ps ts) ≡ true
    pub earlier : NoneMatch pairs ts k rows from row

low_or_not : (from k : ℕ) → (from ≤ k) ⊎ (k < from)
low_or_not from k = told (nat_lt k from) refl where
  told : (b : Bool) → nat_lt k from ≡ b → (from ≤ k) ⊎ (k < from)
  told true e = inr (ltb-true k from e)
  told false e = inl (ltb-false k from e)

none_more : (pairs : List (ℕ × ℕ)) (ts : List terms.Tree) (k : ℕ) (ps : List Pattern)
    (rows : List (List Pattern)) (from to : ℕ)
    → (from ≤ k → k < to → is_some (row_match pairs ps ts) ≡ false)
    → NoneMatch pairs ts (k + 1) rows from to → NoneMatch pairs ts k (ps ∷ rows) from to
none_more pairs ts k ps rows from to first rest zero qs at low high =
    let same : ps ≡ qs = cc in
    let P : List Pattern → Type 0 = λ rs. is_some (row_match pairs rs ts) ≡ false in
    subst P same (first (omega arith) (omega arith))
none_more pairs ts k ps rows from to first rest (suc i) qs at low high =
    rest i qs at (omega arith) (omega arith)

first_more : (pairs : List (ℕ × ℕ)) (ts : List terms.Tree) (k : ℕ) (ps : List Pattern)
    (rows : List (List Pattern)) (from row : ℕ)
    → (from ≤ k → is_some (row_match pairs ps ts) ≡ false)
    → IsFirst pairs ts (k + 1) rows from row → IsFirst pairs ts k (ps ∷ rows) from row
first_more pairs ts k ps rows from row none rest = record {
  index = suc rest.index;
  number = omega (arith, rest.number);
  ps = rest.ps;
  there = rest.there;
  low = rest.low;
  hit = rest.hit;
  earlier = none_more pairs ts k ps rows from row (λ low high. none low) rest.earlier;
}

first_step : (pairs : List (ℕ × ℕ)) (ts : List terms.Tree) (k : ℕ) (ps : List Pattern)
    (rows : List (List Pattern)) (from row : ℕ) (later : List ℕ) → (from ≤ k) ⊎ (k < from)
    → (b : Bool) → is_some (row_match pairs ps ts) ≡ b
    → (matching_rows pairs (rows_from from (numbered (k + 1) rows)) ts ≡ row ∷ later
    → IsFirst pairs ts (k + 1) rows from row)
    → matching_rows pairs (rows_from from ((k, ps) ∷ numbered (k + 1) rows)) ts ≡ row ∷ later
    → IsFirst pairs ts k (ps ∷ rows) from row
first_step pairs ts k ps rows from row later (inl low) true is rest e =
    let kept : matching_rows pairs ((k, ps) ∷ rows_from from (numbered (k + 1) rows)) ts
    ≡ row ∷ later =
    ap (λ (rs : List Row). matching_rows pairs rs ts)
    (sym (from_kept from (k, ps) (numbered (k + 1) rows) low)) ∙ e in
    let own : k ∷ matching_rows pairs (rows_from from (numbered (k + 1) rows)) ts
    ≡ row ∷ later = rw is at kept in
    let same : k ≡ row = cc in
    record {
      index = 0;
      number = omega (arith, same);
      ps = ps;
      there = refl;
      low = omega (arith, same);
      hit = is;
      earlier = λ i qs at from_low high. absurd (omega (arith, same, high));
    }
first_step pairs ts k ps rows from row later (inl low) false is rest e =
    let kept : matching_rows pairs ((k, ps) ∷ rows_from from (numbered (k + 1) rows)) ts
    ≡ row ∷ later =
    ap (λ (rs : List Row). matching_rows pairs rs ts)
    (sym (from_kept from (k, ps) (numbered (k + 1) rows) low)) ∙ e in
    let own : matching_rows pairs (rows_from from (numbered (k + 1) rows)) ts
    ≡ row ∷ later = rw is at kept in
    first_more pairs ts k ps rows from row (λ h. is) (rest own)
first_step pairs ts k ps rows from row later (inr high) b is rest e =
    first_more pairs ts k ps rows from row (λ low. absurd (omega arith))
    (rest (ap (λ (rs : List Row). matching_rows pairs rs ts)
    (sym (from_dropped from (k, ps) (numbered (k + 1) rows) high)) ∙ e))

pub first_of : (pairs : List (ℕ × ℕ)) (ts : List terms.Tree) (k : ℕ) (rows : List (List Pattern))
    (from row : ℕ) (later : List ℕ)
    → matching_rows pairs (rows_from from (numbered k rows)) ts ≡ row ∷ later
    → IsFirst pairs ts k rows from row
first_of pairs ts k [] from row later e = absurd (let no : ⊥ = cc in no)
first_of pairs ts k (ps ∷ rows) from row later e =
    first_step pairs ts k ps rows from row later (low_or_not from k)
    (is_some (row_match pairs ps ts)) refl (first_of pairs ts (k + 1) rows from row later) e

none_step : (pairs : List (ℕ × ℕ)) (ts : List terms.Tree) (k : ℕ) (ps : List Pattern)
    (rows : List (List Pattern)) (from to : ℕ) → (from ≤ k) ⊎ (k < from)
    → (b : Bool) → is_some (row_match pairs ps ts) ≡ b
    → (matching_rows pairs (rows_from from (numbered (k + 1) rows)) ts ≡ []
    → NoneMatch pairs ts (k + 1) rows from to)
    → matching_rows pairs (rows_from from ((k, ps) ∷ numbered (k + 1) rows)) ts ≡ []
    → NoneMatch pairs ts k (ps ∷ rows) from to
none_step pairs ts k ps rows from to (inl low) true is rest e =
    let kept : matching_rows pairs ((k, ps) ∷ rows_from from (numbered (k + 1) rows)) ts ≡ [] =
    ap (λ (rs : List Row). matching_rows pairs rs ts)
    (sym (from_kept from (k, ps) (numbered (k + 1) rows) low)) ∙ e in
    let own : k ∷ matching_rows pairs (rows_from from (numbered (k + 1) rows)) ts ≡ [] =
    rw is at kept in
    absurd (let no : ⊥ = cc in no)
none_step pairs ts k ps rows from to (inl low) false is rest e =
    let kept : matching_rows pairs ((k, ps) ∷ rows_from from (numbered (k + 1) rows)) ts ≡ [] =
    ap (λ (rs : List Row). matching_rows pairs rs ts)
    (sym (from_kept from (k, ps) (numbered (k + 1) rows) low)) ∙ e in
    let own : matching_rows pairs (rows_from from (numbered (k + 1) rows)) ts ≡ [] =
    rw is at kept in
    none_more pairs ts k ps rows from to (λ h g. is) (rest own)
none_step pairs ts k ps rows from to (inr high) b is rest e =
    none_more pairs ts k ps rows from to (λ low h. absurd (omega arith))
    (rest (ap (λ (rs : List Row). matching_rows pairs rs ts)
    (sym (from_dropped from (k, ps) (numbered (k + 1) rows) high)) ∙ e))

pub none_of : (pairs : List (ℕ × ℕ)) (ts : List terms.Tree) (k : ℕ) (rows : List (List Pattern))
    (from to : ℕ) → matching_rows pairs (rows_from from (numbered k rows)) ts ≡ []
    → NoneMatch pairs ts k rows from to
none_of pairs ts k [] from to e = λ i ps at low high. absurd (let no : ⊥ = cc in no)
none_of pairs ts k (ps ∷ rows) from to e =
    none_step pairs ts k ps rows from to (low_or_not from k) (is_some (row_match pairs ps ts))
    refl (none_of pairs ts (k + 1) rows from to) e
