-- What loops over rows and columns keep.
use Rattle.std.proofs.Common.{◌≡◌, ◌<◌, ◌+◌, ◌-◌, ℕ, zero, suc, Bool, true, false, List, [], ◌∷◌}
use Rattle.std.proofs.Common.{◌++◌, length, map, take, drop, get_or, refl, sym, ◌∙◌, ap, arith}
use Rattle.std.specs.Prelude.{filter, ◌||◌, slice_index_or}
use Rattle.std.specs.List.{list_any}
use Rattle.std.proofs.lemmas.List.{map-append, take_more, append_assoc, append-nil, length-map}
use Rattle.std.proofs.lemmas.List.{take-map, drop-map, take_all, length-drop}
use Rattle.std.proofs.lemmas.List.Elements.{filter-append}
use Rattle.std.proofs.lemmas.List.Folds.{list_any-append}
use Rattle.term_core.specs.Patterns.{Pattern}
use Rattle.term_core.specs.RulePatterns.{plain_pattern}
use Rattle.term_core.specs.PatternLists.{plain_patterns}
use Rattle.term_core.specs.Instances.{patterns}
use Rattle.term_core.specs.declared.rule_patterns.RulePat.{RulePat}
use Rattle.pat_matrix.specs.Collapsed.{collapsed, all_collapsed}
use Rattle.pat_matrix.specs.Rows.{Row, below_from, subjects_from, numbers_from, numbered}
use Rattle.pat_matrix.specs.Rows.{collapsed_rows, replaced}
use Rattle.std.specs.Borrow.{Bor}
use Rattle.std.specs.Global.{Vec}
use Rattle.pat_matrix.specs.MatrixView.{positions, plain_rows, lent_rows, rows_at}
use Rattle.pat_matrix.proofs.CollapsedLaws.{all_collapsed-patterns}

-- the first items of a list, and the next one
pub take_next : {X Y : Type 0} (f : X → Y) (xs : List X) (i : ℕ) (x : X) → i < length xs
    → x ≡ get_or xs i x → map f (take (i + 1) xs) ≡ map f (take i xs) ++ f x ∷ []
take_next f xs i x lt is =
    ap (map f) (take_more xs i x lt) ∙ map-append f (take i xs) (get_or xs i x ∷ [])
    ∙ ap (λ y. map f (take i xs) ++ f y ∷ []) (sym is)

filter_one : {Y : Type 0} (test : Y → Bool) (y : Y) → test y ≡ true → filter test (y ∷ []) ≡ y ∷ []
filter_one test y e = rw e refl

filter_none : {Y : Type 0} (test : Y → Bool) (y : Y) → test y ≡ false → filter test (y ∷ []) ≡ []
filter_none test y e = rw e refl

-- a loop keeps an item that passes a test, and passes over another
pub filter_kept : {X Y : Type 0} (f : X → Y) (test : Y → Bool) (xs : List X) (i : ℕ) (x : X)
    (done new : List X) → i < length xs → x ≡ get_or xs i x
    → map f done ≡ filter test (map f (take i xs)) → test (f x) ≡ true → new ≡ done ++ x ∷ []
    → map f new ≡ filter test (map f (take (i + 1) xs))
filter_kept f test xs i x done new lt is was passes more =
    ap (map f) more ∙ map-append f done (x ∷ [])
    ∙ ap (λ ys. ys ++ f x ∷ []) was
    ∙ ap (λ ys. filter test (map f (take i xs)) ++ ys) (sym (filter_one test (f x) passes))
    ∙ sym (filter-append test (map f (take i xs)) (f x ∷ []))
    ∙ ap (filter test) (sym (take_next f xs i x lt is))

pub filter_passed : {X Y : Type 0} (f : X → Y) (test : Y → Bool) (xs : List X) (i : ℕ) (x : X)
    (done : List X) → i < length xs → x ≡ get_or xs i x
    → map f done ≡ filter test (map f (take i xs)) → test (f x) ≡ false
    → map f done ≡ filter test (map f (take (i + 1) xs))
filter_passed f test xs i x done lt is was fails =
    was ∙ sym (append-nil (filter test (map f (take i xs))))
    ∙ ap (λ ys. filter test (map f (take i xs)) ++ ys) (sym (filter_none test (f x) fails))
    ∙ sym (filter-append test (map f (take i xs)) (f x ∷ []))
    ∙ ap (filter test) (sym (take_next f xs i x lt is))

-- a loop tells whether one of the first items passes a test
pub any_next : {X Y : Type 0} (f : X → Y) (test : Y → Bool) (xs : List X) (i : ℕ) (x : X)
    (old new : Bool) → i < length xs → x ≡ get_or xs i x
    → old ≡ list_any test (map f (take i xs)) → new ≡ (old || test (f x))
    → new ≡ list_any test (map f (take (i + 1) xs))
any_next f test xs i x old new lt is was more =
    more ∙ ap (λ b. b || test (f x)) was
    ∙ ap (λ b. list_any test (map f (take i xs)) || b) (sym (or_false (test (f x))))
    ∙ sym (list_any-append test (map f (take i xs)) (f x ∷ []))
    ∙ ap (list_any test) (sym (take_next f xs i x lt is)) where
      or_false : (b : Bool) → (b || false) ≡ b
      or_false true = refl
      or_false false = refl

-- one more child, subject or number at the end
pub below_from-next : (position : List ℕ) (k n : ℕ)
    → below_from position k (n + 1) ≡ below_from position k n ++ (position ++ (k + n) ∷ []) ∷ []
below_from-next position k zero = ap (λ m. (position ++ m ∷ []) ∷ []) (omega arith)
below_from-next position k (suc n) =
    let next : suc n + 1 ≡ suc (n + 1) = omega arith in
    rw next
    (ap (λ ps. (position ++ k ∷ []) ∷ ps)
    (below_from-next position (k + 1) n
    ∙ ap (λ m. below_from position (k + 1) n ++ (position ++ m ∷ []) ∷ []) (omega arith)))

pub subjects_from-next : (k n : ℕ)
    → subjects_from k (n + 1) ≡ subjects_from k n ++ ((k + n) ∷ []) ∷ []
subjects_from-next k zero = ap (λ m. (m ∷ []) ∷ []) (omega arith)
subjects_from-next k (suc n) =
    let next : suc n + 1 ≡ suc (n + 1) = omega arith in
    rw next
    (ap (λ ps. (k ∷ []) ∷ ps)
    (subjects_from-next (k + 1) n
    ∙ ap (λ m. subjects_from (k + 1) n ++ (m ∷ []) ∷ []) (omega arith)))

pub numbers_from-next : (k n : ℕ) → numbers_from k (n + 1) ≡ numbers_from k n ++ (k + n) ∷ []
numbers_from-next k zero = ap (λ m. m ∷ []) (omega arith)
numbers_from-next k (suc n) =
    let next : suc n + 1 ≡ suc (n + 1) = omega arith in
    rw next
    (ap (λ ps. k ∷ ps)
    (numbers_from-next (k + 1) n ∙ ap (λ m. numbers_from (k + 1) n ++ m ∷ []) (omega arith)))

-- the same from 0 on
pub below_from-more : (position : List ℕ) (n : ℕ)
    → below_from position 0 (n + 1) ≡ below_from position 0 n ++ (position ++ n ∷ []) ∷ []
below_from-more position n =
    below_from-next position 0 n
    ∙ ap (λ m. below_from position 0 n ++ (position ++ m ∷ []) ∷ []) (omega arith)

pub subjects_from-more : (n : ℕ) → subjects_from 0 (n + 1) ≡ subjects_from 0 n ++ (n ∷ []) ∷ []
subjects_from-more n =
    subjects_from-next 0 n ∙ ap (λ m. subjects_from 0 n ++ (m ∷ []) ∷ []) (omega arith)

pub numbers_from-more : (n : ℕ) → numbers_from 0 (n + 1) ≡ numbers_from 0 n ++ n ∷ []
numbers_from-more n =
    numbers_from-next 0 n ∙ ap (λ m. numbers_from 0 n ++ m ∷ []) (omega arith)

-- the numbered rows are those with the numbers from 0 on
pub numbered-at : (rows : List (List Pattern)) (all : List (List Pattern)) (k : ℕ)
    → ((i : ℕ) → slice_index_or rows i [] ≡ slice_index_or all (k + i) [])
    → map (λ (number : ℕ). (number, slice_index_or all number [])) (numbers_from k (length rows))
    ≡ numbered k rows
numbered-at [] all k at = refl
numbered-at (ps ∷ rows) all k at =
    let first : slice_index_or all k [] ≡ ps =
    ap (λ m. slice_index_or all m []) (omega arith) ∙ sym (at 0) in
    let rest : map (λ (number : ℕ). (number, slice_index_or all number []))
    (numbers_from (k + 1) (length rows)) ≡ numbered (k + 1) rows =
    numbered-at rows all (k + 1)
    (λ i. at (suc i) ∙ ap (λ m. slice_index_or all m []) (omega arith)) in
    rw (first, rest) refl

mapped_twice : (ps : List RulePat)
    → map (λ (p : RulePat). collapsed (plain_pattern p)) ps ≡ map collapsed (map plain_pattern ps)
mapped_twice [] = refl
mapped_twice (p ∷ ps) = ap (λ qs. collapsed (plain_pattern p) ∷ qs) (mapped_twice ps)

-- patterns of the code with nested injections joined
pub collapsed_list : (ps qs : List RulePat)
    → map plain_pattern qs ≡ map (λ (p : RulePat). collapsed (plain_pattern p)) ps
    → plain_patterns qs ≡ all_collapsed (plain_patterns ps)
collapsed_list ps qs e =
    ap patterns (e ∙ mapped_twice ps) ∙ sym (all_collapsed-patterns (map plain_pattern ps))

-- a column that is added at the end
pub pushed_one : (new old : List (Vec ℕ)) (column : Vec ℕ) (place : List ℕ)
    (kept : List (List ℕ)) → new ≡ old ++ column ∷ [] → column.items ≡ place
    → positions old ≡ kept → positions new ≡ kept ++ place ∷ []
pushed_one new old column place kept more is was =
    ap positions more ∙ map-append (λ (c : Vec ℕ). c.items) old (column ∷ [])
    ∙ ap (λ ps. ps ++ column.items ∷ []) was ∙ ap (λ p. kept ++ p ∷ []) is

pub pushed_last : (new old : List (Vec ℕ)) (column : Vec ℕ) (place : List ℕ)
    (first kept : List (List ℕ)) → new ≡ old ++ column ∷ [] → column.items ≡ place
    → positions old ≡ first ++ kept → positions new ≡ first ++ (kept ++ place ∷ [])
pushed_last new old column place first kept more is was =
    pushed_one new old column place (first ++ kept) more is was
    ∙ append_assoc first kept (place ∷ [])

-- ---- matrices

-- the numbers of rows
pub numbers-rows_at : (rows : List (Vec RulePat)) (left : List ℕ)
    → map (λ (r : Row). r.0) (rows_at rows left) ≡ left
numbers-rows_at rows [] = refl
numbers-rows_at rows (n ∷ left) = ap (λ ns. n ∷ ns) (numbers-rows_at rows left)

-- where a row is left, a column is replaced
pub replaced-rows : (rows : List (Vec RulePat)) (left : List ℕ) (columns : List (List ℕ)) (col : ℕ)
    (new : List (List ℕ)) → (left ≡ [] → ⊥)
    → (take col columns ++ new) ++ drop (col + 1) columns
    ≡ replaced (rows_at rows left) columns col new
replaced-rows rows [] columns col new some = absurd (some refl)
replaced-rows rows (n ∷ left) columns col new some = refl

pub replaced-none : (rows : List (Vec RulePat)) (left : List ℕ) (columns : List (List ℕ)) (col : ℕ)
    (new : List (List ℕ)) → left ≡ [] → [] ≡ replaced (rows_at rows left) columns col new
replaced-none rows left columns col new none = rw none refl

-- all rows of a matrix, by their numbers
pub rows_at-all : (made : List (Vec RulePat)) (rows : List (List Pattern)) (left : List ℕ) (n : ℕ)
    → plain_rows made ≡ rows → left ≡ numbers_from 0 n → n ≡ length rows
    → rows_at made left ≡ numbered 0 rows
rows_at-all made rows left n are numbers count =
    ap (rows_at made) numbers
    ∙ ap (λ rs. map (λ (number : ℕ). (number, slice_index_or rs number [])) (numbers_from 0 n)) are
    ∙ ap (λ m. map (λ (number : ℕ). (number, slice_index_or rows number [])) (numbers_from 0 m))
    count
    ∙ numbered-at rows rows 0 (λ i. ap (λ m. slice_index_or rows m []) (omega arith))

-- one more row with nested injections joined
pub collapsed_rows-next : (rows : List (Bor (List RulePat))) (done new : List (Vec RulePat))
    (i : ℕ) (row : Bor (List RulePat)) (made : Vec RulePat)
    → i < length rows → row ≡ get_or rows i row
    → plain_rows done ≡ collapsed_rows (lent_rows (take i rows)) → new ≡ done ++ made ∷ []
    → map plain_pattern made.items ≡ map (λ (p : RulePat). collapsed (plain_pattern p)) row.now
    → plain_rows new ≡ collapsed_rows (lent_rows (take (i + 1) rows))
collapsed_rows-next rows done new i row made lt is was more same =
    ap plain_rows more
    ∙ map-append (λ (ps : Vec RulePat). map plain_pattern ps.items) done (made ∷ [])
    ∙ ap (λ rs. rs ++ map plain_pattern made.items ∷ []) was
    ∙ ap (λ r. collapsed_rows (lent_rows (take i rows)) ++ r ∷ []) (same ∙ mapped_twice row.now)
    ∙ sym (map-append (λ (ps : List Pattern). map collapsed ps) (lent_rows (take i rows))
    (map plain_pattern row.now ∷ []))
    ∙ ap collapsed_rows
    (sym (take_next (λ (ps : Bor (List RulePat)). map plain_pattern ps.now) rows i row lt is))

pub length-collapsed_rows : (rows : List (Bor (List RulePat)))
    → length rows ≡ length (collapsed_rows (lent_rows rows))
length-collapsed_rows rows =
    sym (length-map rows (λ (ps : Bor (List RulePat)). map plain_pattern ps.now))
    ∙ sym (length-map (lent_rows rows) (λ (ps : List Pattern). map collapsed ps))

-- columns in front of a place, new ones, and the columns behind it
pub three_parts : (columns none front middle whole : List (Vec ℕ)) (col : ℕ)
    (new : List (List ℕ)) → none ≡ []
    → positions front ≡ positions none ++ positions (take col columns)
    → positions middle ≡ positions front ++ new
    → positions whole ≡ positions middle ++ positions (drop (col + 1) columns)
    → positions whole ≡ (take col (positions columns) ++ new) ++ drop (col + 1) (positions columns)
three_parts columns none front middle whole col new empty first then last =
    last
    ∙ ap (λ ps. ps ++ positions (drop (col + 1) columns))
    (then ∙ ap (λ ps. ps ++ new)
    (first ∙ ap (λ ns. positions ns ++ positions (take col columns)) empty
    ∙ sym (take-map (λ (c : Vec ℕ). c.items) col columns)))
    ∙ ap (λ ps. (take col (positions columns) ++ new) ++ ps)
    (sym (drop-map (λ (c : Vec ℕ). c.items) (col + 1) columns))

-- the items from a place to the end
pub rest_whole : {X : Type 0} (xs : List X) (n : ℕ) → take (length xs - n) (drop n xs) ≡ drop n xs
rest_whole xs n =
    take_all (length xs - n) (drop n xs)
    (let rest : length (drop n xs) ≡ length xs - n = length-drop n xs in omega arith)
