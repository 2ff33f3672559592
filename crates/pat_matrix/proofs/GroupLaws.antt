-- Groups of rows by their heads.
use Rattle.std.proofs.Common.{◌≡◌, ◌<◌, ◌+◌, ℕ, zero, suc, Bool, true, false, List, [], ◌∷◌, ◌++◌}
use Rattle.std.proofs.Common.{length, map, set, get_or, Some, None, refl, sym, ◌∙◌, ap, arith}
use Rattle.std.proofs.Common.{nat_lt}
use Rattle.std.specs.Prelude.{◌==◌, ◌&&◌, ◌||◌, not, if◌then◌else◌, filter}
use Rattle.std.specs.List.{list_any, position_or_len}
use Rattle.std.specs.Global.{Vec}
use Rattle.std.proofs.lemmas.Bool.{eqb-true, ltb-true, false≢true}
use Rattle.std.proofs.lemmas.List.{map-append, append-nil, length-append, length-set}
use Rattle.std.proofs.lemmas.List.Elements.{filter-append}
use Rattle.std.proofs.lemmas.List.Folds.{list_any-append}
use Rattle.indexmap.specs.IndexSet.{insert_key}
use Rattle.term_core.specs.Patterns.{Pattern, variable, domain_value, application}
use Rattle.term_core.specs.Patterns.{injection, call}
use Rattle.rule_core.specs.Subsorts.{is_below, IsBelow, HasNoCycle}
use Rattle.rule_core.proofs.Belows.{is_below-true, both_true}
use Rattle.pat_matrix.specs.Heads.{PlainHead, of_value, of_constructor, of_injection, head_eq}
use Rattle.pat_matrix.specs.Heads.{takes, injection_takes, lowers, lower_takes}
use Rattle.pat_matrix.specs.Heads.{is_variable}
use Rattle.pat_matrix.specs.HeadView.{head_of, is_listed}
use Rattle.pat_matrix.specs.Positions.{row_asks}
use Rattle.pat_matrix.specs.Rows.{Row, takes_there, is_wild}
use Rattle.pat_matrix.specs.MatrixView.{row_of, order_of, numbered_rows}
use Rattle.pat_matrix.specs.Groups.{numbers_under, lists_of, group_of, takes_at, is_wild_at}
use Rattle.pat_matrix.specs.Groups.{IsSplit, Gains}
use Rattle.pat_matrix.specs.declared.groups.Groups.{Groups}
use Rattle.pat_matrix.specs.declared.groups.Split.{Split}
use Rattle.pat_matrix.specs.declared.heads.Head.{Head}
use Rattle.pat_matrix.specs.declared.matrix.Matrix.{Matrix}
use Rattle.pat_matrix.specs.contracts.heads.HeadPartialEq.TheImpl as derived
use Rattle.pat_matrix.proofs.HeadLaws.{head_eq-true, head_eq-same}
use Rattle.pat_matrix.proofs.HeadLists.{same_head, is_listed-insert}
use Rattle.pat_matrix.proofs.LowerLaws.{or_assoc, lower_takes-zero, lower_takes-next}
use Rattle.pat_matrix.proofs.LowerLaws.{variable_takes, other_takes}

both_false : (a b : Bool) → (a || b) ≡ false → (a ≡ false) × (b ≡ false)
both_false true b e = absurd (false≢true (sym e))
both_false false b e = (refl, e)

or_false : (b : Bool) → (b || false) ≡ b
or_false true = refl
or_false false = refl

-- ---- one row more under a head

-- a head that is another one than a head's own
other_head : (k l : Head) (h : PlainHead) → derived.ghosts.eq k l ≡ false
    → head_eq (head_of l) h ≡ true → head_eq (head_of k) h ≡ false
other_head k l h other is = told (head_eq (head_of k) h) refl where
  told : (b : Bool) → head_eq (head_of k) h ≡ b → head_eq (head_of k) h ≡ false
  told false e = e
  told true e =
      absurd (false≢true (sym other ∙ same_head k l
      ∙ ap (head_eq (head_of k))
      (head_eq-true (head_of l) h is ∙ sym (head_eq-true (head_of k) h e))
      ∙ head_eq-same (head_of k)))

-- what a row adds to the list of a head
abbrev more : Bool → ℕ → List ℕ
more b row = if b then row ∷ [] else []

passed : (k l : Head) (h : PlainHead) (row : ℕ) (ns rest new : List ℕ) (b : Bool)
    → derived.ghosts.eq k l ≡ false → head_eq (head_of l) h ≡ b
    → new ≡ rest ++ more (head_eq (head_of k) h) row
    → (if b then ns else new)
    ≡ (if b then ns else rest) ++ more (head_eq (head_of k) h) row
passed k l h row ns rest new true other is e =
    sym (append-nil ns)
    ∙ ap (λ (c : Bool). ns ++ more c row) (sym (other_head k l h other is))
passed k l h row ns rest new false other is e = e

-- a head that has no group yet
group_begun : (ks : List Head) (lists : List (List ℕ)) (k : Head) (row : ℕ) (h : PlainHead)
    → length lists ≡ length ks → list_any (derived.ghosts.eq k) ks ≡ false
    → numbers_under (map head_of (ks ++ k ∷ [])) (lists ++ (row ∷ []) ∷ []) h
    ≡ numbers_under (map head_of ks) lists h ++ more (head_eq (head_of k) h) row
group_begun [] [] k row h count none = refl
group_begun [] (ns ∷ lists) k row h count none = absurd (omega arith)
group_begun (l ∷ ks) [] k row h count none = absurd (omega arith)
group_begun (l ∷ ks) (ns ∷ lists) k row h count none =
    let parts = both_false (derived.ghosts.eq k l) (list_any (derived.ghosts.eq k) ks) none in
    passed k l h row ns _ _ (head_eq (head_of l) h) parts.0 refl
    (group_begun ks lists k row h (omega arith) parts.1)

own_group : (h : PlainHead) (row : ℕ) (ns m rest : List ℕ) (b : Bool) → ns ≡ m
    → (if b then ns ++ row ∷ [] else rest) ≡ (if b then m else rest) ++ more b row
own_group h row ns m rest true same = ap (λ (xs : List ℕ). xs ++ row ∷ []) same
own_group h row ns m rest false same = sym (append-nil rest)

-- a head that has a group
group_grown : (ks : List Head) (lists : List (List ℕ)) (k : Head) (row : ℕ) (h : PlainHead)
    (n : ℕ) (ns : List ℕ) → length lists ≡ length ks
    → n ≡ position_or_len (derived.ghosts.eq k) ks → n < length ks → ns ≡ get_or lists n ns
    → numbers_under (map head_of ks) (set lists n (ns ++ row ∷ [])) h
    ≡ numbers_under (map head_of ks) lists h ++ more (head_eq (head_of k) h) row
group_grown [] lists k row h n ns count is lt own = absurd (omega arith)
group_grown (l ∷ ks) [] k row h n ns count is lt own = absurd (omega arith)
group_grown (l ∷ ks) (m ∷ lists) k row h zero ns count is lt own =
    told (derived.ghosts.eq k l) refl is where
      told : (b : Bool) → derived.ghosts.eq k l ≡ b
          → 0 ≡ (if not b then 1 + position_or_len (derived.ghosts.eq k) ks else 0)
          → (if head_eq (head_of l) h then ns ++ row ∷ []
          else numbers_under (map head_of ks) lists h)
          ≡ (if head_eq (head_of l) h then m else numbers_under (map head_of ks) lists h)
          ++ more (head_eq (head_of k) h) row
      told true same at =
          own_group h row ns m (numbers_under (map head_of ks) lists h) (head_eq (head_of l) h) own
          ∙ ap (λ (g : PlainHead).
          (if head_eq (head_of l) h then m else numbers_under (map head_of ks) lists h)
          ++ more (head_eq g h) row)
          (sym (head_eq-true (head_of k) (head_of l) (sym (same_head k l) ∙ same)))
      told false same at = absurd (omega (arith, at))
group_grown (l ∷ ks) (m ∷ lists) k row h (suc n) ns count is lt own =
    told (derived.ghosts.eq k l) refl is
    (λ at. group_grown ks lists k row h n ns (omega arith) at (omega arith) own) where
      told : (b : Bool) → derived.ghosts.eq k l ≡ b
          → suc n ≡ (if not b then 1 + position_or_len (derived.ghosts.eq k) ks else 0)
          → (n ≡ position_or_len (derived.ghosts.eq k) ks
          → numbers_under (map head_of ks) (set lists n (ns ++ row ∷ [])) h
          ≡ numbers_under (map head_of ks) lists h ++ more (head_eq (head_of k) h) row)
          → (if head_eq (head_of l) h then m
          else numbers_under (map head_of ks) (set lists n (ns ++ row ∷ [])) h)
          ≡ (if head_eq (head_of l) h then m else numbers_under (map head_of ks) lists h)
          ++ more (head_eq (head_of k) h) row
      told true same at rest = absurd (omega (arith, at))
      told false same at rest =
          passed k l h row m _ _ (head_eq (head_of l) h) same refl (rest (omega (arith, at)))

set-lists_of : (vs : List (Vec ℕ)) (n : ℕ) (v : Vec ℕ)
    → lists_of (set vs n v) ≡ set (lists_of vs) n v.items
set-lists_of [] n v = refl
set-lists_of (w ∷ vs) zero v = refl
set-lists_of (w ∷ vs) (suc n) v = ap (λ (ls : List (List ℕ)). w.items ∷ ls) (set-lists_of vs n v)

read-lists_of : (vs : List (Vec ℕ)) (n : ℕ) (v : Vec ℕ) → v ≡ get_or vs n v
    → v.items ≡ get_or (lists_of vs) n v.items
read-lists_of [] n v e = refl
read-lists_of (w ∷ vs) zero v e = ap (λ (x : Vec ℕ). x.items) e
read-lists_of (w ∷ vs) (suc n) v e = read-lists_of vs n v e

length-lists_of : (vs : List (Vec ℕ)) → length (lists_of vs) ≡ length vs
length-lists_of [] = refl
length-lists_of (v ∷ vs) = ap suc (length-lists_of vs)

listed_more : (old new : Groups) (k : Head) (h : PlainHead)
    → new.heads.keys ≡ insert_key derived.ghosts.eq old.heads.keys k
    → is_listed new.heads.keys h ≡ (is_listed old.heads.keys h || head_eq (head_of k) h)
listed_more old new k h keys =
    ap (λ (ks : List Head). is_listed ks h) keys ∙ is_listed-insert old.heads.keys k h

pub gains_begun : (old new : Groups) (k : Head) (row : ℕ) (v : Vec ℕ)
    → length old.rows.items ≡ length old.heads.keys
    → new.heads.keys ≡ insert_key derived.ghosts.eq old.heads.keys k
    → list_any (derived.ghosts.eq k) old.heads.keys ≡ false
    → new.rows.items ≡ old.rows.items ++ v ∷ [] → v.items ≡ row ∷ []
    → Gains old new (head_eq (head_of k)) row
gains_begun old new k row v count keys none rows own =
    let one : new.heads.keys ≡ old.heads.keys ++ k ∷ [] =
    keys
    ∙ ap (λ (b : Bool). if b then old.heads.keys else old.heads.keys ++ k ∷ []) none in
    let lists : lists_of new.rows.items ≡ lists_of old.rows.items ++ (row ∷ []) ∷ [] =
    ap lists_of rows ∙ map-append (λ (w : Vec ℕ). w.items) old.rows.items (v ∷ [])
    ∙ ap (λ (ns : List ℕ). lists_of old.rows.items ++ ns ∷ []) own in record {
      counted = ap length rows ∙ length-append old.rows.items (v ∷ [])
          ∙ ap (λ (n : ℕ). n + 1) count ∙ sym (length-append old.heads.keys (k ∷ []))
          ∙ sym (ap length one);
      listed = λ h. listed_more old new k h keys;
      grown = λ h. ap (λ (ks : List Head). numbers_under (map head_of ks) (lists_of new.rows.items)
          h) one
          ∙ ap (λ (ls : List (List ℕ)). numbers_under (map head_of (old.heads.keys ++ k ∷ [])) ls
          h) lists
          ∙ group_begun old.heads.keys (lists_of old.rows.items) k row h
          (length-lists_of old.rows.items ∙ count) none;
    }

pub gains_grown : (old new : Groups) (k : Head) (row n : ℕ) (v w : Vec ℕ)
    → length old.rows.items ≡ length old.heads.keys
    → new.heads.keys ≡ insert_key derived.ghosts.eq old.heads.keys k
    → list_any (derived.ghosts.eq k) old.heads.keys ≡ true
    → n ≡ position_or_len (derived.ghosts.eq k) old.heads.keys → n < length new.heads.keys
    → v ≡ get_or old.rows.items n v → w.items ≡ v.items ++ row ∷ []
    → new.rows.items ≡ set old.rows.items n w
    → Gains old new (head_eq (head_of k)) row
gains_grown old new k row n v w count keys there is lt read own rows =
    let one : new.heads.keys ≡ old.heads.keys =
    keys
    ∙ ap (λ (b : Bool). if b then old.heads.keys else old.heads.keys ++ k ∷ []) there in
    let lists : lists_of new.rows.items ≡ set (lists_of old.rows.items) n (v.items ++ row ∷ []) =
    ap lists_of rows ∙ set-lists_of old.rows.items n w
    ∙ ap (set (lists_of old.rows.items) n) own in record {
      counted = ap length rows ∙ length-set old.rows.items n w ∙ count ∙ sym (ap length one);
      listed = λ h. listed_more old new k h keys;
      grown = λ h. ap (λ (ks : List Head). numbers_under (map head_of ks) (lists_of new.rows.items)
          h) one
          ∙ ap (λ (ls : List (List ℕ)). numbers_under (map head_of old.heads.keys) ls h) lists
          ∙ group_grown old.heads.keys (lists_of old.rows.items) k row h n v.items
          (length-lists_of old.rows.items ∙ count) is (omega (arith, ap length one))
          (read-lists_of old.rows.items n v read);
    }

-- ---- one row more under several heads

-- a row that has no head
pub gains_none : (old : Groups) (test : PlainHead → Bool) (row : ℕ)
    → length old.rows.items ≡ length old.heads.keys → ((h : PlainHead) → test h ≡ false)
    → Gains old old test row
gains_none old test row count none = record {
  counted = count;
  listed = λ h. sym (or_false (is_listed old.heads.keys h))
      ∙ ap (λ (b : Bool). is_listed old.heads.keys h || b) (sym (none h));
  grown = λ h. sym (append-nil (group_of old h))
      ∙ ap (λ (b : Bool). group_of old h ++ more b row) (sym (none h));
}

pub gains_as : (old new : Groups) (p q : PlainHead → Bool) (row : ℕ)
    → ((h : PlainHead) → p h ≡ q h) → Gains old new p row → Gains old new q row
gains_as old new p q row same gains = record {
  counted = gains.counted;
  listed = λ h. gains.listed h ∙ ap (λ (b : Bool). is_listed old.heads.keys h || b) (same h);
  grown = λ h. gains.grown h ∙ ap (λ (b : Bool). group_of old h ++ more b row) (same h);
}

either : (b c : Bool) (row : ℕ) (ns : List ℕ) → (b && c) ≡ false
    → (ns ++ more b row) ++ more c row ≡ ns ++ more (b || c) row
either true true row ns e = absurd (false≢true (sym e))
either true false row ns e = append-nil (ns ++ row ∷ [])
either false c row ns e = ap (λ (xs : List ℕ). xs ++ more c row) (append-nil ns)

pub gains_twice : (old mid new : Groups) (p q : PlainHead → Bool) (row : ℕ)
    → ((h : PlainHead) → (p h && q h) ≡ false) → Gains old mid p row → Gains mid new q row
    → Gains old new (λ h. p h || q h) row
gains_twice old mid new p q row apart first second = record {
  counted = second.counted;
  listed = λ h. second.listed h ∙ ap (λ (b : Bool). b || q h) (first.listed h)
      ∙ or_assoc (is_listed old.heads.keys h) (p h) (q h);
  grown = λ h. second.grown h ∙ ap (λ (ns : List ℕ). ns ++ more (q h) row) (first.grown h)
      ∙ either (p h) (q h) row (group_of old h) (apart h);
}

-- ---- the heads of an injection of a variable

apart : (a b : Bool) → (a ≡ true → b ≡ true → ⊥) → (a && b) ≡ false
apart true true never = absurd (never refl refl)
apart true false never = refl
apart false b never = refl

-- the injection from the next sort is none of those from lower numbers
lower_apart : (pairs : List (ℕ × ℕ)) (n b d : ℕ) (h : PlainHead)
    → (lower_takes pairs n b d h && head_eq (of_injection n d) h) ≡ false
lower_apart pairs n b d (of_value s v) = refl
lower_apart pairs n b d (of_constructor f m) = refl
lower_apart pairs n b d (of_injection a c) =
    apart (lower_takes pairs n b d (of_injection a c)) ((n == a) && (d == c))
    (λ low own.
    let lt : a < n =
    ltb-true a n (both_true (nat_lt a n) (is_below pairs a b)
    (both_true (nat_lt a n && is_below pairs a b) (d == c) low).0).0 in
    let same : n ≡ a = eqb-true n a (both_true (n == a) (d == c) own).0 in omega arith)

-- nor is one's own injection, since no sort is below itself
own_apart : (pairs : List (ℕ × ℕ)) (n b d : ℕ) (h : PlainHead) → HasNoCycle pairs
    → (head_eq (of_injection b d) h && lower_takes pairs n b d h) ≡ false
own_apart pairs n b d (of_value s v) none = refl
own_apart pairs n b d (of_constructor f m) none = refl
own_apart pairs n b d (of_injection a c) none =
    apart ((b == a) && (d == c)) (lower_takes pairs n b d (of_injection a c))
    (λ own low.
    let same : b ≡ a = eqb-true b a (both_true (b == a) (d == c) own).0 in
    let below : is_below pairs a b ≡ true =
    (both_true (nat_lt a n) (is_below pairs a b)
    (both_true (nat_lt a n && is_below pairs a b) (d == c) low).0).1 in
    none b (is_below-true pairs b b
    (ap (λ (x : ℕ). is_below pairs x b) same ∙ below)))

-- a loop over the sorts goes on
pub gains_lower : (old mid new : Groups) (pairs : List (ℕ × ℕ)) (n b d row : ℕ)
    → is_below pairs n b ≡ true → Gains old mid (lower_takes pairs n b d) row
    → Gains mid new (head_eq (of_injection n d)) row
    → Gains old new (lower_takes pairs (n + 1) b d) row
gains_lower old mid new pairs n b d row below first second =
    gains_as old new _ (lower_takes pairs (n + 1) b d) row
    (λ h. sym (lower_takes-next pairs n b d h true below))
    (gains_twice old mid new _ _ row (lower_apart pairs n b d) first second)

pub gains_past : (old new : Groups) (pairs : List (ℕ × ℕ)) (n b d row : ℕ)
    → is_below pairs n b ≡ false → Gains old new (lower_takes pairs n b d) row
    → Gains old new (lower_takes pairs (n + 1) b d) row
gains_past old new pairs n b d row below first =
    gains_as old new (lower_takes pairs n b d) (lower_takes pairs (n + 1) b d) row
    (λ h. sym (lower_takes-next pairs n b d h false below ∙ or_false _)) first

pub gains_at_first : (old : Groups) (pairs : List (ℕ × ℕ)) (b d row : ℕ)
    → length old.rows.items ≡ length old.heads.keys
    → Gains old old (lower_takes pairs 0 b d) row
gains_at_first old pairs b d row count =
    gains_none old (lower_takes pairs 0 b d) row count (lower_takes-zero pairs b d)

pub gains_own_and_lower : (old mid new : Groups) (pairs : List (ℕ × ℕ)) (n b d row : ℕ)
    (test : PlainHead → Bool) → HasNoCycle pairs
    → ((h : PlainHead) → test h ≡ (head_eq (of_injection b d) h || lower_takes pairs n b d h))
    → Gains old mid (head_eq (of_injection b d)) row → Gains mid new (lower_takes pairs n b d) row
    → Gains old new test row
gains_own_and_lower old mid new pairs n b d row test none same first second =
    gains_as old new _ test row (λ h. sym (same h))
    (gains_twice old mid new _ _ row (λ h. own_apart pairs n b d h none) first second)

-- ---- one row more in a split

filter_more : (test : ℕ → Bool) (rows : List ℕ) (n : ℕ)
    → filter test (rows ++ n ∷ []) ≡ filter test rows ++ more (test n) n
filter_more test rows n = filter-append test rows (n ∷ [])

some_more : (m : Matrix) (position rows : List ℕ) (n : ℕ) (h : PlainHead)
    → list_any (λ (r : Row). takes_there (order_of m) h (row_asks r.1 position))
    (numbered_rows m (rows ++ n ∷ []))
    ≡ (list_any (λ (r : Row). takes_there (order_of m) h (row_asks r.1 position))
    (numbered_rows m rows) || takes_at m position h n)
some_more m position rows n h =
    ap (list_any (λ (r : Row). takes_there (order_of m) h (row_asks r.1 position)))
    (map-append (λ (i : ℕ). (i, row_of m i)) rows (n ∷ []))
    ∙ list_any-append (λ (r : Row). takes_there (order_of m) h (row_asks r.1 position))
    (numbered_rows m rows) ((n, row_of m n) ∷ [])
    ∙ ap (λ (b : Bool).
    list_any (λ (r : Row). takes_there (order_of m) h (row_asks r.1 position))
    (numbered_rows m rows) || b) (or_false (takes_at m position h n))

pub split_begins : (m : Matrix) (position : List ℕ) (s : Split) → s.groups.heads.keys ≡ []
    → s.groups.rows.items ≡ [] → s.wild.items ≡ [] → IsSplit m position [] s
split_begins m position s heads rows wild = record {
  counted = ap length rows ∙ sym (ap length heads);
  listed = λ h. ap (λ (ks : List Head). is_listed ks h) heads;
  taking = λ h. ap (λ (ks : List Head). numbers_under (map head_of ks)
      (lists_of s.groups.rows.items) h) heads;
  wild = wild;
}

pub split_asks : (m : Matrix) (position rows : List ℕ) (old new : Split) (n : ℕ) (q : Pattern)
    → row_asks (row_of m n) position ≡ Some q
    → Gains old.groups new.groups (takes (order_of m) q) n → new.wild.items ≡ old.wild.items
    → IsSplit m position rows old → IsSplit m position (rows ++ n ∷ []) new
split_asks m position rows old new n q asks gains same h =
    let test : (k : PlainHead) → takes (order_of m) q k ≡ takes_at m position k n =
    λ k. ap (takes_there (order_of m) k) (sym asks) in record {
      counted = gains.counted;
      listed = λ k. gains.listed k ∙ ap (λ (b : Bool). is_listed old.groups.heads.keys k || b)
          (test k)
          ∙ ap (λ (b : Bool). b || takes_at m position k n) (h.listed k)
          ∙ sym (some_more m position rows n k);
      taking = λ k. gains.grown k
          ∙ ap (λ (b : Bool). group_of old.groups k ++ more b n) (test k)
          ∙ ap (λ (ns : List ℕ). ns ++ more (takes_at m position k n) n) (h.taking k)
          ∙ sym (filter_more (takes_at m position k) rows n);
      wild = same ∙ h.wild ∙ sym (append-nil (filter (is_wild_at m position) rows))
          ∙ ap (λ (b : Bool). filter (is_wild_at m position) rows ++ more b n)
          (ap is_wild (sym asks))
          ∙ sym (filter_more (is_wild_at m position) rows n);
    }

pub split_wild : (m : Matrix) (position rows : List ℕ) (old new : Split) (n : ℕ)
    → row_asks (row_of m n) position ≡ None → new.groups ≡ old.groups
    → new.wild.items ≡ old.wild.items ++ n ∷ []
    → IsSplit m position rows old → IsSplit m position (rows ++ n ∷ []) new
split_wild m position rows old new n asks same wild h =
    let test : (k : PlainHead) → false ≡ takes_at m position k n =
    λ k. ap (takes_there (order_of m) k) (sym asks) in record {
      counted = ap (λ (g : Groups). length g.rows.items) same ∙ h.counted
          ∙ sym (ap (λ (g : Groups). length g.heads.keys) same);
      listed = λ k. ap (λ (g : Groups). is_listed g.heads.keys k) same ∙ h.listed k
          ∙ sym (or_false _)
          ∙ ap (λ (b : Bool).
          list_any (λ (r : Row). takes_there (order_of m) k (row_asks r.1 position))
          (numbered_rows m rows) || b) (test k)
          ∙ sym (some_more m position rows n k);
      taking = λ k. ap (λ (g : Groups). group_of g k) same ∙ h.taking k
          ∙ sym (append-nil (filter (takes_at m position k) rows))
          ∙ ap (λ (b : Bool). filter (takes_at m position k) rows ++ more b n) (test k)
          ∙ sym (filter_more (takes_at m position k) rows n);
      wild = wild ∙ ap (λ (ns : List ℕ). ns ++ n ∷ []) h.wild
          ∙ ap (λ (b : Bool). filter (is_wild_at m position) rows ++ more b n)
          (ap is_wild (sym asks))
          ∙ sym (filter_more (is_wild_at m position) rows n);
    }

-- ---- what an insertion says

pub is_absent : (new there : Bool) → new ≡ not there → new ≡ true → there ≡ false
is_absent new true e is = absurd (false≢true (sym e ∙ is))
is_absent new false e is = refl

pub is_present : (new there : Bool) → new ≡ not there → new ≡ false → there ≡ true
is_present new true e is = refl
is_present new false e is = absurd (false≢true (sym is ∙ e))

-- ---- variables

no_variable : (pairs : List (ℕ × ℕ)) (p : Pattern) (a b : ℕ) → is_variable p ≡ false
    → lowers pairs a b p ≡ false
no_variable pairs (variable x) a b e = absurd (false≢true (sym e))
no_variable pairs (domain_value s v) a b e = refl
no_variable pairs (application f ps) a b e = refl
no_variable pairs (injection c d p) a b e = refl
no_variable pairs (call f ss ps) a b e = refl

one_variable : (p : Pattern) → is_variable p ≡ true → (x : ℕ) × (p ≡ variable x)
one_variable (variable x) e = (x, refl)
one_variable (domain_value s v) e = absurd (false≢true e)
one_variable (application f ps) e = absurd (false≢true e)
one_variable (injection c d p) e = absurd (false≢true e)
one_variable (call f ss ps) e = absurd (false≢true e)

pub takes_variable : (pairs : List (ℕ × ℕ)) (n b c : ℕ) (q : Pattern) (h : PlainHead)
    → ((a t : ℕ) → IsBelow pairs a t → a < n) → is_variable q ≡ true
    → injection_takes pairs b c q h
    ≡ (head_eq (of_injection b c) h || lower_takes pairs n b c h)
takes_variable pairs n b c q h sorts e =
    let one = one_variable q e in
    ap (λ (p : Pattern). injection_takes pairs b c p h) one.1
    ∙ variable_takes pairs n b c one.0 h sorts

pub takes_other : (pairs : List (ℕ × ℕ)) (b c : ℕ) (q : Pattern) (h : PlainHead)
    → is_variable q ≡ false → injection_takes pairs b c q h ≡ head_eq (of_injection b c) h
takes_other pairs b c q h e = other_takes pairs b c q h (λ a. no_variable pairs q a b e)
