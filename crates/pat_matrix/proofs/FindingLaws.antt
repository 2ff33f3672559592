-- Rows that fit what tests have found.
use Rattle.std.proofs.Common.{◌≡◌, ◌⊎◌, inl, inr, ◌+◌, ◌<◌, ◌≤◌, ℕ, zero, suc, Bool, true, false}
use Rattle.std.proofs.Common.{List, [], ◌∷◌, ◌++◌, length, Option, Some, None, slice_get, Contains}
use Rattle.std.proofs.Common.{refl, sym, ◌∙◌, ap, subst, arith}
use Rattle.std.specs.Prelude.{◌==◌, filter}
use Rattle.std.specs.Option.{option_and_then}
use Rattle.std.proofs.lemmas.Bool.{eqb-true, false≢true}
use Rattle.std.proofs.lemmas.List.{append_assoc, append-nil}
use Rattle.term_core.specs.Patterns.{Pattern, Patterns, variable, domain_value, application}
use Rattle.term_core.specs.Patterns.{injection, call, no_pattern, more_patterns}
use Rattle.term_core.specs.Instances.{patterns}
use Rattle.rule_core.proofs.Belows.{both_true}
use Rattle.pat_matrix.specs.Heads.{PlainHead, of_value, of_constructor, of_injection, takes}
use Rattle.pat_matrix.specs.Heads.{pattern_list}
use Rattle.pat_matrix.specs.Positions.{asked, row_asks, asked_below, all_asked, asked_positions}
use Rattle.pat_matrix.specs.Rows.{Row, is_wild, wants, width}
use Rattle.pat_matrix.specs.MatchTrees.{Findings, IsReached}
use Rattle.pat_matrix.specs.Findings.{fits_finding, Fits, AllFit, IsTested, AreTested, AreReached}
use Rattle.pat_matrix.specs.Findings.{TestedRowIsFound, PositionsAreReached, BranchRowsFit}
use Rattle.pat_matrix.specs.Findings.{OtherRowsFit}
use Rattle.pat_matrix.proofs.PartLaws.{pattern_list-patterns}
use Rattle.pat_matrix.proofs.ListedLaws.{asked_are_listed}

-- ---- rows of which every position was tested

tested_item : (found : Findings) (xs : List (List ℕ)) (x : List ℕ) → AreTested found xs
    → Contains xs x → IsTested found x
tested_item found [] x h k = absurd (omega (arith, k.1))
tested_item found (y ∷ xs) x h (zero, lt, is) =
    let P : List ℕ → Type 0 = IsTested found in subst P is h.0
tested_item found (y ∷ xs) x h (suc n, lt, is) =
    tested_item found xs x h.1 (n, omega arith, is)

pub tested_row_is_found : TestedRowIsFound
tested_row_is_found pairs found ps fits tested position q asks =
    let one =
    tested_item found (asked_positions ps) position tested (asked_are_listed ps position q asks) in
    told one.0 one.1 where
      told : (o : Option PlainHead) → Contains found (position, o)
          → (h : PlainHead) × Contains found (position, Some h) × (takes pairs q h ≡ true)
      told None there =
          absurd (false≢true (ap is_wild (sym asks) ∙ fits position None there))
      told (Some h) there =
          (h, there, ap (wants pairs h) (sym asks) ∙ fits position (Some h) there)

-- ---- rows that are left

pub one_or_last : {X : Type 0} (xs : List X) (y x : X) → Contains (xs ++ y ∷ []) x
    → Contains xs x ⊎ (y ≡ x)
one_or_last [] y x (zero, lt, is) = inr is
one_or_last [] y x (suc n, lt, is) = absurd (omega arith)
one_or_last (z ∷ xs) y x (zero, lt, is) = inl (zero, omega arith, is)
one_or_last (z ∷ xs) y x (suc n, lt, is) =
    told (one_or_last xs y x (n, omega arith, is)) where
      told : Contains xs x ⊎ (y ≡ x) → Contains (z ∷ xs) x ⊎ (y ≡ x)
      told (inl h) = inl (suc h.0, omega (arith, h.1), h.2)
      told (inr same) = inr same

fits_more : (pairs : List (ℕ × ℕ)) (found : Findings) (position : List ℕ) (o : Option PlainHead)
    (ps : List Pattern) → Fits pairs found ps
    → fits_finding pairs o (row_asks ps position) ≡ true
    → Fits pairs (found ++ (position, o) ∷ []) ps
fits_more pairs found position o ps h own place k there =
    told (one_or_last found (position, o) (place, k) there) where
      told : Contains found (place, k)
          ⊎ ◌≡◌ {A = List ℕ × Option PlainHead} (position, o) (place, k)
          → fits_finding pairs k (row_asks ps place) ≡ true
      told (inl old) = h place k old
      told (inr same) =
          let P : List ℕ × Option PlainHead → Type 0 =
          λ e. fits_finding pairs e.1 (row_asks ps e.0) ≡ true in
          subst P same own

all_fit_step : (pairs : List (ℕ × ℕ)) (found : Findings) (position : List ℕ)
    (o : Option PlainHead) (keep : Row → Bool) (r : Row) (rows : List Row) (b : Bool)
    → keep r ≡ b → keep r ≡ fits_finding pairs o (row_asks r.1 position) → Fits pairs found r.1
    → AllFit pairs (found ++ (position, o) ∷ []) (filter keep rows)
    → AllFit pairs (found ++ (position, o) ∷ []) (filter keep (r ∷ rows))
all_fit_step pairs found position o keep r rows true is same first rest =
    rw is (fits_more pairs found position o r.1 first (sym same ∙ is), rest)
all_fit_step pairs found position o keep r rows false is same first rest = rw is rest

all_fit_filter : (pairs : List (ℕ × ℕ)) (found : Findings) (position : List ℕ)
    (o : Option PlainHead) (keep : Row → Bool) (rows : List Row)
    → ((r : Row) → keep r ≡ fits_finding pairs o (row_asks r.1 position))
    → AllFit pairs found rows
    → AllFit pairs (found ++ (position, o) ∷ []) (filter keep rows)
all_fit_filter pairs found position o keep [] same h = tt
all_fit_filter pairs found position o keep (r ∷ rows) same h =
    all_fit_step pairs found position o keep r rows (keep r) refl (same r) h.0
    (all_fit_filter pairs found position o keep rows same h.1)

pub branch_rows_fit : BranchRowsFit
branch_rows_fit pairs found position h rows fit =
    all_fit_filter pairs found position (Some h) _ rows (λ r. refl) fit

pub other_rows_fit : OtherRowsFit
other_rows_fit pairs found position rows fit =
    all_fit_filter pairs found position None _ rows (λ r. refl) fit

-- ---- positions that are reached

are_reached-append : (found : Findings) (xs ys : List (List ℕ)) → AreReached found xs
    → AreReached found ys → AreReached found (xs ++ ys)
are_reached-append found [] ys h k = k
are_reached-append found (x ∷ xs) ys h k =
    (h.0, λ tested. are_reached-append found xs ys (h.1 tested) k)

-- what was found at and below a place fits the pattern there
abbrev pub FitsBelow : List (ℕ × ℕ) → Findings → List ℕ → Pattern → Type 0
FitsBelow pairs found place p =
    (way : List ℕ) (o : Option PlainHead) → Contains found (place ++ way, o)
    → fits_finding pairs o (asked p way) ≡ true

-- the head that was found at a place is one that the pattern takes
found_head : (pairs : List (ℕ × ℕ)) (found : Findings) (place : List ℕ) (p q : Pattern)
    → FitsBelow pairs found place p → asked p [] ≡ Some q → IsTested found place
    → (h : PlainHead) × Contains found (place, Some h) × (takes pairs q h ≡ true)
found_head pairs found place p q fits asks (o, there) = told o there where
  told : (o : Option PlainHead) → Contains found (place, o)
      → (h : PlainHead) × Contains found (place, Some h) × (takes pairs q h ≡ true)
  told None own =
      let P : List ℕ → Type 0 = λ x. Contains found (x, None) in
      absurd (false≢true (ap is_wild (sym asks)
      ∙ fits [] None (subst P (sym (append-nil place)) own)))
  told (Some h) own =
      let P : List ℕ → Type 0 = λ x. Contains found (x, Some h) in (
        h,
        own,
        ap (wants pairs h) (sym asks) ∙ fits [] (Some h) (subst P (sym (append-nil place)) own),
      )

width_of_application : (pairs : List (ℕ × ℕ)) (f : ℕ) (ps : Patterns) (h : PlainHead)
    → takes pairs (application f ps) h ≡ true → length (pattern_list ps) ≡ width h
width_of_application pairs f ps (of_value s v) e = absurd (false≢true e)
width_of_application pairs f ps (of_constructor g n) e =
    eqb-true _ _ (both_true (f == g) (length (pattern_list ps) == n) e).1
width_of_application pairs f ps (of_injection a b) e = absurd (false≢true e)

width_of_injection : (pairs : List (ℕ × ℕ)) (b c : ℕ) (p : Pattern) (h : PlainHead)
    → takes pairs (injection b c p) h ≡ true → 0 < width h
width_of_injection pairs b c p (of_value s v) e = absurd (false≢true e)
width_of_injection pairs b c p (of_constructor g n) e = absurd (false≢true e)
width_of_injection pairs b c p (of_injection a d) e = omega arith

-- what was found below a child fits the child
fits_below-child : (pairs : List (ℕ × ℕ)) (found : Findings) (place : List ℕ) (p q : Pattern)
    (i : ℕ) → FitsBelow pairs found place p
    → ((way : List ℕ) → asked p (i ∷ way) ≡ asked q way)
    → FitsBelow pairs found (place ++ i ∷ []) q
fits_below-child pairs found place p q i fits same way o there =
    let P : List ℕ → Type 0 = λ x. Contains found (x, o) in
    ap (fits_finding pairs o) (sym (same way))
    ∙ fits (i ∷ way) o (subst P (append_assoc place (i ∷ []) way) there)

mutual
  reached_below : (pairs : List (ℕ × ℕ)) (found : Findings) (place : List ℕ) (p : Pattern)
      → IsReached found place → FitsBelow pairs found place p
      → AreReached found (asked_below place p)
  reached_below pairs found place (variable x) reached fits = tt
  reached_below pairs found place (domain_value s v) reached fits = (reached, λ tested. tt)
  reached_below pairs found place (application f ps) reached fits = (
    reached,
    λ tested.
        let head = found_head pairs found place (application f ps) _ fits refl tested in
        reached_all pairs found place 0 ps head.0 head.1
        (let count : length (pattern_list ps) ≡ width head.0 =
        width_of_application pairs f ps head.0 head.2 in omega arith)
        (λ i q at. fits_below-child pairs found place (application f ps) q (0 + i) fits
        (λ way. ap (λ (m : ℕ). asked (application f ps) (m ∷ way)) (omega arith)
        ∙ ap (option_and_then (λ (r : Pattern). asked r way)) at)),
  )
  reached_below pairs found place (injection b c p) reached fits = (
    reached,
    λ tested.
        let head = found_head pairs found place (injection b c p) _ fits refl tested in
        reached_below pairs found (place ++ 0 ∷ []) p
        (place, 0, refl, inr (head.0, head.1, width_of_injection pairs b c p head.0 head.2))
        (fits_below-child pairs found place (injection b c p) p 0 fits (λ way. refl)),
  )
  reached_below pairs found place (call f ss ps) reached fits = (reached, λ tested. tt)

  reached_all : (pairs : List (ℕ × ℕ)) (found : Findings) (place : List ℕ) (k : ℕ)
      (ps : Patterns) (h : PlainHead) → Contains found (place, Some h)
      → k + length (pattern_list ps) ≤ width h
      → ((i : ℕ) (q : Pattern) → slice_get (pattern_list ps) i ≡ Some q
      → FitsBelow pairs found (place ++ (k + i) ∷ []) q)
      → AreReached found (all_asked place k ps)
  reached_all pairs found place k no_pattern h there room fits = tt
  reached_all pairs found place k (more_patterns p ps) h there room fits =
      let P : ℕ → Type 0 = λ m. FitsBelow pairs found (place ++ m ∷ []) p in
      let first : k + 0 ≡ k = omega arith in
      are_reached-append found (asked_below (place ++ k ∷ []) p) (all_asked place (k + 1) ps)
      (reached_below pairs found (place ++ k ∷ []) p
      (place, k, refl, inr (h, there, omega arith)) (subst P first (fits 0 p refl)))
      (reached_all pairs found place (k + 1) ps h there (omega arith)
      (λ i q at. let Q : ℕ → Type 0 = λ m. FitsBelow pairs found (place ++ m ∷ []) q in
      let next : k + suc i ≡ k + 1 + i = omega arith in subst Q next (fits (suc i) q at)))

-- the positions of the subjects
reached_rows : (pairs : List (ℕ × ℕ)) (found : Findings) (k : ℕ) (ps : Patterns)
    → ((i : ℕ) (q : Pattern) → slice_get (pattern_list ps) i ≡ Some q
    → FitsBelow pairs found ((k + i) ∷ []) q)
    → AreReached found (all_asked [] k ps)
reached_rows pairs found k no_pattern fits = tt
reached_rows pairs found k (more_patterns p ps) fits =
    let P : ℕ → Type 0 = λ m. FitsBelow pairs found (m ∷ []) p in
    let first : k + 0 ≡ k = omega arith in
    are_reached-append found (asked_below (k ∷ []) p) (all_asked [] (k + 1) ps)
    (reached_below pairs found (k ∷ []) p ([], k, refl, inl refl) (subst P first (fits 0 p refl)))
    (reached_rows pairs found (k + 1) ps
    (λ i q at. let Q : ℕ → Type 0 = λ m. FitsBelow pairs found (m ∷ []) q in
    let next : k + suc i ≡ k + 1 + i = omega arith in subst Q next (fits (suc i) q at)))

pub positions_are_reached : PositionsAreReached
positions_are_reached pairs found ps fits =
    reached_rows pairs found 0 (patterns ps)
    (λ i q at way o there.
    let listed : slice_get ps i ≡ Some q =
    ap (λ (qs : List Pattern). slice_get qs i) (sym (pattern_list-patterns ps)) ∙ at in
    let P : ℕ → Type 0 = λ m. Contains found (m ∷ way, o) in
    let same : 0 + i ≡ i = omega arith in
    ap (fits_finding pairs o)
    (sym (ap (option_and_then (λ (r : Pattern). asked r way)) listed))
    ∙ fits (i ∷ way) o (subst P same there))
