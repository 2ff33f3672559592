-- What is recorded of equations that are not used.
use Rattle.std.proofs.Common.{◌≡◌, ℕ, zero, suc, ◌+◌, ◌-◌, ◌<◌, ◌≤◌, Bool, true, false}
use Rattle.std.proofs.Common.{List, [], ◌∷◌, ◌++◌, length, map, take}
use Rattle.std.proofs.Common.{slice_get, Option, Some, refl, sym, ◌∙◌, ap, subst, arith}
use Rattle.std.specs.Prelude.{IsSome, is_some, ◌||◌}
use Rattle.term_core.specs.Terms.{Tree, Forest}
use Rattle.rule_core.specs.Rules.{Equation}
use Rattle.rule_core.specs.Theories.{RewriteTheory, equations_of}
use Rattle.rule_core.specs.Matching.{NoneMatches}
use Rattle.rule_core.specs.Evaluation.{IsUnmatchedBy}
use Rattle.rule_core.specs.Records.{Record, Miss, no_match, condition_false, MissList, none_missed}
use Rattle.rule_core.specs.Records.{more_missed, AreMissed}
use Rattle.rule_core.specs.RecordView.{misses}
use Rattle.rule_core.specs.declared.records.Miss as code
use Rattle.rule_core.specs.declared.records.Miss.TheVariants as why
use Rattle.rule_core.proofs.NamedMatches.{none_matches_named}
use Rattle.match_tree.specs.ProgramLaws.{NoEquationMatches}
use Rattle.fun_eval.proofs.PlainRecords.{plain-NoMatch}
use Rattle.fun_eval.specs.Equations.{FailsAt}
use Rattle.fun_eval.specs.declared.equations.Passed.{Passed}
use Rattle.fun_eval.specs.LastResorts.{has_last_resort}
use Rattle.fun_eval.specs.RecordLists.{last_missed, plain_missed, with_unmatched}

-- ---- lists of misses

pub misses-push : (xs : List code.Miss) (x : code.Miss) → misses (map plain_missed (xs ++ x ∷ []))
    ≡ last_missed (misses (map plain_missed xs)) (plain_missed x)
misses-push [] x = refl
misses-push (y ∷ xs) x = ap (more_missed (plain_missed y)) (misses-push xs x)

pub one_unmatched_more : (xs ys : List code.Miss) (missed : MissList) (n : ℕ)
    → ys ≡ xs ++ why.NoMatch ∷ [] → misses (map plain_missed xs) ≡ with_unmatched missed n
    → misses (map plain_missed ys) ≡ with_unmatched missed (n + 1)
one_unmatched_more xs ys missed n is before =
    let next : suc n ≡ n + 1 = omega arith in
    ap (λ (zs : List code.Miss). misses (map plain_missed zs)) is
    ∙ (misses-push xs why.NoMatch
    ∙ (ap (λ (ms : MissList). last_missed ms (plain_missed why.NoMatch)) before
    ∙ (ap (λ (miss : Miss). last_missed (with_unmatched missed n) miss) plain-NoMatch
    ∙ ap (with_unmatched missed) next)))

one_missed_last : (theory : RewriteTheory) (es : List Equation) (e : Equation) (ts : Forest)
    (missed : MissList) (miss : Miss) → AreMissed theory es ts missed
    → AreMissed theory (e ∷ []) ts (more_missed miss none_missed)
    → AreMissed theory (es ++ e ∷ []) ts (last_missed missed miss)
one_missed_last theory es e ts none_missed miss none last =
    subst (λ (xs : List Equation).
    AreMissed theory (xs ++ e ∷ []) ts (more_missed miss none_missed))
    (sym none) last
one_missed_last theory es e ts (more_missed no_match missed) miss (d, others, is, never, rest)
    last = (
      d,
      others ++ e ∷ [],
      ap (λ (xs : List Equation). xs ++ e ∷ []) is,
      never,
      one_missed_last theory others e ts missed miss rest last,
    )
one_missed_last theory es e ts (more_missed (condition_false sigma r) missed) miss
    (d, others, q, is, match, has, recorded, other, rest) last = (
      d,
      others ++ e ∷ [],
      q,
      ap (λ (xs : List Equation). xs ++ e ∷ []) is,
      match,
      has,
      recorded,
      other,
      one_missed_last theory others e ts missed miss rest last,
    )

-- ---- the equations of a function

-- names change nothing of what matches
pub unmatched_by : (theory : RewriteTheory) (e : Equation) (ts : Forest)
    → NoneMatches theory.sig e.variables e.arguments ts → IsUnmatchedBy theory e ts
unmatched_by theory e ts none = λ theta match.
    none_matches_named theory.sig e.variables e.arguments e.names ts theta none match

take-next : (es : List Equation) (i : ℕ) (e : Equation) → slice_get es i ≡ Some e
    → take (i + 1) es ≡ take i es ++ e ∷ []
take-next [] i e there = let no : ⊥ = cc in absurd no
take-next (x ∷ es) zero e there = let same : x ≡ e = cc in ap (λ (y : Equation). y ∷ []) same
take-next (x ∷ es) (suc i) e there =
    let next : suc i + 1 ≡ suc (i + 1) = omega arith in
    rw next (ap (λ (ys : List Equation). x ∷ ys) (take-next es i e there))

there_is : (es : List Equation) (i : ℕ) → i < length es
    → (e : Equation) × (slice_get es i ≡ Some e)
there_is [] i lt = absurd (omega arith)
there_is (x ∷ es) zero lt = (x, refl)
there_is (x ∷ es) (suc i) lt = there_is es i (omega arith)

-- equations that do not match are missed
pub missed_to : (theory : RewriteTheory) (f i n : ℕ) (ts : Forest) (missed : MissList)
    → AreMissed theory (take i (equations_of theory f)) ts missed
    → NoEquationMatches theory f i (i + n) ts → i + n ≤ length (equations_of theory f)
    → AreMissed theory (take (i + n) (equations_of theory f)) ts (with_unmatched missed n)
missed_to theory f i zero ts missed all none within =
    let here : i + 0 ≡ i = omega arith in
    subst (λ k. AreMissed theory (take k (equations_of theory f)) ts missed) (sym here) all
missed_to theory f i (suc n) ts missed all none within =
    let next : i + suc n ≡ (i + n) + 1 = omega arith in
    let (e, there) = there_is (equations_of theory f) (i + n) (omega arith) in
    let never = unmatched_by theory e ts (none (i + n) e (omega arith) (omega arith) there) in
    let before =
    missed_to theory f i n ts missed all
    (λ j other from to at. none j other from (omega (arith, to)) at) (omega (arith, within)) in
    subst (λ k. AreMissed theory (take k (equations_of theory f)) ts
    (with_unmatched missed (suc n))) (sym next)
    (subst (λ (xs : List Equation). AreMissed theory xs ts (with_unmatched missed (suc n)))
    (sym (take-next (equations_of theory f) (i + n) e there))
    (one_missed_last theory (take (i + n) (equations_of theory f)) e ts (with_unmatched missed n)
    no_match before (e, [], refl, never, refl)))

-- so is one whose condition is not true
pub missed_at : (tells : Record → Type 0) (theory : RewriteTheory) (f i : ℕ) (ts : Forest)
    (theta : List (Option Tree)) (missed : MissList)
    → AreMissed theory (take i (equations_of theory f)) ts missed
    → (fails : FailsAt tells theory f i ts theta)
    → AreMissed theory (take (i + 1) (equations_of theory f)) ts
    (last_missed missed (condition_false theta fails.3.1))
missed_at tells theory f i ts theta missed all
    (e, there, match, (q, r, has, told, recorded, other)) =
    subst (λ (xs : List Equation). AreMissed theory xs ts
    (last_missed missed (condition_false theta r)))
    (sym (take-next (equations_of theory f) i e there))
    (one_missed_last theory (take i (equations_of theory f)) e ts missed (condition_false theta r)
    all (e, [], q, refl, match, has, recorded, other, refl))

-- ---- what is recorded of them

-- what is recorded of misses of the first equations of the function
abbrev pub RecordsFirst : (MissList → Type 0) → RewriteTheory → ℕ → ℕ → Forest → Type 0
RecordsFirst tell theory f i ts =
    (missed : MissList) × tell missed × AreMissed theory (take i (equations_of theory f)) ts missed

pub unmatched_recorded : {M : Type 0} (misses_tell : M → MissList → Type 0)
    (theory : RewriteTheory) (f count row : ℕ) (ts : Forest) (old mid : M) → count ≤ row
    → row < length (equations_of theory f) → NoEquationMatches theory f count row ts
    → RecordsFirst (misses_tell old) theory f count ts
    → ((missed : MissList) → misses_tell old missed
    → misses_tell mid (with_unmatched missed (row - count)))
    → RecordsFirst (misses_tell mid) theory f row ts
unmatched_recorded misses_tell theory f count row ts old mid later within none (missed, told, all)
    tells =
    let whole : count + (row - count) ≡ row = omega arith in (
      with_unmatched missed (row - count),
      tells missed told,
      subst (λ k. AreMissed theory (take k (equations_of theory f)) ts
          (with_unmatched missed (row - count))) whole
          (missed_to theory f count (row - count) ts missed all
          (subst (λ k. NoEquationMatches theory f count k ts) (sym whole) none)
          (omega (arith, within, whole))),
    )

pub failure_recorded : {M : Type 0} (misses_tell : M → MissList → Type 0)
    (tells : Record → Type 0) (theory : RewriteTheory) (f row : ℕ) (ts : Forest)
    (theta : List (Option Tree)) (mid new : M) → FailsAt tells theory f row ts theta
    → RecordsFirst (misses_tell mid) theory f row ts
    → ((missed : MissList) (r : Record) → misses_tell mid missed → tells r
    → misses_tell new (last_missed missed (condition_false theta r)))
    → RecordsFirst (misses_tell new) theory f (row + 1) ts
failure_recorded misses_tell tells theory f row ts theta mid new fails (missed, told, all) tell = (
  last_missed missed (condition_false theta fails.3.1),
  tell missed fails.3.1 told fails.3.3,
  missed_at tells theory f row ts theta missed all fails,
)

pub records_of_first : {M : Type 0} (misses_tell : M → MissList → Type 0)
    (theory : RewriteTheory) (f i : ℕ) (ts : Forest) (passed : Passed M) (count : ℕ) (new : M)
    → passed ≡ record { count = count; missed = new }
    → RecordsFirst (misses_tell new) theory f i ts
    → RecordsFirst (misses_tell passed.missed) theory f i ts
records_of_first {M} misses_tell theory f i ts passed count new is first =
    subst (λ (p : Passed M). RecordsFirst (misses_tell p.missed) theory f i ts) (sym is) first

-- a function with an equation of the last resort has one
pub one_is_last : (es : List Equation) (i : ℕ) (e : Equation) → slice_get es i ≡ Some e
    → IsSome e.last_resort → has_last_resort es ≡ true
one_is_last [] i e there last = let no : ⊥ = cc in absurd no
one_is_last (x ∷ es) zero e there last =
    let same : x ≡ e = cc in
    let here : is_some x.last_resort ≡ true =
    ap (λ (y : Equation). is_some y.last_resort) same ∙ last in
    ap (λ b. b || has_last_resort es) here
one_is_last (x ∷ es) (suc i) e there last =
    or_true (is_some x.last_resort) (has_last_resort es) (one_is_last es i e there last) where
      or_true : (a b : Bool) → b ≡ true → (a || b) ≡ true
      or_true true b is = refl
      or_true false b is = is
