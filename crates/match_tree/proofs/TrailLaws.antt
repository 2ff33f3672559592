-- Positions that were tested.
use Rattle.std.proofs.Common.{◌≡◌, ℕ, zero, suc, Bool, true, false, List, [], ◌∷◌}
use Rattle.std.proofs.Common.{Option, Some, None, Contains, refl, sym, ◌∙◌, ap, subst, arith}
use Rattle.std.specs.Prelude.{◌||◌, if◌then◌else◌}
use Rattle.std.specs.Str.{bytes_eq}
use Rattle.std.proofs.lemmas.Bool.{false≢true}
use Rattle.std.proofs.lemmas.Slice.Eq.{bytes_eq-Decides}
use Rattle.pat_matrix.specs.Heads.{PlainHead}
use Rattle.pat_matrix.specs.MatchTrees.{Findings, IsReached}
use Rattle.pat_matrix.specs.Findings.{IsTested, AreTested, AreReached}
use Rattle.match_tree.specs.Trails.{trail_of, was_tested, first_untested}

or_true : (b : Bool) → (b || true) ≡ true
or_true true = refl
or_true false = refl

pub tested_true : (found : Findings) (position : List ℕ) (o : Option PlainHead)
    → Contains found (position, o) → was_tested (trail_of found) position ≡ true
tested_true [] position o h = absurd (omega (arith, h.1))
tested_true (e ∷ found) position o (zero, lt, is) =
    let same : e.0 ≡ position = ap (λ (d : List ℕ × Option PlainHead). d.0) is in
    ap (λ (b : Bool). b || was_tested (trail_of found) position)
    ((bytes_eq-Decides e.0 position).1 same)
tested_true (e ∷ found) position o (suc n, lt, is) =
    ap (λ (b : Bool). bytes_eq e.0 position || b)
    (tested_true found position o (n, omega arith, is))
    ∙ or_true (bytes_eq e.0 position)

tested_step : (e : List ℕ × Option PlainHead) (found : Findings) (position : List ℕ) (b : Bool)
    → bytes_eq e.0 position ≡ b → (b || was_tested (trail_of found) position) ≡ true
    → (was_tested (trail_of found) position ≡ true → IsTested found position)
    → IsTested (e ∷ found) position
tested_step e found position true is h rest =
    let same : e.0 ≡ position = (bytes_eq-Decides e.0 position).0 is in
    (e.1, (0, omega arith, ap (λ (x : List ℕ). (x, e.1)) same))
tested_step e found position false is h rest =
    let one = rest h in (one.0, (suc one.1.0, omega (arith, one.1.1), one.1.2))

pub tested_is : (found : Findings) (position : List ℕ)
    → was_tested (trail_of found) position ≡ true → IsTested found position
tested_is [] position h = absurd (false≢true h)
tested_is (e ∷ found) position h =
    tested_step e found position (bytes_eq e.0 position) refl h (tested_is found position)

all_tested_step : (found : Findings) (x : List ℕ) (xs : List (List ℕ)) (b : Bool)
    → was_tested (trail_of found) x ≡ b
    → (if b then first_untested (trail_of found) xs else Some x) ≡ None
    → (first_untested (trail_of found) xs ≡ None → AreTested found xs)
    → AreTested found (x ∷ xs)
all_tested_step found x xs true is e rest = (tested_is found x is, rest e)
all_tested_step found x xs false is e rest = absurd (let no : ⊥ = cc in no)

pub all_tested : (found : Findings) (xs : List (List ℕ))
    → first_untested (trail_of found) xs ≡ None → AreTested found xs
all_tested found [] e = tt
all_tested found (x ∷ xs) e =
    all_tested_step found x xs (was_tested (trail_of found) x) refl e (all_tested found xs)

-- a first position that was not tested
abbrev pub IsFirst : Findings → List (List ℕ) → List ℕ → Type 0
IsFirst found xs position =
    Contains xs position × (was_tested (trail_of found) position ≡ false)
    × (AreReached found xs → IsReached found position)

first_step : (found : Findings) (x : List ℕ) (xs : List (List ℕ)) (position : List ℕ) (b : Bool)
    → was_tested (trail_of found) x ≡ b
    → (if b then first_untested (trail_of found) xs else Some x) ≡ Some position
    → (first_untested (trail_of found) xs ≡ Some position → IsFirst found xs position)
    → IsFirst found (x ∷ xs) position
first_step found x xs position true is e rest =
    let one = rest e in (
      (suc one.0.0, omega (arith, one.0.1), one.0.2),
      one.1,
      λ reached. one.2 (reached.1 (tested_is found x is)),
    )
first_step found x xs position false is e rest =
    let same : x ≡ position = cc in (
      (0, omega arith, same),
      ap (was_tested (trail_of found)) (sym same) ∙ is,
      λ reached. let P : List ℕ → Type 0 = IsReached found in subst P same reached.0,
    )

pub first_is : (found : Findings) (xs : List (List ℕ)) (position : List ℕ)
    → first_untested (trail_of found) xs ≡ Some position → IsFirst found xs position
first_is found [] position e = absurd (let no : ⊥ = cc in no)
first_is found (x ∷ xs) position e =
    first_step found x xs position (was_tested (trail_of found) x) refl e
    (first_is found xs position)
