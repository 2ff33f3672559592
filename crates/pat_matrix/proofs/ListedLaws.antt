-- Each position that a row asks is listed, and no other.
use Rattle.std.proofs.Common.{◌≡◌, ◌+◌, ℕ, zero, suc, List, [], ◌∷◌, ◌++◌, slice_get, Some}
use Rattle.std.proofs.Common.{◌⊎◌, inl, inr, Contains, refl, sym, ◌∙◌, ap, subst, arith}
use Rattle.std.proofs.lemmas.List.{append_assoc, append-nil}
use Rattle.term_core.specs.Patterns.{Pattern, Patterns, variable, domain_value, application}
use Rattle.term_core.specs.Patterns.{injection, call, no_pattern, more_patterns}
use Rattle.term_core.specs.Instances.{patterns}
use Rattle.std.specs.Option.{option_and_then}
use Rattle.rule_core.proofs.MatchFound.{after}
use Rattle.pat_matrix.specs.Heads.{pattern_list}
use Rattle.pat_matrix.specs.Positions.{part, asked, asked_below, all_asked, row_asks}
use Rattle.pat_matrix.specs.TreeLaws.{AskedAreListed, ListedAreAsked}
use Rattle.pat_matrix.proofs.PartLaws.{pattern_list-patterns}

-- an item of a list is one of a longer list
here : {X : Type 0} (x : X) (xs : List X) → Contains (x ∷ xs) x
here x xs = (0, omega arith, refl)

further : {X : Type 0} (y x : X) (xs : List X) → Contains xs x → Contains (y ∷ xs) x
further y x xs h = (suc h.0, omega (arith, h.1), h.2)

pub in_front : {X : Type 0} (xs ys : List X) (x : X) → Contains xs x → Contains (xs ++ ys) x
in_front [] ys x h = absurd (omega (arith, h.1))
in_front (y ∷ xs) ys x (zero, lt, is) = (zero, omega arith, is)
in_front (y ∷ xs) ys x (suc k, lt, is) =
    further y x (xs ++ ys) (in_front xs ys x (k, omega arith, is))

pub behind : {X : Type 0} (xs ys : List X) (x : X) → Contains ys x → Contains (xs ++ ys) x
behind [] ys x h = h
behind (y ∷ xs) ys x h = further y x (xs ++ ys) (behind xs ys x h)

-- what a child asks is listed with the other children
listed_child : (place : List ℕ) (k : ℕ) (ps : Patterns) (i : ℕ) (p : Pattern) (x : List ℕ)
    → slice_get (pattern_list ps) i ≡ Some p
    → Contains (asked_below (place ++ (k + i) ∷ []) p) x → Contains (all_asked place k ps) x
listed_child place k no_pattern i p x at h = absurd (let no : ⊥ = cc in no)
listed_child place k (more_patterns q ps) zero p x at h =
    let same : q ≡ p = cc in
    let P : Pattern → Type 0 = λ r. Contains (asked_below (place ++ k ∷ []) r) x in
    let Q : ℕ → Type 0 = λ m. Contains (asked_below (place ++ m ∷ []) p) x in
    let first : k + 0 ≡ k = omega arith in
    in_front (asked_below (place ++ k ∷ []) q) (all_asked place (k + 1) ps) x
    (subst P (sym same) (subst Q first h))
listed_child place k (more_patterns q ps) (suc i) p x at h =
    let Q : ℕ → Type 0 = λ m. Contains (asked_below (place ++ m ∷ []) p) x in
    let next : k + suc i ≡ k + 1 + i = omega arith in
    behind (asked_below (place ++ k ∷ []) q) (all_asked place (k + 1) ps) x
    (listed_child place (k + 1) ps i p x at (subst Q next h))

listed_root : (place : List ℕ) (p q : Pattern) → asked p [] ≡ Some q
    → Contains (asked_below place p) (place ++ [])
listed_root place (variable x) q e = absurd (let no : ⊥ = cc in no)
listed_root place (domain_value s v) q e = rw (append-nil place) (here place [])
listed_root place (application f ps) q e =
    rw (append-nil place) (here place (all_asked place 0 ps))
listed_root place (injection a b p) q e =
    rw (append-nil place) (here place (asked_below (place ++ 0 ∷ []) p))
listed_root place (call f ss ps) q e = rw (append-nil place) (here place [])

listed_part : (place : List ℕ) (p r : Pattern) (i : ℕ) (x : List ℕ) → part p i ≡ Some r
    → Contains (asked_below (place ++ i ∷ []) r) x → Contains (asked_below place p) x
listed_part place (variable y) r i x at h = absurd (let no : ⊥ = cc in no)
listed_part place (domain_value s v) r i x at h = absurd (let no : ⊥ = cc in no)
listed_part place (application f ps) r i x at h =
    let Q : ℕ → Type 0 = λ m. Contains (asked_below (place ++ m ∷ []) r) x in
    let first : i ≡ 0 + i = omega arith in
    further place x (all_asked place 0 ps) (listed_child place 0 ps i r x at (subst Q first h))
listed_part place (injection a b p) r zero x at h =
    let same : p ≡ r = cc in
    let P : Pattern → Type 0 = λ q. Contains (asked_below (place ++ 0 ∷ []) q) x in
    further place x (asked_below (place ++ 0 ∷ []) p) (subst P (sym same) h)
listed_part place (injection a b p) r (suc i) x at h = absurd (let no : ⊥ = cc in no)
listed_part place (call f ss ps) r i x at h = absurd (let no : ⊥ = cc in no)

pub asked_is_listed : (place : List ℕ) (p : Pattern) (way : List ℕ) (q : Pattern)
    → asked p way ≡ Some q → Contains (asked_below place p) (place ++ way)
asked_is_listed place p [] q e = listed_root place p q e
asked_is_listed place p (i ∷ way) q e =
    let next = after (λ (r : Pattern). asked r way) (part p i) q e in
    let P : List ℕ → Type 0 = Contains (asked_below place p) in
    subst P (append_assoc place (i ∷ []) way)
    (listed_part place p next.0 i ((place ++ i ∷ []) ++ way) next.1.0
    (asked_is_listed (place ++ i ∷ []) next.0 way q next.1.1))

pub asked_are_listed : AskedAreListed
asked_are_listed ps [] q e = absurd (let no : ⊥ = cc in no)
asked_are_listed ps (i ∷ way) q e =
    let next = after (λ (r : Pattern). asked r way) (slice_get ps i) q e in
    let at : slice_get (pattern_list (patterns ps)) i ≡ Some next.0 =
    ap (λ (qs : List Pattern). slice_get qs i) (pattern_list-patterns ps) ∙ next.1.0 in
    let Q : ℕ → Type 0 = λ m. Contains (asked_below (m ∷ []) next.0) (i ∷ way) in
    let first : i ≡ 0 + i = omega arith in
    listed_child [] 0 (patterns ps) i next.0 (i ∷ way) at
    (subst Q first (asked_is_listed (i ∷ []) next.0 way q next.1.1))

-- ---- a listed position is asked

either_part : {X : Type 0} (xs ys : List X) (x : X) → Contains (xs ++ ys) x
    → Contains xs x ⊎ Contains ys x
either_part [] ys x h = inr h
either_part (y ∷ xs) ys x (zero, lt, is) = inl (zero, omega arith, is)
either_part (y ∷ xs) ys x (suc n, lt, is) = told (either_part xs ys x (n, omega arith, is)) where
  told : Contains xs x ⊎ Contains ys x → Contains (y ∷ xs) x ⊎ Contains ys x
  told (inl h) = inl (further y x xs h)
  told (inr h) = inr h

-- the position is one at or below the place that the pattern there asks
abbrev IsAskedAt : List ℕ → Pattern → List ℕ → Type 0
IsAskedAt place p x =
    (way : List ℕ) × (x ≡ place ++ way) × (q : Pattern) × (asked p way ≡ Some q)

-- one of the patterns from the k-th child on asks the position
abbrev IsAskedAmong : List ℕ → ℕ → Patterns → List ℕ → Type 0
IsAskedAmong place k ps x =
    (i : ℕ) × (p : Pattern) × (slice_get (pattern_list ps) i ≡ Some p)
    × IsAskedAt (place ++ (k + i) ∷ []) p x

root_asked : (place : List ℕ) (p : Pattern) (x : List ℕ) → place ≡ x → asked p [] ≡ Some p
    → IsAskedAt place p x
root_asked place p x same asks = ([], sym same ∙ sym (append-nil place), p, asks)

child_asked : (place : List ℕ) (p q : Pattern) (i : ℕ) (x : List ℕ) → part p i ≡ Some q
    → IsAskedAt (place ++ i ∷ []) q x → IsAskedAt place p x
child_asked place p q i x at (way, is, r, asks) = (
  i ∷ way,
  is ∙ append_assoc place (i ∷ []) way,
  r,
  ap (option_and_then (λ (c : Pattern). asked c way)) at ∙ asks,
)

among_next : (place : List ℕ) (k : ℕ) (p : Pattern) (ps : Patterns) (x : List ℕ)
    → IsAskedAmong place (k + 1) ps x → IsAskedAmong place k (more_patterns p ps) x
among_next place k p ps x (i, q, at, asks) =
    let Q : ℕ → Type 0 = λ m. IsAskedAt (place ++ m ∷ []) q x in
    let next : k + 1 + i ≡ k + suc i = omega arith in (suc i, q, at, subst Q next asks)

among_either : (place : List ℕ) (k : ℕ) (p : Pattern) (ps : Patterns) (x : List ℕ)
    → Contains (asked_below (place ++ k ∷ []) p) x ⊎ Contains (all_asked place (k + 1) ps) x
    → (Contains (asked_below (place ++ k ∷ []) p) x → IsAskedAt (place ++ k ∷ []) p x)
    → (Contains (all_asked place (k + 1) ps) x → IsAskedAmong place (k + 1) ps x)
    → IsAskedAmong place k (more_patterns p ps) x
among_either place k p ps x (inl own) first later =
    let Q : ℕ → Type 0 = λ m. IsAskedAt (place ++ m ∷ []) p x in
    let same : k ≡ k + 0 = omega arith in (0, p, refl, subst Q same (first own))
among_either place k p ps x (inr rest) first later =
    among_next place k p ps x (later rest)

mutual
  asked_of : (place : List ℕ) (p : Pattern) (x : List ℕ) → Contains (asked_below place p) x
      → IsAskedAt place p x
  asked_of place (variable y) x h = absurd (omega (arith, h.1))
  asked_of place (domain_value s v) x (zero, lt, is) =
      root_asked place (domain_value s v) x is refl
  asked_of place (domain_value s v) x (suc n, lt, is) = absurd (omega arith)
  asked_of place (application f ps) x (zero, lt, is) =
      root_asked place (application f ps) x is refl
  asked_of place (application f ps) x (suc n, lt, is) =
      let one = asked_of_all place 0 ps x (n, omega arith, is) in
      let Q : ℕ → Type 0 = λ m. IsAskedAt (place ++ m ∷ []) one.1 x in
      let first : 0 + one.0 ≡ one.0 = omega arith in
      child_asked place (application f ps) one.1 one.0 x one.2 (subst Q first one.3)
  asked_of place (injection a b p) x (zero, lt, is) =
      root_asked place (injection a b p) x is refl
  asked_of place (injection a b p) x (suc n, lt, is) =
      child_asked place (injection a b p) p 0 x refl
      (asked_of (place ++ 0 ∷ []) p x (n, omega arith, is))
  asked_of place (call f ss ps) x (zero, lt, is) = root_asked place (call f ss ps) x is refl
  asked_of place (call f ss ps) x (suc n, lt, is) = absurd (omega arith)

  asked_of_all : (place : List ℕ) (k : ℕ) (ps : Patterns) (x : List ℕ)
      → Contains (all_asked place k ps) x → IsAskedAmong place k ps x
  asked_of_all place k no_pattern x h = absurd (omega (arith, h.1))
  asked_of_all place k (more_patterns p ps) x h =
      among_either place k p ps x
      (either_part (asked_below (place ++ k ∷ []) p) (all_asked place (k + 1) ps) x h)
      (λ own. asked_of (place ++ k ∷ []) p x own)
      (λ later. asked_of_all place (k + 1) ps x later)

pub listed_are_asked : ListedAreAsked
listed_are_asked ps position h =
    let one = asked_of_all [] 0 (patterns ps) position h in
    let at : slice_get ps one.0 ≡ Some one.1 =
    ap (λ (qs : List Pattern). slice_get qs one.0) (sym (pattern_list-patterns ps)) ∙ one.2 in
    let first : 0 + one.0 ≡ one.0 = omega arith in (
      one.3.2,
      ap (row_asks ps) (one.3.1 ∙ ap (λ (m : ℕ). m ∷ one.3.0) first)
          ∙ ap (option_and_then (λ (c : Pattern). asked c one.3.0)) at ∙ one.3.3,
    )
