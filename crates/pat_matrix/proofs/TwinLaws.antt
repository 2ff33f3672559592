-- A row of which every head was found matches exactly if its twins agree.
use Rattle.std.proofs.Common.{◌≡◌, ◌≢◌, ◌⊎◌, inl, inr, ◌+◌, ◌<◌, ◌≤◌, ℕ, Bool, true, false, List}
use Rattle.std.proofs.Common.{[]}
use Rattle.std.proofs.Common.{◌∷◌, ◌++◌, length, set, Option, Some, None, refl, sym, ◌∙◌}
use Rattle.std.proofs.Common.{ap, subst, arith, replicate, eq-eqb}
use Rattle.std.specs.Prelude.{◌==◌, ◌&&◌, if◌then◌else◌, is_some}
use Rattle.std.specs.Option.{option_and_then}
use Rattle.std.proofs.lemmas.Bool.{eqb-true, false≢true}
use Rattle.std.proofs.lemmas.List.{length-set, length-replicate}
use Rattle.term_core.specs.Terms.{Tree, leaf, node, inj}
use Rattle.term_core.specs.Forests.{forest, trees}
use Rattle.term_core.specs.TreeTest.{tree_eq}
use Rattle.term_core.specs.Patterns.{Pattern, Patterns, variable, domain_value, application}
use Rattle.term_core.specs.Patterns.{injection, call, no_pattern, more_patterns, binding}
use Rattle.term_core.specs.Instances.{patterns}
use Rattle.term_core.proofs.Forests.{trees-forest}
use Rattle.rule_core.specs.MatchSteps.{lowered, bound_to}
use Rattle.rule_core.proofs.Belows.{both_true}
use Rattle.rule_core.proofs.Bindings.{same_or_other, binding-set_same, binding-set_other}
use Rattle.rule_core.proofs.Bindings.{binding-replicate}
use Rattle.pat_matrix.specs.Collapsed.{IsCollapsed, AreCollapsed, HasOtherRoot}
use Rattle.pat_matrix.specs.Heads.{pattern_list}
use Rattle.pat_matrix.specs.Positions.{subject_at}
use Rattle.pat_matrix.specs.MatchTrees.{room, rooms}
use Rattle.pat_matrix.specs.Occurrences.{Place, Occurrence, occurrences, all_occurrences}
use Rattle.pat_matrix.specs.Occurrences.{occurrences_under, lowered_child, tree_of_place}
use Rattle.pat_matrix.specs.Occurrences.{row_occurrences, first_place, twins}
use Rattle.pat_matrix.specs.Occurrences.{seen_after, twin_before}
use Rattle.pat_matrix.specs.Occurrences.{twins_agree}
use Rattle.pat_matrix.specs.TreeLaws.{FoundMatchByTwins}
use Rattle.pat_matrix.proofs.PartLaws.{pattern_list-patterns}
use Rattle.pat_matrix.proofs.LinearRows.{bind_occurrences, Agrees, AllAgree, StandsAt}
use Rattle.pat_matrix.proofs.LinearRows.{stands_at-children, stands_at-first, stands_at-rest}
use Rattle.pat_matrix.proofs.LinearRows.{stands_at-subjects, subject_at-append, agrees-under}
use Rattle.pat_matrix.proofs.LinearRows.{agrees-arguments, all_agree-rest, row_agrees-all}
use Rattle.pat_matrix.proofs.LinearRows.{all_linear}

-- ---- every occurrence stands for a term

abbrev pub AreThere : List Tree → List Occurrence → Type 0
AreThere ts [] = Unit {0}
AreThere ts (e ∷ es) = ((t : Tree) × (tree_of_place ts e.1 ≡ Some t)) × AreThere ts es

pub are_there-append : (ts : List Tree) (xs ys : List Occurrence) → AreThere ts xs → AreThere ts ys
    → AreThere ts (xs ++ ys)
are_there-append ts [] ys h k = k
are_there-append ts (e ∷ xs) ys h k = (h.0, are_there-append ts xs ys h.1 k)

there_under : (ts : List Tree) (place : List ℕ) (a b d : ℕ) (p : Pattern) (t : Tree)
    → HasOtherRoot p → subject_at ts place ≡ Some (inj a d t)
    → AreThere ts (occurrences (place ++ 0 ∷ []) p) → AreThere ts (occurrences_under place b p)
there_under ts place a b d (variable x) t other at rest =
    ((lowered a b t, ap (option_and_then (lowered_child b)) at), tt)
there_under ts place a b d (domain_value s v) t other at rest = tt
there_under ts place a b d (application f ps) t other at rest = rest
there_under ts place a b d (injection e f p) t other at rest = absurd other
there_under ts place a b d (call f ss ps) t other at rest = tt

mutual
  there : (pairs : List (ℕ × ℕ)) (ts : List Tree) (place : List ℕ) (p : Pattern) (t : Tree)
      → IsCollapsed p → subject_at ts place ≡ Some t → Agrees pairs p t
      → AreThere ts (occurrences place p)
  there pairs ts place (variable x) t coll at h = ((t, at), tt)
  there pairs ts place (domain_value s v) t coll at h = tt
  there pairs ts place (application f ps) (leaf s v) coll at h =
      absurd (false≢true (h [] (application f ps) refl))
  there pairs ts place (application f ps) (inj a b t) coll at h =
      absurd (false≢true (h [] (application f ps) refl))
  there pairs ts place (application f ps) (node g us) coll at h =
      let parts =
      both_true (f == g) (length (pattern_list ps) == length (trees us))
      (h [] (application f ps) refl) in
      all_there pairs ts place 0 ps (trees us) coll (eqb-true _ _ parts.1)
      (stands_at-children ts place (node g us) at) (agrees-arguments pairs f g ps us h)
  there pairs ts place (injection b c p) (leaf s v) coll at h =
      absurd (false≢true (h [] (injection b c p) refl))
  there pairs ts place (injection b c p) (node g us) coll at h =
      absurd (false≢true (h [] (injection b c p) refl))
  there pairs ts place (injection b c p) (inj a d t) coll at h =
      there_under ts place a b d p t coll.0 at
      (there pairs ts (place ++ 0 ∷ []) p t coll.1 (subject_at-append ts (inj a d t) place 0 at)
      (agrees-under pairs a b c d p t h))
  there pairs ts place (call f ss ps) t coll at h = tt

  pub all_there : (pairs : List (ℕ × ℕ)) (ts : List Tree) (place : List ℕ) (k : ℕ) (ps : Patterns)
      (us : List Tree) → AreCollapsed ps → length (pattern_list ps) ≡ length us
      → StandsAt ts place k us → AllAgree pairs (pattern_list ps) us
      → AreThere ts (all_occurrences place k ps)
  all_there pairs ts place k no_pattern us coll count at h = tt
  all_there pairs ts place k (more_patterns p ps) [] coll count at h =
      absurd (let no : ⊥ = cc in no)
  all_there pairs ts place k (more_patterns p ps) (u ∷ us) coll count at h =
      let fewer : length (pattern_list ps) ≡ length us = cc in
      are_there-append ts (occurrences (place ++ k ∷ []) p) (all_occurrences place (k + 1) ps)
      (there pairs ts (place ++ k ∷ []) p u coll.0 (stands_at-first ts place k u us at)
      (h 0 p u refl refl))
      (all_there pairs ts place (k + 1) ps us coll.1 fewer (stands_at-rest ts place k u us at)
      (all_agree-rest pairs p (pattern_list ps) u us h))

-- ---- there is room for every variable

abbrev pub HaveRoom : ℕ → List Occurrence → Type 0
HaveRoom n [] = Unit {0}
HaveRoom n (e ∷ es) = (e.0 < n) × HaveRoom n es

have_room-append : (n : ℕ) (xs ys : List Occurrence) → HaveRoom n xs → HaveRoom n ys
    → HaveRoom n (xs ++ ys)
have_room-append n [] ys h k = k
have_room-append n (e ∷ xs) ys h k = (h.0, have_room-append n xs ys h.1 k)

mutual
  room_for : (n : ℕ) (place : List ℕ) (p : Pattern) → room p ≤ n
      → HaveRoom n (occurrences place p)
  room_for n place (variable x) le = (omega arith, tt)
  room_for n place (domain_value s v) le = tt
  room_for n place (application f ps) le = room_for_all n place 0 ps le
  room_for n place (injection a b p) le = room_for_under n place a p le
  room_for n place (call f ss ps) le = tt

  room_for_under : (n : ℕ) (place : List ℕ) (b : ℕ) (p : Pattern) → room p ≤ n
      → HaveRoom n (occurrences_under place b p)
  room_for_under n place b (variable x) le = (omega arith, tt)
  room_for_under n place b (domain_value s v) le = tt
  room_for_under n place b (application f ps) le = room_for_all n (place ++ 0 ∷ []) 0 ps le
  room_for_under n place b (injection c d p) le = room_for_under n (place ++ 0 ∷ []) c p le
  room_for_under n place b (call f ss ps) le = tt

  room_for_all : (n : ℕ) (place : List ℕ) (k : ℕ) (ps : Patterns) → rooms ps ≤ n
      → HaveRoom n (all_occurrences place k ps)
  room_for_all n place k no_pattern le = tt
  room_for_all n place k (more_patterns p ps) le =
      have_room-append n (occurrences (place ++ k ∷ []) p) (all_occurrences place (k + 1) ps)
      (room_for n (place ++ k ∷ []) p (omega arith))
      (room_for_all n place (k + 1) ps (omega arith))

-- ---- bindings are the first occurrences

-- the binding of a variable is what its first occurrence stands for
abbrev pub HoldsAt : List Tree → List (Option Tree) → ℕ → Option Place → Type 0
HoldsAt ts theta x None = binding theta x ≡ None
HoldsAt ts theta x (Some place) =
    (u : Tree) × (binding theta x ≡ Some u) × (tree_of_place ts place ≡ Some u)

abbrev pub Holds : List Tree → List (Option Tree) → List Occurrence → Type 0
Holds ts theta seen = (x : ℕ) → HoldsAt ts theta x (first_place x seen)

-- the first place after one more occurrence
first_place-old : (x : ℕ) (seen : List Occurrence) (e : Occurrence) (place : Place)
    → first_place x seen ≡ Some place → first_place x (seen ++ e ∷ []) ≡ Some place
first_place-old x [] e place is = absurd (let no : ⊥ = cc in no)
first_place-old x (d ∷ seen) e place is =
    first_step (d.0 == x) d.1 (first_place x seen) (first_place x (seen ++ e ∷ [])) place is
    (first_place-old x seen e place) where
      first_step : (b : Bool) (own : Place) (o n : Option Place) (place : Place)
          → (if b then Some own else o) ≡ Some place → (o ≡ Some place → n ≡ Some place)
          → (if b then Some own else n) ≡ Some place
      first_step true own o n place is h = is
      first_step false own o n place is h = h is

first_place-new : (x : ℕ) (seen : List Occurrence) (e : Occurrence) → first_place x seen ≡ None
    → first_place x (seen ++ e ∷ []) ≡ (if e.0 == x then Some e.1 else None)
first_place-new x [] e is = refl
first_place-new x (d ∷ seen) e is =
    first_none (d.0 == x) d.1 (first_place x seen) (first_place x (seen ++ e ∷ []))
    (if e.0 == x then Some e.1 else None) is (first_place-new x seen e) where
      first_none : (b : Bool) (own : Place) (o n r : Option Place)
          → (if b then Some own else o) ≡ None → (o ≡ None → n ≡ r)
          → (if b then Some own else n) ≡ r
      first_none true own o n r is h = absurd (let no : ⊥ = cc in no)
      first_none false own o n r is h = h is

holds_more : (ts : List Tree) (theta : List (Option Tree)) (seen : List Occurrence)
    (e : Occurrence) (t : Tree) → Holds ts theta seen → first_place e.0 seen ≡ None
    → e.0 < length theta → tree_of_place ts e.1 ≡ Some t
    → Holds ts (set theta e.0 (Some t)) (seen ++ e ∷ [])
holds_more ts theta seen e t h new lt at x =
    told (first_place x seen) refl (same_or_other x e.0) where
      told : (o : Option Place) → first_place x seen ≡ o → (x ≡ e.0) ⊎ (x ≢ e.0)
          → HoldsAt ts (set theta e.0 (Some t)) x (first_place x (seen ++ e ∷ []))
      told (Some place) is (inl same) =
          absurd (let no : Some place ≡ None =
          sym is ∙ ap (λ (y : ℕ). first_place y seen) same ∙ new in let never : ⊥ = cc in never)
      told (Some place) is (inr other) =
          let P : Option Place → Type 0 = HoldsAt ts theta x in
          let was : HoldsAt ts theta x (Some place) = subst P is (h x) in
          rw (first_place-old x seen e place is)
          (was.0, binding-set_other theta e.0 x t other ∙ was.1, was.2)
      told None is (inl same) =
          rw (first_place-new x seen e is, eq-eqb e.0 x (sym same))
          (t, ap (binding (set theta e.0 (Some t))) same ∙ binding-set_same theta e.0 t lt, at)
      told None is (inr other) =
          let P : Option Place → Type 0 = HoldsAt ts theta x in
          let was : binding theta x ≡ None = subst P is (h x) in
          rw (first_place-new x seen e is, not_same (e.0 == x) refl)
          (binding-set_other theta e.0 x t other ∙ was) where
            not_same : (b : Bool) → (e.0 == x) ≡ b → (e.0 == x) ≡ false
            not_same false same = same
            not_same true same = absurd (other (sym (eqb-true e.0 x same)))

-- ---- twins agree exactly where the bindings can be made

abbrev Exact : List Tree → List Occurrence → Type 0
Exact ts es =
    (seen : List Occurrence) (theta : List (Option Tree)) → Holds ts theta seen
    → HaveRoom (length theta) es
    → is_some (bind_occurrences ts es theta) ≡ twins_agree ts (twins seen es)

have_room-length : (n m : ℕ) (es : List Occurrence) → n ≡ m → HaveRoom n es → HaveRoom m es
have_room-length n m es same h = let P : ℕ → Type 0 = λ k. HaveRoom k es in subst P same h

exact_step : (ts : List Tree) (e : Occurrence) (es seen : List Occurrence)
    (theta : List (Option Tree)) (t : Tree) (o : Option Place) → Holds ts theta seen
    → first_place e.0 seen ≡ o → HaveRoom (length theta) (e ∷ es)
    → tree_of_place ts e.1 ≡ Some t → Exact ts es
    → is_some (option_and_then (bind_occurrences ts es) (bound_to t e.0 theta (binding theta e.0)))
    ≡ twins_agree ts (twin_before o e.1 (twins (seen_after seen e o) es))
exact_step ts e es seen theta t None h is have at rest =
    let P : Option Place → Type 0 = HoldsAt ts theta e.0 in
    let free : binding theta e.0 ≡ None = subst P is (h e.0) in
    rw free
    (rest (seen ++ e ∷ []) (set theta e.0 (Some t)) (holds_more ts theta seen e t h is have.0 at)
    (have_room-length _ _ es (sym (length-set theta e.0 (Some t))) have.1))
exact_step ts e es seen theta t (Some place) h is have at rest =
    let P : Option Place → Type 0 = HoldsAt ts theta e.0 in
    let was : HoldsAt ts theta e.0 (Some place) = subst P is (h e.0) in
    rw (was.1, was.2, at) (told (tree_eq was.0 t)) where
      told : (b : Bool)
          → is_some (option_and_then (bind_occurrences ts es) (if b then Some theta else None))
          ≡ (b && twins_agree ts (twins seen es))
      told true = rest seen theta h have.1
      told false = refl

exact : (ts : List Tree) (es : List Occurrence) → AreThere ts es → Exact ts es
exact ts [] at seen theta h have = refl
exact ts (e ∷ es) at seen theta h have =
    ap (λ (o : Option Tree). is_some (option_and_then
    (λ (t : Tree). option_and_then (bind_occurrences ts es)
    (bound_to t e.0 theta (binding theta e.0))) o)) at.0.1
    ∙ exact_step ts e es seen theta at.0.0 (first_place e.0 seen) h refl have at.0.1
    (exact ts es at.1)

pub found_match_by_twins : FoundMatchByTwins
found_match_by_twins pairs ps ts coll count h =
    let listed : pattern_list (patterns ps) ≡ ps = pattern_list-patterns ps in
    let own : trees (forest ts) ≡ ts = trees-forest ts in
    let P : List Pattern → List Tree → Type 0 = AllAgree pairs in
    let agree : AllAgree pairs (pattern_list (patterns ps)) (trees (forest ts)) =
    rw (listed, own) (row_agrees-all pairs ps ts h) in
    let lengths : length (pattern_list (patterns ps)) ≡ length (trees (forest ts)) =
    rw (listed, own) count in
    let stand : StandsAt ts [] 0 (trees (forest ts)) = rw own (stands_at-subjects ts) in
    ap is_some (all_linear pairs ts [] 0 (patterns ps) (forest ts) _ coll lengths stand agree)
    ∙ exact ts (row_occurrences ps)
    (all_there pairs ts [] 0 (patterns ps) (trees (forest ts)) coll lengths stand agree) []
    (replicate (rooms (patterns ps)) None) (λ x. binding-replicate (rooms (patterns ps)) x)
    (have_room-length _ _ (row_occurrences ps)
    (sym (length-replicate (rooms (patterns ps)) None))
    (room_for_all (rooms (patterns ps)) [] 0 (patterns ps) (omega arith)))
