-- When every head for which a row asks was found, matching only binds the occurrences of variables.
use Rattle.std.proofs.Common.{◌≡◌, ◌+◌, ℕ, suc, Bool, true, false, List, [], ◌∷◌, ◌++◌}
use Rattle.std.proofs.Common.{length, slice_get, Option, Some, None, refl, sym, ◌∙◌, ap, arith}
use Rattle.std.specs.Prelude.{◌==◌, ◌&&◌, ◌||◌, if◌then◌else◌}
use Rattle.std.specs.Option.{option_and_then}
use Rattle.std.proofs.lemmas.Bool.{eqb-true, false≢true}
use Rattle.term_core.specs.Terms.{Tree, leaf, node, inj, Forest, no_tree, more_trees}
use Rattle.term_core.specs.Terms.{DomainValue}
use Rattle.term_core.specs.Forests.{trees, children}
use Rattle.term_core.specs.TreeTest.{value_eq}
use Rattle.term_core.specs.Patterns.{Pattern, Patterns, variable, domain_value, application}
use Rattle.term_core.specs.Patterns.{injection, call, no_pattern, more_patterns, binding}
use Rattle.term_core.proofs.TreeTests.{Decides-tree_eq, Decides-value_eq}
use Rattle.rule_core.specs.Subsorts.{is_below}
use Rattle.rule_core.specs.MatchSteps.{lowered, bound_to, matched, all_matched}
use Rattle.rule_core.proofs.Belows.{both_true}
use Rattle.rule_core.proofs.MatchFound.{after}
use Rattle.pat_matrix.specs.Collapsed.{IsCollapsed, AreCollapsed, HasOtherRoot}
use Rattle.pat_matrix.specs.Heads.{of_value, head_eq}
use Rattle.pat_matrix.specs.Heads.{root, pattern_list, lowers}
use Rattle.pat_matrix.specs.Positions.{asked, row_asks, tree_at, subject_at}
use Rattle.pat_matrix.specs.MatrixLaws.{takes_root}
use Rattle.pat_matrix.specs.Occurrences.{Place, Occurrence, occurrences, all_occurrences}
use Rattle.pat_matrix.specs.Occurrences.{occurrences_under, lowered_child, tree_of_place}

-- the substitution after each occurrence is bound in turn
abbrev pub bind_occurrences : List Tree → List Occurrence → List (Option Tree)
    → Option (List (Option Tree))
bind_occurrences ts [] theta = Some theta
bind_occurrences ts (e ∷ es) theta =
    option_and_then
    (λ (t : Tree). option_and_then (bind_occurrences ts es)
    (bound_to t e.0 theta (binding theta e.0)))
    (tree_of_place ts e.1)

and_then_some : {A : Type 0} (o : Option A) → option_and_then (λ (x : A). Some x) o ≡ o
and_then_some None = refl
and_then_some (Some x) = refl

and_then_twice : {A B C : Type 0} (o : Option A) (f : A → Option B) (g : B → Option C)
    → option_and_then (λ (x : A). option_and_then g (f x)) o
    ≡ option_and_then g (option_and_then f o)
and_then_twice None f g = refl
and_then_twice (Some x) f g = refl

and_then_same : {A B : Type 0} (o : Option A) (f g : A → Option B) → ((x : A) → f x ≡ g x)
    → option_and_then f o ≡ option_and_then g o
and_then_same None f g h = refl
and_then_same (Some x) f g h = h x

pub bind_occurrences-append : (ts : List Tree) (xs ys : List Occurrence)
    (theta : List (Option Tree))
    → bind_occurrences ts (xs ++ ys) theta
    ≡ option_and_then (bind_occurrences ts ys) (bind_occurrences ts xs theta)
bind_occurrences-append ts [] ys theta = refl
bind_occurrences-append ts (e ∷ xs) ys theta =
    and_then_same (tree_of_place ts e.1) _ _
    (λ (t : Tree). and_then_same (bound_to t e.0 theta (binding theta e.0)) _ _
    (λ th. bind_occurrences-append ts xs ys th)
    ∙ and_then_twice (bound_to t e.0 theta (binding theta e.0)) (bind_occurrences ts xs)
    (bind_occurrences ts ys))
    ∙ and_then_twice (tree_of_place ts e.1) _ (bind_occurrences ts ys)

-- ---- positions

tree_at-append : (t u : Tree) (way : List ℕ) (i : ℕ) → tree_at t way ≡ Some u
    → tree_at t (way ++ i ∷ []) ≡ slice_get (children u) i
tree_at-append t u [] i e =
    let same : t ≡ u = cc in
    and_then_some (slice_get (children t) i) ∙ ap (λ (v : Tree). slice_get (children v) i) same
tree_at-append t u (j ∷ way) i e =
    let next = after (λ (v : Tree). tree_at v way) (slice_get (children t) j) u e in
    ap (option_and_then (λ (v : Tree). tree_at v (way ++ i ∷ []))) next.1.0
    ∙ tree_at-append next.0 u way i next.1.1

pub subject_at-append : (ts : List Tree) (u : Tree) (place : List ℕ) (i : ℕ)
    → subject_at ts place ≡ Some u → subject_at ts (place ++ i ∷ []) ≡ slice_get (children u) i
subject_at-append ts u [] i e = absurd (let no : ⊥ = cc in no)
subject_at-append ts u (j ∷ way) i e =
    let next = after (λ (v : Tree). tree_at v way) (slice_get ts j) u e in
    ap (option_and_then (λ (v : Tree). tree_at v (way ++ i ∷ []))) next.1.0
    ∙ tree_at-append next.0 u way i next.1.1

-- ---- patterns whose heads were all found

-- the term has every head for which the pattern asks
abbrev pub Agrees : List (ℕ × ℕ) → Pattern → Tree → Type 0
Agrees pairs p t =
    (way : List ℕ) (q : Pattern) → asked p way ≡ Some q → takes_root pairs q (tree_at t way) ≡ true

-- the terms at these places are those of the list
abbrev pub StandsAt : List Tree → List ℕ → ℕ → List Tree → Type 0
StandsAt ts place k us =
    (i : ℕ) → subject_at ts (place ++ (k + i) ∷ []) ≡ slice_get us i

-- each pattern of a list agrees with the term at its place
abbrev pub AllAgree : List (ℕ × ℕ) → List Pattern → List Tree → Type 0
AllAgree pairs ps us =
    (i : ℕ) (q : Pattern) (u : Tree) → slice_get ps i ≡ Some q → slice_get us i ≡ Some u
    → Agrees pairs q u

pub stands_at-rest : (ts : List Tree) (place : List ℕ) (k : ℕ) (u : Tree) (us : List Tree)
    → StandsAt ts place k (u ∷ us) → StandsAt ts place (k + 1) us
stands_at-rest ts place k u us h i =
    ap (λ (m : ℕ). subject_at ts (place ++ m ∷ [])) (omega arith) ∙ h (suc i)

pub stands_at-first : (ts : List Tree) (place : List ℕ) (k : ℕ) (u : Tree) (us : List Tree)
    → StandsAt ts place k (u ∷ us) → subject_at ts (place ++ k ∷ []) ≡ Some u
stands_at-first ts place k u us h =
    ap (λ (m : ℕ). subject_at ts (place ++ m ∷ [])) (omega arith) ∙ h 0

-- the children of the term at a place
pub stands_at-children : (ts : List Tree) (place : List ℕ) (u : Tree)
    → subject_at ts place ≡ Some u → StandsAt ts place 0 (children u)
stands_at-children ts place u there i =
    ap (λ (m : ℕ). subject_at ts (place ++ m ∷ [])) (omega arith)
    ∙ subject_at-append ts u place i there

pub stands_at-subjects : (ts : List Tree) → StandsAt ts [] 0 ts
stands_at-subjects ts i =
    ap (λ (m : ℕ). subject_at ts (m ∷ [])) (omega arith) ∙ and_then_some (slice_get ts i)

-- what the heads at the root tell
value_root : (s : ℕ) (v : DomainValue) (t : Tree) → head_eq (of_value s v) (root t) ≡ true
    → t ≡ leaf s v
value_root s v (leaf r w) e =
    let parts = both_true (s == r) (value_eq v w) e in
    let sorts : s ≡ r = eqb-true s r parts.0 in
    let values : v ≡ w = (Decides-value_eq v w).0 parts.1 in cc
value_root s v (node f ts) e = absurd (let no : ⊥ = cc in no)
value_root s v (inj a b t) e = absurd (let no : ⊥ = cc in no)

bind_one : (ts : List Tree) (x : ℕ) (place : Place) (t : Tree) (theta : List (Option Tree))
    → tree_of_place ts place ≡ Some t
    → bound_to t x theta (binding theta x) ≡ bind_occurrences ts ((x, place) ∷ []) theta
bind_one ts x place t theta there =
    sym (ap (option_and_then (λ (u : Tree). option_and_then (bind_occurrences ts [])
    (bound_to u x theta (binding theta x)))) there
    ∙ and_then_some (bound_to t x theta (binding theta x)))

-- the pattern under an injection agrees with the child
pub agrees-under : (pairs : List (ℕ × ℕ)) (a b c d : ℕ) (p : Pattern) (t : Tree)
    → Agrees pairs (injection b c p) (inj a d t) → Agrees pairs p t
agrees-under pairs a b c d p t h way q e = h (0 ∷ way) q e

pub agrees-arguments : (pairs : List (ℕ × ℕ)) (f g : ℕ) (ps : Patterns) (us : Forest)
    → Agrees pairs (application f ps) (node g us) → AllAgree pairs (pattern_list ps) (trees us)
agrees-arguments pairs f g ps us h i q u at there way r e =
    sym (ap (λ (o : Option Tree).
    takes_root pairs r (option_and_then (λ (v : Tree). tree_at v way) o)) there)
    ∙ h (i ∷ way) r (ap (option_and_then (λ (p : Pattern). asked p way)) at ∙ e)

pub all_agree-rest : (pairs : List (ℕ × ℕ)) (p : Pattern) (ps : List Pattern) (u : Tree)
    (us : List Tree) → AllAgree pairs (p ∷ ps) (u ∷ us) → AllAgree pairs ps us
all_agree-rest pairs p ps u us h i q v at there = h (suc i) q v at there

just_left : (t : Bool) → (t || false) ≡ true → t ≡ true
just_left true e = refl
just_left false e = e

-- the injection's condition holds, and what it tells of the pattern under it
injection_condition : (pairs : List (ℕ × ℕ)) (a b c d : ℕ) (p : Pattern)
    → (a == b || lowers pairs a b p) ≡ true → (c == d) ≡ true
    → ((c == d) && (a == b || is_below pairs a b)) ≡ true
injection_condition pairs a b c d (variable x) low same = rw (same, low) refl
injection_condition pairs a b c d (domain_value s v) low same =
    rw (same, just_left (a == b) low) refl
injection_condition pairs a b c d (application f ps) low same =
    rw (same, just_left (a == b) low) refl
injection_condition pairs a b c d (injection e f p) low same =
    rw (same, just_left (a == b) low) refl
injection_condition pairs a b c d (call f ss ps) low same = rw (same, just_left (a == b) low) refl

-- what an injection asks of its own root
injection_root : (pairs : List (ℕ × ℕ)) (a b c d : ℕ) (p : Pattern) (t : Tree)
    → Agrees pairs (injection b c p) (inj a d t)
    → ((c == d) ≡ true) × ((a == b || lowers pairs a b p) ≡ true)
injection_root pairs a b c d p t h =
    both_true (c == d) (a == b || lowers pairs a b p) (h [] (injection b c p) refl)

-- the pattern under an injection
linear_under : (pairs : List (ℕ × ℕ)) (ts : List Tree) (place : List ℕ) (a b d : ℕ) (p : Pattern)
    (t : Tree) (theta : List (Option Tree)) → HasOtherRoot p
    → subject_at ts place ≡ Some (inj a d t) → (a == b || lowers pairs a b p) ≡ true
    → Agrees pairs p t
    → matched pairs p t theta ≡ bind_occurrences ts (occurrences (place ++ 0 ∷ []) p) theta
    → matched pairs p (lowered a b t) theta
    ≡ bind_occurrences ts (occurrences_under place b p) theta
linear_under pairs ts place a b d (variable x) t theta other there low h rest =
    bind_one ts x (place, Some b) (lowered a b t) theta
    (ap (option_and_then (lowered_child b)) there)
linear_under pairs ts place a b d (domain_value s v) t theta other there low h rest =
    let same : (a == b) ≡ true = just_left (a == b) low in
    ap (λ (e : Bool). matched pairs (domain_value s v) (if e then t else inj a b t) theta) same
    ∙ rest
linear_under pairs ts place a b d (application f ps) t theta other there low h rest =
    let same : (a == b) ≡ true = just_left (a == b) low in
    ap (λ (e : Bool). matched pairs (application f ps) (if e then t else inj a b t) theta) same
    ∙ rest
linear_under pairs ts place a b d (injection e f p) t theta other there low h rest = absurd other
linear_under pairs ts place a b d (call f ss ps) t theta other there low h rest =
    absurd (false≢true (h [] (call f ss ps) refl))

mutual
  pub linear : (pairs : List (ℕ × ℕ)) (ts : List Tree) (place : List ℕ) (p : Pattern) (t : Tree)
      (theta : List (Option Tree)) → IsCollapsed p → subject_at ts place ≡ Some t
      → Agrees pairs p t
      → matched pairs p t theta ≡ bind_occurrences ts (occurrences place p) theta
  linear pairs ts place (variable x) t theta coll there h =
      bind_one ts x (place, None) t theta there
  linear pairs ts place (domain_value s v) t theta coll there h =
      let same : t ≡ leaf s v = value_root s v t (h [] (domain_value s v) refl) in
      rw ((Decides-tree_eq t (leaf s v)).1 same) refl
  linear pairs ts place (application f ps) (leaf s v) theta coll there h =
      absurd (false≢true (h [] (application f ps) refl))
  linear pairs ts place (application f ps) (inj a b t) theta coll there h =
      absurd (false≢true (h [] (application f ps) refl))
  linear pairs ts place (application f ps) (node g us) theta coll there h =
      let parts =
      both_true (f == g) (length (pattern_list ps) == length (trees us))
      (h [] (application f ps) refl) in
      rw parts.0
      (all_linear pairs ts place 0 ps us theta coll (eqb-true _ _ parts.1)
      (stands_at-children ts place (node g us) there) (agrees-arguments pairs f g ps us h))
  linear pairs ts place (injection b c p) (leaf s v) theta coll there h =
      absurd (false≢true (h [] (injection b c p) refl))
  linear pairs ts place (injection b c p) (node g us) theta coll there h =
      absurd (false≢true (h [] (injection b c p) refl))
  linear pairs ts place (injection b c p) (inj a d t) theta coll there h =
      let parts = injection_root pairs a b c d p t h in
      rw (injection_condition pairs a b c d p parts.1 parts.0)
      (linear_under pairs ts place a b d p t theta coll.0 there parts.1
      (agrees-under pairs a b c d p t h)
      (linear pairs ts (place ++ 0 ∷ []) p t theta coll.1
      (subject_at-append ts (inj a d t) place 0 there) (agrees-under pairs a b c d p t h)))
  linear pairs ts place (call f ss ps) t theta coll there h =
      absurd (false≢true (h [] (call f ss ps) refl))

  pub all_linear : (pairs : List (ℕ × ℕ)) (ts : List Tree) (place : List ℕ) (k : ℕ)
      (ps : Patterns) (us : Forest) (theta : List (Option Tree)) → AreCollapsed ps
      → length (pattern_list ps) ≡ length (trees us) → StandsAt ts place k (trees us)
      → AllAgree pairs (pattern_list ps) (trees us)
      → all_matched pairs ps us theta ≡ bind_occurrences ts (all_occurrences place k ps) theta
  all_linear pairs ts place k no_pattern no_tree theta coll count there h = refl
  all_linear pairs ts place k no_pattern (more_trees u us) theta coll count there h =
      absurd (let no : ⊥ = cc in no)
  all_linear pairs ts place k (more_patterns p ps) no_tree theta coll count there h =
      absurd (let no : ⊥ = cc in no)
  all_linear pairs ts place k (more_patterns p ps) (more_trees u us) theta coll count there h =
      let fewer : length (pattern_list ps) ≡ length (trees us) = cc in
      ap (option_and_then (all_matched pairs ps us))
      (linear pairs ts (place ++ k ∷ []) p u theta coll.0
      (stands_at-first ts place k u (trees us) there) (h 0 p u refl refl))
      ∙ and_then_same (bind_occurrences ts (occurrences (place ++ k ∷ []) p) theta) _ _
      (λ (th : List (Option Tree)). all_linear pairs ts place (k + 1) ps us th coll.1 fewer
      (stands_at-rest ts place k u (trees us) there)
      (all_agree-rest pairs p (pattern_list ps) u (trees us) h))
      ∙ sym (bind_occurrences-append ts (occurrences (place ++ k ∷ []) p)
      (all_occurrences place (k + 1) ps) theta)

-- ---- rows

-- the subjects have every head for which the row asks
abbrev pub RowAgrees : List (ℕ × ℕ) → List Pattern → List Tree → Type 0
RowAgrees pairs ps ts =
    (position : List ℕ) (q : Pattern) → row_asks ps position ≡ Some q
    → takes_root pairs q (subject_at ts position) ≡ true

pub row_agrees-all : (pairs : List (ℕ × ℕ)) (ps : List Pattern) (ts : List Tree)
    → RowAgrees pairs ps ts → AllAgree pairs ps ts
row_agrees-all pairs ps ts h i q u at there way r e =
    sym (ap (λ (o : Option Tree).
    takes_root pairs r (option_and_then (λ (v : Tree). tree_at v way) o)) there)
    ∙ h (i ∷ way) r (ap (option_and_then (λ (p : Pattern). asked p way)) at ∙ e)
