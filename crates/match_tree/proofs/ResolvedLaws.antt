-- What a variable stands for at a hit is known by what was found.
use Rattle.std.proofs.Common.{◌≡◌, ◌+◌, ℕ, zero, suc, Bool, true, false, List, [], ◌∷◌, ◌++◌}
use Rattle.std.proofs.Common.{Option, Some, None, option_map, slice_get, Contains, refl, sym, ◌∙◌}
use Rattle.std.proofs.Common.{◌⊎◌, inl, inr, ap, subst, arith}
use Rattle.std.specs.Prelude.{◌==◌, if◌then◌else◌}
use Rattle.std.specs.Option.{option_and_then}
use Rattle.std.specs.Str.{bytes_eq}
use Rattle.std.proofs.lemmas.Bool.{false≢true}
use Rattle.std.proofs.lemmas.List.{append_assoc, append-nil}
use Rattle.std.proofs.lemmas.Slice.Eq.{bytes_eq-Decides}
use Rattle.term_core.specs.Terms.{Tree, leaf, node, inj}
use Rattle.term_core.specs.Patterns.{Pattern, Patterns, variable, domain_value, application}
use Rattle.term_core.specs.Patterns.{injection, call, no_pattern, more_patterns}
use Rattle.term_core.specs.Instances.{patterns}
use Rattle.rule_core.proofs.MatchFound.{after}
use Rattle.pat_matrix.specs.Heads.{PlainHead, of_value, of_constructor, of_injection, root}
use Rattle.pat_matrix.specs.Heads.{pattern_list}
use Rattle.pat_matrix.specs.Positions.{asked, row_asks, subject_at}
use Rattle.pat_matrix.specs.MatchTrees.{Findings}
use Rattle.pat_matrix.specs.Occurrences.{Place, Occurrence, occurrences, all_occurrences}
use Rattle.pat_matrix.specs.Occurrences.{occurrences_under, row_occurrences, lowered_child}
use Rattle.pat_matrix.specs.Occurrences.{first_place, seen_after, twin_before, twins}
use Rattle.pat_matrix.proofs.PartLaws.{pattern_list-patterns}
use Rattle.pat_matrix.proofs.LinearRows.{subject_at-append}
use Rattle.match_tree.specs.Walking.{AreTrue}
use Rattle.match_tree.specs.Trails.{trail_of, source_of, source_at}
use Rattle.match_tree.specs.Spots.{lift_from, lifted, tree_of_spot, IsAskedPlace}
use Rattle.match_tree.specs.Spots.{AreAskedTwins, TwinsAreAsked, PlacesAreResolved}

-- ---- the source sort that was found

are_true-rest : (ts : List Tree) (e : List ℕ × Option PlainHead) (found : Findings)
    → AreTrue ts (e ∷ found) → AreTrue ts found
are_true-rest ts e found h position k there =
    h position k (suc there.0, omega (arith, there.1), there.2)

-- one entry of a trail before the others
source_step : (ts : List Tree) (place position : List ℕ) (g : PlainHead) (a d : ℕ)
    (trail : List (List ℕ × Option ℕ)) → option_map root (subject_at ts place) ≡ Some g
    → option_map root (subject_at ts position) ≡ Some (of_injection a d)
    → (place ≡ position) ⊎ (source_at trail position ≡ Some a)
    → source_at ((place, source_of (Some g)) ∷ trail) position ≡ Some a
source_step ts place position (of_value s v) a d trail own there (inl same) =
    absurd (let no : Some (of_value s v) ≡ Some (of_injection a d) =
    sym own ∙ ap (λ (x : List ℕ). option_map root (subject_at ts x)) same ∙ there in
    let never : ⊥ = cc in never)
source_step ts place position (of_value s v) a d trail own there (inr rest) = rest
source_step ts place position (of_constructor f n) a d trail own there (inl same) =
    absurd (let no : Some (of_constructor f n) ≡ Some (of_injection a d) =
    sym own ∙ ap (λ (x : List ℕ). option_map root (subject_at ts x)) same ∙ there in
    let never : ⊥ = cc in never)
source_step ts place position (of_constructor f n) a d trail own there (inr rest) = rest
source_step ts place position (of_injection b c) a d trail own there tail =
    told (bytes_eq place position) refl tail where
      told : (t : Bool) → bytes_eq place position ≡ t
          → (place ≡ position) ⊎ (source_at trail position ≡ Some a)
          → (if t then Some b else source_at trail position) ≡ Some a
      told true is later =
          let same : place ≡ position = (bytes_eq-Decides place position).0 is in
          let one : Some (of_injection b c) ≡ Some (of_injection a d) =
          sym own ∙ ap (λ (x : List ℕ). option_map root (subject_at ts x)) same ∙ there in
          let sorts : b ≡ a = cc in ap Some sorts
      told false is (inl same) =
          absurd (false≢true (sym is ∙ (bytes_eq-Decides place position).1 same))
      told false is (inr rest) = rest

source_is_found : (ts : List Tree) (found : Findings) (position : List ℕ) (h : PlainHead) (a d : ℕ)
    → AreTrue ts found → Contains found (position, Some h)
    → option_map root (subject_at ts position) ≡ Some (of_injection a d)
    → source_at (trail_of found) position ≡ Some a
source_is_found ts [] position h a d all there is = absurd (omega (arith, there.1))
source_is_found ts ((place, None) ∷ found) position h a d all (zero, lt, same) is =
    absurd (let no : None ≡ Some h =
    ap (λ (e : List ℕ × Option PlainHead). e.1) same in let never : ⊥ = cc in never)
source_is_found ts ((place, None) ∷ found) position h a d all (suc n, lt, same) is =
    source_is_found ts found position h a d (are_true-rest ts (place, None) found all)
    (n, omega arith, same) is
source_is_found ts ((place, Some g) ∷ found) position h a d all (zero, lt, same) is =
    source_step ts place position g a d (trail_of found)
    (all place g (zero, omega arith, refl)) is
    (inl (ap (λ (e : List ℕ × Option PlainHead). e.0) same))
source_is_found ts ((place, Some g) ∷ found) position h a d all (suc n, lt, same) is =
    source_step ts place position g a d (trail_of found)
    (all place g (zero, omega arith, refl)) is
    (inr (source_is_found ts found position h a d (are_true-rest ts (place, Some g) found all)
    (n, omega arith, same) is))

lifted_is : (a b : ℕ) (u : Tree) (t : Bool) → (a == b) ≡ t
    → lifted (if t then None else Some (a, b)) u ≡ (if t then u else inj a b u)
lifted_is a b u true is = refl
lifted_is a b u false is = refl

resolved_step : (ts : List Tree) (position : List ℕ) (b : ℕ) (v t : Tree) (o : Option ℕ)
    → subject_at ts position ≡ Some v → lowered_child b v ≡ Some t
    → ((a d : ℕ) → root v ≡ of_injection a d → o ≡ Some a)
    → tree_of_spot ts (position ++ 0 ∷ [], lift_from b o) ≡ Some t
resolved_step ts position b (leaf s w) t o there e is = absurd (let no : ⊥ = cc in no)
resolved_step ts position b (node f us) t o there e is = absurd (let no : ⊥ = cc in no)
resolved_step ts position b (inj a d u) t o there e is =
    ap (λ (k : Option ℕ). tree_of_spot ts (position ++ 0 ∷ [], lift_from b k)) (is a d refl)
    ∙ ap (option_map (lifted (lift_from b (Some a))))
    (subject_at-append ts (inj a d u) position 0 there)
    ∙ ap Some (lifted_is a b u (a == b) refl) ∙ e

pub places_are_resolved : PlacesAreResolved
places_are_resolved pairs ts found ps (position, None) t all whole asks e = ap (option_map (lifted None)) e
places_are_resolved pairs ts found ps (position, Some b) t all whole (q, asks) e =
    let one = whole position q asks in
    let v = after (lowered_child b) (subject_at ts position) t e in
    resolved_step ts position b v.0 t (source_at (trail_of found) position) v.1.0 v.1.1
    (λ a d is. source_is_found ts found position one.0 a d all one.1
    (ap (option_map root) v.1.0 ∙ ap Some is))

-- ---- the places are asked

abbrev AreAsked : List Pattern → List Occurrence → Type 0
AreAsked ps [] = Unit {0}
AreAsked ps (e ∷ es) = IsAskedPlace ps e.1 × AreAsked ps es

are_asked-append : (ps : List Pattern) (xs ys : List Occurrence) → AreAsked ps xs → AreAsked ps ys
    → AreAsked ps (xs ++ ys)
are_asked-append ps [] ys h k = k
are_asked-append ps (e ∷ xs) ys h k = (h.0, are_asked-append ps xs ys h.1 k)

-- what the pattern at a place asks, the row asks
abbrev AsksAt : List Pattern → List ℕ → Pattern → Type 0
AsksAt ps place p =
    (way : List ℕ) (q : Pattern) → asked p way ≡ Some q → row_asks ps (place ++ way) ≡ Some q

asks_at-child : (ps : List Pattern) (place : List ℕ) (p q : Pattern) (i : ℕ) → AsksAt ps place p
    → ((way : List ℕ) → asked p (i ∷ way) ≡ asked q way) → AsksAt ps (place ++ i ∷ []) q
asks_at-child ps place p q i h same way r e =
    ap (row_asks ps) (append_assoc place (i ∷ []) way) ∙ h (i ∷ way) r (same way ∙ e)

under_asked : (ps : List Pattern) (place : List ℕ) (b c : ℕ) (p : Pattern)
    → AsksAt ps place (injection b c p) → AreAsked ps (occurrences (place ++ 0 ∷ []) p)
    → AreAsked ps (occurrences_under place b p)
under_asked ps place b c (variable x) h rest = (
  (
    injection b c (variable x),
    ap (row_asks ps) (sym (append-nil place)) ∙ h [] (injection b c (variable x)) refl,
  ),
  tt,
)
under_asked ps place b c (domain_value s v) h rest = tt
under_asked ps place b c (application f qs) h rest = rest
under_asked ps place b c (injection d e p) h rest = rest
under_asked ps place b c (call f ss qs) h rest = tt

mutual
  places_asked : (ps : List Pattern) (place : List ℕ) (p : Pattern) → AsksAt ps place p
      → AreAsked ps (occurrences place p)
  places_asked ps place (variable x) h = (tt, tt)
  places_asked ps place (domain_value s v) h = tt
  places_asked ps place (application f qs) h =
      all_places_asked ps place 0 qs
      (λ i q at. asks_at-child ps place (application f qs) q (0 + i) h
      (λ way. ap (λ (m : ℕ). asked (application f qs) (m ∷ way)) (omega arith)
      ∙ ap (option_and_then (λ (r : Pattern). asked r way)) at))
  places_asked ps place (injection b c p) h =
      under_asked ps place b c p h
      (places_asked ps (place ++ 0 ∷ []) p
      (asks_at-child ps place (injection b c p) p 0 h (λ way. refl)))
  places_asked ps place (call f ss qs) h = tt

  all_places_asked : (ps : List Pattern) (place : List ℕ) (k : ℕ) (qs : Patterns)
      → ((i : ℕ) (q : Pattern) → slice_get (pattern_list qs) i ≡ Some q
      → AsksAt ps (place ++ (k + i) ∷ []) q)
      → AreAsked ps (all_occurrences place k qs)
  all_places_asked ps place k no_pattern h = tt
  all_places_asked ps place k (more_patterns p qs) h =
      let P : ℕ → Type 0 = λ m. AsksAt ps (place ++ m ∷ []) p in
      let first : k + 0 ≡ k = omega arith in
      are_asked-append ps (occurrences (place ++ k ∷ []) p) (all_occurrences place (k + 1) qs)
      (places_asked ps (place ++ k ∷ []) p (subst P first (h 0 p refl)))
      (all_places_asked ps place (k + 1) qs
      (λ i q at. let Q : ℕ → Type 0 = λ m. AsksAt ps (place ++ m ∷ []) q in
      let next : k + suc i ≡ k + 1 + i = omega arith in subst Q next (h (suc i) q at)))

first_asked : (ps : List Pattern) (x : ℕ) (seen : List Occurrence) (place : Place)
    → AreAsked ps seen → first_place x seen ≡ Some place → IsAskedPlace ps place
first_asked ps x [] place h is = absurd (let no : ⊥ = cc in no)
first_asked ps x (e ∷ seen) place h is =
    told (e.0 == x) (first_place x seen) is (first_asked ps x seen place h.1) where
      told : (b : Bool) (o : Option Place) → (if b then Some e.1 else o) ≡ Some place
          → (o ≡ Some place → IsAskedPlace ps place) → IsAskedPlace ps place
      told true o same rest =
          let one : e.1 ≡ place = cc in
          let P : Place → Type 0 = IsAskedPlace ps in subst P one h.0
      told false o same rest = rest same

twins_asked_step : (ps : List Pattern) (e : Occurrence) (o : Option Place)
    (rest : List (Place × Place)) → IsAskedPlace ps e.1
    → ((place : Place) → o ≡ Some place → IsAskedPlace ps place) → AreAskedTwins ps rest
    → AreAskedTwins ps (twin_before o e.1 rest)
twins_asked_step ps e None rest own first h = h
twins_asked_step ps e (Some place) rest own first h = (first place refl, own, h)

seen_asked : (ps : List Pattern) (seen : List Occurrence) (e : Occurrence) (o : Option Place)
    → AreAsked ps seen → IsAskedPlace ps e.1 → AreAsked ps (seen_after seen e o)
seen_asked ps seen e None h own = are_asked-append ps seen (e ∷ []) h (own, tt)
seen_asked ps seen e (Some place) h own = h

twins_asked : (ps : List Pattern) (seen es : List Occurrence) → AreAsked ps seen → AreAsked ps es
    → AreAskedTwins ps (twins seen es)
twins_asked ps seen [] h k = tt
twins_asked ps seen (e ∷ es) h k =
    twins_asked_step ps e (first_place e.0 seen) _ k.0
    (λ place is. first_asked ps e.0 seen place h is)
    (twins_asked ps (seen_after seen e (first_place e.0 seen)) es
    (seen_asked ps seen e (first_place e.0 seen) h k.0) k.1)

pub twins_are_asked : TwinsAreAsked
twins_are_asked ps =
    twins_asked ps [] (row_occurrences ps) tt
    (all_places_asked ps [] 0 (patterns ps)
    (λ i q at way r e. ap (λ (m : ℕ). row_asks ps (m ∷ way)) (omega arith)
    ∙ ap (option_and_then (λ (p : Pattern). asked p way))
    (ap (λ (qs : List Pattern). slice_get qs i) (sym (pattern_list-patterns ps)) ∙ at) ∙ e))
