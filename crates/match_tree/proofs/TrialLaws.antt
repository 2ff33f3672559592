-- A trial of a row by its heads and its twins.
use Rattle.std.proofs.Common.{◌≡◌, ◌≢◌, ◌+◌, ◌<◌, ◌≤◌, ℕ, zero, suc, Bool, true, false, List, []}
use Rattle.std.proofs.Common.{◌∷◌}
use Rattle.std.proofs.Common.{length, drop, get_or, map, Option, Some, None, refl, sym, ◌∙◌, ap}
use Rattle.std.proofs.Common.{subst, arith}
use Rattle.std.specs.Prelude.{◌==◌, ◌&&◌, is_some, if◌then◌else◌}
use Rattle.std.proofs.lemmas.List.{drop_more, drop_all, length-map}
use Rattle.term_core.specs.Terms.{Tree}
use Rattle.term_core.specs.Patterns.{Pattern}
use Rattle.term_core.specs.Instances.{patterns}
use Rattle.term_core.specs.RulePatterns.{plain_pattern}
use Rattle.term_core.specs.PatternLists.{plain_patterns}
use Rattle.term_core.specs.declared.rule_patterns.RulePat.{RulePat}
use Rattle.pat_matrix.specs.Collapsed.{AreCollapsed}
use Rattle.pat_matrix.specs.Heads.{pattern_list}
use Rattle.pat_matrix.specs.MatchTrees.{row_match}
use Rattle.pat_matrix.specs.Occurrences.{Place, Occurrence, tree_of_place, first_place, seen_after}
use Rattle.pat_matrix.specs.Occurrences.{twin_before, twins, row_twins, row_occurrences}
use Rattle.pat_matrix.specs.Occurrences.{twins_agree, same_trees}
use Rattle.pat_matrix.specs.PlaceView.{place_of, twins_of}
use Rattle.pat_matrix.specs.declared.places.Twin.{Twin}
use Rattle.pat_matrix.proofs.PartLaws.{pattern_list-patterns}
use Rattle.pat_matrix.proofs.LinearRows.{RowAgrees, AllAgree, row_agrees-all}
use Rattle.pat_matrix.proofs.LinearRows.{stands_at-subjects}
use Rattle.pat_matrix.proofs.TwinLaws.{AreThere, are_there-append, all_there}
use Rattle.pat_matrix.proofs.TwinLaws.{found_match_by_twins}
use Rattle.match_tree.specs.Agreement.{all_agree}
use Rattle.match_tree.proofs.AgreementLaws.{row_tells, row_disagrees}

-- a place has a term
abbrev pub IsThere : List Tree → Place → Type 0
IsThere ts place = (t : Tree) × (tree_of_place ts place ≡ Some t)

abbrev pub TwinsThere : List Tree → List (Place × Place) → Type 0
TwinsThere ts [] = Unit {0}
TwinsThere ts (e ∷ es) = IsThere ts e.0 × IsThere ts e.1 × TwinsThere ts es

first_there : (ts : List Tree) (x : ℕ) (seen : List Occurrence) (place : Place) → AreThere ts seen
    → first_place x seen ≡ Some place → IsThere ts place
first_there ts x [] place h is = absurd (let no : ⊥ = cc in no)
first_there ts x (e ∷ seen) place h is =
    told (e.0 == x) (first_place x seen) is (first_there ts x seen place h.1) where
      told : (b : Bool) (o : Option Place) → (if b then Some e.1 else o) ≡ Some place
          → (o ≡ Some place → IsThere ts place) → IsThere ts place
      told true o same rest =
          let one : e.1 ≡ place = cc in
          let P : Place → Type 0 = IsThere ts in subst P one h.0
      told false o same rest = rest same

twins_there_step : (ts : List Tree) (e : Occurrence) (o : Option Place)
    (rest : List (Place × Place)) → IsThere ts e.1
    → ((place : Place) → o ≡ Some place → IsThere ts place) → TwinsThere ts rest
    → TwinsThere ts (twin_before o e.1 rest)
twins_there_step ts e None rest own first h = h
twins_there_step ts e (Some place) rest own first h = (first place refl, own, h)

seen_there : (ts : List Tree) (seen : List Occurrence) (e : Occurrence) (o : Option Place)
    → AreThere ts seen → IsThere ts e.1 → AreThere ts (seen_after seen e o)
seen_there ts seen e None h own = are_there-append ts seen (e ∷ []) h (own, tt)
seen_there ts seen e (Some place) h own = h

twins_there : (ts : List Tree) (seen es : List Occurrence) → AreThere ts seen → AreThere ts es
    → TwinsThere ts (twins seen es)
twins_there ts seen [] h k = tt
twins_there ts seen (e ∷ es) h k =
    twins_there_step ts e (first_place e.0 seen) _ k.0
    (λ place is. first_there ts e.0 seen place h is)
    (twins_there ts (seen_after seen e (first_place e.0 seen)) es
    (seen_there ts seen e (first_place e.0 seen) h k.0) k.1)

-- the twins of a row that agrees are all there
pub row_twins_there : (pairs : List (ℕ × ℕ)) (ps : List Pattern) (ts : List Tree)
    → AreCollapsed (patterns ps) → length ps ≡ length ts → RowAgrees pairs ps ts
    → TwinsThere ts (row_twins ps)
row_twins_there pairs ps ts coll count h =
    let listed : pattern_list (patterns ps) ≡ ps = pattern_list-patterns ps in
    let agrees : AllAgree pairs (pattern_list (patterns ps)) ts =
    rw listed (row_agrees-all pairs ps ts h) in
    let lengths : length (pattern_list (patterns ps)) ≡ length ts = rw listed count in
    twins_there ts [] (row_occurrences ps) tt
    (all_there pairs ts [] 0 (patterns ps) ts coll lengths (stands_at-subjects ts) agrees)

-- an item of twins that are there
pub twin_there : (ts : List Tree) (es : List Twin) (i : ℕ) (e : Twin) → TwinsThere ts (twins_of es)
    → e ≡ get_or es i e → i < length es
    → IsThere ts (place_of e.first) × IsThere ts (place_of e.second)
twin_there ts [] i e h is lt = absurd (omega arith)
twin_there ts (d ∷ es) zero e h is lt =
    let P : Twin → Type 0 = λ c. IsThere ts (place_of c.first) × IsThere ts (place_of c.second) in
    subst P (sym is) (h.0, h.1)
twin_there ts (d ∷ es) (suc i) e h is lt = twin_there ts es i e h.2 is (omega arith)

pub there_not_none : (o : Option Tree) (t : Tree) → o ≡ Some t → o ≢ None
there_not_none o t is none = let no : Some t ≡ None = sym is ∙ none in let never : ⊥ = cc in never

-- the twins from one on
pub twins_agree-drop : (ts : List Tree) (es : List Twin) (i : ℕ) (e : Twin) → i < length es
    → e ≡ get_or es i e
    → twins_agree ts (twins_of (drop i es))
    ≡ (same_trees (tree_of_place ts (place_of e.first)) (tree_of_place ts (place_of e.second))
    && twins_agree ts (twins_of (drop (i + 1) es)))
twins_agree-drop ts es i e lt is =
    let front : drop i es ≡ e ∷ drop (i + 1) es =
    drop_more es i e lt ∙ ap (λ (c : Twin). c ∷ drop (i + 1) es) (sym is) in
    rw front refl

pub twins_agree-on : (ts : List Tree) (es : List Twin) (i : ℕ) (e : Twin) (whole answer : Bool)
    → i < length es → e ≡ get_or es i e
    → answer
    ≡ same_trees (tree_of_place ts (place_of e.first)) (tree_of_place ts (place_of e.second))
    → answer ≡ true → twins_agree ts (twins_of (drop i es)) ≡ whole
    → twins_agree ts (twins_of (drop (i + 1) es)) ≡ whole
twins_agree-on ts es i e whole answer lt is own holds was =
    sym (twins_agree-drop ts es i e lt is
    ∙ ap (λ (b : Bool). b && twins_agree ts (twins_of (drop (i + 1) es))) (sym own ∙ holds))
    ∙ was

pub twins_agree-off : (ts : List Tree) (es : List Twin) (i : ℕ) (e : Twin) (whole answer : Bool)
    → i < length es → e ≡ get_or es i e
    → answer
    ≡ same_trees (tree_of_place ts (place_of e.first)) (tree_of_place ts (place_of e.second))
    → answer ≡ false → twins_agree ts (twins_of (drop i es)) ≡ whole → false ≡ whole
twins_agree-off ts es i e whole answer lt is own fails was =
    sym (twins_agree-drop ts es i e lt is
    ∙ ap (λ (b : Bool). b && twins_agree ts (twins_of (drop (i + 1) es))) (sym own ∙ fails))
    ∙ was

-- a row that agrees matches exactly if its twins agree
pub trial_exact : (pairs : List (ℕ × ℕ)) (row : List RulePat) (es : List Twin) (ts : List Tree)
    → AreCollapsed (plain_patterns row) → length row ≡ length ts
    → twins_of es ≡ row_twins (map plain_pattern row)
    → all_agree pairs (plain_patterns row) ts ≡ true
    → twins_agree ts (twins_of es) ≡ is_some (row_match pairs (map plain_pattern row) ts)
trial_exact pairs row es ts coll count own agrees =
    ap (twins_agree ts) own
    ∙ sym (found_match_by_twins pairs (map plain_pattern row) ts coll
    (length-map row plain_pattern ∙ count) (row_tells pairs (map plain_pattern row) ts agrees))

pub trial_there : (pairs : List (ℕ × ℕ)) (row : List RulePat) (es : List Twin) (ts : List Tree)
    → AreCollapsed (plain_patterns row) → length row ≡ length ts
    → twins_of es ≡ row_twins (map plain_pattern row)
    → all_agree pairs (plain_patterns row) ts ≡ true → TwinsThere ts (twins_of es)
trial_there pairs row es ts coll count own agrees =
    let P : List (Place × Place) → Type 0 = TwinsThere ts in
    subst P (sym own)
    (row_twins_there pairs (map plain_pattern row) ts coll (length-map row plain_pattern ∙ count)
    (row_tells pairs (map plain_pattern row) ts agrees))

-- a row that does not agree
pub trial_fails : (pairs : List (ℕ × ℕ)) (row : List RulePat) (ts : List Tree)
    → AreCollapsed (plain_patterns row) → all_agree pairs (plain_patterns row) ts ≡ false
    → false ≡ is_some (row_match pairs (map plain_pattern row) ts)
trial_fails pairs row ts coll fails =
    sym (ap is_some (row_disagrees pairs (map plain_pattern row) ts _ coll fails))

-- all twins were compared
pub twins_agree-end : (ts : List Tree) (es : List Twin) (i : ℕ) (whole : Bool) → length es ≤ i
    → twins_agree ts (twins_of (drop i es)) ≡ whole → true ≡ whole
twins_agree-end ts es i whole past was =
    sym (ap (λ (cs : List Twin). twins_agree ts (twins_of cs)) (drop_all i es past)) ∙ was
