-- The test that the heads agree is true exactly if every head for which a row asks is there. A row
-- with another head does not match.
use Rattle.std.proofs.Common.{◌≡◌, ℕ, zero, suc, true, false, List, [], ◌∷◌, Option}
use Rattle.std.proofs.Common.{Some, None, slice_get, refl, sym, ◌∙◌, ap}
use Rattle.std.specs.Prelude.{◌==◌, ◌&&◌, ◌||◌}
use Rattle.std.specs.Option.{option_and_then}
use Rattle.std.proofs.lemmas.Bool.{false≢true}
use Rattle.term_core.specs.Terms.{Tree, leaf, node, inj, Forest, no_tree, more_trees}
use Rattle.term_core.specs.Forests.{forest, trees, children}
use Rattle.term_core.specs.Patterns.{Pattern, Patterns, variable, domain_value, application}
use Rattle.term_core.specs.Patterns.{injection, call, no_pattern, more_patterns}
use Rattle.term_core.specs.Instances.{patterns}
use Rattle.term_core.proofs.Forests.{trees-forest}
use Rattle.rule_core.specs.Subsorts.{is_below}
use Rattle.rule_core.specs.MatchSteps.{lowered, matched, all_matched}
use Rattle.rule_core.proofs.Belows.{both_true, true_both}
use Rattle.rule_core.proofs.MatchFound.{guarded, after}
use Rattle.pat_matrix.specs.Collapsed.{IsCollapsed, AreCollapsed, HasOtherRoot}
use Rattle.pat_matrix.specs.Heads.{root, pattern_list, takes}
use Rattle.pat_matrix.specs.Positions.{asked, tree_at}
use Rattle.pat_matrix.specs.MatrixLaws.{takes_root}
use Rattle.pat_matrix.proofs.PartLaws.{pattern_list-patterns, Asks, asking-same}
use Rattle.pat_matrix.proofs.PartLaws.{takes-root, not_lowered}
use Rattle.pat_matrix.proofs.LinearRows.{RowAgrees}
use Rattle.match_tree.specs.Agreement.{first_passes, agree, all_agree}

-- a pattern that agrees takes the head of the term
root_taken : (pairs : List (ℕ × ℕ)) (p : Pattern) (t : Tree) → Asks p → agree pairs p t ≡ true
    → takes pairs p (root t) ≡ true
root_taken pairs (variable x) t asks a = absurd asks
root_taken pairs (domain_value s v) t asks a = a
root_taken pairs (application f ps) t asks a =
    (both_true (takes pairs (application f ps) (root t)) (all_agree pairs ps (children t)) a).0
root_taken pairs (injection b c p) t asks a =
    (both_true (takes pairs (injection b c p) (root t)) (first_passes (agree pairs p) (children t))
    a).0
root_taken pairs (call f ss ps) t asks a = absurd (false≢true a)

-- the head at the end of a way below one of some trees
abbrev pub TakesBelow : List (ℕ × ℕ) → Pattern → List ℕ → Option Tree → Type 0
TakesBelow pairs q way o =
    takes_root pairs q (option_and_then (λ (u : Tree). tree_at u way) o) ≡ true

first_tells : (pairs : List (ℕ × ℕ)) (p q : Pattern) (way : List ℕ) (us : List Tree)
    → first_passes (agree pairs p) us ≡ true
    → ((u : Tree) → agree pairs p u ≡ true → takes_root pairs q (tree_at u way) ≡ true)
    → TakesBelow pairs q way (slice_get us 0)
first_tells pairs p q way [] a tells = absurd (false≢true a)
first_tells pairs p q way (u ∷ us) a tells = tells u a

mutual
  agree_tells : (pairs : List (ℕ × ℕ)) (p : Pattern) (t : Tree) (way : List ℕ) (q : Pattern)
      → agree pairs p t ≡ true → asked p way ≡ Some q → takes_root pairs q (tree_at t way) ≡ true
  agree_tells pairs (variable x) t [] q a e = absurd (let no : ⊥ = cc in no)
  agree_tells pairs (variable x) t (i ∷ way) q a e = absurd (let no : ⊥ = cc in no)
  agree_tells pairs (domain_value s v) t [] q a e =
      ap (λ (r : Pattern). takes pairs r (root t)) (sym (asking-same (domain_value s v) q e)) ∙ a
  agree_tells pairs (domain_value s v) t (i ∷ way) q a e = absurd (let no : ⊥ = cc in no)
  agree_tells pairs (application f ps) t [] q a e =
      ap (λ (r : Pattern). takes pairs r (root t)) (sym (asking-same (application f ps) q e))
      ∙ root_taken pairs (application f ps) t tt a
  agree_tells pairs (application f ps) t (i ∷ way) q a e =
      all_tell pairs ps (children t) i way q
      (both_true (takes pairs (application f ps) (root t)) (all_agree pairs ps (children t)) a).1 e
  agree_tells pairs (injection b c p) t [] q a e =
      ap (λ (r : Pattern). takes pairs r (root t)) (sym (asking-same (injection b c p) q e))
      ∙ root_taken pairs (injection b c p) t tt a
  agree_tells pairs (injection b c p) t (zero ∷ way) q a e =
      first_tells pairs p q way (children t)
      (both_true (takes pairs (injection b c p) (root t))
      (first_passes (agree pairs p) (children t)) a).1
      (λ u own. agree_tells pairs p u way q own e)
  agree_tells pairs (injection b c p) t (suc i ∷ way) q a e = absurd (let no : ⊥ = cc in no)
  agree_tells pairs (call f ss ps) t way q a e = absurd (false≢true a)

  all_tell : (pairs : List (ℕ × ℕ)) (ps : Patterns) (us : List Tree) (i : ℕ) (way : List ℕ)
      (q : Pattern) → all_agree pairs ps us ≡ true
      → option_and_then (λ (r : Pattern). asked r way) (slice_get (pattern_list ps) i) ≡ Some q
      → TakesBelow pairs q way (slice_get us i)
  all_tell pairs no_pattern us i way q a e = absurd (let no : ⊥ = cc in no)
  all_tell pairs (more_patterns p ps) [] i way q a e = absurd (false≢true a)
  all_tell pairs (more_patterns p ps) (u ∷ us) zero way q a e =
      agree_tells pairs p u way q (both_true (agree pairs p u) (all_agree pairs ps us) a).0 e
  all_tell pairs (more_patterns p ps) (u ∷ us) (suc i) way q a e =
      all_tell pairs ps us i way q (both_true (agree pairs p u) (all_agree pairs ps us) a).1 e

-- a row that agrees has every head for which it asks
pub row_tells : (pairs : List (ℕ × ℕ)) (ps : List Pattern) (ts : List Tree)
    → all_agree pairs (patterns ps) ts ≡ true → RowAgrees pairs ps ts
row_tells pairs ps ts a [] q e = absurd (let no : ⊥ = cc in no)
row_tells pairs ps ts a (i ∷ way) q e =
    all_tell pairs (patterns ps) ts i way q a
    (ap (λ (qs : List Pattern). option_and_then (λ (r : Pattern). asked r way) (slice_get qs i))
    (pattern_list-patterns ps) ∙ e)

-- ---- what matches agrees

variable_or_asks : (p : Pattern) → (Asks p → ⊥) → (x : ℕ) × (p ≡ variable x)
variable_or_asks (variable x) none = (x, refl)
variable_or_asks (domain_value s v) none = absurd (none tt)
variable_or_asks (application f ps) none = absurd (none tt)
variable_or_asks (injection a b p) none = absurd (none tt)
variable_or_asks (call f ss ps) none = absurd (none tt)

-- a pattern under an injection that matches agrees, if it does so with the child itself
under_agrees : (pairs : List (ℕ × ℕ)) (p : Pattern) (a b : ℕ) (t : Tree)
    (theta new : List (Option Tree)) → HasOtherRoot p
    → matched pairs p (lowered a b t) theta ≡ Some new
    → (matched pairs p t theta ≡ Some new → agree pairs p t ≡ true) → agree pairs p t ≡ true
under_agrees pairs (variable x) a b t theta new other e rest = refl
under_agrees pairs (domain_value s v) a b t theta new other e rest =
    rest (not_lowered pairs (domain_value s v) a b t theta new (a == b) refl tt tt e).1
under_agrees pairs (application f ps) a b t theta new other e rest =
    rest (not_lowered pairs (application f ps) a b t theta new (a == b) refl tt tt e).1
under_agrees pairs (injection c d p) a b t theta new other e rest = absurd other
under_agrees pairs (call f ss ps) a b t theta new other e rest = absurd (let no : ⊥ = cc in no)

mutual
  matched_agrees : (pairs : List (ℕ × ℕ)) (p : Pattern) (t : Tree) (theta new : List (Option Tree))
      → IsCollapsed p → matched pairs p t theta ≡ Some new → agree pairs p t ≡ true
  matched_agrees pairs (variable x) t theta new coll e = refl
  matched_agrees pairs (domain_value s v) t theta new coll e =
      takes-root pairs (domain_value s v) t theta new coll tt e
  matched_agrees pairs (application f ps) (leaf s v) theta new coll e =
      absurd (let no : ⊥ = cc in no)
  matched_agrees pairs (application f ps) (inj a b t) theta new coll e =
      absurd (let no : ⊥ = cc in no)
  matched_agrees pairs (application f ps) (node g us) theta new coll e =
      let test = guarded (f == g) (all_matched pairs ps us theta) new e in
      true_both (takes pairs (application f ps) (root (node g us))) (all_agree pairs ps (trees us))
      (takes-root pairs (application f ps) (node g us) theta new coll tt e)
      (all_matched_agree pairs ps us theta new coll test.1)
  matched_agrees pairs (injection b c p) (leaf s v) theta new coll e =
      absurd (let no : ⊥ = cc in no)
  matched_agrees pairs (injection b c p) (node g us) theta new coll e =
      absurd (let no : ⊥ = cc in no)
  matched_agrees pairs (injection b c p) (inj a d t) theta new coll e =
      let test =
      guarded ((c == d) && (a == b || is_below pairs a b)) (matched pairs p (lowered a b t) theta)
      new e in
      true_both (takes pairs (injection b c p) (root (inj a d t))) (agree pairs p t)
      (takes-root pairs (injection b c p) (inj a d t) theta new coll tt e)
      (under_agrees pairs p a b t theta new coll.0 test.1
      (λ own. matched_agrees pairs p t theta new coll.1 own))
  matched_agrees pairs (call f ss ps) t theta new coll e = absurd (let no : ⊥ = cc in no)

  all_matched_agree : (pairs : List (ℕ × ℕ)) (ps : Patterns) (us : Forest)
      (theta new : List (Option Tree)) → AreCollapsed ps
      → all_matched pairs ps us theta ≡ Some new → all_agree pairs ps (trees us) ≡ true
  all_matched_agree pairs no_pattern us theta new coll e = refl
  all_matched_agree pairs (more_patterns p ps) no_tree theta new coll e =
      absurd (let no : ⊥ = cc in no)
  all_matched_agree pairs (more_patterns p ps) (more_trees u us) theta new coll e =
      let mid = after (all_matched pairs ps us) (matched pairs p u theta) new e in
      true_both (agree pairs p u) (all_agree pairs ps (trees us))
      (matched_agrees pairs p u theta mid.0 coll.0 mid.1.0)
      (all_matched_agree pairs ps us mid.0 new coll.1 mid.1.1)

-- a row that does not agree does not match
pub row_disagrees : (pairs : List (ℕ × ℕ)) (ps : List Pattern) (ts : List Tree)
    (theta : List (Option Tree)) → AreCollapsed (patterns ps)
    → all_agree pairs (patterns ps) ts ≡ false
    → all_matched pairs (patterns ps) (forest ts) theta ≡ None
row_disagrees pairs ps ts theta coll a =
    told (all_matched pairs (patterns ps) (forest ts) theta) refl where
      told : (o : Option (List (Option Tree)))
          → all_matched pairs (patterns ps) (forest ts) theta ≡ o
          → all_matched pairs (patterns ps) (forest ts) theta ≡ None
      told None e = e
      told (Some new) e =
          absurd (false≢true (sym a
          ∙ ap (all_agree pairs (patterns ps)) (sym (trees-forest ts))
          ∙ all_matched_agree pairs (patterns ps) (forest ts) theta new coll e))
