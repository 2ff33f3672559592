-- Loops over children and over a position.
use Rattle.std.proofs.Common.{◌≡◌, ◌≢◌, ◌<◌, ◌≤◌, ◌+◌, ℕ, Bool, true, false, List, [], ◌∷◌}
use Rattle.std.proofs.Common.{length, drop, get_or, slice_get, Option, Some, None, refl, sym, ◌∙◌}
use Rattle.std.proofs.Common.{ap}
use Rattle.std.proofs.Common.{arith}
use Rattle.std.specs.Prelude.{◌==◌, ◌&&◌, IsTrue, ◌↔◌}
use Rattle.std.specs.Option.{option_and_then}
use Rattle.std.proofs.lemmas.Bool.{eqb-true, false≢true}
use Rattle.std.proofs.lemmas.List.{drop_more, drop_all, length-map}
use Rattle.std.proofs.lemmas.Option.{slice_get_within, get_or_from_slice_get}
use Rattle.std.proofs.lemmas.Option.{slice_get_read}
use Rattle.term_core.specs.Terms.{Tree, leaf, node, inj}
use Rattle.term_core.specs.Forests.{trees, children}
use Rattle.term_core.specs.TreeTest.{tree_eq}
use Rattle.term_core.specs.Patterns.{Pattern, application, injection}
use Rattle.term_core.specs.RulePatterns.{plain_pattern}
use Rattle.term_core.specs.PatternLists.{plain_patterns}
use Rattle.term_core.specs.declared.rule_patterns.RulePat.{RulePat}
use Rattle.term_core.proofs.TreeTests.{Decides-tree_eq}
use Rattle.rule_core.proofs.Belows.{both_true}
use Rattle.rule_core.proofs.MatchAnswers.{test_fails}
use Rattle.pat_matrix.specs.Heads.{root, pattern_list, takes}
use Rattle.pat_matrix.specs.Positions.{tree_at, subject_at}
use Rattle.pat_matrix.proofs.PartLaws.{pattern_list-patterns}
use Rattle.match_tree.specs.Agreement.{first_passes, agree, all_agree}

-- what a test of two terms says
pub same_test : (b : Bool) (t u : Tree) → IsTrue b ↔ (t ≡ u) → b ≡ tree_eq t u
same_test true t u h = sym ((Decides-tree_eq t u).1 (h.0 refl))
same_test false t u h = sym (test_fails t u (λ same. false≢true (h.1 same)))

pub same_test_turned : (b : Bool) (t u : Tree) → IsTrue b ↔ (u ≡ t) → b ≡ tree_eq t u
same_test_turned b t u h = same_test b t u (λ is. sym (h.0 is), λ same. h.1 (sym same))

-- a way that leads to a term goes on to a child
way_next : (t : Tree) (ways : List ℕ) (i step : ℕ) → i < length ways → step ≡ get_or ways i step
    → tree_at t (drop i ways)
    ≡ option_and_then (λ (u : Tree). tree_at u (drop (i + 1) ways)) (slice_get (children t) step)
way_next t ways i step lt is =
    let front : drop i ways ≡ step ∷ drop (i + 1) ways =
    drop_more ways i step lt ∙ ap (λ (n : ℕ). n ∷ drop (i + 1) ways) (sym is) in
    rw front refl

pub way_has_child : (t : Tree) (ways : List ℕ) (i step : ℕ) (o : Option Tree) → i < length ways
    → step ≡ get_or ways i step → tree_at t (drop i ways) ≡ o → o ≢ None
    → step < length (children t)
way_has_child t ways i step o lt is was some =
    told (slice_get (children t) step) refl where
      told : (c : Option Tree) → slice_get (children t) step ≡ c → step < length (children t)
      told (Some u) e = slice_get_within (children t) step u e
      told None e =
          absurd (some (sym was ∙ way_next t ways i step lt is
          ∙ ap (option_and_then (λ (u : Tree). tree_at u (drop (i + 1) ways))) e))

pub way_goes_on : (t u : Tree) (ways : List ℕ) (i step : ℕ) (o : Option Tree) → i < length ways
    → step ≡ get_or ways i step → slice_get (children t) step ≡ Some u
    → tree_at t (drop i ways) ≡ o → tree_at u (drop (i + 1) ways) ≡ o
way_goes_on t u ways i step o lt is there was =
    sym (way_next t ways i step lt is
    ∙ ap (option_and_then (λ (v : Tree). tree_at v (drop (i + 1) ways))) there) ∙ was

-- the patterns from one on agree if it and the later ones do
agree_next : (pairs : List (ℕ × ℕ)) (ps : List RulePat) (us : List Tree) (i : ℕ) (p : RulePat)
    (u : Tree) → p ≡ get_or ps i p → i < length ps → slice_get us i ≡ Some u
    → all_agree pairs (plain_patterns (drop i ps)) (drop i us)
    ≡ (agree pairs (plain_pattern p) u
    && all_agree pairs (plain_patterns (drop (i + 1) ps)) (drop (i + 1) us))
agree_next pairs ps us i p u is lt there =
    let front : drop i ps ≡ p ∷ drop (i + 1) ps =
    drop_more ps i p lt ∙ ap (λ (q : RulePat). q ∷ drop (i + 1) ps) (sym is) in
    let within : i < length us = slice_get_within us i u there in
    let tree : drop i us ≡ u ∷ drop (i + 1) us =
    drop_more us i u within
    ∙ ap (λ (v : Tree). v ∷ drop (i + 1) us) (get_or_from_slice_get us i u u there) in
    rw (front, tree) refl

pub agree_on : (pairs : List (ℕ × ℕ)) (ps : List RulePat) (us : List Tree) (i : ℕ) (p : RulePat)
    (u : Tree) (whole answer : Bool) → p ≡ get_or ps i p → i < length ps
    → slice_get us i ≡ Some u → answer ≡ agree pairs (plain_pattern p) u → answer ≡ true
    → all_agree pairs (plain_patterns (drop i ps)) (drop i us) ≡ whole
    → all_agree pairs (plain_patterns (drop (i + 1) ps)) (drop (i + 1) us) ≡ whole
agree_on pairs ps us i p u whole answer is lt there own holds was =
    sym (agree_next pairs ps us i p u is lt there
    ∙ ap (λ (b : Bool). b
    && all_agree pairs (plain_patterns (drop (i + 1) ps)) (drop (i + 1) us)) (sym own ∙ holds))
    ∙ was

pub agree_off : (pairs : List (ℕ × ℕ)) (ps : List RulePat) (us : List Tree) (i : ℕ) (p : RulePat)
    (u : Tree) (whole answer : Bool) → p ≡ get_or ps i p → i < length ps
    → slice_get us i ≡ Some u → answer ≡ agree pairs (plain_pattern p) u → answer ≡ false
    → all_agree pairs (plain_patterns (drop i ps)) (drop i us) ≡ whole → false ≡ whole
agree_off pairs ps us i p u whole answer is lt there own fails was =
    sym (agree_next pairs ps us i p u is lt there
    ∙ ap (λ (b : Bool). b
    && all_agree pairs (plain_patterns (drop (i + 1) ps)) (drop (i + 1) us)) (sym own ∙ fails))
    ∙ was

-- a constructor that takes a term's head has as many arguments
pub takes_as_many : (pairs : List (ℕ × ℕ)) (p : Pattern) (f : ℕ) (ps : List RulePat) (t : Tree)
    → p ≡ application f (plain_patterns ps) → takes pairs p (root t) ≡ true
    → length ps ≡ length (children t)
takes_as_many pairs p f ps (leaf s v) is e =
    let own : takes pairs (application f (plain_patterns ps)) (root (leaf s v)) ≡ true =
    ap (λ (q : Pattern). takes pairs q (root (leaf s v))) (sym is) ∙ e in
    absurd (false≢true own)
takes_as_many pairs p f ps (inj a b t) is e =
    let own : takes pairs (application f (plain_patterns ps)) (root (inj a b t)) ≡ true =
    ap (λ (q : Pattern). takes pairs q (root (inj a b t))) (sym is) ∙ e in
    absurd (false≢true own)
takes_as_many pairs p f ps (node g us) is e =
    let own : takes pairs (application f (plain_patterns ps)) (root (node g us)) ≡ true =
    ap (λ (q : Pattern). takes pairs q (root (node g us))) (sym is) ∙ e in
    let parts =
    both_true (f == g) (length (pattern_list (plain_patterns ps)) == length (trees us)) own in
    sym (length-map ps plain_pattern)
    ∙ ap (λ (qs : List Pattern). length qs)
    (sym (pattern_list-patterns _)) ∙ eqb-true _ _ parts.1

-- an injection that takes a term's head has a child there
pub takes_child : (pairs : List (ℕ × ℕ)) (p q : Pattern) (b c : ℕ) (t : Tree)
    → p ≡ injection b c q → takes pairs p (root t) ≡ true → 0 < length (children t)
takes_child pairs p q b c (leaf s v) is e =
    let own : takes pairs (injection b c q) (root (leaf s v)) ≡ true =
    ap (λ (r : Pattern). takes pairs r (root (leaf s v))) (sym is) ∙ e in
    absurd (false≢true own)
takes_child pairs p q b c (node g us) is e =
    let own : takes pairs (injection b c q) (root (node g us)) ≡ true =
    ap (λ (r : Pattern). takes pairs r (root (node g us))) (sym is) ∙ e in
    absurd (false≢true own)
takes_child pairs p q b c (inj a d t) is e = omega arith

-- the first child passes the test
pub first_is : (test : Tree → Bool) (us : List Tree) (u : Tree) → slice_get us 0 ≡ Some u
    → first_passes test us ≡ test u
first_is test [] u e = absurd (let no : ⊥ = cc in no)
first_is test (v ∷ us) u e = let same : v ≡ u = cc in ap test same

-- injections between the same sorts are the same if their terms are
pub lifted_same : (a b c d : ℕ) (t u : Tree) (r : Bool) → (a == c) ≡ true → (b == d) ≡ true
    → r ≡ tree_eq t u → r ≡ tree_eq (inj a b t) (inj c d u)
lifted_same a b c d t u r sources targets e = rw (sources, targets) e

-- a way from the first subject
pub way_begins : (ts : List Tree) (position : List ℕ) (first : ℕ) (t : Tree) → 0 < length position
    → first ≡ get_or position 0 first → first < length ts → t ≡ get_or ts first t
    → tree_at t (drop 1 position) ≡ subject_at ts position
way_begins ts [] first t some is lt there = absurd (omega arith)
way_begins ts (i ∷ way) first t some is lt there =
    let found : slice_get ts i ≡ Some t =
    ap (slice_get ts) (sym is) ∙ slice_get_read ts (length ts) first t refl lt there in
    sym (ap (option_and_then (λ (u : Tree). tree_at u way)) found)

pub way_ends : (t : Tree) (position : List ℕ) (i : ℕ) (o : Option Tree) → length position ≤ i
    → tree_at t (drop i position) ≡ o → o ≡ Some t
way_ends t position i o past was = sym was ∙ ap (tree_at t) (drop_all i position past)
