-- The substitution of a row that matches, and of the row that slots keep.
use Rattle.std.proofs.Common.{◌≡◌, ◌≢◌, ℕ, List, Option, Some, None, length, map, replicate}
use Rattle.std.proofs.Common.{sym, ◌∙◌, ap, subst}
use Rattle.std.proofs.lemmas.List.{length-map, length-replicate}
use Rattle.term_core.specs.Terms as terms
use Rattle.term_core.specs.Terms.{AreNormal}
use Rattle.term_core.specs.Forests.{forest}
use Rattle.term_core.specs.Instances.{patterns}
use Rattle.term_core.specs.Patterns.{Pattern}
use Rattle.term_core.specs.RulePatterns.{plain_pattern}
use Rattle.term_core.specs.PatternLists.{plain_patterns}
use Rattle.term_core.specs.declared.rule_patterns.RulePat.{RulePat}
use Rattle.rule_core.specs.MatchSearch.{UseFirst, FindsMatch}
use Rattle.rule_core.specs.MatchSteps.{all_matched}
use Rattle.rule_core.proofs.Searches.{search_found}
use Rattle.pat_matrix.specs.MatrixView.{row_of, order_of}
use Rattle.match_tree.specs.SlotView.{FitsHit, Fits, IsKept, IsKeptRow, IsRowMatch}
use Rattle.match_tree.specs.SlotView.{RowMatches}
use Rattle.match_tree.specs.declared.compiling.Tree.{Tree}
use Rattle.match_tree.specs.declared.slots.Kept.{Kept}
use Rattle.match_tree.specs.declared.slots.Slots.{Slots}
use Rattle.match_tree.proofs.BindingLaws.{match_with_room, match_as_many}

-- a row that matches has as many patterns as there are subjects
pub row_count : (t : Tree) (ts : List terms.Tree) (row : ℕ) (ps : List RulePat)
    → RowMatches t ts row → map plain_pattern ps ≡ row_of t.matrix row → length ps ≡ length ts
row_count t ts row ps matches is =
    sym (length-map ps plain_pattern) ∙ ap (λ (qs : List Pattern). length qs) is
    ∙ match_as_many (order_of t.matrix) (row_of t.matrix row) ts matches

-- and its variables are in the room of an empty substitution
pub row_scoped : (ps : List RulePat) (qs : List Pattern) (theta : List (Option terms.Tree))
    (vars : ℕ) → map plain_pattern ps ≡ qs → theta ≡ replicate vars None
    → UseFirst vars (patterns qs) → UseFirst (length theta) (plain_patterns ps)
row_scoped ps qs theta vars is empty scoped =
    let count : length theta ≡ vars =
    ap (λ (th : List (Option terms.Tree)). length th) empty ∙ length-replicate vars None in
    let P : ℕ → Type 0 = λ n. UseFirst n (patterns qs) in
    let Q : List Pattern → Type 0 = λ rs. UseFirst (length theta) (patterns rs) in
    subst Q (sym is) (subst P (sym count) scoped)

-- it matches from an empty substitution
moved : (pairs order : List (ℕ × ℕ)) (ps : List RulePat) (qs : List Pattern)
    (ts : List terms.Tree) (theta : List (Option terms.Tree)) (vars : ℕ) → pairs ≡ order
    → map plain_pattern ps ≡ qs → theta ≡ replicate vars None
    → all_matched pairs (plain_patterns ps) (forest ts) theta
    ≡ all_matched order (patterns qs) (forest ts) (replicate vars None)
moved pairs order ps qs ts theta vars sorts is empty =
    ap (λ (o : List (ℕ × ℕ)). all_matched o (plain_patterns ps) (forest ts) theta) sorts
    ∙ ap (λ (rs : List Pattern). all_matched order (patterns rs) (forest ts) theta) is
    ∙ ap (all_matched order (patterns qs) (forest ts)) empty

pub row_binds : (t : Tree) (ts : List terms.Tree) (row vars : ℕ) (pairs : List (ℕ × ℕ))
    (ps : List RulePat) (theta : List (Option terms.Tree)) → RowMatches t ts row
    → UseFirst vars (patterns (row_of t.matrix row)) → pairs ≡ order_of t.matrix
    → map plain_pattern ps ≡ row_of t.matrix row → theta ≡ replicate vars None
    → all_matched pairs (plain_patterns ps) (forest ts) theta ≢ None
row_binds t ts row vars pairs ps theta matches scoped sorts is empty none =
    match_with_room (order_of t.matrix) (row_of t.matrix row) ts vars scoped matches
    (sym (moved pairs (order_of t.matrix) ps (row_of t.matrix row) ts theta vars sorts is empty)
    ∙ none)

-- the substitution that was bound is the one by which it matches
pub row_bound : (t : Tree) (ts : List terms.Tree) (row vars : ℕ) (pairs : List (ℕ × ℕ))
    (ps : List RulePat) (theta new : List (Option terms.Tree)) → pairs ≡ order_of t.matrix
    → map plain_pattern ps ≡ row_of t.matrix row → theta ≡ replicate vars None
    → all_matched pairs (plain_patterns ps) (forest ts) theta ≡ Some new
    → IsRowMatch (order_of t.matrix) vars (row_of t.matrix row) ts new
row_bound t ts row vars pairs ps theta new sorts is empty e =
    sym (moved pairs (order_of t.matrix) ps (row_of t.matrix row) ts theta vars sorts is empty) ∙ e

pub row_found : (t : Tree) (ts : List terms.Tree) (row vars : ℕ)
    (new : List (Option terms.Tree)) → AreNormal (forest ts)
    → IsRowMatch (order_of t.matrix) vars (row_of t.matrix row) ts new
    → FindsMatch (order_of t.matrix) vars (patterns (row_of t.matrix row)) (forest ts) (Some new)
row_found t ts row vars new normal e =
    search_found (order_of t.matrix) vars (patterns (row_of t.matrix row)) (forest ts) new normal e

-- ---- the kept row

kept_hit : (t : Tree) (ts : List terms.Tree) (path : List ℕ) (hit : Option Kept) (row : ℕ)
    → FitsHit t ts path hit → IsKept hit row → RowMatches t ts row
kept_hit t ts path None row fits kept = absurd kept
kept_hit t ts path (Some k) row fits kept =
    let P : ℕ → Type 0 = RowMatches t ts in subst P kept fits.1

-- it matches the subjects
pub kept_matches : (t : Tree) (ts : List terms.Tree) (slots : Slots) (row : ℕ) → Fits t ts slots
    → IsKeptRow slots row → RowMatches t ts row
kept_matches t ts slots row fits kept = kept_hit t ts slots.path.items slots.hit row fits kept
