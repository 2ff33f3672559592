-- Laws of the matching trees of a program. A walk finds the first rule, or the first equation, that
-- matches; those before it do not match. They speak of the program's own patterns: joining their
-- nested injections changes no match. Names of parts play no role here.
use Rattle.std.specs.Prelude.{◌≡◌, ◌<◌, ◌≤◌, ◌+◌, ℕ, List, [], ◌∷◌, length, drop, Option, Some, All}
use Rattle.std.specs.Prelude.{slice_get}
use Rattle.term_core.specs.Terms as terms
use Rattle.term_core.specs.Terms.{Forest, IsNormal, AreNormal}
use Rattle.term_core.specs.Forests.{forest}
use Rattle.term_core.specs.Instances.{patterns}
use Rattle.term_core.specs.Patterns.{no_pattern, more_patterns}
use Rattle.rule_core.specs.Rules.{RewriteRule, Equation}
use Rattle.rule_core.specs.Theories.{RewriteTheory, equations_of}
use Rattle.rule_core.specs.Sorting.{IsSymbol, IsTermOf}
use Rattle.rule_core.specs.WellSorted.{IsWellSorted, IsRuleOf}
use Rattle.rule_core.specs.Matching.{MatchAll, NoneMatches}
use Rattle.rule_core.specs.MatchSearch.{UseFirst, FindsMatch}
use Rattle.rule_core.specs.MatchLaws.{AreTermsOf}
use Rattle.rule_core.specs.Trial.{NoRuleMatches}
use Rattle.rule_core.specs.Evaluation.{Evaluated, Equates}
use Rattle.rule_core.specs.declared.signature.SymInfo.{SymInfo}
use Rattle.pat_matrix.specs.MatrixView.{rows_of, row_of, order_of}
use Rattle.match_tree.specs.Walking.{AreWide}
use Rattle.match_tree.specs.SlotView.{FindsFirst, Keeps, CanBegin, Fits, IsKeptRow, first_row}
use Rattle.match_tree.specs.Programs.{IsRuleTree, IsEquationTree}
use Rattle.match_tree.specs.declared.compiling.Tree.{Tree}
use Rattle.match_tree.specs.declared.slots.NodeNo.{NodeNo}
use Rattle.match_tree.specs.declared.slots.Slots.{Slots}
use Rattle.match_tree.specs.declared.slots.Hit.{Hit}
use Rattle.match_tree.specs.declared.slots.Hit.TheVariants as answer

-- Each row of the trees is as wide as the subjects of their walks.
abbrev pub RuleTreeIsWide : Type 0
RuleTreeIsWide = (theory : RewriteTheory) (t : Tree) → IsRuleTree theory t → AreWide 1 (rows_of t.matrix)

abbrev pub EquationTreeIsWide : Type 0
EquationTreeIsWide =
    (theory : RewriteTheory) (f : ℕ) (info : SymInfo) (t : Tree) (ts : List terms.Tree) →
    IsWellSorted theory → IsEquationTree theory f t → IsSymbol theory.sig f info →
    AreTermsOf theory.sig [] (forest ts) info.args.items → AreWide (length ts) (rows_of t.matrix)

-- After a hit of the subjects, a walk may go on from the place that the hit gives, at the next row.
-- The substitution of the hit's row may be asked for.
abbrev pub WalkGoesOn : Type 0
WalkGoesOn =
    (t : Tree) (ts : List terms.Tree) (slots : Slots) (row : ℕ) (resume : NodeNo) →
    Keeps t ts slots (answer.Row row resume) →
    CanBegin t ts slots resume × (first_row slots resume ≡ row + 1) × Fits t ts slots
    × IsKeptRow slots row

-- the substitution matches the left side of the rule with the term, without its names
abbrev pub MatchesLeft : RewriteTheory → RewriteRule → terms.Tree → List (Option terms.Tree) → Type 0
MatchesLeft theory rule u theta =
    MatchAll theory.sig rule.variables (more_patterns rule.left no_pattern) (forest (u ∷ [])) theta

-- The rule with the row's number is the first from a number on that matches the term. Its row uses
-- only its own variables, and each substitution that is found for the row matches its left side.
pub record IsFirstRule (theory : RewriteTheory) (t : Tree) (u : terms.Tree) (from row : ℕ) : Type 0
  where
    pub rule : RewriteRule
    pub there : slice_get theory.rules row ≡ Some rule
    pub not_before : from ≤ row
    pub earlier : NoRuleMatches theory.sig theory.rules from row u
    pub matches : (theta : List (Option terms.Tree)) × MatchesLeft theory rule u theta
    pub scoped : UseFirst (length rule.variables) (patterns (row_of t.matrix row))
    pub found : (theta : List (Option terms.Tree))
        → FindsMatch (order_of t.matrix) (length rule.variables) (patterns (row_of t.matrix row))
        (forest (u ∷ [])) (Some theta) → MatchesLeft theory rule u theta

-- what a hit, or none, of a walk from the rule with a number on says of the rules
abbrev pub TellsOfRules : RewriteTheory → Tree → terms.Tree → ℕ → Hit → Type 0
TellsOfRules theory t u from answer.None =
    NoRuleMatches theory.sig theory.rules from (length theory.rules) u
TellsOfRules theory t u from (answer.Row row resume) = IsFirstRule theory t u from row

abbrev pub RuleWalkTells : Type 0
RuleWalkTells =
    (theory : RewriteTheory) (t : Tree) (u : terms.Tree) (sort from : ℕ) (hit : Hit) →
    IsWellSorted theory → IsRuleTree theory t → All (IsRuleOf theory.sig sort) theory.rules →
    IsTermOf theory.sig u sort → IsNormal u → FindsFirst t (u ∷ []) from hit →
    TellsOfRules theory t u from hit

-- no equation of the function from this number up to that one (excluded) matches
abbrev pub NoEquationMatches : RewriteTheory → ℕ → ℕ → ℕ → Forest → Type 0
NoEquationMatches theory f from to ts =
    (j : ℕ) (e : Equation) → from ≤ j → j < to → slice_get (equations_of theory f) j ≡ Some e →
    NoneMatches theory.sig e.variables e.arguments ts

-- the same as for rules
pub record IsFirstEquation (theory : RewriteTheory) (f : ℕ) (t : Tree) (ts : List terms.Tree)
    (from row : ℕ) : Type 0
  where
    pub equation : Equation
    pub there : slice_get (equations_of theory f) row ≡ Some equation
    pub not_before : from ≤ row
    pub earlier : NoEquationMatches theory f from row (forest ts)
    pub matches : (theta : List (Option terms.Tree))
        × MatchAll theory.sig equation.variables equation.arguments (forest ts) theta
    pub scoped : UseFirst (length equation.variables) (patterns (row_of t.matrix row))
    pub found : (theta : List (Option terms.Tree))
        → FindsMatch (order_of t.matrix) (length equation.variables)
        (patterns (row_of t.matrix row)) (forest ts) (Some theta)
        → MatchAll theory.sig equation.variables equation.arguments (forest ts) theta

abbrev pub TellsOfEquations : RewriteTheory → ℕ → Tree → List terms.Tree → ℕ → Hit → Type 0
TellsOfEquations theory f t ts from answer.None =
    NoEquationMatches theory f from (length (equations_of theory f)) (forest ts)
TellsOfEquations theory f t ts from (answer.Row row resume) =
    IsFirstEquation theory f t ts from row

abbrev pub EquationWalkTells : Type 0
EquationWalkTells =
    (theory : RewriteTheory) (f : ℕ) (info : SymInfo) (t : Tree) (ts : List terms.Tree) (from : ℕ)
    (hit : Hit) → IsWellSorted theory → IsEquationTree theory f t → IsSymbol theory.sig f info →
    AreTermsOf theory.sig [] (forest ts) info.args.items → AreNormal (forest ts) →
    FindsFirst t ts from hit → TellsOfEquations theory f t ts from hit

-- Equations that do not match change nothing. A call whose trial begins after them has the same
-- outcome as one whose trial begins at the first of them.
abbrev pub UnmatchedEquationsAreSkipped : Type 0
UnmatchedEquationsAreSkipped =
    (theory : RewriteTheory) (f n from count calls : ℕ) (ts : Forest) (r : Evaluated) →
    from + count ≤ length (equations_of theory f) →
    NoEquationMatches theory f from (from + count) ts →
    Equates theory n f (drop (from + count) (equations_of theory f)) ts calls r →
    Equates theory n f (drop from (equations_of theory f)) ts calls r
