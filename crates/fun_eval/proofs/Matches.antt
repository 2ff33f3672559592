-- Equations that a walk over their matching tree finds.
use Rattle.std.proofs.Common.{rules, ◌≡◌, ℕ, zero, suc, ◌<◌, List, [], ◌∷◌, length, map, get_or}
use Rattle.std.proofs.Common.{Option, Some, sym, ◌∙◌, ap, subst, arith}
use Rattle.std.specs.Prelude.{slice_get, slice_index_or, vec_len}
use Rattle.std.proofs.lemmas.List.{length-map}
use Rattle.std.proofs.lemmas.Option.{slice_get_within}
use Rattle.term_core.specs.Terms.{Tree, Forest}
use Rattle.term_core.specs.Forests.{forest}
use Rattle.term_core.specs.Instances.{patterns}
use Rattle.term_core.specs.PatternLists.{AllFitWithin, plain_patterns}
use Rattle.term_core.specs.declared.rule_patterns.RulePat.{RulePat}
use Rattle.rule_core.specs.Rules as plain
use Rattle.rule_core.specs.Theories.{RewriteTheory, equations_of}
use Rattle.rule_core.specs.ProgramView.{function_equation, names_of, sorts_of}
use Rattle.rule_core.specs.declared.rules.Named.{Named}
use Rattle.rule_core.specs.WellSorted.{IsWellSorted}
use Rattle.rule_core.specs.Evaluation.{MatchesBy}
use Rattle.rule_core.specs.Matching.{MatchAll}
use Rattle.rule_core.specs.NamedLaws.{AddsNames}
use Rattle.rule_core.specs.Naming.{AreNamesOf}
use Rattle.rule_core.specs.MatchSearch.{FindsMatch, UseFirst}
use Rattle.rule_core.specs.declared.rules.Equation.{Equation}
use Rattle.rule_core.proofs.NamedMatches.{names_match}
use Rattle.pat_matrix.specs.MatrixView.{row_of, order_of}
use Rattle.match_tree.specs.ProgramLaws.{IsFirstEquation}
use Rattle.match_tree.specs.declared.compiling.Tree as code
use Rattle.fun_eval.specs.Equations.{IsDefined, MatchesNumber}
use Rattle.fun_eval.proofs.Names.{all_fit, are_names_of, is_equation}

-- ---- equations by their numbers

equation_at : (es : List Equation) (i : ℕ) (e : Equation) → e ≡ get_or es i e → i < length es
    → slice_get (map function_equation es) i ≡ Some (function_equation e)
equation_at [] i e is lt = absurd (omega arith)
equation_at (x ∷ es) zero e is lt = ap (λ (y : Equation). Some (function_equation y)) (sym is)
equation_at (x ∷ es) (suc i) e is lt = equation_at es i e is (omega arith)

pub own_equation : (theory : RewriteTheory) (f : ℕ) (es : List Equation) (i : ℕ) (e : Equation)
    → map function_equation es ≡ equations_of theory f → e ≡ get_or es i e → i < length es
    → slice_get (equations_of theory f) i ≡ Some (function_equation e)
own_equation theory f es i e all is lt =
    subst (λ (xs : List plain.Equation). slice_get xs i ≡ Some (function_equation e)) all
    (equation_at es i e is lt)

pub as_long : (theory : RewriteTheory) (f : ℕ) (es : List Equation)
    → map function_equation es ≡ equations_of theory f → length (equations_of theory f) ≡ length es
as_long theory f es all = ap length (sym all) ∙ length-map es function_equation

-- a symbol with an equation has a list of them
in_list : (lists : List (List plain.Equation)) (f i : ℕ) → i < length (slice_index_or lists f [])
    → f < length lists
in_list [] f i lt = absurd (omega (arith, lt))
in_list (es ∷ lists) zero i lt = omega arith
in_list (es ∷ lists) (suc f) i lt = omega (arith, in_list lists f i lt)

pub has_equations : (theory : RewriteTheory) (f i : ℕ) → i < length (equations_of theory f)
    → f < length theory.equations
has_equations theory f i lt = in_list theory.equations f i lt

-- ---- equations that a walk finds

-- the equation has a number
pub found_within : (theory : RewriteTheory) (f : ℕ) (tree : code.Tree) (ts : List Tree)
    (from row : ℕ) → IsFirstEquation theory f tree ts from row
    → row < length (equations_of theory f)
found_within theory f tree ts from row first =
    slice_get_within (equations_of theory f) row first.equation first.there

-- how many variables an equation has
count_of : (e : Equation) (n : ℕ) → n ≡ vec_len e.vars
    → n ≡ length (function_equation e).variables
count_of e n many =
    let mapped : length (sorts_of e.vars.items) ≡ vec_len e.vars = search (rules, length-map) in
    many ∙ sym mapped

-- the row of a found equation has no other variables
found_count : (theory : RewriteTheory) (f : ℕ) (tree : code.Tree) (ts : List Tree)
    (from row n : ℕ) (e : Equation) → (first : IsFirstEquation theory f tree ts from row)
    → slice_get (equations_of theory f) row ≡ Some (function_equation e) → n ≡ vec_len e.vars
    → n ≡ length first.equation.variables
found_count theory f tree ts from row n e first there many =
    let both : Some (function_equation e) ≡ Some first.equation = sym there ∙ first.there in
    let own : function_equation e ≡ first.equation = cc in
    count_of e n many ∙ ap (λ (x : plain.Equation). length x.variables) own

pub found_scoped : (theory : RewriteTheory) (f : ℕ) (tree : code.Tree) (ts : List Tree)
    (from row n : ℕ) (e : Equation) → IsFirstEquation theory f tree ts from row
    → slice_get (equations_of theory f) row ≡ Some (function_equation e) → n ≡ vec_len e.vars
    → UseFirst n (patterns (row_of tree.matrix row))
found_scoped theory f tree ts from row n e first there many =
    let P : ℕ → Type 0 = λ k. UseFirst k (patterns (row_of tree.matrix row)) in
    subst P (sym (found_count theory f tree ts from row n e first there many)) first.scoped

-- the substitution that was found for the row matches the equation without its names
found_unnamed : (theory : RewriteTheory) (f : ℕ) (tree : code.Tree) (ts : List Tree)
    (from row n : ℕ) (e : Equation) (theta : List (Option Tree))
    → IsFirstEquation theory f tree ts from row
    → slice_get (equations_of theory f) row ≡ Some (function_equation e) → n ≡ vec_len e.vars
    → FindsMatch (order_of tree.matrix) n (patterns (row_of tree.matrix row)) (forest ts)
    (Some theta)
    → MatchAll theory.sig (function_equation e).variables (function_equation e).arguments
    (forest ts) theta
found_unnamed theory f tree ts from row n e theta first there many finds =
    let P : ℕ → Type 0 = λ k. FindsMatch (order_of tree.matrix) k
    (patterns (row_of tree.matrix row)) (forest ts) (Some theta) in
    let match =
    first.found theta
    (subst P (found_count theory f tree ts from row n e first there many) finds) in
    let both : Some first.equation ≡ Some (function_equation e) = sym first.there ∙ there in
    let same : first.equation ≡ function_equation e = cc in
    subst (λ (x : plain.Equation). MatchAll theory.sig x.variables x.arguments (forest ts) theta)
    same match

-- then its names may be added
pub names_fit : (theory : RewriteTheory) (f : ℕ) (tree : code.Tree) (ts : List Tree)
    (from row n : ℕ) (e : Equation) (args : List RulePat) (named : List Named)
    (theta : List (Option Tree)) → IsWellSorted theory
    → IsDefined theory f (forest ts) → IsFirstEquation theory f tree ts from row
    → slice_get (equations_of theory f) row ≡ Some (function_equation e) → n ≡ vec_len e.vars
    → args ≡ e.args.items → named ≡ e.named.items
    → FindsMatch (order_of tree.matrix) n (patterns (row_of tree.matrix row)) (forest ts)
    (Some theta)
    → AllFitWithin 500 theta (plain_patterns args)
    × AreNamesOf (plain_patterns args) (length theta) (names_of named)
names_fit theory f tree ts from row n e args named theta good is first there many own own_names
    finds =
    let match = found_unnamed theory f tree ts from row n e theta first there many finds in
    let fits : AllFitWithin 500 theta (function_equation e).arguments =
    all_fit 500 theta (function_equation e).arguments (forest ts) match.makes is.good.2 in
    let names : AreNamesOf (function_equation e).arguments (length theta)
    (function_equation e).names =
    are_names_of theory.sig (function_equation e).variables (function_equation e).arguments
    (function_equation e).names (length theta)
    (is_equation theory f (forest ts) row (function_equation e) good is there).names
    match.binds.room in (
      subst (λ (ps : List RulePat). AllFitWithin 500 theta (plain_patterns ps)) (sym own) fits,
      subst (λ (ps : List RulePat). AreNamesOf (plain_patterns ps) (length theta) (names_of named))
          (sym own)
          (subst (λ (ns : List Named). AreNamesOf (plain_patterns e.args.items) (length theta)
          (names_of ns)) (sym own_names) names),
    )

-- and then it matches the equation
pub found_matches : (theory : RewriteTheory) (f : ℕ) (tree : code.Tree) (ts : List Tree)
    (from row n : ℕ) (e : Equation) (args : List RulePat) (named : List Named)
    (theta sigma : List (Option Tree)) → IsWellSorted theory
    → IsDefined theory f (forest ts) → IsFirstEquation theory f tree ts from row
    → slice_get (equations_of theory f) row ≡ Some (function_equation e) → n ≡ vec_len e.vars
    → args ≡ e.args.items → named ≡ e.named.items
    → FindsMatch (order_of tree.matrix) n (patterns (row_of tree.matrix row)) (forest ts)
    (Some theta) → AddsNames (plain_patterns args) (names_of named) theta sigma
    → MatchesNumber theory f row (forest ts) sigma
found_matches theory f tree ts from row n e args named theta sigma good is first there many own
    own_names finds adds =
    let all : AddsNames (plain_patterns e.args.items) (names_of e.named.items) theta sigma =
    subst (λ (ps : List RulePat).
    AddsNames (plain_patterns ps) (names_of e.named.items) theta sigma)
    own (subst (λ (ns : List Named). AddsNames (plain_patterns args) (names_of ns) theta sigma)
    own_names adds) in (
      function_equation e,
      there,
      names_match theory.sig (function_equation e).variables (function_equation e).arguments
          (function_equation e).names (forest ts) theta sigma
          (is_equation theory f (forest ts) row (function_equation e) good is there).names
          (found_unnamed theory f tree ts from row n e theta first there many finds) all,
    )

-- what is known of a number holds of its equation
pub own_match : (theory : RewriteTheory) (f row : ℕ) (ts : Forest) (e : plain.Equation)
    (theta : List (Option Tree)) → MatchesNumber theory f row ts theta
    → slice_get (equations_of theory f) row ≡ Some e → MatchesBy theory e ts theta
own_match theory f row ts e theta (own, there, match) at =
    let both : Some own ≡ Some e = sym there ∙ at in
    let same : own ≡ e = cc in
    subst (λ (x : plain.Equation). MatchesBy theory x ts theta) same match
