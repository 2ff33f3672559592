-- Patterns are evaluated in turn. What the result of the rest says of the result of all.
use Rattle.std.proofs.Common.{◌≡◌, ℕ, ◌+◌, ◌<◌, ◌≤◌, List, [], ◌∷◌, ◌++◌, length, get_or, drop}
use Rattle.std.proofs.Common.{Option, refl, sym, ◌∙◌, ap, subst}
use Rattle.std.proofs.lemmas.List.{drop_more, drop_all}
use Rattle.term_core.specs.Terms.{Tree, no_tree, more_trees}
use Rattle.term_core.specs.Forests.{forest}
use Rattle.term_core.specs.Patterns.{Pattern, Patterns, more_patterns}
use Rattle.term_core.specs.RulePatterns.{plain_pattern}
use Rattle.term_core.specs.PatternLists.{plain_patterns}
use Rattle.term_core.specs.declared.rule_patterns.RulePat.{RulePat}
use Rattle.rule_core.specs.Theories.{RewriteTheory}
use Rattle.rule_core.specs.Evaluation.{Cause, value, blocked, AllEvaluated, values, all_blocked}
use Rattle.rule_core.specs.Evaluation.{Evaluates, EvaluateAll, none_left, first_blocked}
use Rattle.rule_core.specs.Evaluation.{later_blocked, one_more}

-- trees put before the result of the later patterns
abbrev pub in_front : Tree → AllEvaluated → AllEvaluated
in_front t (values ts d) = values (more_trees t ts) d
in_front t (all_blocked cause) = all_blocked cause

abbrev pub all_in_front : List Tree → AllEvaluated → AllEvaluated
all_in_front [] r = r
all_in_front (t ∷ ts) r = in_front t (all_in_front ts r)

all_in_front-push : (ts : List Tree) (t : Tree) (r : AllEvaluated)
    → all_in_front (ts ++ t ∷ []) r ≡ all_in_front ts (in_front t r)
all_in_front-push [] t r = refl
all_in_front-push (u ∷ ts) t r = ap (in_front u) (all_in_front-push ts t r)

all_in_front-none : (ts : List Tree) (d : ℕ)
    → all_in_front ts (values no_tree d) ≡ values (forest ts) d
all_in_front-none [] d = refl
all_in_front-none (t ∷ ts) d = ap (in_front t) (all_in_front-none ts d)

all_in_front-stopped : (ts : List Tree) (cause : Cause)
    → all_in_front ts (all_blocked cause) ≡ all_blocked cause
all_in_front-stopped [] cause = refl
all_in_front-stopped (t ∷ ts) cause = ap (in_front t) (all_in_front-stopped ts cause)

-- with `left` calls left, the result of the patterns from i determines the result of all patterns
abbrev pub GoesOn : RewriteTheory → ℕ → List (Option Tree) → List RulePat → ℕ → ℕ → List Tree → ℕ
    → Type 0
GoesOn theory n theta pats c i ts left =
    (r : AllEvaluated) → EvaluateAll theory n theta (plain_patterns (drop i pats)) left r
    → EvaluateAll theory n theta (plain_patterns pats) c (all_in_front ts r)

pub goes_on-start : (theory : RewriteTheory) (n : ℕ) (theta : List (Option Tree))
    (pats : List RulePat) (c : ℕ) → GoesOn theory n theta pats c 0 [] c
goes_on-start theory n theta pats c = λ r e. e

from_here : (pats : List RulePat) (i : ℕ) (p : RulePat) → p ≡ get_or pats i p → i < length pats
    → plain_patterns (drop i pats)
    ≡ more_patterns (plain_pattern p) (plain_patterns (drop (i + 1) pats))
from_here pats i p e lt =
    ap plain_patterns (drop_more pats i p lt ∙ ap (λ (q : RulePat). q ∷ drop (i + 1) pats) (sym e))

more_front : (theory : RewriteTheory) (n : ℕ) (theta : List (Option Tree)) (p : Pattern)
    (ps : Patterns) (t : Tree) (c d : ℕ) (r : AllEvaluated)
    → Evaluates theory n theta p c (value t d) → EvaluateAll theory n theta ps d r
    → EvaluateAll theory n theta (more_patterns p ps) c (in_front t r)
more_front theory n theta p ps t c d (values ts k) e all = one_more e all
more_front theory n theta p ps t c d (all_blocked cause) e all = later_blocked e all

pub goes_on-more : (theory : RewriteTheory) (n : ℕ) (theta : List (Option Tree))
    (pats : List RulePat) (c i : ℕ) (ts us : List Tree) (left rest : ℕ) (p : RulePat) (t : Tree)
    → GoesOn theory n theta pats c i ts left → p ≡ get_or pats i p → i < length pats
    → Evaluates theory n theta (plain_pattern p) left (value t rest) → us ≡ ts ++ t ∷ []
    → GoesOn theory n theta pats c (i + 1) us rest
goes_on-more theory n theta pats c i ts us left rest p t goes e lt evaluated pushed = λ r all.
    let P : Patterns → Type 0 = λ ps. EvaluateAll theory n theta ps left (in_front t r) in
    let here : P (plain_patterns (drop i pats)) =
    subst P (sym (from_here pats i p e lt)) (more_front theory n theta (plain_pattern p)
    (plain_patterns (drop (i + 1) pats)) t left rest r evaluated all) in
    let Q : AllEvaluated → Type 0 = λ s. EvaluateAll theory n theta (plain_patterns pats) c s in
    let same : all_in_front ts (in_front t r) ≡ all_in_front us r =
    sym (all_in_front-push ts t r) ∙ ap (λ (vs : List Tree). all_in_front vs r) (sym pushed) in
    subst Q same (goes (in_front t r) here)

pub goes_on-stop : (theory : RewriteTheory) (n : ℕ) (theta : List (Option Tree))
    (pats : List RulePat) (c i : ℕ) (ts : List Tree) (left : ℕ) (p : RulePat) (cause : Cause)
    → GoesOn theory n theta pats c i ts left → p ≡ get_or pats i p → i < length pats
    → Evaluates theory n theta (plain_pattern p) left (blocked cause)
    → EvaluateAll theory n theta (plain_patterns pats) c (all_blocked cause)
goes_on-stop theory n theta pats c i ts left p cause goes e lt evaluated =
    let P : Patterns → Type 0 = λ ps. EvaluateAll theory n theta ps left (all_blocked cause) in
    let here : P (plain_patterns (drop i pats)) =
    subst P (sym (from_here pats i p e lt)) (first_blocked evaluated) in
    let Q : AllEvaluated → Type 0 = λ s. EvaluateAll theory n theta (plain_patterns pats) c s in
    subst Q (all_in_front-stopped ts cause) (goes (all_blocked cause) here)

pub goes_on-end : (theory : RewriteTheory) (n : ℕ) (theta : List (Option Tree))
    (pats : List RulePat) (c i : ℕ) (ts : List Tree) (left : ℕ)
    → GoesOn theory n theta pats c i ts left → length pats ≤ i
    → EvaluateAll theory n theta (plain_patterns pats) c (values (forest ts) left)
goes_on-end theory n theta pats c i ts left goes le =
    let P : List RulePat → Type 0 =
    λ qs. EvaluateAll theory n theta (plain_patterns qs) left (values no_tree left) in
    let here : P (drop i pats) = subst P (sym (drop_all i pats le)) none_left in
    let Q : AllEvaluated → Type 0 = λ s. EvaluateAll theory n theta (plain_patterns pats) c s in
    subst Q (all_in_front-none ts left) (goes (values no_tree left) here)
