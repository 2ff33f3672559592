-- A trial skips rules that do not match.
use Rattle.std.proofs.Common.{◌≡◌, ℕ, zero, suc, ◌+◌, ◌<◌, List, [], ◌∷◌, length, drop, get_or}
use Rattle.std.proofs.Common.{slice_get, Some, refl, sym, ◌∙◌, ap, subst, arith}
use Rattle.std.proofs.lemmas.List.{drop_more}
use Rattle.std.proofs.lemmas.Option.{slice_get_read}
use Rattle.term_core.specs.Terms.{Tree, no_tree, more_trees}
use Rattle.term_core.specs.Patterns.{no_pattern, more_patterns}
use Rattle.rule_core.specs.Rules.{RewriteRule}
use Rattle.rule_core.specs.Theories.{RewriteTheory}
use Rattle.rule_core.specs.Matching.{NoneMatches}
use Rattle.rule_core.specs.FirstRule.{Trial, Tries, rule_unmatched}
use Rattle.rule_core.specs.TrialLaws.{UnmatchedAreSkipped}
use Rattle.rule_core.proofs.NamedMatches.{none_matches_named}

-- one rule that does not match
skip_one : (theory : RewriteTheory) (t : Tree) (i calls : ℕ) (r : Trial) (rule : RewriteRule)
    → i < length theory.rules → rule ≡ get_or theory.rules i rule
    → NoneMatches theory.sig rule.variables (more_patterns rule.left no_pattern)
    (more_trees t no_tree) → Tries theory t (i + 1) (drop (i + 1) theory.rules) calls r
    → Tries theory t i (drop i theory.rules) calls r
skip_one theory t i calls r rule within is none later =
    let front : drop i theory.rules ≡ rule ∷ drop (i + 1) theory.rules =
    drop_more theory.rules i rule within
    ∙ ap (λ (x : RewriteRule). x ∷ drop (i + 1) theory.rules) (sym is) in
    let P : List RewriteRule → Type 0 = λ rules. Tries theory t i rules calls r in
    subst P (sym front) (rule_unmatched (λ theta m. none_matches_named theory.sig rule.variables
    (more_patterns rule.left no_pattern) rule.names (more_trees t no_tree) theta none m) later)

first_of : (rules : List RewriteRule) (i : ℕ) → i < length rules
    → (rule : RewriteRule) × (rule ≡ get_or rules i rule)
first_of [] i within = absurd (omega arith)
first_of (x ∷ rules) zero within = (x, refl)
first_of (x ∷ rules) (suc i) within = first_of rules i (omega arith)

pub unmatched_are_skipped : UnmatchedAreSkipped
unmatched_are_skipped theory t from zero calls r room none later =
    let same : from + 0 ≡ from = omega arith in
    let P : ℕ → Type 0 = λ i. Tries theory t i (drop i theory.rules) calls r in subst P same later
unmatched_are_skipped theory t from (suc count) calls r room none later =
    let within : from < length theory.rules = omega arith in
    let rule = first_of theory.rules from within in
    let there : slice_get theory.rules from ≡ Some rule.0 =
    slice_get_read theory.rules (length theory.rules) from rule.0 refl within rule.1 in
    let same : from + suc count ≡ (from + 1) + count = omega arith in
    let P : ℕ → Type 0 = λ i. Tries theory t i (drop i theory.rules) calls r in
    let rest : Tries theory t (from + 1) (drop (from + 1) theory.rules) calls r =
    unmatched_are_skipped theory t (from + 1) count calls r (omega arith)
    (λ j other low high at. none j other (omega arith) (omega arith) at)
    (subst P same later) in
    skip_one theory t from calls r rule.0 within rule.1
    (none from rule.0 (omega arith) (omega arith) there) rest
