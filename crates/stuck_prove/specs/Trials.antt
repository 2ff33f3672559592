-- Rules that are tried and not used.
use Rattle.std.specs.Prelude.{◌≡◌, ℕ, List, Option, Some, None}
use Rattle.term_core.specs.Terms.{Tree, no_tree, more_trees}
use Rattle.term_core.specs.Patterns.{Pattern, no_pattern, more_patterns}
use Rattle.rule_core.specs.BoundVariables.{HasBoundVariables}
use Rattle.rule_core.specs.AcSymbols.{IsAcFree}
use Rattle.rule_core.specs.Evaluation.{IsTrueValue, fails}
use Rattle.rule_core.specs.FirstRule.{IsUnmatched, Matches, Meets}
use Rattle.rule_core.specs.Matching.{NoneMatches}
use Rattle.rule_core.specs.ProgramView.{theory_of}
use Rattle.rule_core.specs.Records.{Record, Records, result_of}
use Rattle.rule_core.specs.Rules.{RewriteRule}
use Rattle.rule_core.specs.Sorting.{IsTermOf}
use Rattle.rule_core.specs.Theories.{RewriteTheory}
use Rattle.rule_core.specs.WellSorted.{IsRuleOf, IsWellSorted}
use Rattle.rule_core.specs.declared.rules.Program.{Program}

-- The rule is tried at the term with c calls left and is not used: it does not match, or its
-- condition fails. Then d calls are left.
pub data IsPassed (theory : RewriteTheory) (rule : RewriteRule) (t : Tree) (c : ℕ) : ℕ → Type 0
  where
    unmatched : IsUnmatched theory rule t → IsPassed theory rule t c c
    untrue : {d : ℕ} {theta : List (Option Tree)} → Matches theory rule t theta
        → Meets theory theta rule.condition c (fails d) → IsPassed theory rule t c d

-- the substitution that matches the rule with the term, with its names, or none does
abbrev pub FindsNamed : RewriteTheory → RewriteRule → Tree → Option (List (Option Tree)) → Type 0
FindsNamed theory rule t (Some theta) = Matches theory rule t theta
FindsNamed theory rule t None =
    NoneMatches theory.sig rule.variables (more_patterns rule.left no_pattern)
    (more_trees t no_tree)

-- The program is well sorted and binds its variables, and no constructor is AC.
pub record IsShowable (program : Program) : Type 0 where
  pub well_sorted : IsWellSorted (theory_of program)
  pub bound : HasBoundVariables program
  pub no_ac : IsAcFree program.sig

-- the rule and the term have one sort
abbrev pub AreOfOneSort : Program → RewriteRule → Tree → Type 0
AreOfOneSort program rule t =
    (sort : ℕ) × IsRuleOf program.sig sort rule × IsTermOf program.sig t sort

-- the record follows the evaluation of the rule's condition to a value that is not `true`
pub record IsUntrue (theory : RewriteTheory) (rule : RewriteRule) (theta : List (Option Tree))
    (r : Record) : Type 0 where
  pub condition : Pattern
  pub is_condition : rule.condition ≡ Some condition
  pub records : Records theory theta condition r
  pub untrue : IsTrueValue (result_of r) → ⊥
