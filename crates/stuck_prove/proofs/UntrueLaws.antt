-- The condition of a rule that matches a term, with the terms of the substitution in place of its
-- variables: its sort, and that it is not true.
use Rattle.std.proofs.Common.{◌≡◌, ◌≤◌, ℕ, List, Option, Some, option_map, sym, ◌∙◌, ap}
use Rattle.std.proofs.Common.{subst, arith}
use Rattle.std.specs.Prelude.{true, IfSome}
use Rattle.ml_pat.specs.Patterns.{Pattern as LogicPattern}
use Rattle.ml_pat.specs.Patterns as logic
use Rattle.term_core.specs.Terms.{Tree, height, no_tree, more_trees, truth}
use Rattle.term_core.specs.Patterns.{Pattern, domain_value, no_pattern}
use Rattle.term_core.specs.Patterns.{more_patterns}
use Rattle.term_core.specs.RulePatterns.{plain_pattern}
use Rattle.term_core.specs.declared.ids.SortId.{SortId}
use Rattle.term_core.specs.declared.rule_patterns.RulePat.{RulePat}
use Rattle.rule_core.specs.FirstRule.{Matches}
use Rattle.rule_core.specs.ProgramView.{rewrite_rule, sorts_of}
use Rattle.rule_core.specs.Records.{Record, Records, result_of}
use Rattle.rule_core.specs.Rules.{RewriteRule}
use Rattle.rule_core.specs.Sorting.{HasSort, HasValue, IsTermOf, IsValueOf}
use Rattle.rule_core.specs.Theories.{RewriteTheory}
use Rattle.rule_core.specs.WellSorted.{BindsVariablesOf, IsCondition, IsRuleOf, IsWellSorted}
use Rattle.rule_core.specs.declared.rules.Program.{Program}
use Rattle.rule_core.specs.declared.rules.Rule.{Rule}
use Rattle.rule_core.specs.declared.rules.VarInfo.{VarInfo}
use Rattle.rule_core.specs.declared.signature.Signature.{Signature}
use Rattle.rule_core.specs.declared.signature.SortKind.{SortKind}
use Rattle.rule_core.proofs.Determined.{record_tells_value, values_are_sorted}
use Rattle.rule_core.proofs.EvaluationAnswers.{serves_match}
use Rattle.ml_image.specs.Images.{both, image_of}
use Rattle.ml_image.specs.Premises.{is_true, sort_of}
use Rattle.ml_image.specs.Sentences.{not, sentence_image, term}
use Rattle.ml_image.proofs.ImageLaws.{some_same}
use Rattle.prove_term.specs.Contexts.{Context, HasGrown}
use Rattle.prove_term.specs.Filling.{filled}
use Rattle.prove_term.specs.Values.{SaysValue}
use Rattle.prove_term.proofs.ContextLaws.{image_grown}
use Rattle.prove_equation.proofs.FillingLaws.{sort_of_sorted}
use Rattle.refute.specs.Refutations.{SaysNotTrue}

-- ---- the sort of the condition

-- the condition has a sort of truth values
pub record IsTruth (sig : Signature) (rule : RewriteRule) (q : Pattern) (s : ℕ) : Type 0 where
  pub is_sort : sort_of sig rule.variables q ≡ Some s
  pub sorted : HasSort sig rule.variables q s
  pub truths : HasValue sig s (truth true)

condition_of : (sig : Signature) (sort : ℕ) (rule : RewriteRule) (q : Pattern)
    → IsRuleOf sig sort rule → rule.condition ≡ Some q
    → IsCondition sig rule.variables (more_patterns rule.left no_pattern) rule.names q
condition_of sig sort rule q is there =
    subst (λ (o : Option Pattern). IfSome o
    (IsCondition sig rule.variables (more_patterns rule.left no_pattern) rule.names)) there
    is.condition

pub truth_sort : (sig : Signature) (sort : ℕ) (rule : RewriteRule) (q : Pattern)
    → IsRuleOf sig sort rule → rule.condition ≡ Some q → (s : ℕ) × IsTruth sig rule q s
truth_sort sig sort rule q is there =
    let has : IsCondition sig rule.variables (more_patterns rule.left no_pattern) rule.names q =
    condition_of sig sort rule q is there in (
      has.0,
      record {
        is_sort = sort_of_sorted sig rule.variables q has.0 has.5;
        sorted = has.5;
        truths = (
          has.1,
          has.2,
          has.3,
          subst (λ (k : SortKind). IsValueOf k (truth true)) (sym has.4) tt,
        );
      },
    )

-- the substitution gives each variable of the condition a term
pub condition_served : (theory : RewriteTheory) (sort : ℕ) (rule : RewriteRule) (t : Tree)
    (theta : List (Option Tree)) (q : Pattern) → IsRuleOf theory.sig sort rule
    → Matches theory rule t theta → height t ≤ 500 → rule.condition ≡ Some q
    → BindsVariablesOf theory.sig rule.variables theta q
condition_served theory sort rule t theta q is match low there =
    serves_match theory.sig rule.variables (more_patterns rule.left no_pattern) rule.names
    (more_trees t no_tree) theta q is.names match (omega (arith, low))
    (condition_of theory.sig sort rule q is there).6

-- the sort that the code reads
pub sort_read : (program own : Program) (rule : Rule) (given : List VarInfo) (condition : RulePat)
    (o : Option SortId) (sort : SortId) → own ≡ program → given ≡ rule.vars.items
    → option_map (λ (x : SortId). x.0) o ≡ sort_of own.sig (sorts_of given) (plain_pattern condition)
    → o ≡ Some sort
    → sort_of program.sig (rewrite_rule rule).variables (plain_pattern condition) ≡ Some sort.0
sort_read program own rule given condition o sort same is found some =
    ap (λ (x : Program). sort_of x.sig (sorts_of rule.vars.items) (plain_pattern condition))
    (sym same)
    ∙ ap (λ (vs : List VarInfo). sort_of own.sig (sorts_of vs) (plain_pattern condition)) (sym is)
    ∙ sym found ∙ ap (option_map (λ (x : SortId). x.0)) some

pub truth_read : (sig : Signature) (sort : ℕ) (rule : RewriteRule) (q : Pattern) (s : ℕ)
    → IsRuleOf sig sort rule → rule.condition ≡ Some q → sort_of sig rule.variables q ≡ Some s
    → IsTruth sig rule q s
truth_read sig sort rule q s is there at =
    let own : (r : ℕ) × IsTruth sig rule q r = truth_sort sig sort rule q is there in
    subst (IsTruth sig rule q) (some_same own.0 s (sym own.1.is_sort ∙ at)) own.1

-- ---- its value

pub value_sorted : (theory : RewriteTheory) (rule : RewriteRule) (theta : List (Option Tree))
    (q : Pattern) (r : Record) (s : ℕ) → IsWellSorted theory → IsTruth theory.sig rule q s
    → BindsVariablesOf theory.sig rule.variables theta q → Records theory theta q r
    → IsTermOf theory.sig (result_of r) s
value_sorted theory rule theta q r s good is serves records =
    let told = record_tells_value theory theta q r records in
    (values_are_sorted theory told.0 told.1 told.2 rule.variables theta q s (result_of r) good
    is.sorted serves told.3).0

-- ---- it is not true

denied : (old cx : Context) (theta : List (Option Tree)) (q : Pattern) (s : ℕ) (u : Tree)
    (value t : LogicPattern) → HasGrown old cx → SaysValue old theta q u value
    → SaysNotTrue cx s value t
    → sentence_image cx.program.sig cx.names (not (is_true (filled theta q) s)) ≡ Some t
denied old cx theta q s u value t g v (p, x, d, equation, image, untrue) =
    let same : v.left ≡ p = left_same v.left v.right p x (sym v.says ∙ equation) in
    ap (λ (o : Option LogicPattern). option_map logic.not (both logic.equal o
    (image_of cx.program.sig cx.names (domain_value s (truth true)))))
    (image_grown old cx (term (filled theta q)) v.left g v.left_image)
    ∙ ap (λ (o : Option LogicPattern). option_map logic.not (both logic.equal (Some v.left) o)) image
    ∙ ap (λ (y : LogicPattern). Some (logic.not (logic.equal y d))) same
    ∙ ap (λ (y : LogicPattern). Some y) (sym untrue)
  where
    left_same : (a b c d : LogicPattern) → logic.equal a b ≡ logic.equal c d → a ≡ c
    left_same a b c d e = cc

-- the same for the condition and the sort of the contract
pub says_untrue : (first old cx : Context) (rule : RewriteRule) (theta : List (Option Tree))
    (p q : Pattern) (s r : ℕ) (u : Tree) (value t : LogicPattern) → HasGrown first old
    → HasGrown old cx → rule.condition ≡ Some p
    → sort_of first.program.sig rule.variables p ≡ Some s → SaysValue old theta p u value
    → SaysNotTrue cx s value t → rule.condition ≡ Some q
    → sort_of cx.program.sig rule.variables q ≡ Some r
    → sentence_image cx.program.sig cx.names (not (is_true (filled theta q) r)) ≡ Some t
says_untrue first old cx rule theta p q s r u value t before g own sort v untrue there at =
    let same : p ≡ q = some_same p q (sym own ∙ there) in
    let program : cx.program ≡ first.program = g.program ∙ before.program in
    let sorts : s ≡ r =
    some_same s r
    (sym sort ∙ ap (λ (x : Program). sort_of x.sig rule.variables p) (sym program)
    ∙ ap (sort_of cx.program.sig rule.variables) same ∙ at) in
    subst (λ (x : Pattern). sentence_image cx.program.sig cx.names (not (is_true (filled theta x) r))
    ≡ Some t) same
    (subst (λ (n : ℕ). sentence_image cx.program.sig cx.names (not (is_true (filled theta p) n))
    ≡ Some t) sorts (denied old cx theta p s u value t g v untrue))
