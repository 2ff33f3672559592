use Rattle.std.proofs.Common.{◌≡◌, ℕ, List, Some, sym, ◌∙◌, ap, subst}
use Rattle.ml_pat.specs.Patterns.{Pattern, imp}
use Rattle.term_core.specs.Patterns.{more_patterns, no_pattern}
use Rattle.term_core.specs.Terms.{more_trees, no_tree}
use Rattle.term_core.specs.RulePatterns.{plain_pattern, sort_numbers}
use Rattle.rule_core.specs.Matching.{NoneMatches}
use Rattle.rule_core.specs.NamedParts.{Name}
use Rattle.rule_core.specs.ProgramView.{names_of, rewrite_rule, sorts_of}
use Rattle.rule_core.specs.Sorting.{AreSorts, HasSort}
use Rattle.rule_core.specs.WellSorted.{HaveNames, IsRuleOf}
use Rattle.rule_core.specs.declared.rules.Program.{Program}
use Rattle.ml_image.specs.NamedSides.{of_child}
use Rattle.ml_image.specs.Sentences.{sentence_image}
use Rattle.prove_term.proofs.ResultLaws.{if_ok_two}
use Rattle.prove_open.specs.Givens.{IsGiven, all_sorted}
use Rattle.refute.specs.NamedRefutations.{mismatched_named, variables_as_written}
use Rattle.refute.specs.Refutations.{SaysSentence}
use Rattle.refute_body.proofs.Shapes.{imp_left}
use Rattle.stuck_prove.specs.Settings.{IsSettingOf}
use Rattle.stuck_prove.proofs.RuleLaws.{IsMismatch, denies_mismatched, mismatch_is, setting_grown}
use Rattle.stuck_prove.proofs.RuleLaws.{written_given}
use Rattle.stuck_prove.proofs.rules.by_mismatch.Goals.{After-deref-2, In_ok-none}
use Rattle.stuck_prove.proofs.rules.by_mismatch.Goals as goal

-- the sorts and the names, as they are read
sorts_read : (c : After-deref-2)
    → sorts_of c.args.rule.now.vars.items ≡ sort_numbers c.deref.result.now
sorts_read c = sym c.requires.setting.sorts ∙ ap sort_numbers (sym c.deref.ensures.value)

names_read : (c : After-deref-2)
    → names_of c.args.rule.now.named.items ≡ names_of c.deref-2.result.now
names_read c = ap names_of (sym c.deref-2.ensures.value)

pub mismatch_named-requires-clause-variables : goal.mismatch_named-requires-clause-variables
mismatch_named-requires-clause-variables c =
    subst (AreSorts c.args.cx.now.program.sig) (sorts_read c) c.requires.setting.are_sorts

pub mismatch_named-requires-clause-sorted : goal.mismatch_named-requires-clause-sorted
mismatch_named-requires-clause-sorted c = (
  c.requires.sorted.0,
  subst (λ (ss : List ℕ). HasSort c.args.cx.now.program.sig ss
      (plain_pattern c.args.rule.now.left) c.requires.sorted.0) (sorts_read c)
      c.requires.sorted.1.left,
  c.requires.sorted.2,
)

pub mismatch_named-requires-clause-no_call : goal.mismatch_named-requires-clause-no_call
mismatch_named-requires-clause-no_call c = c.requires.sorted.1.no_call

pub mismatch_named-requires-clause-names : goal.mismatch_named-requires-clause-names
mismatch_named-requires-clause-names c =
    subst (HaveNames c.args.cx.now.program.sig (sort_numbers c.deref.result.now)
    (more_patterns (plain_pattern c.args.rule.now.left) no_pattern)) (names_read c)
    (subst (λ (ss : List ℕ). HaveNames c.args.cx.now.program.sig ss
    (more_patterns (plain_pattern c.args.rule.now.left) no_pattern)
    (names_of c.args.rule.now.named.items)) (sorts_read c) c.requires.sorted.1.names)

pub mismatch_named-requires-clause-mismatch : goal.mismatch_named-requires-clause-mismatch
mismatch_named-requires-clause-mismatch c =
    subst (λ (ss : List ℕ). NoneMatches c.args.cx.now.program.sig ss
    (more_patterns (plain_pattern c.args.rule.now.left) no_pattern)
    (more_trees c.args.config.now no_tree)) (sorts_read c) c.requires.none

-- what was proved of the left side
none : (c : In_ok-none) → IsMismatch c.mismatch_named.new.cx
    (sorts_of c.args.rule.now.vars.items) (of_child 0 (names_of c.args.rule.now.named.items))
    (plain_pattern c.args.rule.now.left) c.args.config.now c.in_ok-none.none.conclusion
none c =
    mismatch_is c.mismatch_named.new.cx (sorts_of c.args.rule.now.vars.items)
    (of_child 0 (names_of c.args.rule.now.named.items)) (plain_pattern c.args.rule.now.left)
    c.args.config.now c.in_ok-none.none.conclusion
    (subst (λ (ns : List Name). SaysSentence c.mismatch_named.new.cx
    (mismatched_named (sorts_of c.args.rule.now.vars.items) (of_child 0 ns)
    (plain_pattern c.args.rule.now.left) c.args.config.now) c.in_ok-none.none.conclusion)
    (ap names_of c.deref-2.ensures.value)
    (subst (λ (ss : List ℕ). SaysSentence c.mismatch_named.new.cx
    (mismatched_named ss (of_child 0 (names_of c.deref-2.result.now))
    (plain_pattern c.args.rule.now.left) c.args.config.now) c.in_ok-none.none.conclusion)
    (ap sort_numbers c.deref.ensures.value ∙ c.requires.setting.sorts)
    c.in_ok-none.ensures.says))

-- the setting, in the context as it has grown
setting : (c : In_ok-none) → IsSettingOf c.mismatch_named.new.cx (rewrite_rule c.args.rule.now)
    c.args.setting.now
setting c =
    setting_grown c.args.cx.now c.mismatch_named.new.cx (rewrite_rule c.args.rule.now)
    c.args.setting.now c.in_ok-none.ensures.grown c.requires.setting

pub weaker-requires-clause-given : goal.weaker-requires-clause-given
weaker-requires-clause-given c =
    subst (λ (ss : List ℕ). IsGiven c.mismatch_named.new.cx ss c.args.setting.now.given)
    (sym c.requires.setting.sorts ∙ ap sort_numbers (sym c.deref-3.ensures.value))
    (setting (goal.at.weaker-requires-clause-given c).In_ok-none).given

pub weaker-requires-clause-hypothesis : goal.weaker-requires-clause-hypothesis
weaker-requires-clause-hypothesis c =
    let at : In_ok-none = (goal.at.weaker-requires-clause-hypothesis c).In_ok-none in
    let m = none at in
    let read : m.h ≡ c.sides.result.0.now =
    imp_left m.h _ c.sides.result.0.now c.sides.result.1.now
    (sym m.says ∙ sym c.conclusion.ensures ∙ c.sides.ensures) in (
      variables_as_written (of_child 0 (names_of c.args.rule.now.named.items))
          (plain_pattern c.args.rule.now.left),
      ap (λ (ss : List ℕ). sentence_image c.mismatch_named.new.cx.program.sig
          c.mismatch_named.new.cx.names (all_sorted ss
          (variables_as_written (of_child 0 (names_of c.args.rule.now.named.items))
          (plain_pattern c.args.rule.now.left))))
          (ap sort_numbers c.deref-3.ensures.value ∙ c.requires.setting.sorts)
          ∙ m.is_h ∙ ap (λ (p : Pattern). Some p) read,
      written_given c.mismatch_named.new.cx (rewrite_rule c.args.rule.now) c.args.setting.now
          c.requires.sorted.0
          (subst (λ (program : Program). IsRuleOf program.sig c.requires.sorted.0
          (rewrite_rule c.args.rule.now)) (sym c.in_ok-none.ensures.grown.program)
          c.requires.sorted.1) (setting at),
    )

pub none_in-requires : goal.none_in-requires
none_in-requires c =
    let at : In_ok-none = (goal.at.none_in-requires c).In_ok-none in
    let m = none at in
    let read : m.h ≡ c.sides.result.0.now =
    imp_left m.h _ c.sides.result.0.now c.sides.result.1.now
    (sym m.says ∙ sym c.conclusion.ensures ∙ c.sides.ensures) in
    record {
      h = m.h;
      q = m.right;
      t = m.left;
      is_none = m.says;
      is_weaker =
          c.in_ok-weaker.ensures.says ∙ ap (imp c.args.setting.now.given.hypothesis) (sym read);
      predicate = c.requires.setting.given.predicate;
    }

pub returns-clause-denied : goal.returns-clause-denied
returns-clause-denied c =
    let at : In_ok-none = (goal.at.returns-clause-denied c).In_ok-none in
    if_ok_two c.none_in.result
    (λ t says stays. denies_mismatched c.mismatch_named.new.cx (rewrite_rule c.args.rule.now)
    c.args.config.now c.args.setting.now c.in_ok-none.none c.in_ok-weaker.weaker t (none at)
    (setting at) says stays c.in_ok-none.ensures.stays c.in_ok-weaker.ensures.stays)
    c.none_in.ensures.conclusion c.none_in.ensures.stays
