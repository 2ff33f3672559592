use Rattle.std.proofs.Common.{◌≡◌, ℕ, Some, None, List, Option, option_map, length, ap, sym, ◌∙◌}
use Rattle.std.proofs.Common.{subst, arith}
use Rattle.std.specs.Prelude.{true, IfSome}
use Rattle.term_core.specs.Terms.{truth}
use Rattle.term_core.specs.Patterns.{more_patterns, no_pattern}
use Rattle.term_core.specs.RulePatterns.{plain_pattern}
use Rattle.term_core.specs.declared.ids.SortId.{SortId}
use Rattle.term_core.specs.declared.rule_patterns.RulePat.{RulePat}
use Rattle.term_core.proofs.PlainPatterns.{plain-Value}
use Rattle.rule_core.specs.ProgramView.{names_of, sorts_of}
use Rattle.rule_core.specs.Sorting.{HasValue}
use Rattle.rule_core.specs.WellSorted.{IsCondition}
use Rattle.rule_core.specs.declared.rules.Program.{Program}
use Rattle.rule_core.specs.declared.rules.VarInfo.{VarInfo}
use Rattle.ml_image.specs.HasImages.{HasImage, IsTruth}
use Rattle.ml_image.specs.Images.{image_of}
use Rattle.ml_image.specs.Premises.{sort_of}
use Rattle.ml_image.proofs.ConditionLaws.{HasImage-more, length-sorts_of}
use Rattle.prove_term.proofs.ContextLaws.{grown_twice}
use Rattle.prove_term.proofs.ResultLaws.{if_ok}
use Rattle.stuck_prove.proofs.SettingLaws.{condition_said, condition_truth, no_condition, same_sort}
use Rattle.stuck_prove.proofs.settings.condition_image.Goals.{In-Some, After-sort_of}
use Rattle.stuck_prove.proofs.settings.condition_image.Goals as goal

-- the condition is well sorted
met : (c : In-Some) → IsTruth c.args.cx.now.program.sig (sorts_of c.args.rule.now.vars.items)
    (plain_pattern c.in-Some.condition)
met c =
    condition_truth c.args.cx.now.program.sig (sorts_of c.args.rule.now.vars.items)
    (more_patterns (plain_pattern c.args.rule.now.left) no_pattern)
    (names_of c.args.rule.now.named.items) (plain_pattern c.in-Some.condition)
    c.condition_laws.ensures.pattern c.requires.showable.well_sorted.signature
    (subst (λ (o : Option RulePat). IfSome (option_map plain_pattern o)
    (IsCondition c.args.cx.now.program.sig (sorts_of c.args.rule.now.vars.items)
    (more_patterns (plain_pattern c.args.rule.now.left) no_pattern)
    (names_of c.args.rule.now.named.items))) c.in-Some.is c.requires.rule.1.condition)

none_found : (s : ℕ) → None ≡ Some s → ⊥
none_found s e = cc

-- its sort was found
found : (c : After-sort_of)
    → option_map (λ (s : SortId). s.0) c.sort_of.result
    ≡ sort_of c.args.cx.now.program.sig (sorts_of c.args.rule.now.vars.items)
    (plain_pattern c.in-Some.condition)
found c =
    c.sort_of.ensures
    ∙ ap (λ (vs : List VarInfo). sort_of c.program.result.now.sig (sorts_of vs)
    (plain_pattern c.in-Some.condition)) c.deref.ensures.value
    ∙ ap (λ (program : Program). sort_of program.sig (sorts_of c.args.rule.now.vars.items)
    (plain_pattern c.in-Some.condition)) c.program.ensures

pub unreachable-requires : goal.unreachable-requires
unreachable-requires c =
    let sorted = (met (goal.at.unreachable-requires c).In-Some).sorted in
    let none : c.sort_of.result ≡ None = c.in_default-sort_of.is in
    none_found (met (goal.at.unreachable-requires c).In-Some).sort
    (sym (ap (option_map (λ (s : SortId). s.0)) none)
    ∙ found (goal.at.unreachable-requires c).After-sort_of ∙ sorted)

pub image-requires : goal.image-requires
image-requires c =
    HasImage-more c.args.cx.now.program.sig (length (sorts_of c.args.rule.now.vars.items))
    4294967296 (plain_pattern c.in-Some.condition)
    (omega (
      arith,
      length-sorts_of c.args.rule.now.vars.items,
      c.if-len.false,
      c.len.ensures,
    )) (met (goal.at.image-requires c).In-Some).image

pub image-requires-2 : goal.image-requires-2
image-requires-2 c =
    let sort : sort_of c.args.cx.now.program.sig (sorts_of c.args.rule.now.vars.items)
    (plain_pattern c.in-Some.condition) ≡ Some c.in-Some-sort_of.sort.0 =
    sym (found (goal.at.image-requires-2 c).After-sort_of)
    ∙ ap (option_map (λ (s : SortId). s.0)) c.in-Some-sort_of.is in
    subst (HasImage c.image.new.self.program.sig 4294967296)
    (sym (plain-Value c.in-Some-sort_of.sort _))
    (subst (λ (program : Program). HasValue program.sig c.in-Some-sort_of.sort.0 (truth true))
    (sym c.in_ok-held.ensures.grown.program)
    (same_sort c.args.cx.now.program.sig (sorts_of c.args.rule.now.vars.items)
    (plain_pattern c.in-Some.condition) c.in-Some-sort_of.sort.0
    (met (goal.at.image-requires-2 c).In-Some) sort))

pub returns-in_default-clause-image : goal.returns-in_default-clause-image
returns-in_default-clause-image c =
    if_ok c.top.result
    (λ p is. no_condition c.args.cx.now (sorts_of c.args.rule.now.vars.items)
    (option_map plain_pattern c.args.rule.now.cond) p
    (ap (option_map plain_pattern) c.in_default.is) is) c.top.ensures

pub returns-clause-image : goal.returns-clause-image
returns-clause-image c =
    if_ok c.equal.result
    (λ p is. condition_said c.args.cx.now c.image.new.self c.image-2.new.self
    (sorts_of c.args.rule.now.vars.items) (option_map plain_pattern c.args.rule.now.cond)
    (plain_pattern c.in-Some.condition) c.in-Some-sort_of.sort.0 c.in_ok-held.held
    c.in_ok-truth.truth p
    (grown_twice c.args.cx.now c.image.new.self c.image-2.new.self c.in_ok-held.ensures.grown
    c.in_ok-truth.ensures.grown) c.in_ok-truth.ensures.grown
    (ap (option_map plain_pattern) c.in-Some.is)
    (sym (found (goal.at.returns-clause-image c).After-sort_of)
    ∙ ap (option_map (λ (s : SortId). s.0)) c.in-Some-sort_of.is) c.in_ok-held.ensures.image
    (ap (image_of c.image-2.new.self.program.sig c.image-2.new.self.names)
    (sym (plain-Value c.in-Some-sort_of.sort _)) ∙ c.in_ok-truth.ensures.image) is)
    c.equal.ensures
