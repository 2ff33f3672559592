use Rattle.std.proofs.Common.{◌≡◌, ◌<◌, ◌+◌, ◌-◌, ℕ, List, [], ◌∷◌, ◌++◌, length, sym, ◌∙◌, ap, subst}
use Rattle.std.proofs.Common.{arith}
use Rattle.std.specs.Prelude.{All, Contains, option_map}
use Rattle.term_core.specs.RulePatterns.{plain_pattern, sort_numbers}
use Rattle.rule_core.specs.ProgramView.{sorts_of}
use Rattle.rule_core.specs.Sorting.{AreSorts}
use Rattle.rule_core.specs.declared.rules.Program.{Program}
use Rattle.ml_image.specs.Sentences.{sentence_image}
use Rattle.ml_image.proofs.ListedLaws.{length-numbers}
use Rattle.prove_term.specs.Contexts.{HasGrown}
use Rattle.prove_term.proofs.ContextLaws.{grown_twice}
use Rattle.prove_open.specs.Givens.{IsGiven, all_sorted}
use Rattle.stuck_prove.specs.Settings.{down_from}
use Rattle.stuck_prove.proofs.SettingLaws.{HasCondition, are_sorts, condition_grown, down_all, down_low}
use Rattle.stuck_prove.proofs.SettingLaws.{down_more, down_there, down_to}
use Rattle.stuck_prove.proofs.settings.setting_of.Goals.{After-deref-4}
use Rattle.stuck_prove.proofs.settings.setting_of.Goals as goal

pub loop-x-init : goal.loop-x-init
loop-x-init c =
    let none : c.in_ok-count.count - c.in_ok-count.count ≡ 0 = omega arith in
    c.in_ok-variables.ensures.items
    ∙ ap (λ (n : ℕ). down_to n c.in_ok-count.count) (sym none)

pub loop-x-preserved : goal.loop-x-preserved
loop-x-preserved c =
    let further : c.in_ok-count.count - c.loop-x.x + 1 ≡ c.in_ok-count.count - (c.loop-x.x - 1) =
    omega (arith, c.loop-x-test.true, c.loop-x.auto.x) in
    let next : c.loop-x.x ≡ c.loop-x.x - 1 + 1 = omega (arith, c.loop-x-test.true) in
    c.in_ok-push.ensures.items
    ∙ ap (λ (xs : List ℕ). xs ++ (c.loop-x.x - 1) ∷ []) (c.loop-x.invariant
    ∙ ap (λ (n : ℕ). down_to (c.in_ok-count.count - c.loop-x.x) n) next)
    ∙ sym (down_more (c.in_ok-count.count - c.loop-x.x) (c.loop-x.x - 1))
    ∙ ap (λ (n : ℕ). down_to n (c.loop-x.x - 1)) further

-- the sorts, as they were read
sorts_said : (c : After-deref-4)
    → sort_numbers c.in_ok-sorts.sorts.items ≡ sorts_of c.args.rule.now.vars.items
sorts_said c = c.in_ok-sorts.ensures ∙ ap sorts_of c.deref.ensures.value

-- there are as many variables
many : (c : After-deref-4) → c.in_ok-count.count ≡ length (sorts_of c.args.rule.now.vars.items)
many c =
    c.in_ok-count.ensures
    ∙ ap length c.deref-2.ensures.value
    ∙ sym (length-numbers c.in_ok-sorts.sorts.items)
    ∙ ap length (sorts_said c)

-- all of them
all : (c : After-deref-4)
    → c.deref-4.result.now ≡ down_from (length (sorts_of c.args.rule.now.vars.items))
all c =
    let none : c.loop-x.x ≡ 0 = omega (arith, c.loop-x-test.false) in
    let every : c.in_ok-count.count - c.loop-x.x ≡ c.in_ok-count.count = omega (arith, none) in
    c.deref-4.ensures.value ∙ c.loop-x.invariant
    ∙ ap (λ (n : ℕ). down_to n c.loop-x.x) every
    ∙ ap (λ (n : ℕ). down_to c.in_ok-count.count n) none
    ∙ down_all c.in_ok-count.count
    ∙ ap down_from (many c)

sorts_are : (c : After-deref-4)
    → AreSorts c.args.cx.now.program.sig (sorts_of c.args.rule.now.vars.items)
sorts_are c =
    are_sorts c.args.cx.now.program.sig (sorts_of c.args.rule.now.vars.items)
    c.requires.rule.1.variables

pub of-requires-clause-sorts : goal.of-requires-clause-sorts
of-requires-clause-sorts c =
    subst (AreSorts c.condition_image.new.cx.program.sig)
    (sym (ap sort_numbers c.deref-3.ensures.value ∙ sorts_said c))
    (subst (λ (program : Program). AreSorts program.sig (sorts_of c.args.rule.now.vars.items))
    (sym c.in_ok-condition.ensures.grown.program) (sorts_are c))

pub of-requires-clause-variables : goal.of-requires-clause-variables
of-requires-clause-variables c =
    subst (λ (xs : List ℕ). All (λ x. x < length c.deref-3.result.now) xs) (sym (all c))
    (down_low (length (sorts_of c.args.rule.now.vars.items)) (length c.deref-3.result.now)
    (omega (
      arith,
      ap length c.deref-3.ensures.value,
      length-numbers c.in_ok-sorts.sorts.items,
      ap length (sorts_said c),
    )))

pub returns-clause-setting : goal.returns-clause-setting
returns-clause-setting c =
    let at : After-deref-4 = (goal.at.returns-clause-setting c).After-deref-4 in
    let condition : HasCondition c.of.new.cx (sorts_of c.args.rule.now.vars.items)
    (option_map plain_pattern c.args.rule.now.cond) c.in_ok-condition.condition =
    condition_grown c.condition_image.new.cx c.of.new.cx (sorts_of c.args.rule.now.vars.items)
    (option_map plain_pattern c.args.rule.now.cond) c.in_ok-condition.condition
    c.in_ok-given.ensures.grown c.in_ok-condition.ensures.image in
    let grown : HasGrown c.args.cx.now c.of.new.cx =
    grown_twice c.args.cx.now c.condition_image.new.cx c.of.new.cx
    c.in_ok-condition.ensures.grown c.in_ok-given.ensures.grown in
    let sorts : sort_numbers c.deref-3.result.now ≡ sorts_of c.args.rule.now.vars.items =
    ap sort_numbers c.deref-3.ensures.value ∙ sorts_said at in
    record {
      sorts = sorts_said at;
      are_sorts =
          subst (λ (program : Program). AreSorts program.sig (sorts_of c.args.rule.now.vars.items))
          (sym grown.program) (sorts_are at);
      given =
          subst (λ (ss : List ℕ). IsGiven c.of.new.cx ss c.in_ok-given.given) sorts
          c.in_ok-given.ensures.given;
      hypothesis =
          ap (λ (xs : List ℕ). sentence_image c.of.new.cx.program.sig c.of.new.cx.names
          (all_sorted (sorts_of c.args.rule.now.vars.items) xs)) (sym (all at))
          ∙ ap (λ (ss : List ℕ). sentence_image c.of.new.cx.program.sig c.of.new.cx.names
          (all_sorted ss c.deref-4.result.now)) (sym sorts)
          ∙ c.in_ok-given.ensures.hypothesis;
      facts =
          λ x low. c.in_ok-given.ensures.facts x
          (subst (λ (xs : List ℕ). Contains xs x) (sym (all at))
          (down_there (length (sorts_of c.args.rule.now.vars.items)) x low));
      sentence = condition.0;
      is_sentence = condition.1;
      condition = condition.2;
    }
