use Rattle.std.proofs.Common.{◌↔◌, Bool, sym, ◌∙◌}
use Rattle.std.specs.Prelude.{IsTrue}
use Rattle.std.proofs.lemmas.Bool.{false≢true}
use Rattle.ml_image.proofs.ImageLaws.{if_ok}
use Rattle.true_facts.proofs.FactLaws.{IsFact, by_value, by_hook, by_unequal, by_injection}
use Rattle.true_facts.proofs.InjectionLaws.{IsInjectiveFact}
use Rattle.true_facts.proofs.facts.is_true_fact.Goals as goal

pub returns-then-branch : goal.returns-then-branch
returns-then-branch c =
    by_value c.args.sig.now c.args.names.now c.args.pattern.now
    (c.in_ok-is_value_fact.ensures.0 c.if-branch.true)

pub returns-then-branch-2 : goal.returns-then-branch-2
returns-then-branch-2 c =
    by_hook c.args.sig.now c.args.names.now c.args.pattern.now
    (c.in_ok-is_hook_fact.ensures.0 c.if-branch-2.true)

pub returns-then-branch-3 : goal.returns-then-branch-3
returns-then-branch-3 c =
    by_unequal c.args.sig.now c.args.names.now c.args.pattern.now
    (c.in_ok-is_unequal_fact.ensures.0 c.if-branch-3.true)

pub returns : goal.returns
returns c =
    if_ok (λ (b : Bool).
    IsTrue b ↔ IsInjectiveFact c.args.sig.now c.args.names.now c.args.pattern.now)
    (λ (b : Bool). IsTrue b ↔ IsFact c.args.sig.now c.args.names.now c.args.pattern.now)
    c.is_injective_fact.result
    (λ b test. by_injection c.args.sig.now c.args.names.now c.args.pattern.now b
    (λ h. false≢true (sym c.if-branch.false ∙ c.in_ok-is_value_fact.ensures.1 h))
    (λ h. false≢true (sym c.if-branch-2.false ∙ c.in_ok-is_hook_fact.ensures.1 h))
    (λ h. false≢true (sym c.if-branch-3.false ∙ c.in_ok-is_unequal_fact.ensures.1 h)) test)
    c.is_injective_fact.ensures
