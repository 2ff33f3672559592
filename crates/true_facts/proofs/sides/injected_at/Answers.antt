use Rattle.std.proofs.Common.{Some, None, sym, ◌∙◌}
use Rattle.std.proofs.lemmas.Bool.{false≢true}
use Rattle.true_facts.specs.Sides.{IsHeadAt, head_found, plain_head}
use Rattle.true_facts.proofs.OnlyLaws.{only_at, unlike, alike}
use Rattle.true_facts.proofs.SideLaws.{variable_side, no_injected, other_sort, head_side}
use Rattle.true_facts.proofs.sides.injected_at.Goals as goal

pub returns-then-is_variable : goal.returns-then-is_variable
returns-then-is_variable c =
    variable_side c.args.sig.now c.args.names.now c.args.pattern.now c.args.first
    c.args.injection.from.0 c.args.injection.to.0 (c.below.ensures.0 c.if-not-below.false)
    (c.is_variable.ensures.0 c.if-is_variable.true)

pub returns-in_default : goal.returns-in_default
returns-in_default c =
    no_injected c.args.sig.now c.args.names.now c.args.pattern.now c.args.first
    c.args.injection.from.0 c.args.injection.to.0
    (λ e. false≢true (sym c.if-is_variable.false ∙ c.is_variable.ensures.1 e))
    (only_at (IsHeadAt c.args.sig.now c.args.names.now c.args.pattern.now c.args.first) head_found
    c.in_ok-below.field-0 None c.in_default.is c.in_ok-below.ensures)

pub returns-then-ne : goal.returns-then-ne
returns-then-ne c =
    other_sort c.args.sig.now c.args.names.now c.args.pattern.now c.args.first
    c.args.injection.from.0 c.args.injection.to.0
    (c.in-Some.below.sort.0, plain_head c.in-Some.below.head)
    (λ e. false≢true (sym c.if-is_variable.false ∙ c.is_variable.ensures.1 e))
    (only_at (IsHeadAt c.args.sig.now c.args.names.now c.args.pattern.now c.args.first) head_found
    c.in_ok-below.field-0 (Some c.in-Some.below) c.in-Some.is c.in_ok-below.ensures)
    (unlike c.in-Some.below.sort.0 c.args.injection.from.0 c.ne.result c.ne.ensures c.if-ne.true)

pub returns : goal.returns
returns c =
    head_side c.args.sig.now c.args.names.now c.args.pattern.now c.args.first
    c.args.injection.from.0 c.args.injection.to.0
    (c.in-Some.below.sort.0, plain_head c.in-Some.below.head)
    (c.below.ensures.0 c.if-not-below.false)
    (λ e. false≢true (sym c.if-is_variable.false ∙ c.is_variable.ensures.1 e))
    (only_at (IsHeadAt c.args.sig.now c.args.names.now c.args.pattern.now c.args.first) head_found
    c.in_ok-below.field-0 (Some c.in-Some.below) c.in-Some.is c.in_ok-below.ensures)
    (alike c.in-Some.below.sort.0 c.args.injection.from.0 c.ne.result c.ne.ensures c.if-ne.false)
