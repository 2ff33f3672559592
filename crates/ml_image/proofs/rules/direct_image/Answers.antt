use Rattle.std.proofs.Common.{◌≡◌, ◌≤◌, ◌+◌, List, length, map, option_map, ap, ◌∙◌, subst}
use Rattle.std.proofs.Common.{arith}
use Rattle.ml_pat.specs.Patterns.{Pattern}
use Rattle.ml_pat.specs.Patterns as logic
use Rattle.term_core.specs.RulePatterns.{plain_pattern, sort_numbers}
use Rattle.term_core.specs.PatternLists.{plain_patterns}
use Rattle.rule_core.specs.ProgramView.{sorts_of, names_of, function_equation}
use Rattle.rule_core.specs.declared.rules.VarInfo.{VarInfo}
use Rattle.ml_image.specs.Counted.{IsConditionImage}
use Rattle.ml_image.proofs.ImageLaws.{gained_twice}
use Rattle.ml_image.proofs.ConditionLaws.{HasImage-more, HaveImages-more}
use Rattle.ml_image.proofs.NamedLaws.{below_more}
use Rattle.ml_image.proofs.SentenceLaws.{direct_closes, ordinary}
use Rattle.ml_image.proofs.rules.direct_image.Goals as goal

pub call_image-requires-clause-arguments : goal.call_image-requires-clause-arguments
call_image-requires-clause-arguments c =
    let few : length (sorts_of c.args.equation.now.vars.items) ≤ 4294967296 =
    omega (arith, c.requires.equation.few) in
    HaveImages-more c.args.sig.now (length (sorts_of c.args.equation.now.vars.items)) 4294967296
    (plain_patterns c.args.equation.now.args.items) few c.requires.equation.arguments

pub call_image-requires-clause-names : goal.call_image-requires-clause-names
call_image-requires-clause-names c =
    let few : length (sorts_of c.args.equation.now.vars.items) ≤ 4294967296 =
    omega (arith, c.requires.equation.few) in
    below_more (length (sorts_of c.args.equation.now.vars.items)) 4294967296
    (names_of c.args.equation.now.named.items) few c.requires.equation.names

pub term_image-requires : goal.term_image-requires
term_image-requires c =
    let few : length (sorts_of c.args.equation.now.vars.items) ≤ 4294967296 =
    omega (arith, c.requires.equation.few) in
    HasImage-more c.args.sig.now (length (sorts_of c.args.equation.now.vars.items)) 4294967296
    (plain_pattern c.args.equation.now.right) few c.requires.equation.right

pub returns-in_err-body-clause-names : goal.returns-in_err-body-clause-names
returns-in_err-body-clause-names c =
    gained_twice _ _ _ _ c.condition_image.ensures.names
    (gained_twice _ _ _ _ c.call_image.ensures.names c.term_image.ensures.names)

pub returns-in_err-sorts-clause-names : goal.returns-in_err-sorts-clause-names
returns-in_err-sorts-clause-names c =
    gained_twice _ _ _ _ c.condition_image.ensures.names
    (gained_twice _ _ _ _ c.call_image.ensures.names c.term_image.ensures.names)

pub returns-clause-image : goal.returns-clause-image
returns-clause-image c =
    let sorts : sort_numbers c.deref-3.result.now ≡ sorts_of c.args.equation.now.vars.items =
    ap sort_numbers c.deref-3.ensures.value ∙ c.in_ok-sorts.ensures
    ∙ ap sorts_of c.deref-2.ensures.value in
    let condition : IsConditionImage c.args.sig.now c.condition_image.new.names
    (sorts_of c.args.equation.now.vars.items) (λ x. 0 + x)
    (option_map plain_pattern c.args.equation.now.cond) c.in_ok-condition.condition =
    subst (λ (vs : List VarInfo). IsConditionImage c.args.sig.now c.condition_image.new.names
    (sorts_of vs) (λ x. 0 + x) (option_map plain_pattern c.args.equation.now.cond)
    c.in_ok-condition.condition) c.deref.ensures.value c.in_ok-condition.ensures.image in
    direct_closes c.args.sig.now c.condition_image.new.names c.call_image.new.names
    c.term_image.new.names c.close.new.names (map function_equation c.args.equations.now)
    c.args.equation.now.fun.0
    (function_equation c.args.equation.now) c.in_ok-condition.condition c.in_ok-call.call
    c.in_ok-right.right c.in_ok-body.body (sort_numbers c.deref-3.result.now) c.close.result
    c.call_image.ensures.names c.term_image.ensures.names
    (ordinary (map function_equation c.args.equations.now) (function_equation c.args.equation.now)
    c.requires.equation.guards c.requires.direct) c.requires.direct condition
    c.in_ok-call.ensures.image c.in_ok-right.ensures.image (c.in_ok-body.ensures
    ∙ ap (λ (p : Pattern). logic.imp c.in_ok-condition.condition p) c.in_ok-equal.ensures)
    sorts c.close.ensures.image

pub returns-clause-names : goal.returns-clause-names
returns-clause-names c =
    gained_twice _ _ _ _ (gained_twice _ _ _ _ c.condition_image.ensures.names
    (gained_twice _ _ _ _ c.call_image.ensures.names c.term_image.ensures.names))
    c.close.ensures.names
