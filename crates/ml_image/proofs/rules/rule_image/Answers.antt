use Rattle.std.proofs.Common.{◌≡◌, ◌+◌, List, length, option_map, ap, ◌∙◌, subst}
use Rattle.rule_core.specs.declared.rules.VarInfo.{VarInfo}
use Rattle.ml_image.specs.Counted.{IsConditionImage}
use Rattle.term_core.specs.RulePatterns.{plain_pattern, sort_numbers}
use Rattle.rule_core.specs.ProgramView.{sorts_of, names_of, rewrite_rule}
use Rattle.ml_image.proofs.ImageLaws.{gained_twice}
use Rattle.ml_image.proofs.ConditionLaws.{HasImage-more}
use Rattle.ml_image.proofs.NamedLaws.{below_more}
use Rattle.ml_image.proofs.SentenceLaws.{rule_closes}
use Rattle.ml_image.proofs.rules.rule_image.Goals as goal

pub left_side_image-requires-clause-left : goal.left_side_image-requires-clause-left
left_side_image-requires-clause-left c =
    HasImage-more c.args.sig.now (length (sorts_of c.args.rule.now.vars.items)) 4294967296
    (plain_pattern c.args.rule.now.left) c.requires.few c.requires.left

pub left_side_image-requires-clause-names : goal.left_side_image-requires-clause-names
left_side_image-requires-clause-names c =
    below_more (length (sorts_of c.args.rule.now.vars.items)) 4294967296
    (names_of c.args.rule.now.named.items) c.requires.few c.requires.names

pub term_image-requires : goal.term_image-requires
term_image-requires c =
    HasImage-more c.args.sig.now (length (sorts_of c.args.rule.now.vars.items)) 4294967296
    (plain_pattern c.args.rule.now.right) c.requires.few c.requires.right

pub returns-in_err-sorts-clause-names : goal.returns-in_err-sorts-clause-names
returns-in_err-sorts-clause-names c =
    gained_twice _ _ _ _ c.left_side_image.ensures.names
    (gained_twice _ _ _ _ c.condition_image.ensures.names c.term_image.ensures.names)

pub returns-clause-image : goal.returns-clause-image
returns-clause-image c =
    let sorts : sort_numbers c.deref-3.result.now ≡ sorts_of c.args.rule.now.vars.items =
    ap sort_numbers c.deref-3.ensures.value ∙ c.in_ok-sorts.ensures
    ∙ ap sorts_of c.deref-2.ensures.value in
    let condition : IsConditionImage c.args.sig.now c.condition_image.new.names
    (sorts_of c.args.rule.now.vars.items) (λ x. 0 + x) (option_map plain_pattern
    c.args.rule.now.cond)
    c.in_ok-condition.condition =
    subst (λ (vs : List VarInfo). IsConditionImage c.args.sig.now c.condition_image.new.names
    (sorts_of vs) (λ x. 0 + x) (option_map plain_pattern c.args.rule.now.cond)
    c.in_ok-condition.condition) c.deref.ensures.value c.in_ok-condition.ensures.image in
    rule_closes c.args.sig.now c.left_side_image.new.names c.condition_image.new.names
    c.term_image.new.names c.close.new.names (rewrite_rule c.args.rule.now) c.in_ok-left.left
    c.in_ok-condition.condition c.in_ok-right.right c.in_ok-body.body
    (sort_numbers c.deref-3.result.now) c.close.result
    c.condition_image.ensures.names c.term_image.ensures.names c.in_ok-left.ensures.image
    condition c.in_ok-right.ensures.image c.in_ok-body.ensures sorts c.close.ensures.image

pub returns-clause-names : goal.returns-clause-names
returns-clause-names c =
    gained_twice _ _ _ _ (gained_twice _ _ _ _ c.left_side_image.ensures.names
    (gained_twice _ _ _ _ c.condition_image.ensures.names c.term_image.ensures.names))
    c.close.ensures.names
