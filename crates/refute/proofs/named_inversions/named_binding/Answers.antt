use Rattle.std.proofs.Common.{sym, subst}
use Rattle.term_core.specs.Patterns.{Pattern, variable}
use Rattle.term_core.specs.RulePatterns.{plain_pattern, sort_numbers}
use Rattle.ml_image.specs.NamedSides.{left_sentence}
use Rattle.ml_image.specs.PartNames.{part_names}
use Rattle.prove_term.proofs.ResultLaws.{if_ok}
use Rattle.prove_open.specs.Under.{SaysUnder}
use Rattle.refute.specs.Bindings.{bound_if_common, equals_bound}
use Rattle.refute.specs.Choosing.{chosen}
use Rattle.refute.specs.Clashes.{ComesTo}
use Rattle.refute.specs.Refuting.{IsPair}
use Rattle.refute.proofs.Conversions.{image_later}
use Rattle.refute.proofs.NamedCommon.{droppable, of_named_says, two_rules_stay}
use Rattle.refute.proofs.named_inversions.named_binding.Goals as goal

pub binding_under-requires-clause-pair : goal.binding_under-requires-clause-pair
binding_under-requires-clause-pair c =
    subst (λ (q : Pattern). IsPair c.args.cx.now.program.sig
    (sort_numbers c.args.setting.now.sorts.now) c.args.setting.now.given q c.args.term.now)
    (sym c.in_ok-target.ensures) c.requires.pair

pub binding_under-requires-clause-comes : goal.binding_under-requires-clause-comes
binding_under-requires-clause-comes c =
    subst (λ (q : Pattern). ComesTo c.args.cx.now.program.sig.subsorts (variable c.args.x)
    c.args.bound.now q c.args.term.now) (sym c.in_ok-target.ensures) c.requires.comes

pub dropped-requires : goal.dropped-requires
dropped-requires c =
    image_later c.args.cx.now c.binding_under.new.cx (plain_pattern c.args.side.now.pat.now)
    c.args.side.now.image c.in_ok-rule.ensures.grown c.requires.side.image

pub of_named-requires : goal.of_named-requires
of_named-requires c =
    droppable c.binding_under.new.cx c.args.setting.now.given.hypothesis
    (chosen c.args.x (part_names c.args.side.now.names.now)
    (plain_pattern c.args.side.now.pat.now)) c.args.term.now
    (equals_bound c.args.x c.args.bound.now)
    (left_sentence (part_names c.args.side.now.names.now) (plain_pattern c.args.side.now.pat.now))
    c.in_ok-rule.rule.conclusion c.in_ok-dropping.dropping
    (subst (λ (q : Pattern). SaysUnder c.binding_under.new.cx
    c.args.setting.now.given.hypothesis
    (bound_if_common c.args.x c.args.bound.now q c.args.term.now) c.in_ok-rule.rule.conclusion)
    c.in_ok-target.ensures c.in_ok-rule.ensures.says) c.in_ok-dropping.ensures

pub returns-clause-says : goal.returns-clause-says
returns-clause-says c =
    if_ok c.of_named.result
    (λ r named. of_named_says c.binding_under.new.cx c.args.setting.now.given.hypothesis
    (chosen c.args.x (part_names c.args.side.now.names.now)
    (plain_pattern c.args.side.now.pat.now)) c.args.term.now
    (equals_bound c.args.x c.args.bound.now)
    (left_sentence (part_names c.args.side.now.names.now) (plain_pattern c.args.side.now.pat.now))
    c.in_ok-rule.rule.conclusion r.conclusion c.in_ok-dropping.dropping
    (subst (λ (q : Pattern). SaysUnder c.binding_under.new.cx
    c.args.setting.now.given.hypothesis
    (bound_if_common c.args.x c.args.bound.now q c.args.term.now) c.in_ok-rule.rule.conclusion)
    c.in_ok-target.ensures c.in_ok-rule.ensures.says) c.in_ok-dropping.ensures named)
    c.of_named.ensures.conclusion

pub returns-clause-stays : goal.returns-clause-stays
returns-clause-stays c =
    if_ok c.of_named.result
    (λ r stays. two_rules_stay c.binding_under.new.cx c.in_ok-rule.rule c.in_ok-dropping.dropping r
    c.in_ok-rule.ensures.stays c.in_ok-dropping.ensures.stays stays)
    c.of_named.ensures.stays
