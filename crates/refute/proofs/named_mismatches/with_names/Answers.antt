use Rattle.std.proofs.Common.{◌≡◌, subst}
use Rattle.term_core.specs.Patterns.{Pattern}
use Rattle.term_core.specs.RulePatterns.{plain_pattern}
use Rattle.ml_image.specs.NamedSides.{left_sentence}
use Rattle.ml_image.specs.PartNames.{part_names}
use Rattle.ml_image.specs.Sentences.{term, not}
use Rattle.prove_term.proofs.ContextLaws.{stays_grown}
use Rattle.prove_term.proofs.ResultLaws.{if_ok}
use Rattle.refute.specs.Choosing.{chosen}
use Rattle.refute.specs.Dropping.{Implies}
use Rattle.refute.specs.Refutations.{in_common}
use Rattle.refute.proofs.ChosenLaws.{chosen_none}
use Rattle.refute.proofs.Growing.{says_under_grown}
use Rattle.refute.proofs.NamedBegun.{parts_others}
use Rattle.refute.proofs.NamedCommon.{droppable_denial, denial_says, two_rules_stay}
use Rattle.refute.proofs.named_mismatches.with_names.Goals as goal

pub denial_of_named-requires : goal.denial_of_named-requires
denial_of_named-requires c =
    let same : chosen c.args.setting.now.new.0 (part_names c.args.names.now)
    (plain_pattern c.args.pat.now) ≡ plain_pattern c.args.pat.now =
    chosen_none c.args.setting.now.new.0 (part_names c.args.names.now)
    (plain_pattern c.args.pat.now)
    (parts_others c.args.cx.now.program.sig c.args.setting.now.sorts.now
    (part_names c.args.names.now) (plain_pattern c.args.pat.now) c.args.setting.now.new.0
    c.requires.setting.new c.requires.names) in
    droppable_denial c.pattern_image.new.cx c.args.setting.now.given.hypothesis
    (plain_pattern c.args.pat.now) c.requires.none.0
    (left_sentence (part_names c.args.names.now) (plain_pattern c.args.pat.now))
    c.args.none.now.conclusion c.in_ok-dropping.dropping
    (says_under_grown c.args.cx.now c.pattern_image.new.cx c.args.setting.now.given.hypothesis
    (not (in_common (plain_pattern c.args.pat.now) c.requires.none.0))
    c.args.none.now.conclusion c.in_ok-image.ensures.grown c.requires.none.1)
    (subst (λ (q : Pattern). Implies c.pattern_image.new.cx
    (left_sentence (part_names c.args.names.now) (plain_pattern c.args.pat.now)) (term q)
    c.in_ok-dropping.dropping) same c.in_ok-dropping.ensures)

pub returns-clause-says : goal.returns-clause-says
returns-clause-says c =
    let same : chosen c.args.setting.now.new.0 (part_names c.args.names.now)
    (plain_pattern c.args.pat.now) ≡ plain_pattern c.args.pat.now =
    chosen_none c.args.setting.now.new.0 (part_names c.args.names.now)
    (plain_pattern c.args.pat.now)
    (parts_others c.args.cx.now.program.sig c.args.setting.now.sorts.now
    (part_names c.args.names.now) (plain_pattern c.args.pat.now) c.args.setting.now.new.0
    c.requires.setting.new c.requires.names) in
    if_ok c.denial_of_named.result
    (λ r named t says. denial_says c.pattern_image.new.cx c.args.setting.now.given.hypothesis
    (plain_pattern c.args.pat.now) t
    (left_sentence (part_names c.args.names.now) (plain_pattern c.args.pat.now))
    c.args.none.now.conclusion r.conclusion c.in_ok-dropping.dropping
    (says_under_grown c.args.cx.now c.pattern_image.new.cx c.args.setting.now.given.hypothesis
    (not (in_common (plain_pattern c.args.pat.now) t)) c.args.none.now.conclusion
    c.in_ok-image.ensures.grown says)
    (subst (λ (q : Pattern). Implies c.pattern_image.new.cx
    (left_sentence (part_names c.args.names.now) (plain_pattern c.args.pat.now)) (term q)
    c.in_ok-dropping.dropping) same c.in_ok-dropping.ensures) named)
    c.denial_of_named.ensures.conclusion

pub returns-clause-stays : goal.returns-clause-stays
returns-clause-stays c =
    if_ok c.denial_of_named.result
    (λ r stays. two_rules_stay c.pattern_image.new.cx c.args.none.now c.in_ok-dropping.dropping r
    (stays_grown c.args.cx.now c.pattern_image.new.cx c.args.none.now
    c.in_ok-image.ensures.grown c.requires.stays) c.in_ok-dropping.ensures.stays stays)
    c.denial_of_named.ensures.stays
