use Rattle.std.proofs.Common.{[], length, sym, ◌∙◌, ap, subst, arith}
use Rattle.ml_pat.specs.Patterns.{Pattern, imp, and}
use Rattle.ml_pat.specs.Patterns as logic
use Rattle.term_core.specs.Patterns.{ground_pattern}
use Rattle.term_core.specs.RulePatterns.{plain_pattern, sort_numbers}
use Rattle.rule_core.specs.declared.rules.Program.{Program}
use Rattle.ml_image.specs.HasImages.{HasImage}
use Rattle.prove_term.proofs.ContextLaws.{grown_twice, has_before}
use Rattle.prove_term.proofs.ResultLaws.{if_ok}
use Rattle.refute.proofs.Conversions.{image_later}
use Rattle.refute.proofs.Growing.{program_grown, new_is_high}
use Rattle.refute.proofs.InCommon.{top_in_common, common_over}
use Rattle.ml_image.proofs.ConditionLaws.{HasImage-more}
use Rattle.refute.proofs.inversions.at_first.Goals as goal

pub image-requires : goal.image-requires
image-requires c =
    HasImage-more c.args.cx.now.program.sig (length (sort_numbers c.args.setting.now.sorts.now))
    4294967296 (plain_pattern c.args.pat.now)
    (omega (
      arith,
      c.few_sorts.ensures,
      c.requires.setting.new,
      new_is_high c.args.cx.now c.args.setting.now c.requires.setting,
    ))
    (c.condition_laws.ensures.pattern c.args.cx.now.program.sig
    (sort_numbers c.args.setting.now.sorts.now) (plain_pattern c.args.pat.now)
    c.requires.covered.2.sort c.requires.setting.well_sorted.signature
    c.requires.covered.2.left.sorted)

pub image-requires-2 : goal.image-requires-2
image-requires-2 c =
    program_grown c.args.cx.now c.image.new.self
    (λ (program : Program). HasImage program.sig 4294967296 (plain_pattern c.args.whole.now))
    c.in_ok-left.ensures.grown
    (subst (HasImage c.args.cx.now.program.sig 4294967296) (sym c.requires.covered.1)
    (HasImage-more c.args.cx.now.program.sig 0 4294967296 (ground_pattern c.requires.covered.0)
    (omega arith)
    (c.condition_laws.ensures.pattern c.args.cx.now.program.sig []
    (ground_pattern c.requires.covered.0) c.requires.covered.2.sort
    c.requires.setting.well_sorted.signature c.requires.covered.2.right)))

pub returns-clause-says : goal.returns-clause-says
returns-clause-says c =
    if_ok c.always.result
    (λ r says t is. top_in_common c.image.new.self c.image-2.new.self
    c.args.setting.now.given.hypothesis (plain_pattern c.args.pat.now)
    (plain_pattern c.args.whole.now) t c.in_ok-left.left c.in_ok-right.right r.conclusion
    c.in_ok-right.ensures.grown c.in_ok-left.ensures.image c.in_ok-right.ensures.image is
    (says ∙ ap (λ (p : Pattern). imp p logic.top) (c.in_ok-premise.ensures
    ∙ ap (and c.args.setting.now.given.hypothesis) c.in_ok-both.ensures)))
    c.always.ensures.conclusion

pub returns-clause-stays : goal.returns-clause-stays
returns-clause-stays c =
    if_ok c.always.result
    (λ t stays s has. stays s (
      common_over c.image-2.new.self s c.args.setting.now.given.hypothesis
          (plain_pattern c.args.pat.now) (plain_pattern c.args.whole.now) c.in_ok-left.left
          c.in_ok-right.right c.in_ok-premise.premise has
          (c.requires.setting.given.over s (has_before c.args.cx.now c.image-2.new.self s
          (grown_twice c.args.cx.now c.image.new.self c.image-2.new.self c.in_ok-left.ensures.grown
          c.in_ok-right.ensures.grown) has))
          (image_later c.image.new.self c.image-2.new.self (plain_pattern c.args.pat.now)
          c.in_ok-left.left c.in_ok-right.ensures.grown c.in_ok-left.ensures.image)
          c.in_ok-right.ensures.image
          (c.in_ok-premise.ensures ∙ ap (and c.args.setting.now.given.hypothesis)
          c.in_ok-both.ensures),
      tt,
    ) tt)
    c.always.ensures.stays
