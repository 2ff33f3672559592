use Rattle.std.proofs.Common.{length, arith}
use Rattle.term_core.specs.RulePatterns.{plain_pattern, sort_numbers}
use Rattle.ml_image.proofs.ConditionLaws.{HasImage-more}
use Rattle.refute.proofs.Growing.{new_is_high}
use Rattle.refute.proofs.sides.pattern_image.Goals as goal

pub image-requires : goal.image-requires
image-requires c =
    HasImage-more c.args.cx.now.program.sig (length (sort_numbers c.args.setting.now.sorts.now))
    4294967296 (plain_pattern c.args.pat.now)
    (omega (
      arith,
      c.few_sorts.ensures,
      c.requires.setting.new,
      new_is_high c.args.cx.now c.args.setting.now c.requires.setting,
    ))
    (c.condition_laws.ensures.pattern c.args.cx.now.program.sig
    (sort_numbers c.args.setting.now.sorts.now) (plain_pattern c.args.pat.now)
    c.requires.sorted.0 c.requires.setting.well_sorted.signature c.requires.sorted.1)
