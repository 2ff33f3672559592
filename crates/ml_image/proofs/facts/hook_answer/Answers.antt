use Rattle.std.proofs.Common.{◌≡◌, List, Some, length, map, ap, sym, ◌∙◌}
use Rattle.std.proofs.Common.{arith}
use Rattle.term_core.specs.HookSignatures.{hook_arguments}
use Rattle.term_core.specs.declared.values.Scalar.{Scalar}
use Rattle.hook_table.specs.Scalars.{kind_of}
use Rattle.ml_image.proofs.HookLaws.{answer_fits, answer_few, two_of, same_row}
use Rattle.ml_image.proofs.facts.hook_answer.Goals as goal

pub apply-answer-requires : goal.apply-answer-requires
apply-answer-requires c =
    let row : c.requires.0 ≡ c.in-Hooked.hook.0 =
    same_row c.requires.0 c.in-Hooked.hook c.args.info.now.kind c.requires.2 c.in-Hooked.is in (
      omega arith,
      ap hook_arguments (sym row)
          ∙ answer_fits c.requires.0 c.args.args.now _ c.requires.3
          ∙ ap (λ (xs : List Scalar). Some (map kind_of xs)) (sym c.one_argument.ensures),
    )

pub two_arguments-requires : goal.two_arguments-requires
two_arguments-requires c =
    two_of (length c.args.args.now) (answer_few c.requires.0 c.args.args.now _ c.requires.3)
    c.if-args-eq1.false

pub apply-answer-requires-else-args-eq1 : goal.apply-answer-requires-else-args-eq1
apply-answer-requires-else-args-eq1 c =
    let row : c.requires.0 ≡ c.in-Hooked.hook.0 =
    same_row c.requires.0 c.in-Hooked.hook c.args.info.now.kind c.requires.2 c.in-Hooked.is in (
      omega arith,
      ap hook_arguments (sym row)
          ∙ answer_fits c.requires.0 c.args.args.now _ c.requires.3
          ∙ ap (λ (xs : List Scalar). Some (map kind_of xs)) (sym c.two_arguments.ensures),
    )
