use Rattle.std.proofs.Common.{sym, ◌∙◌}
use Rattle.ml_image.specs.PartNames.{part_name}
use Rattle.prove_term.proofs.ResultLaws.{if_ok, if_ok_two}
use Rattle.refute.specs.Dropping.{with_name}
use Rattle.refute.proofs.DroppingLaws.{name_implied, part_implied}
use Rattle.refute.proofs.dropping.name_dropped.Goals as goal

pub returns-then-name-x-clause-says : goal.returns-then-name-x-clause-says
returns-then-name-x-clause-says c =
    if_ok_two c.to_name.result
    (λ t says stays s q implies. name_implied c.args.cx.now s q (part_name c.args.name.now) c.args.x
    c.args.part.now t c.sides.result.0.now c.sides.result.1.now c.in_ok-variable.variable
    c.if-name-x.true (sym c.conclusion.ensures ∙ c.sides.ensures) c.in_ok-variable.ensures says
    stays implies)
    c.to_name.ensures.conclusion c.to_name.ensures.stays

pub returns-clause-implies : goal.returns-clause-implies
returns-clause-implies c =
    if_ok c.chain.result
    (λ t chained. (
      with_name c.args.name.now.first c.in_ok-variable.variable c.sides.result.0.now,
      c.sides.result.1.now,
      chained (with_name c.args.name.now.first c.in_ok-variable.variable c.sides.result.0.now)
          c.sides.result.0.now c.sides.result.1.now c.in_ok-rule.ensures.conclusion
          (sym c.conclusion.ensures ∙ c.sides.ensures),
    ))
    c.chain.ensures.conclusion

pub returns-clause-says : goal.returns-clause-says
returns-clause-says c =
    if_ok_two c.chain.result
    (λ t chained stays s q implies. part_implied c.args.cx.now s q (part_name c.args.name.now)
    c.args.x c.args.part.now c.in_ok-rule.rule t c.sides.result.0.now c.sides.result.1.now
    c.in_ok-variable.variable c.if-name-x.false (sym c.conclusion.ensures ∙ c.sides.ensures)
    c.in_ok-variable.ensures c.in_ok-rule.ensures.conclusion c.in_ok-rule.ensures.stays chained
    stays implies)
    c.chain.ensures.conclusion c.chain.ensures.stays
