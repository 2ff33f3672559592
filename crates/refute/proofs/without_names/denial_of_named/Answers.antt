use Rattle.std.proofs.Common.{sym, ◌∙◌}
use Rattle.ml_pat.specs.Patterns.{and, bot, imp}
use Rattle.prove_term.proofs.ResultLaws.{if_ok}
use Rattle.refute.proofs.ImplicationShapes.{droppable_none, named_none, named_denial}
use Rattle.refute.proofs.without_names.denial_of_named.Goals as goal

pub of_named-requires : goal.of_named-requires
of_named-requires c =
    droppable_none c.args.denial.now.conclusion c.args.dropping.now.conclusion
    c.in_ok-none.none.conclusion c.sides.result.0.now c.sides.result.1.now c.denied.result.now
    c.requires (sym c.conclusion.ensures ∙ c.sides.ensures) c.denied.ensures
    c.in_ok-none.ensures.conclusion

pub sides-requires-2 : goal.sides-requires-2
sides-requires-2 c = (
  c.requires.0,
  imp (and c.requires.3 c.requires.2) bot,
  c.conclusion-2.ensures ∙ named_none c.args.denial.now.conclusion c.args.dropping.now.conclusion
      c.in_ok-none.none.conclusion c.in_ok-made.made.conclusion c.requires.0 c.requires.1
      c.requires.2 c.requires.3 c.sides.result.0.now c.sides.result.1.now c.denied.result.now
      c.requires.4 c.requires.5 (sym c.conclusion.ensures ∙ c.sides.ensures) c.denied.ensures
      c.in_ok-none.ensures.conclusion c.in_ok-made.ensures.conclusion,
)

pub returns-clause-conclusion : goal.returns-clause-conclusion
returns-clause-conclusion c =
    if_ok c.bot_to_not.result
    (λ u says h q t d is drops. named_denial c.args.denial.now.conclusion
    c.args.dropping.now.conclusion c.in_ok-none.none.conclusion c.in_ok-made.made.conclusion
    u.conclusion h q t d c.sides.result.0.now c.sides.result.1.now c.denied.result.now
    c.sides-2.result.0.now c.sides-2.result.1.now c.sides-3.result.0.now c.sides-3.result.1.now
    is drops (sym c.conclusion.ensures ∙ c.sides.ensures) c.denied.ensures
    c.in_ok-none.ensures.conclusion c.in_ok-made.ensures.conclusion
    (sym c.conclusion-2.ensures ∙ c.sides-2.ensures) c.sides-3.ensures says)
    c.bot_to_not.ensures.conclusion
