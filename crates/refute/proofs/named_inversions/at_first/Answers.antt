use Rattle.std.proofs.Common.{sym, ◌∙◌, ap}
use Rattle.ml_pat.specs.Patterns.{and}
use Rattle.term_core.specs.RulePatterns.{plain_pattern}
use Rattle.ml_image.specs.NamedSides.{left_sentence}
use Rattle.ml_image.specs.PartNames.{part_names}
use Rattle.ml_image.specs.Sentences.{term}
use Rattle.prove_term.proofs.ContextLaws.{has_before}
use Rattle.prove_term.proofs.ResultLaws.{if_ok_two}
use Rattle.refute.specs.Choosing.{chosen}
use Rattle.refute.proofs.Conversions.{image_later}
use Rattle.refute.proofs.NamedCommon.{top_inverts}
use Rattle.refute.proofs.named_inversions.at_first.Goals as goal

pub dropped-requires : goal.dropped-requires
dropped-requires c =
    image_later c.args.cx.now c.term_image.new.cx (plain_pattern c.args.side.now.pat.now)
    c.args.side.now.image c.in_ok-right.ensures.grown c.requires.side.image

pub sides-requires : goal.sides-requires
sides-requires c = (
  c.in_ok-dropping.ensures.from,
  c.in_ok-dropping.ensures.to,
  c.conclusion.ensures ∙ c.in_ok-dropping.ensures.says,
)

pub returns-clause-says : goal.returns-clause-says
returns-clause-says c =
    if_ok_two c.always.result
    (λ r says stays. top_inverts c.term_image.new.cx c.args.setting.now.given.hypothesis
    (left_sentence (part_names c.args.side.now.names.now) (plain_pattern c.args.side.now.pat.now))
    (term (chosen c.args.setting.now.new.0 (part_names c.args.side.now.names.now)
    (plain_pattern c.args.side.now.pat.now))) c.args.term.now c.in_ok-dropping.dropping r
    c.sides.result.0.now c.sides.result.1.now c.in_ok-right.right c.in_ok-premise.premise
    (λ scope has. c.requires.setting.given.over scope
    (has_before c.args.cx.now c.term_image.new.cx scope c.in_ok-right.ensures.grown has))
    c.in_ok-dropping.ensures (sym c.conclusion.ensures ∙ c.sides.ensures)
    c.in_ok-right.ensures.image
    (c.in_ok-premise.ensures ∙ ap (and c.args.setting.now.given.hypothesis) c.in_ok-both.ensures)
    says stays)
    c.always.ensures.conclusion c.always.ensures.stays
