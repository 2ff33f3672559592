use Rattle.std.proofs.Common.{sym, ◌∙◌}
use Rattle.std.proofs.lemmas.Bool.{false≢true}
use Rattle.hint_file.proofs.TextSizes.{text_is_long}
use Rattle.hint_file.proofs.reading.has_text.Goals as goal

pub returns-then-not-has_at_most : goal.returns-then-not-has_at_most
returns-then-not-has_at_most c = (
  λ no. absurd (false≢true no),
  λ shown. sym c.if-not-has_at_most.true ∙ c.has_at_most.ensures.1
      (text_is_long c.args.sig.now c.args.term.now c.args.text.now shown),
)
