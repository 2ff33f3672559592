use Rattle.std.proofs.Common.{◌∙◌, ap, length}
use Rattle.mm_text.specs.Ahead.{white}
use Rattle.mm_text.proofs.Runs.{skip-pieces, skip-stops}
use Rattle.mm_text.proofs.pieces.skip_white.Goals as goal

pub returns-clause-pieces : goal.returns-clause-pieces
returns-clause-pieces c =
    skip-pieces c.args.bytes.now c.args.from _
    (c.white_len.ensures ∙ ap (λ bs. length (white bs)) c.behind.ensures)

pub returns-clause-at_piece : goal.returns-clause-at_piece
returns-clause-at_piece c =
    skip-stops c.args.bytes.now c.args.from _
    (c.white_len.ensures ∙ ap (λ bs. length (white bs)) c.behind.ensures)
