use Rattle.std.proofs.Common.{◌∙◌, ap, length, arith}
use Rattle.mm_text.specs.Ahead.{printed}
use Rattle.mm_text.proofs.Runs.{stray-at, run-at, run-within}
use Rattle.mm_text.proofs.pieces.next_piece.Goals as goal

pub returns-then-len-eq0 : goal.returns-then-len-eq0
returns-then-len-eq0 c =
    let skip = c.skip_white-at.ensures in (
      stray-at c.args.bytes.now c.args.from c.skip_white-at.result c.run_len-len.result skip.pieces
          (omega arith) skip.at_piece
          (c.run_len-len.ensures ∙ ap (λ bs. length (printed bs)) c.behind.ensures) (omega arith),
      omega arith,
      omega arith,
    )

pub returns : goal.returns
returns c =
    let skip = c.skip_white-at.ensures in (
      run-at c.args.bytes.now c.args.from c.skip_white-at.result c.run_len-len.result skip.pieces
          (c.run_len-len.ensures ∙ ap (λ bs. length (printed bs)) c.behind.ensures) (omega arith),
      skip.after,
      omega arith,
      run-within c.args.bytes.now c.skip_white-at.result c.run_len-len.result skip.within
          (c.run_len-len.ensures ∙ ap (λ bs. length (printed bs)) c.behind.ensures),
    )
