use Rattle.std.proofs.Common.{arith}
use Rattle.std.proofs.lemmas.Result.{err_from_is_err_and}
use Rattle.kore_prove.proofs.Pieces.{piece_sent, piece_begun}
use Rattle.kore_prove.proofs.report.send_pieces.Goals as goal

pub loop-piece-preserved : goal.loop-piece-preserved
loop-piece-preserved g c = record {
  appends =
      piece_sent _ _ _ c.args.pieces.now c.loop-piece.piece-index _ c.as_bytes.result.now
      c.loop-piece-test.true c.as_bytes.ensures.value c.loop-piece.invariant.appends
      c.in_ok-send_whole.ensures.sent;
  counts = omega (arith, c.in_ok-send_whole.ensures.counts);
}

pub returns-in_err-send_whole-clause-prefix : goal.returns-in_err-send_whole-clause-prefix
returns-in_err-send_whole-clause-prefix g c =
    let p = err_from_is_err_and c.from_residual.result c.from_residual.ensures.1 in
    rw p.1 (piece_begun _ _ _ c.args.pieces.now c.loop-piece.piece-index _ c.as_bytes.result.now
    c.loop-piece-test.true c.as_bytes.ensures.value c.loop-piece.invariant.appends
    c.in_err-send_whole.ensures.prefix)
