use Rattle.std.proofs.Common.{◌∙◌, ap, ◌++◌, ℕ, List}
use Rattle.drill_gen.proofs.Lines.{piece-pushed}
use Rattle.drill_gen.proofs.text.push_line.Goals as goal

pub loop-piece-preserved : goal.loop-piece-preserved
loop-piece-preserved c =
    piece-pushed c.args.pieces.now c.loop-piece.piece-index _ c.args.text.now.items
    c.loop-piece.text.items c.extend_from_slice.new.self.items c.loop-piece-test.true
    c.loop-piece.invariant
    (c.in_ok-extend_from_slice.ensures.items
    ∙ ap (λ (more : List ℕ). c.loop-piece.text.items ++ more) c.as_bytes.ensures.value)
