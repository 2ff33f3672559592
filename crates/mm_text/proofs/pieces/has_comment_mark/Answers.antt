use Rattle.std.proofs.Common.{◌∙◌, ap, sym}
use Rattle.mm_text.specs.Ahead.{mark_ahead}
use Rattle.mm_text.proofs.Runs.{mark-pass}
use Rattle.mm_text.proofs.pieces.has_comment_mark.Goals as goal

pub loop-at-preserved : goal.loop-at-preserved
loop-at-preserved c =
    mark-pass c.args.token.now c.loop-at.at (sym (ap mark_ahead c.behind.ensures)
    ∙ sym c.begins_with_mark.ensures ∙ c.if-begins_with_mark.false)
    ∙ c.loop-at.invariant
