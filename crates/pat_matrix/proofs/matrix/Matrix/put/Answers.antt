use Rattle.std.proofs.Common.{◌∙◌, ap, sym, refl}
use Rattle.pat_matrix.specs.Positions.{row_asks}
use Rattle.pat_matrix.proofs.GroupLaws.{split_asks, split_wild}
use Rattle.pat_matrix.proofs.matrix.Matrix.put.Goals as goal

pub returns-in_ok-push-in-None : goal.returns-in_ok-push-in-None
returns-in_ok-push-in-None c rows h =
    split_wild c.args.self.now c.args.position.now rows c.args.split.now _ c.args.no
    (sym (c.in-None.ensures ∙ ap (λ ps. row_asks ps c.args.position.now) c.row.ensures))
    refl c.in_ok-push-in-None.ensures.items h

pub returns-in_ok-add_heads-in-Some : goal.returns-in_ok-add_heads-in-Some
returns-in_ok-add_heads-in-Some c rows h =
    split_asks c.args.self.now c.args.position.now rows c.args.split.now _ c.args.no _
    (sym (c.in-Some.ensures ∙ ap (λ ps. row_asks ps c.args.position.now) c.row.ensures))
    c.in_ok-add_heads-in-Some.ensures refl h
