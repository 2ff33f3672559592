use Rattle.std.proofs.Common.{◌+◌, take, sym, ◌∙◌, subst}
use Rattle.ml_image.specs.PartNames.{part_names, IsConjoined}
use Rattle.ml_image.proofs.NamedLaws.{conjoined_next, conjoined_same, none_there, some_there}
use Rattle.guard_body.specs.Renaming.{itself}
use Rattle.guard_body.proofs.images.conjoined.Goals.{then-is_empty+in_ok-made, else-is_empty}
use Rattle.guard_body.proofs.images.conjoined.Goals as goal

pub loop-name-preserved : goal.loop-name-preserved
loop-name-preserved c =
    elim c.if-is_empty.branch [
      | then-is_empty+in_ok-made w ↦
          conjoined_next itself c.args.names.now c.loop-name.name-index _ c.args.part
          c.loop-name.made c.if-is_empty.made c.loop-name-test.true c.loop-name.invariant
          (none_there _ c.is_empty.result c.is_empty.ensures w.if-is_empty.true)
          (w.made-is ∙ w.in_ok-made.ensures)
      | else-is_empty w ↦
          subst (IsConjoined itself
          (part_names (take (c.loop-name.name-index + 1) c.args.names.now)) c.args.part)
          (sym w.made-is)
          (conjoined_same itself c.args.names.now c.loop-name.name-index _ c.args.part
          c.loop-name.made c.loop-name-test.true c.loop-name.invariant
          (some_there _ c.is_empty.result c.is_empty.ensures w.if-is_empty.false))
    ]
