use Rattle.std.proofs.Common.{◌+◌, take, sym, ◌∙◌, subst}
use Rattle.ml_image.specs.Numbering.{number_in}
use Rattle.ml_image.specs.PartNames.{part_names, IsConjoined}
use Rattle.ml_image.proofs.NamedLaws.{conjoined_next, conjoined_same, variable_below, none_there}
use Rattle.ml_image.proofs.NamedLaws.{some_there}
use Rattle.ml_image.proofs.left_sides.conjoined.Goals.{then-is_empty+in_ok-made, else-is_empty}
use Rattle.ml_image.proofs.left_sides.conjoined.Goals as goal

pub with_name-requires : goal.with_name-requires
with_name-requires c =
    variable_below _ c.args.parts.now c.loop-name.name-index _ c.loop-name-test.true c.requires

pub loop-name-preserved : goal.loop-name-preserved
loop-name-preserved c =
    elim c.if-is_empty.branch [
      | then-is_empty+in_ok-made w ↦
          conjoined_next (number_in c.args.numbering.now) c.args.parts.now c.loop-name.name-index _
          c.args.part
          c.loop-name.made c.if-is_empty.made c.loop-name-test.true c.loop-name.invariant
          (none_there _ c.is_empty.result c.is_empty.ensures w.if-is_empty.true)
          (w.made-is ∙ w.in_ok-made.ensures)
      | else-is_empty w ↦
          subst (IsConjoined (number_in c.args.numbering.now)
          (part_names (take (c.loop-name.name-index + 1) c.args.parts.now)) c.args.part)
          (sym w.made-is)
          (conjoined_same (number_in c.args.numbering.now) c.args.parts.now c.loop-name.name-index _
          c.args.part
          c.loop-name.made c.loop-name-test.true c.loop-name.invariant
          (some_there _ c.is_empty.result c.is_empty.ensures w.if-is_empty.false))
    ]
