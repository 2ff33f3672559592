use Rattle.std.proofs.Common.{◌≡◌, ◌+◌, List, option_map, take, refl, ap, sym, ◌∙◌, subst}
use Rattle.ml_image.specs.PartNames.{part_names}
use Rattle.ml_image.specs.NamedSides.{of_child}
use Rattle.ml_image.specs.declared.naming.PartName.{PartName}
use Rattle.ml_image.proofs.NamedLaws.{inside_more, inside_same}
use Rattle.ml_image.proofs.naming.names_in.Goals.{in-Some+in_ok-push, in_default}
use Rattle.ml_image.proofs.naming.names_in.Goals as goal

pub loop-name-preserved : goal.loop-name-preserved
loop-name-preserved c =
    elim c.match-way_in.branch [
      | in-Some+in_ok-push w ↦ inside_more c.args.child c.args.names.now c.loop-name.name-index _ _
          c.loop-name.inside.items c.match-way_in.inside.items w.in-Some.way.now
          c.loop-name-test.true c.loop-name.invariant
          (sym (ap (option_map (λ r. r.now)) w.in-Some.is) ∙ c.way_in.ensures)
          (ap (λ v. v.items) w.inside-is ∙ w.in_ok-push.ensures.items) refl
      | in_default w ↦ subst (λ (xs : List PartName). part_names xs ≡ of_child c.args.child
          (part_names (take (c.loop-name.name-index + 1) c.args.names.now)))
          (ap (λ v. v.items) (sym w.inside-is))
          (inside_same c.args.child c.args.names.now c.loop-name.name-index
          _ c.loop-name.inside.items
          c.loop-name-test.true c.loop-name.invariant
          (sym (ap (option_map (λ r. r.now)) w.in_default.is) ∙ c.way_in.ensures))
    ]
