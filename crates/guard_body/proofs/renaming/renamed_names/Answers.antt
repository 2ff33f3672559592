use Rattle.std.proofs.Common.{◌≡◌, ◌+◌, List, take, sym, ◌∙◌, ap, subst}
use Rattle.rule_core.specs.ProgramView.{names_of}
use Rattle.rule_core.specs.declared.rules.Named.{Named}
use Rattle.ml_image.specs.PartNames.{names_renamed}
use Rattle.guard_body.specs.Renaming.{begins_with, names_at, number_in}
use Rattle.guard_body.proofs.RenamedLists.{name_below, name_more, name_same}
use Rattle.guard_body.proofs.renaming.renamed_names.Goals.{then-begins_with+in_ok-renamed_name+in_ok-push}
use Rattle.guard_body.proofs.renaming.renamed_names.Goals.{else-begins_with}
use Rattle.guard_body.proofs.renaming.renamed_names.Goals as goal

pub renamed_name-requires : goal.renamed_name-requires
renamed_name-requires c =
    name_below _ c.args.named.now c.loop-name.name-index c.name-item.result c.loop-name-test.true
    c.name-item.is c.requires

pub loop-name-preserved : goal.loop-name-preserved
loop-name-preserved c =
    elim c.if-begins_with.branch [
      | then-begins_with+in_ok-renamed_name+in_ok-push w ↦
          name_more (number_in c.args.numbers.now) c.args.place c.args.named.now
          c.loop-name.made.items c.if-begins_with.made.items c.loop-name.name-index
          c.name-item.result _ c.loop-name-test.true c.name-item.is c.loop-name.invariant
          (ap (begins_with c.args.place) (sym c.deref.ensures.value)
          ∙ sym c.begins_with.ensures ∙ w.if-begins_with.true)
          (ap (λ v. v.items) w.made-is ∙ w.in_ok-push.ensures.items)
          w.in_ok-renamed_name.ensures
      | else-begins_with w ↦
          subst (λ (ns : List Named). names_of ns
          ≡ names_at c.args.place (names_renamed (number_in c.args.numbers.now)
          (names_of (take (c.loop-name.name-index + 1) c.args.named.now))))
          (ap (λ v. v.items) (sym w.made-is))
          (name_same (number_in c.args.numbers.now) c.args.place c.args.named.now
          c.loop-name.made.items c.loop-name.name-index c.name-item.result
          c.loop-name-test.true c.name-item.is c.loop-name.invariant
          (ap (begins_with c.args.place) (sym c.deref.ensures.value)
          ∙ sym c.begins_with.ensures ∙ w.if-begins_with.false))
    ]
