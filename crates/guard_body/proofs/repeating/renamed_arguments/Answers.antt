use Rattle.std.proofs.Common.{◌<◌, List, length, refl, ap, ◌∙◌, arith}
use Rattle.rule_core.specs.ProgramView.{names_of}
use Rattle.rule_core.specs.declared.rules.Named.{Named}
use Rattle.ml_image.specs.PartNames.{names_renamed}
use Rattle.guard_body.specs.Renaming.{names_at, number_in}
use Rattle.guard_body.proofs.RenamedLists.{item_occurs}
use Rattle.guard_body.proofs.RepeatedLaws.{renamed_more}
use Rattle.guard_body.proofs.repeating.renamed_arguments.Goals as goal

pub renamed-requires : goal.renamed-requires
renamed-requires c = λ x o.
    let low : c.loop-i.i < length c.args.equation.now.args.items =
    omega (arith, c.loop-i-test.true, c.requires.many) in
    c.requires.numbers.arguments x
    (item_occurs c.args.equation.now.args.items c.loop-i.i x c.index.result.now low
    c.index.ensures o)

pub loop-i-preserved : goal.loop-i-preserved
loop-i-preserved c =
    let low : c.loop-i.i < length c.args.equation.now.args.items =
    omega (arith, c.loop-i-test.true, c.requires.many) in
    renamed_more (number_in c.args.numbers.now) (names_of c.args.equation.now.named.items)
    c.args.equation.now.args.items c.args.args.now c.loop-i.i c.index.result.now
    c.index-args-i.result c.loop-i.made.items c.push.new.self.items _ low c.loop-i-test.true
    c.index.ensures c.index-args-i.is c.loop-i.invariant c.in_ok-renamed.ensures
    (c.in_ok-renamed_names.ensures
    ∙ ap (λ (ns : List Named). names_at c.loop-i.i
    (names_renamed (number_in c.args.numbers.now) (names_of ns))) c.deref.ensures.value)
    refl c.in_ok-push.ensures.items
