use Rattle.std.proofs.Common.{◌≡◌, ◌+◌, Some, sym, refl, subst, arith, ◌∙◌}
use Rattle.std.specs.Prelude.{slice_get}
use Rattle.std.proofs.lemmas.Bool.{false≢true}
use Rattle.rule_core.specs.ProgramView.{theory_of}
use Rattle.ml_image.proofs.ImageLaws.{gained_twice}
use Rattle.assumed_texts.specs.Listing.{Lists, IsBeforeEquation}
use Rattle.assumed_texts.proofs.ListingLaws.{item-at}
use Rattle.assumed_texts.proofs.EquationLaws.{undefined-listed, equation-ready-items, image-of-items}
use Rattle.assumed_texts.proofs.EquationLaws.{equation-listed, function-listed}
use Rattle.assumed_texts.proofs.written.add_equations.Goals as goal

pub returns-then-not-is_defined-clause-images : goal.returns-then-not-is_defined-clause-images
returns-then-not-is_defined-clause-images c =
    undefined-listed (theory_of c.args.program.now) c.args.names.now c.args.function
    c.args.images.now.items
    (λ d. false≢true (sym c.if-not-is_defined.true ∙ c.is_defined.ensures.1 d)) c.requires.images

pub equation_image-requires : goal.equation_image-requires
equation_image-requires c =
    equation-ready-items c.args.program.now c.args.function c.loop-equation.equation-index
    c.equation-item.result c.index-equations.result.now c.deref.result.now c.requires.sorted
    c.requires.bound (c.is_defined.ensures.0 c.if-not-is_defined.false)
    (item-at c.args.program.now.equations.items c.args.program.now.equations.items c.args.function
    c.index-equations.result.now refl c.index-equations.ensures c.requires.there)
    c.deref.ensures.value
    (item-at c.index-equations.result.now.items c.deref-equation-items.result.now
    c.loop-equation.equation-index c.equation-item.result c.deref-equation-items.ensures.value
    c.equation-item.is c.loop-equation-test.true)

pub loop-equation-preserved : goal.loop-equation-preserved
loop-equation-preserved c =
    let list : slice_get c.args.program.now.equations.items c.args.function
    ≡ Some c.index-equations.result.now =
    item-at c.args.program.now.equations.items c.args.program.now.equations.items c.args.function
    c.index-equations.result.now refl c.index-equations.ensures c.requires.there in
    let at : slice_get c.index-equations.result.now.items c.loop-equation.equation-index
    ≡ Some c.equation-item.result =
    item-at c.index-equations.result.now.items c.deref-equation-items.result.now
    c.loop-equation.equation-index c.equation-item.result c.deref-equation-items.ensures.value
    c.equation-item.is c.loop-equation-test.true in
    let more = equation-listed c.args.program.now c.loop-equation.names c.equation_image.new.names
    c.loop-equation.images.items c.args.function c.loop-equation.equation-index
    c.equation-item.result c.in_ok-image.image (c.is_defined.ensures.0 c.if-not-is_defined.false)
    (c.index-equations.result.now, list, at) c.loop-equation.invariant.0
    c.in_ok-image.ensures.names
    (image-of-items c.args.program.now c.equation_image.new.names c.args.function
    c.loop-equation.equation-index c.equation-item.result c.index-equations.result.now
    c.deref.result.now c.in_ok-image.image c.requires.bound list c.deref.ensures.value at
    c.in_ok-image.ensures.image) in (
      subst (Lists (theory_of c.args.program.now) c.equation_image.new.names
          (IsBeforeEquation (theory_of c.args.program.now) c.args.function
          (c.loop-equation.equation-index + 1)))
          (sym c.in_ok-push.ensures.items) more,
      gained_twice c.args.program.now.sig c.args.names.now c.loop-equation.names
          c.equation_image.new.names c.loop-equation.invariant.1 c.in_ok-image.ensures.names,
    )

pub returns-clause-images : goal.returns-clause-images
returns-clause-images c =
    function-listed c.args.program.now c.loop-equation.names c.args.function
    c.loop-equation.equation-index c.index-equations.result.now c.loop-equation.images.items
    (item-at c.args.program.now.equations.items c.args.program.now.equations.items c.args.function
    c.index-equations.result.now refl c.index-equations.ensures c.requires.there)
    (omega (arith, c.loop-equation-test.false, c.deref-equation-items.ensures.len))
    c.loop-equation.invariant.0
