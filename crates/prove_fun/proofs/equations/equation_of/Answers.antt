use Rattle.std.proofs.Common.{◌≡◌, ◌<◌, Some, length, slice_get, sym, ◌∙◌, ap, subst, arith}
use Rattle.std.specs.Prelude.{Vec}
use Rattle.std.specs.Global.{Global}
use Rattle.std.proofs.lemmas.Option.{get_or_from_slice_get}
use Rattle.rule_core.specs.declared.rules.Equation.{Equation}
use Rattle.prove_fun.proofs.Items.{item_there}
use Rattle.prove_fun.proofs.Uses.{code_found}
use Rattle.prove_fun.proofs.equations.equation_of.Goals as goal

pub index-requires-2 : goal.index-requires-2
index-requires-2 c =
    let w : (es : Vec Equation Global) ×
    (slice_get c.args.program.now.equations.items c.args.symbol.0 ≡ Some es) ×
    (c.args.number < length es.items) =
    code_found c.args.program.now c.args.symbol.0 c.args.number c.requires.0 c.requires.1 in
    let same : c.index.result.now ≡ w.0 =
    c.index.ensures
    ∙ get_or_from_slice_get c.args.program.now.equations.items c.args.symbol.0 w.0
    c.index.result.now w.1 in
    let low : c.args.number < length c.index.result.now.items =
    subst (λ (es : Vec Equation Global). c.args.number < length es.items) (sym same) w.2 in
    omega (arith, low, c.index.result.now.ok)

pub returns : goal.returns
returns c =
    let w : (es : Vec Equation Global) ×
    (slice_get c.args.program.now.equations.items c.args.symbol.0 ≡ Some es) ×
    (c.args.number < length es.items) =
    code_found c.args.program.now c.args.symbol.0 c.args.number c.requires.0 c.requires.1 in
    let same : c.index.result.now ≡ w.0 =
    c.index.ensures
    ∙ get_or_from_slice_get c.args.program.now.equations.items c.args.symbol.0 w.0
    c.index.result.now w.1 in
    let low : c.args.number < length c.index.result.now.items =
    subst (λ (es : Vec Equation Global). c.args.number < length es.items) (sym same) w.2 in (
      c.index.result.now,
      w.1
          ∙ ap (λ (es : Vec Equation Global). Some es) (sym same),
      item_there c.index.result.now.items c.args.number c.index-2.result.now low
          c.index-2.ensures,
    )
