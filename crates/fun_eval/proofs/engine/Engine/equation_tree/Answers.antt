use Rattle.std.proofs.Common.{◌≡◌, ◌<◌, length, refl, ap, subst, arith}
use Rattle.std.proofs.lemmas.Option.{slice_get_read}
use Rattle.rule_core.specs.ProgramView.{theory_of}
use Rattle.rule_core.specs.declared.rules.Program.{Program}
use Rattle.match_tree.specs.Programs.{IsEquationTree}
use Rattle.fun_eval.proofs.engine.Engine.equation_tree.Goals as goal

pub returns : goal.returns
returns c =
    let P : Program → Type 0 =
    λ p. IsEquationTree (theory_of p) c.args.sym.0 c.index.result.now in
    let same : length (theory_of c.self.inside.program.now).equations
    ≡ length (theory_of c.args.self.now).equations =
    ap (λ (p : Program). length (theory_of p).equations) c.self.view_is in
    let lt : c.args.sym.0 < length c.self.inside.trees.items =
    omega (arith, c.requires, same, c.self.invariant.trees.0) in
    subst P c.self.view_is (c.self.invariant.trees.1 c.args.sym.0 c.index.result.now
    (slice_get_read c.self.inside.trees.items (length c.self.inside.trees.items) c.args.sym.0
    c.index.result.now refl lt c.index.ensures))
