use Rattle.std.proofs.Common.{◌++◌, ◌<◌, ◌^◌, ℕ, drop, length, ap, ◌∙◌, sym, subst, rules}
use Rattle.mm_claims.specs.Keeping.{Fits}
use Rattle.mm_claims.specs.Rendered.{Rendered}
use Rattle.mm_claims.specs.Statements.{all_name_statements}
use Rattle.mm_claims.proofs.KeepingLaws.{declared_fits}
use Rattle.mm_database.specs.StatementTexts.{written_statements}
use Rattle.mm_render.proofs.renderer.Renderer.declare.Goals as goal

pub returns-clause-fits : goal.returns-clause-fits
returns-clause-fits c names begun bytes fits =
    let few : length c.args.names.now < 2 ^ 64 = search rules in
    subst (λ (k : Rendered). Fits c.args.names.now k (bytes
    ++ written_statements (all_name_statements c.args.self.now.named
    (drop c.args.self.now.named c.args.names.now))))
    (sym (ap (λ (k : Rendered). let n : Rendered =
    record k { named = c.count-self-inside.result } in
    n) c.self.view_is ∙ ap (λ (i : ℕ). let n : Rendered =
    record c.args.self.now { named = i } in n) c.count-self-inside.ensures))
    (declared_fits c.args.names.now c.args.self.now bytes names c.tokens_differ.ensures few begun
    c.requires fits)
