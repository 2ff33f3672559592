use Rattle.std.proofs.Common.{sym, ◌∙◌}
use Rattle.mm_scope.proofs.scopes.Scopes.apart.Goals as goal

pub returns-clause-tells : goal.returns-clause-tells
returns-clause-tells a =
    λ c name w naming names.
    a.are_grouped.ensures ∙ sym ((w.under name naming names).scope.separate a.args.a a.args.b)
