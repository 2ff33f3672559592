use Rattle.std.proofs.Common.{refl}
use Rattle.mm_scope.proofs.scopes.Scopes.rename.Goals as goal

pub returns : goal.returns
returns c = record {
  names = c.in_ok-insert.ensures;
  rest = refl;
}
