use Rattle.std.proofs.Common.{refl}
use Rattle.mm_proof.proofs.laws.tried.Goals as goal

-- by computation
pub returns : goal.returns
returns c = record {
  application = refl;
  universal = refl;
  syntax = refl;
  bound = refl;
  absent = refl;
  partly_absent = refl;
  replaced = refl;
  kept = refl;
  equality = refl;
  schema = refl;
  instantiated = refl;
  step = refl;
}
