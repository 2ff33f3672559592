use Rattle.std.proofs.Common.{refl}
use Rattle.assumed_texts.proofs.ConstructorLaws.{found-there}
use Rattle.assumed_texts.proofs.written.is_defined.Goals as goal

pub returns-in-Equations : goal.returns-in-Equations
returns-in-Equations c = (
  λ t. (
    c.in-Some.info.now,
    found-there c.args.sig.now c.args.symbol c.in-Some.info.now c.in-Some.ensures,
    c.in-Equations.is,
  ),
  λ d. refl,
)
