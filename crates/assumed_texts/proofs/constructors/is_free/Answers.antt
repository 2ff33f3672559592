use Rattle.std.proofs.Common.{◌≡◌, length, arith}
use Rattle.std.specs.Prelude.{IsTrue, ◌↔◌, vec_len, ◌<◌}
use Rattle.std.proofs.Common as bool
use Rattle.assumed_texts.proofs.ConstructorLaws.{some-of, freedom-of, of-freedom}
use Rattle.assumed_texts.proofs.constructors.is_free.Goals as goal

pub returns-then-not-info : goal.returns-then-not-info
returns-then-not-info c =
    let test : IsTrue (bool.not c.is_empty.result) ↔
    (0 < length c.declaration-info.result.now.args.items) =
    some-of c.is_empty.result (vec_len c.declaration-info.result.now.args)
    (length c.declaration-info.result.now.args.items) c.is_empty.ensures (omega arith) in (
      λ t. freedom-of c.args.sig.now c.args.symbol.0 c.declaration-info.result.now c.requires
          c.declaration-info.ensures c.if-not-info.true (test.0 t),
      λ h. test.1 (of-freedom c.args.sig.now c.args.symbol.0 c.declaration-info.result.now h
          c.declaration-info.ensures).1,
    )
