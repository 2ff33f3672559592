use Rattle.std.proofs.Common.{◌≢◌, arith}
use Rattle.std.proofs.lemmas.Bool.Decides.{nat_tests}
use Rattle.assumed_texts.proofs.ConstructorLaws.{difference-of, of-difference}
use Rattle.assumed_texts.proofs.constructors.are_apart.Goals as goal

pub returns : goal.returns
returns c =
    let differ : c.args.first.0 ≢ c.args.second.0 =
    λ e. grind (arith, nat_tests, c.if-eq.ensures, e) in (
      λ t. difference-of c.args.sig.now c.args.first.0 c.args.second.0 c.declaration-one.result.now
          c.declaration-other.result.now c.requires.first c.requires.second
          c.declaration-one.ensures c.declaration-other.ensures differ c.if-one.false
          c.if-other.false (c.have_one_sort.ensures.0 t),
      λ h. c.have_one_sort.ensures.1 (of-difference c.args.sig.now c.args.first.0 c.args.second.0
          c.declaration-one.result.now c.declaration-other.result.now h c.declaration-one.ensures
          c.declaration-other.ensures).one_sort,
    )
