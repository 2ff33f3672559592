use Rattle.std.proofs.Common.{◌≡◌, ◌<◌, ◌∷◌, [], length, map, arith}
use Rattle.term_core.specs.Values.{scalar_value}
use Rattle.fun_eval.proofs.Roots.{scalar_item, one_scalar, two_scalars, hook_kinds, scalars_are}
use Rattle.fun_eval.proofs.Roots.{few_terms}
use Rattle.fun_eval.proofs.functions.hook_answer.Goals as goal

pub bounds-terms-0 : goal.bounds-terms-0
bounds-terms-0 c =
    let few = few_terms c.args.hook.0 c.args.terms.now c.requires in omega (arith, few.0)

pub scalar_of-first-requires : goal.scalar_of-first-requires
scalar_of-first-requires c =
    let few = few_terms c.args.hook.0 c.args.terms.now c.requires in
    scalar_item c.args.terms.now c.requires.0 0 c.index-terms-0.result c.requires.1
    c.index-terms-0.is (omega (arith, few.0))

pub apply-requires : goal.apply-requires
apply-requires c =
    let one : length c.args.terms.now ≡ 1 = omega arith in (
      omega arith,
      hook_kinds c.args.hook.0 c.args.terms.now (c.scalar_of-first.result ∷ []) c.requires
          (one_scalar c.args.terms.now c.index-terms-0.result c.scalar_of-first.result one
          c.index-terms-0.is c.scalar_of-first.ensures),
    )

pub bounds-terms-1 : goal.bounds-terms-1
bounds-terms-1 c =
    let few = few_terms c.args.hook.0 c.args.terms.now c.requires in
    let two : 1 < length c.args.terms.now = omega (arith, few.0) in omega arith

pub scalar_of-requires : goal.scalar_of-requires
scalar_of-requires c =
    let few = few_terms c.args.hook.0 c.args.terms.now c.requires in
    scalar_item c.args.terms.now c.requires.0 1 c.index-terms-1.result c.requires.1
    c.index-terms-1.is (omega (arith, few.0))

pub apply-requires-2 : goal.apply-requires-2
apply-requires-2 c =
    let few = few_terms c.args.hook.0 c.args.terms.now c.requires in
    let two : length c.args.terms.now ≡ 2 = omega (arith, few.0, few.1) in (
      omega arith,
      hook_kinds c.args.hook.0 c.args.terms.now
          (c.scalar_of-first.result ∷ (c.scalar_of.result ∷ [])) c.requires
          (two_scalars c.args.terms.now c.index-terms-0.result c.index-terms-1.result
          c.scalar_of-first.result c.scalar_of.result two c.index-terms-0.is
          c.index-terms-1.is c.scalar_of-first.ensures c.scalar_of.ensures),
    )

pub returns : goal.returns
returns c =
    let few = few_terms c.args.hook.0 c.args.terms.now c.requires in
    let two : length c.args.terms.now ≡ 2 = omega (arith, few.0, few.1) in
    let are =
    two_scalars c.args.terms.now c.index-terms-0.result c.index-terms-1.result
    c.scalar_of-first.result c.scalar_of.result two c.index-terms-0.is c.index-terms-1.is
    c.scalar_of-first.ensures c.scalar_of.ensures in (
      map scalar_value (c.scalar_of-first.result ∷ (c.scalar_of.result ∷ [])),
      scalars_are c.args.terms.now (c.scalar_of-first.result ∷ (c.scalar_of.result ∷ [])) are,
      c.apply-2.ensures,
    )
