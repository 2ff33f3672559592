use Rattle.std.proofs.Common.{List, ◌≡◌, [], ◌∷◌, ◌++◌, ◌∙◌, ap, sym, refl, arith, rules}
use Rattle.std.proofs.Common.{append-nil, append_assoc, subst}
use Rattle.std.proofs.lemmas.List.{nil_from_length}
use Rattle.ml_kernel.specs.Theorems.{Derivation, derivations}
use Rattle.mm_render.specs.NeededView.{PutsDerivations}
use Rattle.mm_render.proofs.NeededLaws.{derivation_put}
use Rattle.mm_render.proofs.needed.put_derivations.Goals as goal

pub loop-part-init : goal.loop-part-init
loop-part-init c =
    let rest : c.into_iter-part-iterator.result.iter.rest.now ≡ c.args.parts.now = search rules in (
      [],
      sym (append-nil c.args.parts.now) ∙ ap (λ (ds : List Derivation). ds ++ []) (sym rest),
      record { needs = λ find. refl; steps = omega arith },
    )

pub loop-part-preserved : goal.loop-part-preserved
loop-part-preserved c =
    let put = c.loop-part.invariant.0 in (
      c.in-Some.part.now ∷ put,
      c.loop-part.invariant.1 ∙ ap (λ (ds : List Derivation). ds ++ put) c.in-Some.ensures.steps
          ∙ append_assoc c.next.new.self.iter.rest.now (c.in-Some.part.now ∷ []) put,
      derivation_put c.in-Some.part (derivations put) (derivations (c.in-Some.part.now ∷ put))
          c.args.stack.now.items c.loop-part.stack.items c.push.new.self.items
          c.loop-part.invariant.2 c.in_ok-push.ensures.items refl,
    )

pub returns : goal.returns
returns c =
    let put = c.loop-part.invariant.0 in
    let all : c.args.parts.now ≡ put =
    c.loop-part.invariant.1
    ∙ ap (λ (ds : List Derivation). ds ++ put) (nil_from_length _ c.in-None.ensures.steps.0) in
    subst (λ (ds : List Derivation).
    PutsDerivations (derivations ds) c.args.stack.now.items c.loop-part.stack.items) (sym all)
    c.loop-part.invariant.2
