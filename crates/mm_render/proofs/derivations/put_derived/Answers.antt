use Rattle.std.proofs.Common.{List, ◌≡◌, [], ◌∷◌, ◌++◌, ◌*◌, ◌∙◌, ap, sym, rules}
use Rattle.std.proofs.Common.{append-nil, append_assoc, subst}
use Rattle.std.proofs.lemmas.List.{nil_from_length}
use Rattle.ml_kernel.specs.StepsIn.{all_steps}
use Rattle.ml_kernel.specs.Theorems.{Derivation, derivations}
use Rattle.mm_render.specs.Parts.{PutsTrees, proofs_by}
use Rattle.mm_render.proofs.PartLaws.{put_more, put_none}
use Rattle.mm_render.proofs.derivations.put_derived.Goals as goal

pub loop-part-init : goal.loop-part-init
loop-part-init c =
    let rest : c.into_iter-part-iterator.result.iter.rest.now ≡ c.args.parts.now = search rules in (
      [],
      sym (append-nil c.args.parts.now) ∙ ap (λ (ds : List Derivation). ds ++ []) (sym rest),
      put_none c.args.stack.now.items,
    )

pub loop-part-preserved : goal.loop-part-preserved
loop-part-preserved c =
    let put = c.loop-part.invariant.0 in (
      c.in-Some.part.now ∷ put,
      c.loop-part.invariant.1 ∙ ap (λ (ds : List Derivation). ds ++ put) c.in-Some.ensures.steps
          ∙ append_assoc c.next.new.self.iter.rest.now (c.in-Some.part.now ∷ []) put,
      put_more c.in-Some.part put c.args.stack.now.items c.loop-part.stack.items
          c.push.new.self.items c.loop-part.invariant.2 c.in_ok-push.ensures.items,
    )

pub returns : goal.returns
returns c =
    let put = c.loop-part.invariant.0 in
    let all : c.args.parts.now ≡ put =
    c.loop-part.invariant.1
    ∙ ap (λ (ds : List Derivation). ds ++ put) (nil_from_length _ c.in-None.ensures.steps.0) in
    subst (λ (ds : List Derivation).
    PutsTrees (λ k at. proofs_by k at (derivations ds)) (3 * all_steps (derivations ds))
    c.args.stack.now.items c.loop-part.stack.items) (sym all) c.loop-part.invariant.2
