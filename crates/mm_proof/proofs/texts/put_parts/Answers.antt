use Rattle.std.proofs.Common.{◌≡◌, [], ◌∷◌, ◌++◌, ◌∙◌, ap, sym, rules}
use Rattle.std.proofs.Common.{append-nil, append_assoc, subst}
use Rattle.std.proofs.lemmas.List.{nil_from_length}
use Rattle.mm_proof.specs.TextStacks.{PutsParts}
use Rattle.mm_proof.specs.Writing.{text_tokens}
use Rattle.mm_proof.proofs.TextStacking.{put_more, put_none}
use Rattle.mm_proof.proofs.texts.put_parts.Goals as goal

pub loop-part-init : goal.loop-part-init
loop-part-init c =
    let rest : c.into_iter-part-iterator.result.iter.rest.now ≡ c.args.parts.now = search rules in (
      [],
      sym (append-nil c.args.parts.now) ∙ ap (λ ws. ws ++ []) (sym rest),
      put_none c.args.stack.now.items,
    )

pub loop-part-preserved : goal.loop-part-preserved
loop-part-preserved c =
    let put = c.loop-part.invariant.0 in (
      c.in-Some.part.now ∷ put,
      c.loop-part.invariant.1 ∙ ap (λ ws. ws ++ put) c.in-Some.ensures.steps
          ∙ append_assoc c.next.new.self.iter.rest.now (c.in-Some.part.now ∷ []) put,
      put_more c.in-Some.part.now put c.args.stack.now.items c.loop-part.stack.items
          c.push.new.self.items c.loop-part.invariant.2 c.in_ok-push.ensures.items,
    )

pub returns : goal.returns
returns c =
    let put = c.loop-part.invariant.0 in
    let all : c.args.parts.now ≡ put =
    c.loop-part.invariant.1
    ∙ ap (λ ws. ws ++ put) (nil_from_length _ c.in-None.ensures.steps.0) in
    subst (λ ws. PutsParts (λ names k. text_tokens names k ws) c.args.stack.now.items
    c.loop-part.stack.items) (sym all) c.loop-part.invariant.2
