use Rattle.std.proofs.Common.{◌++◌, ◌∷◌, [], refl}
use Rattle.std.specs.Prelude.{codes}
use Rattle.mm_proof.specs.Tokens.{bracket, bracketed}
use Rattle.mm_proof.specs.Writing.{text_tokens}
use Rattle.mm_proof.proofs.Stacking.{on_ok}
use Rattle.mm_proof.proofs.TextStacking.{put_one, put_front}
use Rattle.mm_proof.proofs.texts.put_bracket.Goals as goal

pub returns : goal.returns
returns c =
    on_ok c.put_parts-2.result (λ more. put_front
    (λ names k. text_tokens names k c.args.parts.now ++ bracket)
    (λ names k. codes "(" ∷ ((codes "\\" ++ c.args.name.now) ∷ []))
    (λ names k. bracketed (codes "\\" ++ c.args.name.now)
    (text_tokens names k c.args.parts.now ++ bracket))
    c.args.stack.now.items c.put_parts.new.stack.items c.put_parts-2.new.stack.items
    (put_front (λ names k. bracket) (λ names k. text_tokens names k c.args.parts.now)
    (λ names k. text_tokens names k c.args.parts.now ++ bracket)
    c.args.stack.now.items c.push.new.self.items c.put_parts.new.stack.items
    (put_one _ c.args.stack.now.items c.push.new.self.items c.in_ok-push.ensures.items)
    c.in_ok-put_parts.ensures (λ names k. refl))
    more (λ names k. refl)) c.put_parts-2.ensures
