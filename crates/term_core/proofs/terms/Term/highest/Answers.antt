use Rattle.std.proofs.Common.{◌≡◌, ◌+◌, ◌++◌, [], ◌∷◌, take, ap, sym, ◌∙◌, arith}
use Rattle.std.proofs.lemmas.List.{take_more}
use Rattle.term_core.specs.Terms.{Tree}
use Rattle.term_core.proofs.Forests.{heights-push, AreNormal-push}
use Rattle.term_core.proofs.terms.Term.highest.Goals as goal

pub loop-arg-preserved : goal.loop-arg-preserved
loop-arg-preserved c =
    let i = c.loop-arg.arg-index in
    let front : take (i + 1) c.args.args.now ≡ take i c.args.args.now ++ c.arg-item.result ∷ [] =
    take_more c.args.args.now i c.arg-item.result c.loop-arg-test.true
    ∙ ap (λ (t : Tree). take i c.args.args.now ++ t ∷ []) (sym c.arg-item.is) in
    record {
      value = rw front (omega (arith, heights-push (take i c.args.args.now) c.arg-item.result));
      bound = omega arith;
      normal = rw front (AreNormal-push _ _ c.loop-arg.invariant.normal c.height.ensures.normal);
    }
