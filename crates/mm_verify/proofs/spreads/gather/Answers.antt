use Rattle.std.proofs.Common.{◌≡◌, ◌++◌, [], drop, ap, sym, ◌∙◌}
use Rattle.std.specs.Prelude.{filter}
use Rattle.std.proofs.lemmas.List.{drop_all, append-nil}
use Rattle.std.proofs.lemmas.List.Filters.{dedup_is}
use Rattle.mm_verify.proofs.Spreading.{variables-sorted}
use Rattle.mm_verify.proofs.spreads.gather.Goals as goal

pub returns : goal.returns
returns g c =
    let p = g.P.Place.place c.args.place.now in
    let done : drop c.loop-symbol.symbol-index c.args.text.now ≡ [] =
    drop_all _ c.args.text.now c.loop-symbol-test.false in
    let gathered : c.loop-symbol.to.items ≡ filter p.is_variable c.args.text.now =
    sym (append-nil c.loop-symbol.to.items)
    ∙ ap (λ ns. c.loop-symbol.to.items ++ filter p.is_variable ns) (sym done)
    ∙ c.loop-symbol.invariant in
    variables-sorted p c.args.text.now _ _ _ gathered c.sort_unstable.ensures.permutation
    (dedup_is _ _ _ c.dedup.ensures.filtered)
