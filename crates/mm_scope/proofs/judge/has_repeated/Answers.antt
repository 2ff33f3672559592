use Rattle.std.proofs.Common.{arith, is_some, ap, sym, ◌∙◌}
use Rattle.std.proofs.lemmas.Map.Text.{btree_map_updates_str}
use Rattle.mm_scope.proofs.Repeats.{repeated-found, not-repeated, kept-more}
use Rattle.mm_scope.proofs.judge.has_repeated.Goals as goal

pub returns-then-is_some : goal.returns-then-is_some
returns-then-is_some c =
    sym (repeated-found c.args.bytes.now c.args.tokens.now c.loop-at.at (record {
      from = 0;
      to = 0;
    }) c.word.result.now (omega arith) c.loop-at.invariant.within c.word.ensures
    (sym (c.loop-at.invariant.kept c.word.result.now) ∙ ap is_some (sym c.in_ok-insert.ensures.old)
    ∙ sym c.is_some.ensures ∙ c.if-is_some.true))

pub loop-at-preserved : goal.loop-at-preserved
loop-at-preserved c = record {
  within = omega arith;
  tail =
      not-repeated c.args.bytes.now c.args.tokens.now c.loop-at.at (record { from = 0; to = 0 })
      c.word.result.now (omega arith) c.loop-at.invariant.within c.word.ensures
      (sym (c.loop-at.invariant.kept c.word.result.now)
      ∙ ap is_some (sym c.in_ok-insert.ensures.old) ∙ sym c.is_some.ensures
      ∙ c.if-is_some.false) c.loop-at.invariant.tail;
  kept =
      λ q. kept-more c.args.bytes.now c.args.tokens.now c.loop-at.at (record { from = 0; to = 0 })
      c.word.result.now q _ _ tt (omega arith) c.loop-at.invariant.within c.word.ensures
      (btree_map_updates_str c.word.result.now c.loop-at.seen c.insert.new.self _
      c.in_ok-insert.ensures.updates q) (c.loop-at.invariant.kept q);
}
