use Rattle.std.proofs.Common.{arith, is_some, map, drop, ap, sym, ◌∙◌}
use Rattle.std.proofs.lemmas.Map.Text.{btree_map_updates_str}
use Rattle.mm_text.specs.Reader.{words_of}
use Rattle.mm_frame.specs.PlainFrames.{plain_hypotheses}
use Rattle.mm_frame.specs.Labels.{label_in}
use Rattle.mm_verify.specs.ProofSteps.{labels_in}
use Rattle.mm_verify.proofs.Clashing.{clash-found, no-clash, seen-more, own-or}
use Rattle.mm_verify.proofs.proof_text.has_clash.Goals as goal

pub returns-then-is_some : goal.returns-then-is_some
returns-then-is_some c =
    let behind = words_of c.args.bytes.now (drop c.loop-at.at c.args.labels.now) in
    sym (clash-found (labels_in (plain_hypotheses
    c.args.hyps.now)) c.args.bytes.now c.args.labels.now c.loop-at.at (record {
      from =
          0;
      to = 0;
    }) c.word.result.now (omega arith) c.loop-at.invariant.within c.word.ensures
    (sym (c.loop-at.invariant.seen c.word.result.now ∙ own-or c.args.hyps.now behind
    c.word.result.now) ∙ ap is_some (sym c.in_ok-insert.ensures.old) ∙ sym c.is_some.ensures
    ∙ c.if-is_some.true))

pub loop-at-preserved : goal.loop-at-preserved
loop-at-preserved c =
    let behind = words_of c.args.bytes.now (drop c.loop-at.at c.args.labels.now) in
    record {
      within = omega arith;
      tail =
          no-clash (labels_in (plain_hypotheses c.args.hyps.now)) c.args.bytes.now c.args.labels.now
          c.loop-at.at (record { from = 0; to = 0 }) c.word.result.now (omega arith)
          c.loop-at.invariant.within c.word.ensures
          (sym (c.loop-at.invariant.seen c.word.result.now ∙ own-or c.args.hyps.now behind
          c.word.result.now) ∙ ap is_some (sym c.in_ok-insert.ensures.old)
          ∙ sym c.is_some.ensures ∙ c.if-is_some.false) c.loop-at.invariant.tail;
      seen =
          λ q. seen-more (map label_in c.args.hyps.now) c.args.bytes.now c.args.labels.now
          c.loop-at.at (record { from = 0; to = 0 }) c.word.result.now q _ _ tt (omega arith)
          c.loop-at.invariant.within c.word.ensures
          (btree_map_updates_str c.word.result.now c.loop-at.seen c.insert.new.self _
          c.in_ok-insert.ensures.updates q) (c.loop-at.invariant.seen q);
    }
