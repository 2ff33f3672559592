use Rattle.std.proofs.Common.{rules, ℕ, ◌∙◌, arith, length-drop}
use Rattle.std.proofs.lemmas.List.{length-take}
use Rattle.desk_io.specs.SinkChanges.{AppendsFront}
use Rattle.desk_io.proofs.Sent.{Appends-more, Appends-fault}
use Rattle.desk_io.proofs.sink.send_whole.Goals as goal

pub loop-at-preserved : goal.loop-at-preserved
loop-at-preserved g c = record {
  within = omega (arith, c.in_ok-at.ensures.within, length-take {A = ℕ}, length-drop {A = ℕ});
  appends =
      Appends-more _ _ _ c.args.bytes.now c.loop-at.at c.in_ok-at.field-0 c.loop-at.invariant.within
      c.loop-at.invariant.appends c.in_ok-at.ensures.appends;
  counts = omega (arith, c.in_ok-at.ensures.counts);
  no_fault = c.in_ok-at.ensures.no_fault ∙ c.loop-at.invariant.no_fault;
}

pub returns-in_err-at-clause-prefix : goal.returns-in_err-at-clause-prefix
returns-in_err-at-clause-prefix g c =
    let front : AppendsFront (g.S.Sink.state c.args.sink.now).bytes
    (g.S.Sink.state c.write.new.self).bytes
    c.args.bytes.now =
    Appends-fault _ _ _ c.args.bytes.now c.loop-at.at c.loop-at.invariant.appends
    c.in_err-at.ensures.fault in
    search rules
