use Rattle.std.proofs.Common.{rules, ℕ, ◌∙◌, arith, length-drop, refl}
use Rattle.std.proofs.lemmas.List.{length-take}
use Rattle.desk_io.specs.Changes.{WritesFront}
use Rattle.desk_io.proofs.Told.{Writes-nil, Writes-more, Writes-fault}
use Rattle.desk_io.proofs.write.write_whole.Goals as goal

pub loop-at-init : goal.loop-at-init
loop-at-init g c = record {
  within = omega arith;
  writes = Writes-nil _ (rw c.requires at (g.met.D.Desk.tells_created c.args.desk.now));
  created = c.requires;
  counts = omega arith;
  no_fault = refl;
  reads = refl;
}

pub loop-at-preserved : goal.loop-at-preserved
loop-at-preserved g c = record {
  within = omega (arith, c.in_ok-at.ensures.within, length-take {A = ℕ}, length-drop {A = ℕ});
  writes =
      Writes-more _ _ _ c.args.bytes.now c.loop-at.at c.in_ok-at.field-0 c.loop-at.invariant.writes
      c.in_ok-at.ensures.writes;
  created = c.in_ok-at.ensures.created;
  counts = omega (arith, c.in_ok-at.ensures.counts);
  no_fault = c.in_ok-at.ensures.no_fault ∙ c.loop-at.invariant.no_fault;
  reads = c.in_ok-at.ensures.reads ∙ c.loop-at.invariant.reads;
}

pub returns-in_err-at-clause-prefix : goal.returns-in_err-at-clause-prefix
returns-in_err-at-clause-prefix g c =
    let front : WritesFront (g.D.Desk.state c.args.desk.now).told
    (g.D.Desk.state c.write.new.self).told
    c.args.bytes.now =
    Writes-fault _ _ _ c.args.bytes.now c.loop-at.at c.loop-at.invariant.writes
    c.in_err-at.ensures.fault in
    search rules
