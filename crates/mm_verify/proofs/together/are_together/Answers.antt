use Rattle.std.proofs.Common.{arith, ◌≡◌, ◌∙◌, length, drop, refl, ap, sym, ℕ}
use Rattle.mm_frame.specs.PlainFrames.{in_group}
use Rattle.mm_verify.specs.Filling.{are_parts_apart}
use Rattle.mm_verify.specs.Pairs.{each_pair}
use Rattle.mm_verify.proofs.Spreading.{group-pairs}
use Rattle.mm_verify.proofs.Meeting.{none-met, more-met}
use Rattle.mm_verify.proofs.together.are_together.Goals as goal

pub loop-at-init : goal.loop-at-init
loop-at-init g c = record {
  within = omega arith;
  known = c.requires.known;
  met =
      none-met (g.P.Place.place c.args.place.now) (drop c.args.base c.args.stack.now)
      c.new-met.result c.args.group.now (length c.args.group.now) c.new-met.ensures
      (omega arith);
}

pub loop-at-preserved : goal.loop-at-preserved
loop-at-preserved g c = record {
  within = omega (arith, c.loop-at.invariant.within);
  known = c.in_ok-meet_part.ensures.known;
  met =
      more-met (g.P.Place.place c.args.place.now) (drop c.args.base c.args.stack.now) c.loop-at.met
      c.meet_part.new.met c.args.group.now c.loop-at.at _ (record { symbol = 0; place = 0 })
      (omega (arith, c.loop-at-test.true)) c.loop-at.invariant.within refl c.loop-at.invariant.met
      (c.in_ok-meet_part.ensures.met c.if-not-branch.false);
}

pub returns-clause-apart : goal.returns-clause-apart
returns-clause-apart g c = λ yes.
    let p = g.P.Place.place c.args.place.now in
    let entries = drop c.args.base c.args.stack.now in
    let group = c.args.group.now in
    let none : c.loop-at.at ≡ 0 = omega (arith, c.loop-at-test.false) in
    group-pairs p (g.met.P.Place.turned c.args.place.now) entries group
    ∙ ap (λ (n : ℕ). each_pair (are_parts_apart p entries) (drop n group)) (sym none)
    ∙ c.loop-at.invariant.met.apart (λ a b pair.
    c.are_together.ensures yes a b (ap (in_group a b) c.deref.ensures.value ∙ pair))
