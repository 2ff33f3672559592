use Rattle.std.proofs.Common.{◌<◌, ◌-◌, length, ap, sym, ◌∙◌, arith, Some}
use Rattle.ml_pat.specs.Patterns.{Pattern}
use Rattle.ml_image.specs.Sentences.{sentence_image}
use Rattle.prove_term.proofs.ContextLaws.{grown_none, grown_twice}
use Rattle.guard_body.proofs.ImageLaws.{members_none, members_next}
use Rattle.guard_body.proofs.images.members_image.Goals as goal

pub loop-i-init : goal.loop-i-init
loop-i-init c = record {
  image =
      ap (sentence_image c.args.cx.now.program.sig c.args.cx.now.names)
      (members_none c.args.arguments.now)
      ∙ ap (λ (p : Pattern). Some p) (sym c.in_ok-made.ensures);
  grown = grown_none c.args.cx.now;
}

pub loop-i-preserved : goal.loop-i-preserved
loop-i-preserved c =
    let low : c.loop-i.i - 1 < length c.args.arguments.now =
    omega (arith, c.loop-i-test.true, c.loop-i.auto.i) in
    record {
      image =
          members_next c.loop-i.cx c.member_image.new.cx c.args.arguments.now c.loop-i.i
          (c.loop-i.i - 1) c.index-arguments-i.result c.in_ok-member.member c.loop-i.made
          c.in_ok-made-2.made (omega (arith, c.loop-i-test.true)) low c.index-arguments-i.is
          c.in_ok-member.ensures.grown c.loop-i.invariant.image c.in_ok-member.ensures.image
          c.in_ok-made-2.ensures;
      grown =
          grown_twice c.args.cx.now c.loop-i.cx c.member_image.new.cx c.loop-i.invariant.grown
          c.in_ok-member.ensures.grown;
    }
