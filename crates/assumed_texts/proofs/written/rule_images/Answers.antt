use Rattle.std.proofs.Common.{◌≡◌, ◌+◌, Some, sym, subst, arith}
use Rattle.std.specs.Prelude.{slice_get}
use Rattle.rule_core.specs.ProgramView.{theory_of}
use Rattle.ml_image.proofs.ImageLaws.{gained_twice, gained-nothing}
use Rattle.assumed_texts.specs.Listing.{Lists, IsRuleBefore}
use Rattle.assumed_texts.proofs.ListingLaws.{rule-ready, rule-listed, none-listed, rules-listed}
use Rattle.assumed_texts.proofs.ListingLaws.{item-at}
use Rattle.assumed_texts.proofs.written.rule_images.Goals as goal

pub rule_image-requires : goal.rule_image-requires
rule_image-requires c =
    rule-ready c.args.program.now c.loop-rule.rule-index c.rule-item.result c.requires.sorted
    c.requires.bound
    (item-at c.args.program.now.rules.items c.deref-rule-items.result.now c.loop-rule.rule-index
    c.rule-item.result c.deref-rule-items.ensures.value c.rule-item.is c.loop-rule-test.true)

pub loop-rule-init : goal.loop-rule-init
loop-rule-init c = (
  subst (Lists (theory_of c.args.program.now) c.args.names.now
      (IsRuleBefore (theory_of c.args.program.now) 0)) (sym c.in_ok-images.ensures.items)
      (none-listed (theory_of c.args.program.now) c.args.names.now),
  gained-nothing c.args.program.now.sig c.args.names.now,
)

pub loop-rule-preserved : goal.loop-rule-preserved
loop-rule-preserved c =
    let at : slice_get c.args.program.now.rules.items c.loop-rule.rule-index
    ≡ Some c.rule-item.result =
    item-at c.args.program.now.rules.items c.deref-rule-items.result.now c.loop-rule.rule-index
    c.rule-item.result c.deref-rule-items.ensures.value c.rule-item.is c.loop-rule-test.true in
    let more = rule-listed c.args.program.now c.loop-rule.names c.rule_image.new.names
    c.loop-rule.images.items c.loop-rule.rule-index c.rule-item.result c.in_ok-image.image at
    c.loop-rule.invariant.0 c.in_ok-image.ensures.names c.in_ok-image.ensures.image in (
      subst (Lists (theory_of c.args.program.now) c.rule_image.new.names
          (IsRuleBefore (theory_of c.args.program.now) (c.loop-rule.rule-index + 1)))
          (sym c.in_ok-push.ensures.items) more,
      gained_twice c.args.program.now.sig c.args.names.now c.loop-rule.names
          c.rule_image.new.names c.loop-rule.invariant.1 c.in_ok-image.ensures.names,
    )

pub returns-clause-images : goal.returns-clause-images
returns-clause-images c =
    rules-listed c.args.program.now c.loop-rule.names c.loop-rule.images.items
    c.loop-rule.rule-index (omega arith) c.loop-rule.invariant.0
