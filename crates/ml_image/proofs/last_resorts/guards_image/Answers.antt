use Rattle.std.proofs.Common.{◌≡◌, ◌<◌, ◌+◌, ◌-◌, ◌^◌, ℕ, List, length, map, take}
use Rattle.std.proofs.Common.{ap}
use Rattle.std.proofs.Common.{sym, ◌∙◌, arith}
use Rattle.std.proofs.Math.Seq.{take_all}
use Rattle.rule_core.specs.ProgramView.{guard_of, function_equation}
use Rattle.rule_core.specs.declared.rules.Guard.{Guard}
use Rattle.ml_image.specs.HasImages.{after_guards}
use Rattle.ml_image.proofs.ImageLaws.{gained_twice, gained-nothing}
use Rattle.ml_image.proofs.LastResortLaws.{after_next, after_first, guards_none, guards_next}
use Rattle.ml_image.proofs.LastResortLaws.{each_is}
use Rattle.ml_image.proofs.last_resorts.guards_image.Goals.{After-len}
use Rattle.ml_image.proofs.last_resorts.guards_image.Goals as goal

pub loop-i-init : goal.loop-i-init
loop-i-init c = record {
  numbers =
      c.after_guards-next.ensures
      ∙ ap (λ (gs : List Guard). after_guards c.args.first (map guard_of gs))
      (sym (take_all (length c.args.guards.now) c.args.guards.now (omega arith)));
  images =
      guards_none c.args.sig.now c.args.names.now (map function_equation c.args.equations.now)
      c.after_guards-next.result c.args.guards.now c.in_ok-made.made c.in_ok-made.ensures;
  gained = gained-nothing c.args.sig.now c.args.names.now;
}

-- the number after those of this guard is the number after those before it, and their number
before : (c : After-len)
    → c.loop-i.next
    ≡ after_guards c.args.first (map guard_of (take (c.loop-i.i - 1) c.args.guards.now))
    + length c.index-guards-i.result.order.items
before c =
    let low : c.loop-i.i - 1 < length c.args.guards.now =
    omega (arith, c.loop-i-test.true, c.loop-i.auto.i) in
    let one : c.loop-i.i ≡ c.loop-i.i - 1 + 1 = omega (arith, c.loop-i-test.true) in
    c.loop-i.invariant.numbers
    ∙ ap (λ (n : ℕ). after_guards c.args.first (map guard_of (take n c.args.guards.now))) one
    ∙ after_next c.args.first c.args.guards.now (c.loop-i.i - 1) c.index-guards-i.result low
    ∙ ap (λ (g : Guard).
    after_guards c.args.first (map guard_of (take (c.loop-i.i - 1) c.args.guards.now))
    + length g.order.items) (sym c.index-guards-i.is)

few : (c : After-len) → c.loop-i.next < 2 ^ 32
few c =
    omega (
      arith,
      c.loop-i.invariant.numbers,
      after_first c.args.first c.args.guards.now c.loop-i.i,
      c.requires.few,
    )

pub overflow_cast-next : goal.overflow_cast-next
overflow_cast-next c =
    let at : After-len = (goal.at.overflow_cast-next c).After-len in
    omega (arith, few at, before at, c.len.ensures)

pub overflow_sub-next : goal.overflow_sub-next
overflow_sub-next c =
    omega (arith, before (goal.at.overflow_sub-next c).After-len, c.len.ensures)

pub guard_image-requires-clause-guard : goal.guard_image-requires-clause-guard
guard_image-requires-clause-guard c =
    let low : c.loop-i.i - 1 < length c.args.guards.now =
    omega (arith, c.loop-i-test.true, c.loop-i.auto.i) in
    each_is (map function_equation c.args.equations.now) c.args.guards.now (c.loop-i.i - 1)
    c.index-guards-i.result low c.index-guards-i.is c.requires.each

pub guard_image-requires-clause-few : goal.guard_image-requires-clause-few
guard_image-requires-clause-few c =
    let at : After-len = (goal.at.guard_image-requires-clause-few c).After-len in
    omega (arith, few at, before at, c.len.ensures)

pub loop-i-preserved : goal.loop-i-preserved
loop-i-preserved c =
    let at : After-len = (goal.at.loop-i-preserved c).After-len in
    let low : c.loop-i.i - 1 < length c.args.guards.now =
    omega (arith, c.loop-i-test.true, c.loop-i.auto.i) in
    record {
      numbers = omega (arith, before at, c.len.ensures);
      images =
          guards_next c.args.sig.now c.loop-i.names c.guard_image.new.names
          (map function_equation c.args.equations.now) (c.loop-i.next - c.len.result) c.loop-i.next
          c.loop-i.i (c.loop-i.i - 1) c.args.guards.now c.index-guards-i.result c.in_ok-one.one
          c.loop-i.made c.in_ok-made-2.made (omega (arith, c.loop-i-test.true)) low
          c.index-guards-i.is c.guard_image.ensures.names
          (omega (arith, before at, c.len.ensures)) c.loop-i.invariant.images
          c.in_ok-one.ensures.image c.in_ok-made-2.ensures;
      gained = gained_twice _ _ _ _ c.loop-i.invariant.gained c.guard_image.ensures.names;
    }
