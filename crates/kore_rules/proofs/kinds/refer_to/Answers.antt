use Rattle.std.proofs.Common.{◌≡◌, ◌<◌, ◌+◌, ◌∙◌, sym, ap, arith, Bool, length, drop, map, false}
use Rattle.std.specs.Prelude.{◌&&◌}
use Rattle.hook_table.specs.Rows.{plain_kind}
use Rattle.kore_rules.specs.ScalarSorts.{refer_to}
use Rattle.kore_rules.proofs.FinalLaws.{mismatch, refer_step}
use Rattle.kore_rules.proofs.kinds.refer_to.Goals as goal

pub returns-then-kinds-sorts : goal.returns-then-kinds-sorts
returns-then-kinds-sorts c =
    mismatch c.args.sig.now c.args.with_terms.now c.args.kinds.now c.args.sorts.now
    c.if-kinds-sorts.true

pub returns-then-not-refers_to : goal.returns-then-not-refers_to
returns-then-not-refers_to c =
    let i = c.loop-i.i in
    let rest =
    refer_to c.args.sig.now c.args.with_terms.now
    (map plain_kind (drop (i + 1) c.args.kinds.now)) (drop (i + 1) c.args.sorts.now) in
    let same = c.if-kinds-sorts.false in
    let lt = c.loop-i-test.true in
    let within : i < length c.args.sorts.now = omega (arith, same, lt) in
    sym (sym c.loop-i.invariant ∙ refer_step c.args.sig.now c.args.with_terms.now c.args.kinds.now
    c.args.sorts.now i _ _ lt within
    ∙ ap (λ (b : Bool). b && rest) (sym c.refers_to.ensures ∙ c.if-not-refers_to.true))

pub loop-i-preserved : goal.loop-i-preserved
loop-i-preserved c =
    let i = c.loop-i.i in
    let rest =
    refer_to c.args.sig.now c.args.with_terms.now
    (map plain_kind (drop (i + 1) c.args.kinds.now)) (drop (i + 1) c.args.sorts.now) in
    let same = c.if-kinds-sorts.false in
    let lt = c.loop-i-test.true in
    let within : i < length c.args.sorts.now = omega (arith, same, lt) in
    sym (refer_step c.args.sig.now c.args.with_terms.now c.args.kinds.now c.args.sorts.now i _ _ lt
    within
    ∙ ap (λ (b : Bool). b && rest) (sym c.refers_to.ensures ∙ c.if-not-refers_to.false))
    ∙ c.loop-i.invariant
