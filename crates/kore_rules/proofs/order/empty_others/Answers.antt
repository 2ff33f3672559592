use Rattle.std.proofs.Common.{◌≤◌, ◌<◌, ◌+◌, ◌∙◌, ap, sym, subst, arith, length}
use Rattle.std.specs.Prelude.{Vec}
use Rattle.std.specs.Global.{Global}
use Rattle.std.proofs.lemmas.List.{length-set}
use Rattle.rule_core.specs.declared.rules.Equation.{Equation}
use Rattle.kore_rules.specs.TrialOrder.{has_equations}
use Rattle.kore_rules.proofs.ListedLaws.{AreEmptiedTo, one_kept, one_emptied, all_emptied}
use Rattle.kore_rules.proofs.order.empty_others.Goals.{then-not-has_equations}
use Rattle.kore_rules.proofs.order.empty_others.Goals.{else-not-has_equations}
use Rattle.kore_rules.proofs.order.empty_others.Goals as goal

abbrev Lists : Type 0
Lists = Vec (Vec Equation Global) Global

pub loop-number-preserved : goal.loop-number-preserved
loop-number-preserved c =
    elim c.if-not-has_equations.branch [
      | then-not-has_equations w ↦ (
          let within : c.loop-number.number < length c.loop-number.lists.items =
          (let a = c.loop-number-test.true in
          let b = c.len-number-end.ensures in
          let d = c.loop-number.invariant.len in omega (arith, a, b, d)) in
          record {
            len = ap (λ (v : Lists). length v.items) w.lists-is
                ∙ length-set c.loop-number.lists.items c.loop-number.number w.new.result
                ∙ c.loop-number.invariant.len;
            emptied =
                subst (λ (v : Lists). AreEmptiedTo (has_equations c.args.symbols.now)
                c.args.lists.now.items v.items (c.loop-number.number + 1)) (sym w.lists-is)
                (one_emptied (has_equations c.args.symbols.now) c.args.lists.now.items
                c.loop-number.lists.items c.loop-number.number w.new.result
                (sym c.has_equations.ensures ∙ w.if-not-has_equations.true) within
                w.new.ensures.items c.loop-number.invariant.emptied);
          }
          )
      | else-not-has_equations w ↦
          record {
            len = ap (λ (v : Lists). length v.items) w.lists-is ∙ c.loop-number.invariant.len;
            emptied =
                subst (λ (v : Lists). AreEmptiedTo (has_equations c.args.symbols.now)
                c.args.lists.now.items v.items (c.loop-number.number + 1)) (sym w.lists-is)
                (one_kept (has_equations c.args.symbols.now) c.args.lists.now.items
                c.loop-number.lists.items c.loop-number.number
                (sym c.has_equations.ensures ∙ w.if-not-has_equations.false)
                c.loop-number.invariant.emptied);
          }
    ]

pub returns : goal.returns
returns c =
    let long : length c.args.lists.now.items ≤ c.loop-number.number =
    (let a = c.loop-number-test.false in
    let b = c.len-number-end.ensures in omega (arith, a, b)) in
    record {
      len = c.loop-number.invariant.len;
      listed =
          all_emptied (has_equations c.args.symbols.now) c.args.lists.now.items
          c.loop-number.lists.items c.loop-number.number long c.loop-number.invariant.emptied;
    }
