use Rattle.std.proofs.Common.{◌≡◌, ◌∙◌, ◌+◌, ℕ, sym, subst, arith}
use Rattle.rule_core.proofs.Belows.{below_answer}
use Rattle.pat_matrix.specs.Groups.{Gains}
use Rattle.pat_matrix.specs.Heads.{lower_takes}
use Rattle.pat_matrix.specs.declared.groups.Groups.{Groups}
use Rattle.pat_matrix.proofs.GroupLaws.{gains_lower, gains_past, gains_at_first}
use Rattle.pat_matrix.proofs.groups.add_lower.Goals as goal
use Rattle.pat_matrix.proofs.groups.add_lower.Goals.{then-below+in_ok-add, else-below}

pub loop-number-init : goal.loop-number-init
loop-number-init c =
    gains_at_first c.args.groups.now c.args.order.now.subsorts.now c.args.from.0 c.args.to.0
    c.args.row c.requires

pub loop-number-preserved : goal.loop-number-preserved
loop-number-preserved c =
    let P : Groups → Type 0 =
    λ g. Gains c.args.groups.now g
    (lower_takes c.args.order.now.subsorts.now (c.loop-number.number + 1) c.args.from.0
    c.args.to.0) c.args.row in
    elim c.if-below.branch [
      | then-below+in_ok-add w ↦
          subst P (sym w.groups-is)
          (gains_lower c.args.groups.now c.loop-number.groups _ c.args.order.now.subsorts.now
          c.loop-number.number c.args.from.0 c.args.to.0 c.args.row
          (sym (below_answer _ _ _ _ c.below.ensures) ∙ w.if-below.true)
          c.loop-number.invariant w.in_ok-add.ensures)
      | else-below w ↦
          subst P (sym w.groups-is)
          (gains_past c.args.groups.now c.loop-number.groups c.args.order.now.subsorts.now
          c.loop-number.number c.args.from.0 c.args.to.0 c.args.row
          (sym (below_answer _ _ _ _ c.below.ensures) ∙ w.if-below.false)
          c.loop-number.invariant)
    ]

pub returns : goal.returns
returns c =
    let all : c.loop-number.number ≡ c.args.order.now.sorts = omega arith in
    let P : ℕ → Type 0 =
    λ n. Gains c.args.groups.now c.loop-number.groups
    (lower_takes c.args.order.now.subsorts.now n c.args.from.0 c.args.to.0) c.args.row in
    subst P all c.loop-number.invariant
