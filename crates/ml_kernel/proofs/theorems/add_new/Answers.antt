use Rattle.std.proofs.Common.{◌≡◌, ◌<◌, ◌+◌, true, take, length, ap, sym, subst, List, arith}
use Rattle.std.specs.Prelude.{Contains}
use Rattle.std.proofs.lemmas.Grind.{common_steps}
use Rattle.ml_pat.specs.Patterns.{Pattern}
use Rattle.ml_kernel.specs.Theorems.{AddsNew}
use Rattle.ml_kernel.proofs.Merging.{AddsNew-next_there, AddsNew-next_new}
use Rattle.ml_kernel.proofs.theorems.add_new.Goals as goal
use Rattle.ml_kernel.proofs.theorems.add_new.Goals.{then-not-contains+in_ok-share+in_ok-push}
use Rattle.ml_kernel.proofs.theorems.add_new.Goals.{else-not-contains}

pub loop-p-preserved : goal.loop-p-preserved
loop-p-preserved c =
    let lt : c.loop-p.p-index < length c.args.from.now = omega arith in
    elim c.if-not-contains.branch [
      | then-not-contains+in_ok-share+in_ok-push w ↦
          AddsNew-next_new c.args.old.now.items c.args.from.now c.loop-p.old.items
          c.if-not-contains.old.items c.loop-p.p-index c.p-item.result c.loop-p.invariant lt
          c.p-item.is
          (λ k. let b : c.contains.result ≡ true =
          c.contains.ensures.1 (subst (λ (o : List Pattern). Contains o c.p-item.result)
          (sym c.deref.ensures.value) k) in
          absurd (let z : ⊥ = cc (b, w.if-not-contains.true) in z))
          (grind (arith, common_steps))
      | else-not-contains w ↦
          subst (λ (o : List Pattern).
          AddsNew c.args.old.now.items (take (c.loop-p.p-index + 1) c.args.from.now) o)
          (ap (λ v. v.items) (sym w.old-is))
          (AddsNew-next_there c.args.old.now.items c.args.from.now c.loop-p.old.items
          c.loop-p.p-index c.p-item.result c.loop-p.invariant lt c.p-item.is
          (subst (λ (o : List Pattern). Contains o c.p-item.result) c.deref.ensures.value
          (c.contains.ensures.0 w.if-not-contains.false)))
    ]
