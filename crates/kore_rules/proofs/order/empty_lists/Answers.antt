use Rattle.std.proofs.Common.{◌≡◌, ◌+◌, ◌∙◌, ap, sym, [], subst, length, List, ℕ, Vec, arith}
use Rattle.std.specs.Global.{Global}
use Rattle.std.proofs.lemmas.List.{length_push}
use Rattle.rule_core.specs.declared.rules.Equation.{Equation}
use Rattle.kore_rules.specs.TrialOrder.{listed_at}
use Rattle.kore_rules.proofs.ListedLaws.{listed_push}
use Rattle.kore_rules.proofs.order.empty_lists.Goals as goal

pub loop-preserved : goal.loop-preserved
loop-preserved c = record {
  len = ap length c.in_ok-push.ensures.items ∙ length_push c.loop.lists.items c.new.result
      ∙ ap (λ (n : ℕ). n + 1) c.loop.invariant.len;
  empty = λ n.
      ap (λ (ls : List (Vec Equation Global)). listed_at ls n) c.in_ok-push.ensures.items
      ∙ listed_push c.loop.lists.items c.new.result n c.new.ensures.items
      (c.loop.invariant.empty n);
}
