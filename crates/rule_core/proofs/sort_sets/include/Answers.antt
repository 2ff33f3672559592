use Rattle.std.proofs.Common.{ℕ, ◌≡◌, ◌≤◌, refl, arith}
use Rattle.std.proofs.lemmas.Grind.{common_steps}
use Rattle.rule_core.specs.SubsortFields.{word_at}
use Rattle.rule_core.proofs.SortWords.{has_joined, joined_none, joined_words}
use Rattle.rule_core.proofs.sort_sets.include.Goals as goal

pub loop-k-init : goal.loop-k-init
loop-k-init c = record {
  room = refl;
  done = λ z lt. joined_none _ _ (c.requires.none z lt);
  rest = λ z le. refl;
}

pub returns : goal.returns
returns c =
    let none : (z : ℕ) → c.loop-k.k ≤ z → word_at c.args.more.now z ≡ 0 =
    λ z le. grind (arith, common_steps) in
    has_joined _ _ _
    (joined_words _ _ _ c.loop-k.k c.loop-k.invariant.done c.loop-k.invariant.rest none)
