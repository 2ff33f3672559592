use Rattle.std.proofs.Common.{◌≡◌, ◌∙◌}
use Rattle.ml_pat.specs.Patterns.{Pattern, and, bot, imp, not}
use Rattle.ml_derived.proofs.StayingLaws.{if_ok}
use Rattle.stuck_prove.proofs.bodies.none_in.Goals.{After-denied-both}
use Rattle.stuck_prove.proofs.bodies.none_in.Goals as goal

same_both : (x g a n h k m : Pattern) → x ≡ imp g a → a ≡ not n → x ≡ imp h (not m) → n ≡ m
same_both x g a n h k m is denied other = cc

same_parts : (x h k m n : Pattern) → x ≡ imp h (not m) → x ≡ imp k (not n) → m ≡ n
same_parts x h k m n one other = cc

pub sides-requires : goal.sides-requires
sides-requires c = (
  c.args.g.now,
  not (and c.requires.q c.requires.t),
  c.conclusion.ensures
      ∙ c.in_ok-apart.ensures.conclusion c.args.g.now c.requires.h
      (not (and c.requires.q c.requires.t)) c.requires.is_weaker c.requires.is_none,
)

both_is : (c : After-denied-both) → c.denied-both.result.now ≡ and c.requires.q c.requires.t
both_is c =
    same_both c.conclusion.result.now c.sides.result.0.now c.sides.result.1.now
    c.denied-both.result.now c.args.g.now c.args.g.now (and c.requires.q c.requires.t)
    c.sides.ensures c.denied-both.ensures
    (c.conclusion.ensures
    ∙ c.in_ok-apart.ensures.conclusion c.args.g.now c.requires.h
    (not (and c.requires.q c.requires.t)) c.requires.is_weaker c.requires.is_none)

pub from_both-requires-clause-both : goal.from_both-requires-clause-both
from_both-requires-clause-both c =
    (c.requires.q, c.requires.t, both_is (goal.at.from_both-requires-clause-both c).After-denied-both)

pub returns-clause-conclusion : goal.returns-clause-conclusion
returns-clause-conclusion c =
    if_ok c.from_both.result
    (λ r says h q t none.
    says q t bot
    (both_is (goal.at.returns-clause-conclusion c).After-denied-both
    ∙ same_parts c.args.none.now.conclusion c.requires.h h (and c.requires.q c.requires.t)
    (and q t) c.requires.is_none none)
    c.in_ok-nothing.ensures.conclusion)
    c.from_both.ensures.conclusion
