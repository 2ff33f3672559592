use Rattle.refute.proofs.WeakFacts.{AreWeakened}
use Rattle.refute.proofs.supposing.denying.Given as goal

abbrev pub invariant-loop-fact : goal.invariant-loop-fact
invariant-loop-fact l = AreWeakened l.weaker l.given.facts.items l.facts.items l.fact-index
