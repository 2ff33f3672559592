use Rattle.std.proofs.Common.{◌≡◌, take}
use Rattle.mm_render.proofs.claims.claim_of.Given as goal

abbrev pub invariant-loop-hypothesis : goal.invariant-loop-hypothesis
invariant-loop-hypothesis l = l.shared.items ≡ take l.hypothesis-index l.hypotheses
