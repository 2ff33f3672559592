use Rattle.std.proofs.Common.{◌≡◌, take}
use Rattle.mm_render.specs.Keys.{statement_key}
use Rattle.mm_render.proofs.places.statement_key.Given as goal

abbrev pub invariant-loop-hypothesis : goal.invariant-loop-hypothesis
invariant-loop-hypothesis l =
    l.key.items ≡ statement_key (take l.hypothesis-index l.hypotheses) l.conclusion
