use Rattle.std.proofs.Common.{◌≡◌, ℕ, List, take}
use Rattle.ml_pat.specs.Patterns.{Pattern}
use Rattle.prove_schema.specs.Using.{AreFacts}
use Rattle.prove_schema.proofs.using.subjects.Given as goal

abbrev pub invariant-loop-fact : goal.invariant-loop-fact
invariant-loop-fact l =
    (qs : List Pattern) (ns : List ℕ) → AreFacts qs ns l.facts
    → l.patterns.items ≡ take l.fact-index qs
