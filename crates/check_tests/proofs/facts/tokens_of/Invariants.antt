use Rattle.pattern_reader.specs.Readings.{AreUtf8}
use Rattle.check_tests.proofs.facts.tokens_of.Given as goal

abbrev pub invariant-loop-token : goal.invariant-loop-token
invariant-loop-token l = AreUtf8 l.tokens.items
