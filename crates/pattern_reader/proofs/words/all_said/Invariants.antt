use Rattle.std.proofs.Common.{take}
use Rattle.pattern_reader.specs.Readings.{texts, AreKept, GainsOnly}
use Rattle.pattern_reader.specs.Words.{AllSay}
use Rattle.pattern_reader.specs.Views.{words_of}
use Rattle.pattern_reader.proofs.words.all_said.Given as goal

abbrev pub invariant-loop-token : goal.invariant-loop-token
invariant-loop-token l =
    AllSay l.names (texts (take l.token-index l.tokens)) (words_of l.words.items)
    × AreKept l.initial.names l.names
    × GainsOnly (texts l.tokens) l.initial.names l.names
