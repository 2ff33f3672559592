use Rattle.std.proofs.Common.{◌≡◌, take}
use Rattle.mm_text.specs.Reader.{words_of}
use Rattle.mm_check.specs.Stated.{words}
use Rattle.mm_check.proofs.asserting.words.Given as goal

abbrev pub invariant-loop-token : goal.invariant-loop-token
invariant-loop-token l = words l.words.items ≡ words_of l.bytes (take l.token-index l.tokens)
