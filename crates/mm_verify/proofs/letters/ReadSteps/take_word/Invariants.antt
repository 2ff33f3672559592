use Rattle.std.specs.Prelude.{◌≡◌, ℕ, List, ◌++◌, drop}
use Rattle.mm_verify.specs.Reading.{meant}
use Rattle.mm_verify.proofs.letters.ReadSteps.take_word.Given as goal

abbrev pub invariant-loop-byte : goal.invariant-loop-byte
invariant-loop-byte l = (others : List ℕ)
    → meant l.fn.self (l.word ++ others) ≡ meant l.self (drop l.byte-index l.word ++ others)
