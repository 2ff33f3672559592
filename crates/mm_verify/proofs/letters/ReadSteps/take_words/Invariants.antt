use Rattle.std.specs.Prelude.{◌≡◌, ℕ, List, ◌++◌, drop}
use Rattle.mm_verify.specs.Reading.{meant, letters_of}
use Rattle.mm_verify.proofs.letters.ReadSteps.take_words.Given as goal

abbrev pub invariant-loop-token : goal.invariant-loop-token
invariant-loop-token l = (others : List ℕ)
    → meant l.fn.self (letters_of l.bytes l.tokens ++ others)
    ≡ meant l.self (letters_of l.bytes (drop l.token-index l.tokens) ++ others)
