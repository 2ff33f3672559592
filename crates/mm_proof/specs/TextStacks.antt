-- Stacks of parts of a text, and what is put on one for a pattern.
use Rattle.std.specs.Prelude.{◌≡◌, ℕ, ◌+◌, ◌*◌, ◌<◌, ◌≤◌, List, [], ◌∷◌, ◌++◌, length}
use Rattle.mm_text.specs.Bytes.{Token}
use Rattle.mm_text.specs.Written.{written}
use Rattle.mm_proof.specs.Tokens.{pattern_tokens}
use Rattle.mm_proof.specs.Writing.{part_tokens}
use Rattle.mm_proof.specs.declared.texts.TextPart.{TextPart}
use Rattle.mm_proof.specs.declared.texts.TextPart.TheVariants as part

-- what a stack of parts writes, the top last
abbrev pub stack_tokens : List Token → ℕ → List TextPart → List Token
stack_tokens names k [] = []
stack_tokens names k (w ∷ ws) = stack_tokens names k ws ++ part_tokens names k w

-- The weight of a part. A pattern has a weight for its tokens and for its parts.
abbrev pub part_weight : List Token → ℕ → TextPart → ℕ
part_weight names k (part.One w) = 1
part_weight names k (part.Pattern p) = 2 * length (pattern_tokens names p.now)

abbrev pub parts_weight : List Token → ℕ → List TextPart → ℕ
parts_weight names k [] = 0
parts_weight names k (w ∷ ws) = parts_weight names k ws + part_weight names k w

-- parts that write these tokens were put on a stack; their weight is less than twice the number of
-- tokens
pub record PutsText (tokens : List Token → ℕ → List Token) (old new : List TextPart) : Type 0 where
  pub writes : (names : List Token) (k : ℕ)
      → stack_tokens names k new ≡ tokens names k ++ stack_tokens names k old
  pub weight : (names : List Token) (k : ℕ)
      → parts_weight names k new < parts_weight names k old + 2 * length (tokens names k)

-- the same, but the weight may also be twice the number of tokens, because there may be no word
-- among the parts
pub record PutsParts (tokens : List Token → ℕ → List Token) (old new : List TextPart) : Type 0 where
  pub writes : (names : List Token) (k : ℕ)
      → stack_tokens names k new ≡ tokens names k ++ stack_tokens names k old
  pub weight : (names : List Token) (k : ℕ)
      → parts_weight names k new ≤ parts_weight names k old + 2 * length (tokens names k)

-- a part was taken from a stack: its word was written, or smaller parts were put on the stack
pub record IsWritten (names : List Token) (k : ℕ) (w : TextPart) (old new : List TextPart)
    (text text' : List ℕ) : Type 0 where
  pub writes : text' ++ written (stack_tokens names k new)
      ≡ text ++ written (part_tokens names k w ++ stack_tokens names k old)
  pub weight : parts_weight names k new < parts_weight names k old + part_weight names k w
