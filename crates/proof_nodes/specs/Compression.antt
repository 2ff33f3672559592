-- What a compressed proof of a table says.
use Rattle.std.specs.Prelude.{◌≡◌, ◌<◌, ℕ, List, [], ◌∷◌, ◌++◌, map, codes}
use Rattle.mm_text.specs.Bytes.{Token}
use Rattle.mm_database.specs.Proofs.{ProofTree}
use Rattle.mm_database.specs.ProofTexts.{Compresses}
use Rattle.proof_nodes.specs.Tables.{Table, stack_trees, AllBelow, LabelsBelow}

-- two labels below this number are spelled alike only if they are the same
abbrev pub AreToldApart : ℕ → (ℕ → Token) → Type 0
AreToldApart bound token =
    (a b : ℕ) → a < bound → b < bound → token a ≡ token b → a ≡ b

-- the text of a compressed proof, as tokens
abbrev pub proof_text : (ℕ → Token) → List ℕ → Token → List Token
proof_text token listed letters =
    codes "(" ∷ (map token listed ++ (codes ")" ∷ (letters ∷ [])))

-- for each way to spell the labels, these labels and letters compress the only tree on the stack
abbrev pub IsCompressed : Table → List ℕ → List ℕ → Token → Type 0
IsCompressed table mandatory listed letters =
    (bound : ℕ) (token : ℕ → Token) (tree : ProofTree) → AreToldApart bound token
    → LabelsBelow bound table → AllBelow bound mandatory → stack_trees token table ≡ tree ∷ []
    → Compresses (map token mandatory) tree (proof_text token listed letters)
