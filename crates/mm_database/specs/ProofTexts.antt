-- Proofs by a tree, as tokens in normal and in compressed notation (Metamath book, "The Proof" and
-- "Compressed Proof Format").
use Rattle.std.specs.Prelude.{◌≡◌, true, false, List, [], ◌∷◌, ◌++◌, Some}
use Rattle.std.specs.Prelude.{codes}
use Rattle.std.specs.List.{list_any, list_all}
use Rattle.mm_text.specs.Bytes.{Token, has_token, has_repeated}
use Rattle.mm_database.specs.Proofs.{ProofTree, postorder}
use Rattle.mm_database.specs.Steps.{Step, Builds}
use Rattle.mm_database.specs.ProofText.{lettered_steps}

-- The tokens are a compressed proof by a tree, in a statement with these mandatory labels. In
-- parentheses it lists other labels of the tree, each once. The letters after them mean steps that
-- build the tree.
pub record Compresses (mandatory : List Token) (tree : ProofTree) (proof : List Token) : Type 0
  where
    pub listed : List Token
    pub letters : Token
    pub steps : List (Step Token)
    pub saved : List ProofTree
    pub is : proof ≡ codes "(" ∷ (listed ++ (codes ")" ∷ (letters ∷ [])))
    pub once : has_repeated listed ≡ false
    pub others : list_any (has_token mandatory) listed ≡ false
    pub used : list_all (has_token (postorder tree)) listed ≡ true
    pub means : lettered_steps (mandatory ++ listed) letters ≡ Some steps
    pub builds : Builds [] steps tree saved

-- the tokens are a proof by a tree: its labels in postorder, or a compressed proof
pub data IsProofText (mandatory : List Token) (tree : ProofTree) : List Token → Type 0 where
  by_labels : IsProofText mandatory tree (postorder tree)
  by_letters : (proof : List Token) → Compresses mandatory tree proof
      → IsProofText mandatory tree proof
