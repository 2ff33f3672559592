-- What a proof that is being built consists of.
use Rattle.std.specs.Prelude.{◌≡◌, ℕ, List, [], ◌∷◌, ◌++◌, map, get_or}
use Rattle.mm_text.specs.Bytes.{Token}
use Rattle.mm_text.specs.Written.{written}
use Rattle.mm_database.specs.Proofs.{ProofTree}
use Rattle.mm_database.specs.ProofTexts.{Compresses}
use Rattle.proof_nodes.specs.Tables.{Table, empty_table, stack_trees}
use Rattle.mm_proof.specs.Writing.{label_token}
use Rattle.mm_proof.specs.declared.words.Label.{Label}

-- The number of the statement whose proof it is, the tokens of the labels by number, and the nodes.
pub record Listing : Type 0 where
  pub serial : ℕ
  pub tokens : List Token
  pub nodes : Table

abbrev pub token_at : List Token → ℕ → Token
token_at tokens n = get_or tokens n []

-- the trees that were built, the last one on top
abbrev pub trees_of : Listing → List ProofTree
trees_of l = stack_trees (token_at l.tokens) l.nodes

abbrev pub empty_listing : ℕ → Listing
empty_listing k = record { serial = k; tokens = []; nodes = empty_table }

-- these trees were built after the others
abbrev pub Builds : (ℕ → List ProofTree) → Listing → Listing → Type 0
Builds trees old new =
    (new.serial ≡ old.serial) × (trees_of new ≡ trees_of old ++ trees old.serial)

abbrev pub HasOneTree : Listing → Type 0
HasOneTree l = (tree : ProofTree) × (trees_of l ≡ tree ∷ [])

-- a compressed proof by the only tree was appended to a text
pub record WritesProof (l : Listing) (mandatory : List Label) (text text' : List ℕ) : Type 0 where
  pub proof : List Token
  pub compresses : (tree : ProofTree) → trees_of l ≡ tree ∷ []
      → Compresses (map (label_token l.serial) mandatory) tree proof
  pub appended : text' ≡ text ++ written proof
