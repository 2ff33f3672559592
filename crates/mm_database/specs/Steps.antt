-- The steps of a proof (Metamath book, "The Proof" and "Compressed Proof Format"). They build proof
-- trees, each tree after those below it. In a compressed proof a step may save the tree that was
-- built last. A saved step is the whole tree again.
use Rattle.std.specs.Prelude.{◌≡◌, ℕ, List, [], ◌∷◌, ◌++◌, Some, slice_get}
use Rattle.mm_text.specs.Bytes.{Token}
use Rattle.mm_database.specs.Database.{Context}
use Rattle.mm_database.specs.Proofs.{Expression, ProofTree, proof_node, ProofForest, no_proof}
use Rattle.mm_database.specs.Proofs.{more_proofs, AllProve}

-- a step: it cites something, such as a label; it saves the tree that was built last; or it is a
-- saved tree again, by its number from 0
pub data Step (A : Type 0) : Type 0 where
  cites : A → Step A
  saves : Step A
  repeats : ℕ → Step A

-- Steps build a tree, or a forest. The two lists are the trees that are saved before the steps and
-- after them.
mutual
  pub data Builds : List ProofTree → List (Step Token) → ProofTree → List ProofTree → Type 0 where
    by_label : (before : List ProofTree) (steps : List (Step Token)) (label : Token)
        (trees : ProofForest) (behind : List ProofTree) → AllBuild before steps trees behind
        → Builds before (steps ++ cites label ∷ []) (proof_node label trees) behind
    by_saving : (before : List ProofTree) (steps : List (Step Token)) (tree : ProofTree)
        (behind : List ProofTree) → Builds before steps tree behind
        → Builds before (steps ++ saves ∷ []) tree (behind ++ tree ∷ [])
    by_repeating : (before : List ProofTree) (n : ℕ) (tree : ProofTree)
        → slice_get before n ≡ Some tree → Builds before (repeats n ∷ []) tree before

  pub data AllBuild : List ProofTree → List (Step Token) → ProofForest → List ProofTree
      → Type 0 where
    no_steps : (before : List ProofTree) → AllBuild before [] no_proof before
    more_steps : (before : List ProofTree) (steps : List (Step Token)) (tree : ProofTree)
        (between : List ProofTree) (others : List (Step Token)) (trees : ProofForest)
        (behind : List ProofTree) → Builds before steps tree between
        → AllBuild between others trees behind
        → AllBuild before (steps ++ others) (more_proofs tree trees) behind

-- the steps build a forest that proves these expressions
pub record BuildsAndProves (c : Context) (steps : List (Step Token)) (results : List Expression) :
    Type 0 where
  pub forest : ProofForest
  pub saved : List ProofTree
  pub builds : AllBuild [] steps forest saved
  pub proves : AllProve c forest results
