-- The nodes that are kept for patterns. The tree of each is the proof that its pattern is one.
use Rattle.std.specs.Prelude.{◌≡◌, ℕ, List, [], ◌∷◌, ◌++◌, Some}
use Rattle.std.specs.Ordering.{nat_cmp}
use Rattle.std.specs.BTreeMap.{BTreeMap, get}
use Rattle.mm_text.specs.Bytes.{Token}
use Rattle.mm_database.specs.Proofs.{ProofTree}
use Rattle.proof_nodes.specs.Tables.{Table, tree_of, IsNodeOf}
use Rattle.ml_pat.specs.Patterns.{Pattern}
use Rattle.mm_proof.specs.Labels.{own_labels}
use Rattle.mm_proof.specs.Listings.{token_at}
use Rattle.mm_proof.specs.Trees.{syntax_tree}
use Rattle.mm_proof.specs.declared.known.KnownSyntax.{KnownSyntax}

-- the tree of this node is the proof that the pattern is one, in the block of a statement
abbrev pub IsSyntaxAt : ℕ → List Token → Table → Pattern → ℕ → Type 0
IsSyntaxAt serial tokens nodes p node =
    IsNodeOf nodes node × (tree_of (token_at tokens) nodes node ≡ syntax_tree (own_labels serial) p)

-- each node that is kept is one of the proof that its pattern is one
abbrev pub AreSyntax : ℕ → List Token → Table → BTreeMap ℕ KnownSyntax → Type 0
AreSyntax serial tokens nodes known =
    (fingerprint : ℕ) (entry : KnownSyntax) → get nat_cmp known fingerprint ≡ Some entry
    → IsSyntaxAt serial tokens nodes entry.pattern entry.node.0

-- this node is kept for the pattern
abbrev pub IsKnown : BTreeMap ℕ KnownSyntax → Pattern → ℕ → Type 0
IsKnown known p node =
    (fingerprint : ℕ) × (entry : KnownSyntax) × (get nat_cmp known fingerprint ≡ Some entry)
    × (entry.pattern ≡ p) × (entry.node.0 ≡ node)

-- the last tree is the proof that the pattern is one
abbrev pub EndsWithSyntax : ℕ → Pattern → List ProofTree → Type 0
EndsWithSyntax serial p trees =
    (others : List ProofTree) × (trees ≡ others ++ syntax_tree (own_labels serial) p ∷ [])
