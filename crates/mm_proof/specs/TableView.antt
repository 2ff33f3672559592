-- The trees that the fields of a proof table hold.
use Rattle.std.specs.Prelude.{◌≡◌, ℕ, List, ◌++◌, map, length}
use Rattle.std.specs.Global.{Vec}
use Rattle.mm_text.specs.Bytes.{Token}
use Rattle.proof_nodes.specs.Tables.{AllBelow, LabelsBelow}
use Rattle.mm_proof.specs.KnownTrees.{AreSyntax}
use Rattle.mm_proof.specs.Listings.{Listing, token_at}
use Rattle.mm_proof.specs.declared.table.ProofTable.TheInside.{Inside}

-- the tokens that a set holds, by number
abbrev pub tokens_of : List (Vec ℕ) → List Token
tokens_of keys = map (λ k. k.items) keys

-- tokens keep their numbers
abbrev pub HasGrown : List Token → List Token → Type 0
HasGrown old new = (more : List Token) × (new ≡ old ++ more)

-- the numbers are those of these tokens
abbrev pub AreNumbersOf : List Token → List Token → List ℕ → Type 0
AreNumbersOf tokens sought numbers =
    (map (token_at tokens) numbers ≡ sought) × AllBelow (length tokens) numbers

abbrev pub listing_of : Inside → Listing
listing_of t = record {
  serial = t.serial;
  tokens = tokens_of t.tokens.keys;
  nodes = t.nodes;
}

-- each label of a node is the number of a token, and what is kept for a pattern is the proof that
-- it is one
pub record IsTable (t : Inside) : Type 0 where
  pub labels : LabelsBelow (length (tokens_of t.tokens.keys)) t.nodes
  pub known : AreSyntax t.serial (tokens_of t.tokens.keys) t.nodes t.known
