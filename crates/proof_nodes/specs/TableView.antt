-- The table that the fields of a `ProofNodes` hold.
use Rattle.std.specs.Prelude.{◌≡◌, ◌≤◌, ℕ, List, map, length, slice_get, Some}
use Rattle.proof_nodes.specs.Tables.{Node, Table, AllBelow}
use Rattle.proof_nodes.specs.Links.{Link, parts_of, AreLinks}
use Rattle.proof_nodes.specs.declared.nodes.ProofNodes.TheInside.{Inside}

-- the node of a label and a chain of parts
abbrev pub node_of : List Link → ℕ × ℕ → Node
node_of links key = (key.0, parts_of links key.1)

abbrev pub nodes_of : List Link → List (ℕ × ℕ) → List Node
nodes_of links keys = map (node_of links) keys

-- the chains are there, and the parts of each node are nodes before it
abbrev pub AreKeys : List Link → List (ℕ × ℕ) → Type 0
AreKeys links keys =
    (i : ℕ) (key : ℕ × ℕ) → slice_get keys i ≡ Some key
    → (key.1 ≤ length links) × AllBelow i (parts_of links key.1)

abbrev pub table_of : Inside → Table
table_of p = (nodes_of p.links.keys p.keys.keys, p.stack.items)

pub record IsTable (p : Inside) : Type 0 where
  pub links : AreLinks p.links.keys
  pub keys : AreKeys p.links.keys p.keys.keys
  pub stack : AllBelow (length p.keys.keys) p.stack.items
