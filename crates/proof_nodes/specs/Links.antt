-- Lists of parts as chains: a link is a chain before it and a last part. The chain 0 is empty, and
-- the link at a place makes the chain with the next number.
use Rattle.std.specs.Prelude.{◌≡◌, ◌≤◌, ◌⊎◌, ℕ, List, [], ◌∷◌, ◌++◌, length, get_or, slice_get}
use Rattle.std.specs.Prelude.{Some}
use Rattle.proof_nodes.specs.Tables.{grown}

abbrev pub Link : Type 0
Link = ℕ × ℕ

abbrev pub linked : List (List ℕ) → Link → List ℕ
linked chains link = get_or chains link.0 [] ++ link.1 ∷ []

-- the parts of each chain
abbrev pub chains_of : List Link → List (List ℕ)
chains_of links = grown linked ([] ∷ []) links

abbrev pub parts_of : List Link → ℕ → List ℕ
parts_of links chain = get_or (chains_of links) chain []

-- each link goes on from a chain before it
abbrev pub AreLinks : List Link → Type 0
AreLinks links = (i : ℕ) (link : Link) → slice_get links i ≡ Some link → link.0 ≤ i

-- a pair was added at the end, or was there
abbrev pub Gains : {A : Type 0} → A → List A → List A → Type 0
Gains x old new = (new ≡ old) ⊎ (new ≡ old ++ x ∷ [])

-- each chain is still there, with its parts
abbrev pub KeepsChains : List Link → List Link → Type 0
KeepsChains old new =
    (length old ≤ length new)
    × ((chain : ℕ) → chain ≤ length old → parts_of new chain ≡ parts_of old chain)
