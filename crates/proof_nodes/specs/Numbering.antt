-- Labels and saved steps by number, and the letters of these numbers.
use Rattle.std.specs.Prelude.{◌≡◌, ◌≢◌, ℕ, ◌+◌, List, [], ◌∷◌, ◌++◌, map, slice_get, Some}
use Rattle.std.specs.Prelude.{MatchOption, nat_eq}
use Rattle.indexmap.specs.IndexMap.{get}
use Rattle.mm_text.specs.Bytes.{Token}
use Rattle.mm_text.specs.Numbers.{Spells}
use Rattle.mm_database.specs.Steps.{Builds}
use Rattle.mm_database.specs.Proofs.{ProofTree}
use Rattle.mm_database.specs.ProofText.{lettered_steps}
use Rattle.proof_nodes.specs.Walking.{labels_of, meanings_of}
use Rattle.proof_nodes.specs.declared.letters.Numbering.{Numbering}
use Rattle.proof_nodes.specs.declared.walk.ProofStep.{ProofStep}
use Rattle.proof_nodes.specs.declared.walk.ProofStep.TheVariants.{Cites, CitesAndSaves, Repeats}

-- the number is not in the list
abbrev pub IsNoneOf : ℕ → List ℕ → Type 0
IsNoneOf n [] = Unit {0}
IsNoneOf n (m ∷ ms) = (m ≢ n) × IsNoneOf n ms

-- none of the labels is in the table or among the labels before it
abbrev pub AreNew : List ℕ → List ℕ → Type 0
AreNew table [] = Unit {0}
AreNew table (label ∷ labels) = IsNoneOf label table × AreNew (table ++ label ∷ []) labels

-- each label of a list is in another one
abbrev pub AreAmong : List ℕ → List ℕ → Type 0
AreAmong labels [] = Unit {0}
AreAmong labels (l ∷ ls) = ((i : ℕ) × (slice_get labels i ≡ Some l)) × AreAmong labels ls

-- each label of the table has a place, and other labels have none
abbrev pub HasPlaces : Numbering → Type 0
HasPlaces n =
    (label : ℕ) → MatchOption (get nat_eq n.places label) (IsNoneOf label n.table.items)
    (λ place. slice_get n.table.items place ≡ Some label)

-- the table has this label at this place, and stayed or got the label, which was new
abbrev pub Places : ℕ → ℕ → List ℕ → List ℕ → Type 0
Places label place old new =
    (slice_get new place ≡ Some label) × (more : List ℕ) × (new ≡ old ++ more)
    × AreNew old more × AreAmong (label ∷ []) more

-- a step with a label, and the same step with the label's place in a table
abbrev pub IsPlaced : List ℕ → ProofStep → ProofStep → Type 0
IsPlaced table (Cites label) placed =
    (p : ℕ) × (placed ≡ Cites p) × (slice_get table p ≡ Some label)
IsPlaced table (CitesAndSaves label) placed =
    (p : ℕ) × (placed ≡ CitesAndSaves p) × (slice_get table p ≡ Some label)
IsPlaced table (Repeats n) placed = placed ≡ Repeats n

abbrev pub ArePlaced : List ℕ → List ProofStep → List ProofStep → Type 0
ArePlaced table [] placed = placed ≡ []
ArePlaced table (step ∷ steps) placed =
    (first : ProofStep) × (rest : List ProofStep) × (placed ≡ first ∷ rest)
    × IsPlaced table step first × ArePlaced table steps rest

-- letters were appended for a step; `count` is the number of labels in the table
abbrev pub SpellsStep : ℕ → ProofStep → List ℕ → List ℕ → Type 0
SpellsStep count (Cites place) old new = Spells (place + 1) old new
SpellsStep count (CitesAndSaves place) old new =
    (letters : List ℕ) × Spells (place + 1) old letters × (new ≡ letters ++ 90 ∷ [])
SpellsStep count (Repeats n) old new = Spells (count + n + 1) old new

abbrev pub SpellsSteps : ℕ → List ProofStep → List ℕ → List ℕ → Type 0
SpellsSteps count [] old new = new ≡ old
SpellsSteps count (step ∷ steps) old new =
    (letters : List ℕ) × SpellsStep count step old letters × SpellsSteps count steps letters new

-- the labels and letters mean steps
pub record MeansSteps (mandatory : List ℕ) (steps : List ProofStep) (listed : List ℕ)
    (letters : List ℕ) : Type 0 where
  pub new : AreNew mandatory listed
  pub used : AreAmong (labels_of steps) listed
  pub means : (token : ℕ → Token) (tree : ProofTree) (saved : List ProofTree)
      → Builds [] (meanings_of token steps) tree saved
      → lettered_steps (map token (mandatory ++ listed)) letters ≡ Some (meanings_of token steps)
