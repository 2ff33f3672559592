-- What of a derivation is still to be built. Only clauses of private functions cite this.
use Rattle.std.specs.Prelude.{◌≡◌, ℕ, ◌+◌, ◌*◌, ◌<◌, ◌≤◌, List, [], ◌∷◌, ◌++◌, map}
use Rattle.mm_text.specs.Bytes.{Token}
use Rattle.mm_text.specs.Written.{written}
use Rattle.mm_database.specs.ProofTexts.{Compresses}
use Rattle.mm_database.specs.ProofText.{mandatory_labels}
use Rattle.mm_database.specs.Proofs.{ProofTree}
use Rattle.proof_nodes.specs.Tables.{with_cited}
use Rattle.ml_pat.specs.Patterns.{Pattern}
use Rattle.ml_kernel.specs.Theorems.{Derivation, Derivations}
use Rattle.ml_kernel.specs.StepsIn.{steps_in}
use Rattle.mm_proof.specs.Derivations.{Citing, derivation_tree, derivation_trees}
use Rattle.mm_proof.specs.Labels.{own_labels}
use Rattle.mm_proof.specs.Listings.{Listing, trees_of}
use Rattle.mm_proof.specs.Writing.{label_token, goal_tree}
use Rattle.mm_claims.specs.Blocks.{Claim, open_frame}
use Rattle.mm_claims.specs.CitedAt.{variable_tree, claims_citing}
use Rattle.mm_claims.specs.Variables.{Variable}
use Rattle.mm_render.specs.declared.places.StatementContext.{StatementContext}
use Rattle.mm_render.specs.declared.derivations.Part.{Part}
use Rattle.mm_render.specs.declared.derivations.Part.TheVariants as part
use Rattle.mm_render.specs.PlaceTable.{found_at, premises_at}

-- citing in the block with a number, as in the statement that is being written
abbrev pub citing_in : ℕ → StatementContext → Citing
citing_in k at = claims_citing k (found_at at) (premises_at at)

-- the proof by a derivation, and the proofs by several
abbrev pub proof_by : ℕ → StatementContext → Derivation → ProofTree
proof_by k at d = derivation_tree (own_labels k) (citing_in k at) d

abbrev pub proofs_by : ℕ → StatementContext → Derivations → List ProofTree
proofs_by k at ds = derivation_trees (own_labels k) (citing_in k at) ds

-- what has to hold of the trees before a part, so that this holds of the trees after it
abbrev pub before_part : ℕ → StatementContext → Part → (List ProofTree → Type 0) → List ProofTree
    → Type 0
before_part k at (part.Goal g) after trees = after (trees ++ goal_tree k g ∷ [])
before_part k at (part.Cite l n) after trees = after (with_cited (label_token k l) n trees)
before_part k at (part.Derived d) after trees = after (trees ++ proof_by k at d.now ∷ [])

-- the same before a stack of parts, the top last and done first
abbrev pub before_parts : ℕ → StatementContext → List Part → (List ProofTree → Type 0)
    → List ProofTree → Type 0
before_parts k at [] after = after
before_parts k at (p ∷ ps) after = before_parts k at ps (before_part k at p after)

-- the parts on a stack lead from some trees to others
abbrev pub Leads : ℕ → StatementContext → List Part → List ProofTree → List ProofTree → Type 0
Leads k at ps trees last = before_parts k at ps (λ ts. ts ≡ last) trees

-- the weight of a part; a step of a derivation weighs more than the parts that it is split into
abbrev pub part_weight : Part → ℕ
part_weight (part.Goal g) = 1
part_weight (part.Cite l n) = 1
part_weight (part.Derived d) = 3 * steps_in d.now

abbrev pub parts_weight : List Part → ℕ
parts_weight [] = 0
parts_weight (p ∷ ps) = parts_weight ps + part_weight p

-- parts that build these trees were put on a stack, with at most this weight
pub record PutsTrees (trees : ℕ → StatementContext → List ProofTree) (more : ℕ)
    (old new : List Part) : Type 0 where
  pub builds : (k : ℕ) (at : StatementContext) (ts last : List ProofTree)
      → Leads k at old (ts ++ trees k at) last → Leads k at new ts last
  pub weight : parts_weight new ≤ parts_weight old + more

-- parts were put on a stack, with at most this weight; after the trees in front they build a tree
-- over them
pub record PutsOver (front : ℕ → StatementContext → List ProofTree)
    (whole : ℕ → StatementContext → ProofTree) (more : ℕ) (old new : List Part) : Type 0 where
  pub builds : (k : ℕ) (at : StatementContext) (ts last : List ProofTree)
      → Leads k at old (ts ++ whole k at ∷ []) last → Leads k at new (ts ++ front k at) last
  pub weight : parts_weight new ≤ parts_weight old + more

-- a part was taken from a stack: it was built, or the parts that are left of it were put on the
-- stack
pub record PartIsTaken (at : StatementContext) (p : Part) (old new : List Part)
    (table table' : Listing) : Type 0 where
  pub serial : table'.serial ≡ table.serial
  pub builds : (last : List ProofTree)
      → before_part table.serial at p (λ ts. Leads table.serial at old ts last) (trees_of table)
      → Leads table.serial at new (trees_of table') last
  pub weight : parts_weight new < parts_weight old + part_weight p

-- the same of a derivation
pub record StepIsTaken (at : StatementContext) (d : Derivation) (old new : List Part)
    (table table' : Listing) : Type 0 where
  pub serial : table'.serial ≡ table.serial
  pub builds : (last : List ProofTree)
      → Leads table.serial at old (trees_of table ++ proof_by table.serial at d ∷ []) last
      → Leads table.serial at new (trees_of table') last
  pub weight : parts_weight new < parts_weight old + 3 * steps_in d

-- the proofs of what is substituted for variables of a claim
abbrev pub value_trees : ℕ → List ℕ → List Pattern → List Variable → List ProofTree
value_trees k new ms vs = map (variable_tree (own_labels k) new ms) vs

-- a compressed proof of a claim by a derivation was appended to a text, in the statement `at`
pub record WritesProofOf (at : StatementContext) (s : Claim) (d : Derivation)
    (text text' : List ℕ) : Type 0 where
  pub proof : List Token
  pub compresses : Compresses (mandatory_labels (open_frame at.names.now at.serial s))
      (proof_by at.serial at d) proof
  pub appended : text' ≡ text ++ written proof
