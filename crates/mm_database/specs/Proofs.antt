-- What proves a statement (Metamath book, "The Proof"): a tree whose nodes are labels. A node is an
-- active hypothesis, or an assertion under a substitution with a subtree for each of its mandatory
-- hypotheses. A proof of a database is the postorder of such a tree. The definition does not say in
-- what order the steps are done.
use Rattle.std.specs.Prelude.{◌≡◌, Bool, true, false, not, ◌&&◌, ◌||◌, if◌then◌else◌, List, [], ◌∷◌}
use Rattle.std.specs.Prelude.{◌++◌, map, flat_map, Option, Some, None, bytes_eq}
use Rattle.std.specs.List.{list_any, list_all}
use Rattle.mm_text.specs.Bytes.{Token}
use Rattle.mm_database.specs.Frames.{HypothesisOver, Hypothesis, floating, essential, label_of}
use Rattle.mm_database.specs.Frames.{statement_of, FrameOver, Frame, types}
use Rattle.mm_database.specs.Database.{Context}

-- a list of symbols: the result of a step of a proof
abbrev pub Expression : Type 0
Expression = List Token

-- symbols, each replaced by the text that a substitution gives it
abbrev pub substituted : {A : Type 0} → (A → List A) → List A → List A
substituted sigma symbols = flat_map sigma symbols

-- what a hypothesis requires under a substitution
abbrev pub instance_of : {A : Type 0} → (A → List A) → HypothesisOver A → List A
instance_of sigma (floating label typecode variable) = typecode ∷ sigma variable
instance_of sigma (essential label statement) = substituted sigma statement

-- the variables that hypotheses type
abbrev pub typed_variables : {A : Type 0} → List (HypothesisOver A) → List A
typed_variables [] = []
typed_variables (floating label typecode variable ∷ hypotheses) =
    variable ∷ typed_variables hypotheses
typed_variables (essential label statement ∷ hypotheses) = typed_variables hypotheses

-- the symbols are not both variables, or they are two different variables with an active `$d`
abbrev pub symbols_apart : Context → Token → Token → Bool
symbols_apart c x y =
    not (c.variables x && c.variables y) || (not (bytes_eq x y) && c.scope.apart x y)

-- any two symbols, one from each text, are apart
abbrev pub texts_apart : {A : Type 0} → (A → A → Bool) → List A → List A → Bool
texts_apart apart xs ys = list_all (λ x. list_all (apart x) ys) xs

-- the texts of a pair are apart if the pair has to stay apart
abbrev pub pair_apart : {A : Type 0} → (A → A → Bool) → FrameOver A → (A → List A) → A → A → Bool
pair_apart apart f sigma a b = not (f.apart a b) || texts_apart apart (sigma a) (sigma b)

abbrev pub keeps_apart : {A : Type 0} → (A → A → Bool) → FrameOver A → (A → List A) → Bool
keeps_apart apart f sigma =
    list_all (λ a. list_all (pair_apart apart f sigma a) (typed_variables f.hypotheses))
    (typed_variables f.hypotheses)

-- An assertion leads from some expressions to one expression, under a substitution. The
-- substitution changes only the variables that the mandatory hypotheses of the assertion type.
pub record Applies (c : Context) (f : Frame) (sigma : Token → Expression) (given : List Expression)
    (result : Expression) : Type 0 where
  pub others : (t : Token) → list_any (types t) f.hypotheses ≡ false → sigma t ≡ t ∷ []
  pub hypotheses : given ≡ map (instance_of sigma) f.hypotheses
  pub apart : keeps_apart (symbols_apart c) f sigma ≡ true
  pub conclusion : result ≡ substituted sigma f.statement

-- the hypothesis with a label, among some hypotheses
abbrev pub hypothesis_of : List Hypothesis → Token → Option Hypothesis
hypothesis_of [] label = None
hypothesis_of (h ∷ hypotheses) label =
    if bytes_eq (label_of h) label then Some h else hypothesis_of hypotheses label

abbrev pub active_hypothesis : Context → Token → Option Hypothesis
active_hypothesis c label = hypothesis_of c.scope.hypotheses label

-- a label leads from some expressions to one expression; an active hypothesis leads from nothing to
-- its statement; otherwise the label is one of an assertion
pub data Leads (c : Context) (label : Token) : List Expression → Expression → Type 0 where
  by_hypothesis : (h : Hypothesis) → active_hypothesis c label ≡ Some h
      → Leads c label [] (statement_of h)
  by_assertion : (f : Frame) (sigma : Token → Expression) (given : List Expression)
      (result : Expression) → active_hypothesis c label ≡ None → c.frames label ≡ Some f
      → Applies c f sigma given result → Leads c label given result

mutual
  pub data ProofTree : Type 0 where
    proof_node : Token → ProofForest → ProofTree

  pub data ProofForest : Type 0 where
    no_proof : ProofForest
    more_proofs : ProofTree → ProofForest → ProofForest

-- a tree proves an expression, and the trees of a forest prove expressions, in order
abbrev mutual
  pub Proves : Context → ProofTree → Expression → Type 0
  Proves c (proof_node label trees) result =
      (given : List Expression) × Leads c label given result × AllProve c trees given

  pub AllProve : Context → ProofForest → List Expression → Type 0
  AllProve c no_proof results = results ≡ []
  AllProve c (more_proofs tree trees) results =
      (first : Expression) × (rest : List Expression) × (results ≡ first ∷ rest)
      × Proves c tree first × AllProve c trees rest

-- the labels of a tree in postorder
abbrev mutual
  pub postorder : ProofTree → List Token
  postorder (proof_node label trees) = all_postorder trees ++ label ∷ []

  pub all_postorder : ProofForest → List Token
  all_postorder no_proof = []
  all_postorder (more_proofs tree trees) = postorder tree ++ all_postorder trees

-- the labels are the postorder of a tree that proves the expression
pub record IsProof (c : Context) (labels : List Token) (result : Expression) : Type 0 where
  pub tree : ProofTree
  pub order : postorder tree ≡ labels
  pub proves : Proves c tree result
