-- Stacks of works that build proofs, and what is put on one for each form of a pattern.
use Rattle.std.specs.Prelude.{◌≡◌, ℕ, ◌+◌, ◌*◌, ◌<◌, ◌≤◌, ◌==◌, if◌then◌else◌, List, [], ◌∷◌, ◌++◌}
use Rattle.std.specs.Prelude.{codes}
use Rattle.std.specs.Borrow.{Bor}
use Rattle.mm_text.specs.Bytes.{Token}
use Rattle.mm_database.specs.Proofs.{ProofTree, proof_node, ProofForest, no_proof, more_proofs}
use Rattle.proof_nodes.specs.Tables.{with_cited}
use Rattle.ml_pat.specs.Patterns.{Pattern}
use Rattle.mm_proof.specs.Tokens.{Naming}
use Rattle.mm_proof.specs.KnownTrees.{EndsWithSyntax}
use Rattle.mm_proof.specs.Labels.{own_labels}
use Rattle.mm_proof.specs.Listings.{Listing, trees_of}
use Rattle.mm_proof.specs.Trees.{cite, first_part, second_part, syntax_tree, fresh_tree}
use Rattle.mm_proof.specs.Trees.{substitution_tree, predicate_tree}
use Rattle.mm_proof.specs.Writing.{label_token, goal_tree}
use Rattle.mm_proof.specs.declared.works.Goal.TheVariants as goal
use Rattle.mm_proof.specs.declared.works.Work.{Work}
use Rattle.mm_proof.specs.declared.works.Work.TheVariants as work

-- How many labels a tree has.
abbrev mutual
  pub size_of : ProofTree → ℕ
  size_of (proof_node label trees) = size_below trees + 1

  pub size_below : ProofForest → ℕ
  size_below no_proof = 0
  size_below (more_proofs tree trees) = size_of tree + size_below trees

abbrev pub size_of_all : List ProofTree → ℕ
size_of_all [] = 0
size_of_all (tree ∷ trees) = size_of tree + size_of_all trees

-- what has to hold of the trees before a work, so that this holds of the trees after it
abbrev pub before_work : ℕ → Work → (List ProofTree → Type 0) → List ProofTree → Type 0
before_work k (work.Prove g) after trees = after (trees ++ goal_tree k g ∷ [])
before_work k (work.Cite l n) after trees = after (with_cited (label_token k l) n trees)
before_work k (work.Keep p) after trees = EndsWithSyntax k p.now trees × after trees

-- the same before a stack of works, the top last and done first
abbrev pub before_works : ℕ → List Work → (List ProofTree → Type 0) → List ProofTree → Type 0
before_works k [] after = after
before_works k (w ∷ ws) after = before_works k ws (before_work k w after)

-- the works on a stack lead from some trees to others
abbrev pub Leads : ℕ → List Work → List ProofTree → List ProofTree → Type 0
Leads k ws trees last = before_works k ws (λ ts. ts ≡ last) trees

-- what a work needs of the trees: what is to be kept for a pattern is the proof that it is one
abbrev pub IsReady : ℕ → Work → List ProofTree → Type 0
IsReady k (work.Prove g) trees = Unit {0}
IsReady k (work.Cite l n) trees = Unit {0}
IsReady k (work.Keep p) trees = EndsWithSyntax k p.now trees

-- The weight of a work. A goal has a weight for its labels, its parts and what is kept of it.
abbrev pub weight : ℕ → Work → ℕ
weight k (work.Prove g) = 3 * size_of (goal_tree k g)
weight k (work.Cite l n) = 1
weight k (work.Keep p) = 1

abbrev pub stack_weight : ℕ → List Work → ℕ
stack_weight k [] = 0
stack_weight k (w ∷ ws) = stack_weight k ws + weight k w

-- works that build these trees were put on a stack; their weight is at most that of the trees
pub record PutsMore (trees : ℕ → List ProofTree) (old new : List Work) : Type 0 where
  pub builds : (k : ℕ) (ts last : List ProofTree) → Leads k old (ts ++ trees k) last
      → Leads k new ts last
  pub weight : (k : ℕ) → stack_weight k new ≤ stack_weight k old + 3 * size_of_all (trees k)

-- works that build this tree were put on a stack; their weight and one more is less than that of
-- the tree
pub record PutsOn (tree : ℕ → ProofTree) (old new : List Work) : Type 0 where
  pub builds : (k : ℕ) (ts last : List ProofTree) → Leads k old (ts ++ tree k ∷ []) last
      → Leads k new ts last
  pub weight : (k : ℕ) → stack_weight k new + 1 < stack_weight k old + 3 * size_of (tree k)

-- a work was taken from a stack: trees were built or kept, or smaller works were put on the stack
pub record IsTaken (w : Work) (old new : List Work) (table table' : Listing) : Type 0 where
  pub serial : table'.serial ≡ table.serial
  pub builds : (last : List ProofTree)
      → before_work table.serial w (λ ts. Leads table.serial old ts last) (trees_of table)
      → Leads table.serial new (trees_of table') last
  pub weight : stack_weight table.serial new
      < stack_weight table.serial old + weight table.serial w

-- the goal that a pattern is one was taken from a stack
abbrev pub IsSyntaxTaken : Bor Pattern → List Work → List Work → Listing → Listing → Type 0
IsSyntaxTaken p old new table table' =
    IsTaken (work.Prove (goal.Syntax p)) old new table table'

-- The trees that are put on the stack for each form of a pattern.

abbrev pub quantified_tree : ℕ → ℕ → ℕ → ℕ → Pattern → Token → ProofTree
quantified_tree k x y s p name =
    let l : Naming = own_labels k in
    if x == y
    then cite (codes "fr." ++ (name ++ codes "b"))
    (syntax_tree l p ∷ cite (l.object x) [] ∷ cite (l.sort s) [] ∷ [])
    else cite (codes "fr." ++ name)
    (syntax_tree l p ∷ cite (l.object x) [] ∷ cite (l.object y) [] ∷ cite (l.sort s) []
    ∷ fresh_tree l x p ∷ [])

abbrev pub fresh_two_tree : ℕ → ℕ → Pattern → Pattern → Token → ProofTree
fresh_two_tree k x p q name =
    let l : Naming = own_labels k in
    cite (codes "fr." ++ name) (syntax_tree l p ∷ syntax_tree l q ∷ cite (l.object x) [] ∷ fresh_tree l x p
    ∷ fresh_tree l x q ∷ [])

abbrev pub fresh_one_tree : ℕ → ℕ → Pattern → Token → ProofTree
fresh_one_tree k x p name =
    let l : Naming = own_labels k in
    cite (codes "fr." ++ name) (syntax_tree l p ∷ cite (l.object x) [] ∷ fresh_tree l x p ∷ [])

abbrev pub fresh_sorted_tree : ℕ → ℕ → Pattern → ℕ → Token → ProofTree
fresh_sorted_tree k x p s name =
    let l : Naming = own_labels k in
    cite (codes "fr." ++ name)
    (syntax_tree l p ∷ cite (l.object x) [] ∷ cite (l.sort s) [] ∷ fresh_tree l x p ∷ [])

abbrev pub predicate_two_tree : ℕ → Pattern → Pattern → Token → ProofTree
predicate_two_tree k p q name =
    let l : Naming = own_labels k in
    cite (codes "pr." ++ name) (syntax_tree l p ∷ syntax_tree l q ∷ predicate_tree l p ∷ predicate_tree l q ∷ [])

abbrev pub predicate_under_tree : ℕ → ℕ → ℕ → Pattern → Token → ProofTree
predicate_under_tree k x s p name =
    let l : Naming = own_labels k in
    cite (codes "pr." ++ name)
    (syntax_tree l p ∷ cite (l.object x) [] ∷ cite (l.sort s) [] ∷ predicate_tree l p ∷ [])

abbrev pub two_tree : ℕ → ℕ → Pattern → Pattern → Pattern → Pattern → Token → ProofTree
two_tree k x u p q r name =
    let l : Naming = own_labels k in
    cite (codes "su." ++ name)
    (syntax_tree l p ∷ syntax_tree l q ∷ syntax_tree l (second_part r)
    ∷ syntax_tree l (first_part r) ∷
    syntax_tree l u ∷ cite (l.object x) [] ∷
    substitution_tree l x u p (first_part r) ∷ substitution_tree l x u q (second_part r) ∷ [])

abbrev pub one_tree : ℕ → ℕ → Pattern → Pattern → Pattern → Token → ProofTree
one_tree k x u p r name =
    let l : Naming = own_labels k in
    cite (codes "su." ++ name)
    (syntax_tree l p ∷ syntax_tree l (first_part r) ∷ syntax_tree l u ∷ cite (l.object x) [] ∷
    substitution_tree l x u p (first_part r) ∷ [])

abbrev pub sorted_tree : ℕ → ℕ → Pattern → Pattern → ℕ → Pattern → Token → ProofTree
sorted_tree k x u p s r name =
    let l : Naming = own_labels k in
    cite (codes "su." ++ name)
    (syntax_tree l p ∷ syntax_tree l (first_part r) ∷ syntax_tree l u ∷ cite (l.object x) []
    ∷ cite (l.sort s) [] ∷
    substitution_tree l x u p (first_part r) ∷ [])

abbrev pub under_tree : ℕ → ℕ → Pattern → ℕ → ℕ → Pattern → Pattern → Token → ProofTree
under_tree k x u y s p r name =
    let l : Naming = own_labels k in
    cite (codes "su." ++ name)
    (syntax_tree l p ∷ syntax_tree l (first_part r) ∷ syntax_tree l u ∷ cite (l.object x) []
    ∷ cite (l.object y) [] ∷
    cite (l.sort s) [] ∷ fresh_tree l y u ∷ substitution_tree l x u p (first_part r) ∷ [])
