-- A tree as a list of tokens, in postfix order, and the way back. The proofs use this to show that
-- trees differ.
use Rattle.std.specs.Prelude.{◌≡◌, refl, ℕ, ℤ, Bool, List, [], ◌∷◌, ◌⊎◌}
use Rattle.std.proofs.Common.{inl, inr, ◌∙◌, ap}
use Rattle.std.specs.Coded.{Coded, code_by, coded×, coded⊎, coded_ℕ, coded_ℤ, coded_bool}
use Rattle.std.specs.Coded.{coded_list}
use base.Stored.{coded_unit}
use Rattle.term_core.specs.Terms.{DomainValue, integer, truth, text, Tree, leaf, node, inj, Forest}
use Rattle.term_core.specs.Terms.{no_tree, more_trees}

abbrev value_cases : DomainValue → ℤ ⊎ (Bool ⊎ List ℕ)
value_cases (integer n) = inl n
value_cases (truth b) = inr (inl b)
value_cases (text bytes) = inr (inr bytes)

abbrev value_of_cases : ℤ ⊎ (Bool ⊎ List ℕ) → DomainValue
value_of_cases (inl n) = integer n
value_of_cases (inr (inl b)) = truth b
value_of_cases (inr (inr bytes)) = text bytes

pub value_of_cases-value_cases : (v : DomainValue) → value_of_cases (value_cases v) ≡ v
value_of_cases-value_cases (integer n) = refl
value_of_cases-value_cases (truth b) = refl
value_of_cases-value_cases (text bytes) = refl

abbrev pub value_code : Coded DomainValue
value_code =
    code_by (ℤ ⊎ (Bool ⊎ List ℕ)) (coded⊎ coded_ℤ (coded⊎ coded_bool (coded_list coded_ℕ)))
    value_cases value_of_cases value_of_cases-value_cases

-- A token begins a list of arguments, or is a leaf, or ends a constructor's arguments, or ends an
-- injection.
abbrev Token : Type 0
Token = (Unit {0} ⊎ (ℕ × DomainValue)) ⊎ (ℕ ⊎ (ℕ × ℕ))

abbrev token_code : Coded Token
token_code =
    coded⊎ (coded⊎ coded_unit (coded× coded_ℕ value_code)) (coded⊎ coded_ℕ (coded× coded_ℕ coded_ℕ))

-- the tokens of a tree, or of a forest from its last tree on, in front of other tokens
abbrev mutual
  tokens : Tree → List Token → List Token
  tokens (leaf s v) rest = inl (inr (s, v)) ∷ rest
  tokens (node f ts) rest = inl (inl tt) ∷ all_tokens ts (inr (inl f) ∷ rest)
  tokens (inj a b t) rest = inl (inl tt) ∷ tokens t (inr (inr (a, b)) ∷ rest)

  all_tokens : Forest → List Token → List Token
  all_tokens no_tree rest = rest
  all_tokens (more_trees t ts) rest = all_tokens ts (tokens t rest)

-- reads one token, with a stack of the open forests
abbrev read_token : Token → List Forest → List Forest
read_token (inl (inl u)) open_forests = no_tree ∷ open_forests
read_token (inl (inr p)) [] = []
read_token (inl (inr p)) (f ∷ fs) = more_trees (leaf p.0 p.1) f ∷ fs
read_token (inr (inl s)) [] = []
read_token (inr (inl s)) (args ∷ []) = []
read_token (inr (inl s)) (args ∷ (f ∷ fs)) = more_trees (node s args) f ∷ fs
read_token (inr (inr p)) [] = []
read_token (inr (inr p)) (no_tree ∷ fs) = []
read_token (inr (inr p)) (more_trees t ts ∷ []) = []
read_token (inr (inr p)) (more_trees t ts ∷ (f ∷ fs)) = more_trees (inj p.0 p.1 t) f ∷ fs

abbrev read_all : List Token → List Forest → List Forest
read_all [] fs = fs
read_all (k ∷ ks) fs = read_all ks (read_token k fs)

mutual
  read_all-tokens : (t : Tree) (rest : List Token) (f : Forest) (fs : List Forest)
      → read_all (tokens t rest) (f ∷ fs) ≡ read_all rest (more_trees t f ∷ fs)
  read_all-tokens (leaf s v) rest f fs = refl
  read_all-tokens (node s ts) rest f fs = read_all-all_tokens ts (inr (inl s) ∷ rest) (f ∷ fs)
  read_all-tokens (inj a b t) rest f fs =
      read_all-tokens t (inr (inr (a, b)) ∷ rest) no_tree (f ∷ fs)

  read_all-all_tokens : (ts : Forest) (rest : List Token) (fs : List Forest)
      → read_all (all_tokens ts rest) (no_tree ∷ fs) ≡ read_all rest (ts ∷ fs)
  read_all-all_tokens no_tree rest fs = refl
  read_all-all_tokens (more_trees t ts) rest fs =
      read_all-all_tokens ts (tokens t rest) fs ∙ read_all-tokens t rest ts fs

-- the first tree of the forest at the top of the stack
abbrev first_tree : List Forest → Tree
first_tree [] = node 0 no_tree
first_tree (no_tree ∷ fs) = node 0 no_tree
first_tree (more_trees t ts ∷ fs) = t

pub first_tree-tokens : (t : Tree) → first_tree (read_all (tokens t []) (no_tree ∷ [])) ≡ t
first_tree-tokens t = ap first_tree (read_all-tokens t [] no_tree [])

abbrev pub tree_code : Coded Tree
tree_code =
    code_by (List Token) (coded_list token_code) (λ t. tokens t [])
    (λ ks. first_tree (read_all ks (no_tree ∷ []))) first_tree-tokens
