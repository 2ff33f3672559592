-- What the written proofs prove. The labels, in postorder, are a proof of the statement in every
-- database that has the header and the declarations that they cite.
use Rattle.std.specs.Prelude.{◌≡◌, ℕ, true, IsTrue, List, map, Some}
use Rattle.mm_database.specs.Database.{Context}
use Rattle.mm_database.specs.Proofs.{ProofTree, AllProve, IsProof, postorder}
use Rattle.ml_pat.specs.Patterns.{Pattern}
use Rattle.ml_pat.specs.Leaves.{EachLeaf}
use Rattle.ml_pat.specs.KnownLeaves.{Known, are_known}
use Rattle.ml_pat.specs.Judgements.{fresh, substituted, predicate}
use Rattle.ml_kernel.specs.Rules.{Instance, Infers}
use Rattle.ml_kernel.specs.UsedLeaves.{EachInstance}
use Rattle.ml_kernel.specs.declared.rules.Rule.{Rule}
use Rattle.mm_proof.specs.Tokens.{Naming, letters_of}
use Rattle.mm_proof.specs.Judgements.{Judgement, is_pattern, is_fresh, is_substituted, is_predicate}
use Rattle.mm_proof.specs.Judgements.{holds, judgement_by}
use Rattle.mm_proof.specs.Serving.{Serves}
use Rattle.mm_proof.specs.Trees.{syntax_tree, fresh_tree, substitution_tree}
use Rattle.proof_nodes.specs.Tables.{forest_of}
use Rattle.mm_proof.specs.Trees.{predicate_tree, rule_tree}

-- the labels of the tree are a proof of the judgement
abbrev pub IsWritten : Context → Naming → ProofTree → Judgement → Type 0
IsWritten c n tree j = IsProof c (postorder tree) (judgement_by (letters_of n) j)

-- the tokens of a pattern parse as its syntax rows
abbrev pub PatternsParse : Type 0
PatternsParse =
    (c : Context) (l n : Naming) (known : Known) (p : Pattern) → Serves c l n (are_known known)
    → EachLeaf (are_known known) p →
    IsWritten c n (syntax_tree l p) (is_pattern p)

-- the proofs that are written for the judgements on patterns prove them
abbrev pub FreshnessIsProved : Type 0
FreshnessIsProved =
    (c : Context) (l n : Naming) (known : Known) (x : ℕ) (p : Pattern)
    → Serves c l n (are_known known) → IsTrue (known.object x) → EachLeaf (are_known known) p →
    fresh x p ≡ true → IsWritten c n (fresh_tree l x p) (is_fresh x p)

abbrev pub SubstitutionIsProved : Type 0
SubstitutionIsProved =
    (c : Context) (l n : Naming) (known : Known) (x : ℕ) (u p r : Pattern)
    → Serves c l n (are_known known) → IsTrue (known.object x) →
    EachLeaf (are_known known) u → EachLeaf (are_known known) p → EachLeaf (are_known known) r
    → substituted p x u ≡ Some r →
    IsWritten c n (substitution_tree l x u p r) (is_substituted r p u x)

abbrev pub PredicatesAreProved : Type 0
PredicatesAreProved =
    (c : Context) (l n : Naming) (known : Known) (p : Pattern) → Serves c l n (are_known known)
    → EachLeaf (are_known known) p → predicate p ≡ true →
    IsWritten c n (predicate_tree l p) (is_predicate p)

-- a rule over proofs of its premises is a proof of its conclusion
abbrev pub RulesAreProved : Type 0
RulesAreProved =
    (c : Context) (l n : Naming) (known : Known) (r : Rule) (is : List Instance) (ps : List Pattern)
    (q : Pattern) (trees : List ProofTree) →
    Serves c l n (are_known known) → Infers r is ps q → EachInstance (are_known known) is →
    AllProve c (forest_of trees) (map (λ p. judgement_by (letters_of n) (holds p)) ps) →
    IsWritten c n (rule_tree l r is trees) (holds q)
