-- When the citations of a database prove what a derivation says.
use Rattle.std.specs.Prelude.{ℕ, List, map, Contains}
use Rattle.mm_database.specs.Database.{Context}
use Rattle.mm_database.specs.Proofs.{ProofTree, Proves, AllProve}
use Rattle.ml_pat.specs.Patterns.{Pattern}
use Rattle.ml_kernel.specs.Lemmas.{instance, instances, HaveNoVariables}
use Rattle.ml_kernel.specs.Renamings.{Renames, by_place}
use Rattle.ml_kernel.specs.MayCite.{MayCite}
use Rattle.mm_proof.specs.Tokens.{Naming}
use Rattle.proof_nodes.specs.Tables.{forest_of}
use Rattle.mm_proof.specs.Derivations.{Citing, holds_text}

-- each allowed citation proves what is cited
pub record CitesSoundly (c : Context) (n : Naming) (hypotheses : List Pattern) (k : MayCite)
    (s : Citing) : Type 0 where
  pub premise : (p : Pattern) → Contains hypotheses p → Proves c (s.premise p) (holds_text n p)
  pub fact : (p q : Pattern) (new : List ℕ) → k.fact p new → Renames (by_place new) p q
      → Proves c (s.fact p new) (holds_text n q)
  pub lemma : (own : List Pattern) (q : Pattern) (ms : List Pattern) (trees : List ProofTree)
      → k.lemma own q ms → HaveNoVariables ms
      → AllProve c (forest_of trees) (map (holds_text n) (instances ms own))
      → Proves c (s.lemma own q ms trees) (holds_text n (instance ms q))
