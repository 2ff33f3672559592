-- What a proof of a run has reached so far.
use Rattle.std.specs.Prelude.{ℕ, Bool, List, Option, Some, None}
use Rattle.term_core.specs.Terms.{Tree}
use Rattle.term_core.specs.Patterns.{Pattern as RulePattern, ground_pattern}
use Rattle.term_core.specs.RulePatterns.{plain_pattern}
use Rattle.term_core.specs.declared.rule_patterns.RulePat.{RulePat}
use Rattle.rule_core.specs.declared.rules.Program.{Program}
use Rattle.ml_pat.specs.Patterns.{Pattern}
use Rattle.ml_kernel.specs.Theorems.{Theorem}
use Rattle.mm_claims.specs.Rendered.{Rendered}
use Rattle.prove_term.specs.Contexts.{Context}

-- A proof that the start of a program's run reaches a configuration. It has the names, axioms and
-- lemmas that were made for it, what is kept of the text, how many steps were proved, and how many
-- facts, statements and bytes the text has. `made` is the configuration: the value of the start, or
-- the result of the last step. A start without a value reaches only itself. It has failed if one of
-- its calls answered an error.
pub record RunProof : Type 0 where
  pub program : Program
  pub start : RulePat
  pub made : Option Tree
  pub names : List (List ℕ)
  pub axioms : List Pattern
  pub lemmas : List Theorem
  pub kept : Rendered
  pub steps : ℕ
  pub facts : ℕ
  pub statements : ℕ
  pub bytes : ℕ
  pub failed : Bool

-- the present configuration; it is the start if there is none
abbrev pub configuration : RulePattern → Option Tree → RulePattern
configuration start None = start
configuration start (Some t) = ground_pattern t

abbrev pub reached : RunProof → RulePattern
reached proof = configuration (plain_pattern proof.start) proof.made

-- the context of the proof, which its prover has
abbrev pub proof_context : RunProof → Context
proof_context proof = record {
  program = proof.program;
  names = proof.names;
  axioms = proof.axioms;
  lemmas = proof.lemmas;
}

-- the proof with another context
abbrev pub with_context : RunProof → Context → RunProof
with_context proof cx =
    record proof {
      program = cx.program;
      names = cx.names;
      axioms = cx.axioms;
      lemmas = cx.lemmas;
    }
