use Rattle.std.proofs.Common.{refl}
use Rattle.mm_database.specs.Database.{Context}
use Rattle.mm_database.specs.Proofs.{Expression, ProofTree, Proves, IsProof, postorder}
use Rattle.mm_proof.specs.Tokens.{letters_of}
use Rattle.mm_proof.specs.Judgements.{judgement_by, is_pattern, is_fresh, is_substituted}
use Rattle.mm_proof.specs.Judgements.{is_predicate, holds}
use Rattle.mm_proof.specs.Trees.{syntax_tree, fresh_tree, substitution_tree, predicate_tree}
use Rattle.mm_proof.specs.Trees.{rule_tree}
use Rattle.ml_pat.specs.KnownLeaves.{are_known}
use Rattle.mm_proof.proofs.SyntaxLaws.{syntax_proves}
use Rattle.mm_proof.proofs.FreshLaws.{fresh_proves}
use Rattle.mm_proof.proofs.SubstitutionLaws.{substitution_proves}
use Rattle.mm_proof.proofs.PredicateLaws.{predicate_proves}
use Rattle.mm_proof.proofs.RuleLaws.{rule_proves}
use Rattle.mm_proof.proofs.laws.proof_laws.Goals as goal

is_proof : (c : Context) (tree : ProofTree) (e : Expression) → Proves c tree e
    → IsProof c (postorder tree) e
is_proof c t e proof = record { tree = t; order = refl; proves = proof }

pub returns-clause-parse : goal.returns-clause-parse
returns-clause-parse a c l n known p w h =
    is_proof c (syntax_tree l p) (judgement_by (letters_of n) (is_pattern p))
    (syntax_proves c l n p (are_known known) w h)

pub returns-clause-fresh : goal.returns-clause-fresh
returns-clause-fresh a c l n known x p w hx h f =
    is_proof c (fresh_tree l x p) (judgement_by (letters_of n) (is_fresh x p))
    (fresh_proves c l n (are_known known) x p w hx h f)

pub returns-clause-substitution : goal.returns-clause-substitution
returns-clause-substitution a c l n known x u p r w hx hu hp hr h =
    is_proof c (substitution_tree l x u p r) (judgement_by (letters_of n) (is_substituted r p u x))
    (substitution_proves c l n (are_known known) x u p r w hx hu hp hr h)

pub returns-clause-predicate : goal.returns-clause-predicate
returns-clause-predicate a c l n known p w h t =
    is_proof c (predicate_tree l p) (judgement_by (letters_of n) (is_predicate p))
    (predicate_proves c l n (are_known known) p w h t)

pub returns-clause-rules : goal.returns-clause-rules
returns-clause-rules a c l n known r is ps q trees w infers h all =
    is_proof c (rule_tree l r is trees) (judgement_by (letters_of n) (holds q))
    (rule_proves c l n (are_known known) trees w infers h all)
