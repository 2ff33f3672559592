-- The derivation that represents a step of the code.
use Rattle.std.specs.Prelude.{ℕ, List, map}
use Rattle.ml_kernel.specs.Rules.{Instance, pattern, variable, sort}
use Rattle.ml_kernel.specs.Theorems.{Derivation, hypothesis, own_axiom, by_rule, cited, derivations}
use Rattle.ml_pat.specs.declared.numbers.VarNo.{VarNo}
use Rattle.ml_kernel.specs.declared.derivations.Inst.{Inst}
use Rattle.ml_kernel.specs.declared.derivations.Inst.TheVariants as piece
use Rattle.ml_kernel.specs.declared.derivations.DerivStep.{DerivStep}
use Rattle.ml_kernel.specs.declared.derivations.DerivStep.TheVariants as step

abbrev pub instance_of : Inst → Instance
instance_of (piece.Pat p) = pattern p
instance_of (piece.Var x) = variable x.0
instance_of (piece.Sort s) = sort s.0

abbrev pub instances_of : List Inst → List Instance
instances_of is = map instance_of is

-- the numbers of variables
abbrev pub numbers_of : List VarNo → List ℕ
numbers_of xs = map (λ x. x.0) xs

abbrev pub derivation_of : DerivStep → Derivation
derivation_of (step.Hyp p) = hypothesis p
derivation_of (step.Axiom n p new) = own_axiom n.0 p (numbers_of new.items)
derivation_of (step.ByRule r is ds) = by_rule r (instances_of is.items) (derivations ds.items)
derivation_of (step.Cited l ms ds) =
    cited l.hypotheses l.conclusion l.derivation ms.items (derivations ds.items)
