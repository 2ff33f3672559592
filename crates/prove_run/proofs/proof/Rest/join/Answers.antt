use Rattle.std.proofs.Common.{ap}
use Rattle.prove_run.specs.RunProof.{RunProof, with_context}
use Rattle.prove_run.specs.RestView.{whole_of}
use Rattle.prove_run.proofs.PartLaws.{own_context, joined, fits_later_on}
use Rattle.prove_run.proofs.ProofLaws.{not_failed}
use Rattle.prove_run.proofs.proof.Rest.join.Goals as goal

pub invariant_of-result : goal.invariant_of-result
invariant_of-result c =
    joined (whole_of c.self.inside) c.args.prover
    (own_context (whole_of c.self.inside) c.args.self c.args.prover c.self.view_is c.requires)
    c.self.invariant

pub returns-clause-same : goal.returns-clause-same
returns-clause-same c = ap (λ (v : RunProof). with_context v c.args.prover) c.self.view_is

pub returns-clause-fits : goal.returns-clause-fits
returns-clause-fits c sound text h =
    fits_later_on (whole_of c.self.inside) c.args.self c.args.prover text c.self.view_is
    (not_failed (whole_of c.self.inside) c.args.self c.self.view_is sound c.self.invariant)
    (own_context (whole_of c.self.inside) c.args.self c.args.prover c.self.view_is c.requires) h
