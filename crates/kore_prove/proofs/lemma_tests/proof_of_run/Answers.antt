use Rattle.std.proofs.Common.{sym, subst}
use Rattle.term_core.specs.RulePatterns.{plain_pattern}
use Rattle.rule_core.specs.declared.rules.Program.{Program}
use Rattle.run_proof.specs.OpenProofs.{CanProveRun}
use Rattle.kore_prove.proofs.PlainNames.{plain_names}
use Rattle.kore_prove.proofs.lemma_tests.proof_of_run.Goals as goal

pub run_with_proof-requires-clause-ready : goal.run_with_proof-requires-clause-ready
run_with_proof-requires-clause-ready c =
    subst (λ (p : Program). CanProveRun p (plain_pattern c.args.accepted.now.start))
    (sym c.requires.program)
    (record {
      bound = c.requires.runnable.program.bound;
      plain = plain_names c.args.accepted.now.program.sig c.requires.runnable.program.names;
      is_start = c.requires.runnable.start;
    })
