use Rattle.std.proofs.Common.{sym, subst}
use Rattle.rule_core.specs.AcSymbols.{IsAcFree}
use Rattle.prove_term.specs.Contexts.{Context}
use Rattle.refute_tests.proofs.truths.written.Goals as goal

pub denied-requires-clause-no_ac : goal.denied-requires-clause-no_ac
denied-requires-clause-no_ac c =
    subst (λ (x : Context). IsAcFree x.program.sig) (sym c.new-cx.ensures) c.requires.no_ac
