use Rattle.std.proofs.Common.{sym, subst}
use Rattle.rule_core.specs.AcSymbols.{IsAcFree}
use Rattle.rule_core.specs.declared.rules.Program.{Program}
use Rattle.prove_run.proofs.ContextLaws.{written_grown}
use Rattle.refute_tests.proofs.cases.differing.Goals as goal

pub about_left_side-requires-clause-no_ac : goal.about_left_side-requires-clause-no_ac
about_left_side-requires-clause-no_ac c =
    subst (λ (p : Program). IsAcFree p.sig) (sym c.loop-number.invariant.0) c.requires.no_ac

pub add_lemma-requires-clause-written : goal.add_lemma-requires-clause-written
add_lemma-requires-clause-written c =
    written_grown c.loop-number.cx c.about_left_side.new.cx c.loop-number.writer
    c.loop-number.invariant.1 c.about_left_side.ensures.grown
