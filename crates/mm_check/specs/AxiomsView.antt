-- The program whose axioms are recognized.
use Rattle.rule_core.specs.Theories.{RewriteTheory}
use Rattle.rule_core.specs.ProgramView.{theory_of}
use Rattle.mm_check.specs.declared.axioms.Axioms.{Axioms}

abbrev pub theory_for : Axioms → RewriteTheory
theory_for a = theory_of a.assumed
