use Rattle.mm_justify.proofs.CountedTexts.{theorem_counts}
use Rattle.mm_justify.proofs.DeclaredStates.{declared_counts}
use Rattle.mm_justify.proofs.Facts.{axiom_counts, facts_are_true, true_facts_are_facts}
use Rattle.mm_justify.proofs.HeaderStates.{header_counts}
use Rattle.mm_justify.proofs.laws.counting_laws.Goals as goal

pub returns-clause-facts : goal.returns-clause-facts
returns-clause-facts a = facts_are_true

pub returns-clause-all_facts : goal.returns-clause-all_facts
returns-clause-all_facts a = true_facts_are_facts

pub returns-clause-header : goal.returns-clause-header
returns-clause-header a = header_counts

pub returns-clause-declared : goal.returns-clause-declared
returns-clause-declared a = declared_counts

pub returns-clause-axiomatic : goal.returns-clause-axiomatic
returns-clause-axiomatic a = axiom_counts

pub returns-clause-theorem : goal.returns-clause-theorem
returns-clause-theorem a = theorem_counts
