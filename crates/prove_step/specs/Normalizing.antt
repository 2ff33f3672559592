-- What a pattern says about a recorded step.
use Rattle.term_core.specs.Terms.{Tree}
use Rattle.ml_pat.specs.Patterns.{Pattern}
use Rattle.rule_core.specs.ProgramView.{theory_of}
use Rattle.rule_core.specs.Records.{StepRecord, result_of}
use Rattle.prove_term.specs.Contexts.{Context}
use Rattle.prove_step.specs.Steps.{IsStepFrom, SaysStep}

-- the pattern says the recorded step, for each term that makes it
abbrev pub SaysStepOf : Context → StepRecord → Pattern → Type 0
SaysStepOf cx step p =
    (t : Tree) → IsStepFrom (theory_of cx.program) t step → SaysStep cx t (result_of step.right) p
