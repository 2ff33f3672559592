use Rattle.std.proofs.Common.{◌≡◌, map, take}
use Rattle.rule_core.specs.Records.{result_of}
use Rattle.rule_core.specs.RecordView.{plain_record}
use Rattle.prove_fun.specs.RecordParts.{children}
use Rattle.prove_fun.proofs.equations.results.Given as goal

abbrev pub invariant-loop-i : goal.invariant-loop-i
invariant-loop-i l = l.terms.items ≡ map result_of (take l.i (children (plain_record l.evaluation)))
