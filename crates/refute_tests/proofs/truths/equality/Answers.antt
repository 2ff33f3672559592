use Rattle.std.proofs.Common.{[]}
use Rattle.term_core.specs.RulePatterns.{plain_pattern}
use Rattle.prove_term.proofs.ContextLaws.{grown_none}
use Rattle.refute_tests.proofs.Starts.{nothing_serves}
use Rattle.refute_tests.proofs.truths.equality.Goals as goal

pub returns-in_err-none-clause-grown : goal.returns-in_err-none-clause-grown
returns-in_err-none-clause-grown c = grown_none c.args.cx.now

pub value_eq-requires-clause-sorted : goal.value_eq-requires-clause-sorted
value_eq-requires-clause-sorted c =
    let is = c.requires.start in (
      [],
      is.0,
      is.1,
      nothing_serves c.args.cx.now.program.sig c.in_ok-none.none (plain_pattern c.args.start.now)
          is.0 c.in_ok-none.ensures is.1,
    )
