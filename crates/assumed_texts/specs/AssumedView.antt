-- The program of a table, and what the table has.
use Rattle.rule_core.specs.ProgramView.{theory_of}
use Rattle.rule_core.specs.declared.rules.Program.{Program}
use Rattle.assumed_texts.specs.AssumedTexts.{CanBeAssumed}
use Rattle.assumed_texts.specs.Filing.{HasWritten}
use Rattle.assumed_texts.specs.declared.assumed.Assumed.TheInside.{Inside}

abbrev pub program_of : Inside → Program
program_of a = a.program.now

pub record IsReady (a : Inside) : Type 0 where
  pub program : CanBeAssumed a.program.now
  pub images : HasWritten (theory_of a.program.now) a.names a.images.by_text a.images.others.items
