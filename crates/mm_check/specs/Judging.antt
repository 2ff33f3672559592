-- What is said at the end of the decision on a valid database.
use Rattle.std.specs.Prelude.{ℕ, List, Result, Ok, Err}
use Rattle.rule_core.specs.Theories.{RewriteTheory}
use Rattle.mm_justify.specs.Justifying.{Justifies}
use Rattle.mm_check.specs.Offences.{IsFirstOffence}
use Rattle.mm_check.specs.declared.ends.Checked.{Checked}
use Rattle.mm_check.specs.declared.ends.CheckEnd.{CheckEnd}
use Rattle.mm_check.specs.declared.ends.CheckEnd.TheVariants.{Invalid, Unjustified, Memory}

-- a valid text justifies this, or this is wrong first in it
abbrev pub Judges : RewriteTheory → List ℕ → Result Checked CheckEnd → Type 0
Judges theory bytes (Ok c) = Justifies bytes theory c.names c.from c.to
Judges theory bytes (Err (Invalid f)) = ⊥
Judges theory bytes (Err (Unjustified offence at)) = IsFirstOffence theory bytes offence at
Judges theory bytes (Err Memory) = Unit {0}
