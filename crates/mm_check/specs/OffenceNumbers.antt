-- The numbers under which offences are reported.
use Rattle.std.specs.Prelude.{ℕ}
use Rattle.mm_check.specs.declared.ends.Offence.{Offence}
use Rattle.mm_check.specs.declared.ends.Offence.TheVariants.{Conclusion, Typing, Axiom}

abbrev pub offence_number : Offence → ℕ
offence_number Conclusion = 1
offence_number Typing = 2
offence_number Axiom = 3
