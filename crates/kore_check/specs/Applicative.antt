-- Patterns in which every fold was read, and in which every `\and` gives a part a name.
use Rattle.std.specs.Prelude.{◌≢◌, Bool, true, false}
use Rattle.kore_check.specs.Folds.{Unfolded, Unfoldeds, and_more, applied_symbol, named_variable}
use Rattle.kore_check.specs.Folds.{both_of, no_more, other_form, written_value}

abbrev pub is_variable : Unfolded → Bool
is_variable (named_variable at name s) = true
is_variable p = false

-- The pattern has only variables, applications, domain values, folds and `\and`s of two patterns.
-- Each fold has an argument, and of the two patterns of an `\and` exactly one is a variable: it
-- names what the other one matches.
abbrev mutual
  pub IsApplicative : Unfolded → Type 0
  IsApplicative (named_variable at name s) = Unit {0}
  IsApplicative (written_value at s text byte) = Unit {0}
  IsApplicative (applied_symbol at byte name ss ps) = AreApplicative ps
  IsApplicative (both_of at s p q) =
      (is_variable p ≢ is_variable q) × IsApplicative p × IsApplicative q
  IsApplicative (other_form at) = ⊥

  pub AreApplicative : Unfoldeds → Type 0
  AreApplicative no_more = Unit {0}
  AreApplicative (and_more p ps) = IsApplicative p × AreApplicative ps
