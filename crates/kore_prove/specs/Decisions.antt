-- What the code decided of a database, and its lines.
use Rattle.std.specs.Prelude.{◌≡◌, ℕ, List, Option}
use Rattle.desk_io.specs.Told.{Told}
use Rattle.desk_io.specs.Sent.{Appends}
use Rattle.mm_text.specs.Bytes.{Token}
use Rattle.mm_database.specs.Validity.{IsValid}
use Rattle.ml_pat.specs.Patterns.{Pattern}
use Rattle.rule_core.specs.Theories.{RewriteTheory}
use Rattle.mm_justify.specs.Justifying.{Justifies}
use Rattle.mm_check.specs.Offences.{IsFirstOffence, JustifiesNothing}
use Rattle.mm_check.specs.OffenceNumbers.{offence_number}
use Rattle.mm_check.specs.Derived.{IsDerivedFrom}
use Rattle.mm_check.specs.JustifiedLines.{justified_lines}
use Rattle.kore_prove.specs.CheckWords.{CheckRequest}
use Rattle.kore_prove.specs.Checks.{HoldsCheck, SendsJustified, SendsUnjustified, SendsFault}
use Rattle.kore_prove.specs.Checks.{unjustified_line}
use Rattle.kore_prove.specs.DatabaseVerdicts.{IsInvalidBy}
use Rattle.kore_prove.specs.Verdicts.{invalid_line}
use Rattle.kore_prove.specs.declared.checking.Decision.{Decision}
use Rattle.kore_prove.specs.declared.checking.Decision.TheVariants as decision

-- the database justifies something, and these are the lines that say it
pub record AreLinesOf (theory : RewriteTheory) (bytes lines : List ℕ) : Type 0 where
  pub names : List Token
  pub from : Pattern
  pub to : Pattern
  pub justifies : Justifies bytes theory names from to
  pub derived : IsDerivedFrom theory names from to
  pub lines_are : lines ≡ justified_lines names from to

-- the decision is the one on these bytes, over the program
abbrev pub IsDecisionOn : RewriteTheory → List ℕ → Decision → Type 0
IsDecisionOn theory bytes (decision.Justified lines) = AreLinesOf theory bytes lines.items
IsDecisionOn theory bytes (decision.Invalid fault) = IsInvalidBy bytes fault
IsDecisionOn theory bytes (decision.Unjustified offence at) =
    IsValid bytes × JustifiesNothing bytes theory × IsFirstOffence theory bytes offence at

abbrev pub decision_lines : Decision → List ℕ
decision_lines (decision.Justified lines) = lines.items
decision_lines (decision.Invalid fault) = invalid_line fault.kind fault.at
decision_lines (decision.Unjustified offence at) = unjustified_line (offence_number offence) at

-- the exit code of a decision
abbrev pub decision_code : Decision → ℕ
decision_code (decision.Justified lines) = 0
decision_code (decision.Invalid fault) = 12
decision_code (decision.Unjustified offence at) = 13

-- the decision is the one on the files of the request
pub record HoldsDecision (told : Option Told) (asked : CheckRequest) (d : Decision) : Type 0 where
  pub theory : RewriteTheory
  pub bytes : List ℕ
  pub held : HoldsCheck told asked theory bytes
  pub is : IsDecisionOn theory bytes d

-- the output grew by the lines of this decision on the files, or by a part from their front
abbrev pub SendsDecision : (Option (List ℕ) → Option (List ℕ) → List ℕ → Type 0) → Option Told
    → CheckRequest → Option (List ℕ) → Option (List ℕ) → Decision → Type 0
SendsDecision Grew told asked before after (decision.Justified lines) =
    SendsJustified Grew told asked before after
SendsDecision Grew told asked before after (decision.Invalid fault) =
    SendsFault Grew told asked before after
SendsDecision Grew told asked before after (decision.Unjustified offence at) =
    SendsUnjustified Grew told asked before after

-- the output grew by the lines of this decision on the files
abbrev pub PrintsDecision : Option Told → CheckRequest → Option (List ℕ) → Option (List ℕ)
    → Decision → Type 0
PrintsDecision = SendsDecision Appends
