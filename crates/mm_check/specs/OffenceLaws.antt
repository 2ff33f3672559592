-- In a database that justifies something nothing is wrong. A valid one in which nothing is wrong
-- does not justify nothing. What is wrong first is one thing.
use Rattle.std.specs.Prelude.{◌≡◌, ℕ, List}
use Rattle.mm_text.specs.Bytes.{Token}
use Rattle.mm_database.specs.Validity.{IsValid}
use Rattle.ml_pat.specs.Patterns.{Pattern}
use Rattle.rule_core.specs.Theories.{RewriteTheory}
use Rattle.mm_justify.specs.Justifying.{Justifies}
use Rattle.mm_check.specs.Offences.{IsFirstOffence, JustifiesNothing}
use Rattle.mm_check.specs.declared.ends.Offence.{Offence}

-- in a database that justifies something, nothing is wrong
abbrev pub JustifiedHasNone : Type 0
JustifiedHasNone =
    (theory : RewriteTheory) (bytes : List ℕ) (names : List Token) (a b : Pattern)
    (offence : Offence) (at : ℕ) → Justifies bytes theory names a b
    → IsFirstOffence theory bytes offence at → ⊥

-- a valid database in which nothing is wrong does not justify nothing
abbrev pub FaultlessJustifies : Type 0
FaultlessJustifies =
    (theory : RewriteTheory) (bytes : List ℕ) → IsValid bytes
    → ((offence : Offence) (at : ℕ) → IsFirstOffence theory bytes offence at → ⊥)
    → JustifiesNothing bytes theory → ⊥

-- only one thing is wrong first
abbrev pub FirstIsOne : Type 0
FirstIsOne =
    (theory : RewriteTheory) (bytes : List ℕ) (one other : Offence) (at at' : ℕ)
    → IsFirstOffence theory bytes one at → IsFirstOffence theory bytes other at'
    → (one ≡ other) × (at ≡ at')
