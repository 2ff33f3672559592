-- A text means one program at most.
use Rattle.std.specs.Prelude.{◌≡◌, ℕ, List, Option}
use Rattle.rule_core.specs.Theories.{RewriteTheory}
use Rattle.kore_sig.specs.SignatureLaws.{AreSameSignature}
use Rattle.kore_rules.specs.Acceptance.{IsAccepted}

-- Two programs with the same sorts, symbols and pairs of sorts, the same rules in the same order,
-- and the same equations of each symbol in the same order. They differ at most in where names and
-- lists of their signatures are stored.
pub record AreSameProgram (s t : RewriteTheory) : Type 0 where
  pub sig : AreSameSignature s.sig t.sig
  pub rules : s.rules ≡ t.rules
  pub equations : s.equations ≡ t.equations

-- the program that a text means is one, and so is the sort of its rules
abbrev pub ProgramIsOne : Type 0
ProgramIsOne =
    (bytes : List ℕ) (s t : RewriteTheory) (top other : Option ℕ) → IsAccepted bytes s top
    → IsAccepted bytes t other → AreSameProgram s t × (top ≡ other)
