-- What the files of a desk hold: a definition that is accepted, and a term of it.
use Rattle.std.specs.Prelude.{ℕ, List, Option}
use Rattle.desk_io.specs.Told.{Told}
use Rattle.term_core.specs.Patterns.{Pattern}
use Rattle.rule_core.specs.Theories.{RewriteTheory}
use Rattle.kore_rules.specs.Acceptance.{IsAccepted, IsAcceptedTerm}
use Rattle.kore_prove.specs.Limits.{HoldsWithin, definition_limit, term_limit}
use Rattle.kore_prove.specs.RunWords.{RunRequest}

-- the file of that name is within its limit and is accepted as a definition, which means this
-- program, whose rules have this sort
pub record HoldsProgram (told : Option Told) (name : List ℕ) (theory : RewriteTheory)
    (top : Option ℕ) : Type 0 where
  pub bytes : List ℕ
  pub held : HoldsWithin told name definition_limit bytes
  pub accepted : IsAccepted bytes theory top

-- the file of that name is within its limit and is accepted as a term of the program, which means
-- this pattern
pub record HoldsStart (told : Option Told) (name : List ℕ) (theory : RewriteTheory) (top : Option ℕ)
    (start : Pattern)
    : Type 0 where
  pub bytes : List ℕ
  pub held : HoldsWithin told name term_limit bytes
  pub accepted : IsAcceptedTerm theory.sig top bytes start

-- both files of the request were read and accepted, and mean this program and this initial term
pub record HoldsRun (asked : RunRequest) (told : Option Told) (theory : RewriteTheory)
    (start : Pattern) : Type 0 where
  pub top : Option ℕ
  pub definition : HoldsProgram told asked.definition theory top
  pub term : HoldsStart told asked.term theory top start
