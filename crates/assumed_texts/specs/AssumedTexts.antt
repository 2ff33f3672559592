-- Statements that say what a proof may assume of a program.
use Rattle.std.specs.Prelude.{◌≡◌, ◌<◌, ◌≤◌, ◌^◌, ℕ, List, Some, length}
use Rattle.mm_text.specs.Bytes.{Token}
use Rattle.ml_pat.specs.Patterns.{Pattern}
use Rattle.rule_core.specs.Theories.{RewriteTheory}
use Rattle.rule_core.specs.ProgramView.{theory_of}
use Rattle.rule_core.specs.WellSorted.{IsWellSorted}
use Rattle.rule_core.specs.BoundVariables.{HasBoundVariables}
use Rattle.rule_core.specs.Sorting.{IsSymbol}
use Rattle.rule_core.specs.declared.rules.Program.{Program}
use Rattle.rule_core.specs.declared.signature.Signature.{Signature}
use Rattle.rule_core.specs.declared.signature.SymInfo.{SymInfo}
use Rattle.ml_image.specs.Assumed.{IsAssumed}
use Rattle.ml_image.specs.Sentences.{Sentence, sentence_image}
use Rattle.mm_justify.specs.Stating.{holds_text}

-- the tokens say that something holds that the program may assume
pub record SaysAssumed (theory : RewriteTheory) (tokens : List Token) : Type 0 where
  pub names : List Token
  pub sentence : Sentence
  pub image : Pattern
  pub assumed : IsAssumed theory sentence
  pub is_image : sentence_image theory.sig names sentence ≡ Some image
  pub says : tokens ≡ holds_text names image

-- Each symbol has fewer than 2^31 arguments, so that the numbers of twice as many variables fit in 32
-- bits.
abbrev pub HasFewArguments : Signature → Type 0
HasFewArguments sig =
    (f : ℕ) (info : SymInfo) → IsSymbol sig f info → length info.args.items < 2 ^ 31

-- What acceptance establishes of a program.
pub record CanBeAssumed (program : Program) : Type 0 where
  pub sorted : IsWellSorted (theory_of program)
  pub bound : HasBoundVariables program
  pub sorts : length program.sig.sorts ≤ 2 ^ 32
  pub symbols : length program.sig.symbols ≤ 2 ^ 32
  pub arguments : HasFewArguments program.sig
