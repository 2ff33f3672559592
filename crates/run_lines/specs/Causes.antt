-- The causes as the code has them, and their names.
use Rattle.std.specs.Prelude.{◌≡◌, ℕ, List}
use Rattle.rule_core.specs.RunView.{cause_of}
use Rattle.rule_core.specs.declared.rules.Blocked.{Blocked}
use Rattle.rule_core.specs.declared.signature.Signature.{Signature}
use Rattle.run_lines.specs.Lines.{cause_word, cause_name}

-- the word of a cause, and the name that follows it
pub record IsNamedCause (sig : Signature) (why : Blocked) (word name : List ℕ) : Type 0 where
  pub word_is : word ≡ cause_word (cause_of why)
  pub name_is : name ≡ cause_name sig (cause_of why)
