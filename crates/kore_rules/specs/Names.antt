-- The names of a program are identifiers, the same as in the text of its definition.
use Rattle.std.specs.Prelude.{All, map}
use Rattle.kore_lex.specs.Tokens.{IsName}
use Rattle.rule_core.specs.declared.signature.Signature.{Signature}

-- the name of each sort and of each symbol is an identifier
pub record HasIdentifierNames (sig : Signature) : Type 0 where
  pub sorts : All (λ e. IsName e.0) sig.sorts
  pub symbols : All (λ e. IsName e.0) sig.symbols
