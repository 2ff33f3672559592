-- Programs whose names can be written in the tokens of a database.
use Rattle.std.specs.Prelude.{◌≡◌, ℕ, true, List, Some}
use Rattle.std.specs.List.{list_all}
use Rattle.rule_core.specs.declared.signature.Signature.{Signature}
use Rattle.ml_image.specs.Tokens.{name_at}
use Rattle.mm_claims.specs.Statements.{is_name_byte}

-- each byte of the names of the signature's sorts and symbols is printable and not `$`
pub record HasPlainNames (sig : Signature) : Type 0 where
  pub sorts : (s : ℕ) (name : List ℕ) → name_at sig.sorts s ≡ Some name
      → list_all is_name_byte name ≡ true
  pub symbols : (f : ℕ) (name : List ℕ) → name_at sig.symbols f ≡ Some name
      → list_all is_name_byte name ≡ true
