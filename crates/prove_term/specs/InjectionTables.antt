-- Pairs of sorts for which injections have images.
use Rattle.std.specs.Prelude.{ℕ, Contains, IsSome}
use Rattle.rule_core.specs.Subsorts.{IsBelow}
use Rattle.rule_core.specs.WellSorted.{IsSignature}
use Rattle.rule_core.specs.declared.signature.Signature.{Signature}
use Rattle.ml_image.specs.Images.{injection_symbol}

-- the signature is good and has an injection symbol, and a is below b
pub record InjectsBelow (sig : Signature) (a b : ℕ) : Type 0 where
  pub signature : IsSignature sig
  pub symbol : IsSome (injection_symbol sig)
  pub below : IsBelow sig.subsorts a b

-- the same, and the signature declares the pair (a, b)
pub record AllowsPair (sig : Signature) (a b : ℕ) : Type 0 where
  pub signature : IsSignature sig
  pub symbol : IsSome (injection_symbol sig)
  pub pair : Contains sig.subsorts (a, b)
