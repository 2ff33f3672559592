-- The tokens that names may gain while images are made.
use Rattle.std.specs.Prelude.{◌≡◌, ℕ, List, [], ◌∷◌, ◌++◌}
use Rattle.rule_core.specs.declared.signature.Signature.{Signature}
use Rattle.ml_image.specs.OwnTokens.{IsOwnToken}

abbrev pub AreOwnTokens : Signature → List (List ℕ) → Type 0
AreOwnTokens sig [] = Unit {0}
AreOwnTokens sig (token ∷ tokens) = IsOwnToken sig token × AreOwnTokens sig tokens

-- The names keep all their tokens, each with its number. The tokens that they gained are own tokens
-- of the signature.
pub record HasGained (sig : Signature) (old new : List (List ℕ)) : Type 0 where
  pub gained : List (List ℕ)
  pub all : new ≡ old ++ gained
  pub own : AreOwnTokens sig gained
