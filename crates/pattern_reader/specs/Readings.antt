-- The pattern that a text says. The text of a pattern is in `mm_proof`.
use Rattle.std.specs.Prelude.{◌≡◌, ◌<◌, ◌^◌, ◌⊎◌, List, ◌++◌, map, codes, All, Contains}
use Rattle.std.specs.Str.{IsUtf8}
use Rattle.std.specs.Borrow.{Bor}
use Rattle.mm_text.specs.Bytes.{Token}
use Rattle.ml_pat.specs.Patterns.{Pattern}
use Rattle.ml_pat.specs.Leaves.{LeafFacts, EachLeaf}
use Rattle.mm_proof.specs.Tokens.{name_of, pattern_tokens}

-- tokens that are borrowed from a text
abbrev pub texts : List (Bor Token) → List Token
texts = map (λ (t : Bor Token). t.now)

-- each of them is UTF-8, as all tokens of a database are
abbrev pub AreUtf8 : List (Bor Token) → Type 0
AreUtf8 tokens = All (λ (t : Bor Token). IsUtf8 t.now) tokens

-- the token is this front with something behind it
abbrev pub BeginsWith : Token → Token → Type 0
BeginsWith front token = (rest : Token) × (token ≡ front ++ rest)

-- the token of a sort begins with `s:`
abbrev pub IsSortToken : Token → Type 0
IsSortToken token = BeginsWith (codes "s:") token

-- the token of a symbol begins with `f:`, and that of a value with `d:`
abbrev pub IsConstantToken : Token → Type 0
IsConstantToken token = BeginsWith (codes "f:") token ⊎ BeginsWith (codes "d:") token

-- A pattern without pattern variables. Its sorts and constants are numbers of such tokens among the
-- names, and the numbers of its variables have 32 bits.
abbrev pub written_with : List Token → LeafFacts
written_with names = record {
  sort = λ i. IsSortToken (name_of names i);
  constant = λ i. IsConstantToken (name_of names i);
  object = λ x. x < 2 ^ 32;
  meta = λ i. ⊥;
}

-- The tokens are the text of this pattern, whose sorts and constants are numbers of names.
pub record IsReading (names tokens : List Token) (p : Pattern) : Type 0 where
  pub leaves : EachLeaf (written_with names) p
  pub text : tokens ≡ pattern_tokens names p

-- the tokens are the text of no such pattern, whatever the names
abbrev pub SayNoPattern : List Token → Type 0
SayNoPattern tokens = (names : List Token) (p : Pattern) → IsReading names tokens p → ⊥

-- names that are still there, each with its number, after others may have been added
pub record AreKept (old new : List Token) : Type 0 where
  pub added : List Token
  pub all : new ≡ old ++ added

-- the token of a sort, of a symbol or of a value
abbrev pub IsNameToken : Token → Type 0
IsNameToken token = IsSortToken token ⊎ IsConstantToken token

-- each name was there before, or is one of the tokens, and that of a sort, a symbol or a value
pub record GainsOnly (tokens old new : List Token) : Type 0 where
  pub each : (name : Token) → Contains new name
      → Contains old name ⊎ (Contains tokens name × IsNameToken name)
