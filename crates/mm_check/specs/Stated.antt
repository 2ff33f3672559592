-- What an assertion says, by tokens: its statement, the types of its variables, and its `$e`s.
use Rattle.std.specs.Prelude.{ℕ, List, [], ◌∷◌, ◌++◌, map, slice_get, Option, Some, None}
use Rattle.std.specs.Borrow.{Bor}
use Rattle.std.specs.Global.{Vec}
use Rattle.mm_text.specs.Bytes.{Token}
use Rattle.mm_database.specs.Frames.{floating, essential}
use Rattle.mm_frame.specs.Numbered.{NumberedHypothesis, NumberedFrame}
use Rattle.mm_scope.specs.ScopeState.{ScopeSymbol}
use Rattle.mm_check.specs.declared.stated.Typed.{Typed}
use Rattle.mm_check.specs.declared.stated.Stated.{Stated}

-- a variable by its number and its token, with the token of its typecode
pub record PlainTyped : Type 0 where
  pub number : ℕ
  pub variable : Token
  pub typecode : Token

pub record PlainStated : Type 0 where
  pub numbers : List ℕ
  pub words : List Token
  pub types : List PlainTyped
  pub premises : List (List Token)

-- ---- as the code has it

abbrev pub words : List (Bor Token) → List Token
words ts = map (λ (t : Bor Token). t.now) ts

abbrev pub plain_typed : Typed → PlainTyped
plain_typed t = record { number = t.number; variable = t.variable.now; typecode = t.typecode.now }

abbrev pub plain_types : List Typed → List PlainTyped
plain_types ts = map plain_typed ts

abbrev pub plain_premises : List (Vec (Bor Token)) → List (List Token)
plain_premises ps = map (λ (p : Vec (Bor Token)). words p.items) ps

abbrev pub plain_stated : Stated → PlainStated
plain_stated s = record {
  numbers = s.numbers.items;
  words = words s.words.items;
  types = plain_types s.types.items;
  premises = plain_premises s.premises.items;
}

-- ---- as a frame of numbers has it, by the tokens of the symbols

abbrev pub token_or_none : Option ScopeSymbol → Token
token_or_none None = []
token_or_none (Some s) = s.token

-- the token of the symbol with this number; no bytes if there is none
abbrev pub symbol_token : List ScopeSymbol → ℕ → Token
symbol_token symbols n = token_or_none (slice_get symbols n)

abbrev pub typed_by : List ScopeSymbol → NumberedHypothesis → List PlainTyped
typed_by symbols (floating label typecode variable) =
    record {
      number = variable;
      variable = symbol_token symbols variable;
      typecode = symbol_token symbols typecode;
    } ∷ []
typed_by symbols (essential label statement) = []

abbrev pub premise_by : List ScopeSymbol → NumberedHypothesis → List (List Token)
premise_by symbols (floating label typecode variable) = []
premise_by symbols (essential label statement) = map (symbol_token symbols) statement ∷ []

abbrev pub all_typed_by : List ScopeSymbol → List NumberedHypothesis → List PlainTyped
all_typed_by symbols [] = []
all_typed_by symbols (h ∷ hs) = typed_by symbols h ++ all_typed_by symbols hs

abbrev pub premises_by : List ScopeSymbol → List NumberedHypothesis → List (List Token)
premises_by symbols [] = []
premises_by symbols (h ∷ hs) = premise_by symbols h ++ premises_by symbols hs

abbrev pub stated_by : List ScopeSymbol → NumberedFrame → PlainStated
stated_by symbols f = record {
  numbers = f.statement;
  words = map (symbol_token symbols) f.statement;
  types = all_typed_by symbols f.hypotheses;
  premises = premises_by symbols f.hypotheses;
}
