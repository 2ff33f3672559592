-- The frame of an assertion (Metamath book, "Frames"): its mandatory hypotheses in order of
-- appearance, the pairs of its variables that have to stay apart, and its statement.
use Rattle.std.specs.Prelude.{Bool, true, false, ◌&&◌, ◌||◌, List, [], ◌∷◌, filter, bytes_eq}
use Rattle.std.specs.List.{list_any}
use Rattle.mm_text.specs.Bytes.{Token, has_token}

-- A `$f` with its label, typecode and variable, or a `$e` with its label and statement. Symbols are
-- tokens, or the numbers that a verifier uses for them.
pub data HypothesisOver (A : Type 0) : Type 0 where
  floating : Token → A → A → HypothesisOver A
  essential : Token → List A → HypothesisOver A

abbrev pub Hypothesis : Type 0
Hypothesis = HypothesisOver Token

abbrev pub label_of : {A : Type 0} → HypothesisOver A → Token
label_of (floating label typecode variable) = label
label_of (essential label statement) = label

abbrev pub statement_of : {A : Type 0} → HypothesisOver A → List A
statement_of (floating label typecode variable) = typecode ∷ (variable ∷ [])
statement_of (essential label statement) = statement

-- What is active at a place: variables, hypotheses in order of appearance, and the pairs of the
-- `$d` statements.
pub record Scope : Type 0 where
  pub variables : Token → Bool
  pub hypotheses : List Hypothesis
  pub apart : Token → Token → Bool

pub record FrameOver (A : Type 0) : Type 0 where
  pub label : Token
  pub hypotheses : List (HypothesisOver A)
  pub apart : A → A → Bool
  pub statement : List A

abbrev pub Frame : Type 0
Frame = FrameOver Token

-- the hypothesis types this variable
abbrev pub types : Token → Hypothesis → Bool
types token (floating label typecode variable) = bytes_eq variable token
types token (essential label statement) = false

-- the token occurs in a `$e`
abbrev pub occurs_in : Token → Hypothesis → Bool
occurs_in token (floating label typecode variable) = false
occurs_in token (essential label statement) = has_token statement token

-- the token occurs in the statement or in an active `$e`
abbrev pub is_needed : Scope → List Token → Token → Bool
is_needed scope statement token =
    has_token statement token || list_any (occurs_in token) scope.hypotheses

-- each active `$e`, and the `$f` of each variable that is needed
abbrev pub is_mandatory : Scope → List Token → Hypothesis → Bool
is_mandatory scope statement (floating label typecode variable) = is_needed scope statement variable
is_mandatory scope statement (essential label premise) = true

abbrev pub frame_of : Scope → Token → List Token → Frame
frame_of scope name tokens = record {
  label = name;
  hypotheses = filter (is_mandatory scope tokens) scope.hypotheses;
  apart = λ a b. scope.apart a b && (is_needed scope tokens a && is_needed scope tokens b);
  statement = tokens;
}
