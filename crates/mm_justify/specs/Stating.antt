-- What the statements of a proof file say: the typecode of a name, and that a pattern holds.
use Rattle.std.specs.Prelude.{◌≡◌, ℕ, ◌<◌, Bool, true, false, not, ◌&&◌, ◌==◌, if◌then◌else◌, List}
use Rattle.std.specs.Prelude.{[], ◌∷◌, ◌++◌, map, length, Contains, codes, bytes_eq}
use Rattle.std.specs.List.{list_all}
use Rattle.mm_text.specs.Bytes.{Token, is_printable, has_token}
use Rattle.mm_database.specs.Frames.{Hypothesis, floating, Frame}
use Rattle.ml_pat.specs.Patterns.{Pattern, nullary, unary, binary, sorted, quantified, var, meta}
use Rattle.ml_pat.specs.Patterns.{constant}
use Rattle.ml_pat.specs.Leaves.{LeafFacts}
use Rattle.mm_proof.specs.Tokens.{object_token, name_of, pattern_tokens}

-- ---- names

-- a byte of a name: printable, and not `$`
abbrev pub is_name_byte : ℕ → Bool
is_name_byte b = is_printable b && (if b == 36 then false else true)

-- the token of a sort begins with `s:`, that of a symbol with `f:`, that of a value with `d:`
abbrev pub fronts : List Token
fronts = codes "s:" ∷ codes "f:" ∷ codes "d:" ∷ []

-- the token is one of a sort, of a symbol or of a value
pub record IsName (token : Token) : Type 0 where
  pub front : Token
  pub rest : Token
  pub is_front : Contains fronts front
  pub is : token ≡ front ++ rest
  pub bytes : list_all is_name_byte rest ≡ true

-- the typecode of sorts is `#Sort`, and that of symbols and values is `#Pattern`
abbrev pub typecode_of : Token → Token
typecode_of [] = codes "#Pattern"
typecode_of (b ∷ bytes) = if b == 115 then codes "#Sort" else codes "#Pattern"

-- the frame of the statement that gives a name its typecode
abbrev pub name_frame : Token → Frame
name_frame token = record {
  label = [];
  hypotheses = [];
  apart = λ x y. false;
  statement = typecode_of token ∷ (token ∷ []);
}

-- ---- patterns

-- what is written to say that a pattern holds, with the tokens of names
abbrev pub holds_text : List Token → Pattern → List Token
holds_text names p = codes "|-" ∷ pattern_tokens names p

-- the object variables that occur in a pattern, bound or free
abbrev pub variables_in : Pattern → List ℕ
variables_in (nullary c) = []
variables_in (unary c p) = variables_in p
variables_in (binary c p q) = variables_in p ++ variables_in q
variables_in (sorted c p s) = variables_in p
variables_in (quantified c x s p) = x ∷ variables_in p
variables_in (var x) = x ∷ []
variables_in (meta i) = []
variables_in (constant c) = []

abbrev pub typed : ℕ → Hypothesis
typed x = floating [] (codes "#Var") (object_token x)

-- two different tokens, both of these variables
abbrev pub are_apart : List ℕ → Token → Token → Bool
are_apart xs a b =
    not (bytes_eq a b)
    && (has_token (map object_token xs) a && has_token (map object_token xs) b)

-- The frame of the statement that a pattern without pattern variables holds. It has no `$e`. Its
-- variables are those of the pattern, `x:i` of the type `#Var`, and any two of them have to stay
-- apart.
abbrev pub holds_frame : List Token → Pattern → Frame
holds_frame names p = record {
  label = [];
  hypotheses = map typed (variables_in p);
  apart = are_apart (variables_in p);
  statement = holds_text names p;
}

-- a pattern without variables: each sort is the number of a sort's token among the names, and each
-- constant is that of the token of a symbol or of a value
abbrev pub closed_over : List Token → LeafFacts
closed_over names = record {
  sort = λ i. (i < length names) × (typecode_of (name_of names i) ≡ codes "#Sort");
  constant = λ i. (i < length names) × (typecode_of (name_of names i) ≡ codes "#Pattern");
  object = λ i. ⊥;
  meta = λ i. ⊥;
}
