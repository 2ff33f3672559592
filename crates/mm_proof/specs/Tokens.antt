-- The tokens of a pattern in a proof file: a connective in brackets before its parts.
use Rattle.std.specs.Prelude.{ℕ, List, [], ◌∷◌, ◌++◌, codes, decimal, slice_index_or}
use Rattle.mm_text.specs.Bytes.{Token}
use Rattle.ml_pat.specs.Patterns.{Nullary, Bot, Top, Unary, Not, Next, Ev, Binary, Imp, And, Or}
use Rattle.ml_pat.specs.Patterns.{Equal, Member, App, Sorted, Fun, AtSort, Quantifier, Ex, All}
use Rattle.ml_pat.specs.Patterns.{Pattern, nullary, unary, binary, sorted, quantified, var, meta}
use Rattle.ml_pat.specs.Patterns.{constant}

-- a token for each sort, constant, object variable and pattern variable
pub record Naming : Type 0 where
  pub sort : ℕ → Token
  pub constant : ℕ → Token
  pub object : ℕ → Token
  pub meta : ℕ → Token

-- a list of tokens for each of them
pub record Letters : Type 0 where
  pub sort : ℕ → List Token
  pub constant : ℕ → List Token
  pub object : ℕ → List Token
  pub meta : ℕ → List Token

abbrev pub letters_of : Naming → Letters
letters_of n = record {
  sort = λ i. n.sort i ∷ [];
  constant = λ i. n.constant i ∷ [];
  object = λ i. n.object i ∷ [];
  meta = λ i. n.meta i ∷ [];
}

-- `( k arguments )`
abbrev pub bracketed : Token → List Token → List Token
bracketed k arguments = codes "(" ∷ (k ∷ arguments)

abbrev pub bracket : List Token
bracket = codes ")" ∷ []

-- The names of the connectives. The token of a connective is its name after a backslash, and the
-- labels of the header's rows about it are its name after a prefix.
abbrev pub nullary_name : Nullary → Token
nullary_name Bot = codes "bot"
nullary_name Top = codes "top"

abbrev pub unary_name : Unary → Token
unary_name Not = codes "not"
unary_name Next = codes "next"
unary_name Ev = codes "ev"

abbrev pub binary_name : Binary → Token
binary_name Imp = codes "imp"
binary_name And = codes "and"
binary_name Or = codes "or"
binary_name Equal = codes "eq"
binary_name Member = codes "mem"
binary_name App = codes "app"

abbrev pub sorted_name : Sorted → Token
sorted_name Fun = codes "fun"
sorted_name AtSort = codes "at"

abbrev pub quantifier_name : Quantifier → Token
quantifier_name Ex = codes "ex"
quantifier_name All = codes "all"

-- the tokens of a pattern whose leaves have these tokens
abbrev pub text_by : Letters → Pattern → List Token
text_by l (nullary c) = (codes "\\" ++ nullary_name c) ∷ []
text_by l (binary c p q) =
    bracketed (codes "\\" ++ binary_name c) (text_by l p ++ (text_by l q ++ bracket))
text_by l (unary c p) = bracketed (codes "\\" ++ unary_name c) (text_by l p ++ bracket)
text_by l (sorted c p s) =
    bracketed (codes "\\" ++ sorted_name c) (text_by l p ++ (l.sort s ++ bracket))
text_by l (quantified c x s p) =
    bracketed (codes "\\" ++ quantifier_name c)
    (l.object x ++ (l.sort s ++ (text_by l p ++ bracket)))
text_by l (var x) = l.object x
text_by l (meta i) = l.meta i
text_by l (constant c) = l.constant c

-- the tokens `x:i` of an object variable and `m:i` of a pattern variable
abbrev pub object_token : ℕ → Token
object_token i = codes "x:" ++ decimal i

abbrev pub meta_token : ℕ → Token
meta_token i = codes "m:" ++ decimal i

-- the token with this number
abbrev pub name_of : List Token → ℕ → Token
name_of names i = slice_index_or names i []

-- the tokens of sorts and constants are these, by number
abbrev pub own_naming : List Token → Naming
own_naming names = record {
  sort = name_of names;
  constant = name_of names;
  object = object_token;
  meta = meta_token;
}

abbrev pub pattern_tokens : List Token → Pattern → List Token
pattern_tokens names p = text_by (letters_of (own_naming names)) p
