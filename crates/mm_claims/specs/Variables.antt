-- The variables of a statement: object variables and pattern variables, each with its number.
use Rattle.std.specs.Prelude.{ℕ, ◌<◌, ◌^◌, Bool, true, false, ◌==◌, ◌||◌, ◌&&◌, List, [], ◌∷◌, map}
use Rattle.std.specs.Prelude.{filter, codes}
use Rattle.std.specs.Prelude as std
use Rattle.std.specs.List.{list_any}
use Rattle.mm_text.specs.Bytes.{Token}
use Rattle.ml_pat.specs.Patterns.{Pattern, nullary, unary, binary, sorted, quantified, var, meta}
use Rattle.ml_pat.specs.Patterns.{constant}
use Rattle.mm_proof.specs.Tokens.{object_token, meta_token}
use Rattle.mm_proof.specs.Labels.{object_label, meta_label}

pub data Variable : Type 0 where
  object_variable : ℕ → Variable
  pattern_variable : ℕ → Variable

abbrev pub is_object : Variable → Bool
is_object (object_variable i) = true
is_object (pattern_variable i) = false

abbrev pub number_of : Variable → ℕ
number_of (object_variable i) = i
number_of (pattern_variable i) = i

abbrev pub same_variable : Variable → Variable → Bool
same_variable (object_variable i) (object_variable j) = i == j
same_variable (object_variable i) (pattern_variable j) = false
same_variable (pattern_variable i) (object_variable j) = false
same_variable (pattern_variable i) (pattern_variable j) = i == j

abbrev pub has_variable : List Variable → Variable → Bool
has_variable vs v = list_any (λ u. same_variable u v) vs

-- no variable occurs twice
abbrev pub are_once : List Variable → Bool
are_once [] = true
are_once (v ∷ vs) = std.not (has_variable vs v) && are_once vs

-- each number has at most 64 bits
abbrev pub AreNumbered : List Variable → Type 0
AreNumbered [] = Unit {0}
AreNumbered (v ∷ vs) = (number_of v < 2 ^ 64) × AreNumbered vs

-- the variable occurs in the pattern, bound or free
abbrev pub occurs_in : Variable → Pattern → Bool
occurs_in v (nullary c) = false
occurs_in v (binary c p q) = occurs_in v p || occurs_in v q
occurs_in v (unary c p) = occurs_in v p
occurs_in v (sorted c p s) = occurs_in v p
occurs_in v (quantified c x s p) = same_variable (object_variable x) v || occurs_in v p
occurs_in v (var x) = same_variable (object_variable x) v
occurs_in v (meta i) = same_variable (pattern_variable i) v
occurs_in v (constant c) = false

-- the token of a variable, the label that types it in the block of a statement, and its type
abbrev pub variable_token : Variable → Token
variable_token (object_variable i) = object_token i
variable_token (pattern_variable i) = meta_token i

abbrev pub variable_label : ℕ → Variable → Token
variable_label k (object_variable i) = object_label k i
variable_label k (pattern_variable i) = meta_label k i

abbrev pub variable_type : Variable → Token
variable_type (object_variable i) = codes "#Var"
variable_type (pattern_variable i) = codes "#Pattern"

-- a token that begins with `x:` or `m:`
abbrev pub is_variable_token : Token → Bool
is_variable_token [] = false
is_variable_token (a ∷ []) = false
is_variable_token (a ∷ (b ∷ rest)) = (b == 58) && ((a == 120) || (a == 109))

-- the tokens of all variables, and of the object variables among them
abbrev pub variable_tokens : List Variable → List Token
variable_tokens vs = map variable_token vs

abbrev pub object_tokens : List Variable → List Token
object_tokens vs = map variable_token (filter is_object vs)

-- there are at least two
abbrev pub are_several : List Variable → Bool
are_several [] = false
are_several (v ∷ []) = false
are_several (v ∷ (w ∷ vs)) = true
