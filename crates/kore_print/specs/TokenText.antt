-- The canonical text of a token.
use Rattle.std.specs.Prelude.{ℕ, zero, suc, ◌/◌, ◌%◌, ◌==◌, ◌&&◌, nat_le, nat_lt, true, false, List}
use Rattle.std.specs.Prelude.{[], ◌∷◌, ◌++◌, Some, None, if◌then◌else◌, codes}
use Rattle.std.specs.Char.{digit_char}
use Rattle.std.specs.Str.{chars}
use Rattle.kore_text.specs.declared.names.Op.{Op}
use Rattle.kore_text.specs.declared.names.Op.TheVariants as op
use Rattle.kore_text.specs.declared.names.Binder.{Binder}
use Rattle.kore_text.specs.declared.names.Binder.TheVariants as binder
use Rattle.kore_text.specs.declared.names.Built.{Built}
use Rattle.kore_text.specs.declared.names.Built.TheVariants.{Connective, Binding, Value, Fold}
use Rattle.kore_text.specs.TokenStream.{KoreToken, identifier, set_identifier, builtin}
use Rattle.kore_text.specs.TokenStream.{string_token, mark, assign}

-- the last hexadecimal digits of a number, in lower case; the first argument is how many
abbrev pub hexadecimal_digits : ℕ → ℕ → List ℕ
hexadecimal_digits zero n = []
hexadecimal_digits (suc k) n = hexadecimal_digits k (n / 16) ++ (digit_char (n % 16) ∷ [])

-- the escape of a character by its number, in 2, 4 or 8 hexadecimal digits, as few as possible
abbrev pub numbered_text : ℕ → List ℕ
numbered_text c =
    if nat_lt c 256 then codes "\\x" ++ hexadecimal_digits 2 c
    else (if nat_lt c 65536 then codes "\\u" ++ hexadecimal_digits 4 c
    else codes "\\U" ++ hexadecimal_digits 8 c)

-- a character inside a string: `"` and `\` after a backslash, LF, CR, tab and FF by their letters,
-- other characters from the space to the tilde as themselves, and all others by their numbers
unfoldable pub character_text : ℕ → List ℕ
character_text c =
    if c == 34 then codes "\\\""
    else (if c == 92 then codes "\\\\"
    else (if c == 10 then codes "\\n"
    else (if c == 13 then codes "\\r"
    else (if c == 9 then codes "\\t"
    else (if c == 12 then codes "\\f"
    else (if nat_le 32 c && nat_le c 126 then c ∷ []
    else numbered_text c))))))

-- the characters of a string, one after the other
abbrev pub characters_text : List ℕ → List ℕ
characters_text [] = []
characters_text (c ∷ cs) = character_text c ++ characters_text cs

-- a string in its quotes
abbrev pub string_text : List ℕ → List ℕ
string_text t = 34 ∷ (characters_text (chars t) ++ (34 ∷ []))

abbrev pub op_name : Op → List ℕ
op_name op.Top = codes "top"
op_name op.Bottom = codes "bottom"
op_name op.Not = codes "not"
op_name op.Next = codes "next"
op_name op.And = codes "and"
op_name op.Or = codes "or"
op_name op.Implies = codes "implies"
op_name op.Iff = codes "iff"
op_name op.Rewrites = codes "rewrites"
op_name op.Ceil = codes "ceil"
op_name op.Floor = codes "floor"
op_name op.Equals = codes "equals"
op_name op.Member = codes "in"

abbrev pub binder_name : Binder → List ℕ
binder_name binder.Exists = codes "exists"
binder_name binder.Forall = codes "forall"
binder_name binder.Mu = codes "mu"
binder_name binder.Nu = codes "nu"

-- the name of a built-in, without its backslash
abbrev pub built_name : Built → List ℕ
built_name (Connective o) = op_name o
built_name (Binding o) = binder_name o
built_name Value = codes "dv"
built_name (Fold true) = codes "left-assoc"
built_name (Fold false) = codes "right-assoc"

-- the text of a token; a built-in token without a built-in has no text
abbrev pub token_text : KoreToken → List ℕ
token_text (identifier n) = n
token_text (set_identifier n) = 64 ∷ n
token_text (builtin (Some b)) = 92 ∷ built_name b
token_text (builtin None) = []
token_text (string_token t) = string_text t
token_text (mark c) = c ∷ []
token_text assign = codes ":="
