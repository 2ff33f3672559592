-- What the tokens of a statement mean (Metamath book, "The Complete Language Specification"). Its
-- keyword is its first token with a `$`. Labels come before the keyword, and symbols after it. The
-- proof of a `$p` comes after its `$=`.
use Rattle.std.specs.Prelude.{Bool, true, false, ◌&&◌, ◌==◌, if◌then◌else◌, List, [], ◌∷◌, Option}
use Rattle.std.specs.Prelude.{Some, None, option_and_then, codes, bytes_eq}
use Rattle.std.specs.List.{list_any}
use Rattle.mm_text.specs.Bytes.{Token}
use Rattle.mm_text.specs.Statements.{ends_statement}

-- `$c`, `$v`, `$f`, `$e`, `$d`, `$a` and `$p`
pub data Keyword : Type 0 where
  declares_constants : Keyword
  declares_variables : Keyword
  types_variable : Keyword
  assumes : Keyword
  separates : Keyword
  asserts : Keyword
  proves : Keyword

-- `${`, `$}`, or a statement's labels, keyword, symbols and proof
pub data Form : Type 0 where
  block_start : Form
  block_end : Form
  plain : List Token → Keyword → List Token → List Token → Form

abbrev pub has_dollar : Token → Bool
has_dollar token = list_any (λ b. b == 36) token

-- the tokens before the first one with a `$`, and those from it on
abbrev pub before_dollar : List Token → List Token
before_dollar [] = []
before_dollar (token ∷ tokens) = if has_dollar token then [] else token ∷ before_dollar tokens

abbrev pub from_dollar : List Token → List Token
from_dollar [] = []
from_dollar (token ∷ tokens) = if has_dollar token then token ∷ tokens else from_dollar tokens

abbrev pub keyword_of : Token → Option Keyword
keyword_of token =
    if bytes_eq token (codes "$c") then Some declares_constants else
    if bytes_eq token (codes "$v") then Some declares_variables else
    if bytes_eq token (codes "$f") then Some types_variable else
    if bytes_eq token (codes "$e") then Some assumes else
    if bytes_eq token (codes "$d") then Some separates else
    if bytes_eq token (codes "$a") then Some asserts else
    if bytes_eq token (codes "$p") then Some proves else None

-- only `$.` is left
abbrev pub is_end : List Token → Bool
is_end [] = false
is_end (token ∷ []) = ends_statement token
is_end (token ∷ (next ∷ tokens)) = false

abbrev pub is_nil : List Token → Bool
is_nil [] = true
is_nil (token ∷ tokens) = false

abbrev pub form_if : Bool → Form → Option Form
form_if test form = if test then Some form else None

-- `rest` begins with the first token with a `$` after the symbols; there has to be a symbol
abbrev pub declaration_form : List Token → Keyword → List Token → List Token → Option Form
declaration_form labels keyword [] rest = None
declaration_form labels keyword (symbol ∷ symbols) rest =
    form_if (is_end rest) (plain labels keyword (symbol ∷ symbols) [])

abbrev pub proof_form : List Token → List Token → List Token → Option Form
proof_form labels symbols [] = None
proof_form labels symbols (token ∷ rest) =
    form_if (bytes_eq token (codes "$=") && is_end (from_dollar rest))
    (plain labels proves symbols (before_dollar rest))

abbrev pub keyword_form : List Token → List Token → List Token → Keyword → Option Form
keyword_form labels symbols rest declares_constants =
    declaration_form labels declares_constants symbols rest
keyword_form labels symbols rest declares_variables =
    declaration_form labels declares_variables symbols rest
keyword_form labels symbols rest types_variable =
    form_if (is_end rest) (plain labels types_variable symbols [])
keyword_form labels symbols rest assumes = form_if (is_end rest) (plain labels assumes symbols [])
keyword_form labels symbols rest separates =
    form_if (is_end rest) (plain labels separates symbols [])
keyword_form labels symbols rest asserts = form_if (is_end rest) (plain labels asserts symbols [])
keyword_form labels symbols rest proves = proof_form labels symbols rest

-- the form of a statement from its labels and its tokens from the keyword on
abbrev pub labelled_form : List Token → List Token → Option Form
labelled_form labels [] = None
labelled_form labels (token ∷ rest) =
    option_and_then (keyword_form labels (before_dollar rest) (from_dollar rest)) (keyword_of token)

abbrev pub block_form : Token → Option Form
block_form token =
    if bytes_eq token (codes "${") then Some block_start else
    if bytes_eq token (codes "$}") then Some block_end else None

-- the form of a statement, if its keywords are well placed
abbrev pub form_of : List Token → Option Form
form_of [] = None
form_of (token ∷ []) = block_form token
form_of (token ∷ (next ∷ tokens)) =
    labelled_form (before_dollar (token ∷ (next ∷ tokens))) (from_dollar (token ∷ (next ∷ tokens)))
