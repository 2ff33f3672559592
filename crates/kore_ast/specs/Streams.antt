-- The first of the tokens that are left. Only the clauses of private functions cite this.
use Rattle.std.specs.Prelude.{ℕ, Bool, true, false, ◌||◌, Option, Some, None, List, []}
use Rattle.kore_text.specs.declared.names.Built.{Built}
use Rattle.kore_text.specs.TokenStream.{KoreToken, identifier, set_identifier, builtin}
use Rattle.kore_text.specs.TokenStream.{string_token, Stream, end, no_token_at, token}
use Rattle.kore_text.specs.Apart.{is_mark}
use Rattle.kore_ast.specs.declared.reader.Keyword.{Keyword}
use Rattle.kore_ast.specs.declared.reader.Keyword.TheVariants as keyword
use Rattle.kore_ast.specs.Keywords.{keyword_at}
use Rattle.kore_ast.specs.declared.reader.Head.{Head}
use Rattle.kore_ast.specs.declared.reader.Head.TheVariants as head

-- what follows the first token
abbrev pub after : Stream → Stream
after (end e) = end e
after (no_token_at e) = no_token_at e
after (token t p s) = s

-- the byte at which the first token begins, or the byte of the end or of the fault
abbrev pub byte_of_next : Stream → ℕ
byte_of_next (end e) = e
byte_of_next (no_token_at e) = e
byte_of_next (token t p s) = p

-- the first token, if there is one
abbrev pub seen : Stream → Option KoreToken
seen (end e) = None
seen (no_token_at e) = None
seen (token t p s) = Some t

-- the token is this mark
abbrev pub has_mark : ℕ → Option KoreToken → Bool
has_mark c None = false
has_mark c (Some t) = is_mark c t

-- there is no token
abbrev pub is_done : Option KoreToken → Bool
is_done None = true
is_done (Some t) = false

-- a list with this closing mark has no further item: the mark comes next, or there is no token
abbrev pub is_over : ℕ → Option KoreToken → Bool
is_over c t = is_done t || has_mark c t

-- the name of an identifier; empty for any other token
abbrev pub name_of : Option KoreToken → List ℕ
name_of (Some (identifier n)) = n
name_of _ = []

abbrev pub set_name_of : Option KoreToken → List ℕ
set_name_of (Some (set_identifier n)) = n
set_name_of _ = []

-- the text of a string; empty for any other token
abbrev pub text_of : Option KoreToken → List ℕ
text_of (Some (string_token t)) = t
text_of _ = []

abbrev pub built_head : Option Built → Head
built_head (Some b) = head.Builtin b
built_head None = head.Nothing

-- the kind of pattern that the token begins
abbrev pub head_of : Option KoreToken → Head
head_of (Some (identifier n)) = head.Name
head_of (Some (set_identifier n)) = head.SetName
head_of (Some (string_token t)) = head.Text
head_of (Some (builtin b)) = built_head b
head_of _ = head.Nothing

-- the token is a string or begins no pattern
abbrev pub is_textual : Head → Bool
is_textual head.Text = true
is_textual head.Nothing = true
is_textual _ = false

-- the kind of declaration that the token begins
abbrev pub keyword_of : Option KoreToken → Keyword
keyword_of (Some (identifier n)) = keyword_at n
keyword_of _ = keyword.Nothing

-- the token begins a claim or no declaration
abbrev pub is_claimed : Keyword → Bool
is_claimed keyword.Claim = true
is_claimed keyword.Nothing = true
is_claimed _ = false

-- the token begins a declaration
abbrev pub is_declared : Keyword → Bool
is_declared keyword.Nothing = false
is_declared _ = true
