-- The tokens of a Kore text, each with the byte at which it begins (Kore language document, lexical
-- structure).
use Rattle.std.specs.Prelude.{ℕ, ◌-◌, List, take, drop, Option, Some, None, if◌then◌else◌, codes}
use Rattle.std.specs.Prelude.{true, false}
use Rattle.std.specs.Str.{bytes_eq}
use Rattle.kore_lex.specs.declared.lexer.TokenKind.{TokenKind}
use Rattle.kore_lex.specs.declared.lexer.TokenKind.TheVariants as kind
use Rattle.kore_lex.specs.Lexed.{lexed, Cut, cut_end, cut_fault, cut_token}
use Rattle.kore_lex.specs.Value.{string_value}
use Rattle.kore_text.specs.declared.names.Op.TheVariants as op
use Rattle.kore_text.specs.declared.names.Binder.TheVariants as binder
use Rattle.kore_text.specs.declared.names.Built.{Built}
use Rattle.kore_text.specs.declared.names.Built.TheVariants.{Connective, Binding, Value, Fold}

-- a token: an identifier; the identifier of a set variable, after its `@`; what a built-in name
-- stands for, if it stands for anything; the text of a string; a mark; or `:=`
pub data KoreToken : Type 0 where
  identifier : List ℕ → KoreToken
  set_identifier : List ℕ → KoreToken
  builtin : Option Built → KoreToken
  string_token : List ℕ → KoreToken
  mark : ℕ → KoreToken
  assign : KoreToken

-- what the name after a backslash stands for, if it stands for anything
unfoldable pub built_of : List ℕ → Option Built
built_of n =
    if bytes_eq n (codes "top") then Some (Connective op.Top)
    else (if bytes_eq n (codes "bottom") then Some (Connective op.Bottom)
    else (if bytes_eq n (codes "not") then Some (Connective op.Not)
    else (if bytes_eq n (codes "next") then Some (Connective op.Next)
    else (if bytes_eq n (codes "and") then Some (Connective op.And)
    else (if bytes_eq n (codes "or") then Some (Connective op.Or)
    else (if bytes_eq n (codes "implies") then Some (Connective op.Implies)
    else (if bytes_eq n (codes "iff") then Some (Connective op.Iff)
    else (if bytes_eq n (codes "rewrites") then Some (Connective op.Rewrites)
    else (if bytes_eq n (codes "ceil") then Some (Connective op.Ceil)
    else (if bytes_eq n (codes "floor") then Some (Connective op.Floor)
    else (if bytes_eq n (codes "equals") then Some (Connective op.Equals)
    else (if bytes_eq n (codes "in") then Some (Connective op.Member)
    else (if bytes_eq n (codes "exists") then Some (Binding binder.Exists)
    else (if bytes_eq n (codes "forall") then Some (Binding binder.Forall)
    else (if bytes_eq n (codes "mu") then Some (Binding binder.Mu)
    else (if bytes_eq n (codes "nu") then Some (Binding binder.Nu)
    else (if bytes_eq n (codes "dv") then Some Value
    else (if bytes_eq n (codes "left-assoc") then Some (Fold true)
    else (if bytes_eq n (codes "right-assoc") then Some (Fold false)
    else None)))))))))))))))))))

-- the token of this kind with these bytes
abbrev pub token_of : TokenKind → List ℕ → KoreToken
token_of kind.Ident bs = identifier bs
token_of kind.SetIdent bs = set_identifier (drop 1 bs)
token_of kind.Builtin bs = builtin (built_of (drop 1 bs))
token_of kind.Text bs = string_token (string_value bs)
token_of (kind.Punct c) bs = mark c
token_of kind.Assign bs = assign
token_of kind.End bs = assign

-- tokens in order, each with the byte at which it begins; then the end of the text, or the byte of
-- something that is no token
pub data Stream : Type 0 where
  end : ℕ → Stream
  no_token_at : ℕ → Stream
  token : KoreToken → ℕ → Stream → Stream

-- a token of the text from byte `from` to byte `to`, and the stream after it; a token of the kind
-- `End` is the end
abbrev pub token_then : List ℕ → TokenKind → ℕ → ℕ → Stream → Stream
token_then text kind.End from to s = end from
token_then text kind from to s = token (token_of kind (take (to - from) (drop from text))) from s

-- the tokens of a text that was cut into pieces
abbrev pub named_tokens : List ℕ → Cut → Stream
named_tokens text (cut_end n) = end n
named_tokens text (cut_fault n) = no_token_at n
named_tokens text (cut_token k from to s) = token_then text k from to (named_tokens text s)

-- the tokens of a text
unfoldable pub token_stream : List ℕ → Stream
token_stream text = named_tokens text (lexed 0 text)
