-- What is left of the tokens of a text of which some were read.
use Rattle.std.specs.Prelude.{ℕ, List, drop, Result, Ok, Err}
use Rattle.kore_lex.specs.declared.lexer.TokenKind.TheVariants.{End}
use Rattle.kore_lex.specs.declared.lexer.Token.{Token}
use Rattle.kore_lex.specs.declared.lexer.LexFault.{LexFault}
use Rattle.kore_lex.specs.Lexed.{Cut, cut_end, cut_fault, lexed, cut_token}

-- the first token, the end or the fault
abbrev pub head : Cut → Result Token LexFault
head (cut_end n) = Ok (record { kind = End; from = n; to = n })
head (cut_fault n) = Err (record { at = n })
head (cut_token k from to s) = Ok (record { kind = k; from = from; to = to })

-- the stream after the first token; an end or a fault stays
abbrev pub tail : Cut → Cut
tail (cut_end n) = cut_end n
tail (cut_fault n) = cut_fault n
tail (cut_token k from to s) = s

-- a text, and the byte up to which its tokens were taken
pub record Unread : Type 0 where
  pub text : List ℕ
  pub at : ℕ

-- the tokens that are left
abbrev pub left : Unread → Cut
left u = lexed u.at (drop u.at u.text)
