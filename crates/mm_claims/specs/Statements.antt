-- The statements that a renderer writes.
use Rattle.std.specs.Prelude.{◌≡◌, ℕ, ◌+◌, Bool, true, false, ◌&&◌, ◌==◌, if◌then◌else◌, List, []}
use Rattle.std.specs.Prelude.{◌∷◌, ◌++◌, codes}
use Rattle.std.specs.List.{list_all}
use Rattle.mm_text.specs.Bytes.{Token, is_printable}
use Rattle.mm_database.specs.Forms.{declares_constants, asserts}
use Rattle.ml_pat.specs.Patterns.{Pattern}
use Rattle.mm_proof.specs.Tokens.{own_naming}
use Rattle.mm_proof.specs.Labels.{name_label, statement_label}
use Rattle.mm_proof.specs.Derivations.{holds_text}
use Rattle.mm_database.specs.StatementTexts.{plain_tokens, proof_tokens}

-- The kinds of the tokens of names: `s:S` of a sort, `f:f` of a symbol, `d:S:..` of a value.
pub data NameKind : Type 0 where
  sort_name : NameKind
  symbol_name : NameKind
  value_name : NameKind

abbrev pub kind_front : NameKind → Token
kind_front sort_name = codes "s:"
kind_front symbol_name = codes "f:"
kind_front value_name = codes "d:"

-- a byte of a name: printable, and not `$`
abbrev pub is_name_byte : ℕ → Bool
is_name_byte b = is_printable b && (if b == 36 then false else true)

-- the token is one of a sort, of a symbol or of a value
pub record IsName (token : Token) : Type 0 where
  pub kind : NameKind
  pub rest : Token
  pub is : token ≡ kind_front kind ++ rest
  pub bytes : list_all is_name_byte rest ≡ true

-- the typecode of sorts is `#Sort`, and that of symbols and values is `#Pattern`
abbrev pub typecode_of : Token → Token
typecode_of [] = codes "#Pattern"
typecode_of (b ∷ bytes) = if b == 115 then codes "#Sort" else codes "#Pattern"

-- the declaration of a name as a constant, and its `$a`
abbrev pub name_statements : ℕ → Token → List (List Token)
name_statements i token =
    plain_tokens [] declares_constants (token ∷ []) ∷
    plain_tokens (name_label i ∷ []) asserts (typecode_of token ∷ (token ∷ [])) ∷ []

-- the statements of names with the numbers from i on
abbrev pub all_name_statements : ℕ → List Token → List (List Token)
all_name_statements i [] = []
all_name_statements i (token ∷ tokens) =
    name_statements i token ++ all_name_statements (i + 1) tokens

-- an axiom, and a theorem with the tokens of its proof
abbrev pub axiom_statement : List Token → ℕ → Pattern → List Token
axiom_statement declared k p =
    plain_tokens (statement_label k ∷ []) asserts (holds_text (own_naming declared) p)

abbrev pub theorem_statement : List Token → ℕ → Pattern → List Token → List Token
theorem_statement declared k p proof =
    proof_tokens (statement_label k ∷ []) (holds_text (own_naming declared) p) proof
