-- What is left of a text while it is read. Only the clauses of private functions cite this.
use Rattle.std.specs.Prelude.{◌≡◌, ℕ, Bool, List, ◌∷◌, map, if◌then◌else◌, codes, ◌==◌, ◌||◌}
use Rattle.kore_ast.specs.declared.reader.Reader.{Reader}
use Rattle.kore_ast.specs.Known.{first}
use Rattle.kore_text.specs.TokenStream.{identifier, Stream}
use Rattle.kore_text.specs.Remaining.{left as behind, size as count}
use Rattle.kore_text.specs.Trees.{SortTree, AxiomDeclaration, Declaration}
use Rattle.kore_text.specs.Grammar.{Requirement, any, Spelling, listed, in_order, TakesTokens}
use Rattle.kore_text.specs.Grammar.{keyword, spell_signature, spell_statement, spell_declaration}
use Rattle.kore_text.specs.Apart.{Apart}
use Rattle.kore_ast.specs.Streams.{after, seen, is_over}

-- the tokens that are left, and how many they are
abbrev pub left : Reader → Stream
left r = first r.next (behind r.tokens)

abbrev pub size : Reader → ℕ
size r = count (left r)

-- the tokens from the stream `s` up to the stream `e` meet the requirements `k`
pub record Has (k : List Requirement) (s e : Stream) : Type 0 where
  pub takes : TakesTokens k s e

-- if the stream `s` begins with the spelling of a thing `t` and no opening brace follows it, then
-- `t` is `x`, and what follows `t` is the stream `r`
pub record Reads {T : Type 0} (spell : T → Spelling) (x : T) (s r : Stream) : Type 0 where
  pub exact : (t : T) (k : List Requirement) (e : Stream) → Apart k e → Has (spell t k) s e
      → (t ≡ x) × Has k r e

-- a list, from the token after its opening bracket
abbrev pub spell_list : {T : Type 0} → (T → Spelling) → ℕ → List T → Spelling
spell_list spell close xs k = listed (map spell xs) close k

-- what is left after the test for another item of a list: a closing mark is passed, and so is the
-- comma before each item but the first
abbrev pub behind_comma : Bool → ℕ → Stream → Stream
behind_comma first close s =
    if is_over close (seen s) then after s else (if first then s else after s)

-- the byte is a closing mark: `}`, `)` or `]`
abbrev pub is_closing : ℕ → Bool
is_closing c = (c == 125) || (c == 41) || (c == 93)

-- sorts in parentheses, a colon and a sort
abbrev pub spell_signature_pair : List SortTree × SortTree → Spelling
spell_signature_pair x k = spell_signature x.0 x.1 k

-- an axiom or a claim, with this keyword
abbrev pub spell_stated : List ℕ → AxiomDeclaration → Spelling
spell_stated word d k = keyword d.at word ∷ spell_statement d k

-- declarations, up to and including the word `endmodule` that ends a module
abbrev pub spell_body : List Declaration → Spelling
spell_body ds k = in_order (map spell_declaration ds) (any (identifier (codes "endmodule")) ∷ k)
