-- The first fault of a text. The tokens before it are good: they begin a text of the language, at
-- most 500 brackets are open among them, and none of them begins a fold without an argument. The
-- fault is what comes after the good tokens.
use Rattle.std.specs.Prelude.{◌≡◌, ◌≤◌, ◌<◌, ℕ, ◌+◌, Bool, false, ◌==◌, List, [], ◌∷◌, ◌++◌, ◌⊎◌}
use Rattle.std.specs.Prelude.{Option, Some, None}
use Rattle.kore_text.specs.declared.names.Op.{Op}
use Rattle.kore_text.specs.declared.names.Built.TheVariants.{Connective, Fold}
use Rattle.kore_text.specs.declared.faults.TextFault.{TextFault}
use Rattle.kore_text.specs.declared.faults.TextFault.TheVariants.{Lex, Syntax, Deep}
use Rattle.kore_text.specs.TokenStream.{KoreToken, identifier, builtin, mark, Stream, end}
use Rattle.kore_text.specs.TokenStream.{no_token_at, token}
use Rattle.kore_text.specs.Trees.{PatternTree, SortTrees, sort_count, DefinitionTree}
use Rattle.kore_text.specs.Grammar.{Requirement, any, provided, TakesTokens, listed, spell_sorts}
use Rattle.kore_text.specs.Grammar.{spell_pattern, spell_definition, is_associative}
use Rattle.kore_text.specs.Depth.{opened, IsShallow}

-- there is exactly one sort
abbrev pub is_single : SortTrees → Bool
is_single ss = sort_count ss == 1

-- the head of a folded application, with its sorts: a symbol, or `\and` or `\or` of a sort
pub data FoldHead : Type 0 where
  head_of_symbol : List ℕ → SortTrees → FoldHead
  of_connective : Op → SortTrees → FoldHead

-- the application of the head to no argument, up to and including the closing parenthesis
abbrev pub spell_unfilled : FoldHead → List Requirement → List Requirement
spell_unfilled (head_of_symbol n ss) k =
    any (identifier n) ∷ any (mark 123)
    ∷ listed (spell_sorts ss) 125 (any (mark 40) ∷ any (mark 41) ∷ k)
spell_unfilled (of_connective o ss) k =
    provided (is_associative o) ∷ provided (is_single ss) ∷ any (builtin (Some (Connective o)))
    ∷ any (mark 123) ∷ listed (spell_sorts ss) 125 (any (mark 40) ∷ any (mark 41) ∷ k)

-- the token and what follows it begin a fold without an argument: empty braces, and in parentheses
-- an application to no argument; the closing parenthesis of the fold itself is not tested
abbrev pub IsEmptyFold : KoreToken → Stream → Type 0
IsEmptyFold t s =
    (left : Bool) × (t ≡ builtin (Some (Fold left)))
    × (h : FoldHead) × (r : Stream)
    × TakesTokens (any (mark 123) ∷ any (mark 125) ∷ any (mark 40) ∷ spell_unfilled h []) s r

-- ---- good tokens, and what follows them

-- a token with the byte at which it begins
abbrev pub PlacedToken : Type 0
PlacedToken = KoreToken × ℕ

-- the stream that begins with these tokens and goes on with this rest
abbrev pub followed_by : List PlacedToken → Stream → Stream
followed_by [] rest = rest
followed_by (t ∷ ts) rest = token t.0 t.1 (followed_by ts rest)

-- how many brackets are open after the tokens, if `n` are open before them
abbrev pub open_after : List PlacedToken → ℕ → ℕ
open_after [] n = n
open_after (t ∷ ts) n = open_after ts (opened t.0 n)

-- some text of the language begins with the tokens
abbrev pub Begins : (Stream → Type 0) → List PlacedToken → Type 0
Begins L good = (r : Stream) × L (followed_by good r)

-- The tokens before this rest are good, if `n` brackets are open before them. They begin a text of
-- the language, at most 500 brackets are open after each of them, and none of them begins a fold
-- without an argument.
pub record IsGood (L : Stream → Type 0) (n : ℕ) (good : List PlacedToken) (rest : Stream) :
    Type 0 where
  pub begins : Begins L good
  pub shallow : (before : List PlacedToken) (t : PlacedToken) (after : List PlacedToken)
      → good ≡ before ++ t ∷ after → opened t.0 (open_after before n) ≤ 500
  pub filled : (before : List PlacedToken) (t : PlacedToken) (after : List PlacedToken)
      → good ≡ before ++ t ∷ after → IsEmptyFold t.0 (followed_by after rest) → ⊥

-- the good tokens cannot go on: the text ends after them and is not of the language, or no text of
-- the language begins with them and the next token, or the next token begins a fold without an
-- argument
abbrev pub Stops : (Stream → Type 0) → List PlacedToken → Stream → ℕ → Type 0
Stops L good (end e) at = (at ≡ e) × (L (followed_by good (end e)) → ⊥)
Stops L good (no_token_at e) at = ⊥
Stops L good (token t p rest) at =
    (at ≡ p) × ((Begins L (good ++ (t, p) ∷ []) → ⊥) ⊎ IsEmptyFold t rest)

-- the token after the good ones goes on a text of the language, but opens one bracket too many
abbrev pub GoesDeep : (Stream → Type 0) → ℕ → List PlacedToken → Stream → ℕ → Type 0
GoesDeep L n good (end e) at = ⊥
GoesDeep L n good (no_token_at e) at = ⊥
GoesDeep L n good (token t p rest) at =
    (at ≡ p) × Begins L (good ++ (t, p) ∷ []) × (500 < opened t (open_after good n))

-- what follows the good tokens is this fault
abbrev pub Follows : (Stream → Type 0) → ℕ → List PlacedToken → Stream → TextFault → Type 0
Follows L n good rest (Lex at) = rest ≡ no_token_at at
Follows L n good rest (Syntax at) = Stops L good rest at
Follows L n good rest (Deep at) = GoesDeep L n good rest at

-- the stream has good tokens and then this fault, if `n` brackets are open at its head
pub record HasFault (L : Stream → Type 0) (n : ℕ) (s : Stream) (f : TextFault) : Type 0 where
  pub good : List PlacedToken
  pub rest : Stream
  pub is : s ≡ followed_by good rest
  pub are_good : IsGood L n good rest
  pub next : Follows L n good rest f

-- what the first fault of a text is, if `n` brackets are open at its head; it has none if it is a
-- text of the language in which at most 500 brackets are open
abbrev pub IsFirstFaultOfText : (Stream → Type 0) → ℕ → Stream → Option TextFault → Type 0
IsFirstFaultOfText L n s None = L s × IsShallow n s
IsFirstFaultOfText L n s (Some f) = HasFault L n s f

-- the tokens spell a pattern
abbrev pub IsPattern : Stream → Type 0
IsPattern s = (p : PatternTree) × (e : ℕ) × TakesTokens (spell_pattern false p []) s (end e)

-- the tokens spell a definition
abbrev pub IsDefinition : Stream → Type 0
IsDefinition s = (d : DefinitionTree) × (e : ℕ) × TakesTokens (spell_definition d []) s (end e)
