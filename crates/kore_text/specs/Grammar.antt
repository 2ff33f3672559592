-- The grammar of Kore text (Kore language document, syntax), as the spelling of each tree. A
-- spelling is a list of requirements. It is put in front of the requirements for what follows the
-- tree.
use Rattle.std.specs.Prelude.{◌≡◌, ℕ, ◌==◌, Bool, true, false, not, ◌&&◌, IsTrue, Option, Some}
use Rattle.std.specs.Prelude.{None, List, [], ◌∷◌, map, codes}
use Rattle.kore_text.specs.declared.names.Op.{Op}
use Rattle.kore_text.specs.declared.names.Op.TheVariants as op
use Rattle.kore_text.specs.declared.names.Binder.{Binder}
use Rattle.kore_text.specs.declared.names.Binder.TheVariants as binder
use Rattle.kore_text.specs.declared.names.Built.TheVariants.{Connective, Binding, Value, Fold}
use Rattle.kore_text.specs.TokenStream.{KoreToken, identifier, set_identifier, builtin}
use Rattle.kore_text.specs.TokenStream.{string_token, mark, assign, Stream, token}
use Rattle.kore_text.specs.Trees.{SortTree, sort_parameter, sort_applied, SortTrees, no_sorts}
use Rattle.kore_text.specs.Trees.{sort_then, sort_count, PatternTree, element_variable}
use Rattle.kore_text.specs.Trees.{set_variable, string, symbol_applied, connected, binder_applied}
use Rattle.kore_text.specs.Trees.{value_written, folded, PatternTrees, no_patterns, pattern_then}
use Rattle.kore_text.specs.Trees.{pattern_count, ImportDeclaration, SortDeclaration}
use Rattle.kore_text.specs.Trees.{SymbolDeclaration, AliasDeclaration, AxiomDeclaration, ModuleTree}
use Rattle.kore_text.specs.Trees.{DefinitionTree, Declaration, import_declaration, sort_declaration}
use Rattle.kore_text.specs.Trees.{symbol_declaration, alias_declaration, axiom_declaration}
use Rattle.kore_text.specs.Trees.{claim_declaration}

-- a requirement: a token at this place, a token at any place, or a condition, which needs no token
pub data Requirement : Type 0 where
  placed : ℕ → KoreToken → Requirement
  any : KoreToken → Requirement
  provided : Bool → Requirement

-- how many sorts a connective takes
abbrev pub connective_sorts : Op → ℕ
connective_sorts op.Ceil = 2
connective_sorts op.Floor = 2
connective_sorts op.Equals = 2
connective_sorts op.Member = 2
connective_sorts _ = 1

-- how many arguments a connective takes; `None` if it takes any number
abbrev pub connective_arguments : Op → Option ℕ
connective_arguments op.Top = Some 0
connective_arguments op.Bottom = Some 0
connective_arguments op.Not = Some 1
connective_arguments op.Next = Some 1
connective_arguments op.And = None
connective_arguments op.Or = None
connective_arguments op.Ceil = Some 1
connective_arguments op.Floor = Some 1
connective_arguments _ = Some 2

abbrev pub is_count : Option ℕ → ℕ → Bool
is_count None n = true
is_count (Some m) n = n == m

-- the connective takes this many sorts and this many arguments
abbrev pub takes : Op → ℕ → ℕ → Bool
takes o sorts arguments = (sorts == connective_sorts o)
    && is_count (connective_arguments o) arguments

-- how many sorts a binder takes
abbrev pub binder_sorts : Binder → ℕ
binder_sorts binder.Mu = 0
binder_sorts binder.Nu = 0
binder_sorts _ = 1

-- the binder binds a set variable; if false, an element variable
abbrev pub binds_sets : Binder → Bool
binds_sets binder.Mu = true
binds_sets binder.Nu = true
binds_sets _ = false

-- the pattern is a set variable (true) or an element variable (false)
abbrev pub is_variable_tree : Bool → PatternTree → Bool
is_variable_tree true (set_variable at n s) = true
is_variable_tree false (element_variable at n s) = true
is_variable_tree _ _ = false

-- the connective may be folded: `\and` and `\or`
abbrev pub is_associative : Op → Bool
is_associative op.And = true
is_associative op.Or = true
is_associative _ = false

abbrev pub is_some : PatternTrees → Bool
is_some no_patterns = false
is_some (pattern_then p ps) = true

-- the pattern may be folded: the application of a symbol, `\and` or `\or`, with at least one
-- argument
abbrev pub is_foldable : PatternTree → Bool
is_foldable (symbol_applied at n ss ps) = is_some ps
is_foldable (connected at o ss ps) = is_associative o && is_some ps
is_foldable _ = false

-- how a thing is spelled: from the requirements for what follows it to those for the thing and what
-- follows it
abbrev pub Spelling : Type 0
Spelling = List Requirement → List Requirement

-- a list with commas, from the token after its opening bracket up to and including the closing mark
abbrev mutual
  pub listed : List Spelling → ℕ → Spelling
  listed [] close k = any (mark close) ∷ k
  listed (f ∷ fs) close k = f (more_listed fs close k)

  -- the rest of a list, from the token after an item
  pub more_listed : List Spelling → ℕ → Spelling
  more_listed [] close k = any (mark close) ∷ k
  more_listed (f ∷ fs) close k = any (mark 44) ∷ f (more_listed fs close k)

-- things one after the other, without marks between them
abbrev pub in_order : List Spelling → Spelling
in_order [] k = k
in_order (f ∷ fs) k = f (in_order fs k)

-- an identifier at any place
abbrev pub spell_name : List ℕ → Spelling
spell_name n k = any (identifier n) ∷ k

-- a list of names in braces
abbrev pub spell_names : List (List ℕ) → Spelling
spell_names ns k = any (mark 123) ∷ listed (map spell_name ns) 125 k

abbrev mutual
  -- a sort: a parameter's name, or a name and sorts in braces
  pub spell_sort : SortTree → Spelling
  spell_sort (sort_parameter at n) = λ k. placed at (identifier n) ∷ k
  spell_sort (sort_applied at n ss) =
      λ k. placed at (identifier n) ∷ any (mark 123) ∷ listed (spell_sorts ss) 125 k

  pub spell_sorts : SortTrees → List Spelling
  spell_sorts no_sorts = []
  spell_sorts (sort_then s ss) = spell_sort s ∷ spell_sorts ss

-- a variable: its name, a colon and its sort
abbrev pub spell_variable : ℕ → KoreToken → SortTree → Spelling
spell_variable at t s k = placed at t ∷ any (mark 58) ∷ spell_sort s k

-- an application: its head, its sorts in braces and its arguments in parentheses
abbrev pub spell_applied : ℕ → KoreToken → SortTrees → List Spelling → Spelling
spell_applied at t ss ps k =
    placed at t ∷ any (mark 123) ∷ listed (spell_sorts ss) 125 (any (mark 40) ∷ listed ps 41 k)

abbrev mutual
  -- a pattern; if the flag is true, strings may occur in it
  pub spell_pattern : Bool → PatternTree → Spelling
  spell_pattern b (element_variable at n s) = λ k. spell_variable at (identifier n) s k
  spell_pattern b (set_variable at n s) = λ k. spell_variable at (set_identifier n) s k
  spell_pattern b (string at t) = λ k. provided b ∷ placed at (string_token t) ∷ k
  spell_pattern b (symbol_applied at n ss ps) =
      λ k. spell_applied at (identifier n) ss (spell_patterns b ps) k
  spell_pattern b (connected at o ss ps) = λ k.
      provided (takes o (sort_count ss) (pattern_count ps))
      ∷ spell_applied at (builtin (Some (Connective o))) ss (spell_patterns b ps) k
  spell_pattern b (binder_applied at o ss x p) = λ k.
      provided ((sort_count ss == binder_sorts o) && is_variable_tree (binds_sets o) x)
      ∷ placed at (builtin (Some (Binding o))) ∷ any (mark 123)
      ∷ listed (spell_sorts ss) 125 (any (mark 40)
      ∷ spell_pattern b x (any (mark 44) ∷ spell_pattern b p (any (mark 41) ∷ k)))
  spell_pattern b (value_written at s t place) = λ k.
      placed at (builtin (Some Value)) ∷ any (mark 123) ∷ spell_sort s (any (mark 125)
      ∷ any (mark 40) ∷ placed place (string_token t) ∷ any (mark 41) ∷ k)
  spell_pattern b (folded at left p) = λ k.
      provided (is_foldable p) ∷ placed at (builtin (Some (Fold left))) ∷ any (mark 123)
      ∷ any (mark 125)
      ∷ any (mark 40) ∷ spell_pattern b p (any (mark 41) ∷ k)

  pub spell_patterns : Bool → PatternTrees → List Spelling
  spell_patterns b no_patterns = []
  spell_patterns b (pattern_then p ps) = spell_pattern b p ∷ spell_patterns b ps

-- attributes: patterns in brackets; strings may occur in them
abbrev pub spell_attributes : List PatternTree → Spelling
spell_attributes ps k = any (mark 91) ∷ listed (map (spell_pattern true) ps) 93 k

-- sorts in parentheses, a colon and a sort
abbrev pub spell_signature : List SortTree → SortTree → Spelling
spell_signature args result k =
    any (mark 40) ∷ listed (map spell_sort args) 41 (any (mark 58) ∷ spell_sort result k)

-- a keyword at its place
abbrev pub keyword : ℕ → List ℕ → Requirement
keyword at word = placed at (identifier word)

abbrev pub sort_word : Bool → List ℕ
sort_word true = codes "hooked-sort"
sort_word false = codes "sort"

abbrev pub symbol_word : Bool → List ℕ
symbol_word true = codes "hooked-symbol"
symbol_word false = codes "symbol"

abbrev pub spell_import : ImportDeclaration → Spelling
spell_import d k =
    keyword d.at (codes "import") ∷ any (identifier d.name) ∷ spell_attributes d.attributes k

abbrev pub spell_sort_declaration : SortDeclaration → Spelling
spell_sort_declaration d k =
    keyword d.at (sort_word d.hooked) ∷ any (identifier d.name)
    ∷ spell_names d.params (spell_attributes d.attributes k)

abbrev pub spell_symbol_declaration : SymbolDeclaration → Spelling
spell_symbol_declaration d k =
    keyword d.at (symbol_word d.hooked) ∷ any (identifier d.name)
    ∷ spell_names d.params (spell_signature d.args d.result (spell_attributes d.attributes k))

-- an alias: its symbol, `where`, its left side, `:=` and its body
abbrev pub spell_alias : AliasDeclaration → Spelling
spell_alias d k =
    provided (not d.hooked) ∷ keyword d.at (codes "alias") ∷ any (identifier d.name)
    ∷ spell_names d.params (spell_signature d.args d.result
    (any (identifier (codes "where")) ∷ any (identifier d.left_name)
    ∷ any (mark 123)
    ∷ listed (map spell_sort d.left_sorts) 125
    (any (mark 40) ∷ listed (map (spell_pattern false) d.vars) 41
    (any assign ∷ spell_pattern false d.body (spell_attributes d.attributes k)))))

-- an axiom or a claim, after its keyword
abbrev pub spell_statement : AxiomDeclaration → Spelling
spell_statement d k =
    spell_names d.params (spell_pattern false d.pattern (spell_attributes d.attributes k))

abbrev pub spell_declaration : Declaration → Spelling
spell_declaration (import_declaration d) k = spell_import d k
spell_declaration (sort_declaration d) k = spell_sort_declaration d k
spell_declaration (symbol_declaration d) k = spell_symbol_declaration d k
spell_declaration (alias_declaration d) k = spell_alias d k
spell_declaration (axiom_declaration d) k = keyword d.at (codes "axiom") ∷ spell_statement d k
spell_declaration (claim_declaration d) k = keyword d.at (codes "claim") ∷ spell_statement d k

-- declarations, up to and including the word `endmodule` and the attributes that end their module
abbrev pub spell_body : List Declaration → List PatternTree → Spelling
spell_body ds ps k =
    in_order (map spell_declaration ds)
    (any (identifier (codes "endmodule")) ∷ spell_attributes ps k)

-- a module: `module`, its name, its declarations, `endmodule` and its attributes
abbrev pub spell_module : ModuleTree → Spelling
spell_module m k =
    keyword m.at (codes "module") ∷ any (identifier m.name)
    ∷ spell_body m.declarations m.attributes k

abbrev pub is_some_module : List ModuleTree → Bool
is_some_module [] = false
is_some_module (m ∷ ms) = true

-- a definition: attributes, and one module or more
abbrev pub spell_definition : DefinitionTree → Spelling
spell_definition d k =
    provided (is_some_module d.modules)
    ∷ spell_attributes d.attributes (in_order (map spell_module d.modules) k)

-- the tokens from the first stream up to the second meet the requirements, in order, and the
-- conditions hold
abbrev pub TakesTokens : List Requirement → Stream → Stream → Type 0
TakesTokens [] s e = s ≡ e
TakesTokens (provided b ∷ ws) s e = IsTrue b × TakesTokens ws s e
TakesTokens (placed p u ∷ ws) (token t q s) e = (t ≡ u) × (q ≡ p) × TakesTokens ws s e
TakesTokens (any u ∷ ws) (token t q s) e = (t ≡ u) × TakesTokens ws s e
TakesTokens _ _ _ = ⊥
