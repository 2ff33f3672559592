-- The table of moves. A stack of symbols says what may come next, the next symbol first. A token
-- turns the stack into another one or does not fit it. A reader need not believe this table: the
-- contracts state the faults by the grammar only.
use Rattle.std.specs.Prelude.{ℕ, zero, suc, Bool, true, false, ◌==◌, ◌&&◌, List, [], ◌∷◌, ◌++◌}
use Rattle.std.specs.Prelude.{nat_lt, if◌then◌else◌, Option, Some, None, codes}
use Rattle.std.specs.Str.{bytes_eq}
use Rattle.kore_text.specs.declared.names.Built.{Built}
use Rattle.kore_text.specs.declared.names.Built.TheVariants.{Connective, Binding, Value, Fold}
use Rattle.kore_text.specs.declared.symbols.Close.{Close}
use Rattle.kore_text.specs.declared.symbols.Close.TheVariants as close
use Rattle.kore_text.specs.declared.symbols.Item.{Item}
use Rattle.kore_text.specs.declared.symbols.Item.TheVariants as item
use Rattle.kore_text.specs.declared.symbols.Symbol.{Symbol}
use Rattle.kore_text.specs.declared.symbols.Symbol.TheVariants as symbol
use Rattle.kore_text.specs.declared.faults.TextFault.{TextFault}
use Rattle.kore_text.specs.declared.faults.TextFault.TheVariants.{Lex, Syntax, Deep}
use Rattle.kore_text.specs.TokenStream.{KoreToken, identifier, set_identifier, builtin}
use Rattle.kore_text.specs.TokenStream.{string_token, mark, assign, Stream, end, no_token_at, token}
use Rattle.kore_text.specs.Grammar.{connective_sorts, connective_arguments, binder_sorts}
use Rattle.kore_text.specs.Grammar.{binds_sets, is_associative}
use Rattle.kore_text.specs.Depth.{opened}
use Rattle.kore_text.specs.Apart.{is_mark}

abbrev pub byte_of : Close → ℕ
byte_of close.Brace = 125
byte_of close.Paren = 41
byte_of close.Bracket = 93

abbrev pub symbol_of : Item → Symbol
symbol_of item.Name = symbol.Name
symbol_of item.Sort = symbol.Sort
symbol_of (item.Pattern b) = symbol.Pattern b

-- the token is an identifier; `is_word`: it is this identifier
abbrev pub is_name : KoreToken → Bool
is_name (identifier n) = true
is_name _ = false

abbrev pub is_word : List ℕ → KoreToken → Bool
is_word w (identifier n) = bytes_eq n w
is_word w _ = false

abbrev pub is_set_name : KoreToken → Bool
is_set_name (set_identifier n) = true
is_set_name _ = false

abbrev pub is_text : KoreToken → Bool
is_text (string_token n) = true
is_text _ = false

abbrev pub is_assign : KoreToken → Bool
is_assign assign = true
is_assign _ = false

abbrev pub when : Bool → List Symbol → Option (List Symbol)
when true b = Some b
when false b = None

-- a list with a fixed count of items of the symbol, with commas, and its closing mark: the rest
-- after an item, and (`exactly`) the whole list after its opening bracket
abbrev pub more_exactly : Symbol → Close → ℕ → List Symbol → List Symbol
more_exactly f c zero k = symbol.Mark (byte_of c) ∷ k
more_exactly f c (suc n) k = symbol.Mark 44 ∷ f ∷ more_exactly f c n k

abbrev pub exactly : Symbol → Close → ℕ → List Symbol → List Symbol
exactly f c zero k = symbol.Mark (byte_of c) ∷ k
exactly f c (suc n) k = f ∷ more_exactly f c n k

-- the arguments of a connective
abbrev pub argument_symbols : Bool → Option ℕ → List Symbol
argument_symbols b None = symbol.First (item.Pattern b) close.Paren ∷ []
argument_symbols b (Some n) = exactly (symbol.Pattern b) close.Paren n []

-- what comes after a built-in name
abbrev pub built_symbols : Bool → Built → List Symbol
built_symbols b (Connective o) =
    symbol.Mark 123
    ∷ exactly symbol.Sort close.Brace (connective_sorts o)
    (symbol.Mark 40 ∷ argument_symbols b (connective_arguments o))
built_symbols b (Binding o) =
    symbol.Mark 123 ∷ exactly symbol.Sort close.Brace (binder_sorts o) (symbol.Mark 40
    ∷ symbol.Variable (binds_sets o) ∷ symbol.Mark 44 ∷ symbol.Pattern b ∷ symbol.Mark 41 ∷ [])
built_symbols b Value =
    symbol.Mark 123 ∷ symbol.Sort ∷ symbol.Mark 125 ∷ symbol.Mark 40 ∷ symbol.Text ∷ symbol.Mark 41
    ∷ []
built_symbols b (Fold left) =
    symbol.Mark 123 ∷ symbol.Mark 125 ∷ symbol.Mark 40 ∷ symbol.Folded b ∷ symbol.Mark 41 ∷ []

-- the arguments of a folded application: none, and (`folded_arguments`) one or more
abbrev pub no_arguments : List Symbol
no_arguments = symbol.Mark 40 ∷ symbol.Mark 41 ∷ []

abbrev pub folded_arguments : Bool → List Symbol
folded_arguments b =
    symbol.Mark 40 ∷ symbol.Pattern b ∷ symbol.More (item.Pattern b) close.Paren ∷ []

abbrev pub name_move : KoreToken → Option (List Symbol)
name_move t = when (is_name t) []

abbrev pub text_move : KoreToken → Option (List Symbol)
text_move t = when (is_text t) []

abbrev pub assign_move : KoreToken → Option (List Symbol)
assign_move t = when (is_assign t) []

abbrev pub sort_move : KoreToken → Option (List Symbol)
sort_move t = when (is_name t) (symbol.SortTail ∷ [])

abbrev pub built_move : Bool → Option Built → Option (List Symbol)
built_move b None = None
built_move b (Some x) = Some (built_symbols b x)

abbrev pub pattern_move : Bool → KoreToken → Option (List Symbol)
pattern_move b (identifier n) = Some (symbol.PatternTail b ∷ [])
pattern_move b (set_identifier n) = Some (symbol.Mark 58 ∷ symbol.Sort ∷ [])
pattern_move b (builtin x) = built_move b x
pattern_move b (string_token t) = when b []
pattern_move b _ = None

abbrev pub pattern_tail_move : Bool → KoreToken → Option (List Symbol)
pattern_tail_move b (mark c) =
    if c == 58 then Some (symbol.Sort ∷ [])
    else when (c == 123) (symbol.First item.Sort close.Brace ∷ symbol.Mark 40
    ∷ symbol.First (item.Pattern b) close.Paren ∷ [])
pattern_tail_move b _ = None

abbrev pub variable_move : Bool → KoreToken → Option (List Symbol)
variable_move c t =
    when (if c then is_set_name t else is_name t) (symbol.Mark 58 ∷ symbol.Sort ∷ [])

-- what comes after the name of a folded connective, with these symbols for its arguments
abbrev pub folded_built_move : List Symbol → Option Built → Option (List Symbol)
folded_built_move k (Some (Connective o)) =
    when (is_associative o) (symbol.Mark 123 ∷ exactly symbol.Sort close.Brace 1 k)
folded_built_move k _ = None

abbrev pub folded_move : List Symbol → KoreToken → Option (List Symbol)
folded_move k (identifier n) = Some (symbol.Mark 123 ∷ symbol.First item.Sort close.Brace ∷ k)
folded_move k (builtin x) = folded_built_move k x
folded_move k _ = None

abbrev pub item_move : Item → KoreToken → Option (List Symbol)
item_move item.Name t = name_move t
item_move item.Sort t = sort_move t
item_move (item.Pattern b) t = pattern_move b t

-- what comes after the keyword of a declaration
abbrev pub word_move : List ℕ → Option (List Symbol)
word_move n =
    if bytes_eq n (codes "endmodule") then Some (symbol.Attributes ∷ [])
    else (if bytes_eq n (codes
    "import") then Some (symbol.Name ∷ symbol.Attributes ∷ symbol.Declarations ∷ [])
    else (if bytes_eq n (codes
    "sort") then Some (symbol.Name ∷ symbol.Names ∷ symbol.Attributes ∷ symbol.Declarations ∷ [])
    else (if bytes_eq n (codes
    "hooked-sort") then Some (symbol.Name ∷ symbol.Names ∷ symbol.Attributes ∷ symbol.Declarations
    ∷ [])
    else (if bytes_eq n (codes
    "symbol") then Some (symbol.Name ∷ symbol.Names ∷ symbol.Signature ∷ symbol.Attributes
    ∷ symbol.Declarations ∷ [])
    else (if bytes_eq n (codes
    "hooked-symbol") then Some (symbol.Name ∷ symbol.Names ∷ symbol.Signature ∷ symbol.Attributes
    ∷ symbol.Declarations ∷ [])
    else (if bytes_eq n (codes "alias") then
    Some (symbol.Name ∷ symbol.Names ∷ symbol.Signature ∷ symbol.Where ∷ symbol.Name
    ∷ symbol.Mark 123 ∷ symbol.First item.Sort close.Brace ∷ symbol.Mark 40
    ∷ symbol.First (item.Pattern false) close.Paren
    ∷ symbol.Assign ∷ symbol.Pattern false ∷ symbol.Attributes ∷ symbol.Declarations ∷ [])
    else (if bytes_eq n (codes
    "axiom") then Some (symbol.Names ∷ symbol.Pattern false ∷ symbol.Attributes
    ∷ symbol.Declarations ∷ [])
    else (if bytes_eq n (codes
    "claim") then Some (symbol.Names ∷ symbol.Pattern false ∷ symbol.Attributes
    ∷ symbol.Declarations ∷ [])
    else None))))))))

abbrev pub declarations_move : KoreToken → Option (List Symbol)
declarations_move (identifier n) = word_move n
declarations_move _ = None

-- if the token is this word, the symbols that come after it
abbrev pub keyword_move : List ℕ → List Symbol → KoreToken → Option (List Symbol)
keyword_move w b t = when (is_word w t) b

-- the symbols that replace a symbol after a token, if the token fits it
unfoldable pub turn : Symbol → KoreToken → Option (List Symbol)
turn (symbol.Mark c) t = when (is_mark c t) []
turn symbol.Name t = name_move t
turn symbol.Where t = keyword_move (codes "where") [] t
turn symbol.Assign t = assign_move t
turn symbol.Text t = text_move t
turn symbol.Sort t = sort_move t
turn symbol.SortTail t = when (is_mark 123 t) (symbol.First item.Sort close.Brace ∷ [])
turn (symbol.Pattern b) t = pattern_move b t
turn (symbol.PatternTail b) t = pattern_tail_move b t
turn (symbol.Variable b) t = variable_move b t
turn (symbol.Folded b) t = folded_move (folded_arguments b) t
turn symbol.EmptyFolded t = folded_move no_arguments t
turn (symbol.First i c) t = if is_mark (byte_of c) t then Some [] else item_move i t
turn (symbol.More i c) t =
    if is_mark (byte_of c) t then Some []
    else when (is_mark 44 t) (symbol_of i ∷ symbol.More i c ∷ [])
turn symbol.Attributes t = when (is_mark 91 t) (symbol.First (item.Pattern true) close.Bracket ∷ [])
turn symbol.Names t = when (is_mark 123 t) (symbol.First item.Name close.Brace ∷ [])
turn symbol.Signature t =
    when (is_mark 40 t) (symbol.First item.Sort close.Paren ∷ symbol.Mark 58 ∷ symbol.Sort ∷ [])
turn symbol.Declarations t = declarations_move t
turn symbol.Module t = keyword_move (codes "module") (symbol.Name ∷ symbol.Declarations ∷ []) t
turn symbol.Modules t =
    keyword_move (codes "module") (symbol.Name ∷ symbol.Declarations ∷ symbol.Modules ∷ []) t

-- what is still to come after the first token of a symbol: if the symbol begins a list, the rest of
-- the list comes before `k`
abbrev pub rest_of : Symbol → KoreToken → List Symbol → List Symbol
rest_of (symbol.First i c) t k = if is_mark (byte_of c) t then k else symbol.More i c ∷ k
rest_of _ t k = k

-- the symbol may be left out
abbrev pub is_empty : Symbol → Bool
is_empty symbol.SortTail = true
is_empty symbol.Modules = true
is_empty _ = false

abbrev pub onto : Option (List Symbol) → List Symbol → Option (List Symbol) → Option (List Symbol)
onto (Some b) k other = Some (b ++ k)
onto None k other = other

-- the stack after a token; a symbol that may be left out is skipped if the token does not fit it
unfoldable pub step : List Symbol → KoreToken → Option (List Symbol)
step [] t = None
step (f ∷ k) t = onto (turn f t) (rest_of f t k) (if is_empty f then step k t else None)

abbrev pub can_end : List Symbol → Bool
can_end [] = true
can_end (f ∷ k) = is_empty f && can_end k

-- the stream begins with tokens for the whole stack
abbrev pub passes_on : (List Symbol → Bool) → Option (List Symbol) → Bool
passes_on go None = false
passes_on go (Some k) = go k

unfoldable pub passes : Stream → List Symbol → Bool
passes s [] = true
passes (end e) (f ∷ k) = false
passes (no_token_at e) (f ∷ k) = false
passes (token t p s) (f ∷ k) = passes_on (passes s) (step (f ∷ k) t)

-- what follows the name of a fold if the fold has no argument
abbrev pub empty_fold : List Symbol
empty_fold = symbol.Mark 123 ∷ symbol.Mark 125 ∷ symbol.Mark 40 ∷ symbol.EmptyFolded ∷ []

abbrev pub is_fold : KoreToken → Bool
is_fold (builtin (Some (Fold left))) = true
is_fold _ = false

-- how many brackets are open after a token, if they are counted
abbrev pub counted : KoreToken → Option ℕ → Option ℕ
counted t None = None
counted t (Some n) = Some (opened t n)

abbrev pub is_deep : Option ℕ → Bool
is_deep None = false
is_deep (Some n) = nat_lt 500 n

abbrev pub onward : (Option ℕ → List Symbol → Option TextFault) → ℕ → Option ℕ
    → Option (List Symbol) → Option TextFault
onward go at n None = Some (Syntax at)
onward go at n (Some k) = if is_deep n then Some (Deep at) else go n k

-- the first fault of a text at whose head these symbols are to come; if brackets are counted, `n`
-- is how many are open at its head
unfoldable pub run : Stream → Option ℕ → List Symbol → Option TextFault
run (end e) n k = if can_end k then None else Some (Syntax e)
run (no_token_at e) n k = Some (Lex e)
run (token t p s) n k =
    if is_fold t && passes s empty_fold then Some (Syntax p)
    else onward (run s) p (counted t n) (step k t)

-- what is to come at the head of a pattern, and of a definition
abbrev pub pattern_symbols : List Symbol
pattern_symbols = symbol.Pattern false ∷ []

abbrev pub definition_symbols : List Symbol
definition_symbols = symbol.Attributes ∷ symbol.Module ∷ symbol.Modules ∷ []
