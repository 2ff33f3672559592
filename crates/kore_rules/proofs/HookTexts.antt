-- The texts of hooks in a definition that bytes spell are UTF-8, and at most four times as long as
-- the bytes.
use Rattle.std.proofs.Common.{◌≡◌, ◌≤◌, ◌*◌, ◌+◌, ◌-◌, ℕ, zero, suc, Bool, true, false, cond, List}
use Rattle.std.proofs.Common.{[], ◌∷◌, ◌++◌, map, length, take, drop, Option, Some, None, refl}
use Rattle.std.proofs.Common.{subst, arith, length-append, length-drop}
use Rattle.std.specs.Prelude.{nat_lt, ◌==◌, find, unwrap_or, option_map, codes, filter_map}
use Rattle.std.specs.Prelude.{flat_map}
use Rattle.std.specs.Char.{encode_utf8}
use Rattle.std.specs.Str.{IsUtf8}
use lib.ListN.{length-take}
use Rattle.kore_lex.specs.Escapes.{escape}
use Rattle.kore_lex.specs.declared.lexer.TokenKind.{TokenKind}
use Rattle.kore_lex.specs.declared.lexer.TokenKind.TheVariants as kind
use Rattle.kore_lex.specs.Lexed.{Cut, cut_end, cut_fault, cut_token, lexed}
use Rattle.kore_lex.specs.Value.{string_value, unescaped_text, unescaped}
use Rattle.kore_text.specs.TokenStream.{KoreToken, identifier, set_identifier, builtin}
use Rattle.kore_text.specs.TokenStream.{string_token, mark, assign, Stream, end, no_token_at, token}
use Rattle.kore_text.specs.TokenStream.{token_then, named_tokens, token_stream}
use Rattle.kore_text.specs.Trees.{SortTree, sort_parameter, sort_applied, SortTrees, no_sorts}
use Rattle.kore_text.specs.Trees.{sort_then, PatternTree, element_variable, set_variable, string}
use Rattle.kore_text.specs.Trees.{symbol_applied, connected, binder_applied, value_written, folded}
use Rattle.kore_text.specs.Trees.{PatternTrees, no_patterns, pattern_then, listed_patterns}
use Rattle.kore_text.specs.Trees.{SymbolDeclaration, AliasDeclaration, AxiomDeclaration, ModuleTree}
use Rattle.kore_text.specs.Trees.{DefinitionTree, Declaration, import_declaration, sort_declaration}
use Rattle.kore_text.specs.Trees.{symbol_declaration, alias_declaration, axiom_declaration}
use Rattle.kore_text.specs.Trees.{claim_declaration}
use Rattle.kore_text.specs.Grammar.{Requirement, placed, any, provided, Spelling, listed}
use Rattle.kore_text.specs.Grammar.{more_listed, in_order, TakesTokens, spell_name, spell_names}
use Rattle.kore_text.specs.Grammar.{spell_sort, spell_sorts, spell_pattern, spell_patterns}
use Rattle.kore_text.specs.Grammar.{spell_attributes, spell_signature, spell_statement}
use Rattle.kore_text.specs.Grammar.{spell_declaration, spell_module, spell_definition}
use Rattle.kore_ast.specs.KoreText.{ReadsDefinition}
use Rattle.kore_print.proofs.TextualStreams.{AllTextual, tokens-textual}
use Rattle.kore_sig.specs.Attributes.{is_attribute_named, only_text, attribute_text, hook_of}
use Rattle.kore_sig.specs.CountedModules.{counts, counted, counted_declarations}
use Rattle.kore_sig.specs.Declarations.{symbol_declared, symbols_of}

-- ---- texts

-- the text is UTF-8, and no longer than this
abbrev pub IsFineText : ℕ → List ℕ → Type 0
IsFineText n t = IsUtf8 t × (length t ≤ n)

one_of : (x y z : Bool) (a b c d : List ℕ) → length a ≤ 4 → length b ≤ 4 → length c ≤ 4
    → length d ≤ 4 → length (cond x a (cond y b (cond z c d))) ≤ 4
one_of true y z a b c d h i j k = h
one_of false true z a b c d h i j k = i
one_of false false true a b c d h i j k = j
one_of false false false a b c d h i j k = k

encoded_short : (c : ℕ) → length (encode_utf8 c) ≤ 4
unfolding encode_utf8
encoded_short c =
    one_of (nat_lt c 128) (nat_lt c 2048) (nat_lt c 65536) _ _ _ _ (omega arith) (omega arith)
    (omega arith) (omega arith)

unescaped_short : (more : ℕ → List ℕ) (m : ℕ) → ((n : ℕ) → length (more n) ≤ m) → (cs : List ℕ)
    → length (unescaped more (escape cs)) ≤ m + 4
unescaped_short more m short cs =
    elim (escape cs) as (λ o. length (unescaped more o) ≤ m + 4) [
      | None ↦ omega (arith, short 0)
      | Some e ↦ omega (
        arith,
        short e.len,
        encoded_short e.character,
        length-append (encode_utf8 e.character) (more e.len),
      )
    ]

plain_short : (n : ℕ) (bs : List ℕ) → length (unescaped_text n bs) ≤ 4 * length bs
unfolding unescaped_text
plain_short n [] = omega arith
plain_short (suc n) (c ∷ cs) = omega (arith, plain_short n cs)
plain_short zero (c ∷ cs) =
    by_case (c == 92) (unescaped (λ n. unescaped_text n cs) (escape cs))
    (unescaped_short (λ n. unescaped_text n cs) (4 * length cs) (λ n. plain_short n cs) cs)
    (plain_short 0 cs) where
      by_case : (b : Bool) (xs : List ℕ) → length xs ≤ 4 * length cs + 4
          → length (unescaped_text 0 cs) ≤ 4 * length cs
          → length (cond b xs (c ∷ unescaped_text 0 cs)) ≤ 4 * length (c ∷ cs)
      by_case true xs h rest = omega (arith, h)
      by_case false xs h rest = omega (arith, rest)

value_short : (bs : List ℕ) (n : ℕ) → length bs ≤ n → length (string_value bs) ≤ 4 * n
value_short bs n short =
    let inner : List ℕ = take (length bs - 2) (drop 1 bs) in
    omega (
      arith,
      short,
      plain_short 0 inner,
      length-take (length bs - 2) (drop 1 bs),
      length-drop 1 bs,
    )

-- ---- tokens

-- the text in a token, if it has one, is fine
abbrev IsFine : ℕ → KoreToken → Type 0
IsFine n (identifier x) = Unit {0}
IsFine n (set_identifier x) = Unit {0}
IsFine n (builtin b) = Unit {0}
IsFine n (string_token t) = IsFineText n t
IsFine n (mark c) = Unit {0}
IsFine n assign = Unit {0}

abbrev AllFine : ℕ → Stream → Type 0
AllFine n (end e) = Unit {0}
AllFine n (no_token_at e) = Unit {0}
AllFine n (token t p s) = IsFine n t × AllFine n s

cut_short : (text : List ℕ) (from to : ℕ) → length (take (to - from) (drop from text)) ≤ length text
cut_short text from to =
    omega (arith, length-take (to - from) (drop from text), length-drop from text)

joined_fine : (text : List ℕ) (k : TokenKind) (from to : ℕ) (s : Stream)
    → AllTextual (token_then text k from to s) → (AllTextual s → AllFine (4 * length text) s)
    → AllFine (4 * length text) (token_then text k from to s)
joined_fine text kind.End from to s h rest = tt
joined_fine text kind.Ident from to s h rest = (tt, rest h.1)
joined_fine text kind.SetIdent from to s h rest = (tt, rest h.1)
joined_fine text kind.Builtin from to s h rest = (tt, rest h.1)
joined_fine text kind.Text from to s h rest = (
  (h.0, value_short (take (to - from) (drop from text)) (length text) (cut_short text from to)),
  rest h.1,
)
joined_fine text (kind.Punct c) from to s h rest = (tt, rest h.1)
joined_fine text kind.Assign from to s h rest = (tt, rest h.1)

named_fine : (text : List ℕ) (s : Cut) → AllTextual (named_tokens text s)
    → AllFine (4 * length text) (named_tokens text s)
named_fine text (cut_end e) h = tt
named_fine text (cut_fault e) h = tt
named_fine text (cut_token k from to s) h =
    joined_fine text k from to (named_tokens text s) h (named_fine text s)

tokens_fine : (bytes : List ℕ) → AllFine (4 * length bytes) (token_stream bytes)
unfolding token_stream
tokens_fine bytes = named_fine bytes (lexed 0 bytes) (tokens-textual bytes)

-- ---- required tokens

-- the texts in the required tokens are fine
abbrev RequiresFine : ℕ → List Requirement → Type 0
RequiresFine n [] = Unit {0}
RequiresFine n (provided b ∷ ws) = RequiresFine n ws
RequiresFine n (any t ∷ ws) = IsFine n t × RequiresFine n ws
RequiresFine n (placed p t ∷ ws) = IsFine n t × RequiresFine n ws

taken : (n : ℕ) (ws : List Requirement) (s e : Stream) → TakesTokens ws s e → AllFine n s
    → RequiresFine n ws
taken n [] s e h a = tt
taken n (provided b ∷ ws) s e h a = taken n ws s e h.1 a
taken n (any u ∷ ws) (end x) e h a = absurd h
taken n (any u ∷ ws) (no_token_at x) e h a = absurd h
taken n (any u ∷ ws) (token t p s) e h a = (subst (IsFine n) h.0 a.0, taken n ws s e h.1 a.1)
taken n (placed q u ∷ ws) (end x) e h a = absurd h
taken n (placed q u ∷ ws) (no_token_at x) e h a = absurd h
taken n (placed q u ∷ ws) (token t p s) e h a = (subst (IsFine n) h.0 a.0, taken n ws s e h.2 a.1)

-- the strings in a pattern are fine, except those inside connectives, binders and folds
abbrev mutual
  Texts : ℕ → PatternTree → Type 0
  Texts n (element_variable at x s) = Unit {0}
  Texts n (set_variable at x s) = Unit {0}
  Texts n (string at t) = IsFineText n t
  Texts n (symbol_applied at x ss ps) = AllTexts n ps
  Texts n (connected at o ss ps) = Unit {0}
  Texts n (binder_applied at o ss x p) = Unit {0}
  Texts n (value_written at s t place) = Unit {0}
  Texts n (folded at left p) = Unit {0}

  AllTexts : ℕ → PatternTrees → Type 0
  AllTexts n no_patterns = Unit {0}
  AllTexts n (pattern_then p ps) = Texts n p × AllTexts n ps

mutual
  sort_behind : (n : ℕ) (t : SortTree) (k : List Requirement) → RequiresFine n (spell_sort t k)
      → RequiresFine n k
  sort_behind n (sort_parameter at x) k h = h.1
  sort_behind n (sort_applied at x ss) k h = sorts_behind n ss 125 k h.1.1

  sorts_behind : (n : ℕ) (ss : SortTrees) (c : ℕ) (k : List Requirement)
      → RequiresFine n (listed (spell_sorts ss) c k) → RequiresFine n k
  sorts_behind n no_sorts c k h = h.1
  sorts_behind n (sort_then s ss) c k h =
      more_sorts_behind n ss c k (sort_behind n s (more_listed (spell_sorts ss) c k) h)

  more_sorts_behind : (n : ℕ) (ss : SortTrees) (c : ℕ) (k : List Requirement)
      → RequiresFine n (more_listed (spell_sorts ss) c k) → RequiresFine n k
  more_sorts_behind n no_sorts c k h = h.1
  more_sorts_behind n (sort_then s ss) c k h =
      more_sorts_behind n ss c k (sort_behind n s (more_listed (spell_sorts ss) c k) h.1)

mutual
  pattern_behind : (n : ℕ) (b : Bool) (p : PatternTree) (k : List Requirement)
      → RequiresFine n (spell_pattern b p k) → Texts n p × RequiresFine n k
  pattern_behind n b (element_variable at x s) k h = (tt, sort_behind n s k h.1.1)
  pattern_behind n b (set_variable at x s) k h = (tt, sort_behind n s k h.1.1)
  pattern_behind n b (string at t) k h = (h.0, h.1)
  pattern_behind n b (symbol_applied at x ss ps) k h =
      patterns_behind n b ps k
      (sorts_behind n ss 125 (any (mark 40) ∷ listed (spell_patterns b ps) 41 k) h.1.1).1
  pattern_behind n b (connected at o ss ps) k h = (
    tt,
    (patterns_behind n b ps k
        (sorts_behind n ss 125 (any (mark 40) ∷ listed (spell_patterns b ps) 41 k) h.1.1).1).1,
  )
  pattern_behind n b (binder_applied at o ss x p) k h =
      let sorts =
      sorts_behind n ss 125 (any (mark 40)
      ∷ spell_pattern b x (any (mark 44) ∷ spell_pattern b p (any (mark 41) ∷ k)))
      h.1.1 in
      let variable =
      pattern_behind n b x (any (mark 44) ∷ spell_pattern b p (any (mark 41) ∷ k)) sorts.1 in
      let body = pattern_behind n b p (any (mark 41) ∷ k) variable.1.1 in (tt, body.1.1)
  pattern_behind n b (value_written at s t place) k h =
      let sort =
      sort_behind n s
      (any (mark 125) ∷ any (mark 40) ∷ placed place (string_token t) ∷ any (mark 41) ∷ k)
      h.1.1 in
      (tt, sort.1.1.1.1)
  pattern_behind n b (folded at left p) k h =
      let body = pattern_behind n b p (any (mark 41) ∷ k) h.1.1.1.1 in (tt, body.1.1)

  patterns_behind : (n : ℕ) (b : Bool) (ps : PatternTrees) (k : List Requirement)
      → RequiresFine n (listed (spell_patterns b ps) 41 k) → AllTexts n ps × RequiresFine n k
  patterns_behind n b no_patterns k h = (tt, h.1)
  patterns_behind n b (pattern_then p ps) k h =
      let one = pattern_behind n b p (more_listed (spell_patterns b ps) 41 k) h in
      let rest = more_patterns_behind n b ps k one.1 in ((one.0, rest.0), rest.1)

  more_patterns_behind : (n : ℕ) (b : Bool) (ps : PatternTrees) (k : List Requirement)
      → RequiresFine n (more_listed (spell_patterns b ps) 41 k) → AllTexts n ps × RequiresFine n k
  more_patterns_behind n b no_patterns k h = (tt, h.1)
  more_patterns_behind n b (pattern_then p ps) k h =
      let one = pattern_behind n b p (more_listed (spell_patterns b ps) 41 k) h.1 in
      let rest = more_patterns_behind n b ps k one.1 in ((one.0, rest.0), rest.1)

-- ---- lists

abbrev pub AllOf : {T : Type 0} → (T → Type 0) → List T → Type 0
AllOf P [] = Unit {0}
AllOf P (t ∷ ts) = P t × AllOf P ts

-- if the tokens that spell a thing are fine, P holds for the thing
abbrev Tells : {T : Type 0} → ℕ → (T → Spelling) → (T → Type 0) → Type 0
Tells {T} n spell P =
    (t : T) (k : List Requirement) → RequiresFine n (spell t k) → P t × RequiresFine n k

more_tells : {T : Type 0} (n : ℕ) (spell : T → Spelling) (P : T → Type 0) → Tells n spell P
    → (ts : List T) (c : ℕ) (k : List Requirement) → RequiresFine n (more_listed (map spell ts) c k)
    → AllOf P ts × RequiresFine n k
more_tells n spell P each [] c k h = (tt, h.1)
more_tells n spell P each (t ∷ ts) c k h =
    let one = each t (more_listed (map spell ts) c k) h.1 in
    let rest = more_tells n spell P each ts c k one.1 in ((one.0, rest.0), rest.1)

list_tells : {T : Type 0} (n : ℕ) (spell : T → Spelling) (P : T → Type 0) → Tells n spell P
    → (ts : List T) (c : ℕ) (k : List Requirement) → RequiresFine n (listed (map spell ts) c k)
    → AllOf P ts × RequiresFine n k
list_tells n spell P each [] c k h = (tt, h.1)
list_tells n spell P each (t ∷ ts) c k h =
    let one = each t (more_listed (map spell ts) c k) h in
    let rest = more_tells n spell P each ts c k one.1 in ((one.0, rest.0), rest.1)

order_tells : {T : Type 0} (n : ℕ) (spell : T → Spelling) (P : T → Type 0) → Tells n spell P
    → (ts : List T) (k : List Requirement) → RequiresFine n (in_order (map spell ts) k)
    → AllOf P ts × RequiresFine n k
order_tells n spell P each [] k h = (tt, h)
order_tells n spell P each (t ∷ ts) k h =
    let one = each t (in_order (map spell ts) k) h in
    let rest = order_tells n spell P each ts k one.1 in ((one.0, rest.0), rest.1)

sort_list_behind : (n : ℕ) (ss : List SortTree) (c : ℕ) (k : List Requirement)
    → RequiresFine n (listed (map spell_sort ss) c k) → RequiresFine n k
sort_list_behind n ss c k h =
    (list_tells n spell_sort (λ (s : SortTree). Unit {0}) (λ s j w. (tt, sort_behind n s j w)) ss c
    k h).1

pattern_list_behind : (n : ℕ) (b : Bool) (ps : List PatternTree) (c : ℕ) (k : List Requirement)
    → RequiresFine n (listed (map (spell_pattern b) ps) c k) → AllOf (Texts n) ps × RequiresFine n k
pattern_list_behind n b ps c k h =
    list_tells n (spell_pattern b) (Texts n) (λ p j w. pattern_behind n b p j w) ps c k h

names_behind : (n : ℕ) (ns : List (List ℕ)) (k : List Requirement)
    → RequiresFine n (spell_names ns k) → RequiresFine n k
names_behind n ns k h =
    (list_tells n spell_name (λ (x : List ℕ). Unit {0}) (λ x j w. (tt, w.1)) ns 125 k h.1).1

attributes_behind : (n : ℕ) (ps : List PatternTree) (k : List Requirement)
    → RequiresFine n (spell_attributes ps k) → AllOf (Texts n) ps × RequiresFine n k
attributes_behind n ps k h = pattern_list_behind n true ps 93 k h.1

signature_behind : (n : ℕ) (args : List SortTree) (result : SortTree) (k : List Requirement)
    → RequiresFine n (spell_signature args result k) → RequiresFine n k
signature_behind n args result k h =
    sort_behind n result k (sort_list_behind n args 41 (any (mark 58) ∷ spell_sort result k) h.1).1

-- ---- declarations

-- the attributes in a symbol's declaration are fine
abbrev IsFineDeclaration : ℕ → Declaration → Type 0
IsFineDeclaration n (import_declaration d) = Unit {0}
IsFineDeclaration n (sort_declaration d) = Unit {0}
IsFineDeclaration n (symbol_declaration d) = AllOf (Texts n) d.attributes
IsFineDeclaration n (alias_declaration d) = Unit {0}
IsFineDeclaration n (axiom_declaration d) = Unit {0}
IsFineDeclaration n (claim_declaration d) = Unit {0}

alias_behind : (n : ℕ) (d : AliasDeclaration) (k : List Requirement)
    → RequiresFine n (spell_declaration (alias_declaration d) k) → RequiresFine n k
alias_behind n d k h =
    let params = names_behind n d.params _ h.1.1 in
    let signature = signature_behind n d.args d.result _ params in
    let sorts = sort_list_behind n d.left_sorts 125 _ signature.1.1.1 in
    let vars = pattern_list_behind n false d.vars 41 _ sorts.1 in
    let body = pattern_behind n false d.body (spell_attributes d.attributes k) vars.1.1 in
    (attributes_behind n d.attributes k body.1).1

statement_behind : (n : ℕ) (d : AxiomDeclaration) (k : List Requirement)
    → RequiresFine n (spell_statement d k) → RequiresFine n k
statement_behind n d k h =
    let params =
    names_behind n d.params (spell_pattern false d.pattern (spell_attributes d.attributes k))
    h in
    let pattern = pattern_behind n false d.pattern (spell_attributes d.attributes k) params in
    (attributes_behind n d.attributes k pattern.1).1

declaration_behind : (n : ℕ) → Tells n spell_declaration (IsFineDeclaration n)
declaration_behind n (import_declaration d) k h = (tt, (attributes_behind n d.attributes k h.1.1).1)
declaration_behind n (sort_declaration d) k h = (
  tt,
  (attributes_behind n d.attributes k
      (names_behind n d.params (spell_attributes d.attributes k) h.1.1)).1,
)
declaration_behind n (symbol_declaration d) k h =
    attributes_behind n d.attributes k (signature_behind n d.args d.result
    (spell_attributes d.attributes k) (names_behind n d.params
    (spell_signature d.args d.result (spell_attributes d.attributes k)) h.1.1))
declaration_behind n (alias_declaration d) k h = (tt, alias_behind n d k h)
declaration_behind n (axiom_declaration d) k h = (tt, statement_behind n d k h.1)
declaration_behind n (claim_declaration d) k h = (tt, statement_behind n d k h.1)

abbrev IsFineModule : ℕ → ModuleTree → Type 0
IsFineModule n m = AllOf (IsFineDeclaration n) m.declarations

module_behind : (n : ℕ) → Tells n spell_module (IsFineModule n)
module_behind n m k h =
    let body =
    order_tells n spell_declaration (IsFineDeclaration n) (declaration_behind n) m.declarations
    _ h.1.1 in
    (body.0, (attributes_behind n m.attributes k body.1.1).1)

modules_fine : (bytes : List ℕ) (d : DefinitionTree) → ReadsDefinition bytes d
    → AllOf (IsFineModule (4 * length bytes)) d.modules
modules_fine bytes d reads =
    let n : ℕ = 4 * length bytes in
    let w =
    taken n (spell_definition d []) (token_stream bytes) (end reads.1.0) reads.1.1
    (tokens_fine bytes) in
    let attributes =
    attributes_behind n d.attributes (in_order (map spell_module d.modules) []) w in
    (order_tells n spell_module (IsFineModule n) (module_behind n) d.modules [] attributes.1).0

-- ---- symbols

counted_fine : (n : ℕ) (ms : List ModuleTree) → AllOf (IsFineModule n) ms
    → AllOf (IsFineModule n) (counted ms)
counted_fine n [] all = tt
counted_fine n (m ∷ later) all =
    by_case (counts m later (counted later)) (counted_fine n later all.1)
  where
    by_case : (b : Bool) → AllOf (IsFineModule n) (counted later)
        → AllOf (IsFineModule n) (cond b (m ∷ counted later) (counted later))
    by_case true rest = (all.0, rest)
    by_case false rest = rest

all_append : {T : Type 0} (P : T → Type 0) (xs ys : List T) → AllOf P xs → AllOf P ys
    → AllOf P (xs ++ ys)
all_append P [] ys one two = two
all_append P (x ∷ xs) ys one two = (one.0, all_append P xs ys one.1 two)

declared_fine : (n : ℕ) (ms : List ModuleTree) → AllOf (IsFineModule n) ms
    → AllOf (IsFineDeclaration n) (flat_map (λ (m : ModuleTree). m.declarations) ms)
declared_fine n [] all = tt
declared_fine n (m ∷ ms) all =
    all_append (IsFineDeclaration n) m.declarations
    (flat_map (λ (x : ModuleTree). x.declarations) ms) all.0 (declared_fine n ms all.1)

-- the hook of a symbol, if it has one, has a fine text
abbrev pub HasFineHook : ℕ → SymbolDeclaration → Type 0
HasFineHook n d = (text : List ℕ) → hook_of d.attributes ≡ Some text → IsFineText n text

empty_fine : (n : ℕ) → IsFineText n []
empty_fine n = (([], (refl, refl)), omega arith)

only_fine : (n : ℕ) (ps : PatternTrees) → AllTexts n ps
    → IsFineText n (unwrap_or (only_text (listed_patterns ps)) [])
only_fine n no_patterns all = empty_fine n
only_fine n (pattern_then (element_variable at x s) no_patterns) all = empty_fine n
only_fine n (pattern_then (set_variable at x s) no_patterns) all = empty_fine n
only_fine n (pattern_then (string at t) no_patterns) all = all.0
only_fine n (pattern_then (symbol_applied at x ss qs) no_patterns) all = empty_fine n
only_fine n (pattern_then (connected at o ss qs) no_patterns) all = empty_fine n
only_fine n (pattern_then (binder_applied at o ss x p) no_patterns) all = empty_fine n
only_fine n (pattern_then (value_written at s t place) no_patterns) all = empty_fine n
only_fine n (pattern_then (folded at left p) no_patterns) all = empty_fine n
only_fine n (pattern_then p (pattern_then q ps)) all = empty_fine n

text_fine : (n : ℕ) (p : PatternTree) → Texts n p → IsFineText n (unwrap_or (attribute_text p) [])
text_fine n (element_variable at x s) h = empty_fine n
text_fine n (set_variable at x s) h = empty_fine n
text_fine n (string at t) h = empty_fine n
text_fine n (symbol_applied at x ss ps) h = only_fine n ps h
text_fine n (connected at o ss ps) h = empty_fine n
text_fine n (binder_applied at o ss x p) h = empty_fine n
text_fine n (value_written at s t place) h = empty_fine n
text_fine n (folded at left p) h = empty_fine n

hook_fine : (n : ℕ) (ps : List PatternTree) → AllOf (Texts n) ps → (text : List ℕ)
    → option_map (λ (a : PatternTree). unwrap_or (attribute_text a) [])
    (find (is_attribute_named (codes "hook")) ps)
    ≡ Some text → IsFineText n text
hook_fine n [] all text e = absurd (let never : ⊥ = cc in never)
hook_fine n (p ∷ ps) all text e =
    by_case (is_attribute_named (codes "hook") p) (hook_fine n ps all.1 text) e
  where
    by_case : (b : Bool)
        → (option_map (λ (a : PatternTree). unwrap_or (attribute_text a) [])
        (find (is_attribute_named (codes "hook")) ps) ≡ Some text → IsFineText n text)
        → option_map (λ (a : PatternTree). unwrap_or (attribute_text a) [])
        (cond b (Some p) (find (is_attribute_named (codes "hook")) ps)) ≡ Some text
        → IsFineText n text
    by_case true rest e =
        let same : unwrap_or (attribute_text p) [] ≡ text = cc in
        subst (IsFineText n) same (text_fine n p all.0)
    by_case false rest e = rest e

symbols_fine : (n : ℕ) (ds : List Declaration) → AllOf (IsFineDeclaration n) ds
    → AllOf (HasFineHook n) (filter_map symbol_declared ds)
symbols_fine n [] all = tt
symbols_fine n (import_declaration d ∷ ds) all = symbols_fine n ds all.1
symbols_fine n (sort_declaration d ∷ ds) all = symbols_fine n ds all.1
symbols_fine n (symbol_declaration d ∷ ds) all =
    (λ text e. hook_fine n d.attributes all.0 text e, symbols_fine n ds all.1)
symbols_fine n (alias_declaration d ∷ ds) all = symbols_fine n ds all.1
symbols_fine n (axiom_declaration d ∷ ds) all = symbols_fine n ds all.1
symbols_fine n (claim_declaration d ∷ ds) all = symbols_fine n ds all.1

pub hooks_fine : (bytes : List ℕ) (d : DefinitionTree) → ReadsDefinition bytes d
    → AllOf (HasFineHook (4 * length bytes)) (symbols_of d)
hooks_fine bytes d reads =
    let n : ℕ = 4 * length bytes in
    symbols_fine n (counted_declarations d) (declared_fine n (counted d.modules)
    (counted_fine n d.modules (modules_fine bytes d reads)))
