-- Every spelling of a definition is accepted.
use Rattle.std.proofs.Common.{◌≡◌, ℕ, Bool, true, false, IsTrue, List, [], ◌∷◌, ◌++◌, map, Some}
use Rattle.std.proofs.Common.{None, refl, ◌∙◌, codes}
use Rattle.kore_text.specs.declared.symbols.Close.TheVariants as close
use Rattle.kore_text.specs.declared.symbols.Item.TheVariants as item
use Rattle.kore_text.specs.declared.symbols.Symbol.{Symbol}
use Rattle.kore_text.specs.declared.symbols.Symbol.TheVariants as symbol
use Rattle.kore_text.specs.TokenStream.{identifier, mark, assign, Stream, end}
use Rattle.kore_text.specs.Trees.{SortTree, PatternTree, AliasDeclaration, AxiomDeclaration}
use Rattle.kore_text.specs.Trees.{ModuleTree, DefinitionTree, Declaration, import_declaration}
use Rattle.kore_text.specs.Trees.{sort_declaration, symbol_declaration, alias_declaration}
use Rattle.kore_text.specs.Trees.{axiom_declaration, claim_declaration}
use Rattle.kore_text.specs.Grammar.{Requirement, any, listed, in_order, TakesTokens, spell_name}
use Rattle.kore_text.specs.Grammar.{spell_names, spell_sort, spell_pattern, keyword, sort_word}
use Rattle.kore_text.specs.Grammar.{symbol_word, spell_attributes, spell_signature, spell_alias}
use Rattle.kore_text.specs.Grammar.{spell_statement, spell_declaration, spell_body, spell_module}
use Rattle.kore_text.specs.Grammar.{spell_definition, is_some_module}
use Rattle.kore_text.specs.Table.{turn, step, passes, run, definition_symbols, pattern_symbols}
use Rattle.kore_text.proofs.Reaching.{Reaches, done, after, by-token, any-placed, mark-then}
use Rattle.kore_text.proofs.Reaching.{first-goes, is_nil}
use Rattle.kore_text.specs.Apart.{Apart}
use Rattle.kore_text.specs.Faults.{IsPattern, IsDefinition}
use Rattle.kore_text.proofs.Accepting.{name-goes, names-go, sort-goes, listed-go}
use Rattle.kore_text.proofs.AcceptedPatterns.{pattern-goes, listed-patterns-go}

attributes-step : (k : List Symbol)
    → step (symbol.Attributes ∷ k) (mark 91)
    ≡ Some (symbol.First (item.Pattern true) close.Bracket ∷ k)
unfolding step turn
attributes-step k = refl

attributes-go : (ps : List PatternTree) (w : List Requirement) (s e : Stream)
    → TakesTokens (spell_attributes ps w) s e → Reaches (symbol.Attributes ∷ []) w s e
attributes-go ps w s e h =
    by-token symbol.Attributes (symbol.First (item.Pattern true) close.Bracket ∷ []) (mark 91)
    (listed (map (spell_pattern true) ps) 93 w) w s e refl attributes-step h
    (λ q x. first-goes (item.Pattern true) close.Bracket (map (spell_pattern true) ps) w q e
    (listed-patterns-go true ps e) x)

names-step : (k : List Symbol)
    → step (symbol.Names ∷ k) (mark 123) ≡ Some (symbol.First item.Name close.Brace ∷ k)
unfolding step turn
names-step k = refl

parameters-go : (ns : List (List ℕ)) (w : List Requirement) (s e : Stream)
    → TakesTokens (spell_names ns w) s e → Reaches (symbol.Names ∷ []) w s e
parameters-go ns w s e h =
    by-token symbol.Names (symbol.First item.Name close.Brace ∷ []) (mark 123)
    (listed (map spell_name ns) 125 w) w s e refl names-step h
    (λ q x. first-goes item.Name close.Brace (map spell_name ns) w q e (names-go ns e) x)

signature-step : (k : List Symbol)
    → step (symbol.Signature ∷ k) (mark 40)
    ≡ Some (symbol.First item.Sort close.Paren ∷ symbol.Mark 58 ∷ symbol.Sort ∷ k)
unfolding step turn
signature-step k = refl

signature-goes : (ts : List SortTree) (t : SortTree) (w : List Requirement) (s e : Stream)
    → Apart w e → TakesTokens (spell_signature ts t w) s e → Reaches (symbol.Signature ∷ []) w s e
signature-goes ts t w s e a h =
    let v : List Requirement = any (mark 58) ∷ spell_sort t w in
    by-token symbol.Signature
    (symbol.First item.Sort close.Paren ∷ symbol.Mark 58 ∷ symbol.Sort ∷ []) (mark 40)
    (listed (map spell_sort ts) 41 v) w s e refl signature-step h
    (λ q x. after (symbol.First item.Sort close.Paren) (symbol.Mark 58 ∷ symbol.Sort ∷ []) v w q e
    (first-goes item.Sort close.Paren (map spell_sort ts) v q e (listed-go ts e) x)
    (λ r y.
    mark-then 58 (symbol.Sort ∷ []) (spell_sort t w) w r e y (λ i z. sort-goes t w i e a z)))

where-step : (k : List Symbol) → step (symbol.Where ∷ k) (identifier (codes "where")) ≡ Some k
unfolding step turn
where-step k = refl

assign-step : (k : List Symbol) → step (symbol.Assign ∷ k) assign ≡ Some k
unfolding step turn
assign-step k = refl

import-step : (k : List Symbol)
    → step (symbol.Declarations ∷ k) (identifier (codes "import"))
    ≡ Some (symbol.Name ∷ symbol.Attributes ∷ symbol.Declarations ∷ k)
unfolding step turn
import-step k = refl

sort-step : (k : List Symbol)
    → step (symbol.Declarations ∷ k) (identifier (codes "sort"))
    ≡ Some (symbol.Name ∷ symbol.Names ∷ symbol.Attributes ∷ symbol.Declarations ∷ k)
unfolding step turn
sort-step k = refl

hooked-sort-step : (k : List Symbol)
    → step (symbol.Declarations ∷ k) (identifier (codes "hooked-sort"))
    ≡ Some (symbol.Name ∷ symbol.Names ∷ symbol.Attributes ∷ symbol.Declarations ∷ k)
unfolding step turn
hooked-sort-step k = refl

symbol-step : (k : List Symbol)
    → step (symbol.Declarations ∷ k) (identifier (codes "symbol"))
    ≡ Some (symbol.Name ∷ symbol.Names ∷ symbol.Signature ∷ symbol.Attributes
    ∷ symbol.Declarations ∷ k)
unfolding step turn
symbol-step k = refl

hooked-symbol-step : (k : List Symbol)
    → step (symbol.Declarations ∷ k) (identifier (codes "hooked-symbol"))
    ≡ Some (symbol.Name ∷ symbol.Names ∷ symbol.Signature ∷ symbol.Attributes
    ∷ symbol.Declarations ∷ k)
unfolding step turn
hooked-symbol-step k = refl

alias-step : (k : List Symbol)
    → step (symbol.Declarations ∷ k) (identifier (codes "alias"))
    ≡ Some (symbol.Name ∷ symbol.Names ∷ symbol.Signature ∷ symbol.Where ∷ symbol.Name
    ∷ symbol.Mark 123 ∷ symbol.First item.Sort close.Brace ∷ symbol.Mark 40
    ∷ symbol.First (item.Pattern false) close.Paren ∷ symbol.Assign ∷ symbol.Pattern false
    ∷ symbol.Attributes ∷ symbol.Declarations ∷ k)
unfolding step turn
alias-step k = refl

axiom-step : (k : List Symbol)
    → step (symbol.Declarations ∷ k) (identifier (codes "axiom"))
    ≡ Some (symbol.Names ∷ symbol.Pattern false ∷ symbol.Attributes ∷ symbol.Declarations ∷ k)
unfolding step turn
axiom-step k = refl

claim-step : (k : List Symbol)
    → step (symbol.Declarations ∷ k) (identifier (codes "claim"))
    ≡ Some (symbol.Names ∷ symbol.Pattern false ∷ symbol.Attributes ∷ symbol.Declarations ∷ k)
unfolding step turn
claim-step k = refl

endmodule-step : (k : List Symbol)
    → step (symbol.Declarations ∷ k) (identifier (codes "endmodule")) ≡ Some (symbol.Attributes ∷ k)
unfolding step turn
endmodule-step k = refl

sort-word-step : (b : Bool) (k : List Symbol)
    → step (symbol.Declarations ∷ k) (identifier (sort_word b))
    ≡ Some (symbol.Name ∷ symbol.Names ∷ symbol.Attributes ∷ symbol.Declarations ∷ k)
sort-word-step true k = hooked-sort-step k
sort-word-step false k = sort-step k

symbol-word-step : (b : Bool) (k : List Symbol)
    → step (symbol.Declarations ∷ k) (identifier (symbol_word b))
    ≡ Some (symbol.Name ∷ symbol.Names ∷ symbol.Signature ∷ symbol.Attributes
    ∷ symbol.Declarations ∷ k)
symbol-word-step true k = hooked-symbol-step k
symbol-word-step false k = symbol-step k

-- attributes, and then the other declarations of a module
rest-goes : (ps : List PatternTree) (v w : List Requirement) (s e : Stream)
    → ((q : Stream) → TakesTokens v q e → Reaches (symbol.Declarations ∷ []) w q e)
    → TakesTokens (spell_attributes ps v) s e
    → Reaches (symbol.Attributes ∷ symbol.Declarations ∷ []) w s e
rest-goes ps v w s e go h =
    after symbol.Attributes (symbol.Declarations ∷ []) v w s e (attributes-go ps v s e h) go

statement-goes : (d : AxiomDeclaration) (word : List ℕ) (v w : List Requirement) (s e : Stream)
    → ((q : Stream) → TakesTokens v q e → Reaches (symbol.Declarations ∷ []) w q e)
    → ((k : List Symbol)
    → step (symbol.Declarations ∷ k) (identifier word)
    ≡ Some
    (symbol.Names ∷ symbol.Pattern false ∷ symbol.Attributes ∷ symbol.Declarations ∷ k))
    → TakesTokens (keyword d.at word ∷ spell_statement d v) s e
    → Reaches (symbol.Declarations ∷ []) w s e
statement-goes d word v w s e go m h =
    let v2 : List Requirement = spell_attributes d.attributes v in
    let v1 : List Requirement = spell_pattern false d.pattern v2 in
    by-token symbol.Declarations
    (symbol.Names ∷ symbol.Pattern false ∷ symbol.Attributes ∷ symbol.Declarations ∷ [])
    (identifier word) (spell_names d.params v1) w s e refl m
    (any-placed (identifier word) d.at (spell_names d.params v1) s e h)
    (λ q x. after symbol.Names (symbol.Pattern false ∷ symbol.Attributes ∷ symbol.Declarations ∷ [])
    v1 w q e (parameters-go d.params v1 q e x)
    (λ r y. after (symbol.Pattern false) (symbol.Attributes ∷ symbol.Declarations ∷ []) v2 w r e
    (pattern-goes false d.pattern v2 r e refl y)
    (λ i z. rest-goes d.attributes v w i e go z)))

alias-goes : (d : AliasDeclaration) (v w : List Requirement) (s e : Stream)
    → ((q : Stream) → TakesTokens v q e → Reaches (symbol.Declarations ∷ []) w q e)
    → TakesTokens (spell_alias d v) s e → Reaches (symbol.Declarations ∷ []) w s e
alias-goes d v w s e go h =
    let v7 : List Requirement = spell_attributes d.attributes v in
    let v6 : List Requirement = spell_pattern false d.body v7 in
    let v5 : List Requirement = listed (map (spell_pattern false) d.vars) 41 (any assign ∷ v6) in
    let v4 : List Requirement = listed (map spell_sort d.left_sorts) 125 (any (mark 40) ∷ v5) in
    let v3 : List Requirement =
    any (identifier (codes "where")) ∷ any (identifier d.left_name) ∷ any (mark 123) ∷ v4 in
    let v2 : List Requirement = spell_signature d.args d.result v3 in
    let v1 : List Requirement = any (identifier d.name) ∷ spell_names d.params v2 in
    let f7 : List Symbol = symbol.Attributes ∷ symbol.Declarations ∷ [] in
    let f6 : List Symbol = symbol.Assign ∷ symbol.Pattern false ∷ f7 in
    let f5 : List Symbol = symbol.Mark 40 ∷ symbol.First (item.Pattern false) close.Paren ∷ f6 in
    let f4 : List Symbol = symbol.Mark 123 ∷ symbol.First item.Sort close.Brace ∷ f5 in
    let f3 : List Symbol = symbol.Where ∷ symbol.Name ∷ f4 in
    by-token symbol.Declarations (symbol.Name ∷ symbol.Names ∷ symbol.Signature ∷ f3)
    (identifier (codes "alias")) v1 w s e refl alias-step
    (any-placed (identifier (codes "alias")) d.at v1 s e h.1)
    (λ q x. after symbol.Name (symbol.Names ∷ symbol.Signature ∷ f3) (spell_names d.params v2) w q e
    (name-goes d.name (spell_names d.params v2) q e x)
    (λ q x. after symbol.Names (symbol.Signature ∷ f3) v2 w q e (parameters-go d.params v2 q e x)
    (λ q x. after symbol.Signature f3 v3 w q e (signature-goes d.args d.result v3 q e refl x)
    (λ q x. after symbol.Where (symbol.Name ∷ f4)
    (any (identifier d.left_name) ∷ any (mark 123) ∷ v4) w q e
    (by-token symbol.Where [] (identifier (codes "where"))
    (any (identifier d.left_name) ∷ any (mark 123) ∷ v4)
    (any (identifier d.left_name) ∷ any (mark 123) ∷ v4) q e refl where-step x
    (λ c g. done (any (identifier d.left_name) ∷ any (mark 123) ∷ v4) c e g))
    (λ q x. after symbol.Name f4 (any (mark 123) ∷ v4) w q e
    (name-goes d.left_name (any (mark 123) ∷ v4) q e x)
    (λ q x. mark-then 123 (symbol.First item.Sort close.Brace ∷ f5) v4 w q e x
    (λ q x. after (symbol.First item.Sort close.Brace) f5 (any (mark 40) ∷ v5) w q e
    (first-goes item.Sort close.Brace (map spell_sort d.left_sorts) (any (mark 40) ∷ v5) q e
    (listed-go d.left_sorts e) x)
    (λ q x. mark-then 40 (symbol.First (item.Pattern false) close.Paren ∷ f6) v5 w q e x
    (λ q x. after (symbol.First (item.Pattern false) close.Paren) f6 (any assign ∷ v6) w q e
    (first-goes (item.Pattern false) close.Paren (map (spell_pattern false) d.vars)
    (any assign ∷ v6) q e (listed-patterns-go false d.vars e) x)
    (λ q x. after symbol.Assign (symbol.Pattern false ∷ f7) v6 w q e
    (by-token symbol.Assign [] assign v6 v6 q e refl assign-step x (λ c g. done v6 c e g))
    (λ q x. after (symbol.Pattern false) f7 v7 w q e (pattern-goes false d.body v7 q e refl x)
    (λ q x. rest-goes d.attributes v w q e go x))))))))))))

declaration-goes : (d : Declaration) (v w : List Requirement) (s e : Stream)
    → ((q : Stream) → TakesTokens v q e → Reaches (symbol.Declarations ∷ []) w q e)
    → TakesTokens (spell_declaration d v) s e → Reaches (symbol.Declarations ∷ []) w s e
declaration-goes (import_declaration d) v w s e go h =
    let v1 : List Requirement = spell_attributes d.attributes v in
    by-token symbol.Declarations (symbol.Name ∷ symbol.Attributes ∷ symbol.Declarations ∷ [])
    (identifier (codes "import")) (any (identifier d.name) ∷ v1) w s e refl import-step
    (any-placed (identifier (codes "import")) d.at (any (identifier d.name) ∷ v1) s e h)
    (λ q x. after symbol.Name (symbol.Attributes ∷ symbol.Declarations ∷ []) v1 w q e
    (name-goes d.name v1 q e x)
    (λ r y. rest-goes d.attributes v w r e go y))
declaration-goes (sort_declaration d) v w s e go h =
    let v2 : List Requirement = spell_attributes d.attributes v in
    let v1 : List Requirement = any (identifier d.name) ∷ spell_names d.params v2 in
    by-token symbol.Declarations
    (symbol.Name ∷ symbol.Names ∷ symbol.Attributes ∷ symbol.Declarations ∷ [])
    (identifier (sort_word d.hooked)) v1 w s e refl (sort-word-step d.hooked)
    (any-placed (identifier (sort_word d.hooked)) d.at v1 s e h)
    (λ q x. after symbol.Name (symbol.Names ∷ symbol.Attributes ∷ symbol.Declarations ∷ [])
    (spell_names d.params v2) w q e (name-goes d.name (spell_names d.params v2) q e x)
    (λ q x. after symbol.Names (symbol.Attributes ∷ symbol.Declarations ∷ []) v2 w q e
    (parameters-go d.params v2 q e x)
    (λ r y. rest-goes d.attributes v w r e go y)))
declaration-goes (symbol_declaration d) v w s e go h =
    let v3 : List Requirement = spell_attributes d.attributes v in
    let v2 : List Requirement = spell_signature d.args d.result v3 in
    let v1 : List Requirement = any (identifier d.name) ∷ spell_names d.params v2 in
    by-token symbol.Declarations (symbol.Name ∷ symbol.Names ∷ symbol.Signature ∷ symbol.Attributes
    ∷ symbol.Declarations ∷ []) (identifier (symbol_word d.hooked)) v1 w s e refl
    (symbol-word-step d.hooked)
    (any-placed (identifier (symbol_word d.hooked)) d.at v1 s e h)
    (λ q x. after symbol.Name
    (symbol.Names ∷ symbol.Signature ∷ symbol.Attributes ∷ symbol.Declarations ∷ [])
    (spell_names d.params v2) w q e (name-goes d.name (spell_names d.params v2) q e x)
    (λ q x. after symbol.Names (symbol.Signature ∷ symbol.Attributes ∷ symbol.Declarations ∷ []) v2
    w q e (parameters-go d.params v2 q e x)
    (λ q x. after symbol.Signature (symbol.Attributes ∷ symbol.Declarations ∷ []) v3 w q e
    (signature-goes d.args d.result v3 q e refl x)
    (λ r y. rest-goes d.attributes v w r e go y))))
declaration-goes (alias_declaration d) v w s e go h = alias-goes d v w s e go h
declaration-goes (axiom_declaration d) v w s e go h =
    statement-goes d (codes "axiom") v w s e go axiom-step h
declaration-goes (claim_declaration d) v w s e go h =
    statement-goes d (codes "claim") v w s e go claim-step h

body-goes : (ds : List Declaration) (ps : List PatternTree) (w : List Requirement) (s e : Stream)
    → TakesTokens (spell_body ds ps w) s e → Reaches (symbol.Declarations ∷ []) w s e
body-goes [] ps w s e h =
    by-token symbol.Declarations (symbol.Attributes ∷ []) (identifier (codes "endmodule"))
    (spell_attributes ps w) w s e refl endmodule-step h
    (λ q x. attributes-go ps w q e x)
body-goes (d ∷ ds) ps w s e h =
    declaration-goes d (spell_body ds ps w) w s e (λ q x. body-goes ds ps w q e x) h

module-step : (k : List Symbol)
    → step (symbol.Module ∷ k) (identifier (codes "module"))
    ≡ Some (symbol.Name ∷ symbol.Declarations ∷ k)
unfolding step turn
module-step k = refl

modules-step : (k : List Symbol)
    → step (symbol.Modules ∷ k) (identifier (codes "module"))
    ≡ Some (symbol.Name ∷ symbol.Declarations ∷ symbol.Modules ∷ k)
unfolding step turn
modules-step k = refl

module-goes : (m : ModuleTree) (f : Symbol) (b : List Symbol) (v w : List Requirement)
    (s e : Stream)
    → ((k : List Symbol)
    → step (f ∷ k) (identifier (codes "module"))
    ≡ Some (symbol.Name ∷ symbol.Declarations ∷ (b ++ k)))
    → ((q : Stream) → TakesTokens v q e → Reaches b w q e) → TakesTokens (spell_module m v) s e
    → Reaches (f ∷ []) w s e
module-goes m f b v w s e i go h =
    let v1 : List Requirement = spell_body m.declarations m.attributes v in
    by-token f (symbol.Name ∷ symbol.Declarations ∷ b) (identifier (codes "module"))
    (any (identifier m.name) ∷ v1) w s e refl i
    (any-placed (identifier (codes "module")) m.at (any (identifier m.name) ∷ v1) s e h)
    (λ q x. after symbol.Name (symbol.Declarations ∷ b) v1 w q e (name-goes m.name v1 q e x)
    (λ r y. after symbol.Declarations b v w r e (body-goes m.declarations m.attributes v r e y) go))

end-walks : (x : ℕ) (k : List Symbol) → run (end x) None (symbol.Modules ∷ k) ≡ run (end x) None k
unfolding run
end-walks x k = refl

end-passing : (x : ℕ) (k : List Symbol) → is_nil k ≡ false
    → passes (end x) (symbol.Modules ∷ k) ≡ passes (end x) k
unfolding passes
end-passing x [] n = let z : ⊥ = cc in absurd z
end-passing x (f ∷ k) n = refl

modules-go : (ms : List ModuleTree) (s : Stream) (x : ℕ)
    → TakesTokens (in_order (map spell_module ms) []) s (end x)
    → Reaches (symbol.Modules ∷ []) [] s (end x)
modules-go [] s x h =
    rw h (record {
      to = end x;
      rest = refl;
      walks = λ k. end-walks x k;
      passing = λ k n. end-passing x k n;
    })
modules-go (m ∷ ms) s x h =
    module-goes m symbol.Modules (symbol.Modules ∷ []) (in_order (map spell_module ms) []) [] s
    (end x) modules-step (λ q y. modules-go ms q x y) h

modules-cases : (ps : List PatternTree) (ms : List ModuleTree) (s : Stream) (x : ℕ)
    → IsTrue (is_some_module ms)
    × TakesTokens (spell_attributes ps (in_order (map spell_module ms) [])) s (end x)
    → Reaches definition_symbols [] s (end x)
modules-cases ps [] s x h = let z : false ≡ true = h.0 in let y : ⊥ = cc in absurd y
modules-cases ps (m ∷ ms) s x h =
    let v : List Requirement = in_order (map spell_module ms) [] in
    after symbol.Attributes (symbol.Module ∷ symbol.Modules ∷ []) (spell_module m v) [] s (end x)
    (attributes-go ps (spell_module m v) s (end x) h.1)
    (λ q y. after symbol.Module (symbol.Modules ∷ []) v [] q (end x)
    (module-goes m symbol.Module [] v v q (end x) module-step (λ i z. done v i (end x) z) y)
    (λ r z. modules-go ms r x z))

definition-goes : (d : DefinitionTree) (s : Stream) (x : ℕ)
    → TakesTokens (spell_definition d []) s (end x) → Reaches definition_symbols [] s (end x)
definition-goes d s x h = modules-cases d.attributes d.modules s x h

ended : (s e : Stream) (x : ℕ) (k : List Symbol) → Reaches k [] s (end x)
    → run s None (k ++ []) ≡ None
unfolding run
ended s e x k r = r.walks [] ∙ rw r.rest refl

-- every spelling is accepted
pub accepts-pattern : (s : Stream) → IsPattern s → run s None pattern_symbols ≡ None
accepts-pattern s p =
    ended s (end p.1) p.1 pattern_symbols (pattern-goes false p.0 [] s (end p.1) tt p.2)

pub accepts-definition : (s : Stream) → IsDefinition s → run s None definition_symbols ≡ None
accepts-definition s d = ended s (end d.1) d.1 definition_symbols (definition-goes d.0 s d.1 d.2)
