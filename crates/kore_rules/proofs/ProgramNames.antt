-- The names of a program are identifiers.
use Rattle.std.proofs.Common.{ℕ, Bool, true, false, List, [], ◌∷◌, map, cond, sym, ◌∙◌, subst}
use Rattle.std.specs.Prelude.{All, flat_map, filter_map, Option}
use Rattle.std.specs.List.{AllZip}
use Rattle.std.proofs.lemmas.List.Elements.{All-nil, All-cons, All-head, All-tail, All-append}
use Rattle.std.proofs.lemmas.List.Elements.{All-map}
use Rattle.kore_lex.specs.Tokens.{IsName}
use Rattle.kore_text.specs.Identifiers.{IsNamedDeclaration, IsNamedModule, IsNamedSortDeclaration}
use Rattle.kore_text.specs.Identifiers.{IsNamedSymbol, NamesAreIdentifiers, HasIdentifiers}
use Rattle.kore_text.specs.Trees.{SortDeclaration, SymbolDeclaration, Declaration}
use Rattle.kore_text.specs.Trees.{import_declaration, sort_declaration, symbol_declaration}
use Rattle.kore_text.specs.Trees.{alias_declaration, axiom_declaration, claim_declaration}
use Rattle.kore_text.specs.Trees.{ModuleTree, DefinitionTree, AxiomDeclaration}
use Rattle.kore_ast.specs.KoreText.{ReadsDefinition}
use Rattle.rule_core.specs.Theories.{RewriteTheory}
use Rattle.rule_core.specs.declared.signature.Signature.{Signature}
use Rattle.rule_core.specs.declared.signature.SortInfo.{SortInfo}
use Rattle.rule_core.specs.declared.signature.SymInfo.{SymInfo}
use Rattle.kore_sig.specs.CountedModules.{counts, counted, counted_declarations}
use Rattle.kore_sig.specs.Declarations.{sort_declared, symbol_declared, sorts_of, symbols_of}
use Rattle.kore_sig.specs.Declarations.{axioms_of}
use Rattle.kore_sig.specs.Signatures.{IsSignatureOf, IsSymbolEntry}
use Rattle.kore_sig.specs.SortReferences.{sort_entry}
use Rattle.kore_sig.specs.SymbolKinds.{injection_of, ac_names}
use Rattle.kore_rules.specs.Names.{HasIdentifierNames}
use Rattle.kore_rules.specs.Programs.{IsSymbolOf, IsProgramUnder}

-- ---- the declarations of modules that count

counted_named : (ms : List ModuleTree) → All IsNamedModule ms → All IsNamedModule (counted ms)
counted_named [] all = all
counted_named (m ∷ ms) all =
    by_test (counted_named ms (All-tail IsNamedModule m ms all)) (counts m ms (counted ms))
  where
    by_test : All IsNamedModule (counted ms) → (b : Bool)
        → All IsNamedModule (cond b (m ∷ counted ms) (counted ms))
    by_test rest true = All-cons IsNamedModule m (counted ms) (All-head IsNamedModule m ms all) rest
    by_test rest false = rest

declarations_named : (ms : List ModuleTree) → All IsNamedModule ms
    → All IsNamedDeclaration (flat_map (λ (m : ModuleTree). m.declarations) ms)
declarations_named [] all = All-nil IsNamedDeclaration
declarations_named (m ∷ ms) all =
    All-append IsNamedDeclaration m.declarations (flat_map (λ (n : ModuleTree). n.declarations) ms)
    (All-head IsNamedModule m ms all).declarations
    (declarations_named ms (All-tail IsNamedModule m ms all))

-- ---- sorts and symbols

sorts_named : (ds : List Declaration) → All IsNamedDeclaration ds
    → All (λ (d : SortDeclaration). IsName d.name) (filter_map sort_declared ds)
sorts_named [] all = All-nil (λ (d : SortDeclaration). IsName d.name)
sorts_named (import_declaration x ∷ ds) all = sorts_named ds (All-tail IsNamedDeclaration _ ds all)
sorts_named (symbol_declaration x ∷ ds) all = sorts_named ds (All-tail IsNamedDeclaration _ ds all)
sorts_named (alias_declaration x ∷ ds) all = sorts_named ds (All-tail IsNamedDeclaration _ ds all)
sorts_named (axiom_declaration x ∷ ds) all = sorts_named ds (All-tail IsNamedDeclaration _ ds all)
sorts_named (claim_declaration x ∷ ds) all = sorts_named ds (All-tail IsNamedDeclaration _ ds all)
sorts_named (sort_declaration x ∷ ds) all =
    let head : IsNamedSortDeclaration x = All-head IsNamedDeclaration (sort_declaration x) ds all in
    All-cons (λ (d : SortDeclaration). IsName d.name) x (filter_map sort_declared ds) head.name
    (sorts_named ds (All-tail IsNamedDeclaration (sort_declaration x) ds all))

symbols_named : (ds : List Declaration) → All IsNamedDeclaration ds
    → All (λ (d : SymbolDeclaration). IsName d.name) (filter_map symbol_declared ds)
symbols_named [] all = All-nil (λ (d : SymbolDeclaration). IsName d.name)
symbols_named (import_declaration x ∷ ds) all =
    symbols_named ds (All-tail IsNamedDeclaration _ ds all)
symbols_named (sort_declaration x ∷ ds) all =
    symbols_named ds (All-tail IsNamedDeclaration _ ds all)
symbols_named (alias_declaration x ∷ ds) all =
    symbols_named ds (All-tail IsNamedDeclaration _ ds all)
symbols_named (axiom_declaration x ∷ ds) all =
    symbols_named ds (All-tail IsNamedDeclaration _ ds all)
symbols_named (claim_declaration x ∷ ds) all =
    symbols_named ds (All-tail IsNamedDeclaration _ ds all)
symbols_named (symbol_declaration x ∷ ds) all =
    let head : IsNamedSymbol x = All-head IsNamedDeclaration (symbol_declaration x) ds all in
    All-cons (λ (d : SymbolDeclaration). IsName d.name) x (filter_map symbol_declared ds) head.name
    (symbols_named ds (All-tail IsNamedDeclaration (symbol_declaration x) ds all))

-- ---- entries

entries_named : (sorts : List (List ℕ × SortInfo)) (i : Option (List ℕ)) (ac : List (List ℕ))
    (ds : List SymbolDeclaration) (es : List (List ℕ × SymInfo))
    → AllZip (IsSymbolEntry sorts i ac) ds es → All (λ (d : SymbolDeclaration). IsName d.name) ds
    → All (λ (e : List ℕ × SymInfo). IsName e.0) es
entries_named sorts i ac [] [] zipped all = All-nil (λ (e : List ℕ × SymInfo). IsName e.0)
entries_named sorts i ac [] (e ∷ es) zipped all = absurd zipped
entries_named sorts i ac (d ∷ ds) [] zipped all = absurd zipped
entries_named sorts i ac (d ∷ ds) (e ∷ es) zipped all =
    All-cons (λ (x : List ℕ × SymInfo). IsName x.0) e es
    (subst IsName (sym zipped.0.name)
    (All-head (λ (x : SymbolDeclaration). IsName x.name) d ds all))
    (entries_named sorts i ac ds es zipped.1
    (All-tail (λ (x : SymbolDeclaration). IsName x.name) d ds all))

made_named : (sig : Signature) (axioms : List AxiomDeclaration) (xs ys : List (List ℕ × SymInfo))
    → AllZip (IsSymbolOf sig axioms) xs ys → All (λ (e : List ℕ × SymInfo). IsName e.0) xs
    → All (λ (e : List ℕ × SymInfo). IsName e.0) ys
made_named sig axioms [] [] zipped all = all
made_named sig axioms [] (y ∷ ys) zipped all = absurd zipped
made_named sig axioms (x ∷ xs) [] zipped all = absurd zipped
made_named sig axioms (x ∷ xs) (y ∷ ys) zipped all =
    All-cons (λ (e : List ℕ × SymInfo). IsName e.0) y ys
    (subst IsName (sym zipped.0.name) (All-head (λ (e : List ℕ × SymInfo). IsName e.0) x xs all))
    (made_named sig axioms xs ys zipped.1
    (All-tail (λ (e : List ℕ × SymInfo). IsName e.0) x xs all))

-- ---- the program

pub identifier_names : NamesAreIdentifiers
    → (bytes : List ℕ) (d : DefinitionTree) (declared : Signature) (theory : RewriteTheory)
    → ReadsDefinition bytes d → IsSignatureOf d declared
    → IsProgramUnder declared (axioms_of d) theory → HasIdentifierNames theory.sig
identifier_names law bytes d declared theory spelled is program =
    let named : HasIdentifiers d = law bytes d spelled.1.0 spelled.1.1 in
    let all = declarations_named (counted d.modules) (counted_named d.modules named.modules) in
    let sorts : All (λ (e : List ℕ × SortInfo). IsName e.0) (map sort_entry (sorts_of d)) =
    All-map (λ (e : List ℕ × SortInfo). IsName e.0) sort_entry (sorts_of d)
    (sorts_named (counted_declarations d) all) in
    record {
      sorts =
          subst (All (λ (e : List ℕ × SortInfo). IsName e.0)) (sym (program.sorts ∙ is.sorts))
          sorts;
      symbols =
          made_named declared (axioms_of d) declared.symbols theory.sig.symbols program.symbols
          (entries_named declared.sorts (injection_of (symbols_of d)) (ac_names d) (symbols_of d)
          declared.symbols is.symbols (symbols_named (counted_declarations d) all));
    }
