use Rattle.std.proofs.Common.{◌≡◌, ◌∙◌, ◌++◌, ◌∷◌, [], ap, sym, ℕ, List, subst, string_bytes, cond}
use Rattle.std.specs.Prelude.{is_none}
use Rattle.rule_core.specs.Named.{number_of_name}
use Rattle.rule_core.specs.DistinctNames.{names_of}
use Rattle.kore_ast.specs.declared.tree.Decl.{Decl}
use Rattle.kore_ast.specs.Plain.{plain_declaration, plain_sort_decl, plain_symbol_decl}
use Rattle.kore_sig.specs.Declaring.{Grows, before_of}
use Rattle.kore_sig.specs.Noted.{first_by_number}
use Rattle.kore_sig.specs.SignatureFaults.{declaration_faults}
use Rattle.kore_sig.proofs.DeclaringLaws.{clear_symbol, clear_sort, added, grows_sort, grows_symbol}
use Rattle.kore_sig.proofs.DeclaringLaws.{grows_other}
use Rattle.kore_sig.proofs.symbols.declare.Goals as goal

pub symbol_info-requires-clause-args : goal.symbol_info-requires-clause-args
symbol_info-requires-clause-args c =
    let faults =
    declaration_faults c.args.known.now.sorts (before_of c.args.seen.now c.args.symbols.now)
    c.requires.faultless.0 in
    (clear_symbol c.args.known.now.sorts (names_of c.args.symbols.now)
    (plain_symbol_decl c.in-SymbolDecl.decl) (ap
    (λ (d : Decl). first_by_number (faults (plain_declaration d))) (sym c.in-SymbolDecl.is)
    ∙ c.requires.faultless.1)).args

pub symbol_info-requires-clause-value : goal.symbol_info-requires-clause-value
symbol_info-requires-clause-value c =
    let faults =
    declaration_faults c.args.known.now.sorts (before_of c.args.seen.now c.args.symbols.now)
    c.requires.faultless.0 in
    (clear_symbol c.args.known.now.sorts (names_of c.args.symbols.now)
    (plain_symbol_decl c.in-SymbolDecl.decl) (ap
    (λ (d : Decl). first_by_number (faults (plain_declaration d))) (sym c.in-SymbolDecl.is)
    ∙ c.requires.faultless.1)).result

pub returns-in_ok-add_name-in-SortDecl-clause-grown :
    goal.returns-in_ok-add_name-in-SortDecl-clause-grown
returns-in_ok-add_name-in-SortDecl-clause-grown c =
    let faults =
    declaration_faults c.args.known.now.sorts (before_of c.args.seen.now c.args.symbols.now)
    c.requires.faultless.0 in
    let free =
    clear_sort (names_of c.args.seen.now) (plain_sort_decl c.in-SortDecl.decl) (ap
    (λ (d : Decl). first_by_number (faults (plain_declaration d)))
    (sym c.in-SortDecl.is) ∙ c.requires.faultless.1) in
    subst (λ (d : Decl). Grows c.args.known.now c.args.seen.now c.args.symbols.now
    c.add_name.new.names c.args.symbols.now (plain_declaration d)) (sym c.in-SortDecl.is)
    (grows_sort c.args.known.now c.args.seen.now c.add_name.new.names c.args.symbols.now
    (plain_sort_decl c.in-SortDecl.decl)
    (added c.args.seen.now c.add_name.new.names c.in-SortDecl.decl.name tt
    c.in_ok-add_name-in-SortDecl.field-0 free c.in_ok-add_name-in-SortDecl.ensures.fresh
    c.in_ok-add_name-in-SortDecl.ensures.entries))

pub returns-in_ok-insert-in-SymbolDecl-clause-grown :
    goal.returns-in_ok-insert-in-SymbolDecl-clause-grown
returns-in_ok-insert-in-SymbolDecl-clause-grown c =
    let faults =
    declaration_faults c.args.known.now.sorts (before_of c.args.seen.now c.args.symbols.now)
    c.requires.faultless.0 in
    let d = plain_symbol_decl c.in-SymbolDecl.decl in
    let info = c.in_ok-info-in-SymbolDecl.info in
    let clear =
    clear_symbol c.args.known.now.sorts (names_of c.args.symbols.now) d (ap
    (λ (x : Decl). first_by_number (faults (plain_declaration x)))
    (sym c.in-SymbolDecl.is) ∙ c.requires.faultless.1) in
    let name : string_bytes c.in_ok-from_str-in-SymbolDecl.field-0 ≡ d.name =
    c.in_ok-from_str-in-SymbolDecl.ensures.ok ∙ c.as_str.ensures in
    subst (λ (x : Decl). Grows c.args.known.now c.args.seen.now c.args.symbols.now c.args.seen.now
    c.insert.new.self (plain_declaration x)) (sym c.in-SymbolDecl.is)
    (grows_symbol c.args.known.now c.args.seen.now c.args.symbols.now c.insert.new.self d info
    (added c.args.symbols.now c.insert.new.self d.name info c.in_ok-insert-in-SymbolDecl.field-0
    clear.free
    (c.in_ok-insert-in-SymbolDecl.ensures.fresh
    ∙ ap (λ (n : List ℕ). is_none (number_of_name c.args.symbols.now n)) name)
    (c.in_ok-insert-in-SymbolDecl.ensures.entries
    ∙ ap (λ (n : List ℕ). cond c.in_ok-insert-in-SymbolDecl.field-0
    (c.args.symbols.now ++ (n, info) ∷ []) c.args.symbols.now) name))
    c.in_ok-info-in-SymbolDecl.ensures.info)

pub returns-in_default-clause-grown : goal.returns-in_default-clause-grown
returns-in_default-clause-grown c =
    grows_other c.args.known.now c.args.seen.now c.args.symbols.now c.args.decl.now
    c.in_default.not-SortDecl c.in_default.not-SymbolDecl
