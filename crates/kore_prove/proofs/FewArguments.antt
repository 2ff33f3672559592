-- Each symbol of an accepted definition has few arguments, since a declaration with more than the
-- greatest number of arguments is a fault.
use Rattle.std.proofs.Common.{◌≡◌, ◌<◌, ◌≤◌, ℕ, zero, suc, false, List, [], ◌∷◌, ◌++◌, map}
use Rattle.std.proofs.Common.{length, Option, Some, None, slice_get, sym, ap, ◌∙◌, subst, arith}
use Rattle.std.specs.Prelude.{Contains, filter_map, flat_map, nat_lt}
use Rattle.std.proofs.lemmas.Bool.{false≢true}
use Rattle.std.proofs.lemmas.Bool.Decides.{Decides-ltb}
use Rattle.std.proofs.lemmas.List.{length-map}
use Rattle.kore_text.specs.Trees.{SymbolDeclaration, Declaration, import_declaration}
use Rattle.kore_text.specs.Trees.{sort_declaration, symbol_declaration, alias_declaration}
use Rattle.kore_text.specs.Trees.{axiom_declaration, claim_declaration, DefinitionTree}
use Rattle.rule_core.specs.Named.{is_among}
use Rattle.rule_core.specs.Theories.{RewriteTheory}
use Rattle.rule_core.specs.declared.rules.Program.{Program}
use Rattle.rule_core.specs.declared.signature.SortInfo.{SortInfo}
use Rattle.rule_core.specs.declared.signature.SortRef.{SortRef}
use Rattle.rule_core.specs.declared.signature.SymInfo.{SymInfo}
use Rattle.kore_sig.specs.Declarations.{symbol_declared, symbols_of, axioms_of}
use Rattle.kore_sig.specs.FirstFault.{when, ByNumber, IsFirstBy, IsFirstOfSequence}
use Rattle.kore_sig.specs.SignatureFaults.{Placed, declarations_placed, DeclaredBefore}
use Rattle.kore_sig.specs.SignatureFaults.{nothing_declared, declared_after, declaration_faults}
use Rattle.kore_sig.specs.SignatureFaults.{reference_faults, most_arguments, FirstOfSignature}
use Rattle.kore_sig.specs.Signatures.{IsSymbolEntry, IsEntryOf}
use Rattle.kore_sig.specs.SortReferences.{sort_entries, sort_reference}
use Rattle.kore_sig.proofs.CountedLaws.{placed_counted}
use Rattle.kore_sig.proofs.DeclaringLaws.{both_empty, when_empty}
use Rattle.kore_axioms.proofs.FirstLaws.{none_by_byte}
use Rattle.kore_rules.specs.Acceptance.{IsAccepted}
use Rattle.kore_rules.proofs.HookTexts.{AllOf}
use Rattle.kore_rules.proofs.KeptSorts.{kept, declared_symbol, zipped_right}
use Rattle.assumed_texts.specs.AssumedTexts.{HasFewArguments, CanBeAssumed}
use Rattle.kore_prove.specs.Runnable.{IsProgram}

-- ---- declarations

abbrev HasFew : SymbolDeclaration → Type 0
HasFew d = length d.args ≤ 64

not_more : (n : ℕ) → nat_lt most_arguments n ≡ false → n ≤ 64
not_more n h =
    let few : 64 < n → ⊥ = λ lt. false≢true (sym h ∙ (Decides-ltb 64 n).1 lt) in
    omega (arith, few)

abbrev NoneDeclared : List (List ℕ × SortInfo) → DeclaredBefore → List Placed → Type 0
NoneDeclared sorts before ps =
    IsFirstOfSequence (λ (b : DeclaredBefore) (p : Placed).
    IsFirstBy ByNumber (Contains (declaration_faults sorts b p.earlier p.declaration)))
    (λ (b : DeclaredBefore) (p : Placed). declared_after b p.declaration) before ps None

abbrev declarations : List Placed → List Declaration
declarations ps = map (λ (p : Placed). p.declaration) ps

few_placed : (sorts : List (List ℕ × SortInfo)) (before : DeclaredBefore) (ps : List Placed)
    → NoneDeclared sorts before ps
    → AllOf HasFew (filter_map symbol_declared (declarations ps))
few_placed sorts before [] none = tt
few_placed sorts before (p ∷ ps) none =
    by_form p.declaration (few_placed sorts (declared_after before p.declaration) ps none.1) none.0
  where
    by_form : (d : Declaration) → AllOf HasFew (filter_map symbol_declared (declarations ps))
        → IsFirstBy ByNumber (Contains (declaration_faults sorts before p.earlier d)) None
        → AllOf HasFew (filter_map symbol_declared (d ∷ declarations ps))
    by_form (import_declaration d) rest clear = rest
    by_form (sort_declaration d) rest clear = rest
    by_form (alias_declaration d) rest clear = rest
    by_form (axiom_declaration d) rest clear = rest
    by_form (claim_declaration d) rest clear = rest
    by_form (symbol_declaration d) rest clear =
        let faults =
        none_by_byte (declaration_faults sorts before p.earlier (symbol_declaration d)) clear in
        let last =
        both_empty (when (is_among before.symbols d.name) 5 d.at
        ++ flat_map (reference_faults sorts d.params) (d.args ++ d.result ∷ []))
        (when (nat_lt most_arguments (length d.args)) 8 d.at) faults in (
          not_more (length d.args)
              (when_empty (nat_lt most_arguments (length d.args)) 8 d.at last.1),
          rest,
        )

few_declared : (d : DefinitionTree) → FirstOfSignature d None → AllOf HasFew (symbols_of d)
few_declared d none =
    subst (λ (ds : List Declaration). AllOf HasFew (filter_map symbol_declared ds))
    (placed_counted [] d.modules)
    (few_placed (sort_entries d) nothing_declared (declarations_placed [] d.modules) none.1.0)

few_at : (ds : List SymbolDeclaration) (i : ℕ) (d : SymbolDeclaration) → AllOf HasFew ds
    → slice_get ds i ≡ Some d → HasFew d
few_at [] i d few at = absurd (let never : ⊥ = cc in never)
few_at (x ∷ ds) zero d few at = subst HasFew (let same : x ≡ d = cc in same) few.0
few_at (x ∷ ds) (suc i) d few at = few_at ds i d few.1 at

-- ---- symbols

few_of_entry : (sorts : List (List ℕ × SortInfo)) (injection : Option (List ℕ))
    (by_axiom : List (List ℕ)) (d : SymbolDeclaration) (e : List ℕ × SymInfo)
    → IsSymbolEntry sorts injection by_axiom d e → HasFew d → length e.1.args.items ≤ 64
few_of_entry sorts injection by_axiom d e is few =
    let same : length e.1.args.items ≡ length d.args =
    sym (length-map e.1.args.items Some)
    ∙ ap (λ (os : List (Option SortRef)). length os) is.args
    ∙ length-map d.args (sort_reference sorts d.params) in
    omega (arith, same, few)

-- each symbol of an accepted definition has at most 64 arguments
pub few_arguments : (bytes : List ℕ) (theory : RewriteTheory) (top : Option ℕ)
    → IsAccepted bytes theory top → HasFewArguments theory.sig
few_arguments bytes theory top is = λ f info symbol.
    let d = is.definition in
    let found =
    declared_symbol is.declared theory.sig (axioms_of d) f info
    (kept is.declared (axioms_of d) theory is.program) symbol in
    let entry =
    zipped_right (IsEntryOf d is.declared.sorts) (symbols_of d) is.declared.symbols f
    (found.0, found.1) is.signature.symbols found.2 in
    let few : length found.1.args.items ≤ 64 =
    few_of_entry is.declared.sorts _ _ entry.0 (found.0, found.1) entry.2
    (few_at (symbols_of d) f entry.0 (few_declared d is.no_fault) entry.1) in
    let same : length info.args.items ≡ length found.1.args.items =
    ap (λ (refs : List SortRef). length refs) found.3.2.args in
    omega (arith, same, few)

-- what is known of a program and the bound on arguments are what acceptance establishes
pub can_be_assumed : (program : Program) → IsProgram program → HasFewArguments program.sig
    → CanBeAssumed program
can_be_assumed program is few = record {
  sorted = is.well_sorted;
  bound = is.bound;
  sorts = let less = is.numbers.sorts in omega (arith, less);
  symbols = is.numbers.symbols;
  arguments = few;
}
