-- The signature of declarations without faults: no symbol occurs twice, and no sort is below
-- itself.
use Rattle.std.proofs.Common.{◌≡◌, ◌<◌, ℕ, Bool, true, false, ◌||◌, List, [], ◌∷◌, ◌++◌, map}
use Rattle.std.proofs.Common.{Option, Some, None, append_assoc, refl, ap, sym, ◌∙◌, subst, arith}
use Rattle.std.specs.Prelude.{◌≢◌, Contains, filter_map, flat_map, length, nat_lt}
use Rattle.std.specs.List.{AllZip}
use Rattle.std.specs.Str.{bytes_eq}
use Rattle.std.proofs.lemmas.Bool.{false≢true}
use Rattle.std.proofs.lemmas.List.{append-nil}
use Rattle.std.proofs.lemmas.Slice.Eq.{bytes_eq-Decides}
use Rattle.kore_text.specs.Trees.{SymbolDeclaration, Declaration, import_declaration}
use Rattle.kore_text.specs.Trees.{sort_declaration, symbol_declaration, alias_declaration}
use Rattle.kore_text.specs.Trees.{axiom_declaration, claim_declaration, DefinitionTree}
use Rattle.rule_core.specs.DistinctNames.{names_of, IsNoneOf, AreDistinct}
use Rattle.rule_core.specs.Subsorts.{HasNoCycle, IsBelow, by_pair, by_chain}
use Rattle.rule_core.specs.WellSorted.{IsSignature}
use Rattle.rule_core.specs.declared.signature.Signature.{Signature}
use Rattle.rule_core.specs.declared.signature.SortInfo.{SortInfo}
use Rattle.rule_core.specs.declared.signature.SymInfo.{SymInfo}
use Rattle.kore_sig.specs.CountedModules.{counted_declarations}
use Rattle.kore_sig.specs.Declarations.{SubsortPair, symbol_declared, symbols_of, pairs_of}
use Rattle.kore_sig.specs.FirstFault.{Fault, when, ByNumber, IsFirstBy, IsFirstOfSequence}
use Rattle.rule_core.specs.Named.{is_among}
use Rattle.kore_sig.specs.SignatureFaults.{Placed, declarations_placed, DeclaredBefore}
use Rattle.kore_sig.specs.SignatureFaults.{nothing_declared, declared_after, declaration_faults}
use Rattle.kore_sig.specs.SignatureFaults.{reference_faults, most_arguments, HasPairFault, cycle}
use Rattle.kore_sig.specs.SignatureFaults.{with_numbers, pairs_after, FirstOfSignature}
use Rattle.kore_sig.specs.Signatures.{IsSignatureOf, IsSymbolEntry, IsPairOf}
use Rattle.kore_sig.specs.SortReferences.{sort_number, sort_entries}
use Rattle.kore_sig.specs.SymbolKinds.{injection_of, ac_names}
use Rattle.kore_sig.proofs.CountedLaws.{placed_counted}
use Rattle.kore_sig.proofs.WholeLaws.{signature_sorted}
use Rattle.kore_axioms.proofs.ApplicativeLaws.{neither}
use Rattle.kore_axioms.proofs.FirstLaws.{none_by_byte}
use Rattle.kore_axioms.proofs.RuleLaws.{not_raised}

-- ---- names

apart : (n x : List ℕ) → bytes_eq n x ≡ false → x ≢ n
apart n x h e = false≢true (sym h ∙ (bytes_eq-Decides n x).1 (sym e))

none_push : (x : List ℕ) (xs : List (List ℕ)) (n : List ℕ) → IsNoneOf x xs → x ≢ n
    → IsNoneOf x (xs ++ n ∷ [])
none_push x [] n none other = (other, tt)
none_push x (y ∷ xs) n none other = (none.0, none_push x xs n none.1 other)

distinct_push : (xs : List (List ℕ)) (n : List ℕ) → AreDistinct xs → is_among xs n ≡ false
    → AreDistinct (xs ++ n ∷ [])
distinct_push [] n distinct free = (tt, tt)
distinct_push (x ∷ xs) n distinct free =
    let parts = neither (bytes_eq n x) (is_among xs n) free in
    (none_push x xs n distinct.0 (apart n x parts.0), distinct_push xs n distinct.1 parts.1)

abbrev symbol_names : List Declaration → List (List ℕ)
symbol_names ds = map (λ (d : SymbolDeclaration). d.name) (filter_map symbol_declared ds)

abbrev NoneDeclared : List (List ℕ × SortInfo) → DeclaredBefore → List Placed → Type 0
NoneDeclared sorts before ps =
    IsFirstOfSequence (λ (b : DeclaredBefore) (p : Placed).
    IsFirstBy ByNumber (Contains (declaration_faults sorts b p.earlier p.declaration)))
    (λ (b : DeclaredBefore) (p : Placed). declared_after b p.declaration) before ps None

abbrev declarations : List Placed → List Declaration
declarations ps = map (λ (p : Placed). p.declaration) ps

distinct_behind : (sorts : List (List ℕ × SortInfo)) (before : DeclaredBefore) (ps : List Placed)
    → NoneDeclared sorts before ps → AreDistinct before.symbols
    → AreDistinct (before.symbols ++ symbol_names (declarations ps))
distinct_behind sorts before [] none distinct =
    subst AreDistinct (sym (append-nil before.symbols)) distinct
distinct_behind sorts before (p ∷ ps) none distinct =
    by_form p.declaration
    (λ later. distinct_behind sorts (declared_after before p.declaration) ps none.1 later)
    none.0
  where
    by_form : (d : Declaration)
        → (AreDistinct (declared_after before d).symbols
        → AreDistinct ((declared_after before d).symbols ++ symbol_names (declarations ps)))
        → IsFirstBy ByNumber (Contains (declaration_faults sorts before p.earlier d)) None
        → AreDistinct (before.symbols ++ symbol_names (d ∷ declarations ps))
    by_form (import_declaration d) rest clear = rest distinct
    by_form (sort_declaration d) rest clear = rest distinct
    by_form (alias_declaration d) rest clear = rest distinct
    by_form (axiom_declaration d) rest clear = rest distinct
    by_form (claim_declaration d) rest clear = rest distinct
    by_form (symbol_declaration d) rest clear =
        let faults =
        none_by_byte (declaration_faults sorts before p.earlier (symbol_declaration d)) clear in
        let free =
        not_raised (is_among before.symbols d.name) 5 d.at (flat_map
        (reference_faults sorts d.params) (d.args ++ d.result ∷ [])
        ++ when (nat_lt most_arguments (length d.args)) 8 d.at)
        (sym (append_assoc (when (is_among before.symbols d.name) 5 d.at) _ _) ∙ faults) in
        subst AreDistinct
        (append_assoc before.symbols (d.name ∷ []) (symbol_names (declarations ps)))
        (rest (distinct_push before.symbols d.name distinct free.0))

named_entries : (sorts : List (List ℕ × SortInfo)) (i : Option (List ℕ)) (ac : List (List ℕ))
    (ds : List SymbolDeclaration) (es : List (List ℕ × SymInfo))
    → AllZip (IsSymbolEntry sorts i ac) ds es
    → names_of es ≡ map (λ (d : SymbolDeclaration). d.name) ds
named_entries sorts i ac [] [] zipped = refl
named_entries sorts i ac [] (e ∷ es) zipped = absurd zipped
named_entries sorts i ac (d ∷ ds) [] zipped = absurd zipped
named_entries sorts i ac (d ∷ ds) (e ∷ es) zipped =
    ap (λ (n : List ℕ). n ∷ names_of es) zipped.0.name
    ∙ ap (λ (ns : List (List ℕ)). d.name ∷ ns) (named_entries sorts i ac ds es zipped.1)

pub distinct_symbols : (d : DefinitionTree) (sig : Signature) → FirstOfSignature d None
    → IsSignatureOf d sig → AreDistinct (names_of sig.symbols)
distinct_symbols d sig none is =
    let all : AreDistinct (symbol_names (declarations (declarations_placed [] d.modules))) =
    distinct_behind (sort_entries d) nothing_declared (declarations_placed [] d.modules) none.1.0 tt
    in
    let same : names_of sig.symbols ≡ symbol_names (counted_declarations d) =
    named_entries sig.sorts (injection_of (symbols_of d)) (ac_names d) (symbols_of d)
    sig.symbols is.symbols in
    subst AreDistinct (ap symbol_names (placed_counted [] d.modules) ∙ sym same) all

-- ---- pairs

not_not : (pairs : List (ℕ × ℕ)) → ((HasNoCycle pairs → ⊥) → ⊥) → HasNoCycle pairs
not_not pairs h = λ a below. h (λ fine. fine a below)

abbrev NonePaired : List (List ℕ × SortInfo) → List (ℕ × ℕ) → List SubsortPair → Type 0
NonePaired sorts before ps =
    IsFirstOfSequence
    (λ (b : List (ℕ × ℕ)) (p : SubsortPair). IsFirstBy ByNumber (HasPairFault sorts b p))
    (pairs_after sorts) before ps None

no_cycle_behind : (sorts : List (List ℕ × SortInfo)) (before : List (ℕ × ℕ)) (ps : List SubsortPair)
    (ns : List (ℕ × ℕ)) → NonePaired sorts before ps → AllZip (IsPairOf sorts) ps ns
    → HasNoCycle before → HasNoCycle (before ++ ns)
no_cycle_behind sorts before [] [] none zipped fine =
    subst HasNoCycle (sym (append-nil before)) fine
no_cycle_behind sorts before [] (n ∷ ns) none zipped fine = absurd zipped
no_cycle_behind sorts before (p ∷ ps) [] none zipped fine = absurd zipped
no_cycle_behind sorts before (p ∷ ps) (n ∷ ns) none zipped fine =
    let of = zipped.0 in
    let next : pairs_after sorts before p ≡ before ++ (n.0, n.1) ∷ [] =
    ap (λ (o : Option ℕ). with_numbers before o (sort_number sorts p.upper)) of.lower
    ∙ ap (λ (o : Option ℕ). with_numbers before (Some n.0) o) of.upper in
    let here : HasNoCycle (before ++ (n.0, n.1) ∷ []) =
    not_not (before ++ (n.0, n.1) ∷ [])
    (λ bad. none.0 (record { number = 24; byte = p.at }) (cycle of.lower of.upper bad)) in
    subst HasNoCycle (append_assoc before (n ∷ []) ns)
    (no_cycle_behind sorts (before ++ n ∷ []) ps ns
    (subst (λ (b : List (ℕ × ℕ)). NonePaired sorts b ps) next none.1) zipped.1 here)

contains_none : (p : ℕ × ℕ) → Contains [] p → ⊥
contains_none p (k, lt, is) = omega (arith, lt)

nothing_below : (a b : ℕ) → IsBelow [] a b → ⊥
nothing_below a b (by_pair known) = contains_none (a, b) known
nothing_below a b (by_chain {b = c} known rest) = contains_none (a, c) known

pub no_cycle : (d : DefinitionTree) (sig : Signature) → FirstOfSignature d None
    → IsSignatureOf d sig → HasNoCycle sig.subsorts
no_cycle d sig none is =
    no_cycle_behind (sort_entries d) [] (pairs_of d) sig.subsorts none.1.1 (subst
    (λ (es : List (List ℕ × SortInfo)). AllZip (IsPairOf es) (pairs_of d) sig.subsorts)
    is.sorts is.subsorts) (λ a below. nothing_below a a below)

pub faultless_signature : (d : DefinitionTree) (sig : Signature) → FirstOfSignature d None
    → IsSignatureOf d sig → IsSignature sig
faultless_signature d sig none is =
    signature_sorted d sig is (distinct_symbols d sig none is) (no_cycle d sig none is)
