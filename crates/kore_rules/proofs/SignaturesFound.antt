-- Declarations without faults give a signature. Its lists and names are values of the program's
-- types. To make them, an allocator is enough.
use Rattle.std.proofs.Common.{◌≡◌, ◌<◌, ◌*◌, suc, ℕ, true, false, List, [], ◌∷◌, ◌++◌, map, length}
use Rattle.std.proofs.Common.{Option, Some, None, refl, sym, ap, ◌∙◌, subst, arith}
use Rattle.std.specs.Prelude.{Contains, String, Vec, string_bytes, option_map, is_some, filter_map}
use Rattle.std.specs.Prelude.{flat_map, nat_lt}
use Rattle.std.specs.Global.{Global}
use Rattle.std.specs.List.{AllZip}
use Rattle.std.specs.Str.{IsUtf8}
use Rattle.std.proofs.lemmas.Bool.{false≢true}
use Rattle.std.proofs.lemmas.Bool.Decides.{Decides-ltb}
use denote.RawPtr.{null_ptr}
use Rattle.kore_text.specs.Trees.{SortTree, SymbolDeclaration, Declaration, import_declaration}
use Rattle.kore_text.specs.Trees.{sort_declaration, symbol_declaration, alias_declaration}
use Rattle.kore_text.specs.Trees.{axiom_declaration, claim_declaration, DefinitionTree}
use Rattle.kore_ast.specs.KoreText.{ReadsDefinition}
use Rattle.rule_core.specs.declared.signature.Signature.{Signature}
use Rattle.rule_core.specs.declared.signature.SortInfo.{SortInfo}
use Rattle.rule_core.specs.declared.signature.SortRef.{SortRef}
use Rattle.rule_core.specs.declared.signature.SymInfo.{SymInfo}
use Rattle.kore_sig.specs.Attributes.{hook_of}
use Rattle.kore_sig.specs.Declarations.{symbol_declared, symbols_of, SubsortPair, pairs_of}
use Rattle.kore_sig.specs.FirstFault.{when, ByNumber, IsFirstBy, IsFirstOfSequence}
use Rattle.rule_core.specs.Named.{is_among}
use Rattle.kore_sig.specs.SignatureFaults.{Placed, declarations_placed, DeclaredBefore}
use Rattle.kore_sig.specs.SignatureFaults.{nothing_declared, declared_after, declaration_faults}
use Rattle.kore_sig.specs.SignatureFaults.{reference_faults, most_arguments, number_faults}
use Rattle.kore_sig.specs.SignatureFaults.{HasPairFault, unknown_sort, pairs_after}
use Rattle.kore_sig.specs.SignatureFaults.{FirstOfSignature}
use Rattle.kore_sig.specs.Signatures.{IsSymbolEntry, IsPairOf, IsSignatureOf}
use Rattle.kore_sig.specs.SortReferences.{sort_entries, sort_reference, sort_number, sort_place}
use Rattle.kore_sig.specs.SymbolKinds.{injection_of, kind_of, ac_names, is_ac}
use Rattle.kore_sig.proofs.CountedLaws.{placed_counted}
use Rattle.kore_check.proofs.BuildLaws.{unless_empty, when_empty, parts_empty}
use Rattle.kore_axioms.proofs.FirstLaws.{none_by_byte}
use Rattle.kore_rules.proofs.HookTexts.{AllOf, HasFineHook, hooks_fine}

-- ---- values of the program's types

vec_of : {T : Type 0} → Global → (xs : List T) → length xs < 9223372036854775808
    → (v : Vec T Global) × (v.items ≡ xs)
vec_of alloc xs small = (
  record {
    items = xs;
    ptr = null_ptr;
    len = length xs;
    cap = length xs;
    alloc = alloc;
    ok = (refl, omega arith);
    small = small;
  },
  refl,
)

string_of : Global → (text : List ℕ) → IsUtf8 text → length text < 9223372036854775808
    → (s : String Global) × (string_bytes s ≡ text)
string_of alloc text utf8 small =
    let bytes = vec_of alloc text small in
    (record { bytes = bytes.0; ok = ∣ subst IsUtf8 (sym bytes.1) utf8 ∣₁ }, bytes.1)

-- ---- symbols without faults

-- the sorts that a symbol's declaration names exist, and it has few arguments
record IsClear (sorts : List (List ℕ × SortInfo)) (d : SymbolDeclaration) : Type 0 where
  pub references : flat_map (reference_faults sorts d.params) (d.args ++ d.result ∷ []) ≡ []
  pub few : nat_lt most_arguments (length d.args) ≡ false

abbrev NoneDeclared : List (List ℕ × SortInfo) → DeclaredBefore → List Placed → Type 0
NoneDeclared sorts before ps =
    IsFirstOfSequence (λ (b : DeclaredBefore) (p : Placed).
    IsFirstBy ByNumber (Contains (declaration_faults sorts b p.earlier p.declaration)))
    (λ (b : DeclaredBefore) (p : Placed). declared_after b p.declaration) before ps None

abbrev declarations : List Placed → List Declaration
declarations ps = map (λ (p : Placed). p.declaration) ps

all_clear : (sorts : List (List ℕ × SortInfo)) (before : DeclaredBefore) (ps : List Placed)
    → NoneDeclared sorts before ps
    → AllOf (IsClear sorts) (filter_map symbol_declared (declarations ps))
all_clear sorts before [] none = tt
all_clear sorts before (p ∷ ps) none =
    by_form p.declaration (all_clear sorts (declared_after before p.declaration) ps none.1) none.0
  where
    by_form : (d : Declaration)
        → AllOf (IsClear sorts) (filter_map symbol_declared (declarations ps))
        → IsFirstBy ByNumber (Contains (declaration_faults sorts before p.earlier d)) None
        → AllOf (IsClear sorts) (filter_map symbol_declared (d ∷ declarations ps))
    by_form (import_declaration d) rest clear = rest
    by_form (sort_declaration d) rest clear = rest
    by_form (alias_declaration d) rest clear = rest
    by_form (axiom_declaration d) rest clear = rest
    by_form (claim_declaration d) rest clear = rest
    by_form (symbol_declaration d) rest clear =
        let faults =
        none_by_byte (declaration_faults sorts before p.earlier (symbol_declaration d)) clear in
        let last =
        parts_empty (when (is_among before.symbols d.name) 5 d.at
        ++ flat_map (reference_faults sorts d.params) (d.args ++ d.result ∷ []))
        (when (nat_lt most_arguments (length d.args)) 8 d.at) faults in
        let middle =
        parts_empty (when (is_among before.symbols d.name) 5 d.at)
        (flat_map (reference_faults sorts d.params) (d.args ++ d.result ∷ [])) last.0 in (
          record {
            references = middle.1;
            few = when_empty (nat_lt most_arguments (length d.args)) 8 d.at last.1;
          },
          rest,
        )

symbols_clear : (d : DefinitionTree) → FirstOfSignature d None
    → AllOf (IsClear (sort_entries d)) (symbols_of d)
symbols_clear d none =
    subst (λ (ds : List Declaration).
    AllOf (IsClear (sort_entries d)) (filter_map symbol_declared ds))
    (placed_counted [] d.modules)
    (all_clear (sort_entries d) nothing_declared (declarations_placed [] d.modules) none.1.0)

-- ---- their sorts

there : {X : Type 0} (o : Option X) → is_some o ≡ true → (x : X) × (Some x ≡ o)
there None h = absurd (false≢true h)
there (Some x) h = (x, refl)

reference_there : (sorts : List (List ℕ × SortInfo)) (params : List (List ℕ)) (s : SortTree)
    → reference_faults sorts params s ≡ []
    → (of : SortRef) × (Some of ≡ sort_reference sorts params s)
reference_there sorts params s e =
    there (sort_reference sorts params s)
    (unless_empty (is_some (sort_reference sorts params s)) 6 (sort_place s) e)

record HasReferences (sorts : List (List ℕ × SortInfo)) (params : List (List ℕ))
    (args : List SortTree) (result : SortTree) : Type 0 where
  pub refs : List SortRef
  pub are : map Some refs ≡ map (sort_reference sorts params) args
  pub long : length refs ≡ length args
  pub of : SortRef
  pub is : Some of ≡ sort_reference sorts params result

references : (sorts : List (List ℕ × SortInfo)) (params : List (List ℕ)) (args : List SortTree)
    (result : SortTree) → flat_map (reference_faults sorts params) (args ++ result ∷ []) ≡ []
    → HasReferences sorts params args result
references sorts params [] result e =
    let last =
    reference_there sorts params result
    (parts_empty (reference_faults sorts params result) [] e).0 in
    record { refs = []; are = refl; long = refl; of = last.0; is = last.1 }
references sorts params (s ∷ args) result e =
    let parts =
    parts_empty (reference_faults sorts params s)
    (flat_map (reference_faults sorts params) (args ++ result ∷ [])) e in
    let one = reference_there sorts params s parts.0 in
    let rest = references sorts params args result parts.1 in record {
      refs = one.0 ∷ rest.refs;
      are = ap (λ (os : List (Option SortRef)). Some one.0 ∷ os) rest.are
          ∙ ap (λ (o : Option SortRef). o ∷ map (sort_reference sorts params) args) one.1;
      long = ap suc rest.long;
      of = rest.of;
      is = rest.is;
    }

-- ---- symbols

hook_there : Global → (n : ℕ) (d : SymbolDeclaration) → 4 * n < 9223372036854775808
    → HasFineHook (4 * n) d → (o : Option (List ℕ)) → hook_of d.attributes ≡ o
    → (h : Option (String Global)) × (option_map string_bytes h ≡ hook_of d.attributes)
hook_there alloc n d small fine None e = (None, sym e)
hook_there alloc n d small fine (Some text) e =
    let is = fine text e in
    let s = string_of alloc text is.0 (let le = is.1 in omega (arith, le, small)) in
    (Some s.0, ap (λ (bytes : List ℕ). Some bytes) s.1 ∙ sym e)

entry_there : Global
    → (sorts : List (List ℕ × SortInfo)) (injection : Option (List ℕ)) (by_axiom : List (List ℕ))
    (n : ℕ) (d : SymbolDeclaration) → 4 * n < 9223372036854775808 → HasFineHook (4 * n) d
    → IsClear sorts d → (e : List ℕ × SymInfo) × IsSymbolEntry sorts injection by_axiom d e
entry_there alloc sorts injection by_axiom n d small fine clear =
    let sorted = references sorts d.params d.args d.result clear.references in
    let few : 64 < length d.args → ⊥ =
    λ lt. false≢true (sym clear.few ∙ (Decides-ltb 64 (length d.args)).1 lt) in
    let args = vec_of alloc sorted.refs (let long = sorted.long in omega (arith, long, few)) in
    let hook = hook_there alloc n d small fine (hook_of d.attributes) refl in (
      (
        d.name,
        record {
          kind = kind_of injection d;
          params = length d.params;
          args = args.0;
          result = sorted.of;
          hook = hook.0;
          ac = is_ac by_axiom d;
        },
      ),
      record {
        name = refl;
        kind = refl;
        params = refl;
        args = ap (map Some) args.1 ∙ sorted.are;
        result = sorted.is;
        hook = hook.1;
        ac = refl;
      },
    )

entries_there : Global
    → (sorts : List (List ℕ × SortInfo)) (injection : Option (List ℕ)) (by_axiom : List (List ℕ))
    (n : ℕ) (ds : List SymbolDeclaration) → 4 * n < 9223372036854775808
    → AllOf (HasFineHook (4 * n)) ds → AllOf (IsClear sorts) ds
    → (es : List (List ℕ × SymInfo)) × AllZip (IsSymbolEntry sorts injection by_axiom) ds es
entries_there alloc sorts injection by_axiom n [] small fine clear = ([], tt)
entries_there alloc sorts injection by_axiom n (d ∷ ds) small fine clear =
    let one = entry_there alloc sorts injection by_axiom n d small fine.0 clear.0 in
    let rest = entries_there alloc sorts injection by_axiom n ds small fine.1 clear.1 in
    (one.0 ∷ rest.0, (one.1, rest.1))

-- ---- pairs

abbrev NonePaired : List (List ℕ × SortInfo) → List (ℕ × ℕ) → List SubsortPair → Type 0
NonePaired sorts before ps =
    IsFirstOfSequence
    (λ (b : List (ℕ × ℕ)) (p : SubsortPair). IsFirstBy ByNumber (HasPairFault sorts b p))
    (pairs_after sorts) before ps None

pair_there : (sorts : List (List ℕ × SortInfo)) (before : List (ℕ × ℕ)) (p : SubsortPair)
    → IsFirstBy ByNumber (HasPairFault sorts before p) None
    → (numbers : ℕ × ℕ) × IsPairOf sorts p numbers
pair_there sorts before p none =
    let empty : number_faults sorts p.lower ++ number_faults sorts p.upper ≡ [] =
    none_by_byte (number_faults sorts p.lower ++ number_faults sorts p.upper)
    (λ f has. none f (unknown_sort has)) in
    let parts = parts_empty (number_faults sorts p.lower) (number_faults sorts p.upper) empty in
    let lower =
    there (sort_number sorts p.lower)
    (unless_empty (is_some (sort_number sorts p.lower)) 6 (sort_place p.lower) parts.0) in
    let upper =
    there (sort_number sorts p.upper)
    (unless_empty (is_some (sort_number sorts p.upper)) 6 (sort_place p.upper) parts.1) in
    ((lower.0, upper.0), record { lower = sym lower.1; upper = sym upper.1 })

pairs_there : (sorts : List (List ℕ × SortInfo)) (before : List (ℕ × ℕ)) (ps : List SubsortPair)
    → NonePaired sorts before ps → (ns : List (ℕ × ℕ)) × AllZip (IsPairOf sorts) ps ns
pairs_there sorts before [] none = ([], tt)
pairs_there sorts before (p ∷ ps) none =
    let one = pair_there sorts before p none.0 in
    let rest = pairs_there sorts (pairs_after sorts before p) ps none.1 in
    (one.0 ∷ rest.0, (one.1, rest.1))

-- ---- the signature

pub signature_found : Global → (bytes : List ℕ) (d : DefinitionTree) → length bytes < 4294967296
    → ReadsDefinition bytes d → FirstOfSignature d None → (sig : Signature) × IsSignatureOf d sig
signature_found alloc bytes d short reads none =
    let sorts : List (List ℕ × SortInfo) = sort_entries d in
    let entries =
    entries_there alloc sorts (injection_of (symbols_of d)) (ac_names d) (length bytes)
    (symbols_of d) (omega (arith, short)) (hooks_fine bytes d reads)
    (symbols_clear d none) in
    let pairs = pairs_there sorts [] (pairs_of d) none.1.1 in (
      record { sorts = sorts; symbols = entries.0; subsorts = pairs.0 },
      record { sorts = refl; symbols = entries.1; subsorts = pairs.1 },
    )
