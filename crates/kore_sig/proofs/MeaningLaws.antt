-- The signature of a definition, from what is known of its declarations.
use Rattle.std.proofs.Common.{◌≡◌, ℕ, zero, suc, ◌<◌, List, [], ◌∷◌, ◌++◌, map, length, slice_get}
use Rattle.std.proofs.Common.{Option, Some, None, refl, ap, sym, ◌∙◌, arith, subst}
use Rattle.std.specs.Prelude.{is_some, option_map, flat_map, ◌||◌, All, nat_lt}
use Rattle.std.specs.List.{AllZip, AllByRecursion}
use Rattle.std.specs.Str.{bytes_eq}
use Rattle.std.proofs.lemmas.List.Elements.{All-from_recursion}
use Rattle.rule_core.specs.Named.{number_of_name, is_among}
use Rattle.rule_core.specs.DistinctNames.{names_of, AreDistinct}
use Rattle.rule_core.specs.Subsorts.{HasNoCycle}
use Rattle.rule_core.specs.WellSorted.{IsReference, IsDeclaration, IsPair, IsSignature}
use Rattle.rule_core.specs.declared.signature.Signature.{Signature}
use Rattle.rule_core.specs.declared.signature.SortInfo.{SortInfo}
use Rattle.rule_core.specs.declared.signature.SymInfo.{SymInfo}
use Rattle.rule_core.specs.declared.signature.SortRef.{SortRef}
use Rattle.rule_core.specs.declared.signature.SortRef.TheVariants.{Param, Sort}
use Rattle.kore_text.specs.Trees.{SortTree, sort_parameter, sort_applied, listed_sorts}
use Rattle.kore_text.specs.Trees.{SymbolDeclaration, Declaration, import_declaration}
use Rattle.kore_text.specs.Trees.{sort_declaration, symbol_declaration, alias_declaration}
use Rattle.kore_text.specs.Trees.{axiom_declaration, claim_declaration}
use Rattle.kore_sig.specs.Attributes.{is_said_ac}
use Rattle.kore_sig.specs.Declarations.{SubsortPair}
use Rattle.kore_sig.specs.FirstFault.{unless, when}
use Rattle.kore_sig.specs.Declaring.{first_declared, placed_faults, placed_behind}
use Rattle.kore_sig.specs.Sets.{Knows}
use Rattle.kore_sig.specs.SignatureFaults.{DeclaredBefore, Placed, reference_faults}
use Rattle.kore_sig.specs.SignatureFaults.{declaration_faults, most_arguments}
use Rattle.kore_sig.specs.Signatures.{IsSymbolEntry, IsPairOf}
use Rattle.kore_sig.specs.SortReferences.{sort_reference, declared_number, parameter_place}
use Rattle.kore_sig.specs.SortReferences.{sort_place}
use Rattle.kore_sig.specs.SymbolKinds.{kind_of, injection_of}
use Rattle.kore_sig.proofs.InjectionLaws.{injections_declared, constructors_plain}
use Rattle.kore_sig.proofs.ListLaws.{is_some-map, number_within, position_within}
use Rattle.kore_sig.proofs.OrderLaws.{first_in_same}
use Rattle.kore_sig.proofs.PairLaws.{number_of_sort}
use Rattle.kore_sig.proofs.SetLaws.{number_among}

-- ---- sorts with the same names

number_known : (table entries : List (List ℕ × SortInfo)) → Knows table (names_of entries)
    → (n : List ℕ) → is_some (number_of_name table n) ≡ is_some (number_of_name entries n)
number_known table entries knows n = knows n ∙ sym (number_among entries n)

declared_known : (table entries : List (List ℕ × SortInfo)) → Knows table (names_of entries)
    → (name : List ℕ) (args : List SortTree)
    → is_some (declared_number table name args) ≡ is_some (declared_number entries name args)
declared_known table entries knows name [] = number_known table entries knows name
declared_known table entries knows name (s ∷ args) = refl

reference_known : (table entries : List (List ℕ × SortInfo)) → Knows table (names_of entries)
    → (params : List (List ℕ)) (s : SortTree)
    → is_some (sort_reference table params s) ≡ is_some (sort_reference entries params s)
reference_known table entries knows params (sort_parameter at name) = refl
reference_known table entries knows params (sort_applied at name args) =
    is_some-map (λ (n : ℕ). Sort (record { 0 = n }))
    (declared_number table name (listed_sorts args))
    ∙ declared_known table entries knows name (listed_sorts args)
    ∙
    sym (is_some-map (λ (n : ℕ).
    Sort (record { 0 = n })) (declared_number entries name (listed_sorts args)))

references_known : (table entries : List (List ℕ × SortInfo)) → Knows table (names_of entries)
    → (params : List (List ℕ)) (ss : List SortTree)
    → flat_map (reference_faults table params) ss ≡ flat_map (reference_faults entries params) ss
references_known table entries knows params [] = refl
references_known table entries knows params (s ∷ ss) =
    ap (λ b. unless b 6 (sort_place s) ++ flat_map (reference_faults table params) ss)
    (reference_known table entries knows params s)
    ∙ ap (λ fs. reference_faults entries params s ++ fs)
    (references_known table entries knows params ss)

faults_known : (table entries : List (List ℕ × SortInfo)) → Knows table (names_of entries)
    → (before : DeclaredBefore) (earlier : List (List ℕ)) (d : Declaration)
    → declaration_faults table before earlier d ≡ declaration_faults entries before earlier d
faults_known table entries knows before earlier (import_declaration d) = refl
faults_known table entries knows before earlier (sort_declaration d) = refl
faults_known table entries knows before earlier (symbol_declaration d) =
    ap (λ fs. when (is_among before.symbols d.name) 5 d.at ++ fs
    ++ when (nat_lt most_arguments (length d.args)) 8 d.at)
    (references_known table entries knows d.params (d.args ++ d.result ∷ []))
faults_known table entries knows before earlier (alias_declaration d) = refl
faults_known table entries knows before earlier (axiom_declaration d) = refl
faults_known table entries knows before earlier (claim_declaration d) = refl

-- the first fault is the same by both tables
pub first_known : (table entries : List (List ℕ × SortInfo)) → Knows table (names_of entries)
    → (before : DeclaredBefore) (ps : List Placed)
    → first_declared table before ps ≡ first_declared entries before ps
first_known table entries knows before ps =
    first_in_same (placed_faults table) (placed_faults entries) placed_behind
    (λ b p. faults_known table entries knows b p.earlier p.declaration) before ps

-- ---- entries, from what is known

allzip_map : {X Y : Type 0} (R S : X → Y → Type 0) → ((x : X) (y : Y) → R x y → S x y)
    → (xs : List X) (ys : List Y) → AllZip R xs ys → AllZip S xs ys
allzip_map R S h [] [] z = tt
allzip_map R S h [] (y ∷ ys) z = absurd z
allzip_map R S h (x ∷ xs) [] z = absurd z
allzip_map R S h (x ∷ xs) (y ∷ ys) z = (h x y z.0, allzip_map R S h xs ys z.1)

same_entry : (sorts : List (List ℕ × SortInfo)) (i j : Option (List ℕ)) (ac bc : List (List ℕ))
    → i ≡ j → ((n : List ℕ) → is_among ac n ≡ is_among bc n)
    → (d : SymbolDeclaration) (e : List ℕ × SymInfo) → IsSymbolEntry sorts i ac d e
    → IsSymbolEntry sorts j bc d e
same_entry sorts i j ac bc injection among d e h = record {
  name = h.name;
  kind = h.kind ∙ ap (λ (o : Option (List ℕ)). kind_of o d) injection;
  params = h.params;
  args = h.args;
  result = h.result;
  hook = h.hook;
  ac = h.ac ∙ ap (λ b. is_said_ac d.attributes || b) (among d.name);
}

pub same_entries : (sorts : List (List ℕ × SortInfo)) (i j : Option (List ℕ))
    (ac bc : List (List ℕ)) → i ≡ j → ((n : List ℕ) → is_among ac n ≡ is_among bc n)
    → (ds : List SymbolDeclaration) (es : List (List ℕ × SymInfo))
    → AllZip (IsSymbolEntry sorts i ac) ds es → AllZip (IsSymbolEntry sorts j bc) ds es
same_entries sorts i j ac bc injection among =
    allzip_map (IsSymbolEntry sorts i ac) (IsSymbolEntry sorts j bc)
    (same_entry sorts i j ac bc injection among)

-- ---- what a signature refers to exists

parameter_there : (sig : Signature) (params : List (List ℕ)) (o : Option ℕ) (r : SortRef)
    → ((j : ℕ) → o ≡ Some j → j < length params) → Some r ≡ option_map Param o
    → IsReference sig (length params) r
parameter_there sig params None r within e = absurd (let never : ⊥ = cc in never)
parameter_there sig params (Some j) r within e =
    let same : r ≡ Param j = cc in
    subst (IsReference sig (length params)) (sym same) (within j refl)

sort_there : (sig : Signature) (n : ℕ) (o : Option ℕ) (r : SortRef)
    → ((j : ℕ) → o ≡ Some j → j < length sig.sorts)
    → Some r ≡ option_map (λ (i : ℕ). Sort (record { 0 = i })) o → IsReference sig n r
sort_there sig n None r within e = absurd (let never : ⊥ = cc in never)
sort_there sig n (Some j) r within e =
    let same : r ≡ Sort (record { 0 = j }) = cc in
    subst (IsReference sig n) (sym same) (within j refl)

declared_there : (sorts : List (List ℕ × SortInfo)) (name : List ℕ) (args : List SortTree) (j : ℕ)
    → declared_number sorts name args ≡ Some j → j < length sorts
declared_there sorts name [] j e = number_within sorts name j e
declared_there sorts name (s ∷ args) j e = absurd (let never : ⊥ = cc in never)

reference_there : (sig : Signature) (params : List (List ℕ)) (s : SortTree) (r : SortRef)
    → Some r ≡ sort_reference sig.sorts params s → IsReference sig (length params) r
reference_there sig params (sort_parameter at name) r e =
    parameter_there sig params (parameter_place params name) r (λ j h. (let lt =
    position_within (λ (p : List ℕ). bytes_eq name p) 0 params j h in
    omega arith)) e
reference_there sig params (sort_applied at name args) r e =
    sort_there sig (length params) (declared_number sig.sorts name (listed_sorts args)) r
    (declared_there sig.sorts name (listed_sorts args)) e

references_there : (sig : Signature) (params : List (List ℕ)) (rs : List SortRef)
    (ss : List SortTree) → map Some rs ≡ map (sort_reference sig.sorts params) ss
    → AllByRecursion (IsReference sig (length params)) rs
references_there sig params [] ss e = tt
references_there sig params (r ∷ rs) [] e = absurd (let never : ⊥ = cc in never)
references_there sig params (r ∷ rs) (s ∷ ss) e =
    let here : Some r ≡ sort_reference sig.sorts params s = cc in
    let there : map Some rs ≡ map (sort_reference sig.sorts params) ss = cc in
    (reference_there sig params s r here, references_there sig params rs ss there)

entry_there : (sig : Signature) (i : Option (List ℕ)) (ac : List (List ℕ)) (d : SymbolDeclaration)
    (e : List ℕ × SymInfo) → IsSymbolEntry sig.sorts i ac d e → IsDeclaration sig e.1
entry_there sig i ac d e h = record {
  arguments =
      subst (λ (n : ℕ). All (IsReference sig n) e.1.args.items) (sym h.params)
      (All-from_recursion (IsReference sig (length d.params)) e.1.args.items
      (references_there sig d.params e.1.args.items d.args h.args));
  result =
      subst (λ (n : ℕ). IsReference sig n e.1.result) (sym h.params)
      (reference_there sig d.params d.result e.1.result h.result);
}

symbol_there : (sig : Signature) (i : Option (List ℕ)) (ac : List (List ℕ))
    (ds : List SymbolDeclaration) (es : List (List ℕ × SymInfo)) (f : ℕ) (e : List ℕ × SymInfo)
    → AllZip (IsSymbolEntry sig.sorts i ac) ds es → slice_get es f ≡ Some e → IsDeclaration sig e.1
symbol_there sig i ac ds [] f e h at = absurd (let never : ⊥ = cc in never)
symbol_there sig i ac [] (x ∷ es) f e h at = absurd h
symbol_there sig i ac (d ∷ ds) (x ∷ es) zero e h at =
    let same : x ≡ e = cc in
    subst (λ (y : List ℕ × SymInfo). IsDeclaration sig y.1) same (entry_there sig i ac d x h.0)
symbol_there sig i ac (d ∷ ds) (x ∷ es) (suc f) e h at = symbol_there sig i ac ds es f e h.1 at

pairs_there : (sig : Signature) (ps : List SubsortPair) (ns : List (ℕ × ℕ))
    → AllZip (IsPairOf sig.sorts) ps ns → AllByRecursion (IsPair sig) ns
pairs_there sig ps [] h = tt
pairs_there sig [] (n ∷ ns) h = absurd h
pairs_there sig (p ∷ ps) (n ∷ ns) h = (
  (
    number_of_sort sig.sorts p.lower n.0 h.0.lower,
    number_of_sort sig.sorts p.upper n.1 h.0.upper,
  ),
  pairs_there sig ps ns h.1,
)

pub signature_there : (sig : Signature) (ac : List (List ℕ)) (ds : List SymbolDeclaration)
    (ps : List SubsortPair)
    → AllZip (IsSymbolEntry sig.sorts (injection_of ds) ac) ds sig.symbols
    → AllZip (IsPairOf sig.sorts) ps sig.subsorts → AreDistinct (names_of sig.symbols)
    → HasNoCycle sig.subsorts → IsSignature sig
signature_there sig ac ds ps symbols pairs distinct no_cycle = record {
  declared =
      λ f info is. symbol_there sig (injection_of ds) ac ds sig.symbols f (is.0, info) symbols is.1;
  injections =
      λ f info is kind.
      injections_declared sig.sorts ac ds sig.symbols f (is.0, info) symbols distinct is.1 kind;
  constructors =
      λ f info is kind. constructors_plain sig.sorts (injection_of ds) ac ds sig.symbols f
      (is.0, info) symbols is.1 kind;
  pairs = All-from_recursion (IsPair sig) sig.subsorts (pairs_there sig ps sig.subsorts pairs);
  no_cycle = no_cycle;
}
