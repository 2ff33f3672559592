-- Hooks by name, and the kinds of functions.
use Rattle.std.proofs.Common.{◌≡◌, ◌<◌, ℕ, Bool, true, false, List, [], length, get_or}
use Rattle.std.proofs.Common.{Contains, Option, Some, None, refl, sym, ap, ◌∙◌, subst, arith}
use Rattle.std.specs.Prelude.{◌↔◌, IsTrue, String, slice_get, option_map, string_bytes}
use Rattle.std.specs.Global.{Global}
use Rattle.std.specs.List.{range_with_len}
use Rattle.std.specs.Str.{bytes_eq}
use Rattle.std.proofs.lemmas.Bool.{false≢true}
use Rattle.std.proofs.lemmas.Option.{slice_get-map, slice_get-get_or, slice_get_within}
use Rattle.std.proofs.lemmas.List.FromFn.{length-range_with_len, get_or-range_with_len}
use Rattle.std.proofs.lemmas.List.Quantifiers.{position-Some}
use Rattle.std.proofs.lemmas.Slice.Eq.{bytes_eq-Decides}
use Rattle.term_core.specs.HookValues.{Hook, hooks}
use Rattle.term_core.specs.HookSignatures.{Signature as HookSignature, signature}
use Rattle.term_core.specs.HookValues as hook
use Rattle.hook_table.specs.Names.{hook_number, NamesDiffer}
use Rattle.kore_text.specs.Trees.{AxiomDeclaration}
use Rattle.rule_core.specs.HookSorts.{FitsHook}
use Rattle.rule_core.specs.declared.signature.Signature.{Signature}
use Rattle.rule_core.specs.declared.signature.SymInfo.{SymInfo}
use Rattle.rule_core.specs.declared.signature.SymKind.{SymKind}
use Rattle.rule_core.specs.declared.signature.SymKind.TheVariants.{Injection, Ctor, Equations}
use Rattle.rule_core.specs.declared.signature.SymKind.TheVariants.{Hooked, Closed, NoKind}
use Rattle.rule_core.specs.KindTests.{is_defined_kind}
use Rattle.kore_rules.specs.EquationsAmong.{IsUnreadableAmong}
use Rattle.kore_rules.specs.Programs.{HasFittingHook, HasKind, as_declared, hooked_kind}
use Rattle.kore_rules.specs.Programs.{without_hook, by_unreadable, equations_kind}
use Rattle.kore_rules.specs.ScalarSorts.{MarksTerms, fits_row, kind_in_row, kind_of_number}
use Rattle.kore_rules.specs.ScalarSorts.{kind_of_function, final_kind, hook_row}
use Rattle.kore_rules.proofs.KindLaws.{HasPairs, fits_true, fits_from}

some_same : {A : Type 0} (x y : A) → Some x ≡ Some y → x ≡ y
some_same x y e = cc

-- ---- hooks by name

names_differ : NamesDiffer
names_differ = refl

number_at : (n i : ℕ) → i < n → slice_get (range_with_len 0 n) i ≡ Some i
number_at n i lt =
    slice_get-get_or (range_with_len 0 n) i 0
    (subst (λ (m : ℕ). i < m) (sym (length-range_with_len 0 n)) lt)
    ∙ ap Some (get_or-range_with_len 0 n i 0 lt ∙ omega arith)

-- the number of a hook's name is the hook's own number
pub own_number : (row : ℕ) (h : Hook) → slice_get hooks row ≡ Some h → hook_number h.name ≡ Some row
own_number row h there =
    some_same (hook_number h.name) (Some row)
    (sym (ap (option_map (λ (g : Hook). hook_number g.name)) there)
    ∙ sym (slice_get-map (λ (g : Hook). hook_number g.name) hooks row)
    ∙ ap (λ (ns : List (Option ℕ)). slice_get ns row) names_differ
    ∙ slice_get-map (λ (n : ℕ). Some n) (range_with_len 0 (length hooks)) row
    ∙ ap (option_map (λ (n : ℕ). Some n))
    (number_at (length hooks) row (slice_get_within hooks row h there)))

-- the hook with the number of a name has this name
numbered_hook : (name : List ℕ) (n : ℕ) (d : Hook) → hook_number name ≡ Some n
    → (h : Hook) × (slice_get hooks n ≡ Some h) × (h.name ≡ name)
numbered_hook name n d is =
    let found = position-Some (λ (h : Hook). bytes_eq h.name name) hooks n d is in
    let h = get_or hooks n d in
    (h, slice_get-get_or hooks n d found.0, (bytes_eq-Decides h.name name).0 found.1)

first_hook : Hook
first_hook = get_or hooks 0 (record { name = []; operation = hook.on_truth (λ b. b) })

no_such_hook : (sig : Signature) (info : SymInfo) (name : List ℕ) → hook_number name ≡ None
    → (row : ℕ) → HasFittingHook sig info name row → ⊥
no_such_hook sig info name none row (h, there, named, fits) =
    let both : Some row ≡ None = sym (own_number row h there) ∙ ap hook_number named ∙ none in
    let never : ⊥ = cc in
    never

-- ---- kinds

abbrev pub Unreadables : Signature → List AxiomDeclaration → List ℕ → Type 0
Unreadables sig axioms f =
    (a : AxiomDeclaration) × Contains axioms a × IsUnreadableAmong sig axioms f a

by_fits : (sig : Signature) (axioms : List AxiomDeclaration) (marks : List Bool)
    → HasPairs sig axioms → MarksTerms sig axioms marks
    → (f : List ℕ) (info : SymInfo) (name : List ℕ) (n : ℕ) (h : Hook) (t : Bool)
    → info.kind ≡ Equations → option_map string_bytes info.hook ≡ Some name
    → slice_get hooks n ≡ Some h → h.name ≡ name → fits_row sig marks (signature h) info ≡ t
    → HasKind sig axioms f info (kind_in_row sig marks info n (Some (signature h)))
by_fits sig axioms marks zip is f info name n h true function hooked there named e =
    rw e (hooked_kind function hooked
    (h, there, named, fits_true sig axioms marks zip is info n h there e))
by_fits sig axioms marks zip is f info name n h false function hooked there named e =
    rw e (without_hook function hooked (λ row other.
    let its : slice_get hooks row ≡ Some other.0 = other.1 in
    let same : Some row ≡ Some n =
    sym (own_number row other.0 its) ∙ ap hook_number (other.2 ∙ sym named)
    ∙ own_number n h there in
    let rows : row ≡ n = some_same row n same in
    false≢true (sym e
    ∙ fits_from sig axioms marks zip is info n h there
    (subst (λ (r : ℕ). FitsHook sig r info) rows other.3))))

row_is : (n : ℕ) (h : Hook) → slice_get hooks n ≡ Some h → hook_row n ≡ Some (signature h)
unfolding hook_row
row_is n h there = slice_get-map signature hooks n ∙ ap (option_map signature) there

by_number : (sig : Signature) (axioms : List AxiomDeclaration) (marks : List Bool)
    → HasPairs sig axioms → MarksTerms sig axioms marks
    → (f : List ℕ) (info : SymInfo) (name : List ℕ) (o : Option ℕ) → info.kind ≡ Equations
    → option_map string_bytes info.hook ≡ Some name → hook_number name ≡ o
    → HasKind sig axioms f info (kind_of_number sig marks info o)
by_number sig axioms marks zip is f info name None function hooked e =
    without_hook function hooked (no_such_hook sig info name e)
by_number sig axioms marks zip is f info name (Some n) function hooked e =
    let found = numbered_hook name n first_hook e in
    let row : hook_row n ≡ Some (signature found.0) = row_is n found.0 found.1 in
    subst
    (λ (o : Option HookSignature). HasKind sig axioms f info (kind_in_row sig marks info n o))
    (sym row)
    (by_fits sig axioms marks zip is f info name n found.0
    (fits_row sig marks (signature found.0) info) function hooked found.1 found.2 refl)

by_function : (sig : Signature) (axioms : List AxiomDeclaration) (marks : List Bool)
    → HasPairs sig axioms → MarksTerms sig axioms marks
    → (f : List ℕ) (info : SymInfo) (unreadable : Bool) (o : Option (String Global))
    → info.kind ≡ Equations → info.hook ≡ o → IsTrue unreadable ↔ Unreadables sig axioms f
    → HasKind sig axioms f info
    (kind_of_function sig marks info unreadable (option_map string_bytes o))
by_function sig axioms marks zip is f info true None function none same =
    let some = same.0 refl in by_unreadable function none some.1 some.2
by_function sig axioms marks zip is f info false None function none same =
    equations_kind function none (λ a there bad. false≢true (same.1 (a, there, bad)))
by_function sig axioms marks zip is f info unreadable (Some s) function hooked same =
    by_number sig axioms marks zip is f info (string_bytes s) (hook_number (string_bytes s))
    function (ap (option_map string_bytes) hooked) refl

pub defined : (k : SymKind) → is_defined_kind k ≡ true → k ≡ Equations
defined Injection e = absurd (false≢true e)
defined Ctor e = absurd (false≢true e)
defined Equations e = refl
defined (Hooked row) e = absurd (false≢true e)
defined Closed e = absurd (false≢true e)
defined NoKind e = absurd (false≢true e)

-- the final kind of a symbol
pub final_is : (sig : Signature) (axioms : List AxiomDeclaration) (marks : List Bool)
    → HasPairs sig axioms → MarksTerms sig axioms marks
    → (f : List ℕ) (info : SymInfo) (unreadable : Bool) → IsTrue unreadable
    ↔ Unreadables sig axioms f → HasKind sig axioms f info (final_kind sig marks info unreadable)
final_is sig axioms marks zip is f info unreadable same =
    by_case (is_defined_kind info.kind) refl
  where
    by_case : (t : Bool) → is_defined_kind info.kind ≡ t
        → HasKind sig axioms f info (final_kind sig marks info unreadable)
    by_case true e =
        rw e (by_function sig axioms marks zip is f info unreadable info.hook (defined info.kind e)
        refl same)
    by_case false e = rw e (as_declared (λ k. false≢true (sym e ∙ ap is_defined_kind k)))
