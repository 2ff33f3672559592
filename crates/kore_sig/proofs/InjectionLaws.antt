-- The declaration of the injection, and those of constructors.
use Rattle.std.proofs.Common.{◌≡◌, ℕ, zero, suc, Bool, true, false, cond, List, [], ◌∷◌, map}
use Rattle.std.proofs.Common.{length, slice_get, Option, Some, None, refl, ap, sym, ◌∙◌, subst}
use Rattle.std.proofs.Common.{arith}
use Rattle.std.proofs.lemmas.Bool.Decides.{nat_tests}
use Rattle.std.specs.Prelude.{option_map, find, ◌&&◌, not, ◌==◌, if◌then◌else◌, codes}
use Rattle.std.specs.List.{AllZip}
use Rattle.std.specs.Str.{bytes_eq}
use Rattle.std.proofs.lemmas.Slice.Eq.{bytes_eq-Decides}
use Rattle.rule_core.specs.DistinctNames.{names_of, IsNoneOf, AreDistinct}
use Rattle.rule_core.specs.WellSorted.{IsInjectionDeclaration}
use Rattle.rule_core.specs.declared.signature.SortInfo.{SortInfo}
use Rattle.rule_core.specs.declared.signature.SymInfo.{SymInfo}
use Rattle.rule_core.specs.declared.signature.SortRef.{SortRef}
use Rattle.rule_core.specs.declared.signature.SortRef.TheVariants.{Param}
use Rattle.rule_core.specs.declared.signature.SymKind.TheVariants.{Injection, Ctor, Equations}
use Rattle.rule_core.specs.declared.signature.SymKind.TheVariants.{Closed, NoKind}
use Rattle.kore_text.specs.Trees.{SortTree, sort_parameter, sort_applied, SymbolDeclaration}
use Rattle.kore_sig.specs.Attributes.{has_attribute}
use Rattle.kore_sig.specs.Signatures.{IsSymbolEntry}
use Rattle.kore_sig.specs.SortReferences.{sort_reference}
use Rattle.kore_sig.specs.SymbolKinds.{is_parameter, goes_from_to, has_injection_form, injection_of}
use Rattle.kore_sig.specs.SymbolKinds.{is_named_so, kind_of}

-- ---- what a kind says

plain_by : (a b c z k : Bool)
    → (if a then Injection else if b then (if k then Equations else Closed) else if c && z then Ctor
    else NoKind) ≡ Ctor → z ≡ true
plain_by true b c z k e = absurd (let no : ⊥ = cc in no)
plain_by false true c z true e = absurd (let no : ⊥ = cc in no)
plain_by false true c z false e = absurd (let no : ⊥ = cc in no)
plain_by false false true true k e = refl
plain_by false false true false k e = absurd (let no : ⊥ = cc in no)
plain_by false false false z k e = absurd (let no : ⊥ = cc in no)

named_by : (a b c z k : Bool)
    → (if a then Injection else if b then (if k then Equations else Closed) else if c && z then Ctor
    else NoKind) ≡ Injection → a ≡ true
named_by true b c z k e = refl
named_by false true c z true e = absurd (let no : ⊥ = cc in no)
named_by false true c z false e = absurd (let no : ⊥ = cc in no)
named_by false false true true k e = absurd (let no : ⊥ = cc in no)
named_by false false true false k e = absurd (let no : ⊥ = cc in no)
named_by false false false z k e = absurd (let no : ⊥ = cc in no)

zero_by : (n : ℕ) → (n == 0) ≡ true → n ≡ 0
zero_by n e = grind (arith, nat_tests)

pub constructor_plain : (i : Option (List ℕ)) (d : SymbolDeclaration) → kind_of i d ≡ Ctor
    → length d.params ≡ 0
constructor_plain i d e =
    zero_by (length d.params) (plain_by (is_named_so i d.name)
    (has_attribute (codes "function") d.attributes)
    (has_attribute (codes "constructor") d.attributes) (length d.params == 0)
    (length d.params == 0) e)

named_found : (o : Option SymbolDeclaration) (name : List ℕ)
    → is_named_so (option_map (λ (d : SymbolDeclaration). d.name) o) name ≡ true
    → (d : SymbolDeclaration) × (o ≡ Some d) × (name ≡ d.name)
named_found None name e = absurd (let no : ⊥ = cc in no)
named_found (Some d) name e = (d, refl, sym ((bytes_eq-Decides d.name name).0 e))

-- the injection symbol is the first symbol of its form
injection_found : (ds : List SymbolDeclaration) (d : SymbolDeclaration)
    → kind_of (injection_of ds) d ≡ Injection
    → (x : SymbolDeclaration) × (find has_injection_form ds ≡ Some x) × (d.name ≡ x.name)
injection_found ds d e =
    named_found (find has_injection_form ds) d.name (named_by (is_named_so (injection_of ds) d.name)
    (has_attribute (codes "function") d.attributes)
    (has_attribute (codes "constructor") d.attributes) (length d.params == 0)
    (length d.params == 0) e)

-- ---- one declaration with a name

none_at : (n : List ℕ) (es : List (List ℕ × SymInfo)) (f : ℕ) (e : List ℕ × SymInfo)
    → IsNoneOf n (names_of es) → slice_get es f ≡ Some e → n ≡ e.0 → ⊥
none_at n [] f e none at same = let no : ⊥ = cc in no
none_at n (x ∷ es) zero e none at same =
    let is : x ≡ e = cc in none.0 (same ∙ ap (λ (y : List ℕ × SymInfo). y.0) (sym is))
none_at n (x ∷ es) (suc f) e none at same = none_at n es f e none.1 at same

not_found : (sorts : List (List ℕ × SortInfo)) (i : Option (List ℕ)) (ac : List (List ℕ))
    (ds : List SymbolDeclaration) (es : List (List ℕ × SymInfo)) (n : List ℕ)
    (d : SymbolDeclaration) → AllZip (IsSymbolEntry sorts i ac) ds es → IsNoneOf n (names_of es)
    → find has_injection_form ds ≡ Some d → n ≡ d.name → ⊥
not_found sorts i ac [] es n d z none e same = let no : ⊥ = cc in no
not_found sorts i ac (x ∷ ds) [] n d z none e same = absurd z
not_found sorts i ac (x ∷ ds) (y ∷ es) n d z none e same =
    go (not_found sorts i ac ds es n d z.1 none.1) (has_injection_form x) e
  where
    go : ((find has_injection_form ds ≡ Some d) → n ≡ d.name → ⊥) → (b : Bool)
        → cond b (Some x) (find has_injection_form ds) ≡ Some d → ⊥
    go rest true h =
        let is : x ≡ d = cc in
        none.0 (same ∙ ap (λ (w : SymbolDeclaration). w.name) (sym is) ∙ sym z.0.name)
    go rest false h = rest h same

found_entry : (sorts : List (List ℕ × SortInfo)) (i : Option (List ℕ)) (ac : List (List ℕ))
    (ds : List SymbolDeclaration) (es : List (List ℕ × SymInfo)) (f : ℕ) (e : List ℕ × SymInfo)
    (d : SymbolDeclaration) → AllZip (IsSymbolEntry sorts i ac) ds es
    → AreDistinct (names_of es) → slice_get es f ≡ Some e → find has_injection_form ds ≡ Some d
    → e.0 ≡ d.name → (has_injection_form d ≡ true) × IsSymbolEntry sorts i ac d e
found_entry sorts i ac [] es f e d z distinct at found same = absurd (let no : ⊥ = cc in no)
found_entry sorts i ac (x ∷ ds) [] f e d z distinct at found same = absurd z
found_entry sorts i ac (x ∷ ds) (y ∷ es) zero e d z distinct at found same =
    go (has_injection_form x) refl found
  where
    here : y ≡ e
    here = cc

    go : (b : Bool) → has_injection_form x ≡ b
        → cond b (Some x) (find has_injection_form ds) ≡ Some d
        → (has_injection_form d ≡ true) × IsSymbolEntry sorts i ac d e
    go true t h =
        let is : x ≡ d = cc in
        subst (λ (w : SymbolDeclaration).
        (has_injection_form w ≡ true) × IsSymbolEntry sorts i ac w e) is
        (t, subst (IsSymbolEntry sorts i ac x) here z.0)
    go false t h =
        absurd (not_found sorts i ac ds es y.0 d z.1 distinct.0 h
        (ap (λ (w : List ℕ × SymInfo). w.0) here ∙ same))
found_entry sorts i ac (x ∷ ds) (y ∷ es) (suc f) e d z distinct at found same =
    go (λ h. found_entry sorts i ac ds es f e d z.1 distinct.1 at h same) (has_injection_form x)
    refl found
  where
    go : ((find has_injection_form ds ≡ Some d)
        → (has_injection_form d ≡ true) × IsSymbolEntry sorts i ac d e) → (b : Bool)
        → has_injection_form x ≡ b → cond b (Some x) (find has_injection_form ds) ≡ Some d
        → (has_injection_form d ≡ true) × IsSymbolEntry sorts i ac d e
    go rest true t h =
        let is : x ≡ d = cc in
        absurd (none_at y.0 es f e distinct.0 at
        (z.0.name ∙ ap (λ (w : SymbolDeclaration). w.name) is ∙ sym same))
    go rest false t h = rest h

-- ---- the form

both : (a b : Bool) → (a && b) ≡ true → (a ≡ true) × (b ≡ true)
both true b e = (refl, e)
both false b e = absurd (let no : ⊥ = cc in no)

first_place : (b : Bool) (o : Option ℕ) (r : SortRef) → b ≡ true
    → Some r ≡ option_map Param (cond b (Some 0) o) → r ≡ Param 0
first_place true o r t e = cc
first_place false o r t e = absurd (let no : ⊥ = cc in no)

second_place : (a b : Bool) (r : SortRef) → (a ≡ true → ⊥) → b ≡ true
    → Some r ≡ option_map Param (cond a (Some 0) (cond b (Some 1) None)) → r ≡ Param 1
second_place true b r never t e = absurd (never refl)
second_place false true r never t e = cc
second_place false false r never t e = absurd (let no : ⊥ = cc in no)

untrue : (b : Bool) → not b ≡ true → b ≡ true → ⊥
untrue true e t = let no : ⊥ = cc in no
untrue false e t = let no : ⊥ = cc in no

never_by : (a b : Bool) → (a && (false && b)) ≡ true → ⊥
never_by true b e = let no : ⊥ = cc in no
never_by false b e = let no : ⊥ = cc in no

never_after : (a b : Bool) → (a && (b && false)) ≡ true → ⊥
never_after true true e = let no : ⊥ = cc in no
never_after true false e = let no : ⊥ = cc in no
never_after false b e = let no : ⊥ = cc in no

form_read : (sorts : List (List ℕ × SortInfo)) (params : List (List ℕ)) (args : List SortTree)
    (result : SortTree) (rs : List SortRef) (r : SortRef)
    → goes_from_to params args result ≡ true → map Some rs ≡ map (sort_reference sorts params) args
    → Some r ≡ sort_reference sorts params result
    → (length params ≡ 2) × (rs ≡ Param 0 ∷ []) × (r ≡ Param 1)
form_read sorts [] args result rs r e h k = absurd (let no : ⊥ = cc in no)
form_read sorts (from ∷ []) args result rs r e h k = absurd (let no : ⊥ = cc in no)
form_read sorts (from ∷ (to ∷ (p ∷ ps))) args result rs r e h k = absurd (let no : ⊥ = cc in no)
form_read sorts (from ∷ (to ∷ [])) [] result rs r e h k = absurd (let no : ⊥ = cc in no)
form_read sorts (from ∷ (to ∷ [])) (s ∷ (t ∷ ts)) result rs r e h k = absurd (let no : ⊥ = cc in no)
form_read sorts (from ∷ (to ∷ [])) (sort_applied at n ss ∷ []) result rs r e h k =
    absurd (never_by (not (bytes_eq from to)) (is_parameter to result) e)
form_read sorts (from ∷ (to ∷ [])) (sort_parameter at n ∷ []) (sort_applied bt m ss) rs r e h k =
    absurd (never_after (not (bytes_eq from to)) (bytes_eq n from) e)
form_read sorts (from ∷ (to ∷ [])) (sort_parameter at n ∷ []) (sort_parameter bt m) [] r e h k =
    absurd (let no : ⊥ = cc in no)
form_read sorts (from ∷ (to ∷ [])) (sort_parameter at n ∷ []) (sort_parameter bt m) (a ∷ (b ∷ rs)) r
    e h k =
    absurd (let no : ⊥ = cc in no)
form_read sorts (from ∷ (to ∷ [])) (sort_parameter at n ∷ []) (sort_parameter bt m) (a ∷ []) r e h
    k =
    let x = both (not (bytes_eq from to)) (bytes_eq n from && bytes_eq m to) e in
    let y = both (bytes_eq n from) (bytes_eq m to) x.1 in
    let here : Some a ≡ option_map Param
    (cond (bytes_eq n from) (Some 0) (cond (bytes_eq n to) (Some 1) None)) =
    cc in
    let apart : bytes_eq m from ≡ true → ⊥ =
    λ t. untrue (bytes_eq from to) x.0 ((bytes_eq-Decides from to).1
    (sym ((bytes_eq-Decides m from).0 t) ∙ (bytes_eq-Decides m to).0 y.1)) in (
      refl,
      ap (λ (q : SortRef). q ∷ [])
          (first_place (bytes_eq n from) (cond (bytes_eq n to) (Some 1) None) a y.0 here),
      second_place (bytes_eq m from) (bytes_eq m to) r apart y.1 k,
    )

-- the injection symbol has the form of an injection
pub injection_declared : (sorts : List (List ℕ × SortInfo)) (ac : List (List ℕ))
    (ds all : List SymbolDeclaration) (es : List (List ℕ × SymInfo)) (f : ℕ)
    (e : List ℕ × SymInfo) (d : SymbolDeclaration)
    → AllZip (IsSymbolEntry sorts (injection_of all) ac) ds es → AreDistinct (names_of es)
    → slice_get es f ≡ Some e → find has_injection_form ds ≡ Some d → e.0 ≡ d.name
    → IsInjectionDeclaration e.1
injection_declared sorts ac ds all es f e d z distinct at found same =
    let x = found_entry sorts (injection_of all) ac ds es f e d z distinct at found same in
    let form =
    both (has_attribute (codes "sortInjection") d.attributes)
    (goes_from_to d.params d.args d.result) x.0 in
    let read =
    form_read sorts d.params d.args d.result e.1.args.items e.1.result form.1 x.1.args
    x.1.result in
    record { parameters = x.1.params ∙ read.0; argument = read.1; result = read.2 }

-- each entry is that of a declaration
pub entry_of : (sorts : List (List ℕ × SortInfo)) (i : Option (List ℕ)) (ac : List (List ℕ))
    (ds : List SymbolDeclaration) (es : List (List ℕ × SymInfo)) (f : ℕ) (e : List ℕ × SymInfo)
    → AllZip (IsSymbolEntry sorts i ac) ds es → slice_get es f ≡ Some e
    → (d : SymbolDeclaration) × IsSymbolEntry sorts i ac d e
entry_of sorts i ac ds [] f e h at = absurd (let never : ⊥ = cc in never)
entry_of sorts i ac [] (x ∷ es) f e h at = absurd h
entry_of sorts i ac (d ∷ ds) (x ∷ es) zero e h at =
    let same : x ≡ e = cc in (d, subst (IsSymbolEntry sorts i ac d) same h.0)
entry_of sorts i ac (d ∷ ds) (x ∷ es) (suc f) e h at = entry_of sorts i ac ds es f e h.1 at

pub injections_declared : (sorts : List (List ℕ × SortInfo)) (ac : List (List ℕ))
    (ds : List SymbolDeclaration) (es : List (List ℕ × SymInfo)) (f : ℕ) (e : List ℕ × SymInfo)
    → AllZip (IsSymbolEntry sorts (injection_of ds) ac) ds es → AreDistinct (names_of es)
    → slice_get es f ≡ Some e → e.1.kind ≡ Injection → IsInjectionDeclaration e.1
injections_declared sorts ac ds es f e z distinct at is =
    let d = entry_of sorts (injection_of ds) ac ds es f e z at in
    let x = injection_found ds d.0 (sym d.1.kind ∙ is) in
    injection_declared sorts ac ds ds es f e x.0 z distinct at x.1 (d.1.name ∙ x.2)

pub constructors_plain : (sorts : List (List ℕ × SortInfo)) (i : Option (List ℕ))
    (ac : List (List ℕ)) (ds : List SymbolDeclaration) (es : List (List ℕ × SymInfo)) (f : ℕ)
    (e : List ℕ × SymInfo) → AllZip (IsSymbolEntry sorts i ac) ds es → slice_get es f ≡ Some e
    → e.1.kind ≡ Ctor → e.1.params ≡ 0
constructors_plain sorts i ac ds es f e z at is =
    let d = entry_of sorts i ac ds es f e z at in
    d.1.params ∙ constructor_plain i d.0 (sym d.1.kind ∙ is)
