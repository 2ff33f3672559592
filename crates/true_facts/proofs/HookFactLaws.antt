-- Functions with hooks at values, as patterns of the logic.
use Rattle.std.proofs.Common.{◌≡◌, ◌≢◌, ◌↔◌, ℕ, List, map, Some}
use Rattle.std.proofs.Common.{None, Ok, Bool, false, refl, sym, ◌∙◌, ap}
use Rattle.std.proofs.Common.{subst}
use Rattle.std.specs.Prelude.{IsTrue}
use Rattle.std.proofs.lemmas.Bool.{false≢true}
use Rattle.ml_pat.specs.Patterns.{Pattern, constant}
use Rattle.term_core.specs.Terms.{DomainValue}
use Rattle.term_core.specs.Values.{scalar_value}
use Rattle.term_core.specs.HookValues.{hook_value}
use Rattle.term_core.specs.declared.values.Scalar.{Scalar}
use Rattle.term_core.specs.declared.values.Scalar.TheVariants.{Int, Bool as Truth}
use Rattle.term_core.specs.declared.ids.HookNo.{HookNo}
use Rattle.rule_core.specs.Sorting.{IsSymbol}
use Rattle.rule_core.specs.declared.signature.Signature.{Signature}
use Rattle.rule_core.specs.declared.signature.SymInfo.{SymInfo}
use Rattle.rule_core.specs.declared.signature.SymKind.TheVariants.{Hooked}
use Rattle.ml_image.specs.OwnAxioms.{sort_numbered}
use Rattle.ml_image.specs.Images.{symbol_image}
use Rattle.ml_image.proofs.HookLaws.{same_row}
use Rattle.ml_image.proofs.ImageLaws.{none_some, some_same}
use Rattle.ml_image.proofs.SentenceLaws.{one_symbol}
use Rattle.true_facts.specs.Only.{IsOnly}
use Rattle.true_facts.specs.Hooks.{IsHooked, IsComputed}
use Rattle.true_facts.proofs.OnlyLaws.{only_none, only_some, pair_same}

-- ---- whole numbers and truth values

scalar_same : (s t : Scalar) → scalar_value s ≡ scalar_value t → s ≡ t
scalar_same (Int m) (Int n) h = let same : m ≡ n = cc in ap Int same
scalar_same (Int m) (Truth b) h = absurd (cc)
scalar_same (Truth a) (Int n) h = absurd (cc)
scalar_same (Truth a) (Truth b) h = let same : a ≡ b = cc in ap Truth same

abbrev AtNumber : (ℕ × DomainValue → Type 0) → ℕ × Scalar → Type 0
AtNumber P x = P (x.0, scalar_value x.1)

pub number_absent : (P : ℕ × DomainValue → Type 0) → IsOnly P None → IsOnly (AtNumber P) None
number_absent P none =
    only_none (AtNumber P)
    (λ x h. none_some (x.0, scalar_value x.1) ((none (x.0, scalar_value x.1)).0 h))

pub number_other : (P : ℕ × DomainValue → Type 0) (t : ℕ × DomainValue) → IsOnly P (Some t)
    → ((s : Scalar) → t.1 ≢ scalar_value s) → IsOnly (AtNumber P) None
number_other P t one other =
    only_none (AtNumber P) (λ x h.
    let same : t ≡ (x.0, scalar_value x.1) =
    some_same t (x.0, scalar_value x.1) ((one (x.0, scalar_value x.1)).0 h) in
    other x.1 (ap (λ (y : ℕ × DomainValue). y.1) same))

pub number_only : (P : ℕ × DomainValue → Type 0) (t : ℕ × DomainValue) (s : Scalar)
    → IsOnly P (Some t) → t.1 ≡ scalar_value s → IsOnly (AtNumber P) (Some (t.0, s))
number_only P t s one is =
    only_some (AtNumber P) (t.0, s)
    (subst (λ (v : DomainValue). P (t.0, v)) is ((one t).1 refl))
    (λ x h.
    let same : t ≡ (x.0, scalar_value x.1) =
    some_same t (x.0, scalar_value x.1) ((one (x.0, scalar_value x.1)).0 h) in
    pair_same t.0 x.0 s x.1 (ap (λ (y : ℕ × DomainValue). y.0) same)
    (scalar_same s x.1 (sym is ∙ ap (λ (y : ℕ × DomainValue). y.1) same)))

-- ---- functions with hooks

pub hook_is : (sig : Signature) (names : List (List ℕ)) (p : Pattern) (n f : ℕ) (info : SymInfo)
    (hook : HookNo) (sorts : List ℕ) (sort : ℕ) → p ≡ constant n
    → IsOnly (λ g. symbol_image sig names g ≡ Some (constant n)) (Some f) → IsSymbol sig f info
    → info.kind ≡ Hooked hook → info.args.items ≡ map sort_numbered sorts
    → info.result ≡ sort_numbered sort
    → IsOnly (IsHooked sig names p sorts sort) (Some hook.0)
hook_is sig names p n f info hook sorts sort is one there kind takes makes =
    only_some (IsHooked sig names p sorts sort) hook.0 (
      f,
      info,
      (one f).1 refl ∙ ap (λ (q : Pattern). Some q) (sym is),
      record { there = there; takes = takes; makes = makes },
      kind,
    )
    (λ row h.
    let same : f ≡ h.0 =
    some_same f h.0 ((one h.0).0 (h.2 ∙ ap (λ (q : Pattern). Some q) is)) in
    let also : IsSymbol sig f h.1 =
    subst (λ (g : ℕ). IsSymbol sig g h.1) (sym same) h.3.there in
    let infos : h.1 ≡ info = one_symbol sig f h.1 info also there in
    sym (same_row row hook info.kind (ap (λ (i : SymInfo). i.kind) (sym infos) ∙ h.4) kind))

-- whether the hook that was found has the value
pub computed : (sig : Signature) (names : List (List ℕ)) (p : Pattern) (sorts : List ℕ)
    (vs : List DomainValue) (sort row : ℕ) (v : DomainValue) (b : Bool)
    → IsOnly (IsHooked sig names p sorts sort) (Some row)
    → IsTrue b ↔ (hook_value row vs ≡ Some (Ok v))
    → IsTrue b ↔ IsComputed sig names p sorts vs sort v
computed sig names p sorts vs sort row v b one test = (
  λ t. (row, (one row).1 refl, test.0 t),
  λ h.
      let same : row ≡ h.0 = some_same row h.0 ((one h.0).0 h.1) in
      test.1 (ap (λ (r : ℕ). hook_value r vs) same ∙ h.2),
)

pub not_computed : (sig : Signature) (names : List (List ℕ)) (p : Pattern) (sorts : List ℕ)
    (vs : List DomainValue) (sort : ℕ) (v : DomainValue)
    → IsOnly (IsHooked sig names p sorts sort) None
    → IsTrue false ↔ IsComputed sig names p sorts vs sort v
not_computed sig names p sorts vs sort v none =
    (λ t. absurd (false≢true t), λ h. absurd (none_some h.0 ((none h.0).0 h.1)))
