-- Two signatures that agree give each symbol the same kind under the same axioms, and it has one
-- kind only.
use Rattle.std.proofs.Common.{◌≡◌, ℕ, List, [], ◌∷◌, Option, Some, None, refl, sym, ap}
use Rattle.std.proofs.Common.{◌∙◌, subst}
use Rattle.std.specs.Prelude.{Contains, String, slice_get, option_map, string_bytes}
use Rattle.std.specs.Global.{Global}
use Rattle.std.specs.List.{AllZip}
use Rattle.term_core.specs.HookValues.{Kind, argument_kinds, result_kind}
use Rattle.hook_table.specs.Names.{hook_number}
use Rattle.kore_text.specs.Trees.{AxiomDeclaration}
use Rattle.rule_core.specs.HookSorts.{IsSortOf, RefersTo, ReferTo, FitsHook}
use Rattle.rule_core.specs.declared.signature.Signature.{Signature}
use Rattle.rule_core.specs.declared.signature.SortRef.{SortRef}
use Rattle.rule_core.specs.declared.signature.SymInfo.{SymInfo}
use Rattle.rule_core.specs.declared.signature.SymKind.{SymKind}
use Rattle.rule_core.specs.declared.signature.SymKind.TheVariants.{Equations, Hooked, Closed}
use Rattle.kore_sig.specs.SignatureLaws.{IsSameSymbol, AreSameSignature}
use Rattle.kore_rules.specs.EquationsAmong.{IsUnreadableAmong}
use Rattle.kore_rules.specs.Programs.{HasFittingHook, HasKind, as_declared, hooked_kind}
use Rattle.kore_rules.specs.Programs.{without_hook, by_unreadable, equations_kind}
use Rattle.kore_rules.proofs.AlikeMeanings.{entries_replaced}
use Rattle.kore_rules.proofs.AlikeLastResorts.{unreadable_carried}
use Rattle.kore_rules.proofs.AlikeSignatures.{IsAlike, Symbols, with_symbols, all_back}
use Rattle.kore_rules.proofs.AlikeSignatures.{signatures_back, entry_alike, alike_back}
use Rattle.kore_rules.proofs.HookLaws.{own_number}

-- ---- hooks

module _ (s : Signature) (xs : Symbols) (same : AllZip IsSameSymbol s.symbols xs) where
  abbrev t : Signature
  t = with_symbols s xs

  sort_alike : (k : Kind) (sort : ℕ) → IsSortOf s k sort → IsSortOf t k sort
  sort_alike k sort is = record {
    name = is.name;
    info = is.info;
    there = is.there;
    of_kind = is.of_kind;
    no_constructor =
        λ f made there kind result.
        let found : (d : List ℕ × SymInfo) × (slice_get s.symbols f ≡ Some d)
        × IsSameSymbol (there.0, made) d =
        entry_alike xs s.symbols f (there.0, made) (all_back s.symbols xs same) there.1 in
        is.no_constructor f found.0.1 (found.0.0, found.1) (sym found.2.kind ∙ kind)
        (sym found.2.result ∙ result);
    lowest = is.lowest;
  }

  refers_alike : (k : Kind) (of : SortRef) → RefersTo s k of → RefersTo t k of
  refers_alike k of h = (h.0, h.1, sort_alike k h.0 h.2)

  refer_alike : (ks : List Kind) (refs : List SortRef) → ReferTo s ks refs → ReferTo t ks refs
  refer_alike [] [] h = tt
  refer_alike [] (of ∷ refs) h = absurd h
  refer_alike (k ∷ ks) [] h = absurd h
  refer_alike (k ∷ ks) (of ∷ refs) h = (refers_alike k of h.0, refer_alike ks refs h.1)

  fits_alike : (row : ℕ) (info other : SymInfo) → IsAlike info other → FitsHook s row info
      → FitsHook t row other
  fits_alike row info other h fits = record {
    hook = fits.hook;
    there = fits.there;
    plain = sym h.params ∙ fits.plain;
    arguments =
        subst (ReferTo t (argument_kinds fits.hook.operation)) h.args
        (refer_alike (argument_kinds fits.hook.operation) info.args.items fits.arguments);
    result =
        subst (RefersTo t (result_kind fits.hook.operation)) h.result
        (refers_alike (result_kind fits.hook.operation) info.result fits.result);
  }

fitting_carried : (u v : Signature) → AreSameSignature u v → (info other : SymInfo)
    → IsAlike info other → (name : List ℕ) (row : ℕ) → HasFittingHook u info name row
    → HasFittingHook v other name row
fitting_carried u v same info other h name row (hook, there, named, fits) = (
  hook,
  there,
  named,
  subst (λ (sig : Signature). FitsHook sig row other) (entries_replaced u v same)
      (fits_alike u v.symbols same.symbols row info other h fits),
)

-- ---- kinds

unnamed : (o : Option (String Global)) → option_map string_bytes o ≡ None → o ≡ None
unnamed None e = refl
unnamed (Some name) e = absurd (let never : ⊥ = cc in never)

hook_none : (info other : SymInfo) → IsAlike info other → info.hook ≡ None → other.hook ≡ None
hook_none info other h none =
    unnamed other.hook (sym h.hook ∙ ap (option_map string_bytes) none)

pub kind_carried : (u v : Signature) → AreSameSignature u v → (axioms : List AxiomDeclaration)
    (f : List ℕ) (info other : SymInfo) → IsAlike info other → {k : SymKind}
    → HasKind u axioms f info k → HasKind v axioms f other k
kind_carried u v same axioms f info other h (as_declared differs) =
    subst (HasKind v axioms f other) (sym h.kind) (as_declared (λ k. differs (h.kind ∙ k)))
kind_carried u v same axioms f info other h (hooked_kind {name = name} {row = row} kind hook fits) =
    hooked_kind (sym h.kind ∙ kind) (sym h.hook ∙ hook)
    (fitting_carried u v same info other h name row fits)
kind_carried u v same axioms f info other h (without_hook {name = name} kind hook none) =
    without_hook (sym h.kind ∙ kind) (sym h.hook ∙ hook)
    (λ row fits. none row (fitting_carried v u (signatures_back u v same) other info
    (alike_back info other h) name row fits))
kind_carried u v same axioms f info other h (by_unreadable {a = a} kind none there bad) =
    by_unreadable (sym h.kind ∙ kind) (hook_none info other h none) there
    (unreadable_carried u v same axioms f a bad)
kind_carried u v same axioms f info other h (equations_kind kind none good) =
    equations_kind (sym h.kind ∙ kind) (hook_none info other h none)
    (λ a there bad. good a there (unreadable_carried v u (signatures_back u v same) axioms f a bad))

some_same : {A : Type 0} (x y : A) → Some x ≡ Some y → x ≡ y
some_same x y e = cc

-- a declaration with a fitting hook has no other fitting hook
row_one : (sig : Signature) (info : SymInfo) (m n : List ℕ) (i j : ℕ)
    → option_map string_bytes info.hook ≡ Some m → option_map string_bytes info.hook ≡ Some n
    → HasFittingHook sig info m i → HasFittingHook sig info n j → i ≡ j
row_one sig info m n i j a b (h, there, named, fits) (g, too, called, fit) =
    some_same i j (sym (own_number i h there)
    ∙ ap hook_number (named ∙ some_same m n (sym a ∙ b) ∙ sym called) ∙ own_number j g too)

some_none : (info : SymInfo) {name : List ℕ} → option_map string_bytes info.hook ≡ Some name
    → info.hook ≡ None → ⊥
some_none info {name} some none =
    let both : Some name ≡ None = sym some ∙ ap (option_map string_bytes) none in
    let never : ⊥ = cc in never

module _ (sig : Signature) (axioms : List AxiomDeclaration) (f : List ℕ) (info : SymInfo) where
  declared_one : (info.kind ≡ Equations → ⊥) → {k : SymKind} → HasKind sig axioms f info k
      → info.kind ≡ k
  declared_one differs (as_declared also) = refl
  declared_one differs (hooked_kind kind hook fits) = absurd (differs kind)
  declared_one differs (without_hook kind hook none) = absurd (differs kind)
  declared_one differs (by_unreadable kind none there bad) = absurd (differs kind)
  declared_one differs (equations_kind kind none good) = absurd (differs kind)

  hooked_one : (name : List ℕ) (row : ℕ) → info.kind ≡ Equations
      → option_map string_bytes info.hook ≡ Some name → HasFittingHook sig info name row
      → {k : SymKind} → HasKind sig axioms f info k → Hooked (record { 0 = row }) ≡ k
  hooked_one name row kind hook fits (as_declared differs) = absurd (differs kind)
  hooked_one name row kind hook fits (hooked_kind {name = other} {row = at} also named too) =
      ap (λ (n : ℕ). Hooked (record { 0 = n })) (row_one sig info name other row at hook named fits
      too)
  hooked_one name row kind hook fits (without_hook {name = other} also named none) =
      absurd (none row (subst (λ (n : List ℕ). HasFittingHook sig info n row)
      (some_same name other (sym hook ∙ named)) fits))
  hooked_one name row kind hook fits (by_unreadable also none there bad) =
      absurd (some_none info hook none)
  hooked_one name row kind hook fits (equations_kind also none good) =
      absurd (some_none info hook none)

  -- a function that is closed, because its hook does not fit or because it has no hook and an
  -- equation that is not readable
  unhooked_one : (name : List ℕ) → info.kind ≡ Equations
      → option_map string_bytes info.hook ≡ Some name
      → ((row : ℕ) → HasFittingHook sig info name row → ⊥) → {k : SymKind}
      → HasKind sig axioms f info k → Closed ≡ k
  unhooked_one name kind hook none (as_declared differs) = absurd (differs kind)
  unhooked_one name kind hook none (hooked_kind {name = other} {row = row} also named fits) =
      absurd (none row (subst (λ (n : List ℕ). HasFittingHook sig info n row)
      (some_same other name (sym named ∙ hook)) fits))
  unhooked_one name kind hook none (without_hook also named never) = refl
  unhooked_one name kind hook none (by_unreadable also without there bad) = refl
  unhooked_one name kind hook none (equations_kind also without good) =
      absurd (some_none info hook without)

  unread_one : (a : AxiomDeclaration) → info.kind ≡ Equations → info.hook ≡ None
      → Contains axioms a → IsUnreadableAmong sig axioms f a → {k : SymKind} → HasKind sig axioms f info k
      → Closed ≡ k
  unread_one a kind none there bad (as_declared differs) = absurd (differs kind)
  unread_one a kind none there bad (hooked_kind also hook fits) =
      absurd (some_none info hook none)
  unread_one a kind none there bad (without_hook also hook never) = refl
  unread_one a kind none there bad (by_unreadable also without has unread) = refl
  unread_one a kind none there bad (equations_kind also without good) = absurd (good a there bad)

  equations_one : info.kind ≡ Equations → info.hook ≡ None
      → ((a : AxiomDeclaration) → Contains axioms a → IsUnreadableAmong sig axioms f a → ⊥) → {k : SymKind}
      → HasKind sig axioms f info k → Equations ≡ k
  equations_one kind none good (as_declared differs) = absurd (differs kind)
  equations_one kind none good (hooked_kind also hook fits) =
      absurd (some_none info hook none)
  equations_one kind none good (without_hook also hook never) =
      absurd (some_none info hook none)
  equations_one kind none good (by_unreadable {a = a} also without there bad) =
      absurd (good a there bad)
  equations_one kind none good (equations_kind also without well) = refl

  -- a symbol has one kind
  pub kind_one : {j k : SymKind} → HasKind sig axioms f info j → HasKind sig axioms f info k
      → j ≡ k
  kind_one (as_declared differs) b = declared_one differs b
  kind_one (hooked_kind {name = name} {row = row} kind hook fits) b =
      hooked_one name row kind hook fits b
  kind_one (without_hook {name = name} kind hook none) b = unhooked_one name kind hook none b
  kind_one (by_unreadable {a = a} kind none there bad) b = unread_one a kind none there bad b
  kind_one (equations_kind kind none good) b = equations_one kind none good b
