-- The statements of a well-sorted theory have images.
use Rattle.std.proofs.Common.{◌≡◌, ◌≢◌, ◌≤◌, ◌<◌, ◌+◌, ◌^◌, ◌⊎◌, ℕ, Bool, true, false, cond, zero}
use Rattle.std.proofs.Common.{suc}
use Rattle.std.proofs.Common.{List, [], ◌∷◌, Option, Some, None, length, map, slice_get, inl, inr}
use Rattle.std.proofs.Common.{refl, sym, ◌∙◌, ap, subst, arith}
use Rattle.std.specs.Prelude.{IsSome, IfSome, All, Contains, slice_index_or}
use Rattle.std.specs.List.{position_from}
use Rattle.std.proofs.lemmas.List.Elements.{All-contains}
use Rattle.std.proofs.lemmas.Option.{slice_get_within}
use Rattle.term_core.specs.Terms.{truth}
use Rattle.term_core.specs.Patterns.{Pattern, Patterns, variable, domain_value, application}
use Rattle.term_core.specs.Patterns.{injection, call, no_pattern, more_patterns}
use Rattle.rule_core.specs.Rules.{RewriteRule, Equation, Guard}
use Rattle.rule_core.specs.Theories.{equations_of}
use Rattle.rule_core.specs.Subsorts.{IsBelow, by_pair, by_chain}
use Rattle.rule_core.specs.Sorting.{HasSort, HaveSorts, HasInjection, IsSymbol, IsValueOf}
use Rattle.rule_core.specs.Sorting.{sort_at, AreSorts}
use Rattle.rule_core.specs.WellSorted.{IsReference, IsDeclaration, IsPair, IsSignature, IsCondition}
use Rattle.rule_core.specs.WellSorted.{HaveNames, IsRuleOf, IsEquationOf}
use Rattle.rule_core.specs.NamedParts.{Name, part_of}
use Rattle.rule_core.specs.declared.signature.Signature.{Signature}
use Rattle.rule_core.specs.declared.signature.SortKind.{SortKind}
use Rattle.rule_core.specs.declared.signature.SymInfo.{SymInfo}
use Rattle.rule_core.specs.declared.signature.SortRef.{SortRef}
use Rattle.rule_core.specs.declared.signature.SortRef.TheVariants.{Param, Sort}
use Rattle.ml_image.specs.Images.{injection_symbol}
use Rattle.rule_core.specs.KindTests.{is_injection}
use Rattle.ml_image.specs.Premises.{sort_of, made_sort}
use Rattle.ml_image.specs.OwnAxioms.{sort_numbered}
use Rattle.ml_image.specs.HasImages as own
use Rattle.ml_image.specs.HasImages.{HasImage, HaveImages, HasRuleImage, HasEquationImage}
use Rattle.ml_image.specs.HasImages.{HasParameters, HasTotality, MakesTerms, count_of}
use Rattle.ml_image.specs.HasImages.{HasPremise, IsGuard, after_guards}
use Rattle.ml_image.specs.ConditionLaws.{SortedHasImage, RuleHasImage, EquationHasImage}
use Rattle.ml_image.specs.ConditionLaws.{ConstructorHasTotality}
use Rattle.ml_image.proofs.ImageLaws.{none_some, some_same}

-- ---- what exists

position_some : {E : Type 0} (g : E → Bool) (i : ℕ) (es : List E) (n : ℕ) (e : E)
    → slice_get es n ≡ Some e → g e ≡ true → IsSome (position_from g i es)
position_some g i [] n e there is = absurd (none_some e there)
position_some g i (x ∷ es) zero e there is =
    subst (λ (b : Bool). IsSome (cond b (Some i) (position_from g (i + 1) es)))
    (sym (ap g (some_same x e there) ∙ is)) refl
position_some g i (x ∷ es) (suc n) e there is = go (g x) (position_some g (i + 1) es n e there is)
  where
    go : (b : Bool) → IsSome (position_from g (i + 1) es)
        → IsSome (cond b (Some i) (position_from g (i + 1) es))
    go true h = refl
    go false h = h

has_injection_symbol : (sig : Signature) → HasInjection sig → IsSome (injection_symbol sig)
has_injection_symbol sig (f, info, there, injects) =
    position_some (λ (e : List ℕ × SymInfo). is_injection e.1.kind) 0 sig.symbols f (there.0, info)
    there.1 (ap is_injection injects)

symbol_within : (sig : Signature) (f : ℕ) (info : SymInfo) → IsSymbol sig f info
    → f < length sig.symbols
symbol_within sig f info there = slice_get_within sig.symbols f (there.0, info) there.1

below_within : (sig : Signature) (a b : ℕ) → IsSignature sig → IsBelow sig.subsorts a b
    → (a < length sig.sorts) × (b < length sig.sorts)
below_within sig a b ok (by_pair stated) =
    All-contains (IsPair sig) sig.subsorts (a, b) ok.pairs stated
below_within sig a b ok (by_chain {b = m} stated rest) = (
  (All-contains (IsPair sig) sig.subsorts (a, m) ok.pairs stated).0,
  (below_within sig m b ok rest).1,
)

-- ---- patterns

mutual
  sorted_has : (sig : Signature) (vars : List ℕ) (p : Pattern) (sort : ℕ) → IsSignature sig
      → HasSort sig vars p sort → HasImage sig (length vars) p
  sorted_has sig vars (variable x) sort ok h = slice_get_within vars x sort h
  sorted_has sig vars (domain_value s v) sort ok h = h.1
  sorted_has sig vars (application f ps) sort ok h =
      (symbol_within sig f h.0 h.1, all_sorted_have sig vars [] ps h.0.args.items ok h.4)
  sorted_has sig vars (injection a b p) sort ok h =
      let w : (a < length sig.sorts) × (b < length sig.sorts) = below_within sig a b ok h.2 in
      (has_injection_symbol sig h.0, (w.0, (w.1, tt)), sorted_has sig vars p a ok h.3)
  sorted_has sig vars (call f ss ps) sort ok h =
      (symbol_within sig f h.0 h.1, h.4, all_sorted_have sig vars ss ps h.0.args.items ok h.6)

  all_sorted_have : (sig : Signature) (vars sorts : List ℕ) (ps : Patterns) (refs : List SortRef)
      → IsSignature sig → HaveSorts sig vars sorts ps refs → HaveImages sig (length vars) ps
  all_sorted_have sig vars sorts no_pattern refs ok h = tt
  all_sorted_have sig vars sorts (more_patterns p ps) [] ok h = absurd h
  all_sorted_have sig vars sorts (more_patterns p ps) (r ∷ refs) ok h =
      (sorted_has sig vars p h.0 ok h.2, all_sorted_have sig vars sorts ps refs ok h.3)

pub sorted_has_image : SortedHasImage
sorted_has_image sig vars p sort ok h = sorted_has sig vars p sort ok h

-- ---- conditions

made_there : (sig : Signature) (f : ℕ) (info : SymInfo) (sorts : List ℕ) → IsSymbol sig f info
    → made_sort sig f sorts ≡ sort_at sorts info.result
made_there sig f info sorts there = rw there.1 refl

sort_of-sorted : (sig : Signature) (vars : List ℕ) (p : Pattern) (sort : ℕ)
    → HasSort sig vars p sort → sort_of sig vars p ≡ Some sort
sort_of-sorted sig vars (variable x) sort h = h
sort_of-sorted sig vars (domain_value s v) sort h = ap (λ (n : ℕ). Some n) h.0
sort_of-sorted sig vars (application f ps) sort h = made_there sig f h.0 [] h.1 ∙ h.3
sort_of-sorted sig vars (injection a b p) sort h = ap (λ (n : ℕ). Some n) h.1
sort_of-sorted sig vars (call f ss ps) sort h = made_there sig f h.0 ss h.1 ∙ h.5

condition_met : (sig : Signature) (vars : List ℕ) (ps : Patterns) (names : List Name)
    (o : Option Pattern) → IsSignature sig → IfSome o (IsCondition sig vars ps names)
    → own.IsCondition sig vars o
condition_met sig vars ps names None ok h = tt
condition_met sig vars ps names (Some p) ok (sort, name, info, there, kind, sorted, only) = record {
  image = sorted_has sig vars p sort ok sorted;
  sort = sort;
  sorted = sort_of-sorted sig vars p sort sorted;
  truths = (name, info, there, subst (λ (k : SortKind). IsValueOf k (truth true)) (sym kind) tt);
}

are_sorts : (sig : Signature) (ss : List ℕ) → All (λ s. s < length sig.sorts) ss → AreSorts sig ss
are_sorts sig [] h = tt
are_sorts sig (s ∷ ss) h =
    (h 0 0 (omega arith), are_sorts sig ss (λ k d low. h (suc k) d (omega (arith, low))))

-- ---- names

pub names_below : (sig : Signature) (vars : List ℕ) (ps : Patterns) (names : List Name)
    → HaveNames sig vars ps names → own.AreNamesBelow (length vars) names
names_below sig vars ps names h k d low =
    let n : Name = slice_index_or names k d in
    let w : (p : Pattern) × (sort : ℕ) × (part_of ps n.place ≡ Some p) × HasSort sig vars p sort
    × (slice_get vars n.variable ≡ Some sort) = h.sorted k d low in
    slice_get_within vars n.variable w.1 w.4

-- ---- rules

nothing_in : {P : Type 0} (rules : List RewriteRule) (r : RewriteRule) → rules ≡ []
    → Contains rules r → P
nothing_in [] r none there = absurd (omega (arith, there.1))
nothing_in (q ∷ rules) r none there = let no : ⊥ = cc in absurd no

pub rule_has_image : RuleHasImage
rule_has_image theory r ok there few = go ok.one_sort
  where
    go : (theory.rules ≡ []) ⊎ ((sort : ℕ) × All (IsRuleOf theory.sig sort) theory.rules)
        → HasRuleImage theory.sig r
    go (inl none) = nothing_in theory.rules r none there
    go (inr (sort, each)) =
        let is : IsRuleOf theory.sig sort r =
        All-contains (IsRuleOf theory.sig sort) theory.rules r each there in
        record {
          few = few;
          sorts = are_sorts theory.sig r.variables is.variables;
          left = sorted_has theory.sig r.variables r.left sort ok.signature is.left;
          names = names_below theory.sig r.variables (more_patterns r.left no_pattern) r.names
              is.names;
          condition =
              condition_met theory.sig r.variables (more_patterns r.left no_pattern) r.names
              r.condition ok.signature is.condition;
          right = sorted_has theory.sig r.variables r.right sort ok.signature is.right;
        }

-- ---- declarations without parameters

-- the sorts that references without parameters name
names_of : (sig : Signature) (refs : List SortRef) → All (IsReference sig 0) refs
    → (sorts : List ℕ) × (refs ≡ map sort_numbered sorts) × AreSorts sig sorts
names_of sig [] each = ([], refl, tt)
names_of sig (Param i ∷ refs) each = absurd (omega (arith, each 0 (Param i) (omega arith)))
names_of sig (Sort s ∷ refs) each =
    let w : (sorts : List ℕ) × (refs ≡ map sort_numbered sorts) × AreSorts sig sorts =
    names_of sig refs (λ k d low. each (suc k) d (omega (arith, low))) in
    (s.0 ∷ w.0, ap (λ (rs : List SortRef). Sort s ∷ rs) w.1, (each 0 (Sort s) (omega arith), w.2))

name_of : (sig : Signature) (r : SortRef) → IsReference sig 0 r
    → (s : ℕ) × (r ≡ sort_numbered s) × (s < length sig.sorts)
name_of sig (Param i) is = absurd (omega (arith, is))
name_of sig (Sort s) is = (s.0, refl, is)

length-named : (sorts : List ℕ) → length (map sort_numbered sorts) ≡ length sorts
length-named [] = refl
length-named (s ∷ sorts) = ap suc (length-named sorts)

pub constructor_has_totality : ConstructorHasTotality
constructor_has_totality sig f info ok there constructs few =
    let none : info.params ≡ 0 = ok.constructors f info there constructs in
    let declared : IsDeclaration sig info = ok.declared f info there in
    let takes : (sorts : List ℕ) × (info.args.items ≡ map sort_numbered sorts)
    × AreSorts sig sorts =
    names_of sig info.args.items
    (subst (λ (n : ℕ). All (IsReference sig n) info.args.items) none declared.arguments) in
    let makes : (s : ℕ) × (info.result ≡ sort_numbered s) × (s < length sig.sorts) =
    name_of sig info.result
    (subst (λ (n : ℕ). IsReference sig n info.result) none declared.result) in (
      info,
      takes.0,
      makes.0,
      record {
        constructs = (record { there = there; takes = takes.1; makes = makes.1 }, constructs);
        are_sorts = (makes.2, takes.2);
        few = omega (arith, few, ap length takes.1 ∙ length-named takes.0);
      },
    )

-- ---- equations

counted : (sig : Signature) (vars sorts : List ℕ) (ps : Patterns) (refs : List SortRef)
    → HaveSorts sig vars sorts ps refs → count_of ps ≡ length refs
counted sig vars sorts no_pattern [] h = refl
counted sig vars sorts no_pattern (r ∷ refs) h = absurd h
counted sig vars sorts (more_patterns p ps) [] h = absurd h
counted sig vars sorts (more_patterns p ps) (r ∷ refs) h =
    ap suc (counted sig vars sorts ps refs h.3)

pub equation_has_image : EquationHasImage
equation_has_image theory f info e ok there kind listed few parameters fits =
    let is : IsEquationOf theory.sig info e =
    All-contains (IsEquationOf theory.sig info) (equations_of theory f) e
    (ok.equations f info there) listed in
    record {
      few = few;
      sorts = are_sorts theory.sig e.variables is.variables;
      function = symbol_within theory.sig f info there;
      arguments =
          all_sorted_have theory.sig e.variables [] e.arguments info.args.items ok.signature
          is.arguments;
      names = names_below theory.sig e.variables e.arguments e.names is.names;
      condition =
          condition_met theory.sig e.variables e.arguments e.names e.condition ok.signature
          is.condition;
      right = sorted_has theory.sig e.variables e.right is.sort ok.signature is.right;
      parameters = go is parameters;
      guards = fits;
      repeated = premises is e.last_resort fits;
    }
  where
    low_count : {n : ℕ} → e.parameters ≢ 0
        → (e.parameters ≡ 0) ⊎ (e.parameters ≡ count_of e.arguments)
        → count_of e.arguments ≡ n → n ≤ 2 ^ 32
    low_count some (inl none) many = absurd (some none)
    low_count some (inr each) many = omega (arith, few, each, many)

    -- each equation of the function has as many arguments as this one has parameters
    premises : IsEquationOf theory.sig info e → (o : Option (List Guard))
        → IfSome o (λ (gs : List Guard). (e.parameters ≢ 0)
        × All (IsGuard (equations_of theory f)) gs
        × (after_guards (e.parameters + length e.variables) gs < 2 ^ 32))
        → IfSome o (λ (gs : List Guard). All (HasPremise theory.sig) (equations_of theory f))
    premises is None h = tt
    premises is (Some gs) h = λ i d low.
        let other : Equation = slice_index_or (equations_of theory f) i d in
        let of : IsEquationOf theory.sig info other = ok.equations f info there i d low in
        let many : count_of e.arguments ≡ count_of other.arguments =
        counted theory.sig e.variables [] e.arguments info.args.items is.arguments
        ∙ sym (counted theory.sig other.variables [] other.arguments info.args.items of.arguments)
        in
        record {
          sorts = are_sorts theory.sig other.variables of.variables;
          arguments =
              all_sorted_have theory.sig other.variables [] other.arguments info.args.items
              ok.signature of.arguments;
          names = names_below theory.sig other.variables other.arguments other.names of.names;
          condition =
              condition_met theory.sig other.variables other.arguments other.names other.condition
              ok.signature of.condition;
          few = low_count h.0 parameters many;
        }

    go : IsEquationOf theory.sig info e → (e.parameters ≡ 0) ⊎ (e.parameters ≡ count_of e.arguments)
        → (e.parameters ≡ 0) ⊎ HasParameters theory.sig f e
    go is (inl none) = inl none
    go is (inr many) =
        let no : info.params ≡ 0 = ok.functions f info there kind in
        let declared : IsDeclaration theory.sig info = ok.signature.declared f info there in
        let takes : (sorts : List ℕ) × (info.args.items ≡ map sort_numbered sorts)
        × AreSorts theory.sig
        sorts =
        names_of theory.sig info.args.items (subst
        (λ (n : ℕ). All (IsReference theory.sig n) info.args.items) no
        declared.arguments) in
        let makes : (s : ℕ) × (info.result ≡ sort_numbered s) × (s < length theory.sig.sorts) =
        name_of theory.sig info.result
        (subst (λ (n : ℕ). IsReference theory.sig n info.result) no declared.result) in
        inr (record {
          info = info;
          sorts = takes.0;
          sort = makes.0;
          declared = record { there = there; takes = takes.1; makes = makes.1 };
          are_sorts = takes.2;
          as_many =
              many ∙ counted theory.sig e.variables [] e.arguments info.args.items is.arguments
              ∙ ap length takes.1 ∙ length-named takes.0;
          each = many;
        })
