-- The program that is made from what was read.
use Rattle.std.proofs.Common.{◌≡◌, ◌<◌, ◌≤◌, ℕ, zero, suc, ◌+◌, Bool, true, false, cond, List, []}
use Rattle.std.proofs.Common.{◌∷◌, map, length, Contains, Option, Some, None, refl, sym, ap}
use Rattle.std.proofs.Common.{◌∙◌, subst, arith, inl, inr, All, eq-eqb}
use Rattle.std.specs.Prelude.{◌↔◌, ◌==◌, IsTrue, Vec, slice_get, slice_index_or, filter}
use Rattle.std.specs.Prelude.{count_by}
use Rattle.std.specs.Global.{Global}
use Rattle.std.specs.List.{AllZip}
use Rattle.std.specs.List.Sorted.{IsPermutation}
use Rattle.std.proofs.lemmas.Bool.{eqb-true, false≢true}
use Rattle.std.proofs.lemmas.List.Elements.{All-nil, All-cons, All-head, All-tail}
use Rattle.std.proofs.lemmas.List.Sums.{sum_by-cons}
use Rattle.std.proofs.lemmas.List.Sorted.{IsPermutation-sym, Contains-permutation}
use Rattle.std.proofs.lemmas.List.Sorted.{length_permutation}
use Rattle.kore_text.specs.Trees.{AxiomDeclaration}
use Rattle.rule_core.specs.Named.{number_of_name}
use Rattle.rule_core.specs.DistinctNames.{names_of, AreDistinct}
use Rattle.rule_core.specs.ProgramView.{rewrite_rule, function_equation, function_equations}
use Rattle.rule_core.specs.Rules.{RewriteRule, ComesBefore, AreInOrder}
use Rattle.rule_core.specs.Rules as plain
use Rattle.rule_core.specs.declared.rules.Equation.{Equation}
use Rattle.rule_core.specs.declared.rules.Rule.{Rule}
use Rattle.rule_core.specs.declared.signature.Signature.{Signature}
use Rattle.rule_core.specs.declared.signature.SymInfo.{SymInfo}
use Rattle.rule_core.proofs.Tables.{number_of-entry}
use Rattle.kore_sig.proofs.ListLaws.{number_within}
use Rattle.kore_sig.proofs.FirstLaws.{contains_here, contains_there, contains_cases, contains_none}
use Rattle.rule_core.specs.KindTests.{is_defined_kind}
use Rattle.kore_axioms.specs.AxiomMeanings.{MeansRule}
use Rattle.kore_axioms.specs.NamedRules.{MeansNamedRule}
use Rattle.kore_axioms.specs.AxiomClasses.{axiom_class}
use Rattle.kore_equations.proofs.ClassLaws.{number_there}
use Rattle.kore_rules.specs.EquationsAmong.{IsUnreadableAmong}
use Rattle.kore_rules.specs.LastResortsRead.{AreAllListed}
use Rattle.kore_rules.specs.AxiomsRead.{AreRead, AreApart, AreFew, HasStated}
use Rattle.kore_rules.specs.AxiomsRead.{numbered_equation, is_marked}
use Rattle.kore_rules.specs.Programs.{HasKind, IsSymbolOf, AreRulesOf, AreEquationsOf}
use Rattle.kore_rules.specs.KeptNames.{AreOf}
use Rattle.kore_rules.specs.ScalarSorts.{MarksTerms, IsFinal, is_marked_at}
use Rattle.kore_rules.specs.TrialOrder.{rule_key, equation_key, is_of, has_equations}
use Rattle.kore_rules.specs.TrialOrder.{is_by_equations, listed_at}
use Rattle.kore_rules.proofs.AmongLaws.{equation_stated}
use Rattle.kore_rules.proofs.FinalLaws.{own_number}
use Rattle.kore_rules.proofs.HookLaws.{final_is, Unreadables, defined}
use Rattle.kore_rules.proofs.KindLaws.{HasPairs}

some_same : {A : Type 0} (x y : A) → Some x ≡ Some y → x ≡ y
some_same x y e = cc

pub length_mapped : {X Y : Type 0} (f : X → Y) (xs : List X) → length (map f xs) ≡ length xs
length_mapped f [] = refl
length_mapped f (x ∷ xs) = ap suc (length_mapped f xs)

-- ---- items of lists

pub contains_map : {X Y : Type 0} (f : X → Y) (xs : List X) (x : X) → Contains xs x
    → Contains (map f xs) (f x)
contains_map f [] x has = absurd (contains_none x has)
contains_map f (y ∷ ys) x has = elim (contains_cases y x ys has) [
  | inl same ↦ subst (λ z. Contains (map f (y ∷ ys)) (f z)) same (contains_here (f y) (map f ys))
  | inr later ↦ contains_there (f y) (f x) (map f ys) (contains_map f ys x later)
]

pub contains_at : {X : Type 0} (xs : List X) (i : ℕ) (x : X) → slice_get xs i ≡ Some x
    → Contains xs x
contains_at [] i x at = absurd (let never : ⊥ = cc in never)
contains_at (y ∷ ys) zero x at = subst (Contains (y ∷ ys)) (some_same y x at) (contains_here y ys)
contains_at (y ∷ ys) (suc i) x at = contains_there y x ys (contains_at ys i x at)

contains_mapped : {X Y : Type 0} (f : X → Y) (xs : List X) (y : Y) → Contains (map f xs) y
    → (x : X) × Contains xs x × (f x ≡ y)
contains_mapped f [] y has = absurd (contains_none y has)
contains_mapped f (x ∷ xs) y has = elim (contains_cases (f x) y (map f xs) has) [
  | inl same ↦ (x, contains_here x xs, same)
  | inr later ↦ let found =
      contains_mapped f xs y later in (found.0, contains_there x found.0 xs found.1, found.2)
]

kept_there : {X : Type 0} (test : X → Bool) (t : Bool) (x y : X) (xs : List X)
    → Contains (filter test xs) y → Contains (cond t (x ∷ filter test xs) (filter test xs)) y
kept_there test true x y xs has = contains_there x y (filter test xs) has
kept_there test false x y xs has = has

contains_filter : {X : Type 0} (test : X → Bool) (xs : List X) (x : X) → Contains xs x
    → test x ≡ true → Contains (filter test xs) x
contains_filter test [] x has e = absurd (contains_none x has)
contains_filter test (y ∷ ys) x has e = elim (contains_cases y x ys has) [
  | inl same ↦ subst (λ z. Contains (filter test (y ∷ ys)) z) same
      (rw (ap test same ∙ e) (contains_here y (filter test ys)))
  | inr later ↦ kept_there test (test y) y x ys (contains_filter test ys x later e)
]

filtered_by : {X : Type 0} (test : X → Bool) (t : Bool) (x y : X) (xs : List X) → test x ≡ t
    → (Contains (filter test xs) y → Contains xs y × (test y ≡ true))
    → Contains (cond t (x ∷ filter test xs) (filter test xs)) y
    → Contains (x ∷ xs) y × (test y ≡ true)
filtered_by test true x y xs e rest has = elim (contains_cases x y (filter test xs) has) [
  | inl same ↦ (subst (Contains (x ∷ xs)) same (contains_here x xs), ap test (sym same) ∙ e)
  | inr later ↦ let found = rest later in (contains_there x y xs found.0, found.1)
]
filtered_by test false x y xs e rest has =
    let found = rest has in (contains_there x y xs found.0, found.1)

contains_filtered : {X : Type 0} (test : X → Bool) (xs : List X) (y : X)
    → Contains (filter test xs) y → Contains xs y × (test y ≡ true)
contains_filtered test [] y has = absurd (contains_none y has)
contains_filtered test (x ∷ xs) y has =
    filtered_by test (test x) x y xs refl (λ h. contains_filtered test xs y h) has

-- ---- the order of trial

abbrev one_if : Bool → ℕ
one_if b = cond b 1 0

count_map : {X Y : Type 0} (f : X → Y) (test : Y → Bool) (xs : List X)
    → count_by test (map f xs) ≡ count_by (λ x. test (f x)) xs
count_map f test [] = refl
count_map f test (x ∷ xs) =
    sum_by-cons (λ y. one_if (test y)) (f x) (map f xs)
    ∙ ap (λ (n : ℕ). one_if (test (f x)) + n) (count_map f test xs)
    ∙ sym (sum_by-cons (λ y. one_if (test (f y))) x xs)

same_count : {X : Type 0} (f g : X → ℕ) → ((x : X) → f x ≡ g x) → (at : ℕ) (xs : List X)
    → count_by (λ x. f x == at) xs ≡ count_by (λ x. g x == at) xs
same_count f g same at [] = refl
same_count f g same at (x ∷ xs) =
    sum_by-cons (λ y. one_if (f y == at)) x xs
    ∙ ap (λ (n : ℕ). one_if (n == at) + count_by (λ y. f y == at) xs) (same x)
    ∙ ap (λ (n : ℕ). one_if (g x == at) + n) (same_count f g same at xs)
    ∙ sym (sum_by-cons (λ y. one_if (g y == at)) x xs)

-- things that are read are at different places
pub read_apart : {X K : Type 0} (Is : AxiomDeclaration → K → Type 0) (place : K → ℕ) (view : X → K)
    (key : X → ℕ × ℕ) (axioms : List AxiomDeclaration) (xs : List X)
    → ((x : X) → place (view x) ≡ (key x).1) → AreFew axioms → AreRead Is place axioms (map view xs)
    → AreApart (map key xs)
read_apart Is place view key axioms xs same few read at =
    let a = read.few at in
    let b = few.apart at in
    let c = count_map view (λ k. place k == at) xs in
    let d = count_map key (λ (k : ℕ × ℕ). k.1 == at) xs in
    let e = same_count (λ x. place (view x)) (λ x. (key x).1) same at xs in
    omega (arith, a, b, c, d, e)

filter_all : {X : Type 0} (P : ℕ × ℕ → Type 0) (key : X → ℕ × ℕ) (test : X → Bool) (xs : List X)
    → All P (map key xs) → All P (map key (filter test xs))
filter_all P key test [] all = all
filter_all P key test (x ∷ xs) all =
    by (test x) (All-head P (key x) (map key xs) all)
    (filter_all P key test xs (All-tail P (key x) (map key xs) all)) where
      by : (t : Bool) → P (key x) → All P (map key (filter test xs))
          → All P (map key (cond t (x ∷ filter test xs) (filter test xs)))
      by true one rest = All-cons P (key x) (map key (filter test xs)) one rest
      by false one rest = rest

-- if things are in order, so are some of them
pub filter_in_order : {X : Type 0} (key : X → ℕ × ℕ) (test : X → Bool) (xs : List X)
    → AreInOrder (map key xs) → AreInOrder (map key (filter test xs))
filter_in_order key test [] h = tt
filter_in_order key test (x ∷ xs) h =
    by (test x) (filter_all (ComesBefore (key x)) key test xs h.0) (filter_in_order key test xs h.1)
  where
    by : (t : Bool) → All (ComesBefore (key x)) (map key (filter test xs))
        → AreInOrder (map key (filter test xs))
        → AreInOrder (map key (cond t (x ∷ filter test xs) (filter test xs)))
    by true one rest = (one, rest)
    by false one rest = rest

abbrev plain_rule_key : RewriteRule → ℕ × ℕ
plain_rule_key r = (r.priority, r.place)

abbrev pub plain_equation_key : plain.Equation → ℕ × ℕ
plain_equation_key e = (e.priority, e.place)

rule_keys : (rules : List Rule) → map plain_rule_key (map rewrite_rule rules) ≡ map rule_key rules
rule_keys [] = refl
rule_keys (r ∷ rules) = ap (λ (ks : List (ℕ × ℕ)). rule_key r ∷ ks) (rule_keys rules)

equation_keys : (es : List Equation)
    → map plain_equation_key (map function_equation es) ≡ map equation_key es
equation_keys [] = refl
equation_keys (e ∷ es) = ap (λ (ks : List (ℕ × ℕ)). equation_key e ∷ ks) (equation_keys es)

-- ---- rules

pub rules_are : (sig : Signature) (axioms : List AxiomDeclaration) (old new : List Rule)
    → AreRead (MeansRule sig) (λ (r : RewriteRule). r.place) axioms (map rewrite_rule old)
    → IsPermutation old new → AreInOrder (map rule_key new)
    → AreRulesOf sig axioms (map rewrite_rule new)
rules_are sig axioms old new read moved in_order = record {
  just = λ r. (
    λ has. let found = contains_mapped rewrite_rule new r has in
        (read.just r).0 (subst (Contains (map rewrite_rule old)) found.2
        (contains_map rewrite_rule old found.0
        (Contains-permutation new old found.0 (IsPermutation-sym old new moved) found.1))),
    λ some. let found = contains_mapped rewrite_rule old r ((read.just r).1 some) in
        subst (Contains (map rewrite_rule new)) found.2 (contains_map rewrite_rule new found.0
        (Contains-permutation old new found.0 moved found.1)),
  );
  in_order = subst AreInOrder (sym (rule_keys new)) in_order;
}

-- ---- symbols

pub name_at : (es : List (List ℕ × SymInfo)) (f g : List ℕ) (n : ℕ) → number_of_name es f ≡ Some n
    → number_of_name es g ≡ Some n → f ≡ g
name_at es f g n a b =
    let x = number_of-entry es f n a in
    let y = number_of-entry es g n b in
    ap (λ (e : List ℕ × SymInfo). e.0) (some_same (f, x.0) (g, y.0) (sym x.1 ∙ y.1))

unnamed : (sig : Signature) (axioms : List AxiomDeclaration) (f : List ℕ) (a : AxiomDeclaration)
    → number_of_name sig.symbols f ≡ None → IsUnreadableAmong sig axioms f a → ⊥
unnamed sig axioms f a none bad =
    let stated = equation_stated f (axiom_class sig a) bad.states in
    number_there sig a stated.0 stated.1 (ap (number_of_name sig.symbols) stated.2 ∙ none)

-- an axiom states an equation of the function with this number that is not readable
abbrev pub HasUnreadable : Signature → List AxiomDeclaration → ℕ → Type 0
HasUnreadable sig axioms n = HasStated sig (IsUnreadableAmong sig axioms) axioms n

unreadable_same : (sig : Signature) (axioms : List AxiomDeclaration) (marks : List Bool)
    → ((n : ℕ) → IsTrue (is_marked marks n) ↔ HasUnreadable sig axioms n)
    → (f : List ℕ) (o : Option ℕ) → number_of_name sig.symbols f ≡ o → IsTrue (is_marked_at marks o)
    ↔ Unreadables sig axioms f
unreadable_same sig axioms marks is f None e =
    (λ h. absurd (false≢true h), λ h. absurd (unnamed sig axioms f h.0 e h.2))
unreadable_same sig axioms marks is f (Some n) e = (
  λ h. let found = (is n).0 h in
      let named = found.2 in
      let same : named.0 ≡ f = name_at sig.symbols named.0 f n named.1 e in
      (found.0, found.1, subst (λ (g : List ℕ). IsUnreadableAmong sig axioms g found.0) same named.2),
  λ h. (is n).1 (h.0, h.1, (f, e, h.2)),
)

zip_into : {X Y : Type 0} (R S : X → Y → Type 0) (xs : List X) (ys : List Y)
    → ((x : X) (y : Y) → R x y → S x y) → AllZip R xs ys → AllZip S xs ys
zip_into R S [] [] into z = tt
zip_into R S [] (y ∷ ys) into z = absurd z
zip_into R S (x ∷ xs) [] into z = absurd z
zip_into R S (x ∷ xs) (y ∷ ys) into z = (into x y z.0, zip_into R S xs ys into z.1)

pub symbols_are : (sig : Signature) (axioms : List AxiomDeclaration) (marks unreadable : List Bool)
    (made : List (List ℕ × SymInfo)) → HasPairs sig axioms → MarksTerms sig axioms marks
    → ((n : ℕ) → IsTrue (is_marked unreadable n) ↔ HasUnreadable sig axioms n)
    → AllZip (IsFinal sig marks unreadable) sig.symbols made
    → AllZip (IsSymbolOf sig axioms) sig.symbols made
symbols_are sig axioms marks unreadable made zip terms is final =
    zip_into (IsFinal sig marks unreadable) (IsSymbolOf sig axioms) sig.symbols made
    (λ d m f. record {
      name = f.name;
      kind = subst (HasKind sig axioms d.0 d.1) (sym f.kind)
          (final_is sig axioms marks zip terms d.0 d.1
          (is_marked_at unreadable (number_of_name sig.symbols d.0))
          (unreadable_same sig axioms unreadable is d.0 (number_of_name sig.symbols d.0) refl));
      params = f.params;
      args = f.args;
      result = f.result;
      hook = f.hook;
      ac = f.ac;
    }) final

-- ---- equations

pub listed_view : (lists : List (Vec Equation Global)) (n : ℕ)
    → slice_index_or (function_equations lists) n [] ≡ map function_equation (listed_at lists n)
listed_view [] n = refl
listed_view (first ∷ lists) zero = refl
listed_view (first ∷ lists) (suc n) = listed_view lists n

pub listed_there : (lists : List (Vec Equation Global)) (n : ℕ) (es : Vec Equation Global)
    → slice_get lists n ≡ Some es → listed_at lists n ≡ es.items
listed_there [] n es at = absurd (let never : ⊥ = cc in never)
listed_there (first ∷ lists) zero es at =
    ap (λ (v : Vec Equation Global). v.items) (some_same first es at)
listed_there (first ∷ lists) (suc n) es at = listed_there lists n es at

declared_at : (R : List ℕ × SymInfo → List ℕ × SymInfo → Type 0) (ds ms : List (List ℕ × SymInfo))
    (n : ℕ) (m : List ℕ × SymInfo) → AllZip R ds ms → slice_get ms n ≡ Some m
    → (d : List ℕ × SymInfo) × (slice_get ds n ≡ Some d) × R d m
declared_at R [] [] n m z e = absurd (let never : ⊥ = cc in never)
declared_at R [] (y ∷ ms) n m z e = absurd z
declared_at R (d ∷ ds) [] n m z e = absurd z
declared_at R (d ∷ ds) (y ∷ ms) zero m z e = (d, refl, subst (R d) (some_same y m e) z.0)
declared_at R (d ∷ ds) (y ∷ ms) (suc n) m z e = declared_at R ds ms n m z.1 e

abbrev numbered : ℕ → plain.Equation → ℕ × plain.Equation
numbered n e = (n, e)

-- an axiom is this thing, of the function with this number
abbrev pub IsNumberedBy : Signature → (List ℕ → AxiomDeclaration → plain.Equation → Type 0)
    → AxiomDeclaration → ℕ × plain.Equation → Type 0
IsNumberedBy sig Is a e = (f : List ℕ) × (number_of_name sig.symbols f ≡ Some e.0) × Is f a e.1

-- of equations that were read, those of one function are exactly what the axioms are
pub listed_just : (sig : Signature) (Is : List ℕ → AxiomDeclaration → plain.Equation → Type 0)
    (axioms : List AxiomDeclaration) (old new : List Equation) (f : List ℕ) (n : ℕ)
    → number_of_name sig.symbols f ≡ Some n
    → AreRead (IsNumberedBy sig Is) (λ (e : ℕ × plain.Equation). e.1.place) axioms
    (map numbered_equation old) → IsPermutation old new → (e : plain.Equation)
    → Contains (map function_equation (filter (is_of n) new)) e
    ↔ ((a : AxiomDeclaration) × Contains axioms a × Is f a e)
listed_just sig Is axioms old new f n number read moved e = (
  λ inside.
      let found = contains_mapped function_equation (filter (is_of n) new) e inside in
      let x = found.0 in
      let kept = contains_filtered (is_of n) new x found.1 in
      let here : x.fun.0 ≡ n = eqb-true x.fun.0 n kept.1 in
      let some =
      (read.just (numbered_equation x)).0 (contains_map numbered_equation old x
      (Contains-permutation new old x (IsPermutation-sym old new moved) kept.0)) in
      let named = some.2 in
      let g = named.0 in
      let same : g ≡ f = name_at sig.symbols g f n (named.1 ∙ ap Some here) number in (
        some.0,
        some.1,
        subst (λ (y : plain.Equation). Is f some.0 y) found.2
            (subst (λ (h : List ℕ). Is h some.0 (function_equation x)) same named.2),
      ),
  λ (a, inside, is).
      let given = (read.just (numbered n e)).1 (a, inside, (f, number, is)) in
      let found = contains_mapped numbered_equation old (numbered n e) given in
      let x = found.0 in
      let here : x.fun.0 ≡ n = ap (λ (y : ℕ × plain.Equation). y.0) found.2 in
      let same : function_equation x ≡ e = ap (λ (y : ℕ × plain.Equation). y.1) found.2 in
      subst (Contains (map function_equation (filter (is_of n) new))) same
      (contains_map function_equation (filter (is_of n) new) x
      (contains_filter (is_of n) new x (Contains-permutation old new x moved found.1)
      (eq-eqb x.fun.0 n here))),
)

-- they are in the order of trial
pub listed_in_order : (new : List Equation) (n : ℕ) → AreInOrder (map equation_key new)
    → AreInOrder (map plain_equation_key (map function_equation (filter (is_of n) new)))
listed_in_order new n in_order =
    subst AreInOrder (sym (equation_keys (filter (is_of n) new)))
    (filter_in_order equation_key (is_of n) new in_order)

pub filter_own : (new : List Equation) (n : ℕ) (e : Equation) → Contains (filter (is_of n) new) e
    → Contains new e × (e.fun.0 ≡ n)
filter_own new n e has =
    let kept = contains_filtered (is_of n) new e has in (kept.0, eqb-true e.fun.0 n kept.1)

-- ---- the equations of a program

-- the lists with those of symbols of other kinds emptied
abbrev pub AreEmptied : List (List ℕ × SymInfo) → List (Vec Equation Global)
    → List (Vec Equation Global) → Type 0
AreEmptied made old new =
    (n : ℕ) → listed_at new n ≡ cond (has_equations made n) (listed_at old n) []

pub equations_are : (sig : Signature) (axioms : List AxiomDeclaration)
    (made : List (List ℕ × SymInfo)) (old new : List (Vec Equation Global)) (n : ℕ) (f : List ℕ)
    (info : SymInfo) → AreDistinct (names_of sig.symbols)
    → AllZip (IsSymbolOf sig axioms) sig.symbols made → AreAllListed sig axioms old
    → AreEmptied made old new → slice_get made n ≡ Some (f, info)
    → AreEquationsOf sig axioms f info.kind (slice_index_or (function_equations new) n [])
equations_are sig axioms made old new n f info distinct symbols all emptied there =
    by_kind (is_defined_kind info.kind) refl
  where
    d : (d : List ℕ × SymInfo) × (slice_get sig.symbols n ≡ Some d)
        × IsSymbolOf sig axioms d (f, info)
    d = declared_at (IsSymbolOf sig axioms) sig.symbols made n (f, info) symbols there

    number : number_of_name sig.symbols f ≡ Some n
    number = ap (number_of_name sig.symbols) d.2.name ∙ own_number sig.symbols n d.0 distinct d.1

    has : has_equations made n ≡ is_defined_kind info.kind
    has = ap is_by_equations there

    view : (b : Bool) → is_defined_kind info.kind ≡ b
        → slice_index_or (function_equations new) n []
        ≡ map function_equation (cond b (listed_at old n) [])
    view b is =
        listed_view new n
        ∙ ap (map function_equation)
        (emptied n ∙ ap (λ (t : Bool). cond t (listed_at old n) []) (has ∙ is))

    by_kind : (b : Bool) → is_defined_kind info.kind ≡ b
        → AreEquationsOf sig axioms f info.kind (slice_index_or (function_equations new) n [])
    by_kind true is =
        let tried = all.listed f n number in
        subst (AreEquationsOf sig axioms f info.kind) (sym (view true is)) (record {
          just = λ e. (
            λ inside. (defined info.kind is, (tried.just e).0 inside),
            λ (kind, some). (tried.just e).1 some,
          );
          in_order = tried.in_order;
        })
    by_kind false is =
        subst (AreEquationsOf sig axioms f info.kind) (sym (view false is)) (record {
          just = λ e. (
            λ inside. absurd (contains_none e inside),
            λ (kind, some). absurd (false≢true (sym is ∙ ap is_defined_kind kind)),
          );
          in_order = tt;
        })

-- what is listed now was listed before
pub was_listed : (made : List (List ℕ × SymInfo)) (old new : List (Vec Equation Global)) (f i : ℕ)
    (es : Vec Equation Global) (e : Equation) → AreEmptied made old new
    → slice_get new f ≡ Some es → slice_get es.items i ≡ Some e → Contains (listed_at old f) e
was_listed made old new f i es e emptied there at =
    by_case (has_equations made f)
    (subst (λ (xs : List Equation). Contains xs e)
    (sym (listed_there new f es there) ∙ emptied f) (contains_at es.items i e at))
  where
    by_case : (b : Bool) → Contains (cond b (listed_at old f) []) e → Contains (listed_at old f) e
    by_case true has = has
    by_case false has = absurd (contains_none e has)

-- ---- names

-- rules that were moved are still what axioms are
pub moved_rules : (sig : Signature) (axioms : List AxiomDeclaration) (old new : List Rule)
    → AreOf (MeansNamedRule sig) axioms old → IsPermutation old new
    → AreOf (MeansNamedRule sig) axioms new
moved_rules sig axioms old new of moved = λ r has.
    of r (Contains-permutation new old r (IsPermutation-sym old new moved) has)

-- ---- how many rules and equations

pub few_rules : (sig : Signature) (axioms : List AxiomDeclaration) (old new : List Rule)
    → AreFew axioms
    → AreRead (MeansRule sig) (λ (r : RewriteRule). r.place) axioms (map rewrite_rule old)
    → IsPermutation old new → length new ≤ 4294967296
few_rules sig axioms old new few read moved =
    let a = few.short in
    let b = read.short in
    let c = length_mapped rewrite_rule old in
    let d = length_permutation old new moved in omega (arith, a, b, c, d)

pub few_equations : (sig : Signature) (axioms : List AxiomDeclaration)
    (made : List (List ℕ × SymInfo)) (old new : List (Vec Equation Global)) (n : ℕ)
    → AreFew axioms → AreAllListed sig axioms old → AreEmptied made old new
    → length (slice_index_or (function_equations new) n []) ≤ 4294967296
few_equations sig axioms made old new n few all emptied =
    let a = few.short in
    let b = all.few n in
    let same : length (slice_index_or (function_equations new) n [])
    ≡ length (map function_equation (listed_at new n)) =
    ap length (listed_view new n) in
    let long = length_mapped function_equation (listed_at new n) in
    let less = by_case (has_equations made n) in
    let is : length (listed_at new n) ≡ length (cond (has_equations made n) (listed_at old n) []) =
    ap length (emptied n) in
    omega (arith, a, b, same, long, less, is)
  where
    by_case : (b : Bool) → length (cond b (listed_at old n) []) ≤ length (listed_at old n)
    by_case true = omega arith
    by_case false = omega arith

all_from : {X : Type 0} (P : X → Type 0) (xs : List X) → ((x : X) → Contains xs x → P x) → All P xs
all_from P [] each = All-nil P
all_from P (x ∷ xs) each =
    All-cons P x xs (each x (contains_here x xs))
    (all_from P xs (λ y has. each y (contains_there x y xs has)))

-- the function of each equation is a symbol
pub functions_there : (sig : Signature) (Is : List ℕ → AxiomDeclaration → plain.Equation → Type 0)
    (axioms : List AxiomDeclaration) (len : ℕ) (old new : List Equation) → len ≡ length sig.symbols
    → AreRead (IsNumberedBy sig Is) (λ (e : ℕ × plain.Equation). e.1.place) axioms
    (map numbered_equation old) → IsPermutation old new → All (λ (e : Equation). e.fun.0 < len) new
functions_there sig Is axioms len old new same read moved =
    all_from (λ (e : Equation). e.fun.0 < len) new (λ e has.
    let some =
    (read.just (numbered_equation e)).0 (contains_map numbered_equation old e
    (Contains-permutation new old e (IsPermutation-sym old new moved) has)) in
    let named = some.2 in
    let within = number_within sig.symbols named.0 e.fun.0 named.1 in omega (arith, within, same))
