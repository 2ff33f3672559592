-- The guards of an accepted definition's equations of the last resort.
use Rattle.std.proofs.Common.{◌≡◌, ◌≢◌, ◌<◌, ◌≤◌, ℕ, zero, suc, ◌+◌, ◌*◌, Bool, true, false, cond, List}
use Rattle.std.proofs.Common.{[], ◌∷◌, ◌++◌, map, length, get_or, take, slice_get, Contains, Option}
use Rattle.std.proofs.Common.{Some, None, refl, sym, ap, ◌∙◌, subst, ◌⊎◌, inl, inr, arith, All, nat_eq}
use Rattle.std.proofs.Common.{eq-eqb}
use Rattle.std.specs.Prelude.{◌||◌, IfSome, count_by}
use Rattle.std.specs.List.{AllZip, list_any}
use Rattle.std.proofs.lemmas.Bool.{false≢true, eqb-true}
use Rattle.std.proofs.lemmas.List.{map-append}
use Rattle.std.proofs.lemmas.List.Elements.{All-nil, All-cons, Contains-append_left, Contains-push}
use Rattle.std.proofs.lemmas.List.Elements.{Contains-push_cases}
use Rattle.std.proofs.lemmas.List.Sums.{sum_by-cons}
use Rattle.std.proofs.lemmas.Map.Keys.{IsDistinct-from_apart}
use Rattle.std.proofs.lemmas.Map.Steps.{length-le_from_distinct_below}
use Rattle.kore_text.specs.Trees.{SortTree, PatternTree, AxiomDeclaration}
use Rattle.rule_core.specs.AcSymbols.{IsAcFree}
use Rattle.rule_core.specs.Guards.{IsGuardAmong, AreGuards, after_guards}
use Rattle.rule_core.specs.Rules.{Equation, Guard, ComesBefore, AreInOrder}
use Rattle.rule_core.specs.Sorting.{IsFunction}
use Rattle.rule_core.specs.WellSorted.{AreDifferent}
use Rattle.rule_core.specs.declared.signature.Signature.{Signature}
use Rattle.rule_core.specs.declared.signature.SymInfo.{SymInfo}
use Rattle.rule_core.specs.declared.signature.SymKind.{SymKind}
use Rattle.rule_core.specs.declared.signature.SymKind.TheVariants.{Ctor, Equations}
use Rattle.kore_sig.proofs.FirstLaws.{contains_here, contains_there, contains_cases, contains_none}
use Rattle.kore_check.specs.Folds.{unfolded}
use Rattle.kore_check.specs.PartNames.{number_of_variable}
use Rattle.kore_check.specs.PatternMeanings.{with_all_variables}
use Rattle.kore_shapes.specs.LastResorts.{GuardParts}
use Rattle.kore_equations.proofs.ClassLaws.{class_equates}
use Rattle.kore_equations.proofs.OrderLaws.{variable_within}
use Rattle.kore_equations.specs.Guards.{QuantifyEach, MeansGuard}
use Rattle.kore_equations.specs.LastResortEquations.{MeansLastResort}
use Rattle.kore_equations.specs.ReadableSides.{all_read}
use Rattle.kore_rules.specs.EquationsAmong.{IsLastResortAmong, states_last_resort}
use Rattle.kore_rules.specs.Programs.{AreEquationsOf}
use Rattle.kore_rules.proofs.AllListed.{order_append, keys_before}
use Rattle.kore_rules.proofs.AmongLaws.{last_states, last_among_one}
use Rattle.kore_rules.proofs.GuardCounts.{guards_count, IsResortWithin, resort_count, numbered_count}
use Rattle.kore_rules.proofs.KeptSorts.{IsKept, kind_kept, declared_symbol}
use Rattle.kore_rules.proofs.KindLaws.{any_found}
use Rattle.kore_rules.proofs.LastResortReads.{some_count}
use Rattle.kore_rules.proofs.OneOrder.{one_list}
use Rattle.kore_rules.proofs.ProgramLaws.{length_mapped, contains_at, plain_equation_key}
use Rattle.kore_rules.proofs.VariableCounts.{variable_count, all_few_variables, statement_count}

-- ---- different numbers below a bound

apart_from : (xs : List ℕ) → AreDifferent xs → (i j d : ℕ) → i < j → j < length xs
    → nat_eq (get_or xs i d) (get_or xs j d) ≡ false
apart_from [] h i j d low high = absurd (omega (arith, high))
apart_from (x ∷ xs) h i zero d low high = absurd (omega (arith, low))
apart_from (x ∷ xs) h zero (suc j) d low high =
    by_case (nat_eq x (get_or xs j d)) refl
  where
    by_case : (b : Bool) → nat_eq x (get_or xs j d) ≡ b → b ≡ false
    by_case false is = refl
    by_case true is =
        absurd (h.0 j d (omega (arith, high)) (eqb-true x (get_or xs j d) is))
apart_from (x ∷ xs) h (suc i) (suc j) d low high =
    apart_from xs h.1 i j d (omega (arith, low)) (omega (arith, high))

few_below : (xs : List ℕ) (n : ℕ) → AreDifferent xs → ((x : ℕ) → Contains xs x → x < n)
    → length xs ≤ n
few_below xs n different within =
    length-le_from_distinct_below xs n (IsDistinct-from_apart nat_eq xs (apart_from xs different))
    (λ q any.
    let found = any_found (nat_eq q) xs any in
    let there = contains_at xs found.0 found.1 found.2 in
    subst (λ (k : ℕ). k < n) (sym (eqb-true q found.1 found.3)) (within found.1 there))

none_same : (xs : List ℕ) (x : ℕ) → (Contains xs x → ⊥) → All (λ (y : ℕ). x ≢ y) xs
none_same [] x none = All-nil (λ (y : ℕ). x ≢ y)
none_same (y ∷ ys) x none =
    All-cons (λ (z : ℕ). x ≢ z) y ys
    (λ same. none (subst (Contains (y ∷ ys)) (sym same) (contains_here y ys)))
    (none_same ys x (λ there. none (contains_there y x ys there)))

-- as many different numbers below n as n are all of them
all_below : (xs : List ℕ) (n : ℕ) → AreDifferent xs → ((x : ℕ) → Contains xs x → x < n)
    → length xs ≡ n → (x : ℕ) → x < n → Contains xs x
all_below xs n different within many x low = by_case (list_any (nat_eq x) xs) refl where
  any_here : (ys : List ℕ) → Contains ys x → list_any (nat_eq x) ys ≡ true
  any_here [] has = absurd (contains_none x has)
  any_here (y ∷ ys) has = elim (contains_cases y x ys has) [
    | inl same ↦ rw (eq-eqb x y (sym same)) refl
    | inr later ↦ rw (any_here ys later) (or_true (nat_eq x y))
  ]
    where
      or_true : (b : Bool) → (b || true) ≡ true
      or_true true = refl
      or_true false = refl

  by_case : (b : Bool) → list_any (nat_eq x) xs ≡ b → Contains xs x
  by_case true any =
      let found = any_found (nat_eq x) xs any in
      subst (Contains xs) (sym (eqb-true x found.1 found.3))
      (contains_at xs found.0 found.1 found.2)
  by_case false none =
      let absent : Contains xs x → ⊥ = λ has. false≢true (sym none ∙ any_here xs has) in
      let most : length (x ∷ xs) ≤ n =
      few_below (x ∷ xs) n (none_same xs x absent, different) (λ y has.
      elim (contains_cases x y xs has) [
        | inl same ↦ subst (λ (k : ℕ). k < n) same low
        | inr later ↦ within y later
      ]) in
      absurd (omega (arith, most, many))

-- ---- the variables of a guard

numbers_within : (sig : Signature) (vars : List (List ℕ × ℕ)) (xs : List PatternTree)
    (order : List ℕ)
    → map (λ (x : PatternTree). number_of_variable sig vars (unfolded x)) xs ≡ map Some order
    → (n : ℕ) → Contains order n → n < length vars
numbers_within sig vars xs [] is n has = absurd (contains_none n has)
numbers_within sig vars [] (m ∷ order) is n has = absurd (let never : ⊥ = cc in never)
numbers_within sig vars (x ∷ xs) (m ∷ order) is n has =
    let first : number_of_variable sig vars (unfolded x) ≡ Some m = cc in
    let rest : map (λ (y : PatternTree). number_of_variable sig vars (unfolded y)) xs
    ≡ map Some order =
    cc in
    elim (contains_cases m n order has) [
      | inl same ↦ subst (λ (k : ℕ). k < length vars) same
          (variable_within sig vars (unfolded x) m first)
      | inr later ↦ numbers_within sig vars xs order rest n later
    ]

guard_among : (sig : Signature) (info : SymInfo) (over : SortTree) (es : List Equation)
    (g : GuardParts) (made : Guard) → ((e : Equation) → Contains es e → e.last_resort ≡ None)
    → MeansGuard sig info over es g made → IsGuardAmong es made
guard_among sig info over es g made ordinary h =
    let vars : List (List ℕ × ℕ) = h.repeats.variables in
    let q : QuantifyEach sig vars g.variables made.order = h.repeats.quantified in
    let many = (numbered_count sig vars g.variables made.order q.numbers).0 in
    let count = q.count in
    let long : length h.equation.variables ≡ length vars =
    ap (λ (ss : List ℕ). length ss) h.repeats.sorts
    ∙ length_mapped (λ (v : List ℕ × ℕ). v.1) vars in
    let within : (n : ℕ) → Contains made.order n → n < length vars =
    numbers_within sig vars g.variables made.order q.numbers in
    record {
      equation = h.equation;
      there = h.listed;
      ordinary = ordinary h.equation (contains_at es made.equation h.equation h.listed);
      each = λ x. (
        λ has. let low = within x has in omega (arith, low, long),
        λ low. all_below made.order (length vars) q.different within (omega (arith, many, count)) x
            (omega (arith, low, long)),
      );
      different = q.different;
    }

guards_among : (sig : Signature) (info : SymInfo) (over : SortTree) (es : List Equation)
    (gs : List GuardParts) (ms : List Guard)
    → ((e : Equation) → Contains es e → e.last_resort ≡ None)
    → AllZip (MeansGuard sig info over es) gs ms → All (IsGuardAmong es) ms
guards_among sig info over es [] [] ordinary all = All-nil (IsGuardAmong es)
guards_among sig info over es [] (m ∷ ms) ordinary all = absurd all
guards_among sig info over es (g ∷ gs) [] ordinary all = absurd all
guards_among sig info over es (g ∷ gs) (m ∷ ms) ordinary all =
    All-cons (IsGuardAmong es) m ms (guard_among sig info over es g m ordinary all.0)
    (guards_among sig info over es gs ms ordinary all.1)

after_count : (sig : Signature) (info : SymInfo) (over : SortTree) (es : List Equation)
    (gs : List GuardParts) (ms : List Guard) (k : ℕ)
    → AllZip (MeansGuard sig info over es) gs ms → after_guards k ms ≤ k + guards_count gs
after_count sig info over es [] [] k all = omega arith
after_count sig info over es [] (m ∷ ms) k all = absurd all
after_count sig info over es (g ∷ gs) [] k all = absurd all
after_count sig info over es (g ∷ gs) (m ∷ ms) k all =
    let rest = after_count sig info over es gs ms (k + length m.order) all.1 in
    let counted =
    numbered_count sig all.0.repeats.variables g.variables m.order
    all.0.repeats.quantified.numbers in
    let a = counted.0 in
    let b = counted.1 in omega (arith, rest, a, b)

-- ---- constructors

free_kept : (declared final : Signature) (axioms : List AxiomDeclaration)
    → IsKept declared final axioms → IsAcFree declared → IsAcFree final
free_kept declared final axioms kept free = λ f (info, symbol, kind, ac).
    let found = declared_symbol declared final axioms f info kept symbol in
    let own : SymInfo = found.1 in
    let of = found.3.2 in
    let own_kind : own.kind ≡ Ctor =
    kind_kept declared axioms _ own info.kind of.kind (λ fun. subst IsFunction kind fun) ∙ kind in
    free f (own, (found.0, found.2), own_kind, sym of.ac ∙ ac)

-- ---- the place of an equation of the last resort

abbrev one_if : Bool → ℕ
one_if b = cond b 1 0

only_one : (test : AxiomDeclaration → Bool) (axioms : List AxiomDeclaration)
    (a b : AxiomDeclaration) → count_by test axioms ≡ 1 → Contains axioms a → Contains axioms b
    → test a ≡ true → test b ≡ true → a ≡ b
only_one test [] a b one has too p q = absurd (contains_none a has)
only_one test (x ∷ axioms) a b one has too p q =
    by_cases (λ few left right. only_one test axioms a b few left right p q)
    (contains_cases x a axioms has) (contains_cases x b axioms too)
  where
    split : count_by test (x ∷ axioms) ≡ one_if (test x) + count_by test axioms
    split = sum_by-cons (λ (y : AxiomDeclaration). one_if (test y)) x axioms

    twice : (c : AxiomDeclaration) → test x ≡ true → Contains axioms c → test c ≡ true → ⊥
    twice c here later there =
        let rest = some_count test axioms c later there in
        let first : one_if (test x) ≡ 1 = ap one_if here in
        omega (arith, split, rest, first, one)

    in_rest : (count_by test axioms ≡ 1 → Contains axioms a → Contains axioms b → a ≡ b)
        → Contains axioms a → Contains axioms b → (t : Bool) → test x ≡ t → a ≡ b
    in_rest rest left right true here = absurd (twice a here left p)
    in_rest rest left right false here =
        let first : one_if (test x) ≡ 0 = ap one_if here in
        rest (omega (arith, split, first, one)) left right

    by_cases : (count_by test axioms ≡ 1 → Contains axioms a → Contains axioms b → a ≡ b)
        → (x ≡ a) ⊎ Contains axioms a → (x ≡ b) ⊎ Contains axioms b → a ≡ b
    by_cases rest (inl same) (inl also) = sym same ∙ also
    by_cases rest (inl same) (inr later) =
        absurd (twice b (subst (λ (y : AxiomDeclaration). test y ≡ true) (sym same) p) later q)
    by_cases rest (inr later) (inl same) =
        absurd (twice a (subst (λ (y : AxiomDeclaration). test y ≡ true) (sym same) q) later p)
    by_cases rest (inr left) (inr right) = in_rest rest left right (test x) refl

-- the equations of its function are the others, and then this one
listed_last : (sig : Signature) (axioms : List AxiomDeclaration) (f : List ℕ) (kind : SymKind)
    (es : List Equation) (a : AxiomDeclaration) (e : Equation)
    → AreEquationsOf sig axioms f kind es → kind ≡ Equations → Contains axioms a
    → (last : IsLastResortAmong sig axioms f a e) → es ≡ last.others ++ e ∷ []
listed_last sig axioms f kind es a e all is there last =
    one_list plain_equation_key es (last.others ++ e ∷ []) all.in_order order into from
  where
    this : ℕ × ℕ
    this = (e.priority, e.place)

    before : All (λ (x : ℕ × ℕ). ComesBefore x this) (map plain_equation_key last.others)
    before =
        keys_before last.others this
        (subst (λ (k : ℕ × ℕ).
        All (λ (x : Equation). ComesBefore (x.priority, x.place) k) last.others)
        (λ i. (sym last.means.means.priority i, sym last.means.means.place i))
        last.means.readable.last)

    order : AreInOrder (map plain_equation_key (last.others ++ e ∷ []))
    order =
        subst AreInOrder (sym (map-append plain_equation_key last.others (e ∷ [])))
        (order_append (map plain_equation_key last.others) (this ∷ []) last.ordinary.in_order
        (All-nil (ComesBefore this), tt) (λ k has. elim (contains_cases this k [] has) [
          | inl same ↦
              subst (λ (y : ℕ × ℕ). All (λ (x : ℕ × ℕ). ComesBefore x y)
              (map plain_equation_key last.others)) same before
          | inr none ↦ absurd (contains_none k none)
        ]))

    into : (x : Equation) → Contains es x → Contains (last.others ++ e ∷ []) x
    into x has =
        let some = ((all.just x).0 has).1 in
        elim some.2 [
          | inl means ↦ Contains-append_left last.others (e ∷ []) x
              ((last.ordinary.just x).1 (some.0, some.1, means))
          | inr among ↦ (
              let same : some.0 ≡ a =
              only_one (states_last_resort sig f) axioms some.0 a last.only some.1 there
              (last_states sig axioms f some.0 x among) (last_states sig axioms f a e last) in
              let one : x ≡ e =
              last_among_one sig axioms f a x e
              (subst (λ (b : AxiomDeclaration). IsLastResortAmong sig axioms f b x) same among)
              last in
              subst (Contains (last.others ++ e ∷ [])) (sym one) (Contains-push last.others e)
              )
        ]

    from : (x : Equation) → Contains (last.others ++ e ∷ []) x → Contains es x
    from x has = elim (Contains-push_cases last.others e x has) [
      | inl old ↦ (
          let some = (last.ordinary.just x).0 old in
          (all.just x).1 (is, (some.0, some.1, inl some.2))
          )
      | inr same ↦ subst (Contains es) same ((all.just e).1 (is, (a, there, inr last)))
    ]

some_same : {X : Type 0} (x y : X) → Some x ≡ Some y → x ≡ y
some_same x y e = cc

-- what stands at a place of these is one of the first, or comes after them
place_cases : (es : List Equation) (e x : Equation) (i : ℕ) → slice_get (es ++ e ∷ []) i ≡ Some x
    → Contains es x ⊎ (take i (es ++ e ∷ []) ≡ es)
place_cases [] e x zero at = inr refl
place_cases [] e x (suc i) at = absurd (let never : ⊥ = cc in never)
place_cases (y ∷ es) e x zero at =
    inl (subst (Contains (y ∷ es)) (some_same y x at) (contains_here y es))
place_cases (y ∷ es) e x (suc i) at = elim (place_cases es e x i at) [
  | inl there ↦ inl (contains_there y x es there)
  | inr same ↦ inr (ap (λ (zs : List Equation). y ∷ zs) same)
]

-- ---- the guards

pub bound_guards : (declared final : Signature) (axioms : List AxiomDeclaration) (f : List ℕ)
    (kind : SymKind) (es : List Equation) (a : AxiomDeclaration) (e : Equation) (i : ℕ)
    → IsKept declared final axioms → AreEquationsOf declared axioms f kind es → kind ≡ Equations
    → Contains axioms a → IsLastResortAmong declared axioms f a e → slice_get es i ≡ Some e
    → variable_count a.pattern * 2 < 4294967296
    → IfSome e.last_resort (AreGuards final (take i es) e)
bound_guards declared final axioms f kind es a e i kept all kind_is there last at most =
    subst (λ (o : Option (List Guard)). IfSome o (AreGuards final (take i es) e))
    (sym is.last_resort)
    (subst (λ (others : List Equation). AreGuards final others e is.guards) (sym front) (record {
      parameters = λ none. within.some (sym is.means.parameters ∙ none);
      each =
          guards_among declared is.info is.stated.over last.others is.parts.guards is.guards
          ordinary is.mean_guards;
      few =
          (let after =
          after_count declared is.info is.stated.over last.others is.parts.guards is.guards
          (e.parameters + length e.variables) is.mean_guards in
          let long : length e.variables ≡ length is.means.variables =
          ap (λ (ss : List ℕ). length ss) is.means.sorts
          ∙ length_mapped (λ (v : List ℕ × ℕ). v.1) is.means.variables in
          let counted = all_few_variables declared is.parts.equation.patterns in
          let numbered : length is.means.variables
          ≡ length (with_all_variables declared [] (all_read is.parts.equation.patterns)) =
          ap (λ (vs : List (List ℕ × ℕ)). length vs) is.means.numbered in
          let whole = within.whole in
          let given = within.parameters in
          let parameters = is.means.parameters in
          omega (arith, after, long, counted, numbered, whole, given, parameters, most));
      no_ac = free_kept declared final axioms kept is.readable.no_ac;
    }))
  where
    is : MeansLastResort declared f last.others a e
    is = last.means

    within : IsResortWithin (variable_count a.pattern) is.stated is.parts
    within =
        resort_count (variable_count a.pattern) is.stated is.parts is.readable.form
        (statement_count a.pattern is.stated
        (class_equates declared a is.stated is.states.class).stated)

    ordinary : (x : Equation) → Contains last.others x → x.last_resort ≡ None
    ordinary x has = let some = (last.ordinary.just x).0 has in let means = some.2 in means.last_resort

    listed : es ≡ last.others ++ e ∷ []
    listed = listed_last declared axioms f kind es a e all kind_is there last

    front : take i es ≡ last.others
    front =
        by_place (place_cases last.others e e i (ap (λ (xs : List Equation). slice_get xs i) (sym listed) ∙ at))
      where
        by_place : Contains last.others e ⊎ (take i (last.others ++ e ∷ []) ≡ last.others)
            → take i es ≡ last.others
        by_place (inr same) = ap (take i) listed ∙ same
        by_place (inl has) =
            let both : Some is.guards ≡ None = sym is.last_resort ∙ ordinary e has in
            absurd (let never : ⊥ = cc in never)
