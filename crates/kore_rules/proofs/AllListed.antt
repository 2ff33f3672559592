-- All equations of the functions, put together of those of the last resort and of the others.
use Rattle.std.proofs.Common.{◌≡◌, ◌≤◌, ℕ, ◌+◌, Bool, true, false, List, [], ◌∷◌, ◌++◌, map, length}
use Rattle.std.proofs.Common.{Contains, refl, sym, ap, ◌∙◌, subst, ◌⊎◌, inl, inr, arith, cond, All}
use Rattle.std.specs.Prelude.{◌↔◌, IsTrue, Vec, filter, count_by, not}
use Rattle.std.specs.Global.{Global}
use Rattle.std.specs.List.Sorted.{IsPermutation}
use Rattle.std.proofs.lemmas.Bool.{false≢true}
use Rattle.std.proofs.lemmas.List.{map-append, length-append}
use Rattle.std.proofs.lemmas.List.Elements.{All-nil, All-cons, All-head, All-tail, All-append}
use Rattle.std.proofs.lemmas.List.Elements.{Contains-append_left, Contains-append_right}
use Rattle.std.proofs.lemmas.List.Sorted.{IsPermutation-sym, Contains-permutation}
use Rattle.std.proofs.lemmas.List.Sorted.{length_permutation}
use Rattle.std.proofs.lemmas.List.Sums.{sum_by-cons, length-filter, count_by-le-length}
use Rattle.kore_text.specs.Trees.{AxiomDeclaration}
use Rattle.rule_core.proofs.Belows.{both_true, true_both}
use Rattle.rule_core.specs.ProgramView.{function_equation}
use Rattle.rule_core.specs.Rules.{ComesBefore, AreInOrder}
use Rattle.rule_core.specs.Rules as plain
use Rattle.rule_core.specs.WellSorted.{IsSignature}
use Rattle.rule_core.specs.declared.rules.Equation.{Equation}
use Rattle.rule_core.specs.declared.signature.Signature.{Signature}
use Rattle.kore_sig.proofs.FirstLaws.{contains_here, contains_there, contains_cases, contains_none}
use Rattle.kore_axioms.specs.AxiomClasses.{axiom_class}
use Rattle.kore_axioms.specs.Priorities.{priority_of}
use Rattle.kore_equations.specs.EquationMeanings.{MeansEquation, IsUnreadable}
use Rattle.kore_rules.specs.AxiomsRead.{AreRead, HasStated, IsNumberedEquation, IsNamedOrdinary}
use Rattle.kore_rules.specs.AxiomsRead.{IsUnreadableOrdinary, is_marked, is_ordinary}
use Rattle.kore_rules.specs.AxiomsRead.{numbered_equation}
use Rattle.kore_rules.specs.EquationsAmong.{AreTried, AreOrdinary, is_equation_of, is_last_resort}
use Rattle.kore_rules.specs.EquationsAmong.{IsLastResortAmong, IsEquationAmong}
use Rattle.kore_rules.specs.EquationsAmong.{IsUnreadableAmong}
use Rattle.kore_rules.specs.KeptNames.{AreOf}
use Rattle.kore_rules.specs.LastResortsRead.{AreOthers}
use Rattle.kore_rules.specs.LastResortsRead.{IsUnreadableLast, HaveReadLast, AreAllListed}
use Rattle.kore_rules.specs.TrialOrder.{equation_key, is_of, listed_at}
use Rattle.kore_rules.specs.declared.last_resorts.LastResorts.{LastResorts}
use Rattle.kore_rules.proofs.AmongLaws.{equation_stated, meaning_states, ordinary_one}
use Rattle.kore_rules.proofs.MeaningsAreOne.{readable_or_not}
use Rattle.kore_rules.proofs.ProgramLaws.{listed_just, listed_in_order, filter_own}
use Rattle.kore_rules.proofs.ProgramLaws.{plain_equation_key}
use Rattle.kore_rules.proofs.RulesFound.{IsRead, equation_read}

-- the equations in front of those of the last resort
pub others_are : (sig : Signature) (axioms : List AxiomDeclaration) (old new : List Equation)
    (lists : List (Vec Equation Global))
    → AreRead (IsNumberedEquation sig) (λ (e : ℕ × plain.Equation). e.1.place) axioms
    (map numbered_equation old) → IsPermutation old new → AreInOrder (map equation_key new)
    → ((n : ℕ) → listed_at lists n ≡ filter (is_of n) new) → AreOthers sig axioms lists
others_are sig axioms old new lists read moved in_order listed f n number =
    subst (λ (es : List Equation). AreOrdinary sig axioms f (map function_equation es))
    (sym (listed n)) (record {
      just = listed_just sig (MeansEquation sig) axioms old new f n number read moved;
      in_order = listed_in_order new n in_order;
    })

-- ---- the order of trial

pub order_append : (xs ys : List (ℕ × ℕ)) → AreInOrder xs → AreInOrder ys
    → ((y : ℕ × ℕ) → Contains ys y → All (λ (x : ℕ × ℕ). ComesBefore x y) xs)
    → AreInOrder (xs ++ ys)
order_append [] ys a b before = b
order_append (x ∷ xs) ys a b before = (
  All-append (ComesBefore x) xs ys a.0 (all_from (ComesBefore x) ys
      (λ y has. All-head (λ (z : ℕ × ℕ). ComesBefore z y) x xs (before y has))),
  order_append xs ys a.1 b
      (λ y has. All-tail (λ (z : ℕ × ℕ). ComesBefore z y) x xs (before y has)),
)
  where
    all_from : (P : ℕ × ℕ → Type 0) (zs : List (ℕ × ℕ)) → ((z : ℕ × ℕ) → Contains zs z → P z)
        → All P zs
    all_from P [] each = All-nil P
    all_from P (z ∷ zs) each =
        All-cons P z zs (each z (contains_here z zs))
        (all_from P zs (λ w has. each w (contains_there z w zs has)))

pub keys_before : (es : List plain.Equation) (k : ℕ × ℕ)
    → All (λ (e : plain.Equation). ComesBefore (e.priority, e.place) k) es
    → All (λ (x : ℕ × ℕ). ComesBefore x k) (map plain_equation_key es)
keys_before [] k all = All-nil (λ (x : ℕ × ℕ). ComesBefore x k)
keys_before (e ∷ es) k all =
    let P : plain.Equation → Type 0 = λ x. ComesBefore (x.priority, x.place) k in
    All-cons (λ (x : ℕ × ℕ). ComesBefore x k) (plain_equation_key e) (map plain_equation_key es)
    (All-head P e es all) (keys_before es k (All-tail P e es all))

mapped_key : (es : List plain.Equation) (k : ℕ × ℕ) → Contains (map plain_equation_key es) k
    → (e : plain.Equation) × Contains es e × (plain_equation_key e ≡ k)
mapped_key [] k has = absurd (contains_none k has)
mapped_key (e ∷ es) k has =
    elim (contains_cases (plain_equation_key e) k (map plain_equation_key es) has) [
      | inl same ↦ (e, contains_here e es, same)
      | inr later ↦ let found =
          mapped_key es k later in (found.0, contains_there e found.0 es found.1, found.2)
    ]

-- ---- all equations of a function

append_cases : {X : Type 0} (xs ys : List X) (x : X) → Contains (xs ++ ys) x
    → Contains xs x ⊎ Contains ys x
append_cases [] ys x has = inr has
append_cases (z ∷ xs) ys x has = elim (contains_cases z x (xs ++ ys) has) [
  | inl same ↦ inl (subst (Contains (z ∷ xs)) same (contains_here z xs))
  | inr later ↦ elim (append_cases xs ys x later)
      [ inl left ↦ inl (contains_there z x xs left) | inr right ↦ inr right ]
]

-- the ordinary equations, and then those of the last resort
tried : (sig : Signature) (axioms : List AxiomDeclaration) (f : List ℕ)
    (es last : List plain.Equation) → AreOrdinary sig axioms f es
    → ((e : plain.Equation) → Contains last e
    ↔ ((a : AxiomDeclaration) × Contains axioms a × IsLastResortAmong sig axioms f a e))
    → AreInOrder (map plain_equation_key last)
    → AreTried (IsEquationAmong sig axioms f) axioms (es ++ last)
tried sig axioms f es last ordinary just in_order = record {
  just = λ e. (
    λ has. elim (append_cases es last e has) [
      | inl left ↦ (let some = (ordinary.just e).0 left in (some.0, some.1, inl some.2))
      | inr right ↦ (let some = (just e).0 right in (some.0, some.1, inr some.2))
    ],
    λ (a, there, is). elim is [
      | inl means ↦ Contains-append_left es last e ((ordinary.just e).1 (a, there, means))
      | inr among ↦ Contains-append_right es last e ((just e).1 (a, there, among))
    ],
  );
  in_order =
      subst AreInOrder (sym (map-append plain_equation_key es last))
      (order_append (map plain_equation_key es) (map plain_equation_key last) ordinary.in_order
      in_order (λ k has.
      let found = mapped_key last k has in
      let some = (just found.0).0 found.1 in
      let is = some.2 in
      let same : es ≡ is.others = ordinary_one sig axioms f es is.others ordinary is.ordinary in
      let key : ◌≡◌ {A = ℕ × ℕ} (priority_of some.0.attributes, some.0.at) k =
      (λ i. (sym is.means.means.priority i, sym is.means.means.place i)) ∙ found.2 in
      keys_before es k
      (subst (λ (x : ℕ × ℕ). All (λ (e : plain.Equation). ComesBefore (e.priority, e.place) x) es)
      key (subst (λ (xs : List plain.Equation).
      All (λ (e : plain.Equation).
      ComesBefore (e.priority, e.place) (priority_of some.0.attributes, some.0.at)) xs)
      (sym same) is.means.readable.last))));
}

-- ---- how many

abbrev one_if : Bool → ℕ
one_if b = cond b 1 0

one_of_two : (test : AxiomDeclaration → Bool) (xs : List AxiomDeclaration)
    → count_by (λ (a : AxiomDeclaration). not (test a)) xs + count_by test xs ≤ length xs
one_of_two test [] = omega arith
one_of_two test (x ∷ xs) =
    let rest = one_of_two test xs in
    let a = sum_by-cons (λ (y : AxiomDeclaration). one_if (not (test y))) x xs in
    let b = sum_by-cons (λ (y : AxiomDeclaration). one_if (test y)) x xs in
    let here = by_case (test x) in
    omega (arith, rest, a, b, here)
  where
    by_case : (t : Bool) → one_if (not t) + one_if t ≤ 1
    by_case true = omega arith
    by_case false = omega arith

fewer : (test : Equation → Bool) (es : List Equation) → length (filter test es) ≤ length es
fewer test es =
    let a = length-filter test es in
    let b = count_by-le-length test es in omega (arith, a, b)

-- ---- the lists

pub all_listed : (sig : Signature) (axioms : List AxiomDeclaration)
    (old new last : List Equation) (first lists : List (Vec Equation Global)) (marked : List Bool)
    (read : LastResorts)
    → AreRead (IsNumberedEquation sig) (λ (e : ℕ × plain.Equation). e.1.place) axioms
    (map numbered_equation old) → AreOf (IsNamedOrdinary sig) axioms old
    → length old ≤ count_by is_ordinary axioms → IsPermutation old new
    → AreInOrder (map equation_key new) → ((n : ℕ) → listed_at first n ≡ filter (is_of n) new)
    → HaveReadLast sig axioms axioms marked read → IsPermutation read.equations.items last
    → AreInOrder (map equation_key last)
    → ((n : ℕ) → listed_at lists n ≡ listed_at first n ++ filter (is_of n) last)
    → AreAllListed sig axioms lists
all_listed sig axioms old new last first lists marked read ordinary named short moved in_order
    listed had permuted in_order_too added =
    record {
      listed = λ f n number.
          subst (AreTried (IsEquationAmong sig axioms f) axioms)
          (sym (ap (map function_equation) (added n)
          ∙ map-append function_equation (listed_at first n) (filter (is_of n) last)))
          (tried sig axioms f (map function_equation (listed_at first n))
          (map function_equation (filter (is_of n) last))
          (others_are sig axioms old new first ordinary moved in_order listed f n number)
          (listed_just sig (IsLastResortAmong sig axioms) axioms read.equations.items last f n
          number had.equations permuted)
          (listed_in_order last n in_order_too));
      named = λ n e has. elim (which n e has) [
        | inl left ↦ (
            let some =
            named e (Contains-permutation new old e (IsPermutation-sym old new moved)
            (filter_own new n e left).0) in
            (some.0, some.1, (some.2.0, inl some.2.1))
            )
        | inr right ↦ (
            let some =
            had.named e (Contains-permutation last read.equations.items e
            (IsPermutation-sym read.equations.items last permuted) (filter_own last n e right).0) in
            (some.0, some.1, (some.2.0, inr some.2.1))
            )
      ];
      own = λ n e has. elim (which n e has) [
        | inl left ↦ (filter_own new n e left).1
        | inr right ↦ (filter_own last n e right).1
      ];
      few = λ n.
          let a = fewer (is_of n) new in
          let b = fewer (is_of n) last in
          let c = length_permutation old new moved in
          let d = length_permutation read.equations.items last permuted in
          let e = had.few in
          let f = one_of_two is_last_resort axioms in
          let whole : length (listed_at lists n)
          ≡ length (filter (is_of n) new ++ filter (is_of n) last) =
          ap length (split n) in
          let long = length-append (filter (is_of n) new) (filter (is_of n) last) in
          omega (arith, a, b, c, d, e, f, short, whole, long);
    }
  where
    split : (n : ℕ) → listed_at lists n ≡ filter (is_of n) new ++ filter (is_of n) last
    split n = added n ∙ ap (λ (es : List Equation). es ++ filter (is_of n) last) (listed n)

    which : (n : ℕ) (e : Equation) → Contains (listed_at lists n) e
        → Contains (filter (is_of n) new) e ⊎ Contains (filter (is_of n) last) e
    which n e has =
        append_cases (filter (is_of n) new) (filter (is_of n) last) e
        (subst (λ (es : List Equation). Contains es e) (split n) has)

-- ---- what is not readable

unreadable_equation : (sig : Signature) (axioms : List AxiomDeclaration) (f : List ℕ)
    (a : AxiomDeclaration) → IsSignature sig → IsUnreadableAmong sig axioms f a
    → IsUnreadable sig f a
unreadable_equation sig axioms f a sorted bad =
    let stated = equation_stated f (axiom_class sig a) bad.states in
    by_reading (subst (IsRead sig a) stated.2 (equation_read sig a stated.0 sorted stated.1))
  where
    by_reading : IsRead sig a f → IsUnreadable sig f a
    by_reading (inl (e, is)) = absurd (bad.unreadable e (inl is))
    by_reading (inr not) = not

pub ordinary_among : (sig : Signature) (axioms : List AxiomDeclaration) (f : List ℕ)
    (a : AxiomDeclaration) → IsUnreadableOrdinary sig f a → IsUnreadableAmong sig axioms f a
ordinary_among sig axioms f a (ordinary, bad) = record {
  states = meaning_states sig f a bad.stated bad.info bad.states;
  unreadable = λ e is. elim is [
    | inl means ↦ readable_or_not sig f a e means bad
    | inr last ↦ false≢true (sym ordinary ∙ last.means.readable.last_resort)
  ];
}

pub last_resort_among : (sig : Signature) (axioms : List AxiomDeclaration) (f : List ℕ)
    (a : AxiomDeclaration) → IsUnreadableLast sig axioms f a → IsUnreadableAmong sig axioms f a
last_resort_among sig axioms f a (states, none) =
    let both = both_true (is_last_resort a) (is_equation_of f (axiom_class sig a)) states in
    record {
      states = both.1;
      unreadable = λ e is. elim is [
        | inl means ↦ false≢true (sym means.readable.no_last_resort ∙ both.0)
        | inr last ↦ none e last
      ];
    }

among_cases : (sig : Signature) (axioms : List AxiomDeclaration) (f : List ℕ)
    (a : AxiomDeclaration) → IsSignature sig → IsUnreadableAmong sig axioms f a
    → IsUnreadableOrdinary sig f a ⊎ IsUnreadableLast sig axioms f a
among_cases sig axioms f a sorted bad = by_case (is_last_resort a) refl where
  by_case : (b : Bool) → is_last_resort a ≡ b
      → IsUnreadableOrdinary sig f a ⊎ IsUnreadableLast sig axioms f a
  by_case false ordinary = inl (ordinary, unreadable_equation sig axioms f a sorted bad)
  by_case true last =
      inr (true_both _ _ last bad.states, λ e is. bad.unreadable e (inr is))

-- the marks of all functions with an equation that is not readable
pub all_marked : (sig : Signature) (axioms : List AxiomDeclaration) (marked : List Bool)
    (read : LastResorts) → IsSignature sig
    → ((n : ℕ) → IsTrue (is_marked marked n)
    ↔ HasStated sig (IsUnreadableOrdinary sig) axioms n)
    → HaveReadLast sig axioms axioms marked read → (n : ℕ)
    → IsTrue (is_marked read.unreadable.items n)
    ↔ HasStated sig (IsUnreadableAmong sig axioms) axioms n
all_marked sig axioms marked read sorted before had n = (
  λ set. elim ((had.unreadable n).0 set) [
    | inl old ↦ (
        let some = (before n).0 old in
        let of = some.2 in
        (some.0, some.1, (of.0, of.1, ordinary_among sig axioms of.0 some.0 of.2))
        )
    | inr some ↦ (
        let of = some.2 in
        (some.0, some.1, (of.0, of.1, last_resort_among sig axioms of.0 some.0 of.2))
        )
  ],
  λ (a, there, (f, number, bad)). (had.unreadable n).1 (elim (among_cases sig axioms f a sorted bad) [
    | inl ordinary ↦ inl ((before n).1 (a, there, (f, number, ordinary)))
    | inr last ↦ inr (a, there, (f, number, last))
  ]),
)
