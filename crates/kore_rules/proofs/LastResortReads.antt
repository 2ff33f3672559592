-- What is read of the equations of the last resort, axiom by axiom.
use Rattle.std.proofs.Common.{◌≡◌, ◌≤◌, ℕ, ◌+◌, Bool, true, false, ◌&&◌, List, [], ◌∷◌, ◌++◌, map, length}
use Rattle.std.proofs.Common.{Contains, Some, None, refl, sym, ap, ◌∙◌, subst, ◌⊎◌, inl, inr}
use Rattle.std.proofs.Common.{eq-eqb, length-append, arith, cond}
use Rattle.std.specs.Prelude.{◌||◌, ◌==◌, ◌↔◌, IsTrue, count_by}
use Rattle.std.proofs.lemmas.Bool.{eqb-true, false≢true}
use Rattle.std.proofs.lemmas.List.{map-append}
use Rattle.std.proofs.lemmas.List.Sums.{sum_by-cons}
use Rattle.kore_text.specs.Trees.{AxiomDeclaration}
use Rattle.rule_core.proofs.Belows.{both_true, true_both}
use Rattle.rule_core.specs.Named.{number_of_name}
use Rattle.rule_core.specs.ProgramView.{function_equation}
use Rattle.rule_core.specs.Rules as plain
use Rattle.rule_core.specs.declared.rules.Equation.{Equation}
use Rattle.rule_core.specs.declared.signature.Signature.{Signature}
use Rattle.kore_sig.proofs.FirstLaws.{contains_cases, contains_none}
use Rattle.kore_shapes.specs.Statements.{StatedEquation}
use Rattle.kore_axioms.specs.AxiomClasses.{axiom_class}
use Rattle.kore_equations.specs.LastResortEquations.{MeansLastResort, IsUnreadableLastResort}
use Rattle.kore_equations.specs.NamedEquations.{MeansNamedLastResort}
use Rattle.kore_rules.specs.AxiomsRead.{HasStated, numbered_equation, is_marked}
use Rattle.kore_rules.specs.EquationsAmong.{AreOrdinary, is_equation_of, is_last_resort}
use Rattle.kore_rules.specs.EquationsAmong.{states_last_resort, IsLastResortAmong}
use Rattle.kore_rules.specs.KeptNames.{AreOf, IsNamedLastResort}
use Rattle.kore_rules.specs.LastResortsRead.{StatesLast, IsStatedLast, HaveStated}
use Rattle.kore_rules.specs.LastResortsRead.{IsNumberedLast, IsNamedLast, IsUnreadableLast}
use Rattle.kore_rules.specs.LastResortsRead.{HaveReadLast}
use Rattle.kore_rules.specs.AxiomsRead.{AreRead}
use Rattle.kore_rules.specs.declared.last_resorts.LastResorts.{LastResorts}
use Rattle.kore_rules.proofs.AmongLaws.{states_equation, function_stated, equation_stated}
use Rattle.kore_rules.proofs.AmongLaws.{last_states, last_among_one, ordinary_one}
use Rattle.kore_rules.proofs.AxiomSteps.{some_more, some_last, some_cases, read_more, read_same}
use Rattle.kore_rules.proofs.AxiomSteps.{of_more, of_same, within_more, within_same, count_more}
use Rattle.kore_rules.proofs.AxiomSteps.{count_same}
use Rattle.kore_rules.proofs.MeaningsAreOne.{last_or_not}
use Rattle.kore_rules.proofs.ProgramLaws.{name_at}

some_same : {A : Type 0} (x y : A) → Some x ≡ Some y → x ≡ y
some_same x y e = cc

-- ---- the axioms that state one

pub states_own : (sig : Signature) (a : AxiomDeclaration) (e : StatedEquation) → StatesLast sig a e
    → states_last_resort sig e.function a ≡ true
states_own sig a e (last, class) =
    true_both _ _ last (states_equation e.function (axiom_class sig a) e class refl)

own_function : (sig : Signature) (f : List ℕ) (a : AxiomDeclaration) (e : StatedEquation)
    → StatesLast sig a e → states_last_resort sig f a ≡ true → e.function ≡ f
own_function sig f a e (last, class) is =
    function_stated f (axiom_class sig a) e class
    (both_true (is_last_resort a) (is_equation_of f (axiom_class sig a)) is).1

-- an axiom that states none states none of any function
not_stated : (sig : Signature) (f : List ℕ) (a : AxiomDeclaration) → IsStatedLast sig a None
    → states_last_resort sig f a ≡ false
not_stated sig f a none = by_case (states_last_resort sig f a) refl where
  by_case : (b : Bool) → states_last_resort sig f a ≡ b → b ≡ false
  by_case false is = refl
  by_case true is =
      let both = both_true (is_last_resort a) (is_equation_of f (axiom_class sig a)) is in
      let stated = equation_stated f (axiom_class sig a) both.1 in
      absurd (none stated.0 (both.0, stated.1))

-- ---- how many there are

-- at least one axiom is marked in the first list, and at least two in the second
pub record AreCounted (sig : Signature) (axioms : List AxiomDeclaration) (ones twos : List Bool) :
    Type 0 where
  pub one : HaveStated sig 1 axioms ones
  pub two : HaveStated sig 2 axioms twos

pub none_counted : (sig : Signature) (one two : List Bool) → ((n : ℕ) → is_marked one n ≡ false)
    → ((n : ℕ) → is_marked two n ≡ false) → AreCounted sig [] one two
none_counted sig one two a b = record {
  one = λ f k number. (λ set. absurd (false≢true (sym (a k) ∙ set)), λ le. absurd (omega (arith, le)));
  two = λ f k number. (λ set. absurd (false≢true (sym (b k) ∙ set)), λ le. absurd (omega (arith, le)));
}

pub counted_same : (sig : Signature) (axioms : List AxiomDeclaration) (a : AxiomDeclaration)
    (one two : List Bool) → IsStatedLast sig a None → AreCounted sig axioms one two
    → AreCounted sig (axioms ++ a ∷ []) one two
counted_same sig axioms a one two none before = record {
  one = λ f k number.
      let same = count_same (states_last_resort sig f) axioms a (not_stated sig f a none) in (
        λ set. let le = (before.one f k number).0 set in omega (arith, le, same),
        λ le. (before.one f k number).1 (omega (arith, le, same)),
      );
  two = λ f k number.
      let same = count_same (states_last_resort sig f) axioms a (not_stated sig f a none) in (
        λ set. let le = (before.two f k number).0 set in omega (arith, le, same),
        λ le. (before.two f k number).1 (omega (arith, le, same)),
      );
}

or_cases : (a b : Bool) → (a || b) ≡ true → (a ≡ true) ⊎ (b ≡ true)
or_cases true b e = inl refl
or_cases false b e = inr e

left_true : (a b : Bool) → a ≡ true → (a || b) ≡ true
left_true true b e = refl
left_true false b e = absurd (let never : ⊥ = cc in never)

right_true : (a b : Bool) → b ≡ true → (a || b) ≡ true
right_true true b e = refl
right_true false b e = e

or_false : (a b : Bool) → b ≡ false → (a || b) ≡ a
or_false true b e = refl
or_false false b e = e

and_false : (a b : Bool) → b ≡ false → (a && b) ≡ false
and_false true b e = e
and_false false b e = refl

two_or_one : (n : ℕ) → (2 ≤ n + 1) → 1 ≤ n
two_or_one n le = omega (arith, le)

pub counted_more : (sig : Signature) (axioms : List AxiomDeclaration) (a : AxiomDeclaration)
    (e : StatedEquation) (m : ℕ) (one two one_new two_new : List Bool) → StatesLast sig a e
    → number_of_name sig.symbols e.function ≡ Some m
    → ((n : ℕ) → is_marked one_new n ≡ (is_marked one n || (n == m)))
    → ((n : ℕ) → is_marked two_new n ≡ (is_marked two n || (is_marked one n && (n == m))))
    → AreCounted sig axioms one two → AreCounted sig (axioms ++ a ∷ []) one_new two_new
counted_more sig axioms a e m one two one_new two_new states number ones twos before = record {
  one = λ f k its. first f k its (k == m) refl;
  two = λ f k its. second f k its (k == m) refl;
}
  where
    here : (f : List ℕ) (k : ℕ) → number_of_name sig.symbols f ≡ Some k → (k == m) ≡ true
        → states_last_resort sig f a ≡ true
    here f k its same =
        subst (λ (g : List ℕ). states_last_resort sig g a ≡ true)
        (name_at sig.symbols e.function f m number (its ∙ ap Some (eqb-true k m same)))
        (states_own sig a e states)

    elsewhere : (f : List ℕ) (k : ℕ) → number_of_name sig.symbols f ≡ Some k → (k == m) ≡ false
        → states_last_resort sig f a ≡ false
    elsewhere f k its other = by_case (states_last_resort sig f a) refl where
      by_case : (b : Bool) → states_last_resort sig f a ≡ b → b ≡ false
      by_case false is = refl
      by_case true is =
          let same : m ≡ k =
          some_same m k (sym number
          ∙ ap (number_of_name sig.symbols) (own_function sig f a e states is) ∙ its) in
          absurd (false≢true (sym other ∙ eq-eqb k m (sym same)))

    first : (f : List ℕ) (k : ℕ) → number_of_name sig.symbols f ≡ Some k → (b : Bool)
        → (k == m) ≡ b
        → IsTrue (is_marked one_new k)
        ↔ (1 ≤ count_by (states_last_resort sig f) (axioms ++ a ∷ []))
    first f k its true same =
        let more = count_more (states_last_resort sig f) axioms a (here f k its same) in (
          λ set. omega (arith, more),
          λ le. ones k ∙ right_true (is_marked one k) (k == m) same,
        )
    first f k its false other =
        let kept = count_same (states_last_resort sig f) axioms a (elsewhere f k its other) in
        let marks : is_marked one_new k ≡ is_marked one k =
        ones k ∙ or_false (is_marked one k) (k == m) other in (
          λ set. let le = (before.one f k its).0 (sym marks ∙ set) in omega (arith, le, kept),
          λ le. marks ∙ (before.one f k its).1 (omega (arith, le, kept)),
        )

    second : (f : List ℕ) (k : ℕ) → number_of_name sig.symbols f ≡ Some k → (b : Bool)
        → (k == m) ≡ b
        → IsTrue (is_marked two_new k)
        ↔ (2 ≤ count_by (states_last_resort sig f) (axioms ++ a ∷ []))
    second f k its true same =
        let more = count_more (states_last_resort sig f) axioms a (here f k its same) in (
          λ set. elim (or_cases (is_marked two k) (is_marked one k && (k == m)) (sym (twos k) ∙ set)) [
            | inl two_set ↦ (let le = (before.two f k its).0 two_set in omega (arith, le, more))
            | inr one_set ↦ (let le = (before.one f k its).0
                (both_true (is_marked one k) (k == m) one_set).0 in omega (arith, le, more))
          ],
          λ le. twos k ∙ right_true (is_marked two k) (is_marked one k && (k == m))
              (true_both (is_marked one k) (k == m)
              ((before.one f k its).1 (omega (arith, le, more))) same),
        )
    second f k its false other =
        let kept = count_same (states_last_resort sig f) axioms a (elsewhere f k its other) in
        let marks : is_marked two_new k ≡ is_marked two k =
        twos k ∙ or_false (is_marked two k) (is_marked one k && (k == m))
        (and_false (is_marked one k) (k == m) other) in (
          λ set. let le = (before.two f k its).0 (sym marks ∙ set) in omega (arith, le, kept),
          λ le. marks ∙ (before.two f k its).1 (omega (arith, le, kept)),
        )

-- ---- what is read

abbrev place_of : ℕ × plain.Equation → ℕ
place_of e = e.1.place

abbrev pair_of : ℕ → plain.Equation → ℕ × plain.Equation
pair_of n x = (n, x)

pair_same : (a b : ℕ) (x y : plain.Equation) → a ≡ b → x ≡ y → pair_of a x ≡ pair_of b y
pair_same a b x y e f = ap (λ (n : ℕ). pair_of n x) e ∙ ap (pair_of b) f

-- the marks after some axioms
abbrev Marks : Signature → List AxiomDeclaration → List AxiomDeclaration → List Bool → List Bool
    → Type 0
Marks sig axioms some marked marks =
    (n : ℕ) → IsTrue (is_marked marks n)
    ↔ (IsTrue (is_marked marked n) ⊎ HasStated sig (IsUnreadableLast sig axioms) some n)

marks_same : (sig : Signature) (axioms some : List AxiomDeclaration) (a : AxiomDeclaration)
    (marked old new : List Bool) → new ≡ old
    → ((f : List ℕ) → IsUnreadableLast sig axioms f a → ⊥) → Marks sig axioms some marked old
    → Marks sig axioms (some ++ a ∷ []) marked new
marks_same sig axioms some a marked old new same fine before n =
    let P : AxiomDeclaration → Type 0 =
    λ b. (f : List ℕ) × (number_of_name sig.symbols f ≡ Some n) × IsUnreadableLast sig axioms f b in (
      λ set. elim ((before n).0 (ap (λ (ms : List Bool). is_marked ms n) (sym same) ∙ set)) [
        | inl old_set ↦ inl old_set
        | inr stated ↦ inr (some_more P some a stated)
      ],
      λ h. ap (λ (ms : List Bool). is_marked ms n) same ∙ elim h [
        | inl old_set ↦ (before n).1 (inl old_set)
        | inr stated ↦ elim (some_cases P some a stated) [
          | inl b ↦ (before n).1 (inr b)
          | inr (f, number, is) ↦ absurd (fine f is)
        ]
      ],
    )

marks_more : (sig : Signature) (axioms some : List AxiomDeclaration) (a : AxiomDeclaration)
    (e : StatedEquation) (k : ℕ) (marked old new : List Bool) → StatesLast sig a e
    → number_of_name sig.symbols e.function ≡ Some k → IsUnreadableLast sig axioms e.function a
    → ((n : ℕ) → is_marked new n ≡ (is_marked old n || (n == k)))
    → Marks sig axioms some marked old → Marks sig axioms (some ++ a ∷ []) marked new
marks_more sig axioms some a e k marked old new states number is set before n =
    let P : AxiomDeclaration → Type 0 =
    λ b. (f : List ℕ) × (number_of_name sig.symbols f ≡ Some n) × IsUnreadableLast sig axioms f b in (
      λ h. elim (or_cases (is_marked old n) (n == k) (sym (set n) ∙ h)) [
        | inl was ↦ elim ((before n).0 was) [
          | inl old_set ↦ inl old_set
          | inr stated ↦ inr (some_more P some a stated)
        ]
        | inr same ↦ inr (some_last P some a
            (e.function, number ∙ ap Some (sym (eqb-true n k same)), is))
      ],
      λ h. set n ∙ elim h [
        | inl old_set ↦ left_true (is_marked old n) (n == k) ((before n).1 (inl old_set))
        | inr stated ↦ elim (some_cases P some a stated) [
          | inl b ↦ left_true (is_marked old n) (n == k) ((before n).1 (inr b))
          | inr (g, its, other) ↦
              let numbers : n ≡ k =
              some_same n k (sym its
              ∙ ap (number_of_name sig.symbols) (sym (own_function sig g a e states other.0))
              ∙ number) in
              right_true (is_marked old n) (n == k) (eq-eqb n k numbers)
        ]
      ],
    )

-- an axiom that is no equation of the last resort of any function adds none
equations_same : (sig : Signature) (axioms some : List AxiomDeclaration) (a : AxiomDeclaration)
    (old : List Equation)
    → ((f : List ℕ) (x : plain.Equation) → IsLastResortAmong sig axioms f a x → ⊥)
    → AreRead (IsNumberedLast sig axioms) place_of some (map numbered_equation old)
    → AreRead (IsNumberedLast sig axioms) place_of (some ++ a ∷ []) (map numbered_equation old)
equations_same sig axioms some a old none before =
    read_same (IsNumberedLast sig axioms) place_of some (map numbered_equation old) a
    (λ y h. none h.0 y.1 h.2) before

-- the new axiom states none
pub last_passed : (sig : Signature) (axioms some : List AxiomDeclaration) (a : AxiomDeclaration)
    (marked : List Bool) (read : LastResorts) → IsStatedLast sig a None
    → HaveReadLast sig axioms some marked read
    → HaveReadLast sig axioms (some ++ a ∷ []) marked read
last_passed sig axioms some a marked read none before = record {
  equations =
      equations_same sig axioms some a read.equations.items
      (λ f x h. false≢true (sym (not_stated sig f a none) ∙ last_states sig axioms f a x h))
      before.equations;
  named = of_same (IsNamedLast sig axioms) some read.equations.items a before.named;
  few = within_same is_last_resort some a (length read.equations.items) before.few;
  marks = before.marks;
  unreadable =
      marks_same sig axioms some a marked read.unreadable.items read.unreadable.items refl
      (λ f h. false≢true (sym (not_stated sig f a none) ∙ h.0)) before.unreadable;
}

-- the new axiom states one that is not readable
pub last_unreadable : (sig : Signature) (axioms some : List AxiomDeclaration)
    (a : AxiomDeclaration) (e : StatedEquation) (k : ℕ) (marked : List Bool)
    (old new : LastResorts) → StatesLast sig a e
    → number_of_name sig.symbols e.function ≡ Some k → IsUnreadableLast sig axioms e.function a
    → new.equations.items ≡ old.equations.items
    → length new.unreadable.items ≡ length old.unreadable.items
    → ((n : ℕ) → is_marked new.unreadable.items n ≡ (is_marked old.unreadable.items n || (n == k)))
    → HaveReadLast sig axioms some marked old → HaveReadLast sig axioms (some ++ a ∷ []) marked new
last_unreadable sig axioms some a e k marked old new states number is same len set before = record {
  equations =
      subst (AreRead (IsNumberedLast sig axioms) place_of (some ++ a ∷ []))
      (ap (map numbered_equation) (sym same))
      (equations_same sig axioms some a old.equations.items
      (λ f x h. is.1 x (subst (λ (g : List ℕ). IsLastResortAmong sig axioms g a x)
      (sym (own_function sig f a e states (last_states sig axioms f a x h))) h)) before.equations);
  named =
      subst (AreOf (IsNamedLast sig axioms) (some ++ a ∷ [])) (sym same)
      (of_same (IsNamedLast sig axioms) some old.equations.items a before.named);
  few =
      subst (λ (es : List Equation). length es ≤ count_by is_last_resort (some ++ a ∷ [])) (sym same)
      (within_same is_last_resort some a (length old.equations.items) before.few);
  marks = len ∙ before.marks;
  unreadable =
      marks_more sig axioms some a e k marked old.unreadable.items new.unreadable.items states
      number is set before.unreadable;
}

numbered_one : (sig : Signature) (axioms : List AxiomDeclaration) (a : AxiomDeclaration)
    (e : StatedEquation) (n : ℕ) (x : plain.Equation) → StatesLast sig a e
    → number_of_name sig.symbols e.function ≡ Some n → IsLastResortAmong sig axioms e.function a x
    → (y : ℕ × plain.Equation) → IsNumberedLast sig axioms a y → pair_of n x ≡ y
numbered_one sig axioms a e n x states number is y (g, its, other) =
    let functions : e.function ≡ g =
    own_function sig g a e states (last_states sig axioms g a y.1 other) in
    pair_same n y.0 x y.1
    (some_same n y.0 (sym number ∙ ap (number_of_name sig.symbols) functions ∙ its))
    (last_among_one sig axioms e.function a x y.1 is
    (subst (λ (h : List ℕ). IsLastResortAmong sig axioms h a y.1) (sym functions) other))

-- the new axiom is one that is readable
pub last_read : (sig : Signature) (axioms some : List AxiomDeclaration) (a : AxiomDeclaration)
    (e : StatedEquation) (marked : List Bool) (old new : LastResorts) (made : Equation)
    → StatesLast sig a e → number_of_name sig.symbols e.function ≡ Some made.fun.0
    → IsNamedLastResort sig axioms e.function a made
    → new.equations.items ≡ old.equations.items ++ made ∷ []
    → new.unreadable.items ≡ old.unreadable.items → HaveReadLast sig axioms some marked old
    → HaveReadLast sig axioms (some ++ a ∷ []) marked new
last_read sig axioms some a e marked old new made states number is grown same before = record {
  equations =
      subst (AreRead (IsNumberedLast sig axioms) place_of (some ++ a ∷ []))
      (sym (ap (map numbered_equation) grown
      ∙ map-append numbered_equation old.equations.items (made ∷ [])))
      (read_more (IsNumberedLast sig axioms) place_of some
      (map numbered_equation old.equations.items) a (numbered_equation made)
      (e.function, number, is.among)
      (numbered_one sig axioms a e made.fun.0 (function_equation made) states number is.among)
      is.among.means.means.place before.equations);
  named =
      subst (AreOf (IsNamedLast sig axioms) (some ++ a ∷ [])) (sym grown)
      (of_more (IsNamedLast sig axioms) some old.equations.items a made (e.function, is)
      before.named);
  few =
      let more = within_more is_last_resort some a (length old.equations.items) states.0 before.few in
      let long = ap length grown ∙ length-append old.equations.items (made ∷ []) in
      omega (arith, more, long);
  marks = ap length same ∙ before.marks;
  unreadable =
      marks_same sig axioms some a marked old.unreadable.items new.unreadable.items same
      (λ f h. h.1 (function_equation made) (subst
      (λ (g : List ℕ). IsLastResortAmong sig axioms g a (function_equation made))
      (own_function sig f a e states h.0) is.among)) before.unreadable;
}

-- ---- one axiom beside the others

abbrev one_if : Bool → ℕ
one_if b = cond b 1 0

pub some_count : (test : AxiomDeclaration → Bool) (axioms : List AxiomDeclaration)
    (a : AxiomDeclaration) → Contains axioms a → test a ≡ true → 1 ≤ count_by test axioms
some_count test [] a has is = absurd (contains_none a has)
some_count test (b ∷ axioms) a has is =
    let split = sum_by-cons (λ (x : AxiomDeclaration). one_if (test x)) b axioms in
    elim (contains_cases b a axioms has) [
      | inl same ↦ (
          let one : one_if (test b) ≡ 1 = ap (λ x. one_if (test x)) same ∙ ap one_if is in
          omega (arith, split, one)
          )
      | inr later ↦ (let rest = some_count test axioms a later is in omega (arith, split, rest))
    ]

-- one that is readable beside the others is readable among all axioms, if it is the only one
pub last_among : (sig : Signature) (axioms : List AxiomDeclaration) (a : AxiomDeclaration)
    (e : StatedEquation) (others : List plain.Equation) (made : Equation) → Contains axioms a
    → StatesLast sig a e → (2 ≤ count_by (states_last_resort sig e.function) axioms → ⊥)
    → AreOrdinary sig axioms e.function others
    → MeansNamedLastResort sig e.function others a made
    → IsNamedLastResort sig axioms e.function a made
last_among sig axioms a e others made has states few ordinary is =
    let some =
    some_count (states_last_resort sig e.function) axioms a has (states_own sig a e states) in
    record {
      among = record {
        only = omega (arith, some, few);
        others = others;
        ordinary = ordinary;
        means = is.means;
      };
      names = is.names;
    }

pub two_unreadable : (sig : Signature) (axioms : List AxiomDeclaration) (a : AxiomDeclaration)
    (e : StatedEquation) → StatesLast sig a e
    → 2 ≤ count_by (states_last_resort sig e.function) axioms
    → IsUnreadableLast sig axioms e.function a
two_unreadable sig axioms a e states two =
    (states_own sig a e states, λ x h. let one = h.only in omega (arith, one, two))

pub beside_unreadable : (sig : Signature) (axioms : List AxiomDeclaration) (a : AxiomDeclaration)
    (e : StatedEquation) (others : List plain.Equation) → StatesLast sig a e
    → AreOrdinary sig axioms e.function others → IsUnreadableLastResort sig e.function others a
    → IsUnreadableLast sig axioms e.function a
beside_unreadable sig axioms a e others states ordinary bad = (
  states_own sig a e states,
  λ x h. last_or_not sig e.function others a x
      (subst (λ (es : List plain.Equation). MeansLastResort sig e.function es a x)
      (ordinary_one sig axioms e.function h.others others h.ordinary ordinary) h.means) bad,
)
