-- The numbers of quantified variables, one after the other.
use Rattle.std.proofs.Common.{◌≡◌, ◌≢◌, ◌<◌, ℕ, ◌+◌, ◌==◌, zero, suc, Bool, true, false, ◌||◌, List}
use Rattle.std.proofs.Common.{[], ◌∷◌, ◌++◌, length, map, get_or, Option, Some, None, refl, sym}
use Rattle.std.proofs.Common.{◌∙◌, ap, subst, arith, append_assoc, inl, inr, cond, eq-eqb, ◌&&◌}
use Rattle.std.specs.Prelude.{◌↔◌, ◌⊎◌, IsTrue, Contains}
use Rattle.std.specs.List.{position_from}
use Rattle.std.specs.Option.{option_and_then}
use Rattle.std.specs.Str.{bytes_eq}
use Rattle.std.proofs.lemmas.Bool.{false≢true, eqb-true}
use Rattle.std.proofs.lemmas.List.{append-nil}
use Rattle.std.proofs.lemmas.List.Elements.{All-nil, All-push, All-contains, Contains-push}
use Rattle.std.proofs.lemmas.List.Elements.{Contains-append_left, Contains-append_right}
use Rattle.std.proofs.lemmas.List.Elements.{Contains-push_cases}
use Rattle.kore_text.specs.Trees.{PatternTree}
use Rattle.rule_core.specs.WellSorted.{AreDifferent}
use Rattle.rule_core.specs.declared.signature.Signature.{Signature}
use Rattle.kore_sig.specs.SortReferences.{sort_number}
use Rattle.kore_check.specs.Folds.{Unfolded, unfolded, named_variable, written_value}
use Rattle.kore_check.specs.Folds.{applied_symbol, both_of, other_form}
use Rattle.kore_check.specs.PatternMeanings.{variable_number}
use Rattle.kore_check.specs.PartNames.{number_of_variable}
use Rattle.kore_equations.specs.Guards.{QuantifyEach}
use Rattle.kore_equations.specs.Marks.{is_marked}

abbrev pub numbers : Signature → List (List ℕ × ℕ) → List PatternTree → List (Option ℕ)
numbers sig vars xs = map (λ (x : PatternTree). number_of_variable sig vars (unfolded x)) xs

-- these are the numbers of the patterns before the rest
pub record AreNumbersBefore (sig : Signature) (vars : List (List ℕ × ℕ)) (all rest : List PatternTree)
    (order : List ℕ) : Type 0 where
  pub continues : (more : List ℕ) → numbers sig vars rest ≡ map Some more
      → numbers sig vars all ≡ map Some (order ++ more)
  pub splits : (whole : List ℕ) → numbers sig vars all ≡ map Some whole
      → (more : List ℕ) × (whole ≡ order ++ more) × (numbers sig vars rest ≡ map Some more)

-- the numbers are different, and exactly they are marked
pub record AreMarked (count : ℕ) (order : List ℕ) (marks : List Bool) : Type 0 where
  pub marked : length marks ≡ count
  pub seen : (n : ℕ) → IsTrue (is_marked marks n) ↔ Contains order n
  pub different : AreDifferent order

pub none_before : (sig : Signature) (vars : List (List ℕ × ℕ)) (xs : List PatternTree)
    → AreNumbersBefore sig vars xs xs []
none_before sig vars xs = record {
  continues = λ more is. is;
  splits = λ whole is. (whole, refl, is);
}

pub one_more : (sig : Signature) (vars : List (List ℕ × ℕ)) (all rest : List PatternTree)
    (x : PatternTree) (order : List ℕ) (n : ℕ)
    → number_of_variable sig vars (unfolded x) ≡ Some n
    → AreNumbersBefore sig vars all (x ∷ rest) order
    → AreNumbersBefore sig vars all rest (order ++ n ∷ [])
one_more sig vars all rest x order n is before = record {
  continues = λ more same.
      before.continues (n ∷ more) (first_more _ _ more is same)
      ∙ ap (map Some) (sym (append_assoc order (n ∷ []) more));
  splits = λ whole same. next whole (before.splits whole same);
}
  where
    first_more : (a : Option ℕ) (others : List (Option ℕ)) (more : List ℕ) → a ≡ Some n
        → others ≡ map Some more → (a ∷ others) ≡ map Some (n ∷ more)
    first_more a others more e f = cc

    next : (whole : List ℕ)
        → ((more : List ℕ) × (whole ≡ order ++ more) × (numbers sig vars (x ∷ rest) ≡ map Some more))
        → (more : List ℕ) × (whole ≡ (order ++ n ∷ []) ++ more)
        × (numbers sig vars rest ≡ map Some more)
    next whole ([], split, same) = absurd (let never : ⊥ = cc in never)
    next whole (m ∷ more, split, same) =
        let first : Some m ≡ Some n = let a : number_of_variable sig vars (unfolded x) ≡ Some m = cc in
        sym a ∙ is in
        let one : m ≡ n = cc in
        let others : numbers sig vars rest ≡ map Some more = cc in (
          more,
          split ∙ ap (λ (k : ℕ). order ++ k ∷ more) one
              ∙ sym (append_assoc order (n ∷ []) more),
          others,
        )

-- a pattern that is none of the variables
pub none_stops : (sig : Signature) (vars : List (List ℕ × ℕ)) (all rest : List PatternTree)
    (x : PatternTree) (order : List ℕ) → number_of_variable sig vars (unfolded x) ≡ None
    → AreNumbersBefore sig vars all (x ∷ rest) order → (whole : List ℕ)
    → QuantifyEach sig vars all whole → ⊥
none_stops sig vars all rest x order none before whole q = go (before.splits whole q.numbers) where
  go : ((more : List ℕ) × (whole ≡ order ++ more) × (numbers sig vars (x ∷ rest) ≡ map Some more)) → ⊥
  go ([], split, same) = let never : ⊥ = cc in never
  go (m ∷ more, split, same) =
      let is : number_of_variable sig vars (unfolded x) ≡ Some m = cc in
      let both : None ≡ Some m = sym none ∙ is in let never : ⊥ = cc in never

-- ---- different numbers

pub different_more : (order : List ℕ) (n : ℕ) → AreDifferent order → (Contains order n → ⊥)
    → AreDifferent (order ++ n ∷ [])
different_more [] n different new = (All-nil (λ (y : ℕ). n ≢ y), tt)
different_more (x ∷ xs) n different new = (
  All-push (λ (y : ℕ). x ≢ y) xs n different.0 (λ same. new (zero, omega arith, same)),
  different_more xs n different.1 (λ there. new (suc there.0, omega (arith, there.1), there.2)),
)

pub different_apart : (order : List ℕ) (n : ℕ) (more : List ℕ) → AreDifferent (order ++ n ∷ more)
    → Contains order n → ⊥
different_apart [] n more different there = omega (arith, there.1)
different_apart (x ∷ xs) n more different (zero, low, is) =
    All-contains (λ (y : ℕ). x ≢ y) (xs ++ n ∷ more) n different.0
    (Contains-append_right xs (n ∷ more) n (zero, omega arith, refl)) is
different_apart (x ∷ xs) n more different (suc k, low, is) =
    different_apart xs n more different.1 (k, omega (arith, low), is)

-- a number that was there before
pub twice_stops : (sig : Signature) (vars : List (List ℕ × ℕ)) (all rest : List PatternTree)
    (x : PatternTree) (order : List ℕ) (n : ℕ)
    → number_of_variable sig vars (unfolded x) ≡ Some n
    → AreNumbersBefore sig vars all (x ∷ rest) order → Contains order n → (whole : List ℕ)
    → QuantifyEach sig vars all whole → ⊥
twice_stops sig vars all rest x order n is before there whole q =
    go (before.splits whole q.numbers)
  where
    go : ((more : List ℕ) × (whole ≡ order ++ more)
        × (numbers sig vars (x ∷ rest) ≡ map Some more)) → ⊥
    go ([], split, same) = let never : ⊥ = cc in never
    go (m ∷ more, split, same) =
        let known : number_of_variable sig vars (unfolded x) ≡ Some m = cc in
        let both : Some m ≡ Some n = sym known ∙ is in
        let one : m ≡ n = cc in
        different_apart order n more
        (subst AreDifferent (split ∙ ap (λ (k : ℕ). order ++ k ∷ more) one) q.different) there

-- ---- the marks

pub none_marked : (count : ℕ) (seen : List Bool) → length seen ≡ count
    → ((n : ℕ) → is_marked seen n ≡ false) → AreMarked count [] seen
none_marked count seen same none = record {
  marked = same;
  seen = λ n. (
    λ set. absurd (let never : false ≡ true = sym (none n) ∙ set in false≢true never),
    λ there. absurd (omega (arith, there.1)),
  );
  different = tt;
}

or_right : (a : Bool) → (a || true) ≡ true
or_right true = refl
or_right false = refl

or_cases : (a b : Bool) → (a || b) ≡ true → (a ≡ true) ⊎ (b ≡ true)
or_cases true b h = inl refl
or_cases false b h = inr h

pub one_more_marked : (count : ℕ) (order : List ℕ) (old new : List Bool) (n : ℕ)
    → is_marked old n ≡ false → length new ≡ length old
    → ((k : ℕ) → is_marked new k ≡ (is_marked old k || (k == n))) → AreMarked count order old
    → AreMarked count (order ++ n ∷ []) new
one_more_marked count order old new n unset same marks m = record {
  marked = same ∙ m.marked;
  seen = λ k. (λ set. there k (or_cases _ _ (sym (marks k) ∙ set)), λ among. marked k among);
  different =
      different_more order n m.different
      (λ among. false≢true (sym unset ∙ (m.seen n).1 among));
}
  where
    there : (k : ℕ) → (is_marked old k ≡ true) ⊎ ((k == n) ≡ true) → Contains (order ++ n ∷ []) k
    there k (inl set) = Contains-append_left order (n ∷ []) k ((m.seen k).0 set)
    there k (inr is) =
        subst (λ (x : ℕ). Contains (order ++ n ∷ []) x) (sym (eqb-true k n is))
        (Contains-push order n)

    set_by : (k : ℕ) → Contains order k ⊎ (n ≡ k) → (is_marked old k || (k == n)) ≡ true
    set_by k (inl among) = rw ((m.seen k).1 among) refl
    set_by k (inr is) =
        ap (λ (b : Bool). is_marked old k || b) (eq-eqb k n (sym is)) ∙ or_right (is_marked old k)

    marked : (k : ℕ) → Contains (order ++ n ∷ []) k → is_marked new k ≡ true
    marked k among = marks k ∙ set_by k (Contains-push_cases order n k among)

pub get_or_default : {X : Type 0} (xs : List X) (i : ℕ) (d e : X) → i < length xs
    → get_or xs i d ≡ get_or xs i e
get_or_default [] i d e low = absurd (omega (arith, low))
get_or_default (x ∷ xs) zero d e low = refl
get_or_default (x ∷ xs) (suc i) d e low = get_or_default xs i d e (omega (arith, low))

-- ---- numbers of variables

position_within : {X : Type 0} (test : X → Bool) (k : ℕ) (xs : List X) (n : ℕ)
    → position_from test k xs ≡ Some n → n < k + length xs
position_within test k [] n is = absurd (let never : ⊥ = cc in never)
position_within test k (x ∷ xs) n is =
    position_at test k x xs n (position_within test (k + 1) xs n) (test x) refl is
  where
    position_at : {X : Type 0} (test : X → Bool) (k : ℕ) (x : X) (xs : List X) (n : ℕ)
        → (position_from test (k + 1) xs ≡ Some n → n < k + 1 + length xs) → (b : Bool)
        → test x ≡ b → cond b (Some k) (position_from test (k + 1) xs) ≡ Some n
        → n < k + length (x ∷ xs)
    position_at test k x xs n rest true e is = let same : k ≡ n = cc in omega (arith, same)
    position_at test k x xs n rest false e is =
        let later : n < k + 1 + length xs = rest is in omega (arith, later)

number_within : (sig : Signature) (vars : List (List ℕ × ℕ)) (name : List ℕ) (o : Option ℕ) (n : ℕ)
    → option_and_then (variable_number vars name) o ≡ Some n → n < length vars
number_within sig vars name None n is = absurd (let never : ⊥ = cc in never)
number_within sig vars name (Some s) n is =
    let low : n < 0 + length vars =
    position_within (λ (v : List ℕ × ℕ). bytes_eq name v.0 && (s == v.1)) 0 vars n is in
    omega (arith, low)

pub variable_within : (sig : Signature) (vars : List (List ℕ × ℕ)) (u : Unfolded) (n : ℕ)
    → number_of_variable sig vars u ≡ Some n → n < length vars
variable_within sig vars (named_variable at name s) n is =
    number_within sig vars name (sort_number sig.sorts s) n is
variable_within sig vars (written_value at s text byte) n is = absurd (let never : ⊥ = cc in never)
variable_within sig vars (applied_symbol at byte f ss us) n is =
    absurd (let never : ⊥ = cc in never)
variable_within sig vars (both_of at s p q) n is = absurd (let never : ⊥ = cc in never)
variable_within sig vars (other_form at) n is = absurd (let never : ⊥ = cc in never)

-- ---- the whole

pub all_numbered : (sig : Signature) (vars : List (List ℕ × ℕ)) (xs : List PatternTree)
    (order : List ℕ) (seen : List Bool) (count : ℕ) → AreNumbersBefore sig vars xs [] order
    → AreMarked count order seen → length xs ≡ length vars → QuantifyEach sig vars xs order
all_numbered sig vars xs order seen count before m same = record {
  numbers = before.continues [] refl ∙ ap (map Some) (append-nil order);
  different = m.different;
  count = same;
}
