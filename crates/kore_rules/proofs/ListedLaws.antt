-- The equations of each function, one list for each symbol.
use Rattle.std.proofs.Common.{◌≡◌, ◌<◌, ◌≤◌, ℕ, zero, suc, ◌+◌, Bool, true, false, cond, List, []}
use Rattle.std.proofs.Common.{◌∷◌, ◌++◌, length, get_or, refl, sym, ap, ◌∙◌, subst, arith}
use Rattle.std.proofs.Common.{eq-eqb, nat_eq}
use Rattle.std.proofs.Math.ListN.{set}
use Rattle.std.specs.Prelude.{Vec, ◌==◌, nat_lt}
use Rattle.std.proofs.lemmas.Bool.Decides.{Decides-ltb}
use Rattle.std.proofs.lemmas.List.{append-nil}
use Rattle.std.specs.Global.{Global}
use Rattle.std.proofs.lemmas.Bool.{eqb-true, false≢true}
use Rattle.rule_core.specs.declared.rules.Equation.{Equation}
use Rattle.kore_rules.specs.TrialOrder.{listed_at}

pub listed_push : (lists : List (Vec Equation Global)) (new : Vec Equation Global) (n : ℕ)
    → new.items ≡ [] → listed_at lists n ≡ [] → listed_at (lists ++ new ∷ []) n ≡ []
listed_push [] new zero none before = none
listed_push [] new (suc n) none before = refl
listed_push (first ∷ lists) new zero none before = before
listed_push (first ∷ lists) new (suc n) none before = listed_push lists new n none before

same_at : (lists : List (Vec Equation Global)) (k : ℕ) (new : Vec Equation Global)
    → k < length lists → listed_at (set lists k new) k ≡ new.items
same_at [] k new lt = absurd (omega (arith, lt))
same_at (first ∷ lists) zero new lt = refl
same_at (first ∷ lists) (suc k) new lt = same_at lists k new (omega (arith, lt))

other_at : (lists : List (Vec Equation Global)) (k n : ℕ) (new : Vec Equation Global) → (k ≡ n → ⊥)
    → listed_at (set lists k new) n ≡ listed_at lists n
other_at [] k n new other = refl
other_at (first ∷ lists) zero zero new other = absurd (other refl)
other_at (first ∷ lists) zero (suc n) new other = refl
other_at (first ∷ lists) (suc k) zero new other = refl
other_at (first ∷ lists) (suc k) (suc n) new other = other_at lists k n new (λ e. other (ap suc e))

pub entry_at : (lists : List (Vec Equation Global)) (k : ℕ) (d : Vec Equation Global) → k < length lists
    → (get_or lists k d).items ≡ listed_at lists k
entry_at [] k d lt = absurd (omega (arith, lt))
entry_at (first ∷ lists) zero d lt = refl
entry_at (first ∷ lists) (suc k) d lt = entry_at lists k d (omega (arith, lt))

pub listed_set : (lists : List (Vec Equation Global)) (k : ℕ) (old new : Vec Equation Global)
    (e : Equation) → k < length lists → old ≡ get_or lists k old
    → new.items ≡ old.items ++ e ∷ [] → (n : ℕ)
    → listed_at (set lists k new) n
    ≡ cond (k == n) (listed_at lists n ++ e ∷ []) (listed_at lists n)
listed_set lists k old new e lt is grown n = by_case (k == n) refl where
  by_case : (t : Bool) → (k == n) ≡ t
      → listed_at (set lists k new) n
      ≡ cond (k == n) (listed_at lists n ++ e ∷ []) (listed_at lists n)
  by_case true same =
      let there : k ≡ n = eqb-true k n same in
      rw same (subst (λ (m : ℕ). listed_at (set lists k new) m ≡ listed_at lists m ++ e ∷ []) there
      (same_at lists k new lt ∙ grown
      ∙ ap (λ es. es ++ e ∷ [])
      (ap (λ (v : Vec Equation Global). v.items) is ∙ entry_at lists k old lt)))
  by_case false same = rw same (other_at lists k n new (λ e. false≢true (sym same ∙ eq-eqb k n e)))

-- one more equation in the list of its function
pub placed : {X : Type 0} (here : Bool) (old : List X) (e : X)
    → cond here (old ++ e ∷ []) old ≡ old ++ cond here (e ∷ []) []
placed true old e = refl
placed false old e = sym (append-nil old)

-- ---- lists that are emptied

-- each list before the place i is emptied unless the test holds
pub record AreEmptiedTo (has : ℕ → Bool) (old new : List (Vec Equation Global)) (i : ℕ) : Type 0
  where
    pub done : (n : ℕ) → n < i → listed_at new n ≡ cond (has n) (listed_at old n) []
    pub left : (n : ℕ) → i ≤ n → listed_at new n ≡ listed_at old n

pub none_emptied : (has : ℕ → Bool) (old : List (Vec Equation Global)) → AreEmptiedTo has old old 0
none_emptied has old = record { done = λ n lt. absurd (omega (arith, lt)); left = λ n le. refl }

pub one_kept : (has : ℕ → Bool) (old new : List (Vec Equation Global)) (i : ℕ) → has i ≡ true
    → AreEmptiedTo has old new i → AreEmptiedTo has old new (i + 1)
one_kept has old new i there before = record {
  done = λ n lt. by_place n lt (nat_eq n i) refl;
  left = λ n le. before.left n (omega (arith, le));
}
  where
    by_place : (n : ℕ) → n < i + 1 → (b : Bool) → nat_eq n i ≡ b
        → listed_at new n ≡ cond (has n) (listed_at old n) []
    by_place n lt true same =
        let at : n ≡ i = eqb-true n i same in
        before.left n (omega (arith, at))
        ∙ ap (λ (b : Bool). cond b (listed_at old n) []) (sym (ap has at ∙ there))
    by_place n lt false other =
        before.done n (omega (arith, lt, (λ (e : n ≡ i). false≢true (sym other ∙ eq-eqb n i e))))

pub one_emptied : (has : ℕ → Bool) (old new : List (Vec Equation Global)) (i : ℕ)
    (v : Vec Equation Global) → has i ≡ false → i < length new → v.items ≡ []
    → AreEmptiedTo has old new i → AreEmptiedTo has old (set new i v) (i + 1)
one_emptied has old new i v none within empty before = record {
  done = λ n lt. by_place n lt (nat_eq n i) refl;
  left = λ n le.
      other_at new i n v (λ e. omega (arith, le, e)) ∙ before.left n (omega (arith, le));
}
  where
    by_place : (n : ℕ) → n < i + 1 → (b : Bool) → nat_eq n i ≡ b
        → listed_at (set new i v) n ≡ cond (has n) (listed_at old n) []
    by_place n lt true same =
        let at : n ≡ i = eqb-true n i same in
        ap (listed_at (set new i v)) at ∙ same_at new i v within ∙ empty
        ∙ ap (λ (b : Bool). cond b (listed_at old n) []) (sym (ap has at ∙ none))
    by_place n lt false other =
        let differs : n ≡ i → ⊥ = λ e. false≢true (sym other ∙ eq-eqb n i e) in
        other_at new i n v (λ e. differs (sym e)) ∙ before.done n (omega (arith, lt, differs))

none_listed : (lists : List (Vec Equation Global)) (n : ℕ) → length lists ≤ n
    → listed_at lists n ≡ []
none_listed [] n le = refl
none_listed (first ∷ lists) zero le = absurd (omega (arith, le))
none_listed (first ∷ lists) (suc n) le = none_listed lists n (omega (arith, le))

pub all_emptied : (has : ℕ → Bool) (old new : List (Vec Equation Global)) (i : ℕ)
    → length old ≤ i → AreEmptiedTo has old new i → (n : ℕ)
    → listed_at new n ≡ cond (has n) (listed_at old n) []
all_emptied has old new i long all n = by_place (nat_lt n i) refl where
  either : (b : Bool) → ◌≡◌ {A = List Equation} (cond b [] []) []
  either true = refl
  either false = refl

  by_place : (b : Bool) → nat_lt n i ≡ b → listed_at new n ≡ cond (has n) (listed_at old n) []
  by_place true lt = all.done n ((Decides-ltb n i).0 lt)
  by_place false over =
      let le : i ≤ n = omega (arith, (λ (lt : n < i). false≢true (sym over ∙ (Decides-ltb n i).1 lt))) in
      let none : listed_at old n ≡ [] = none_listed old n (omega (arith, le, long)) in
      all.left n le ∙ none ∙ sym (ap (λ (es : List Equation). cond (has n) es []) none
      ∙ either (has n))
