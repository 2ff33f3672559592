-- The first fault of a term.
use Rattle.std.proofs.Common.{◌≡◌, ◌≤◌, ℕ, Bool, true, false, List, [], ◌∷◌, Contains, Option, Some}
use Rattle.std.proofs.Common.{None, refl, sym, ap, ◌∙◌, ◌⊎◌, inl, inr, subst, arith, eq-eqb}
use Rattle.std.specs.Prelude.{◌==◌, not}
use Rattle.std.proofs.lemmas.Bool.{eqb-true, false≢true}
use Rattle.kore_text.specs.Trees.{PatternTree}
use Rattle.rule_core.specs.declared.signature.Signature.{Signature}
use Rattle.kore_sig.specs.FirstFault.{Fault, ByByte, ByNumber, IsFirstBy, unless}
use Rattle.kore_sig.specs.Noted.{noted, leads_by_byte}
use Rattle.kore_sig.proofs.FirstLaws.{contains_here, contains_none, contains_cases, first_of_list}
use Rattle.kore_sig.proofs.FirstLaws.{by_byte}
use Rattle.kore_check.specs.Folds.{Unfolded, unfolded}
use Rattle.kore_check.specs.PatternFaults.{all_faults}
use Rattle.kore_check.specs.PatternSorts.{sort_of_pattern}
use Rattle.kore_axioms.proofs.FirstLaws.{none_by_byte}
use Rattle.kore_equations.specs.ReadableEquations.{is_one_sort}
use Rattle.kore_rules.specs.FirstRefusal.{FirstOfTerm, start_faults}
use Rattle.kore_rules.specs.GroundTerms.{ground_faults}
use Rattle.kore_rules.specs.Starts.{differs_from}

-- the fault that is kept is the first
noted_first : (fs : List Fault) (r : Option Fault) → r ≡ noted leads_by_byte None fs
    → IsFirstBy ByByte (Contains fs) r
noted_first fs r e = subst (IsFirstBy ByByte (Contains fs)) (sym e) (first_of_list by_byte fs)

pub none_noted : (fs : List Fault) → None ≡ noted leads_by_byte None fs → fs ≡ []
none_noted fs e = none_by_byte fs (noted_first fs None e)

nothing : (fs : List Fault) → fs ≡ [] → (f : Fault) → Contains fs f → ⊥
nothing fs e f has = contains_none f (subst (λ (gs : List Fault). Contains gs f) e has)

pub not_ground_first : (sig : Signature) (top : Option ℕ) (p : PatternTree) (f : Fault)
    → Some f ≡ noted leads_by_byte None (ground_faults p) → FirstOfTerm sig top p (Some f)
not_ground_first sig top p f e = inl (noted_first (ground_faults p) (Some f) e)

pub sort_fault_first : (sig : Signature) (top : Option ℕ) (p : PatternTree) (f : Fault)
    → ground_faults p ≡ [] → IsFirstBy ByByte (Contains (all_faults sig (unfolded p))) (Some f)
    → FirstOfTerm sig top p (Some f)
sort_fault_first sig top p f ground is = inr (nothing (ground_faults p) ground, inl is)

-- ---- the sort of the rules

only_first : (f : Fault) → IsFirstBy ByNumber (Contains (f ∷ [])) (Some f)
only_first f = (
  contains_here f [],
  λ g has. elim (contains_cases f g [] has) [
    | inl same ↦ subst (ByNumber f) same (inr (refl, omega arith))
    | inr none ↦ absurd (contains_none g none)
  ],
)

turned : (n s : ℕ) (t : Bool) → (s == n) ≡ t → (n == s) ≡ t
turned n s true e = eq-eqb n s (sym (eqb-true s n e))
turned n s false e = by_case (n == s) refl where
  by_case : (u : Bool) → (n == s) ≡ u → (n == s) ≡ false
  by_case true f = absurd (false≢true (sym e ∙ eq-eqb s n (sym (eqb-true n s f))))
  by_case false f = f

start_by : (sig : Signature) (s n : ℕ) (u : Unfolded) (t : Bool) → sort_of_pattern sig u ≡ Some n
    → (s == n) ≡ t → start_faults sig (Some s) u ≡ unless t 19 0
start_by sig s n u t is e =
    ap (λ (o : Option ℕ). unless (is_one_sort o (Some s)) 19 0) is
    ∙ ap (λ (b : Bool). unless b 19 0) (turned n s t e)

-- the term does not have the sort of the rules
pub other_sort_first : (sig : Signature) (top : Option ℕ) (p : PatternTree) (n : ℕ)
    → ground_faults p ≡ [] → all_faults sig (unfolded p) ≡ [] → sort_of_pattern sig (unfolded p)
    ≡ Some n
    → differs_from top n ≡ true → FirstOfTerm sig top p (Some (record { number = 19; byte = 0 }))
other_sort_first sig None p n ground clear is e = absurd (false≢true e)
other_sort_first sig (Some s) p n ground clear is e = by_case (s == n) refl where
  fault : Fault
  fault = record { number = 19; byte = 0 }

  by_case : (t : Bool) → (s == n) ≡ t → FirstOfTerm sig (Some s) p (Some fault)
  by_case true same = absurd (let wrong : false ≡ true = ap not (sym same) ∙ e in false≢true wrong)
  by_case false other =
      inr (
        nothing (ground_faults p) ground,
        inr (
          nothing (all_faults sig (unfolded p)) clear,
          subst (λ (fs : List Fault). IsFirstBy ByNumber (Contains fs) (Some fault))
              (sym (start_by sig s n (unfolded p) false is other)) (only_first fault),
        ),
      )

same_start : (sig : Signature) (top : Option ℕ) (u : Unfolded) (n : ℕ) → sort_of_pattern sig u
    ≡ Some n
    → differs_from top n ≡ false → start_faults sig top u ≡ []
same_start sig None u n is e = refl
same_start sig (Some s) u n is e = by_case (s == n) refl where
  by_case : (t : Bool) → (s == n) ≡ t → start_faults sig (Some s) u ≡ []
  by_case true same = start_by sig s n u true is same
  by_case false other =
      absurd (let wrong : true ≡ false = ap not (sym other) ∙ e in false≢true (sym wrong))

-- the term has no fault
pub no_fault : (sig : Signature) (top : Option ℕ) (p : PatternTree) (n : ℕ) → ground_faults p ≡ []
    → all_faults sig (unfolded p) ≡ [] → sort_of_pattern sig (unfolded p) ≡ Some n
    → differs_from top n ≡ false → FirstOfTerm sig top p None
no_fault sig top p n ground clear is e = (
  nothing (ground_faults p) ground,
  (
    nothing (all_faults sig (unfolded p)) clear,
    nothing (start_faults sig top (unfolded p)) (same_start sig top (unfolded p) n is e),
  ),
)
