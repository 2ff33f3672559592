-- Guards read one after the other, and equations compared one after the other.
use Rattle.std.proofs.Common.{◌≡◌, ◌<◌, ◌≤◌, ℕ, ◌+◌, List, [], ◌∷◌, ◌++◌, length, map, Some, sym, ◌∙◌, ap}
use Rattle.std.proofs.Common.{subst, arith, append_assoc}
use Rattle.std.proofs.Common.{Bool, true, false, get_or, refl, ltb}
use Rattle.std.proofs.lemmas.Bool.{ltb-true, ltb-false}
use Rattle.std.proofs.lemmas.List.{append-nil, length-map}
use Rattle.std.proofs.lemmas.Option.{slice_get-get_or, slice_get-map, slice_get_within}
use Rattle.std.proofs.lemmas.List.Elements.{All-head, All-tail}
use Rattle.std.specs.Prelude.{All, slice_get, option_map}
use Rattle.std.specs.List.{AllZip}
use Rattle.kore_text.specs.Trees.{SortTree}
use Rattle.rule_core.specs.ProgramView.{function_equation}
use Rattle.rule_core.specs.Rules.{Equation, Guard}
use Rattle.rule_core.specs.declared.rules.Equation.{Equation as CodeEquation}
use Rattle.rule_core.specs.declared.signature.Signature.{Signature}
use Rattle.rule_core.specs.declared.signature.SymInfo.{SymInfo}
use Rattle.kore_shapes.specs.LastResorts.{GuardParts}
use Rattle.kore_equations.specs.Guards.{MeansGuard, RepeatsSome}
use Rattle.kore_equations.specs.GuardReadings.{AreSame}
use Rattle.kore_equations.specs.declared.patterns.Sides.{Sides}

-- these are the guards before the rest
pub record AreReadBefore (sig : Signature) (info : SymInfo) (over : SortTree) (es : List Equation)
    (all rest : List GuardParts) (made : List Guard) : Type 0 where
  pub continues : (more : List Guard) → AllZip (MeansGuard sig info over es) rest more
      → AllZip (MeansGuard sig info over es) all (made ++ more)
  pub remain : All (RepeatsSome sig info over es) all → All (RepeatsSome sig info over es) rest

pub none_read : (sig : Signature) (info : SymInfo) (over : SortTree) (es : List Equation)
    (all : List GuardParts) → AreReadBefore sig info over es all all []
none_read sig info over es all = record { continues = λ more h. h; remain = λ h. h }

pub one_read : (sig : Signature) (info : SymInfo) (over : SortTree) (es : List Equation)
    (all rest : List GuardParts) (g : GuardParts) (made : List Guard) (m : Guard)
    → MeansGuard sig info over es g m → AreReadBefore sig info over es all (g ∷ rest) made
    → AreReadBefore sig info over es all rest (made ++ m ∷ [])
one_read sig info over es all rest g made m is before = record {
  continues = λ more h.
      subst (AllZip (MeansGuard sig info over es) all) (sym (append_assoc made (m ∷ []) more))
      (before.continues (m ∷ more) (is, h));
  remain = λ h. All-tail (RepeatsSome sig info over es) g rest (before.remain h);
}

pub none_repeats : (sig : Signature) (info : SymInfo) (over : SortTree) (es : List Equation)
    (all rest : List GuardParts) (g : GuardParts) (made : List Guard)
    → (RepeatsSome sig info over es g → ⊥) → AreReadBefore sig info over es all (g ∷ rest) made
    → All (RepeatsSome sig info over es) all → ⊥
none_repeats sig info over es all rest g made none before h =
    none (All-head (RepeatsSome sig info over es) g rest (before.remain h))

pub all_read_guards : (sig : Signature) (info : SymInfo) (over : SortTree) (es : List Equation)
    (all : List GuardParts) (made : List Guard) → AreReadBefore sig info over es all [] made
    → AllZip (MeansGuard sig info over es) all made
all_read_guards sig info over es all made before =
    subst (AllZip (MeansGuard sig info over es) all) (append-nil made) (before.continues [] tt)

-- ---- the first equation that is the same

abbrev pub NoneSameBefore : List Equation → Sides → ℕ → Type 0
NoneSameBefore es s n = (i : ℕ) (e : Equation) → i < n → slice_get es i ≡ Some e → AreSame e s → ⊥

pub none_yet : (es : List Equation) (s : Sides) → NoneSameBefore es s 0
none_yet es s i e low is same = omega (arith, low)

pub one_more_other : (es : List CodeEquation) (s : Sides) (i : ℕ) (x : CodeEquation)
    → i < length es → x ≡ get_or es i x → (AreSame (function_equation x) s → ⊥)
    → NoneSameBefore (map function_equation es) s i
    → NoneSameBefore (map function_equation es) s (i + 1)
one_more_other es s i x low is other before j e under there same = by_place (ltb j i) refl where
  at_place : j ≡ i → ⊥
  at_place here =
      let listed : slice_get es i ≡ Some x =
      slice_get-get_or es i x low ∙ ap (λ (y : CodeEquation). Some y) (sym is) in
      let mapped : Some (function_equation x) ≡ Some e =
      sym (ap (option_map function_equation) listed) ∙ sym (slice_get-map function_equation es i)
      ∙ ap (slice_get (map function_equation es)) (sym here) ∙ there in
      let one : function_equation x ≡ e = cc in
      other (subst (λ (y : Equation). AreSame y s) (sym one) same)

  by_place : (b : Bool) → ltb j i ≡ b → ⊥
  by_place true is_below = before j e (ltb-true j i is_below) there same
  by_place false not_below =
      at_place (let above : i ≤ j = ltb-false j i not_below in omega (arith, above, under))

pub none_of_all : (es : List CodeEquation) (s : Sides) (i : ℕ) → length es ≤ i
    → NoneSameBefore (map function_equation es) s i → (j : ℕ) (e : Equation)
    → slice_get (map function_equation es) j ≡ Some e → AreSame e s → ⊥
none_of_all es s i long before j e there same =
    let within : j < length (map function_equation es) =
    slice_get_within (map function_equation es) j e there in
    before j e (omega (arith, within, length-map es function_equation, long)) there same
