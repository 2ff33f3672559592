-- Applications to several patterns: the patterns before one, and those behind it.
use Rattle.std.proofs.Common.{◌≡◌, ◌<◌, ◌+◌, ◌-◌, ℕ, zero, suc, List, [], ◌∷◌, Some, length, take}
use Rattle.std.proofs.Common.{drop, get_or, slice_get, refl, sym, ◌∙◌, ap, subst, arith, add-one}
use Rattle.std.proofs.lemmas.List.{take_all, length-drop}
use Rattle.ml_pat.specs.Patterns.{Pattern, app}
use Rattle.ml_derived.specs.Scopes.{Scope, IsOver, AreOver}
use Rattle.ml_derived.specs.Applying as derived
use Rattle.ml_image.proofs.ImageLaws.{none_some, some_same}
use Rattle.prove_term.specs.Applications.{applied_to}

-- both definitions of an application to several patterns say the same
pub same_application : (f : Pattern) (qs : List Pattern) → derived.applied_to f qs ≡ applied_to f qs
same_application f [] = refl
same_application f (q ∷ qs) = same_application (app f q) qs

-- an item that is read is there
pub read_there : {X : Type 0} (xs : List X) (i : ℕ) (x : X) → i < length xs → x ≡ get_or xs i x
    → slice_get xs i ≡ Some x
read_there [] i x low is = absurd (omega (arith, low))
read_there {X} (y ∷ xs) zero x low is = ap (λ (z : X). Some z) (sym is)
read_there (y ∷ xs) (suc i) x low is = read_there xs i x (omega (arith, low)) is

pub applied_more : (f : Pattern) (qs : List Pattern) (i : ℕ) (q : Pattern)
    → slice_get qs i ≡ Some q → app (applied_to f (take i qs)) q ≡ applied_to f (take (suc i) qs)
applied_more f [] i q there = absurd (none_some q there)
applied_more f (r ∷ qs) zero q there = ap (app f) (sym (some_same r q there))
applied_more f (r ∷ qs) (suc i) q there = applied_more (app f r) qs i q there

pub applied_split : (f : Pattern) (qs : List Pattern) (i : ℕ) (q : Pattern)
    → slice_get qs i ≡ Some q
    → applied_to (app (applied_to f (take i qs)) q) (drop (suc i) qs) ≡ applied_to f qs
applied_split f [] i q there = absurd (none_some q there)
applied_split f (r ∷ qs) zero q there =
    ap (λ (p : Pattern). applied_to (app f p) qs) (sym (some_same r q there))
applied_split f (r ∷ qs) (suc i) q there = applied_split (app f r) qs i q there

-- ---- scopes

pub over_item : (s : Scope) (qs : List Pattern) (i : ℕ) (q : Pattern) → AreOver s qs
    → slice_get qs i ≡ Some q → IsOver s q
over_item s [] i q h there = absurd (none_some q there)
over_item s (r ∷ qs) zero q h there = subst (IsOver s) (some_same r q there) h.0
over_item s (r ∷ qs) (suc i) q h there = over_item s qs i q h.1 there

pub over_drop : (s : Scope) (qs : List Pattern) (i : ℕ) → AreOver s qs → AreOver s (drop i qs)
over_drop s [] zero h = tt
over_drop s [] (suc i) h = tt
over_drop s (q ∷ qs) zero h = h
over_drop s (q ∷ qs) (suc i) h = over_drop s qs i h.1

pub over_applied : (s : Scope) (f : Pattern) (qs : List Pattern) (i : ℕ) → IsOver s f
    → AreOver s qs → IsOver s (applied_to f (take i qs))
over_applied s f [] zero h k = h
over_applied s f [] (suc i) h k = h
over_applied s f (q ∷ qs) zero h k = h
over_applied s f (q ∷ qs) (suc i) h k = over_applied s (app f q) qs i (h, k.0) k.1

pub applied_over : (s : Scope) (f : Pattern) (qs : List Pattern) → IsOver s (applied_to f qs)
    → IsOver s f × AreOver s qs
applied_over s f [] h = (h, tt)
applied_over s f (q ∷ qs) h =
    let rest : IsOver s (app f q) × AreOver s qs = applied_over s (app f q) qs h in
    (rest.0.0, (rest.0.1, rest.1))

-- ---- as the code reads the arguments

-- what is behind the first k items
pub rest_read : {X : Type 0} (xs : List X) (k : ℕ) → take (length xs - k) (drop k xs) ≡ drop k xs
rest_read {X} xs k = take_all (length xs - k) (drop k xs) (omega (arith, length-drop k xs))

pub next_application : (f g : Pattern) (qs : List Pattern) (j : ℕ) (q : Pattern) → j < length qs
    → q ≡ get_or qs j q → g ≡ applied_to f (take j qs) → app g q ≡ applied_to f (take (j + 1) qs)
next_application f g qs j q low is before =
    ap (λ (p : Pattern). app p q) before ∙ applied_more f qs j q (read_there qs j q low is)
    ∙ ap (λ (k : ℕ). applied_to f (take k qs)) (sym (add-one j))

pub whole_application : (f g made : Pattern) (qs rest : List Pattern) (i j : ℕ) (q : Pattern)
    → i < length qs → q ≡ get_or qs i q → j ≡ i → g ≡ applied_to f (take j qs) → made ≡ app g q
    → rest ≡ qs
    → derived.applied_to made (take (length rest - (i + 1)) (drop (i + 1) rest)) ≡ applied_to f qs
whole_application f g made qs rest i j q low is at before makes same =
    ap (derived.applied_to made) (rest_read rest (i + 1))
    ∙ same_application made (drop (i + 1) rest)
    ∙ ap (λ (ps : List Pattern). applied_to made (drop (i + 1) ps)) same
    ∙ ap (λ (k : ℕ). applied_to made (drop k qs)) (add-one i)
    ∙ ap (λ (p : Pattern). applied_to p (drop (suc i) qs))
    (makes ∙ ap (λ (p : Pattern). app p q) (before
    ∙ ap (λ (k : ℕ). applied_to f (take k qs)) at))
    ∙ applied_split f qs i q (read_there qs i q low is)

pub over_rest : (s : Scope) (qs rest : List Pattern) (k : ℕ) → AreOver s qs → rest ≡ qs
    → AreOver s (take (length rest - k) (drop k rest))
over_rest s qs rest k h same =
    subst (AreOver s) (sym (rest_read rest k))
    (over_drop s rest k (subst (AreOver s) (sym same) h))
