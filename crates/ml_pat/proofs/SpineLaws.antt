-- Patterns along their spines.
use Rattle.std.proofs.Common.{◌≡◌, ◌≤◌, ◌<◌, List, [], ◌∷◌, ◌++◌, Some, None, refl, sym, ◌∙◌, ap}
use Rattle.std.proofs.Common.{arith}
use Rattle.std.specs.Borrow.{Bor}
use Rattle.ml_pat.specs.Patterns.{Pattern, unary, binary, sorted, quantified, or}
use Rattle.ml_pat.specs.FormsIn.{forms_in}
use Rattle.ml_pat.specs.SpinePart.{spine_part}
use Rattle.ml_pat.specs.Spines.{LeadsTo}

pub some_same : (p q : Pattern) → Some p ≡ Some q → p ≡ q
some_same p q h = cc

pub none_some : (p : Pattern) → None ≡ Some p → ⊥
none_some p h = cc

pub spine_part-smaller : (r p : Pattern) → spine_part r ≡ Some p → forms_in p < forms_in r
spine_part-smaller (or q t) p h =
    let same : forms_in t ≡ forms_in p = ap forms_in (some_same t p h) in omega (arith, same)
spine_part-smaller (binary c t q) p h =
    let same : forms_in t ≡ forms_in p = ap forms_in (some_same t p h) in omega (arith, same)
spine_part-smaller (unary c t) p h =
    let same : forms_in t ≡ forms_in p = ap forms_in (some_same t p h) in omega (arith, same)
spine_part-smaller (sorted c t s) p h =
    let same : forms_in t ≡ forms_in p = ap forms_in (some_same t p h) in omega (arith, same)
spine_part-smaller (quantified c x s t) p h =
    let same : forms_in t ≡ forms_in p = ap forms_in (some_same t p h) in omega (arith, same)
spine_part-smaller r p h = absurd (none_some p h)

-- the path down to a pattern, and one part further
pub LeadsTo-push : (p : Pattern) (rs : List (Bor Pattern)) (r : Bor Pattern) (q : Pattern)
    → LeadsTo p rs r.now → spine_part r.now ≡ Some q → LeadsTo p (rs ++ r ∷ []) q
LeadsTo-push p [] r q way part = (way, (q, (ap spine_part way ∙ part, refl)))
LeadsTo-push p (t ∷ rs) r q way part =
    (way.0, (way.1.0, (way.1.1.0, LeadsTo-push way.1.0 rs r q way.1.1.1 part)))

pub LeadsTo-pop : (p : Pattern) (rs : List (Bor Pattern)) (r : Bor Pattern) (q : Pattern)
    → LeadsTo p (rs ++ r ∷ []) q → LeadsTo p rs r.now × (spine_part r.now ≡ Some q)
LeadsTo-pop p [] r q way =
    (way.0, ap spine_part (sym way.0) ∙ way.1.1.0 ∙ ap (λ (u : Pattern). Some u) way.1.1.1)
LeadsTo-pop p (t ∷ rs) r q way =
    let rest : LeadsTo way.1.0 rs r.now × (spine_part r.now ≡ Some q) =
    LeadsTo-pop way.1.0 rs r q way.1.1.1 in
    ((way.0, (way.1.0, (way.1.1.0, rest.0))), rest.1)

pub LeadsTo-smaller : (p : Pattern) (rs : List (Bor Pattern)) (q : Pattern) → LeadsTo p rs q
    → forms_in q ≤ forms_in p
LeadsTo-smaller p [] q way =
    let same : forms_in p ≡ forms_in q = ap forms_in way in omega (arith, same)
LeadsTo-smaller p (r ∷ rs) q way =
    let below : forms_in q ≤ forms_in way.1.0 = LeadsTo-smaller way.1.0 rs q way.1.1.1 in
    omega (arith, below, spine_part-smaller p way.1.0 way.1.1.0)
