-- Laws of the first of a set of faults.
use Rattle.std.proofs.Common.{◌≡◌, Bool, List, [], ◌∷◌, ◌++◌, Option, None, refl, ap, sym, ◌∙◌}
use Rattle.std.specs.Prelude.{flat_map}
use Rattle.std.proofs.lemmas.Grind.{flat_map-append}
use Rattle.std.proofs.lemmas.List.{append-nil}
use Rattle.kore_sig.specs.FirstFault.{Fault}
use Rattle.kore_sig.specs.Noted.{leads_by_number, kept, noted, first_by_number}

pub noted_append : (leads : Fault → Fault → Bool) (r : Option Fault) (fs gs : List Fault)
    → noted leads r (fs ++ gs) ≡ noted leads (noted leads r fs) gs
noted_append leads r [] gs = refl
noted_append leads r (f ∷ fs) gs = noted_append leads (kept leads r f) fs gs

-- the first of the faults of some things and of one more
pub first_flat : {A : Type 0} (F : A → List Fault) (xs : List A) (y : A) (r : Option Fault)
    → r ≡ first_by_number (flat_map F xs)
    → noted leads_by_number r (F y) ≡ first_by_number (flat_map F (xs ++ y ∷ []))
first_flat F xs y r is =
    ap (λ (o : Option Fault). noted leads_by_number o (F y)) is
    ∙ sym (noted_append leads_by_number None (flat_map F xs) (F y))
    ∙ ap (λ fs. first_by_number (flat_map F xs ++ fs)) (sym (append-nil (F y)))
    ∙ ap first_by_number (sym (flat_map-append F xs (y ∷ [])))
