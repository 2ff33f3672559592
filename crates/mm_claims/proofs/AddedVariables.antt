-- Variables added to others, each once, as a list gets them one by one.
use Rattle.std.proofs.Common.{◌≡◌, Bool, true, false, List, [], ◌∷◌, ◌++◌, refl, ap, ◌∙◌, sym}
use Rattle.std.proofs.Common.{subst, append_assoc, append-nil}
use Rattle.std.specs.Prelude.{◌||◌}
use Rattle.std.proofs.lemmas.Bool.{false≢true}
use Rattle.mm_claims.specs.Variables.{Variable, same_variable, has_variable, are_once}
use Rattle.mm_claims.specs.ClaimVariables.{other_variables}
use Rattle.mm_claims.specs.AddedVariables.{added}
use Rattle.mm_claims.proofs.VariableLaws.{has_append, once_more, same_is}

added-old : (vs : List Variable) (u : Variable) (us : List Variable) → has_variable vs u ≡ true
    → added vs (u ∷ us) ≡ added vs us
added-old vs u us there = rw there refl

added-new : (vs : List Variable) (u : Variable) (us : List Variable) → has_variable vs u ≡ false
    → added vs (u ∷ us) ≡ added (vs ++ u ∷ []) us
added-new vs u us other =
    rw other (sym (append_assoc vs (u ∷ []) (other_variables (vs ++ u ∷ []) us)))

pub added-append : (vs us ws : List Variable) → added (added vs us) ws ≡ added vs (us ++ ws)
added-append vs [] ws = ap (λ (xs : List Variable). added xs ws) (append-nil vs)
added-append vs (u ∷ us) ws =
    go (has_variable vs u) refl (added-append vs us ws) (added-append (vs ++ u ∷ []) us ws)
  where
    go : (b : Bool) → has_variable vs u ≡ b → added (added vs us) ws ≡ added vs (us ++ ws)
        → added (added (vs ++ u ∷ []) us) ws ≡ added (vs ++ u ∷ []) (us ++ ws)
        → added (added vs (u ∷ us)) ws ≡ added vs (u ∷ (us ++ ws))
    go true there old new = ap (λ (xs : List Variable). added xs ws) (added-old vs u us there) ∙ old
        ∙ sym (added-old vs u (us ++ ws) there)
    go false other old new = ap (λ (xs : List Variable). added xs ws) (added-new vs u us other)
        ∙ new ∙ sym (added-new vs u (us ++ ws) other)

-- after adding, the list has what was added and what was there before, and nothing else

pub among_added : (vs us : List Variable) (v : Variable)
    → has_variable (added vs us) v ≡ (has_variable vs v || has_variable us v)
among_added vs [] v = has_append vs [] v
among_added vs (u ∷ us) v =
    go (has_variable vs u) refl (among_added vs us v) (among_added (vs ++ u ∷ []) us v)
  where
    -- u was already there
    old_there : (a b c : Bool) → (b ≡ true → a ≡ true) → (a || c) ≡ (a || (b || c))
    old_there true b c h = refl
    old_there false true c h = absurd (false≢true (h refl))
    old_there false false c h = refl

    new_there : (a b c : Bool) → ((a || (b || false)) || c) ≡ (a || (b || c))
    new_there true b c = refl
    new_there false true c = refl
    new_there false false c = refl

    go : (b : Bool) → has_variable vs u ≡ b
        → has_variable (added vs us) v ≡ (has_variable vs v || has_variable us v)
        → has_variable (added (vs ++ u ∷ []) us) v
        ≡ (has_variable (vs ++ u ∷ []) v || has_variable us v)
        → has_variable (added vs (u ∷ us)) v
        ≡ (has_variable vs v || (same_variable u v || has_variable us v))
    go true is old new =
        ap (λ (xs : List Variable). has_variable xs v) (added-old vs u us is) ∙ old
        ∙ old_there (has_variable vs v) (same_variable u v) (has_variable us v)
        (λ same. subst (λ (w : Variable). has_variable vs w ≡ true) (same_is u v same) is)
    go false is old new =
        ap (λ (xs : List Variable). has_variable xs v) (added-new vs u us is) ∙ new
        ∙ ap (λ (b : Bool). b || has_variable us v) (has_append vs (u ∷ []) v)
        ∙ new_there (has_variable vs v) (same_variable u v) (has_variable us v)

pub just_others : (us : List Variable) (v : Variable)
    → has_variable (other_variables [] us) v ≡ has_variable us v
just_others us v = among_added [] us v

added_once : (vs us : List Variable) → are_once vs ≡ true → are_once (added vs us) ≡ true
added_once vs [] once = ap are_once (append-nil vs) ∙ once
added_once vs (u ∷ us) once =
    go (has_variable vs u) refl (added_once vs us once)
    (λ new. added_once (vs ++ u ∷ []) us (once_more vs u once new))
  where
    go : (b : Bool) → has_variable vs u ≡ b → are_once (added vs us) ≡ true
        → (has_variable vs u ≡ false → are_once (added (vs ++ u ∷ []) us) ≡ true)
        → are_once (added vs (u ∷ us)) ≡ true
    go true is old new = ap are_once (added-old vs u us is) ∙ old
    go false is old new = ap are_once (added-new vs u us is) ∙ new is

pub others_once : (us : List Variable) → are_once (other_variables [] us) ≡ true
others_once us = added_once [] us refl
