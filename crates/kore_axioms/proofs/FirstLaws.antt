-- The first fault of one list.
use Rattle.std.proofs.Common.{◌≡◌, List, [], ◌∷◌, Option, None, refl, sym, subst}
use Rattle.std.specs.Prelude.{Contains}
use Rattle.kore_sig.specs.FirstFault.{Fault, ByNumber, IsFirstBy}
use Rattle.kore_sig.specs.Noted.{first_by_number}
use Rattle.kore_sig.proofs.FirstLaws.{contains_here, first_of_list, by_number}
use Rattle.kore_check.specs.FaultNumbers.{IsFirstOf}

pub by_number_first : (fs : List Fault) (r : Option Fault) → r ≡ first_by_number fs
    → IsFirstBy ByNumber (Contains fs) r
by_number_first fs r e =
    subst (λ (o : Option Fault). IsFirstBy ByNumber (Contains fs) o) (sym e)
    (first_of_list by_number fs)

-- a list without a first fault is empty
empty : (fs : List Fault) → ((f : Fault) → Contains fs f → ⊥) → fs ≡ []
empty [] none = refl
empty (f ∷ fs) none = absurd (none f (contains_here f fs))

pub none_by_number : (fs : List Fault) → first_by_number fs ≡ None → fs ≡ []
none_by_number fs e = empty fs (by_number_first fs None (sym e))

pub none_by_byte : (fs : List Fault) → IsFirstOf fs None → fs ≡ []
none_by_byte fs first = empty fs first
