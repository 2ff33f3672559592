-- The first fault of things that come one after another, computed.
use Rattle.std.proofs.Common.{◌≡◌, List, [], ◌∷◌, Option, Some, None, refl, ap, ◌∙◌, inl, inr}
use Rattle.std.specs.Option.{option_or}
use Rattle.std.specs.Prelude.{Contains}
use Rattle.kore_sig.specs.FirstFault.{Fault, ByNumber, IsFirstBy, Then, IsFirstOfSequence}
use Rattle.kore_sig.specs.Noted.{first_by_number, first_in}
use Rattle.kore_sig.specs.Refusals.{Refuses}
use Rattle.kore_sig.specs.declared.faults.SigFault.{SigFault}
use Rattle.kore_sig.specs.declared.faults.SigFault.TheVariants.{Import, Duplicate, UnknownSort}
use Rattle.kore_sig.specs.declared.faults.SigFault.TheVariants.{Arity, SortParameter, SubsortCycle}
use Rattle.kore_sig.specs.declared.faults.SigFault.TheVariants.{Memory}
use Rattle.kore_sig.proofs.FirstLaws.{by_number, first_of_list}

then_or : (P Q : Option Fault → Type 0) (a b : Option Fault) → P a → Q b → Then P Q (option_or a b)
then_or P Q None None p q = (p, q)
then_or P Q None (Some g) p q = inr (p, q)
then_or P Q (Some f) b p q = inl p

-- what is computed is the first fault in order
pub in_order : {S A : Type 0} (F : S → A → List Fault) (next : S → A → S) (s : S) (xs : List A)
    → IsFirstOfSequence (λ s x. IsFirstBy ByNumber (Contains (F s x))) next s xs
    (first_in F next s xs)
in_order F next s [] = refl
in_order F next s (x ∷ xs) =
    then_or (IsFirstBy ByNumber (Contains (F s x)))
    (IsFirstOfSequence (λ t y. IsFirstBy ByNumber (Contains (F t y))) next (next s x) xs)
    (first_by_number (F s x)) (first_in F next (next s x) xs) (first_of_list by_number (F s x))
    (in_order F next (next s x) xs)

-- things that have the same faults have the same first one
pub first_in_same : {S A : Type 0} (F G : S → A → List Fault) (next : S → A → S)
    → ((s : S) (x : A) → F s x ≡ G s x) → (s : S) (xs : List A)
    → first_in F next s xs ≡ first_in G next s xs
first_in_same F G next same s [] = refl
first_in_same F G next same s (x ∷ xs) =
    ap (λ fs. option_or (first_by_number fs) (first_in F next (next s x) xs)) (same s x)
    ∙ ap (option_or (first_by_number (G s x))) (first_in_same F G next same (next s x) xs)

-- the fault of one thing if it has one, else that of the rest
pub or_some : (a b : Option Fault) (f : Fault) → a ≡ Some f → option_or a b ≡ Some f
or_some a b f e = ap (λ o. option_or o b) e

pub or_none : (a b : Option Fault) → a ≡ None → option_or a b ≡ b
or_none a b e = ap (λ o. option_or o b) e

-- the error is always a fault
pub refuses_some : (P Q : Option Fault → Type 0) (f : SigFault)
    → ((g : Fault) → P (Some g) → Q (Some g)) → Refuses P f → Refuses Q f
refuses_some P Q (Import at) h p = h _ p
refuses_some P Q (Duplicate at) h p = h _ p
refuses_some P Q (UnknownSort at) h p = h _ p
refuses_some P Q (Arity at) h p = h _ p
refuses_some P Q (SortParameter at) h p = h _ p
refuses_some P Q (SubsortCycle at) h p = h _ p
refuses_some P Q Memory h p = tt
