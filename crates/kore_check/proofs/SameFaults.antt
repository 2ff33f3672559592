-- Lists of faults with the same items.
use Rattle.std.proofs.Common.{◌≡◌, ◌⊎◌, inl, inr, List, ◌++◌, Contains, append_assoc, sym, subst}
use Rattle.std.proofs.lemmas.List.Elements.{Contains-append_left, Contains-append_right}
use Rattle.std.proofs.lemmas.List.Elements.{Contains-append_cases}
use Rattle.kore_sig.specs.FirstFault.{Fault}
use Rattle.kore_check.proofs.NotedLaws.{SameFaults}

pub same-refl : (xs : List Fault) → SameFaults xs xs
same-refl xs f = (λ known. known, λ known. known)

pub same-trans : (xs ys zs : List Fault) → SameFaults xs ys → SameFaults ys zs → SameFaults xs zs
same-trans xs ys zs p q f = (λ known. (q f).0 ((p f).0 known), λ known. (p f).1 ((q f).1 known))

pub same-sym : (xs ys : List Fault) → SameFaults xs ys → SameFaults ys xs
same-sym xs ys p f = ((p f).1, (p f).0)

pub same-eq : (xs ys : List Fault) → xs ≡ ys → SameFaults xs ys
same-eq xs ys e = subst (λ (zs : List Fault). SameFaults xs zs) e (same-refl xs)

pub same-append : (xs ys us vs : List Fault) → SameFaults xs ys → SameFaults us vs
    → SameFaults (xs ++ us) (ys ++ vs)
same-append xs ys us vs p q f = (
  λ known. to (Contains-append_cases xs us f known),
  λ known. from (Contains-append_cases ys vs f known),
)
  where
    to : Contains xs f ⊎ Contains us f → Contains (ys ++ vs) f
    to (inl left) = Contains-append_left ys vs f ((p f).0 left)
    to (inr right) = Contains-append_right ys vs f ((q f).0 right)

    from : Contains ys f ⊎ Contains vs f → Contains (xs ++ us) f
    from (inl left) = Contains-append_left xs us f ((p f).1 left)
    from (inr right) = Contains-append_right xs us f ((q f).1 right)

pub same-swap : (xs ys : List Fault) → SameFaults (xs ++ ys) (ys ++ xs)
same-swap xs ys f = (
  λ known. to (Contains-append_cases xs ys f known),
  λ known. from (Contains-append_cases ys xs f known),
)
  where
    to : Contains xs f ⊎ Contains ys f → Contains (ys ++ xs) f
    to (inl left) = Contains-append_right ys xs f left
    to (inr right) = Contains-append_left ys xs f right

    from : Contains ys f ⊎ Contains xs f → Contains (xs ++ ys) f
    from (inl left) = Contains-append_right xs ys f left
    from (inr right) = Contains-append_left xs ys f right

pub same-twice : (xs ys : List Fault) → SameFaults (xs ++ (xs ++ ys)) (xs ++ ys)
same-twice xs ys f = (
  λ known. to (Contains-append_cases xs (xs ++ ys) f known),
  λ known. Contains-append_right xs (xs ++ ys) f known,
)
  where
    to : Contains xs f ⊎ Contains (xs ++ ys) f → Contains (xs ++ ys) f
    to (inl left) = Contains-append_left xs ys f left
    to (inr right) = right

-- what is before may be after
pub same-front : (xs ys zs : List Fault) → SameFaults (xs ++ (ys ++ zs)) (ys ++ (xs ++ zs))
same-front xs ys zs =
    same-trans (xs ++ (ys ++ zs)) ((xs ++ ys) ++ zs) (ys ++ (xs ++ zs))
    (same-eq _ _ (sym (append_assoc xs ys zs)))
    (same-trans ((xs ++ ys) ++ zs) ((ys ++ xs) ++ zs) (ys ++ (xs ++ zs))
    (same-append (xs ++ ys) (ys ++ xs) zs zs (same-swap xs ys) (same-refl zs))
    (same-eq _ _ (append_assoc ys xs zs)))
