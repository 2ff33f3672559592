-- A look-up in a slice.
use Rattle.std.proofs.Common.{◌≡◌, ℕ, List, length, get_or, slice_get}
use Rattle.std.proofs.Common.{Option, Some, None, refl, sym, nat_lt, Bor}
use Rattle.std.specs.Prelude.{is_some, IfSome, option_copied}
use Rattle.std.proofs.lemmas.Bool.{ltb-true, ltb-false}
use Rattle.std.proofs.lemmas.Option.{slice_get_past, slice_get_read}

-- what `get` says of its result is that it is the item there, if there is one
pub looked_up : {X : Type 0} (o : Option (Bor X)) (xs : List X) (i : ℕ)
    → is_some o ≡ nat_lt i (length xs) → IfSome o (λ x. x.now ≡ get_or xs i x.now)
    → option_copied o ≡ slice_get xs i
looked_up None xs i there is = sym (slice_get_past xs i (ltb-false i (length xs) (sym there)))
looked_up (Some x) xs i there is =
    sym (slice_get_read xs (length xs) i x.now refl (ltb-true i (length xs) (sym there)) is)
