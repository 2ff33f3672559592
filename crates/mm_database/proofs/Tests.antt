-- What follows from tests on tokens and expressions.
use Rattle.std.proofs.Common.{◌≡◌, Bool, true, false, List, refl}
use Rattle.std.specs.Prelude.{Some, None, if◌then◌else◌}
use Rattle.std.specs.Bool.{Decides}
use Rattle.std.proofs.lemmas.Slice.Eq.{slice_eq-Decides, bytes_eq-Decides}
use Rattle.mm_database.specs.Proofs.{Expression}
use Rattle.mm_database.specs.Stack.{same_expression, same_expressions}

pub same_expression-Decides : (xs ys : Expression) → Decides (same_expression xs ys) (xs ≡ ys)
same_expression-Decides xs ys = slice_eq-Decides bytes_eq-Decides xs ys (same_expression xs ys) refl

pub same_expressions-Decides : (xs ys : List Expression)
    → Decides (same_expressions xs ys) (xs ≡ ys)
same_expressions-Decides xs ys =
    slice_eq-Decides same_expression-Decides xs ys (same_expressions xs ys) refl

-- an option that a test decides, if there is a value
pub if_some : {A : Type 0} (test : Bool) (x y : A) → (if test then Some x else None) ≡ Some y
    → (test ≡ true) × (x ≡ y)
if_some true x y h = (refl, cc)
if_some false x y h = absurd (cc)
