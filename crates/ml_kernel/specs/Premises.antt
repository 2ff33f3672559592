-- What the code passes to a rule: the instances of its variables, and theorems.
use Rattle.std.specs.Prelude.{List, [], ◌∷◌}
use Rattle.std.specs.Borrow.{Bor}
use Rattle.ml_kernel.specs.Rules.{Instance, pattern, variable, sort}
use Rattle.ml_kernel.specs.Theorems.{Theorem}
use Rattle.ml_kernel.specs.Concluding.{IsKept}
use Rattle.ml_kernel.specs.declared.theorems.Part.{Part}
use Rattle.ml_kernel.specs.declared.theorems.Part.TheVariants as part

abbrev pub part_of : Part → Instance
part_of (part.Pat p) = pattern p.now
part_of (part.Var x) = variable x.0
part_of (part.Sort s) = sort s.0

abbrev pub parts_of : List Part → List Instance
parts_of [] = []
parts_of (p ∷ ps) = part_of p ∷ parts_of ps

-- the theorems behind references
abbrev pub theorems_of : List (Bor Theorem) → List Theorem
theorems_of [] = []
theorems_of (t ∷ ts) = t.now ∷ theorems_of ts

-- each theorem's stored derivation concludes its conclusion
abbrev pub AreKept : List Theorem → Type 0
AreKept [] = Unit {0}
AreKept (t ∷ ts) = IsKept t × AreKept ts
