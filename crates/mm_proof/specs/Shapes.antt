-- The shape of a pattern, with the name of its connective.
use Rattle.std.specs.Prelude.{◌≡◌}
use Rattle.ml_pat.specs.Patterns.{Nullary, Unary, Binary, Sorted, Quantifier, Pattern, nullary}
use Rattle.ml_pat.specs.Patterns.{unary, binary, sorted, quantified, var, meta, constant}
use Rattle.mm_proof.specs.Tokens.{nullary_name, unary_name, binary_name, sorted_name}
use Rattle.mm_proof.specs.Tokens.{quantifier_name}
use Rattle.mm_proof.specs.declared.shapes.Shape.{Shape}
use Rattle.mm_proof.specs.declared.shapes.Shape.TheVariants as shape

abbrev pub HasShape : Pattern → Shape → Type 0
HasShape p (shape.Nullary name) = (c : Nullary) × (p ≡ nullary c) × (name.now ≡ nullary_name c)
HasShape p (shape.Unary name q) = (c : Unary) × (p ≡ unary c q.now) × (name.now ≡ unary_name c)
HasShape p (shape.Binary name q r) =
    (c : Binary) × (p ≡ binary c q.now r.now) × (name.now ≡ binary_name c)
HasShape p (shape.Sorted name q s) =
    (c : Sorted) × (p ≡ sorted c q.now s.0) × (name.now ≡ sorted_name c)
HasShape p (shape.Quantified name x s q) =
    (c : Quantifier) × (p ≡ quantified c x.0 s.0 q.now) × (name.now ≡ quantifier_name c)
HasShape p (shape.Var x) = p ≡ var x.0
HasShape p (shape.Meta i) = p ≡ meta i
HasShape p (shape.Const c) = p ≡ constant c.0
