-- The results of comparing two forms, where the comparison of two of their parts may be left open.
use Rattle.std.specs.Prelude.{◌≡◌, ◌↔◌, ◌<◌, Bool, true, false, IsTrue}
use Rattle.ml_pat.specs.Patterns.{Pattern}
use Rattle.ml_pat.specs.FormsIn.{forms_in}
use Rattle.ml_pat.specs.declared.same.Comparison.{Comparison}
use Rattle.ml_pat.specs.declared.same.Comparison.TheVariants as comparison

-- Either it is known whether the patterns are the same, or they are the same if and only if these
-- two smaller ones are.
abbrev pub Compares : Pattern → Pattern → Comparison → Type 0
Compares p q (comparison.Known same) = IsTrue same ↔ (p ≡ q)
Compares p q (comparison.AsParts r t) =
    ((r.now ≡ t.now) ↔ (p ≡ q)) × (forms_in r.now < forms_in p)

-- what is left to compare, given whether the other parts are the same
abbrev pub ByParts : Bool → Pattern → Pattern → Comparison → Type 0
ByParts others p q (comparison.Known same) = (others ≡ false) × (same ≡ false)
ByParts others p q (comparison.AsParts r t) =
    (others ≡ true) × ((r.now ≡ p) × (t.now ≡ q))
