-- The labels of the hypotheses of a block.
use Rattle.std.specs.Prelude.{ℕ, ◌+◌, List, [], ◌∷◌}
use Rattle.mm_text.specs.Bytes.{Token}
use Rattle.ml_pat.specs.Patterns.{Pattern}
use Rattle.mm_proof.specs.Labels.{premise_label}

-- those from a number on
abbrev pub premise_labels : ℕ → ℕ → List Pattern → List Token
premise_labels k j [] = []
premise_labels k j (p ∷ ps) = premise_label k j ∷ premise_labels k (j + 1) ps
