-- Labels of a writer that have these tokens. Only clauses of private functions cite this.
use Rattle.std.specs.Prelude.{◌≡◌, ℕ, List, ◌++◌, map}
use Rattle.mm_text.specs.Bytes.{Token}
use Rattle.mm_proof.specs.Writing.{label_token}
use Rattle.mm_proof.specs.declared.words.Label.{Label}

-- a label has this token, in any block
abbrev pub IsLabelOf : (ℕ → Token) → Label → Type 0
IsLabelOf token l = (k : ℕ) → label_token k l ≡ token k

-- labels have these tokens
abbrev pub AreLabelsOf : (ℕ → List Token) → List Label → Type 0
AreLabelsOf tokens ls = (k : ℕ) → map (label_token k) ls ≡ tokens k

-- labels with these tokens were added
abbrev pub AddsLabelsOf : (ℕ → List Token) → List Label → List Label → Type 0
AddsLabelsOf tokens old new =
    (k : ℕ) → map (label_token k) new ≡ map (label_token k) old ++ tokens k
