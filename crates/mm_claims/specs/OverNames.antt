-- Patterns over declared names. Each sort of a pattern is a sort by its name, and each constant is
-- a symbol or a value.
use Rattle.std.specs.Prelude.{◌≡◌, ◌<◌, true, List, [], ◌∷◌, length, codes}
use Rattle.mm_text.specs.Bytes.{Token}
use Rattle.ml_pat.specs.Patterns.{Pattern}
use Rattle.mm_proof.specs.Tokens.{name_of}
use Rattle.ml_pat.specs.Leaves.{LeafFacts, EachLeaf}
use Rattle.mm_claims.specs.Statements.{typecode_of}
use Rattle.mm_claims.specs.Variables.{Variable, object_variable, pattern_variable, has_variable}

-- patterns without variables
abbrev pub closed_over : List Token → LeafFacts
closed_over declared = record {
  sort = λ i. (i < length declared) × (typecode_of (name_of declared i) ≡ codes "#Sort");
  constant = λ i. (i < length declared) × (typecode_of (name_of declared i) ≡ codes "#Pattern");
  object = λ i. ⊥;
  meta = λ i. ⊥;
}

-- patterns with only these variables
abbrev pub open_over : List Token → List Variable → LeafFacts
open_over declared vs = record {
  sort = λ i. (i < length declared) × (typecode_of (name_of declared i) ≡ codes "#Sort");
  constant = λ i. (i < length declared) × (typecode_of (name_of declared i) ≡ codes "#Pattern");
  object = λ i. has_variable vs (object_variable i) ≡ true;
  meta = λ i. has_variable vs (pattern_variable i) ≡ true;
}

abbrev pub AreOpenOver : List Token → List Variable → List Pattern → Type 0
AreOpenOver declared vs [] = Unit {0}
AreOpenOver declared vs (p ∷ ps) = EachLeaf (open_over declared vs) p × AreOpenOver declared vs ps

-- patterns with any variables
abbrev pub over_names : List Token → LeafFacts
over_names declared = record {
  sort = λ i. (i < length declared) × (typecode_of (name_of declared i) ≡ codes "#Sort");
  constant = λ i. (i < length declared) × (typecode_of (name_of declared i) ≡ codes "#Pattern");
  object = λ i. Unit {0};
  meta = λ i. Unit {0};
}

abbrev pub AreOverNames : List Token → List Pattern → Type 0
AreOverNames declared [] = Unit {0}
AreOverNames declared (p ∷ ps) = EachLeaf (over_names declared) p × AreOverNames declared ps
