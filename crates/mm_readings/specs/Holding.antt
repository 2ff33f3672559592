-- When a text of letters holds: it is spelled from pieces that say something true. What a text says
-- of freshness, substitution and predicates is true by the judgements on patterns, and a pattern
-- holds if it has a derivation from the axioms.
use Rattle.std.specs.Prelude.{◌≡◌, List, [], ◌∷◌, Some}
use Rattle.ml_pat.specs.Patterns.{Pattern, var}
use Rattle.ml_pat.specs.Judgements.{IsFresh, IsPredicate, substituted}
use Rattle.ml_kernel.specs.Derivability.{Derives}
use Rattle.mm_readings.specs.Letters.{Word, Letter, says_pattern, says_sort, says_variable}
use Rattle.mm_readings.specs.Letters.{says_substituted, says_fresh, says_predicate, says_holds}
use Rattle.mm_readings.specs.Pieces.{Piece, word_piece, pattern_piece, sort_piece, spell_all}

-- what a word says of the pieces after it
abbrev pub IsSaidOf : (Pattern → Type 0) → Word → List Piece → Type 0
IsSaidOf IsAxiom says_pattern (pattern_piece p ∷ []) = Unit {0}
IsSaidOf IsAxiom says_sort (sort_piece s ∷ []) = Unit {0}
IsSaidOf IsAxiom says_variable (pattern_piece (var x) ∷ []) = Unit {0}
IsSaidOf IsAxiom says_substituted
    (pattern_piece t ∷ (pattern_piece p ∷ (pattern_piece u ∷ (pattern_piece (var x) ∷ [])))) =
    substituted p x u ≡ Some t
IsSaidOf IsAxiom says_fresh (pattern_piece (var x) ∷ (pattern_piece p ∷ [])) = IsFresh x p
IsSaidOf IsAxiom says_predicate (pattern_piece p ∷ []) = IsPredicate p
IsSaidOf IsAxiom says_holds (pattern_piece p ∷ []) = Derives [] IsAxiom p
IsSaidOf IsAxiom w pieces = ⊥

abbrev pub Says : (Pattern → Type 0) → List Piece → Type 0
Says IsAxiom (word_piece w ∷ pieces) = IsSaidOf IsAxiom w pieces
Says IsAxiom pieces = ⊥

abbrev pub Holds : (Pattern → Type 0) → List Letter → Type 0
Holds IsAxiom letters =
    (pieces : List Piece) × (letters ≡ spell_all pieces) × Says IsAxiom pieces
