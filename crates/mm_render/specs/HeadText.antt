-- What the writer of a block's head writes. Only clauses of private functions cite this.
use Rattle.std.specs.Prelude.{◌≡◌, ℕ, not, List, [], ◌∷◌, ◌++◌, map, filter, flat_map}
use Rattle.mm_text.specs.Bytes.{Token}
use Rattle.mm_database.specs.Forms.{separates}
use Rattle.mm_proof.specs.Writing.{word_token}
use Rattle.mm_proof.specs.declared.words.Word.{Word}
use Rattle.mm_claims.specs.Variables.{Variable, is_object, variable_token}
use Rattle.mm_database.specs.StatementTexts.{plain_tokens}

-- a word has this token, with any names and in any block
abbrev pub IsWordOf : (ℕ → Token) → Word → Type 0
IsWordOf token w = (names : List Token) (k : ℕ) → word_token names k w ≡ token k

abbrev pub AreWordsOf : List Token → List Word → Type 0
AreWordsOf tokens ws = (names : List Token) (k : ℕ) → map (word_token names k) ws ≡ tokens

-- words with these tokens were added
abbrev pub AddsWordsOf : List Token → List Word → List Word → Type 0
AddsWordsOf tokens old new = (names : List Token) (k : ℕ)
    → map (word_token names k) new ≡ map (word_token names k) old ++ tokens

-- a `$d` of these tokens, if there are at least two
abbrev pub separation : List Token → List (List Token)
separation [] = []
separation (t ∷ []) = []
separation (t ∷ (u ∷ ts)) = plain_tokens [] separates (t ∷ (u ∷ ts)) ∷ []

-- the `$d` of each pattern variable among some, after these tokens
abbrev pub pattern_separations : List Token → List Variable → List (List Token)
pattern_separations objects vs =
    flat_map (λ v. separation (objects ++ variable_token v ∷ []))
    (filter (λ v. not (is_object v)) vs)
