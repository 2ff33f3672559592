-- Images by their texts.
use Rattle.std.specs.Prelude.{◌≡◌, ◌⊎◌, ◌∷◌, ◌++◌, [], ℕ, List, Option, Some, option_map, Contains}
use Rattle.std.specs.Prelude.{slice_get}
use Rattle.std.specs.Str.{IsUtf8}
use Rattle.mm_text.specs.Bytes.{Token}
use Rattle.mm_text.specs.Written.{written}
use Rattle.ml_pat.specs.Patterns.{Pattern}
use Rattle.rule_core.specs.Named.{number_of_name}
use Rattle.rule_core.specs.Theories.{RewriteTheory}
use Rattle.mm_proof.specs.Tokens.{pattern_tokens}
use Rattle.assumed_texts.specs.Kinds.{IsWritten}
use Rattle.assumed_texts.specs.Listing.{Lists}

-- the text of a pattern, with white space after each token
abbrev pub image_text : List Token → Pattern → List ℕ
image_text names p = written (pattern_tokens names p)

-- patterns by name
abbrev pub Entries : Type 0
Entries = List (List ℕ × Pattern)

abbrev pub pattern_at : Entries → ℕ → Option Pattern
pattern_at table n = option_map (λ (e : List ℕ × Pattern). e.1) (slice_get table n)

-- the table has this pattern by this name
abbrev pub Finds : Entries → List ℕ → Pattern → Type 0
Finds table name p =
    (n : ℕ) × (number_of_name table name ≡ Some n) × (pattern_at table n ≡ Some p)

-- The images are those in the table and the others. What the table has is found by its text.
pub record AreFiled (names : List Token) (images : List Pattern) (table : Entries)
    (others : List Pattern) : Type 0 where
  pub listed : (p : Pattern) → Contains images p
      → (IsUtf8 (image_text names p) × Finds table (image_text names p) p) ⊎ Contains others p
  pub entries : (n : ℕ) (p : Pattern) → pattern_at table n ≡ Some p → Contains images p
  pub rest : (p : Pattern) → Contains others p → Contains images p

-- one more image was filed
abbrev pub Files : List Token → Pattern → Entries → List Pattern → Entries → List Pattern → Type 0
Files names p table others table' others' =
    (images : List Pattern) → AreFiled names images table others
    → AreFiled names (images ++ p ∷ []) table' others'

-- the images of the rules and equations of a program
pub record HasWritten (theory : RewriteTheory) (names : List Token) (table : Entries)
    (others : List Pattern) : Type 0 where
  pub images : List Pattern
  pub lists : Lists theory names (IsWritten theory) images
  pub filed : AreFiled names images table others
