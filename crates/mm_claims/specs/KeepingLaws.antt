-- What fits after the header and after more names.
use Rattle.std.specs.Prelude.{◌≡◌, ℕ, ◌<◌, ◌≤◌, ◌^◌, true, List, [], ◌++◌, length, drop}
use Rattle.mm_text.specs.Bytes.{Token}
use Rattle.mm_database.specs.Compressing.{all_compressed}
use Rattle.mm_header.specs.HeaderText.{header_bytes}
use Rattle.ml_pat.specs.Named.{AreDistinct}
use Rattle.mm_claims.specs.Rendered.{Rendered, nothing_rendered, header_rendered}
use Rattle.mm_claims.specs.Statements.{all_name_statements}
use Rattle.mm_claims.specs.Fitting.{AreNames}
use Rattle.mm_claims.specs.Keeping.{Fits}
use Rattle.mm_database.specs.StatementTexts.{written_statements}

-- the empty text fits a new renderer
abbrev pub EmptyFits : Type 0
EmptyFits = (names : List Token) → Fits names nothing_rendered []

-- each `$p` of a text that fits has a compressed proof
abbrev pub FitsIsCompressed : Type 0
FitsIsCompressed = (names : List Token) (k : Rendered) (bytes : List ℕ) → Fits names k bytes
    → all_compressed bytes ≡ true

-- if a text fits a new renderer, then with the header after it, it fits a renderer that has written
-- only the header
abbrev pub BegunFits : Type 0
BegunFits = (names : List Token) (bytes : List ℕ) → Fits names nothing_rendered bytes
    → Fits names header_rendered (bytes ++ header_bytes)

-- A text that fits still fits if the declarations of more names are appended. The names differ, and
-- there are fewer than 2 ^ 64.
abbrev pub DeclaredFits : Type 0
DeclaredFits =
    (names : List Token) (k : Rendered) (bytes : List ℕ) → AreNames names → AreDistinct names
    → length names < 2 ^ 64 → k.begun ≡ true → k.named ≤ length names → Fits names k bytes →
    Fits names (record k { named = length names })
    (bytes ++ written_statements (all_name_statements k.named (drop k.named names)))
