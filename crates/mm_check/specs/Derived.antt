-- What follows from a database that justifies something.
use Rattle.std.specs.Prelude.{ℕ, List, []}
use Rattle.mm_text.specs.Bytes.{Token}
use Rattle.ml_pat.specs.Patterns.{Pattern, imp, ev}
use Rattle.ml_kernel.specs.Derivability.{Derives}
use Rattle.rule_core.specs.Theories.{RewriteTheory}
use Rattle.mm_adequate.specs.Assuming.{numbered, IsAssumedPattern}

-- That one pattern reaches another has a derivation by the rules of matching logic from the images
-- of what the program may assume: its own axioms, and true facts on its built-ins. It does not
-- matter which numbers the tokens have.
abbrev pub IsDerivedFrom : RewriteTheory → List Token → Pattern → Pattern → Type 0
IsDerivedFrom theory names from to =
    (number : Token → ℕ) → Derives [] (IsAssumedPattern theory number)
    (imp (numbered number names from) (ev (numbered number names to)))
