-- What is written for a theorem before its proof. Only clauses of private functions cite this.
use Rattle.std.specs.Prelude.{ℕ, List, [], ◌∷◌, ◌++◌, codes}
use Rattle.mm_text.specs.Bytes.{Token}
use Rattle.ml_pat.specs.Patterns.{Pattern}
use Rattle.mm_proof.specs.Labels.{statement_label}
use Rattle.mm_proof.specs.Tokens.{own_naming}
use Rattle.mm_proof.specs.Derivations.{holds_text}
use Rattle.mm_claims.specs.Variables.{Variable}
use Rattle.mm_claims.specs.Blocks.{head_statements}
use Rattle.mm_text.specs.Written.{written}
use Rattle.mm_database.specs.StatementTexts.{written_statements}

-- the theorem's label and statement, up to its proof
abbrev pub statement_front : List Token → ℕ → Pattern → List ℕ
statement_front names k q =
    written
    (statement_label k ∷ (codes "$p" ∷ (holds_text (own_naming names) q ++ codes "$=" ∷ [])))

-- `${`, the head, and then the label and the statement
abbrev pub theorem_front : List Token → ℕ → List Variable → List Pattern → Pattern → List ℕ
theorem_front names k vs ps q =
    written_statements ((codes "${" ∷ []) ∷ head_statements names k vs ps)
    ++ statement_front names k q
