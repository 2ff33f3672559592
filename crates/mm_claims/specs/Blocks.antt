-- Statements, which may have variables and hypotheses. Such a statement is in a block of its own,
-- which declares its variables. After the block nothing more is active than before it, so the next
-- block may declare them again.
use Rattle.std.specs.Prelude.{◌≡◌, ℕ, ◌+◌, ◌<◌, ◌^◌, Bool, true, false, not, ◌&&◌, ◌||◌}
use Rattle.std.specs.Prelude.{if◌then◌else◌, List, [], ◌∷◌, ◌++◌, map, filter, length, codes}
use Rattle.std.specs.Prelude.{bytes_eq}
use Rattle.std.specs.List.{list_any, list_all}
use Rattle.mm_text.specs.Bytes.{Token, has_token}
use Rattle.mm_database.specs.Forms.{declares_variables, types_variable, separates, assumes}
use Rattle.mm_database.specs.Frames.{Hypothesis, floating, essential, Frame}
use Rattle.mm_database.specs.Assertions.{Assertion}
use Rattle.ml_pat.specs.Patterns.{Pattern}
use Rattle.mm_proof.specs.Tokens.{own_naming}
use Rattle.mm_proof.specs.Labels.{statement_label, premise_label}
use Rattle.mm_proof.specs.Derivations.{holds_text}
use Rattle.mm_claims.specs.Statements.{axiom_statement, theorem_statement}
use Rattle.mm_claims.specs.OverNames.{AreOpenOver}
use Rattle.mm_claims.specs.Variables.{Variable, is_object, are_once, AreNumbered, occurs_in}
use Rattle.mm_claims.specs.Variables.{variable_token, variable_label, variable_type}
use Rattle.mm_claims.specs.Variables.{variable_tokens, object_tokens, are_several}
use Rattle.mm_database.specs.StatementTexts.{plain_tokens}

-- what an axiom or a lemma claims: its conclusion under its hypotheses, and its variables in the
-- order in which they are typed
pub record Claim : Type 0 where
  pub variables : List Variable
  pub hypotheses : List Pattern
  pub conclusion : Pattern

-- a claim that was stated, with the number of its label
pub record Stated : Type 0 where
  pub number : ℕ
  pub claim : Claim

-- A claim over declared names. Its variables are exactly those that occur in it, each once.
pub record IsClaim (declared : List Token) (s : Claim) : Type 0 where
  pub once : are_once s.variables ≡ true
  pub numbered : AreNumbered s.variables
  pub stand : list_all (λ v. list_any (occurs_in v) (s.conclusion ∷ s.hypotheses)) s.variables
      ≡ true
  pub over : AreOpenOver declared s.variables (s.conclusion ∷ s.hypotheses)
  pub few : length s.hypotheses < 2 ^ 64

-- The contents of a block. A variable: `$v x:0 $. x.k.0 $f #Var x:0 $.`
abbrev pub variable_statements : ℕ → List Variable → List (List Token)
variable_statements k [] = []
variable_statements k (v ∷ vs) =
    plain_tokens [] declares_variables (variable_token v ∷ []) ∷
    (plain_tokens (variable_label k v ∷ []) types_variable
    (variable_type v ∷ (variable_token v ∷ [])) ∷ variable_statements k vs)

-- what each `$d` keeps apart: the object variables, and the object variables with each pattern
-- variable; a `$d` needs at least two variables
abbrev pub separated : List Variable → List (List Variable)
separated vs =
    filter are_several (filter is_object vs
    ∷ map (λ v. filter is_object vs ++ v ∷ []) (filter (λ v. not (is_object v)) vs))

abbrev pub separations : List Variable → List (List Token)
separations vs = map variable_tokens (separated vs)

abbrev pub separation_statements : List (List Token) → List (List Token)
separation_statements ds = map (plain_tokens [] separates) ds

-- the hypotheses from a number on: `e.k.0 $e |- .. $.`
abbrev pub premise_statements : List Token → ℕ → ℕ → List Pattern → List (List Token)
premise_statements declared k j [] = []
premise_statements declared k j (p ∷ ps) =
    plain_tokens (premise_label k j ∷ []) assumes (holds_text (own_naming declared) p)
    ∷ premise_statements declared k (j + 1) ps

-- variables and hypotheses
abbrev pub head_statements : List Token → ℕ → List Variable → List Pattern → List (List Token)
head_statements declared k vs ps =
    variable_statements k vs
    ++ (separation_statements (separations vs) ++ premise_statements declared k 0 ps)

-- `${`, statements and `$}`
abbrev pub block : List (List Token) → List (List Token)
block statements = (codes "${" ∷ []) ∷ (statements ++ (codes "$}" ∷ []) ∷ [])

-- an axiom, and a theorem with the tokens of its proof, in which more variables may occur
abbrev pub axiom_block : List Token → ℕ → Claim → List (List Token)
axiom_block declared k s =
    block (head_statements declared k s.variables s.hypotheses
    ++ axiom_statement declared k s.conclusion ∷ [])

abbrev pub theorem_block : List Token → ℕ → Claim → List Variable → List Token → List (List Token)
theorem_block declared k s more proof =
    block (head_statements declared k (s.variables ++ more) s.hypotheses
    ++ theorem_statement declared k s.conclusion proof ∷ [])

-- a statement without variables and hypotheses needs no block
abbrev pub needs_block : List Variable → List Pattern → Bool
needs_block [] [] = false
needs_block [] (p ∷ ps) = true
needs_block (v ∷ vs) ps = true

-- What is written for an axiom, and for a theorem with its proof: only the statement, or the
-- statement in its block if it needs one.
abbrev pub axiom_statements : List Token → ℕ → Claim → List (List Token)
axiom_statements declared k s =
    if needs_block s.variables s.hypotheses then axiom_block declared k s
    else (axiom_statement declared k s.conclusion ∷ [])

abbrev pub theorem_statements : List Token → ℕ → Claim → List Variable → List Token
    → List (List Token)
theorem_statements declared k s more proof =
    if needs_block (s.variables ++ more) s.hypotheses then theorem_block declared k s more proof
    else (theorem_statement declared k s.conclusion proof ∷ [])

-- What is active in the block.
abbrev pub variable_float : ℕ → Variable → Hypothesis
variable_float k v = floating (variable_label k v) (variable_type v) (variable_token v)

abbrev pub premise_hypotheses : List Token → ℕ → ℕ → List Pattern → List Hypothesis
premise_hypotheses declared k j [] = []
premise_hypotheses declared k j (p ∷ ps) =
    essential (premise_label k j) (holds_text (own_naming declared) p)
    ∷ premise_hypotheses declared k (j + 1) ps

-- two different variables, at least one of which is an object variable
abbrev pub are_apart : List Variable → Token → Token → Bool
are_apart vs a b =
    not (bytes_eq a b)
    && ((has_token (variable_tokens vs) a && has_token (variable_tokens vs) b)
    && (has_token (object_tokens vs) a || has_token (object_tokens vs) b))

-- The frame of a claim: its variables are typed in their order, and then come its hypotheses. Two
-- different variables have to stay apart if at least one of them is an object variable.
abbrev pub open_frame : List Token → ℕ → Claim → Frame
open_frame declared k s = record {
  label = statement_label k;
  hypotheses = map (variable_float k) s.variables ++ premise_hypotheses declared k 0 s.hypotheses;
  apart = are_apart s.variables;
  statement = holds_text (own_naming declared) s.conclusion;
}

abbrev pub open_assertion : Bool → List Token → ℕ → Claim → Assertion
open_assertion proved declared k s = record { is_proved = proved; frame = open_frame declared k s }
