-- Laws on databases and proofs.
use Rattle.std.specs.Prelude.{◌≡◌, ◌↔◌, ℕ, ◌+◌, true, false, List, [], ◌∷◌, ◌++◌, length, map, Some}
use Rattle.std.specs.Prelude.{None}
use Rattle.std.specs.List.{list_all}
use Rattle.mm_text.specs.Bytes.{Token}
use Rattle.mm_text.specs.Statements.{Statement, Statements, next_statement, statement}
use Rattle.mm_text.specs.Statements.{statements_from, statements_of}
use Rattle.mm_text.specs.declared.fault.MmFault.{MmFault}
use Rattle.mm_database.specs.Forms.{Keyword, proves, plain, form_of}
use Rattle.mm_database.specs.Database.{Context, empty_context, context_after, active_at}
use Rattle.mm_database.specs.Assertions.{assertions_in, assertions_of, typings_in, typings_of}
use Rattle.mm_database.specs.Proofs.{Expression, ProofTree, ProofForest, all_postorder}
use Rattle.mm_database.specs.Steps.{Step, cites, AllBuild, BuildsAndProves}
use Rattle.mm_database.specs.Stack.{stack_after}
use Rattle.mm_database.specs.Validity.{HasNoFault, HaveNoFault, IsValid, IsFirstFault}
use Rattle.mm_text.specs.Written.{ends_white, written}
use Rattle.mm_text.specs.PlainTokens.{is_plain_token, is_one_statement}
use Rattle.mm_database.specs.ComputedFault.{statement_fault, first_fault}
use Rattle.mm_database.specs.StatementTexts.{written_statements, plain_tokens, proof_tokens}
use Rattle.mm_database.specs.CleanTokens.{are_clean, has_proof}

-- steps that only cite labels build exactly the forests whose postorder is these labels
abbrev pub LabelsArePostorder : Type 0
LabelsArePostorder =
    (labels : List Token) (forest : ProofForest) (saved : List ProofTree) →
    AllBuild [] (map (λ label. cites label) labels) forest saved
    ↔ ((all_postorder forest ≡ labels) × (saved ≡ []))

-- a stack accepts exactly the steps that build a forest, and at the end it has what the forest
-- proves
abbrev pub StacksAreForests : Type 0
StacksAreForests =
    (c : Context) (steps : List (Step Token)) (results : List Expression) →
    (stack_after c steps ≡ Some results) ↔ BuildsAndProves c steps results

-- a text is valid if and only if no fault is computed
abbrev pub ValidIsFaultless : Type 0
ValidIsFaultless = (bytes : List ℕ) → IsValid bytes ↔ (first_fault bytes ≡ None)

-- the computed fault is the first one
abbrev pub FirstFaultIsComputed : Type 0
FirstFaultIsComputed =
    (bytes : List ℕ) (f : MmFault) → IsFirstFault bytes f ↔ (first_fault bytes ≡ Some f)

-- a statement for which no fault is computed has no fault
abbrev pub FaultlessIsFine : Type 0
FaultlessIsFine =
    (c : Context) (tokens : List Token) → statement_fault c tokens ≡ None → HasNoFault c tokens

-- statements, and others after them
abbrev pub in_front : List Statement → Statements → Statements
in_front [] statements = statements
in_front (s ∷ before) statements = next_statement s (in_front before statements)

-- each statement of a valid text has no fault in what is declared and active at it
abbrev pub FineWhereActive : Type 0
FineWhereActive =
    (bytes : List ℕ) (before : List Statement) (s : Statement) (rest : Statements) → IsValid bytes →
    statements_of bytes ≡ in_front before (next_statement s rest) →
    HasNoFault (active_at before) s.tokens

-- what is appended to a text that has no fault is judged in the context after the text
abbrev pub AppendedIsFine : Type 0
AppendedIsFine =
    (text more : List ℕ) (left last : Context) → ends_white text ≡ true →
    HaveNoFault empty_context (statements_of text) left →
    HaveNoFault left (statements_from (length text) more) last →
    HaveNoFault empty_context (statements_of (text ++ more)) last

-- written statements that have no fault, from a context and a place on; and the context after them
abbrev pub Adds : Context → ℕ → List (List Token) → Context → Type 0
Adds c at [] left = left ≡ c
Adds c at (tokens ∷ statements) left =
    (list_all is_plain_token tokens ≡ true) × (is_one_statement tokens ≡ true) × HasNoFault c tokens
    × Adds (context_after c (statement at tokens)) (at + length (written tokens)) statements
    left

-- the text of such statements is read as these statements
abbrev pub WrittenIsFine : Type 0
WrittenIsFine =
    (c : Context) (at : ℕ) (statements : List (List Token)) (left : Context) →
    Adds c at statements left
    → HaveNoFault c (statements_from at (written_statements statements)) left

-- an appended text adds its assertions, with their frames in the context after the first text, and
-- its typings
abbrev pub AppendedStates : Type 0
AppendedStates =
    (text more : List ℕ) (left : Context) → ends_white text ≡ true →
    HaveNoFault empty_context (statements_of text) left →
    (assertions_of (text ++ more)
    ≡ assertions_of text ++ assertions_in left (statements_from (length text) more))
    × (typings_of (text ++ more)
    ≡ typings_of text ++ typings_in (statements_from (length text) more))

-- such tokens have the form that was written
abbrev pub PlainTokensSay : Type 0
PlainTokensSay =
    (labels : List Token) (keyword : Keyword) (symbol : Token) (symbols : List Token) →
    are_clean labels ≡ true → are_clean (symbol ∷ symbols) ≡ true → has_proof keyword ≡ false →
    form_of (plain_tokens labels keyword (symbol ∷ symbols))
    ≡ Some (plain labels keyword (symbol ∷ symbols) [])

abbrev pub ProofTokensSay : Type 0
ProofTokensSay =
    (labels symbols proof : List Token) → are_clean labels ≡ true → are_clean symbols ≡ true →
    are_clean proof ≡ true →
    form_of (proof_tokens labels symbols proof) ≡ Some (plain labels proves symbols proof)
