-- Why a valid database justifies nothing over a program: its first statement that gives a variable
-- another type, or that assumes something else than an axiom of the program; or else that its last
-- assertion is no such theorem.
use Rattle.std.specs.Prelude.{◌≡◌, ◌⊎◌, ℕ, List, [], ◌∷◌, length, Option, Some, None, IfSome}
use Rattle.mm_text.specs.Bytes.{Token}
use Rattle.mm_text.specs.Statements.{Statement, Statements, no_statement, unended, bad_statement}
use Rattle.mm_text.specs.Statements.{next_statement, statements_of}
use Rattle.mm_database.specs.Forms.{form_of}
use Rattle.mm_database.specs.Database.{Context, empty_context, context_after}
use Rattle.mm_database.specs.Assertions.{Assertion, form_assertion, form_typing}
use Rattle.ml_pat.specs.Patterns.{Pattern}
use Rattle.rule_core.specs.Theories.{RewriteTheory}
use Rattle.mm_justify.specs.Justifying.{AreTypings, IsAllowed, HasOnlyAxiomsOf, Justifies}
use Rattle.mm_check.specs.declared.ends.Offence.{Offence}
use Rattle.mm_check.specs.declared.ends.Offence.TheVariants.{Conclusion, Typing, Axiom}

-- ---- statements

-- if the statement is a `$f`, it gives its variable one of the three types
abbrev pub TypesWell : Statement → Type 0
TypesWell s = IfSome (form_typing (form_of s.tokens)) (λ h. AreTypings (h ∷ []))

-- if at a context the statement is a `$a`, it is an axiom of the program
abbrev pub AssumesWell : RewriteTheory → Context → Statement → Type 0
AssumesWell theory c s = IfSome (form_assertion c (form_of s.tokens)) (IsAllowed theory)

-- at a context the statement is one that no database may have that justifies something
abbrev pub Offends : RewriteTheory → Context → Statement → Offence → Type 0
Offends theory c s Conclusion = ⊥
Offends theory c s Typing = TypesWell s → ⊥
Offends theory c s Axiom = AssumesWell theory c s → ⊥

-- of the statements from a context on, the first that offends begins at this byte
abbrev pub IsFirstOffending : RewriteTheory → Context → Statements → Offence → ℕ → Type 0
IsFirstOffending theory c no_statement offence at = ⊥
IsFirstOffending theory c (unended end) offence at = ⊥
IsFirstOffending theory c (bad_statement f) offence at = ⊥
IsFirstOffending theory c (next_statement s statements) offence at =
    (Offends theory c s offence × (at ≡ s.at))
    ⊎ (TypesWell s × AssumesWell theory c s
    × IsFirstOffending theory (context_after c s) statements offence at)

-- ---- the last assertion

abbrev pub at_assertion : Option Assertion → ℕ → ℕ → ℕ
at_assertion None here before = before
at_assertion (Some a) here before = here

-- the byte of the last assertion among statements from a context on, or the given one if there is
-- none
abbrev pub last_among : Context → Statements → ℕ → ℕ
last_among c no_statement at = at
last_among c (unended end) at = at
last_among c (bad_statement f) at = at
last_among c (next_statement s statements) at =
    last_among (context_after c s) statements
    (at_assertion (form_assertion c (form_of s.tokens)) s.at at)

-- the byte of the last assertion of a text, or its length if it has none
abbrev pub last_assertion_at : List ℕ → ℕ
last_assertion_at bytes = last_among empty_context (statements_of bytes) (length bytes)

-- ---- databases

abbrev pub JustifiesNothing : List ℕ → RewriteTheory → Type 0
JustifiesNothing bytes theory =
    (names : List Token) (a b : Pattern) → Justifies bytes theory names a b → ⊥

-- What is wrong first in a database that justifies nothing, and the byte of the statement: the
-- first statement that offends; or, if there is none, the last assertion.
pub data IsFirstOffence (theory : RewriteTheory) (bytes : List ℕ) (offence : Offence) (at : ℕ) :
    Type 0 where
  by_statement : IsFirstOffending theory empty_context (statements_of bytes) offence at
      → IsFirstOffence theory bytes offence at
  by_conclusion : HasOnlyAxiomsOf theory bytes → JustifiesNothing bytes theory
      → offence ≡ Conclusion → at ≡ last_assertion_at bytes
      → IsFirstOffence theory bytes offence at
