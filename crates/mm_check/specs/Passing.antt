-- What is found in a valid database, statement by statement.
use Rattle.std.specs.Prelude.{◌≡◌, ℕ, true, List, [], ◌∷◌, ◌++◌, length, Option, Some, None, Result}
use Rattle.std.specs.Prelude.{Ok, Err, IfSome}
use Rattle.mm_text.specs.Bytes.{Token}
use Rattle.mm_text.specs.Statements.{Statement}
use Rattle.mm_text.specs.Reader.{words_of, statement_of}
use Rattle.mm_text.specs.declared.tokens.MmToken.{MmToken}
use Rattle.mm_database.specs.Forms.{form_of, Form, plain, asserts}
use Rattle.mm_scope.specs.FormsRead.{keyword_read}
use Rattle.mm_scope.specs.declared.forms.Plain.{Plain}
use Rattle.mm_database.specs.Frames.{Frame, frame_of}
use Rattle.mm_database.specs.Database.{Context, context_after, empty_context, after_form}
use Rattle.mm_database.specs.Database.{first_label}
use Rattle.mm_database.specs.Assertions.{Assertion, form_assertion, form_typing, assertions_of}
use Rattle.mm_database.specs.Orderly.{IsOrderly, TypeOnce}
use Rattle.mm_database.specs.Validity.{HasNoFault}
use Rattle.mm_text.specs.Statements.{statements_of}
use Rattle.mm_scope.specs.ScopeState.{ScopeState}
use Rattle.mm_scope.specs.Standing.{Stands}
use Rattle.rule_core.specs.Theories.{RewriteTheory}
use Rattle.mm_justify.specs.Justifying.{HasOnlyAxiomsOf, AreTypings, IsAllowed}
use Rattle.mm_check.specs.Stated.{words}
use Rattle.mm_check.specs.PlainStatements.{are_ascii}
use Rattle.mm_check.specs.Offences.{TypesWell, AssumesWell, Offends, IsFirstOffending}
use Rattle.mm_check.specs.Offences.{last_assertion_at}
use Rattle.mm_check.specs.declared.ends.CheckEnd.{CheckEnd}
use Rattle.mm_check.specs.declared.ends.CheckEnd.TheVariants.{Invalid, Unjustified, Memory}
use Rattle.mm_check.specs.declared.notes.Last.{Last}
use Rattle.mm_check.specs.declared.notes.Noted.{Noted}
use Rattle.mm_check.specs.declared.notes.Noted.TheVariants.{Other, Stated}
use Rattle.mm_check.specs.declared.ends.Offence.{Offence}
use Rattle.mm_check.specs.declared.ends.Offence.TheVariants.{Conclusion, Typing, Axiom}
use Rattle.std.specs.Borrow.{Bor}
use Rattle.std.specs.Global.{Vec}

-- ---- one assertion

-- the label is that of an assertion at the scopes, whose words are ASCII
pub record IsLabelled (h : ScopeState) (label : Token) : Type 0 where
  pub context : Context
  pub tokens : List Token
  pub stands : Stands h context
  pub frame : context.frames label ≡ Some (frame_of context.scope label tokens)
  pub once : TypeOnce (frame_of context.scope label tokens).hypotheses
  pub ascii : are_ascii tokens ≡ true

-- the words of a theorem without hypotheses; none for another assertion
abbrev pub IsProvenFrame : Frame → Option (Vec (Bor Token)) → Type 0
IsProvenFrame f None = f.hypotheses ≡ [] → ⊥
IsProvenFrame f (Some ws) = (f.hypotheses ≡ []) × (f.statement ≡ words ws.items)

abbrev pub IsProven : Assertion → Option (Vec (Bor Token)) → Type 0
IsProven a None = a.is_proved ≡ true → a.frame.hypotheses ≡ [] → ⊥
IsProven a (Some ws) =
    (a.is_proved ≡ true) × (a.frame.hypotheses ≡ []) × (a.frame.statement ≡ words ws.items)

-- ---- one statement

abbrev pub IsNoted : Context → Statement → Noted → Type 0
IsNoted c s Other = form_assertion c (form_of s.tokens) ≡ None
IsNoted c s (Stated ws) =
    (a : Assertion) × (form_assertion c (form_of s.tokens) ≡ Some a) × IsProven a ws

-- a statement is as it should be, and then the scopes stand for the context after it; or it offends
abbrev pub StepsTo : RewriteTheory → Context → Statement → ScopeState → Result Noted CheckEnd
    → Type 0
StepsTo theory c s new (Ok noted) =
    TypesWell s × AssumesWell theory c s × IsNoted c s noted × Stands new (context_after c s)
StepsTo theory c s new (Err (Invalid f)) = ⊥
StepsTo theory c s new (Err (Unjustified offence at)) = Offends theory c s offence × (at ≡ s.at)
StepsTo theory c s new (Err Memory) = Unit {0}

-- The scopes have taken a statement with a keyword. If it is a `$a`, its label is that of an
-- assertion there.
abbrev pub IsAfter : ScopeState → List ℕ → Plain → Type 0
IsAfter h bytes p =
    keyword_read p.keyword ≡ asserts → IsLabelled h (first_label (words_of bytes p.labels.now))

-- the statement with the same parts
abbrev pub form_said : List ℕ → Plain → Form
form_said bytes p = plain (words_of bytes p.labels.now) (keyword_read p.keyword)
    (words_of bytes p.symbols.now) (words_of bytes p.proof.now)

-- what a statement with a keyword is, at a context before it; the scopes stand for the one after it
abbrev pub IsTaken : Context → ScopeState → Form → Type 0
IsTaken c h form = Stands h (after_form c 0 (Some form)) × IsOrderly (after_form c 0 (Some form))

abbrev pub FormNoted : Context → Form → Noted → Type 0
FormNoted c form Other = form_assertion c (Some form) ≡ None
FormNoted c form (Stated ws) =
    (a : Assertion) × (form_assertion c (Some form) ≡ Some a) × IsProven a ws

abbrev pub FormOffends : RewriteTheory → Context → Form → Offence → Type 0
FormOffends theory c form Conclusion = ⊥
FormOffends theory c form Typing =
    IfSome (form_typing (Some form)) (λ h. AreTypings (h ∷ [])) → ⊥
FormOffends theory c form Axiom = IfSome (form_assertion c (Some form)) (IsAllowed theory) → ⊥

abbrev pub NotesForm : RewriteTheory → Context → Form → ℕ → Result Noted CheckEnd → Type 0
NotesForm theory c form at (Ok noted) =
    IfSome (form_typing (Some form)) (λ h. AreTypings (h ∷ []))
    × IfSome (form_assertion c (Some form)) (IsAllowed theory) × FormNoted c form noted
NotesForm theory c form at (Err (Invalid f)) = ⊥
NotesForm theory c form at (Err (Unjustified offence where_is)) =
    FormOffends theory c form offence × (where_is ≡ at)
NotesForm theory c form at (Err Memory) = Unit {0}

abbrev pub Notes : RewriteTheory → Context → ScopeState → List ℕ → Plain → ℕ
    → Result Noted CheckEnd → Type 0
Notes theory c h bytes p at result =
    IsTaken c h (form_said bytes p) → NotesForm theory c (form_said bytes p) at result

-- a statement without fault at some context for which the scopes stand
pub record MayStep (h : ScopeState) (s : Statement) : Type 0 where
  pub context : Context
  pub stands : Stands h context
  pub orderly : IsOrderly context
  pub fine : HasNoFault context s.tokens
  pub ascii : are_ascii s.tokens ≡ true

-- ---- all statements

-- the last of some assertions
abbrev pub IsLast : List Assertion → Option Last → Type 0
IsLast xs None = xs ≡ []
IsLast xs (Some l) =
    (before : List Assertion) × (a : Assertion) × (xs ≡ before ++ a ∷ []) × IsProven a l.proven

abbrev pub place_of : Option Last → ℕ → ℕ
place_of None at = at
place_of (Some l) at = l.at

-- the last assertion of a text that has only the axioms of a program; or its first offence
abbrev pub Passes : RewriteTheory → List ℕ → Result (Option Last) CheckEnd → Type 0
Passes theory bytes (Ok last) = HasOnlyAxiomsOf theory bytes × IsLast (assertions_of bytes) last
    × (last_assertion_at bytes ≡ place_of last (length bytes))
Passes theory bytes (Err (Invalid f)) = ⊥
Passes theory bytes (Err (Unjustified offence at)) =
    IsFirstOffending theory empty_context (statements_of bytes) offence at
Passes theory bytes (Err Memory) = Unit {0}

-- the last assertion after one more statement
abbrev pub IsLastWith : Option Last → Noted → List MmToken → Option Last → Type 0
IsLastWith last Other tokens new = new ≡ last
IsLastWith last (Stated ws) tokens new =
    (l : Last) × (new ≡ Some l) × (l.proven ≡ ws)
    × ((bytes : List ℕ) → l.at ≡ (statement_of bytes tokens).at)
