-- What a database states: its assertions with their frames, and its typings of variables.
use Rattle.std.specs.Prelude.{ℕ, Bool, true, false, not, List, [], ◌∷◌, Option, Some, None}
use Rattle.std.specs.Prelude.{count_by}
use Rattle.mm_text.specs.Bytes.{Token}
use Rattle.mm_text.specs.Statements.{Statements, no_statement, unended, bad_statement}
use Rattle.mm_text.specs.Statements.{next_statement, statements_of}
use Rattle.mm_database.specs.Forms.{Keyword, types_variable, asserts, proves, Form, block_start}
use Rattle.mm_database.specs.Forms.{block_end, plain, form_of}
use Rattle.mm_database.specs.Frames.{Hypothesis, Frame, frame_of}
use Rattle.mm_database.specs.Database.{Context, empty_context, context_after, first_label}
use Rattle.mm_database.specs.Database.{floating_of}

-- an assertion: a `$a`, or a `$p`, which is proved; and its frame
pub record Assertion : Type 0 where
  pub is_proved : Bool
  pub frame : Frame

abbrev pub assertion : Context → Bool → List Token → List Token → Assertion
assertion c proved labels symbols = record {
  is_proved = proved;
  frame = frame_of c.scope (first_label labels) symbols;
}

abbrev pub keyword_assertion : Context → List Token → List Token → Keyword → Option Assertion
keyword_assertion c labels symbols asserts = Some (assertion c false labels symbols)
keyword_assertion c labels symbols proves = Some (assertion c true labels symbols)
keyword_assertion c labels symbols keyword = None

-- the assertion that a statement of this form makes
abbrev pub form_assertion : Context → Option Form → Option Assertion
form_assertion c None = None
form_assertion c (Some block_start) = None
form_assertion c (Some block_end) = None
form_assertion c (Some (plain labels keyword symbols proof)) =
    keyword_assertion c labels symbols keyword

abbrev pub with_assertion_first : Option Assertion → List Assertion → List Assertion
with_assertion_first None others = others
with_assertion_first (Some a) others = a ∷ others

-- the assertions that statements make from a context on, in order
abbrev pub assertions_in : Context → Statements → List Assertion
assertions_in c no_statement = []
assertions_in c (unended at) = []
assertions_in c (bad_statement f) = []
assertions_in c (next_statement s statements) =
    with_assertion_first (form_assertion c (form_of s.tokens))
    (assertions_in (context_after c s) statements)

abbrev pub assertions_of : List ℕ → List Assertion
assertions_of bytes = assertions_in empty_context (statements_of bytes)

-- how many `$a` and how many `$p` statements a database has
abbrev pub axiom_count : List ℕ → ℕ
axiom_count bytes = count_by (λ a. not a.is_proved) (assertions_of bytes)

abbrev pub theorem_count : List ℕ → ℕ
theorem_count bytes = count_by (λ a. a.is_proved) (assertions_of bytes)

abbrev pub keyword_typing : List Token → List Token → Keyword → Option Hypothesis
keyword_typing labels symbols types_variable = Some (floating_of (first_label labels) symbols)
keyword_typing labels symbols keyword = None

-- the `$f` of a statement of this form
abbrev pub form_typing : Option Form → Option Hypothesis
form_typing None = None
form_typing (Some block_start) = None
form_typing (Some block_end) = None
form_typing (Some (plain labels keyword symbols proof)) = keyword_typing labels symbols keyword

abbrev pub with_typing_first : Option Hypothesis → List Hypothesis → List Hypothesis
with_typing_first None others = others
with_typing_first (Some h) others = h ∷ others

-- each `$f` of some statements, in order
abbrev pub typings_in : Statements → List Hypothesis
typings_in no_statement = []
typings_in (unended at) = []
typings_in (bad_statement f) = []
typings_in (next_statement s statements) =
    with_typing_first (form_typing (form_of s.tokens)) (typings_in statements)

abbrev pub typings_of : List ℕ → List Hypothesis
typings_of bytes = typings_in (statements_of bytes)
