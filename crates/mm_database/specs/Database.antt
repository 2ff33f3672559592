-- What a database has declared before a statement, and which of it is active at the statement
-- (Metamath book, "Scoping Statements"). It is a function of the statements before it and their
-- blocks.
use Rattle.std.specs.Prelude.{ℕ, Bool, false, not, ◌&&◌, ◌||◌, if◌then◌else◌, List, [], ◌∷◌, ◌++◌}
use Rattle.std.specs.Prelude.{Option, Some, None, bytes_eq}
use Rattle.mm_text.specs.Bytes.{Token, has_token}
use Rattle.mm_text.specs.Statements.{Statement}
use Rattle.mm_database.specs.Forms.{Keyword, declares_constants, declares_variables, types_variable}
use Rattle.mm_database.specs.Forms.{assumes, separates, asserts, proves, Form, block_start}
use Rattle.mm_database.specs.Forms.{block_end, plain, form_of}
use Rattle.mm_database.specs.Frames.{Hypothesis, floating, essential, Scope, Frame, frame_of}

-- an open block: the byte of its `${`, and what was active at its `${`
pub record Block : Type 0 where
  pub at : ℕ
  pub outside : Scope

-- the constants, variables and labels that were ever declared, the assertions by their labels, what
-- is active, and the open blocks, the innermost first
pub record Context : Type 0 where
  pub constants : Token → Bool
  pub variables : Token → Bool
  pub labels : Token → Bool
  pub frames : Token → Option Frame
  pub scope : Scope
  pub blocks : List Block

abbrev pub empty_scope : Scope
empty_scope = record { variables = λ t. false; hypotheses = []; apart = λ a b. false }

abbrev pub empty_context : Context
empty_context = record {
  constants = λ t. false;
  variables = λ t. false;
  labels = λ t. false;
  frames = λ t. None;
  scope = empty_scope;
  blocks = [];
}

-- a set with tokens added
abbrev pub with_tokens : (Token → Bool) → List Token → Token → Bool
with_tokens set tokens = λ t. set t || has_token tokens t

abbrev pub with_token : (Token → Bool) → Token → Token → Bool
with_token set token = λ t. set t || bytes_eq t token

-- the two tokens differ, and both are in the list
abbrev pub are_different_tokens : List Token → Token → Token → Bool
are_different_tokens tokens a b = not (bytes_eq a b) && (has_token tokens a && has_token tokens b)

abbrev pub with_apart : (Token → Token → Bool) → List Token → Token → Token → Bool
with_apart pairs tokens = λ a b. pairs a b || are_different_tokens tokens a b

abbrev pub with_frame : (Token → Option Frame) → Token → Frame → Token → Option Frame
with_frame table label frame = λ t. if bytes_eq t label then Some frame else table t

-- the label of a statement that has one
abbrev pub first_label : List Token → Token
first_label [] = []
first_label (label ∷ labels) = label

-- the hypothesis of a `$f`, which has two symbols if it is well formed
abbrev pub floating_of : Token → List Token → Hypothesis
floating_of label [] = essential label []
floating_of label (typecode ∷ []) = essential label (typecode ∷ [])
floating_of label (typecode ∷ (variable ∷ [])) = floating label typecode variable
floating_of label (typecode ∷ (variable ∷ (other ∷ symbols))) =
    essential label (typecode ∷ (variable ∷ (other ∷ symbols)))

abbrev pub with_hypothesis : Context → Token → Hypothesis → Context
with_hypothesis c label h = record c {
  labels = with_token c.labels label;
  scope = record c.scope { hypotheses = c.scope.hypotheses ++ h ∷ [] };
}

abbrev pub with_assertion : Context → Token → List Token → Context
with_assertion c label symbols = record c {
  labels = with_token c.labels label;
  frames = with_frame c.frames label (frame_of c.scope label symbols);
}

-- the context after a statement with these labels, this keyword and these symbols
abbrev pub with_declared : Context → List Token → Keyword → List Token → Context
with_declared c labels declares_constants symbols =
    record c { constants = with_tokens c.constants symbols }
with_declared c labels declares_variables symbols = record c {
  variables = with_tokens c.variables symbols;
  scope = record c.scope { variables = with_tokens c.scope.variables symbols };
}
with_declared c labels types_variable symbols =
    with_hypothesis c (first_label labels) (floating_of (first_label labels) symbols)
with_declared c labels assumes symbols =
    with_hypothesis c (first_label labels) (essential (first_label labels) symbols)
with_declared c labels separates symbols =
    record c { scope = record c.scope { apart = with_apart c.scope.apart symbols } }
with_declared c labels asserts symbols =
    with_assertion c (first_label labels) symbols
with_declared c labels proves symbols =
    with_assertion c (first_label labels) symbols

-- at the end of a block, what became active in it is no longer active
abbrev pub with_block_closed : Context → List Block → Context
with_block_closed c [] = c
with_block_closed c (block ∷ blocks) = record c { scope = block.outside; blocks = blocks }

abbrev pub with_block_opened : Context → ℕ → Context
with_block_opened c at = record c { blocks = record { at = at; outside = c.scope } ∷ c.blocks }

abbrev pub after_form : Context → ℕ → Option Form → Context
after_form c at None = c
after_form c at (Some block_start) = with_block_opened c at
after_form c at (Some block_end) = with_block_closed c c.blocks
after_form c at (Some (plain labels keyword symbols proof)) = with_declared c labels keyword symbols

-- the context after a statement
abbrev pub context_after : Context → Statement → Context
context_after c s = after_form c s.at (form_of s.tokens)

-- the context after some statements
abbrev pub context_after_all : Context → List Statement → Context
context_after_all c [] = c
context_after_all c (s ∷ statements) = context_after_all (context_after c s) statements

-- what is declared and active at a statement, by the statements before it
abbrev pub active_at : List Statement → Context
active_at before = context_after_all empty_context before
