-- The steps of a proof over numbers. They do to a stack of numbers what the steps over tokens do to
-- the stack of their tokens.
use Rattle.std.specs.Prelude.{◌≡◌, ℕ, Bool, true, false, not, ◌&&◌, ◌||◌, nat_eq, if◌then◌else◌}
use Rattle.std.specs.Prelude.{List, [], ◌∷◌, ◌++◌, map, length, Option, Some, None, option_map}
use Rattle.std.specs.Cmp.Lexicographic.{pointwise}
use Rattle.mm_text.specs.Bytes.{Token}
use Rattle.mm_database.specs.Frames.{Hypothesis, floating, essential, Frame, statement_of}
use Rattle.mm_database.specs.Database.{Context}
use Rattle.mm_database.specs.Proofs.{substituted, keeps_apart, active_hypothesis}
use Rattle.mm_database.specs.Stack.{bindings_of, text_in, stack_with, stack_after_label}
use Rattle.mm_database.specs.Orderly.{TypeOnce}
use Rattle.mm_frame.specs.Numbered.{NumberedHypothesis, NumberedFrame, IsNaming, named}
use Rattle.mm_frame.specs.Numbered.{IsNamedFrame}

-- what a step needs to know of the place of the proof: which numbers are variables, and which pairs
-- an active `$d` keeps apart
pub record NumberedPlace : Type 0 where
  pub is_variable : ℕ → Bool
  pub apart : ℕ → ℕ → Bool

pub record IsNamedPlace (name : ℕ → Token) (p : NumberedPlace) (c : Context) : Type 0 where
  pub variables : (a : ℕ) → c.variables (name a) ≡ p.is_variable a
  pub apart : (a b : ℕ) → c.scope.apart (name a) (name b) ≡ p.apart a b

abbrev pub numbers_apart : NumberedPlace → ℕ → ℕ → Bool
numbers_apart p x y = not (p.is_variable x && p.is_variable y) || (not (nat_eq x y) && p.apart x y)

abbrev pub same_numbers : List ℕ → List ℕ → Bool
same_numbers = pointwise nat_eq

abbrev pub begins_with : ℕ → List ℕ → Bool
begins_with typecode [] = false
begins_with typecode (symbol ∷ symbols) = nat_eq symbol typecode

-- an entry is what a hypothesis asks for: for a `$f` its typecode and then any text, for an `$e`
-- its statement with the texts substituted
abbrev pub agrees : (ℕ → List ℕ) → NumberedHypothesis → List ℕ → Bool
agrees sigma (floating label typecode variable) entry = begins_with typecode entry
agrees sigma (essential label statement) entry = same_numbers entry (substituted sigma statement)

abbrev pub all_agree : (ℕ → List ℕ) → List NumberedHypothesis → List (List ℕ) → Bool
all_agree sigma [] [] = true
all_agree sigma [] (entry ∷ entries) = false
all_agree sigma (h ∷ hypotheses) [] = false
all_agree sigma (h ∷ hypotheses) (entry ∷ entries) =
    agrees sigma h entry && all_agree sigma hypotheses entries

abbrev pub numbered_applied_under : NumberedPlace → NumberedFrame → (ℕ → List ℕ) → List (List ℕ)
    → Option (List ℕ)
numbered_applied_under p f sigma entries =
    if all_agree sigma f.hypotheses entries && keeps_apart (numbers_apart p) f sigma
    then Some (substituted sigma f.statement)
    else None

-- the result of applying an assertion to entries of numbers
abbrev pub numbered_applied : NumberedPlace → NumberedFrame → List (List ℕ) → Option (List ℕ)
numbered_applied p f entries =
    numbered_applied_under p f (text_in nat_eq (bindings_of f.hypotheses entries)) entries

-- what a label cites: the statement of a hypothesis, or the frame of an assertion
pub data Citation : Type 0 where
  gives : List ℕ → Citation
  applies : NumberedFrame → Citation

-- the stack after a citation
abbrev pub stack_after_citation : NumberedPlace → Citation → List (List ℕ) → Option (List (List ℕ))
stack_after_citation p (gives statement) stack = Some (stack ++ statement ∷ [])
stack_after_citation p (applies f) stack =
    stack_with (numbered_applied p f) (length f.hypotheses) stack

-- the label is that of an active hypothesis with this statement
pub record NamesHypothesis (name : ℕ → Token) (c : Context) (label : Token) (statement : List ℕ) :
    Type 0 where
  pub hypothesis : Hypothesis
  pub is : active_hypothesis c label ≡ Some hypothesis
  pub says : statement_of hypothesis ≡ named name statement

-- the label is that of an assertion with this frame
pub record NamesFrame (name : ℕ → Token) (c : Context) (label : Token) (n : NumberedFrame) :
    Type 0 where
  pub frame : Frame
  pub no_hypothesis : active_hypothesis c label ≡ None
  pub is : c.frames label ≡ Some frame
  pub named : IsNamedFrame name n frame
  pub once : TypeOnce frame.hypotheses

abbrev pub IsNamedCitation : (ℕ → Token) → Context → Token → Citation → Type 0
IsNamedCitation name c label (gives statement) = NamesHypothesis name c label statement
IsNamedCitation name c label (applies n) = NamesFrame name c label n

-- a citation does to a stack of numbers what its label does to the stack of their tokens
abbrev pub CitationIsNamed : Type 0
CitationIsNamed =
    (name : ℕ → Token) (p : NumberedPlace) (c : Context) (label : Token) (n : Citation)
    (stack : List (List ℕ)) →
    IsNaming name → IsNamedPlace name p c → IsNamedCitation name c label n →
    stack_after_label c label (map (named name) stack)
    ≡ option_map (map (named name)) (stack_after_citation p n stack)
