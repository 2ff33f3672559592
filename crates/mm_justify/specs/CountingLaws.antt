-- What is counted as a fact, and how the counts grow in a text that is written statement by
-- statement.
use Rattle.std.specs.Prelude.{◌≡◌, ℕ, ◌+◌, ◌<◌, ◌≤◌, ◌^◌, true, false, if◌then◌else◌, List, []}
use Rattle.std.specs.Prelude.{◌++◌, length, drop, take, Some}
use Rattle.mm_text.specs.Bytes.{Token}
use Rattle.mm_header.specs.HeaderText.{header_bytes}
use Rattle.mm_database.specs.Frames.{Frame}
use Rattle.mm_database.specs.Assertions.{Assertion}
use Rattle.mm_database.specs.StatementTexts.{written_statements}
use Rattle.ml_pat.specs.Patterns.{Pattern}
use Rattle.ml_pat.specs.Named.{AreDistinct}
use Rattle.ml_kernel.specs.Theorems.{Theorem}
use Rattle.rule_core.specs.Theories.{RewriteTheory}
use Rattle.ml_image.specs.Sentences.{Sentence, sentence_image}
use Rattle.ml_image.specs.TrueFacts.{IsTrueFact}
use Rattle.mm_claims.specs.Rendered.{Rendered}
use Rattle.mm_claims.specs.Statements.{all_name_statements}
use Rattle.mm_claims.specs.Fitting.{AreNames}
use Rattle.mm_claims.specs.Blocks.{open_assertion}
use Rattle.mm_claims.specs.ClaimVariables.{claim_of, claim_variables}
use Rattle.mm_claims.specs.Keeping.{Fits, Gains}
use Rattle.mm_claims.specs.Places.{MayProve, StatesLemma}
use Rattle.mm_justify.specs.Counting.{is_fact, fact_count, statement_count, HasCounts}
use Rattle.mm_justify.specs.FactForms.{is_fact_form}
use Rattle.mm_justify.specs.Stating.{holds_frame}
use Rattle.mm_justify.specs.Justifying.{SaysNoMore, IsAxiomOf}
use Rattle.ml_image.specs.Assumed.{IsAssumed}

-- ---- what is counted

-- the frame is that of a true fact on the program's built-ins, with the tokens of names
pub record IsFrameOfFact (theory : RewriteTheory) (f : Frame) : Type 0 where
  pub names : List Token
  pub sentence : Sentence
  pub image : Pattern
  pub fact : IsTrueFact theory.sig sentence
  pub image_is : sentence_image theory.sig names sentence ≡ Some image
  pub says : SaysNoMore f (holds_frame names image)

-- an axiom of a program that is counted has the frame of a true fact
abbrev pub FactsAreTrue : Type 0
FactsAreTrue =
    (theory : RewriteTheory) (a : Assertion) → IsAxiomOf theory a.frame → is_fact a ≡ true →
    IsFrameOfFact theory a.frame

-- and each `$a` with such a frame is counted
abbrev pub TrueFactsAreFacts : Type 0
TrueFactsAreFacts =
    (theory : RewriteTheory) (a : Assertion) → a.is_proved ≡ false → IsFrameOfFact theory a.frame
    → is_fact a ≡ true

-- ---- how counts grow

-- a text has gained this many facts and statements
pub record AddsCounts (facts statements : ℕ) (old new : List ℕ) : Type 0 where
  pub more_facts : fact_count new ≡ fact_count old + facts
  pub more_statements : statement_count new ≡ statement_count old + statements

-- the header has 88 statements and no fact
abbrev pub HeaderCounts : Type 0
HeaderCounts = HasCounts 0 88 header_bytes

-- each declaration of a name is one statement
abbrev pub DeclaredCounts : Type 0
DeclaredCounts =
    (names : List Token) (k : Rendered) (bytes : List ℕ) → AreNames names → AreDistinct names →
    length names < 2 ^ 64 → k.begun ≡ true → k.named ≤ length names → Fits names k bytes →
    AddsCounts 0 (length (drop k.named names)) bytes
    (bytes ++ written_statements (all_name_statements k.named (drop k.named names)))

-- an axiom that the program may assume is one statement; it is a fact if its image has that form
abbrev pub AxiomCounts : Type 0
AxiomCounts =
    (theory : RewriteTheory) (names : List Token) (old new : Rendered) (s : Sentence) (p : Pattern)
    (bytes appended : List ℕ) → IsAssumed theory s
    → sentence_image theory.sig (take old.named names) s ≡ Some p →
    Gains names old new appended (claim_variables [] p)
    (open_assertion false (take old.named names) old.count (claim_of [] p)) →
    Fits names old bytes → AddsCounts (if is_fact_form p then 1 else 0) 1 bytes (bytes ++ appended)

-- a theorem is one statement and no fact
abbrev pub TheoremCounts : Type 0
TheoremCounts =
    (names : List Token) (old new : Rendered) (t : Theorem) (buffer buffer' text appended : List ℕ)
    →
    StatesLemma names old new t buffer buffer' → buffer' ≡ buffer ++ appended → MayProve names old t
    →
    Fits names old text → AddsCounts 0 1 text (text ++ appended)
