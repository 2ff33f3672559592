-- How a text that is written statement by statement comes to justify a run. The laws hold of every
-- text that fits, and of the bytes that are appended to it.
use Rattle.std.specs.Prelude.{◌≡◌, ℕ, ◌<◌, ◌≤◌, ◌^◌, true, false, List, [], ◌++◌, length, take}
use Rattle.std.specs.Prelude.{drop, Some}
use Rattle.mm_text.specs.Bytes.{Token}
use Rattle.mm_header.specs.HeaderText.{header_bytes}
use Rattle.mm_database.specs.StatementTexts.{written_statements}
use Rattle.ml_pat.specs.Patterns.{Pattern, imp, ev}
use Rattle.ml_pat.specs.Named.{AreDistinct}
use Rattle.ml_pat.specs.Leaves.{EachLeaf}
use Rattle.ml_kernel.specs.Theorems.{Theorem}
use Rattle.term_core.specs.Patterns.{Pattern as RulePattern}
use Rattle.rule_core.specs.Theories.{RewriteTheory}
use Rattle.ml_image.specs.Images.{image_of}
use Rattle.ml_image.specs.Sentences.{Sentence, sentence_image}
use Rattle.ml_image.specs.Gained.{AreOwnTokens}
use Rattle.mm_claims.specs.Rendered.{Rendered}
use Rattle.mm_claims.specs.Statements.{all_name_statements}
use Rattle.mm_claims.specs.Fitting.{AreNames}
use Rattle.mm_claims.specs.OverNames.{closed_over}
use Rattle.mm_claims.specs.Blocks.{open_assertion}
use Rattle.mm_claims.specs.ClaimVariables.{claim_of, claim_variables}
use Rattle.mm_claims.specs.Keeping.{Fits, Gains}
use Rattle.mm_claims.specs.Places.{MayProve, StatesLemma}
use Rattle.mm_justify.specs.Justifying.{HasOnlyAxiomsOf, Justifies, JustifiesRun}
use Rattle.ml_image.specs.Assumed.{IsAssumed}

-- the axioms of the header are axioms of every program
abbrev pub HeaderHasOnly : Type 0
HeaderHasOnly = (theory : RewriteTheory) → HasOnlyAxiomsOf theory header_bytes

-- A text that fits and has only the axioms of a program still has only these after the declarations
-- of more names, if these names are the program's own tokens.
abbrev pub DeclaredHasOnly : Type 0
DeclaredHasOnly =
    (theory : RewriteTheory) (names : List Token) (k : Rendered) (bytes : List ℕ) → AreNames names
    → AreDistinct names →
    length names < 2 ^ 64 → k.begun ≡ true → k.named ≤ length names
    → AreOwnTokens theory.sig (drop k.named names) →
    Fits names k bytes → HasOnlyAxiomsOf theory bytes →
    HasOnlyAxiomsOf theory
    (bytes ++ written_statements (all_name_statements k.named (drop k.named names)))

-- The same is true after an axiom that the program may assume, whatever variables it binds.
abbrev pub AxiomHasOnly : Type 0
AxiomHasOnly =
    (theory : RewriteTheory) (names : List Token) (old new : Rendered) (s : Sentence) (p : Pattern)
    (bytes appended : List ℕ) → IsAssumed theory s
    → sentence_image theory.sig (take old.named names) s ≡ Some p →
    Gains names old new appended (claim_variables [] p)
    (open_assertion false (take old.named names) old.count (claim_of [] p)) →
    Fits names old bytes → HasOnlyAxiomsOf theory bytes → HasOnlyAxiomsOf theory (bytes ++ appended)

-- The same is true after a theorem. What was appended to the buffer in which the lemma was stated
-- can be appended to every text that fits. So a file is written step by step, and only the last
-- step has to be held in memory.
abbrev pub TheoremHasOnly : Type 0
TheoremHasOnly =
    (theory : RewriteTheory) (names : List Token) (old new : Rendered) (t : Theorem)
    (buffer buffer' text appended : List ℕ) → StatesLemma names old new t buffer buffer' →
    buffer' ≡ buffer ++ appended → MayProve names old t → Fits names old text
    → HasOnlyAxiomsOf theory text →
    HasOnlyAxiomsOf theory (text ++ appended)

-- The text then fits what is kept.
abbrev pub TheoremFitsAnywhere : Type 0
TheoremFitsAnywhere =
    (names : List Token) (old new : Rendered) (t : Theorem) (buffer buffer' text appended : List ℕ)
    →
    StatesLemma names old new t buffer buffer' → buffer' ≡ buffer ++ appended → MayProve names old t
    →
    Fits names old text → Fits names new (text ++ appended)

-- If the theorem says, without hypotheses and variables, that one pattern reaches another, the text
-- with it justifies that.
abbrev pub TheoremJustifies : Type 0
TheoremJustifies =
    (theory : RewriteTheory) (names : List Token) (old new : Rendered) (t : Theorem)
    (buffer buffer' text appended : List ℕ) (a b : Pattern)
    → StatesLemma names old new t buffer buffer' →
    buffer' ≡ buffer ++ appended → MayProve names old t → Fits names old text
    → HasOnlyAxiomsOf theory text →
    AreNames names → AreDistinct names → t.hypotheses ≡ [] → t.conclusion ≡ imp a (ev b) →
    EachLeaf (closed_over (take old.named names)) (imp a (ev b)) →
    Justifies (text ++ appended) theory (take old.named names) a b

-- If a and b are the images of a start and an end, this justifies the run between them.
abbrev pub RunIsJustified : Type 0
RunIsJustified =
    (theory : RewriteTheory) (names : List Token) (bytes : List ℕ) (start end : RulePattern)
    (a b : Pattern) →
    image_of theory.sig names start ≡ Some a → image_of theory.sig names end ≡ Some b →
    Justifies bytes theory names a b → JustifiesRun bytes theory start end
