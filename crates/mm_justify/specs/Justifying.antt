-- A database justifies that one pattern reaches another. It is valid. It assumes only matching
-- logic, what the program's definition says, and true facts on built-ins. Its last theorem says
-- exactly that (Chen and Rosu 2019).
use Rattle.std.specs.Prelude.{◌≡◌, ℕ, true, false, IsTrue, if◌then◌else◌, List, [], ◌∷◌, ◌++◌, All}
use Rattle.std.specs.Prelude.{Contains, Option, Some, None, bytes_eq, codes}
use Rattle.mm_text.specs.Bytes.{Token, has_token}
use Rattle.mm_database.specs.Frames.{Hypothesis, floating, essential, Frame}
use Rattle.mm_database.specs.Assertions.{Assertion, assertions_of, typings_of}
use Rattle.mm_database.specs.Compressing.{all_compressed}
use Rattle.mm_database.specs.Validity.{IsValid}
use Rattle.mm_header.specs.Header.{Row, header_rows}
use Rattle.mm_header.specs.HeaderRows.{IsFrameOfRow}
use Rattle.ml_pat.specs.Patterns.{Pattern, imp, ev}
use Rattle.ml_pat.specs.Named.{AreDistinct}
use Rattle.ml_pat.specs.Leaves.{EachLeaf}
use Rattle.term_core.specs.Patterns.{Pattern as RulePattern}
use Rattle.rule_core.specs.Theories.{RewriteTheory}
use Rattle.rule_core.specs.RunCuts.{MayEndAt}
use Rattle.ml_image.specs.Assumed.{IsAssumed}
use Rattle.ml_image.specs.Images.{image_of}
use Rattle.ml_image.specs.Sentences.{Sentence, sentence_image}
use Rattle.ml_image.specs.OwnTokens.{IsOwnToken}
use Rattle.mm_justify.specs.Stating.{IsName, name_frame, holds_text, holds_frame, closed_over}

-- ---- frames

-- the typecode that hypotheses give a variable
abbrev pub typecode_in : List Hypothesis → Token → Option Token
typecode_in [] variable = None
typecode_in (floating label typecode typed ∷ hypotheses) variable =
    if bytes_eq typed variable then Some typecode else typecode_in hypotheses variable
typecode_in (essential label statement ∷ hypotheses) variable = typecode_in hypotheses variable

-- the statements of the `$e`s among hypotheses, in order
abbrev pub premises_in : List Hypothesis → List (List Token)
premises_in [] = []
premises_in (floating label typecode variable ∷ hypotheses) = premises_in hypotheses
premises_in (essential label statement ∷ hypotheses) = statement ∷ premises_in hypotheses

-- A frame says no more than another. It has the same statement, the same `$e`s in order, and the
-- same variables of the same types. Its labels may differ, and more pairs may have to stay apart.
pub record SaysNoMore (f other : Frame) : Type 0 where
  pub statement : f.statement ≡ other.statement
  pub premises : premises_in f.hypotheses ≡ premises_in other.hypotheses
  pub types : (variable : Token)
      → typecode_in f.hypotheses variable ≡ typecode_in other.hypotheses variable
  pub apart : (x y : Token) → IsTrue (other.apart x y) → IsTrue (f.apart x y)

-- ---- axioms

-- What an axiom may say: a row of the header; that a token is a sort, a symbol or a domain value of
-- the program; or what the program may assume, with the tokens of names.
pub data IsAxiomOf (theory : RewriteTheory) (f : Frame) : Type 0 where
  header_row : (r : Row) (other : Frame) → Contains header_rows r → IsFrameOfRow r other
      → SaysNoMore f other → IsAxiomOf theory f
  declaration : (token : Token) → IsOwnToken theory.sig token → SaysNoMore f (name_frame token)
      → IsAxiomOf theory f
  assumption_of : (names : List Token) (s : Sentence) (p : Pattern) → IsAssumed theory s →
      sentence_image theory.sig names s ≡ Some p → SaysNoMore f (holds_frame names p)
      → IsAxiomOf theory f

-- a `$p` may say whatever it proves, and a `$a` is one of these axioms
abbrev pub IsAllowed : RewriteTheory → Assertion → Type 0
IsAllowed theory a = a.is_proved ≡ false → IsAxiomOf theory a.frame

abbrev pub AreAllowed : RewriteTheory → List Assertion → Type 0
AreAllowed theory [] = Unit {0}
AreAllowed theory (a ∷ assertions) = IsAllowed theory a × AreAllowed theory assertions

-- the types of variables: a pattern, a sort or an object variable
abbrev pub typecodes : List Token
typecodes = codes "#Pattern" ∷ codes "#Sort" ∷ codes "#Var" ∷ []

abbrev pub AreTypings : List Hypothesis → Type 0
AreTypings [] = Unit {0}
AreTypings (floating label typecode variable ∷ hypotheses) =
    IsTrue (has_token typecodes typecode) × AreTypings hypotheses
AreTypings (essential label statement ∷ hypotheses) = ⊥

-- each `$a` of the text is an axiom of the program, and each `$f` gives its variable one of these
-- types
pub record HasOnlyAxiomsOf (theory : RewriteTheory) (bytes : List ℕ) : Type 0 where
  pub axioms : AreAllowed theory (assertions_of bytes)
  pub types : AreTypings (typings_of bytes)

-- ---- databases

-- A database justifies that a reaches b. It is valid and has only the program's axioms. The last
-- thing that it states is a `$p` without hypotheses, `|- ( \imp A ( \ev B ) )`. A and B are the
-- texts of a and b, which have no variables. The sorts and constants of a and b are numbers of
-- names. The names are tokens of sorts, symbols and values, each once.
pub record Justifies (bytes : List ℕ) (theory : RewriteTheory) (names : List Token)
    (a b : Pattern) : Type 0 where
  pub valid : IsValid bytes
  pub only : HasOnlyAxiomsOf theory bytes
  pub before : List Assertion
  pub last : Frame
  pub assertions : assertions_of bytes ≡ before ++ record { is_proved = true; frame = last } ∷ []
  pub no_hypotheses : last.hypotheses ≡ []
  pub are_names : All IsName names
  pub distinct : AreDistinct names
  pub closed : EachLeaf (closed_over names) (imp a (ev b))
  pub says : last.statement ≡ holds_text names (imp a (ev b))

-- A database justifies a run: it justifies that the image of the start reaches the image of the
-- end.
pub record JustifiesRun (bytes : List ℕ) (theory : RewriteTheory) (start end : RulePattern) :
    Type 0 where
  pub names : List Token
  pub from : Pattern
  pub to : Pattern
  pub from_image : image_of theory.sig names start ≡ Some from
  pub to_image : image_of theory.sig names end ≡ Some to
  pub justifies : Justifies bytes theory names from to

-- A database is a proof of a run: it justifies the run, and each of its `$p`s has a compressed
-- proof.
pub record IsProofOfRun (bytes : List ℕ) (theory : RewriteTheory) (start end : RulePattern) :
    Type 0 where
  pub justifies : JustifiesRun bytes theory start end
  pub compressed : all_compressed bytes ≡ true

-- the bytes are the front of a proof of a run from the start to this end
abbrev pub IsFrontOfProof : RewriteTheory → RulePattern → RulePattern → List ℕ → Type 0
IsFrontOfProof theory start end bytes =
    (rest : List ℕ) × IsProofOfRun (bytes ++ rest) theory start end

-- the bytes are the front of a proof of the run of the start, up to a pattern at which it may be cut
abbrev pub IsFrontOfRun : RewriteTheory → ℕ → ℕ → RulePattern → List ℕ → Type 0
IsFrontOfRun theory limit calls start bytes =
    (end : RulePattern) × MayEndAt theory limit calls start end
    × IsFrontOfProof theory start end bytes
