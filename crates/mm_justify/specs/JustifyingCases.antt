-- What justifies a run, tried on small texts and frames.
use Rattle.std.specs.Prelude.{◌≡◌, ℕ, Bool, false, true, List, [], ◌∷◌, ◌++◌, Some, codes}
use Rattle.mm_text.specs.Bytes.{Token}
use Rattle.mm_database.specs.Frames.{Hypothesis, floating, essential, Frame}
use Rattle.mm_header.specs.HeaderText.{header_bytes}
use Rattle.ml_pat.specs.Patterns.{Pattern, equal, all, var}
use Rattle.term_core.specs.Patterns.{Pattern as RulePattern, application, no_pattern}
use Rattle.rule_core.specs.Theories.{RewriteTheory}
use Rattle.ml_image.specs.Tokens.{token_of_symbol}
use Rattle.mm_proof.specs.Tokens.{object_token}
use Rattle.mm_justify.specs.Stating.{holds_text, holds_frame}
use Rattle.mm_justify.specs.Justifying.{SaysNoMore, IsAxiomOf, JustifiesRun}

-- the header, the declaration of a symbol, and a theorem on it
abbrev pub small_text : List ℕ
small_text = header_bytes
    ++ (codes "$c f:a $.\nn.0 $a #Pattern f:a $.\n"
    ++ codes "t.0 $p |- ( \\imp f:a ( \\ev f:a ) ) $= ( n.0 ev.1 ) AB $.\n")

-- a constant
abbrev pub alone : ℕ → RulePattern
alone f = application f no_pattern

-- in each program with this symbol, the text justifies the run without steps
abbrev pub SmallJustifies : Type 0
SmallJustifies =
    (theory : RewriteTheory) (f : ℕ) → token_of_symbol theory.sig f ≡ Some (codes "f:a") →
    JustifiesRun small_text theory (alone f) (alone f)

-- `|- ( \imp f:a ( \ev f:b ) )`
abbrev pub conclusion : List Token
conclusion = codes "|-" ∷ codes "(" ∷ codes "\\imp" ∷ codes "f:a" ∷ codes "(" ∷ codes "\\ev"
    ∷ codes "f:b" ∷ codes ")" ∷ codes ")" ∷ []

-- no program has an axiom that one symbol reaches another
abbrev pub ConclusionIsNoAxiom : Type 0
ConclusionIsNoAxiom =
    (theory : RewriteTheory) (f : Frame) → f.statement ≡ conclusion → IsAxiomOf theory f → ⊥

-- ---- frames of an axiom with two variables:
-- `|- ( \all x:0 s:S ( \all x:1 s:S ( \eq x:0 x:1 ) ) )`

abbrev pub sorts : List Token
sorts = codes "s:S" ∷ []

abbrev pub two_variables : Pattern
two_variables = all 0 0 (all 1 0 (equal (var 0) (var 1)))

-- a frame that states it, with these hypotheses and pairs
abbrev pub stated : List Hypothesis → (Token → Token → Bool) → Frame
stated hypotheses pairs = record {
  label = codes "ax";
  hypotheses = hypotheses;
  apart = pairs;
  statement = holds_text sorts two_variables;
}

-- `fa $f #Var x:0 $.`, `fb $f #Var x:1 $.`
abbrev pub first_typed : Hypothesis
first_typed = floating (codes "fa") (codes "#Var") (object_token 0)

abbrev pub second_typed : Hypothesis
second_typed = floating (codes "fb") (codes "#Var") (object_token 1)

abbrev pub IsTaken : Frame → Type 0
IsTaken f = SaysNoMore f (holds_frame sorts two_variables)

-- Such an axiom may have any labels, its `$f`s in any order, and more pairs. It may not type a
-- variable as a pattern, leave one untyped as if it were a constant, leave out a pair, or have a
-- `$e`.
pub record TriedFrames : Type 0 where
  pub taken : IsTaken (stated (first_typed ∷ (second_typed ∷ [])) (λ x y. true))
  pub other_order : IsTaken (stated (second_typed ∷ (first_typed ∷ [])) (λ x y. true))
  pub other_type : IsTaken
      (stated (floating (codes "fa") (codes "#Pattern") (object_token 0) ∷ (second_typed ∷ []))
      (λ x y. true)) → ⊥
  pub untyped : IsTaken (stated (second_typed ∷ []) (λ x y. true)) → ⊥
  pub not_apart : IsTaken (stated (first_typed ∷ (second_typed ∷ [])) (λ x y. false)) → ⊥
  pub hypothesis : (statement : List Token)
      → IsTaken (stated (first_typed ∷ (second_typed ∷ (essential (codes "h") statement ∷ [])))
      (λ x y. true)) → ⊥
