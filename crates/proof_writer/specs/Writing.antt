-- What was written of a context, and which texts have it.
use Rattle.std.specs.Prelude.{◌≡◌, ℕ, ◌<◌, ◌≤◌, true, List, [], ◌++◌, length, slice_get, Some}
use Rattle.ml_pat.specs.Patterns.{Pattern, imp, ev}
use Rattle.ml_kernel.specs.Theorems.{Theorem}
use Rattle.ml_derived.specs.Scopes.{Scope, IsStatedIn, IsWithin}
use Rattle.term_core.specs.Patterns.{Pattern as RulePattern}
use Rattle.rule_core.specs.Matching.{OccursIn}
use Rattle.rule_core.specs.ProgramView.{theory_of}
use Rattle.ml_image.specs.Images.{image_of}
use Rattle.mm_claims.specs.Rendered.{Rendered, all_stated}
use Rattle.mm_claims.specs.Keeping.{Fits}
use Rattle.mm_claims.specs.Places.{IsStated}
use Rattle.mm_justify.specs.Justifying.{HasOnlyAxiomsOf, IsProofOfRun}
use Rattle.mm_justify.specs.Counting.{HasCounts}
use Rattle.prove_term.specs.Contexts.{Context, HasContext}
use Rattle.proof_writer.specs.declared.writer.ProofParts.{ProofParts}
use Rattle.proof_writer.specs.declared.writer.Writer.{Writer}

-- the context of what was made
abbrev pub context_of : ProofParts → Context
context_of made = record {
  program = made.program.now;
  names = made.names.now;
  axioms = made.theory.now;
  lemmas = made.lemmas.now;
}

-- The header was written. The first `named` names of the context are declared. As many axioms and
-- lemmas as the writer counts were stated, from the first on.
pub record HasWritten (w : Writer) (cx : Context) : Type 0 where
  pub begun : w.renderer.begun ≡ true
  pub named : w.renderer.named ≤ length cx.names
  pub few_axioms : w.axioms ≤ length cx.axioms
  pub few_lemmas : w.lemmas ≤ length cx.lemmas
  pub axioms : (i : ℕ) (p : Pattern) → i < w.axioms → slice_get cx.axioms i ≡ Some p →
      IsStated w.renderer.stated [] p
  pub lemmas : (i : ℕ) (t : Theorem) → i < w.lemmas → slice_get cx.lemmas i ≡ Some t →
      IsStated w.renderer.stated t.hypotheses t.conclusion

-- all of the context was written
pub record HasWrittenAll (w : Writer) (cx : Context) : Type 0 where
  pub written : HasWritten w cx
  pub names : w.renderer.named ≡ length cx.names
  pub axioms : w.axioms ≡ length cx.axioms
  pub lemmas : w.lemmas ≡ length cx.lemmas

-- The text has exactly what was written. It is valid so far, it has only axioms of the program, and
-- its facts and statements were counted.
pub record IsTextOf (cx : Context) (w : Writer) (bytes : List ℕ) : Type 0 where
  pub fits : Fits cx.names w.renderer bytes
  pub only : HasOnlyAxiomsOf (theory_of cx.program) bytes
  pub counts : HasCounts w.facts w.statements bytes

-- the bytes that were appended to a buffer are such a text
abbrev pub Begins : Context → Writer → List ℕ → List ℕ → Type 0
Begins cx w before after = (added : List ℕ) × (after ≡ before ++ added) × IsTextOf cx w added

-- Bytes were appended to a buffer. Each text of what the old writer has written, followed by these
-- bytes, is a text of what the new writer has written.
abbrev pub Adds : Context → Writer → Writer → List ℕ → List ℕ → Type 0
Adds cx old new before after =
    (added : List ℕ) × (after ≡ before ++ added) ×
    ((text : List ℕ) → IsTextOf cx old text → IsTextOf cx new (text ++ added))

-- all that could be cited can still be cited
abbrev pub Keeps : Rendered → Rendered → Type 0
Keeps old new =
    (hypotheses : List Pattern) (conclusion : Pattern)
    → IsStated (all_stated old) hypotheses conclusion →
    IsStated (all_stated new) hypotheses conclusion

-- the scope has all that may be cited
abbrev pub HasStated : Scope → Rendered → Type 0
HasStated s k = (hypotheses : List Pattern) (conclusion : Pattern)
    → IsStated (all_stated k) hypotheses conclusion →
    IsStatedIn s hypotheses conclusion

-- the theorem assumes nothing, and uses and cites only what the context has and what was stated
abbrev pub MayFollow : Context → Rendered → Theorem → Type 0
MayFollow cx k t = (s : Scope) → HasContext s cx → HasStated s k → IsWithin s t

-- the pattern of a rule has no variable
abbrev pub HasNoVariables : RulePattern → Type 0
HasNoVariables a = (x : ℕ) → OccursIn x a → ⊥

-- If the theorem says that the image of a pattern reaches the image of another, the appended bytes
-- turn each text into a proof of the run between the two patterns.
abbrev pub Concludes : Context → Writer → Theorem → List ℕ → List ℕ → Type 0
Concludes cx old t before after =
    (a b : RulePattern) (from to : Pattern) (added text : List ℕ) → HasNoVariables a
    → HasNoVariables b →
    image_of cx.program.sig cx.names a ≡ Some from → image_of cx.program.sig cx.names b ≡ Some to →
    t.conclusion ≡ imp from (ev to) → after ≡ before ++ added → IsTextOf cx old text →
    IsProofOfRun (text ++ added) (theory_of cx.program) a b
