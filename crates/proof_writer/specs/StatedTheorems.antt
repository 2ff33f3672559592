-- Lemmas of a context as theorems of a text.
use Rattle.std.specs.Prelude.{◌≡◌, ℕ, ◌≤◌, true, List, ◌++◌, Contains, slice_get, Some}
use Rattle.mm_text.specs.Bytes.{Token}
use Rattle.mm_database.specs.Assertions.{Assertion, assertions_of}
use Rattle.ml_kernel.specs.Theorems.{Theorem}
use Rattle.mm_claims.specs.Blocks.{open_assertion}
use Rattle.mm_claims.specs.ClaimVariables.{claim_of}
use Rattle.prove_term.specs.Contexts.{Context}
use Rattle.proof_writer.specs.declared.writer.Writer.{Writer}
use Rattle.proof_writer.specs.Writing.{IsTextOf}

-- a `$p` of the text says what the theorem says, under the theorem's hypotheses
abbrev pub IsTheoremOf : List Token → List ℕ → Theorem → Type 0
IsTheoremOf names bytes t =
    (k : ℕ)
    × Contains (assertions_of bytes)
    (open_assertion true names k (claim_of t.hypotheses t.conclusion))

-- Bytes were appended to a buffer. Each text of what the old writer has written, followed by these
-- bytes, has each lemma that the old writer has not written as a theorem.
abbrev pub StatesNewLemmas : Context → Writer → List ℕ → List ℕ → Type 0
StatesNewLemmas cx old before after =
    (added text : List ℕ) → after ≡ before ++ added → IsTextOf cx old text
    → (i : ℕ) (t : Theorem) → old.lemmas ≤ i → slice_get cx.lemmas i ≡ Some t
    → IsTheoremOf cx.names (text ++ added) t

-- and it has each assertion that it had
abbrev pub KeepsAssertions : Context → Writer → List ℕ → List ℕ → Type 0
KeepsAssertions cx old before after =
    (added text : List ℕ) → after ≡ before ++ added → IsTextOf cx old text
    → (a : Assertion) → Contains (assertions_of text) a → Contains (assertions_of (text ++ added)) a
