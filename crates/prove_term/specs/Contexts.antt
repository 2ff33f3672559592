-- What was made for the proofs of a run: the names of sorts, symbols and values, the axioms, and
-- the lemmas. A theorem stays in a context if it uses and cites nothing else.
use Rattle.std.specs.Prelude.{◌≡◌, ℕ, IsTrue, List, [], ◌++◌, Contains, Some, take, slice_get}
use Rattle.ml_pat.specs.Patterns.{Pattern}
use Rattle.ml_kernel.specs.Theorems.{Theorem}
use Rattle.ml_derived.specs.Scopes.{Scope, IsOver, AreOver, IsStatedIn, IsWithin, AreWithin}
use Rattle.rule_core.specs.declared.rules.Program.{Program}
use Rattle.rule_core.specs.ProgramView.{theory_of}
use Rattle.ml_image.specs.Assumed.{IsAssumed}
use Rattle.ml_image.specs.Sentences.{Sentence, sentence_image, IsImageOf}
use Rattle.ml_image.specs.Gained.{AreOwnTokens, HasGained}

-- the names, axioms and lemmas that proofs about a program use, each in the order in which they
-- were added
pub record Context : Type 0 where
  pub program : Program
  pub names : List (List ℕ)
  pub axioms : List Pattern
  pub lemmas : List Theorem

-- The scope has what the context has: the sorts and constants of each image over its names, all
-- variables, and its axioms and lemmas as stated.
pub record HasContext (s : Scope) (cx : Context) : Type 0 where
  pub images : (q : Sentence) (p : Pattern) → sentence_image cx.program.sig cx.names q ≡ Some p
      → IsOver s p
  pub objects : (x : ℕ) → IsTrue (s.object x)
  pub metas : (i : ℕ) → IsTrue (s.meta i)
  pub axioms : (p : Pattern) → Contains cx.axioms p → IsStatedIn s [] p
  pub lemmas : (t : Theorem) → Contains cx.lemmas t → IsStatedIn s t.hypotheses t.conclusion

-- the theorem assumes, uses and cites only what the context has
abbrev pub StaysIn : Context → Theorem → Type 0
StaysIn cx t = (s : Scope) → HasContext s cx → IsWithin s t

-- each scope that has the context, these patterns and these theorems has the theorem
abbrev pub StaysInWith : Context → List Pattern → List Theorem → Theorem → Type 0
StaysInWith cx ps ts t =
    (s : Scope) → HasContext s cx → AreOver s ps → AreWithin s ts → IsWithin s t

-- the theorem uses and cites only what the context has, and assumes only its own hypotheses
abbrev pub IsLemmaIn : Context → Theorem → Type 0
IsLemmaIn cx t =
    (s : Scope) → HasContext s cx → ((p : Pattern) → Contains t.hypotheses p → Contains s.assumed p)
    → IsWithin s t

-- The names are the program's own, and so are the axioms. Each lemma stays in the context of the
-- names, the axioms and the lemmas before it.
pub record IsContext (cx : Context) : Type 0 where
  pub own : AreOwnTokens cx.program.sig cx.names
  pub axioms : (p : Pattern) → Contains cx.axioms p →
      IsImageOf cx.program.sig cx.names (IsAssumed (theory_of cx.program)) p
  pub lemmas : (k : ℕ) (t : Theorem) → slice_get cx.lemmas k ≡ Some t →
      IsLemmaIn (record cx { lemmas = take k cx.lemmas }) t

-- The context has grown. It keeps its program and all that it had. What is new comes after that.
pub record HasGrown (old new : Context) : Type 0 where
  pub program : new.program ≡ old.program
  pub names : HasGained old.program.sig old.names new.names
  pub axioms : List Pattern
  pub more_axioms : new.axioms ≡ old.axioms ++ axioms
  pub lemmas : List Theorem
  pub more_lemmas : new.lemmas ≡ old.lemmas ++ lemmas

-- the context at the start, without names, axioms and lemmas
abbrev pub new_context : Program → Context
new_context program = record { program = program; names = []; axioms = []; lemmas = [] }
