-- Injections between sorts: what axioms and lemmas say about them.
use Rattle.std.specs.Prelude.{◌≡◌, ℕ, Some, IsTrue, [], ◌∷◌, Contains, slice_get}
use Rattle.ml_pat.specs.Patterns.{Pattern, all, ex, equal, fun, var, meta}
use Rattle.ml_kernel.specs.Theorems.{Theorem}
use Rattle.ml_derived.specs.Scopes.{Scope, IsOver, IsStatedIn, IsWithin}
use Rattle.ml_image.specs.Images.{sort_image}
use Rattle.prove_term.specs.Contexts.{Context}
use Rattle.prove_term.specs.Numbered.{inject, HasEnds}

-- each element of the sort s, injected into the sort t, is one element of t
abbrev pub injecting : ℕ → ℕ → ℕ → Pattern
injecting c s t = all 0 s (ex 1 t (equal (var 1) (inject c s t (var 0))))

pub record SaysInjecting (cx : Context) (a b : ℕ) (p : Pattern) : Type 0 where
  pub ends : HasEnds cx.program.sig cx.names a b
  pub says : p ≡ injecting ends.symbol ends.lower ends.upper

-- for each element of s, the injection from s to t followed by that from t to u is the injection
-- from s to u
abbrev pub collapsing : ℕ → ℕ → ℕ → ℕ → Pattern
collapsing c s t u = all 0 s (equal (inject c t u (inject c s t (var 0))) (inject c s u (var 0)))

pub record SaysCollapsing (cx : Context) (a b d : ℕ) (p : Pattern) : Type 0 where
  pub ends : HasEnds cx.program.sig cx.names a b
  pub last : ℕ
  pub is_last : sort_image cx.program.sig cx.names d ≡ Some last
  pub says : p ≡ collapsing ends.symbol ends.lower ends.upper last

-- the theorem assumes that a pattern variable is one element of s, and says that it is one element
-- of t when injected
pub record SaysInjected (c s t : ℕ) (made : Theorem) : Type 0 where
  pub hypotheses : made.hypotheses ≡ fun (meta 0) s ∷ []
  pub conclusion : made.conclusion ≡ fun (inject c s t (meta 0)) t

-- the lemma says this for the sorts a and b
pub record IsInjected (cx : Context) (a b : ℕ) (lemma : Theorem) : Type 0 where
  pub ends : HasEnds cx.program.sig cx.names a b
  pub says : SaysInjected ends.symbol ends.lower ends.upper lemma

-- the lemma at place k says this
pub record IsInjectionAt (cx : Context) (a b k : ℕ) : Type 0 where
  pub lemma : Theorem
  pub there : slice_get cx.lemmas k ≡ Some lemma
  pub is : IsInjected cx a b lemma

-- The theorem assumes that a pattern variable is one element of s. It says that its injection into
-- t and then into u equals its injection into u.
pub record SaysCollapsed (c s t u : ℕ) (made : Theorem) : Type 0 where
  pub hypotheses : made.hypotheses ≡ fun (meta 0) s ∷ []
  pub conclusion : made.conclusion
      ≡ equal (inject c t u (inject c s t (meta 0))) (inject c s u (meta 0))

-- the lemma says this for the sorts a, b and d
pub record IsCollapsed (cx : Context) (a b d : ℕ) (lemma : Theorem) : Type 0 where
  pub ends : HasEnds cx.program.sig cx.names a b
  pub last : ℕ
  pub is_last : sort_image cx.program.sig cx.names d ≡ Some last
  pub says : SaysCollapsed ends.symbol ends.lower ends.upper last lemma

-- the lemma at place k says this
pub record IsCollapseAt (cx : Context) (a b d k : ℕ) : Type 0 where
  pub lemma : Theorem
  pub there : slice_get cx.lemmas k ≡ Some lemma
  pub is : IsCollapsed cx a b d lemma

-- what is proved from an axiom
abbrev pub CollapsedFrom : Theorem → Theorem → Type 0
CollapsedFrom first made =
    (c s t u : ℕ) → first.conclusion ≡ collapsing c s t u → SaysCollapsed c s t u made

abbrev pub InjectedFrom : Theorem → Theorem → Type 0
InjectedFrom first made = (c s t : ℕ) → first.conclusion ≡ injecting c s t → SaysInjected c s t made

-- what is proved from three lemmas
pub record Joins (c s t u : ℕ) (collapse first second : Theorem) : Type 0 where
  pub collapses : SaysCollapsed c s t u collapse
  pub lower : SaysInjected c s t first
  pub upper : SaysInjected c t u second

abbrev pub JoinedFrom : Theorem → Theorem → Theorem → Theorem → Type 0
JoinedFrom collapse first second made =
    (c s t u : ℕ) → Joins c s t u collapse first second → SaysInjected c s u made

-- If a scope has the three lemmas as stated, the pattern of the first, and all variables, and
-- assumes the hypotheses of the result, it has the result.
abbrev pub StaysJoined : Theorem → Theorem → Theorem → Theorem → Type 0
StaysJoined collapse first second made =
    (s : Scope) → ((x : ℕ) → IsTrue (s.object x)) → ((i : ℕ) → IsTrue (s.meta i))
    → IsOver s collapse.conclusion
    → IsStatedIn s collapse.hypotheses collapse.conclusion
    → IsStatedIn s first.hypotheses first.conclusion
    → IsStatedIn s second.hypotheses second.conclusion
    → ((p : Pattern) → Contains made.hypotheses p → Contains s.assumed p) → IsWithin s made
