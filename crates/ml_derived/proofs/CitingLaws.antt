-- Assumptions and cited lemmas within a scope.
use Rattle.std.proofs.Common.{◌≡◌, ℕ, ◌<◌, List, [], ◌∷◌, slice_index_or, sym, subst, suc, zero}
use Rattle.std.proofs.Common.{length, arith}
use Rattle.std.specs.Prelude.{Contains, Result, Ok, Err, IfOk}
use Rattle.ml_pat.specs.Patterns.{Pattern, unary, binary, sorted, quantified, meta}
use Rattle.ml_kernel.specs.Lemmas.{instance, IsMetaBelow}
use Rattle.ml_kernel.specs.Theorems.{Theorem, hypothesis, IsByLemma}
use Rattle.ml_kernel.specs.UsedLeaves.{EachUsed}
use Rattle.ml_kernel.specs.MayCite.{EachCited}
use Rattle.ml_derived.specs.Scopes.{Scope, leaves_of, cites_of, IsOver, AreOver, IsOverPlaces}
use Rattle.ml_derived.specs.Scopes.{AreAssumed, AssumesWithin, CitesWithin}
use Rattle.ml_derived.proofs.RuleLaws.{lemma_within}

-- the only item of a list
only : (p q : Pattern) → Contains (p ∷ []) q → p ≡ q
only p q (zero, below, same) = same
only p q (suc k, below, same) = absurd (omega (arith, below))

one_assumed : (s : Scope) (p : Pattern) (ps : List Pattern) → ps ≡ p ∷ [] → Contains s.assumed p
    → IsOver s p → AreAssumed s ps
one_assumed s p ps is assumed over =
    subst (AreAssumed s) (sym is) (λ q k.
    subst (λ (r : Pattern). Contains s.assumed r × IsOver s r) (only p q k) (assumed, over))

assumption_within : (p : Pattern) (t : Theorem) → t.hypotheses ≡ p ∷ [] → t.conclusion ≡ p
    → t.derivation ≡ hypothesis p → AssumesWithin p t
assumption_within p t hypotheses conclusion derivation = λ s assumed over. record {
  hypotheses = one_assumed s p t.hypotheses hypotheses assumed over;
  conclusion = subst (IsOver s) (sym conclusion) over;
  used = subst (EachUsed (leaves_of s)) (sym derivation) tt;
  cited = subst (EachCited (cites_of s)) (sym derivation) tt;
}

pub assumption_stays : {E : Type 0} (p : Pattern) (result : Result Theorem E)
    → IfOk result (λ t. t.hypotheses ≡ p ∷ []) → IfOk result (λ t. t.conclusion ≡ p)
    → IfOk result (λ t. t.derivation ≡ hypothesis p) → IfOk result (AssumesWithin p)
assumption_stays p (Ok t) hypotheses conclusion derivation =
    assumption_within p t hypotheses conclusion derivation
assumption_stays p (Err e) hypotheses conclusion derivation = tt

-- the pattern for a pattern variable is within the scope
over_at : (s : Scope) (ms : List Pattern) (i j : ℕ) → AreOver s ms → i < length ms
    → IsOver s (slice_index_or ms i (meta j))
over_at s [] i j over below = absurd (omega (arith, below))
over_at s (m ∷ ms) zero j over below = over.0
over_at s (m ∷ ms) (suc i) j over below = over_at s ms i j over.1 (omega (arith, below))

-- an instance at patterns of the scope has only leaves of the scope
pub IsOver-instance : (s : Scope) (ms : List Pattern) (p : Pattern) → AreOver s ms
    → IsMetaBelow (length ms) p → IsOverPlaces s p → IsOver s (instance ms p)
IsOver-instance s ms (binary c p q) over below h =
    (IsOver-instance s ms p over below.0 h.0, IsOver-instance s ms q over below.1 h.1)
IsOver-instance s ms (unary c p) over below h = IsOver-instance s ms p over below h
IsOver-instance s ms (sorted c p v) over below h = (IsOver-instance s ms p over below h.0, h.1)
IsOver-instance s ms (quantified c x v p) over below h =
    (IsOver-instance s ms p over below h.0, h.1)
IsOver-instance s ms (meta i) over below h = over_at s ms i i over below
IsOver-instance s ms p over below h = h

pub citation_stays : {E : Type 0} (lemma : Theorem) (ms : List Pattern) (ts : List Theorem)
    (result : Result Theorem E) → IsMetaBelow (length ms) lemma.conclusion
    → IfOk result (λ t. t.conclusion ≡ instance ms lemma.conclusion)
    → IfOk result (λ t. IsByLemma lemma ms ts t) → IfOk result (CitesWithin lemma ms ts)
citation_stays lemma ms ts (Ok t) below conclusion by = λ s stated over metas within.
    lemma_within s lemma ms ts t by stated metas
    (subst (IsOver s) (sym conclusion) (IsOver-instance s ms lemma.conclusion metas below over))
    within
citation_stays lemma ms ts (Err e) below conclusion by = tt
