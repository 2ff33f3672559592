-- Scopes and contexts: what theorems may assume.
use Rattle.std.proofs.Common.{◌≡◌, true, List, [], ◌∷◌, ◌++◌, map, zero, suc, refl, ap, arith}
use Rattle.std.specs.Prelude.{Contains}
use Rattle.std.proofs.lemmas.List.Elements.{Contains-append_left, Contains-append_right}
use Rattle.ml_pat.specs.Patterns.{Pattern}
use Rattle.ml_kernel.specs.Theorems.{Theorem}
use Rattle.ml_derived.specs.Scopes.{Scope, IsWithin}
use Rattle.prove_term.specs.Contexts.{Context, HasContext, StaysIn, IsLemmaIn}
use Rattle.prove_term.proofs.AssumingLaws.{all_leaves}

-- ---- a scope of everything

-- the scope of all numbers, with a context's claims and the given assumptions
abbrev pub everything : Context → List Pattern → Scope
everything cx ps = record {
  sort = λ n. true;
  constant = λ n. true;
  object = λ n. true;
  meta = λ n. true;
  stated = map (λ (p : Pattern). ([], p)) cx.axioms
      ++ map (λ (t : Theorem). (t.hypotheses, t.conclusion)) cx.lemmas;
  assumed = ps;
}

Contains-map : {X Y : Type 0} (f : X → Y) (xs : List X) (x : X) → Contains xs x
    → Contains (map f xs) (f x)
Contains-map f [] x h = absurd (omega (arith, h.1))
Contains-map f (y ∷ xs) x (zero, low, is) = (zero, omega arith, ap f is)
Contains-map f (y ∷ xs) x (suc k, low, is) =
    let deeper : Contains (map f xs) (f x) = Contains-map f xs x (k, omega (arith, low), is) in
    (suc deeper.0, omega (arith, deeper.1), deeper.2)

pub has_everything : (cx : Context) (ps : List Pattern) → HasContext (everything cx ps) cx
has_everything cx ps = record {
  images =
      λ q p e. all_leaves _ p
      (record { sort = λ i. refl; constant = λ i. refl; object = λ i. refl; meta = λ i. refl });
  objects = λ x. refl;
  metas = λ i. refl;
  axioms =
      λ p k. Contains-append_left (map (λ (q : Pattern). ([], q)) cx.axioms)
      (map (λ (t : Theorem). (t.hypotheses, t.conclusion)) cx.lemmas) ([], p)
      (Contains-map (λ (q : Pattern). ([], q)) cx.axioms p k);
  lemmas =
      λ t k. Contains-append_right (map (λ (q : Pattern). ([], q)) cx.axioms)
      (map (λ (u : Theorem). (u.hypotheses, u.conclusion)) cx.lemmas)
      (t.hypotheses, t.conclusion)
      (Contains-map (λ (u : Theorem). (u.hypotheses, u.conclusion)) cx.lemmas t k);
}

-- ---- what may be assumed

-- the same scope, with these patterns as its assumptions
abbrev pub assuming : Scope → List Pattern → Scope
assuming s ps = record s { assumed = ps }

pub assuming_has : (s : Scope) (ps : List Pattern) (cx : Context) → HasContext s cx
    → HasContext (assuming s ps) cx
assuming_has s ps cx h =
    record {
      images = h.images;
      objects = h.objects;
      metas = h.metas;
      axioms = h.axioms;
      lemmas = h.lemmas;
    }

-- If a theorem is within a scope with other assumptions, it is within the scope when its own
-- hypotheses may be assumed there.
pub within_own : (s : Scope) (ps : List Pattern) (t : Theorem) → IsWithin (assuming s ps) t →
    ((p : Pattern) → Contains t.hypotheses p → Contains s.assumed p) → IsWithin s t
within_own s ps t w own = record {
  hypotheses = λ p k. (own p k, (w.hypotheses p k).1);
  conclusion = w.conclusion;
  used = w.used;
  cited = w.cited;
}

-- A theorem that stays in a context and may assume these patterns is a lemma there, and assumes
-- only them.
abbrev pub StaysAssuming : Context → List Pattern → Theorem → Type 0
StaysAssuming cx ps t =
    (s : Scope) → HasContext s cx → ((p : Pattern) → Contains ps p → Contains s.assumed p)
    → IsWithin s t

pub lemma_of : (cx : Context) (ps : List Pattern) (t : Theorem) → StaysAssuming cx ps t
    → IsLemmaIn cx t
lemma_of cx ps t stays s has own =
    within_own s ps t (stays (assuming s ps) (assuming_has s ps cx has) (λ p k. k)) own

pub assumes_only : (cx : Context) (ps : List Pattern) (t : Theorem) → StaysAssuming cx ps t
    → (p : Pattern) → Contains t.hypotheses p → Contains ps p
assumes_only cx ps t stays p there =
    ((stays (everything cx ps) (has_everything cx ps) (λ q k. k)).hypotheses p there).0

nothing_there : (ps : List Pattern) → ((p : Pattern) → Contains ps p → Contains [] p) → ps ≡ []
nothing_there [] h = refl
nothing_there (p ∷ ps) h = absurd (omega (arith, (h p (zero, omega arith, refl)).1))

-- a theorem that stays in a context has no hypotheses
pub stays_no_hypotheses : (cx : Context) (t : Theorem) → StaysIn cx t → t.hypotheses ≡ []
stays_no_hypotheses cx t stays =
    nothing_there t.hypotheses
    (λ p there. ((stays (everything cx []) (has_everything cx [])).hypotheses p there).0)
