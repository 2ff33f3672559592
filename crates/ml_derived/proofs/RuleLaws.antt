-- A rule stays within a scope that contains the instances of its variables, its conclusion and its
-- premises.
use Rattle.std.proofs.Common.{List, [], ◌∷◌, sym, subst, inl, inr, arith}
use Rattle.std.specs.Prelude.{Contains, Result, Ok, Err, IfOk, ◌⊎◌}
use Rattle.ml_pat.specs.Patterns.{Pattern}
use Rattle.ml_kernel.specs.Rules.{Instance}
use Rattle.ml_kernel.specs.Theorems.{Theorem, all_hypotheses, all_derivations, IsByRule, IsByLemma}
use Rattle.ml_kernel.specs.UsedLeaves.{EachInstance, EachUsed, AllUsed}
use Rattle.ml_kernel.specs.MayCite.{EachCited, AllCited}
use Rattle.ml_kernel.specs.declared.rules.Rule.{Rule}
use Rattle.ml_derived.specs.Scopes.{Scope, leaves_of, cites_of, IsOver, AreOver, IsStatedIn}
use Rattle.ml_derived.specs.Scopes.{AreAssumed, IsWithin, AreWithin, StaysWithin}
use Rattle.std.proofs.lemmas.List.Elements.{Contains-append_cases}
use Rattle.ml_kernel.proofs.Merging.{Contains-AddsNew_only}

nothing_contained : {P : Type 0} (p : Pattern) → Contains [] p → P
nothing_contained p h = absurd (omega (arith, h.1))

either : {A B C : Type 0} → (A → C) → (B → C) → A ⊎ B → C
either f g (inl a) = f a
either f g (inr b) = g b

all_assumed : (s : Scope) (ts : List Theorem) → AreWithin s ts → AreAssumed s (all_hypotheses ts)
all_assumed s [] h p k = nothing_contained p k
all_assumed s (t ∷ ts) h p k =
    either (h.0.hypotheses p) (all_assumed s ts h.1 p)
    (Contains-append_cases t.hypotheses (all_hypotheses ts) p k)

all_used : (s : Scope) (ts : List Theorem) → AreWithin s ts
    → AllUsed (leaves_of s) (all_derivations ts)
all_used s [] h = tt
all_used s (t ∷ ts) h = (h.0.used, all_used s ts h.1)

all_cited : (s : Scope) (ts : List Theorem) → AreWithin s ts
    → AllCited (cites_of s) (all_derivations ts)
all_cited s [] h = tt
all_cited s (t ∷ ts) h = (h.0.cited, all_cited s ts h.1)

pub rule_within : (s : Scope) (r : Rule) (is : List Instance) (ts : List Theorem) (q : Pattern)
    (t : Theorem) → IsByRule r is ts q t → EachInstance (leaves_of s) is → IsOver s q
    → AreWithin s ts → IsWithin s t
rule_within s r is ts q t by instances over within = record {
  hypotheses =
      λ p k. all_assumed s ts within p
      (Contains-AddsNew_only (all_hypotheses ts) t.hypotheses p by.kept_hypotheses k);
  conclusion = subst (IsOver s) (sym by.conclusion) over;
  used = subst (EachUsed (leaves_of s)) (sym by.last_step) (instances, all_used s ts within);
  cited = subst (EachCited (cites_of s)) (sym by.last_step) (all_cited s ts within);
}

-- what a rule requires of a scope
abbrev pub Suffices : List Instance → List Pattern → List Theorem → Pattern → Type 0
Suffices is ps ts q =
    (s : Scope) → AreOver s ps → AreWithin s ts → EachInstance (leaves_of s) is × IsOver s q

pub rule_stays : {E : Type 0} (r : Rule) (is : List Instance) (ps : List Pattern)
    (ts : List Theorem) (q : Pattern) (result : Result Theorem E) → Suffices is ps ts q
    → IfOk result (IsByRule r is ts q) → IfOk result (StaysWithin ps ts)
rule_stays r is ps ts q (Ok t) needs by = λ s over within.
    rule_within s r is ts q t by (needs s over within).0 (needs s over within).1 within
rule_stays r is ps ts q (Err e) needs by = tt

-- a lemma that was stated, at patterns of the scope
pub lemma_within : (s : Scope) (lemma : Theorem) (ms : List Pattern) (ts : List Theorem)
    (t : Theorem) → IsByLemma lemma ms ts t → IsStatedIn s lemma.hypotheses lemma.conclusion
    → AreOver s ms → IsOver s t.conclusion → AreWithin s ts → IsWithin s t
lemma_within s lemma ms ts t by stated metas over within = record {
  hypotheses =
      λ p k. all_assumed s ts within p
      (Contains-AddsNew_only (all_hypotheses ts) t.hypotheses p by.kept_hypotheses k);
  conclusion = over;
  used = subst (EachUsed (leaves_of s)) (sym by.last_step) (all_used s ts within);
  cited =
      subst (EachCited (cites_of s)) (sym by.last_step) ((stated, metas), all_cited s ts within);
}
