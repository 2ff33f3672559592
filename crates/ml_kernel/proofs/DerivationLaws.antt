-- Derivations with more hypotheses and axioms, derivations of instances, and derivations from
-- stored trees.
use Rattle.std.proofs.Common.{◌≡◌, ℕ, ◌<◌, List, [], ◌∷◌, ◌++◌, option_map, slice_index_or, refl}
use Rattle.std.proofs.Common.{sym, ◌∙◌, ap, subst, inl, inr, arith, suc, zero, length}
use Rattle.std.specs.Prelude.{Contains}
use Rattle.std.proofs.lemmas.List.Elements.{Contains-append_left, Contains-append_right}
use Rattle.std.proofs.lemmas.List.Elements.{Contains-append_cases}
use Rattle.ml_pat.specs.Patterns.{Pattern}
use Rattle.ml_kernel.specs.Rules as rules
use Rattle.ml_kernel.specs.Rules.{Instance, pattern, variable, sort, Infers}
use Rattle.ml_kernel.specs.declared.rules.Rule.{Rule}
use Rattle.ml_kernel.specs.Renamings.{IsRenaming, by_place}
use Rattle.ml_kernel.specs.Derivability.{Derives, AllDerive, by_hypothesis, by_axiom, by_renaming}
use Rattle.ml_kernel.specs.Derivability.{by_rule as ruled, none_left, one_more}
use Rattle.ml_kernel.specs.Lemmas.{instance, instances, HasNoMeta, HaveNoVariables}
use Rattle.ml_kernel.specs.Theorems.{Derivation, Derivations, hypothesis, own_axiom, by_rule, cited}
use Rattle.ml_kernel.specs.Theorems.{no_derivation, more_derivations, axioms_of, all_axioms}
use Rattle.ml_kernel.specs.Theorems.{Theorem, IsDerived, IsDerivedInTheories}
use Rattle.ml_kernel.specs.Concluding.{Concludes, AllConclude}
use Rattle.ml_kernel.proofs.InstanceLaws.{fresh-instance, absent-instance, predicate-instance}
use Rattle.ml_kernel.proofs.InstanceLaws.{substituted-instance, instance-without, HasNoMeta-renamed}

-- if each hypothesis is derivable from other hypotheses, then so is what follows from it; there may
-- be more axioms
mutual
  pub Derives-cut : {hs hs' : List Pattern} {axs axs' : Pattern → Type 0} {q : Pattern}
      → ((p : Pattern) → Contains hs p → Derives hs' axs' p) → ((p : Pattern) → axs p → axs' p)
      → Derives hs axs q → Derives hs' axs' q
  Derives-cut f g (by_hypothesis p h) = f p h
  Derives-cut f g (by_axiom p h) = by_axiom p (g p h)
  Derives-cut f g (by_renaming p q h r) = by_renaming p q (g p h) r
  Derives-cut f g (ruled r is ps q i ds) = ruled r is ps q i (AllDerive-cut f g ds)

  pub AllDerive-cut : {hs hs' : List Pattern} {axs axs' : Pattern → Type 0} {ps : List Pattern}
      → ((p : Pattern) → Contains hs p → Derives hs' axs' p) → ((p : Pattern) → axs p → axs' p)
      → AllDerive hs axs ps → AllDerive hs' axs' ps
  AllDerive-cut f g none_left = none_left
  AllDerive-cut f g (one_more p ps d ds) = one_more p ps (Derives-cut f g d) (AllDerive-cut f g ds)

-- an instance of the instance of a rule's variable
abbrev pub instance_at : List Pattern → Instance → Instance
instance_at ms (pattern p) = pattern (instance ms p)
instance_at ms (variable x) = variable x
instance_at ms (sort s) = sort s

abbrev pub all_instances_at : List Pattern → List Instance → List Instance
all_instances_at ms [] = []
all_instances_at ms (i ∷ is) = instance_at ms i ∷ all_instances_at ms is

-- an instance of a rule's instance is an instance of the rule; one line for each rule
pub Infers-instance : {r : Rule} {is : List Instance} {ps : List Pattern} {q : Pattern}
    (ms : List Pattern) → HaveNoVariables ms → Infers r is ps q
    → Infers r (all_instances_at ms is) (instances ms ps) (instance ms q)
Infers-instance ms h (rules.p_1 p q) = rules.p_1 (instance ms p) (instance ms q)
Infers-instance ms h (rules.p_2 p q r) = rules.p_2 (instance ms p) (instance ms q) (instance ms r)
Infers-instance ms h (rules.p_3 p) = rules.p_3 (instance ms p)
Infers-instance ms h (rules.mp p q) = rules.mp (instance ms p) (instance ms q)
Infers-instance ms h (rules.not_1 p) = rules.not_1 (instance ms p)
Infers-instance ms h (rules.not_2 p) = rules.not_2 (instance ms p)
Infers-instance ms h (rules.and_1 p q) = rules.and_1 (instance ms p) (instance ms q)
Infers-instance ms h (rules.and_2 p q) = rules.and_2 (instance ms p) (instance ms q)
Infers-instance ms h (rules.and_3 p q) = rules.and_3 (instance ms p) (instance ms q)
Infers-instance ms h (rules.or_1 p q) = rules.or_1 (instance ms p) (instance ms q)
Infers-instance ms h (rules.or_2 p q) = rules.or_2 (instance ms p) (instance ms q)
Infers-instance ms h (rules.or_3 p q r) = rules.or_3 (instance ms p) (instance ms q) (instance ms r)
Infers-instance ms h rules.truth = rules.truth
Infers-instance ms h (rules.inst p q r x s e) =
    rules.inst (instance ms p) (instance ms q) (instance ms r) x s
    (substituted-instance ms p x q h ∙ ap (option_map (instance ms)) e)
Infers-instance ms h (rules.fun_ex p y s e) =
    rules.fun_ex (instance ms p) y s (absent-instance ms y p h ∙ e)
Infers-instance ms h (rules.ex_el p q x s e) =
    rules.ex_el (instance ms p) (instance ms q) x s (fresh-instance ms x q h ∙ e)
Infers-instance ms h (rules.eq_refl p) = rules.eq_refl (instance ms p)
Infers-instance ms h (rules.eq_el p q r t u x e f) =
    rules.eq_el (instance ms p) (instance ms q) (instance ms r) (instance ms t) (instance ms u) x
    (substituted-instance ms r x p h ∙ ap (option_map (instance ms)) e)
    (substituted-instance ms r x q h ∙ ap (option_map (instance ms)) f)
Infers-instance ms h (rules.eq_in p q) = rules.eq_in (instance ms p) (instance ms q)
Infers-instance ms h (rules.mem_in p s) = rules.mem_in (instance ms p) s
Infers-instance ms h (rules.mem_no p q r e) =
    rules.mem_no (instance ms p) (instance ms q) (instance ms r) (predicate-instance ms r e)
Infers-instance ms h (rules.apart p q s v) = rules.apart (instance ms p) (instance ms q) s v
Infers-instance ms h (rules.app_l p q r t e) =
    rules.app_l (instance ms p) (instance ms q) (instance ms r) (instance ms t)
    (predicate-instance ms r e)
Infers-instance ms h (rules.app_r p q r t e) =
    rules.app_r (instance ms p) (instance ms q) (instance ms r) (instance ms t)
    (predicate-instance ms r e)
Infers-instance ms h (rules.bot_l p) = rules.bot_l (instance ms p)
Infers-instance ms h (rules.bot_r p) = rules.bot_r (instance ms p)
Infers-instance ms h (rules.next_in p q) = rules.next_in (instance ms p) (instance ms q)
Infers-instance ms h (rules.ev_1 p) = rules.ev_1 (instance ms p)
Infers-instance ms h (rules.ev_2 p) = rules.ev_2 (instance ms p)
Infers-instance ms h (rules.ev_kt p q) = rules.ev_kt (instance ms p) (instance ms q)

instances-at : (ms ps : List Pattern) (k : ℕ) (p : Pattern) → k < length ps
    → slice_index_or ps k p ≡ p → Contains (instances ms ps) (instance ms p)
instances-at ms [] k p lt e = absurd (omega (arith, lt))
instances-at ms (r ∷ ps) zero p lt e = (0, omega arith, ap (instance ms) e)
instances-at ms (r ∷ ps) (suc k) p lt e =
    Contains-append_right (instance ms r ∷ []) (instances ms ps) (instance ms p)
    (instances-at ms ps k p (omega (arith, lt)) e)

pub Contains-instances : (ms ps : List Pattern) (p : Pattern) → Contains ps p
    → Contains (instances ms ps) (instance ms p)
Contains-instances ms ps p h = instances-at ms ps h.0 p h.1 h.2

same_instance : (ms : List Pattern) (hs : List Pattern) (axs : Pattern → Type 0) (q : Pattern)
    → HasNoMeta q → Derives hs axs q → Derives hs axs (instance ms q)
same_instance ms hs axs q m d =
    subst (λ (r : Pattern). Derives hs axs r) (sym (instance-without ms q m)) d

renamed_without : (p q : Pattern) → HasNoMeta p → IsRenaming p q → HasNoMeta q
renamed_without p q m r =
    subst (λ (t : Pattern). HasNoMeta t) (sym r.1.result) (HasNoMeta-renamed r.0 p m)

-- an instance of a derivable pattern is derivable from the same axioms and the instances of the
-- hypotheses
mutual
  pub Derives-instance : {hs : List Pattern} {axs : Pattern → Type 0} {q : Pattern}
      (ms : List Pattern) → HaveNoVariables ms → ((p : Pattern) → axs p → HasNoMeta p)
      → Derives hs axs q → Derives (instances ms hs) axs (instance ms q)
  Derives-instance {hs = hs} {axs = axs} ms h m (by_hypothesis p c) =
      by_hypothesis (instance ms p) (Contains-instances ms hs p c)
  Derives-instance {hs = hs} {axs = axs} ms h m (by_axiom p c) =
      same_instance ms (instances ms hs) axs p (m p c) (by_axiom p c)
  Derives-instance {hs = hs} {axs = axs} ms h m (by_renaming p q c r) =
      same_instance ms (instances ms hs) axs q (renamed_without p q (m p c) r) (by_renaming p q c r)
  Derives-instance ms h m (ruled r is ps q i ds) =
      ruled r (all_instances_at ms is) (instances ms ps) (instance ms q) (Infers-instance ms h i)
      (AllDerive-instance ms h m ds)

  pub AllDerive-instance : {hs : List Pattern} {axs : Pattern → Type 0} {ps : List Pattern}
      (ms : List Pattern) → HaveNoVariables ms → ((p : Pattern) → axs p → HasNoMeta p)
      → AllDerive hs axs ps → AllDerive (instances ms hs) axs (instances ms ps)
  AllDerive-instance ms h m none_left = none_left
  AllDerive-instance ms h m (one_more p ps d ds) =
      one_more (instance ms p) (instances ms ps) (Derives-instance ms h m d)
      (AllDerive-instance ms h m ds)

derived_at : {hs : List Pattern} {axs : Pattern → Type 0} {ps : List Pattern} → AllDerive hs axs ps
    → (k : ℕ) (p : Pattern) → k < length ps → slice_index_or ps k p ≡ p → Derives hs axs p
derived_at none_left k p lt e = absurd (omega (arith, lt))
derived_at {hs = hs} {axs = axs} (one_more r ps d ds) zero p lt e =
    subst (λ (t : Pattern). Derives hs axs t) e d
derived_at (one_more r ps d ds) (suc k) p lt e = derived_at ds k p (omega (arith, lt)) e

only_at : (r p : Pattern) (k : ℕ) → k < length (r ∷ []) → slice_index_or (r ∷ []) k p ≡ p → r ≡ p
only_at r p zero lt e = e
only_at r p (suc k) lt e = absurd (omega (arith, lt))

only_item : (r p : Pattern) → Contains (r ∷ []) p → r ≡ p
only_item r p c = only_at r p c.0 c.1 c.2

-- the axioms that a derivation keeps have no pattern variables
mutual
  pub HasNoMeta-axioms : (hs : List Pattern) (d : Derivation) (q : Pattern) → Concludes hs d q
      → (p : Pattern) → Contains (axioms_of d) p → HasNoMeta p
  HasNoMeta-axioms hs (hypothesis r) q k p c = absurd (omega (arith, c.1))
  HasNoMeta-axioms hs (own_axiom n r new) q k p c =
      subst (λ (t : Pattern). HasNoMeta t) (only_item r p c) k.0
  HasNoMeta-axioms hs (by_rule r is ds) q k p c = HasNoMeta-all_axioms hs ds k.0 k.1.1 p c
  HasNoMeta-axioms hs (cited own r d ms ds) q k p c =
      elim (Contains-append_cases (axioms_of d) (all_axioms ds) p c) [
        | inl a ↦ HasNoMeta-axioms own d r k.0 p a
        | inr b ↦ HasNoMeta-all_axioms hs ds (instances ms own) k.1.1.1 p b
      ]

  pub HasNoMeta-all_axioms : (hs : List Pattern) (ds : Derivations) (ps : List Pattern)
      → AllConclude hs ds ps → (p : Pattern) → Contains (all_axioms ds) p → HasNoMeta p
  HasNoMeta-all_axioms hs no_derivation ps k p c = absurd (omega (arith, c.1))
  HasNoMeta-all_axioms hs (more_derivations d ds) [] k p c = absurd k
  HasNoMeta-all_axioms hs (more_derivations d ds) (r ∷ ps) k p c =
      elim (Contains-append_cases (axioms_of d) (all_axioms ds) p c)
      [ inl a ↦ HasNoMeta-axioms hs d r k.0 p a | inr b ↦ HasNoMeta-all_axioms hs ds ps k.1 p b ]

pub Derives-more : {hs : List Pattern} {axs axs' : Pattern → Type 0} {q : Pattern}
    → ((p : Pattern) → axs p → axs' p) → Derives hs axs q → Derives hs axs' q
Derives-more g d = Derives-cut (λ p h. by_hypothesis p h) g d

pub AllDerive-more : {hs : List Pattern} {axs axs' : Pattern → Type 0} {ps : List Pattern}
    → ((p : Pattern) → axs p → axs' p) → AllDerive hs axs ps → AllDerive hs axs' ps
AllDerive-more g ds = AllDerive-cut (λ p h. by_hypothesis p h) g ds

-- the conclusion of a stored derivation is derivable from the axioms that the derivation keeps
mutual
  pub Derives-Concludes : (hs : List Pattern) (d : Derivation) (q : Pattern) → Concludes hs d q
      → Derives hs (Contains (axioms_of d)) q
  Derives-Concludes hs (hypothesis p) q k =
      subst (λ (t : Pattern). Derives hs (Contains []) t) k.1 (by_hypothesis p k.0)
  Derives-Concludes hs (own_axiom n p new) q k =
      by_renaming p q (0, omega arith, refl) (by_place new, k.1)
  Derives-Concludes hs (by_rule r is ds) q k =
      ruled r is k.0 q k.1.0 (AllDerive-AllConclude hs ds k.0 k.1.1)
  Derives-Concludes hs (cited own p d ms ds) q k =
      let below : AllDerive hs (Contains (all_axioms ds)) (instances ms own) =
      AllDerive-AllConclude hs ds (instances ms own) k.1.1.1 in
      let lemma : Derives (instances ms own) (Contains (axioms_of d)) (instance ms p) =
      Derives-instance ms k.1.0 (HasNoMeta-axioms own d p k.0) (Derives-Concludes own d p k.0) in
      subst (λ (t : Pattern). Derives hs (Contains (axioms_of d ++ all_axioms ds)) t) k.1.1.0
      (Derives-cut
      (λ r c. Derives-more (λ a e. Contains-append_right (axioms_of d) (all_axioms ds) a e)
      (derived_at below c.0 r c.1 c.2))
      (λ a e. Contains-append_left (axioms_of d) (all_axioms ds) a e)
      lemma)

  pub AllDerive-AllConclude : (hs : List Pattern) (ds : Derivations) (ps : List Pattern)
      → AllConclude hs ds ps → AllDerive hs (Contains (all_axioms ds)) ps
  AllDerive-AllConclude hs no_derivation [] k = none_left
  AllDerive-AllConclude hs no_derivation (p ∷ ps) k = absurd k
  AllDerive-AllConclude hs (more_derivations d ds) [] k = absurd k
  AllDerive-AllConclude hs (more_derivations d ds) (p ∷ ps) k =
      one_more p ps
      (Derives-more (λ a e. Contains-append_left (axioms_of d) (all_axioms ds) a e)
      (Derives-Concludes hs d p k.0))
      (AllDerive-more (λ a e. Contains-append_right (axioms_of d) (all_axioms ds) a e)
      (AllDerive-AllConclude hs ds ps k.1))

-- if it is derivable from the axioms that it keeps, it is derivable in each theory that has them
pub IsDerivedInTheories-IsDerived : (t : Theorem) → IsDerived t → IsDerivedInTheories t
IsDerivedInTheories-IsDerived t derived IsAxiom has = Derives-more has derived
