-- Theorems: a conclusion, the hypotheses that it depends on, and a stored derivation tree. A step
-- of the tree may cite a lemma at instances of its pattern variables.
use Rattle.std.specs.Prelude.{◌≡◌, ℕ, List, [], ◌∷◌, ◌++◌, ◌⊎◌, Contains}
use Rattle.ml_pat.specs.Patterns.{Pattern}
use Rattle.ml_kernel.specs.Rules.{Instance}
use Rattle.ml_kernel.specs.Derivability.{Derives}
use Rattle.ml_kernel.specs.declared.rules.Rule.{Rule}

-- An axiom has its number in its theory, and the new numbers of its bound variables
-- (specs/Renamings.antt). A citation has the lemma's hypotheses, conclusion and derivation, the
-- instances of its pattern variables, and the derivations of its hypotheses.
mutual
  pub data Derivation : Type 0 where
    hypothesis : Pattern → Derivation
    own_axiom : ℕ → Pattern → List ℕ → Derivation
    by_rule : Rule → List Instance → Derivations → Derivation
    cited : List Pattern → Pattern → Derivation → List Pattern → Derivations → Derivation

  pub data Derivations : Type 0 where
    no_derivation : Derivations
    more_derivations : Derivation → Derivations → Derivations

-- the derivations of a list, in its order
abbrev pub derivations : List Derivation → Derivations
derivations [] = no_derivation
derivations (d ∷ ds) = more_derivations d (derivations ds)

pub record Theorem : Type 0 where
  pub hypotheses : List Pattern
  pub conclusion : Pattern
  pub derivation : Derivation

-- the hypotheses of some theorems, one theorem after another
abbrev pub all_hypotheses : List Theorem → List Pattern
all_hypotheses [] = []
all_hypotheses (t ∷ ts) = t.hypotheses ++ all_hypotheses ts

abbrev pub conclusions : List Theorem → List Pattern
conclusions [] = []
conclusions (t ∷ ts) = t.conclusion ∷ conclusions ts

abbrev pub all_derivations : List Theorem → Derivations
all_derivations [] = no_derivation
all_derivations (t ∷ ts) = more_derivations t.derivation (all_derivations ts)

-- The axioms that a derivation keeps: those of its steps, and those of the lemmas that they cite.
abbrev mutual
  pub axioms_of : Derivation → List Pattern
  axioms_of (hypothesis p) = []
  axioms_of (own_axiom n p new) = p ∷ []
  axioms_of (by_rule r is ds) = all_axioms ds
  axioms_of (cited hyps q d ms ds) = axioms_of d ++ all_axioms ds

  pub all_axioms : Derivations → List Pattern
  all_axioms no_derivation = []
  all_axioms (more_derivations d ds) = axioms_of d ++ all_axioms ds

-- The new list is the old hypotheses followed by the others that are not among them. Each of the
-- others is added once, at its first occurrence.
abbrev pub AddsNew : List Pattern → List Pattern → List Pattern → Type 0
AddsNew old [] new = new ≡ old
AddsNew old (p ∷ ps) new =
    (Contains old p × AddsNew old ps new) ⊎ ((Contains old p → ⊥) × AddsNew (old ++ p ∷ []) ps new)

-- The theorem concludes q from these theorems by the rule. It has exactly their hypotheses, in
-- order, each once. Its last step is the rule at these instances over their derivations.
pub record IsByRule (r : Rule) (is : List Instance) (ts : List Theorem) (q : Pattern)
    (t : Theorem) : Type 0 where
  pub conclusion : t.conclusion ≡ q
  pub kept_hypotheses : AddsNew [] (all_hypotheses ts) t.hypotheses
  pub last_step : t.derivation ≡ by_rule r is (all_derivations ts)

-- The theorem has exactly the hypotheses of these theorems. Its last step cites the lemma at these
-- instances over their derivations.
pub record IsByLemma (lemma : Theorem) (ms : List Pattern) (ts : List Theorem) (t : Theorem) :
    Type 0 where
  pub kept_hypotheses : AddsNew [] (all_hypotheses ts) t.hypotheses
  pub last_step : t.derivation
      ≡ cited lemma.hypotheses lemma.conclusion lemma.derivation ms (all_derivations ts)

-- the theorem's conclusion has a derivation from its own hypotheses and from the axioms that it
-- keeps
abbrev pub IsDerived : Theorem → Type 0
IsDerived t = Derives t.hypotheses (Contains (axioms_of t.derivation)) t.conclusion

-- so it has one in each theory with these axioms, whether the theory has finitely or infinitely
-- many
abbrev pub IsDerivedInTheories : Theorem → Type 1
IsDerivedInTheories t =
    (IsAxiom : Pattern → Type 0) → ((p : Pattern) → Contains (axioms_of t.derivation) p → IsAxiom p)
    → Derives t.hypotheses IsAxiom t.conclusion
