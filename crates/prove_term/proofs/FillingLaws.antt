-- Patterns with terms in place of their variables, and the terms that they become as they are
-- written.
use Rattle.std.proofs.Common.{◌≡◌, List, [], Option, Some, None, option_map, refl, sym, ◌∙◌, ap}
use Rattle.term_core.specs.Terms.{Tree, Forest, leaf, node, inj, no_tree, more_trees, injected}
use Rattle.term_core.specs.Patterns.{Pattern, Patterns, variable, domain_value, application}
use Rattle.term_core.specs.Patterns.{injection, call, no_pattern, more_patterns, with_first}
use Rattle.term_core.specs.Patterns.{instance_of, instances_of, ground_pattern, ground_patterns}
use Rattle.term_core.specs.Instances.{substituted, all_substituted}
use Rattle.rule_core.proofs.SortedInstances.{mapped, both_there}
use Rattle.prove_term.specs.Filling.{in_place, filled, all_filled}

nothing : {A P : Type 0} (x : A) → None ≡ Some x → P
nothing x e = absurd (let no : ⊥ = cc in no)

one_tree : (t u : Tree) → Some t ≡ Some u → t ≡ u
one_tree t u e = cc

one_forest : (ts us : Forest) → Some ts ≡ Some us → ts ≡ us
one_forest ts us e = cc

-- ---- filled patterns

-- A pattern with terms in place of its variables is the pattern of the term that it becomes as it
-- is written.
mutual
  pub filled_written : (theta : List (Option Tree)) (p : Pattern) (t : Tree)
      → substituted theta p ≡ Some t → filled theta p ≡ ground_pattern t
  filled_written theta (variable x) t e = ap (in_place x) e
  filled_written theta (domain_value s v) t e = ap ground_pattern (one_tree (leaf s v) t e)
  filled_written theta (application f ps) t e =
      let from : (ts : Forest) × ((all_substituted theta ps ≡ Some ts) × (node f ts ≡ t)) =
      mapped (node f) (all_substituted theta ps) t e in
      ap (application f) (all_filled_written theta ps from.0 from.1.0) ∙ ap ground_pattern from.1.1
  filled_written theta (injection a b p) t e =
      let from : (u : Tree) × ((substituted theta p ≡ Some u) × (inj a b u ≡ t)) =
      mapped (inj a b) (substituted theta p) t e in
      ap (injection a b) (filled_written theta p from.0 from.1.0) ∙ ap ground_pattern from.1.1
  filled_written theta (call f ss ps) t e = nothing t e

  pub all_filled_written : (theta : List (Option Tree)) (ps : Patterns) (ts : Forest)
      → all_substituted theta ps ≡ Some ts → all_filled theta ps ≡ ground_patterns ts
  all_filled_written theta no_pattern ts e = ap ground_patterns (one_forest no_tree ts e)
  all_filled_written theta (more_patterns p ps) ts e =
      let there : (t : Tree) × ((us : Forest)
      × ((ts ≡ more_trees t us)
      × ((substituted theta p ≡ Some t) × (all_substituted theta ps ≡ Some us)))) =
      both_there (substituted theta p) (all_substituted theta ps) ts e in
      ap (λ (q : Pattern). more_patterns q (all_filled theta ps))
      (filled_written theta p there.0 there.1.1.1.0)
      ∙ ap (more_patterns (ground_pattern there.0))
      (all_filled_written theta ps there.1.0 there.1.1.1.1)
      ∙ ap ground_patterns (sym there.1.1.0)

-- ---- terms as they are written

-- a pattern that has an instance becomes a term as it is written
mutual
  pub written_there : (theta : List (Option Tree)) (p : Pattern) (u : Tree)
      → instance_of theta p ≡ Some u → (t : Tree) × (substituted theta p ≡ Some t)
  written_there theta (variable x) u e = (u, e)
  written_there theta (domain_value s v) u e = (u, e)
  written_there theta (application f ps) u e =
      let from : (us : Forest) × ((instances_of theta ps ≡ Some us) × (node f us ≡ u)) =
      mapped (node f) (instances_of theta ps) u e in
      let inside : (ts : Forest) × (all_substituted theta ps ≡ Some ts) =
      all_written_there theta ps from.0 from.1.0 in
      (node f inside.0, ap (option_map (node f)) inside.1)
  written_there theta (injection a b p) u e =
      let from : (v : Tree) × ((instance_of theta p ≡ Some v) × (injected a b v ≡ u)) =
      mapped (injected a b) (instance_of theta p) u e in
      let inside : (t : Tree) × (substituted theta p ≡ Some t) =
      written_there theta p from.0 from.1.0 in
      (inj a b inside.0, ap (option_map (inj a b)) inside.1)
  written_there theta (call f ss ps) u e = nothing u e

  all_written_there : (theta : List (Option Tree)) (ps : Patterns) (us : Forest)
      → instances_of theta ps ≡ Some us → (ts : Forest) × (all_substituted theta ps ≡ Some ts)
  all_written_there theta no_pattern us e = (no_tree, refl)
  all_written_there theta (more_patterns p ps) us e =
      let there : (t : Tree) × ((vs : Forest)
      × ((us ≡ more_trees t vs)
      × ((instance_of theta p ≡ Some t) × (instances_of theta ps ≡ Some vs)))) =
      both_there (instance_of theta p) (instances_of theta ps) us e in
      let first : (t : Tree) × (substituted theta p ≡ Some t) =
      written_there theta p there.0 there.1.1.1.0 in
      let rest : (ts : Forest) × (all_substituted theta ps ≡ Some ts) =
      all_written_there theta ps there.1.0 there.1.1.1.1 in (
        more_trees first.0 rest.0,
        ap (λ (o : Option Tree). with_first o (all_substituted theta ps)) first.1
            ∙ ap (with_first (Some first.0)) rest.1,
      )

-- ---- patterns without terms

-- without terms for its variables, a pattern stays as it is
mutual
  pub filled_nothing : (p : Pattern) → filled [] p ≡ p
  filled_nothing (variable x) = refl
  filled_nothing (domain_value s v) = refl
  filled_nothing (application f ps) = ap (application f) (all_filled_nothing ps)
  filled_nothing (injection a b p) = ap (injection a b) (filled_nothing p)
  filled_nothing (call f ss ps) = ap (call f ss) (all_filled_nothing ps)

  all_filled_nothing : (ps : Patterns) → all_filled [] ps ≡ ps
  all_filled_nothing no_pattern = refl
  all_filled_nothing (more_patterns p ps) =
      ap (λ (q : Pattern). more_patterns q (all_filled [] ps)) (filled_nothing p)
      ∙ ap (more_patterns p) (all_filled_nothing ps)
