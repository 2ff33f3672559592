-- Joining nested injections changes no instance, no variable and no sort.
use Rattle.std.proofs.Common.{◌≡◌, ◌↔◌, ◌⊎◌, inl, inr, ℕ, List, [], ◌∷◌, map, Option, option_map}
use Rattle.std.proofs.Common.{Some, None, refl, sym, ◌∙◌, ap, subst}
use Rattle.term_core.specs.Terms.{Tree, node, injected}
use Rattle.term_core.specs.Patterns.{Pattern, Patterns, variable, domain_value, application}
use Rattle.term_core.specs.Patterns.{injection, call, no_pattern, more_patterns}
use Rattle.term_core.specs.Patterns.{instance_of, instances_of}
use Rattle.term_core.specs.Instances.{patterns}
use Rattle.term_core.proofs.Forests.{injected-injected}
use Rattle.rule_core.specs.Matching.{OccursIn, OccursInSome}
use Rattle.rule_core.specs.Subsorts.{IsBelow}
use Rattle.rule_core.specs.Sorting.{HasSort}
use Rattle.rule_core.specs.declared.signature.Signature.{Signature}
use Rattle.rule_core.proofs.Belows.{IsBelow-trans}
use Rattle.pat_matrix.specs.Collapsed.{joined, collapsed, all_collapsed}
use Rattle.pat_matrix.specs.Collapsed.{IsCollapsed}
use Rattle.pat_matrix.specs.MatrixLaws.{CollapsedMatchesTheSame, CollapsedIsCollapsed}
use Rattle.pat_matrix.specs.MatrixLaws.{CollapsedIsSorted}

-- ---- instances

twice_injected : (a b c d : ℕ) (o : Option Tree)
    → option_map (injected c b) o ≡ option_map (injected a b) (option_map (injected c d) o)
twice_injected a b c d None = refl
twice_injected a b c d (Some t) = ap (λ (u : Tree). Some u) (sym (injected-injected a b c d t))

instance_of-joined : (theta : List (Option Tree)) (a b : ℕ) (p : Pattern)
    → instance_of theta (joined a b p) ≡ option_map (injected a b) (instance_of theta p)
instance_of-joined theta a b (variable x) = refl
instance_of-joined theta a b (domain_value s v) = refl
instance_of-joined theta a b (application f ps) = refl
instance_of-joined theta a b (injection c d p) = twice_injected a b c d (instance_of theta p)
instance_of-joined theta a b (call f ss ps) = refl

mutual
  pub instance_of-collapsed : (theta : List (Option Tree)) (p : Pattern)
      → instance_of theta (collapsed p) ≡ instance_of theta p
  instance_of-collapsed theta (variable x) = refl
  instance_of-collapsed theta (domain_value s v) = refl
  instance_of-collapsed theta (application f ps) =
      ap (option_map (node f)) (instances_of-collapsed theta ps)
  instance_of-collapsed theta (injection a b p) =
      instance_of-joined theta a b (collapsed p)
      ∙ ap (option_map (injected a b)) (instance_of-collapsed theta p)
  instance_of-collapsed theta (call f ss ps) = refl

  pub instances_of-collapsed : (theta : List (Option Tree)) (ps : Patterns)
      → instances_of theta (all_collapsed ps) ≡ instances_of theta ps
  instances_of-collapsed theta no_pattern = refl
  instances_of-collapsed theta (more_patterns p ps) =
      rw (instance_of-collapsed theta p, instances_of-collapsed theta ps) refl

-- ---- variables

occurs_in-joined : (x a b : ℕ) (p : Pattern) → OccursIn x (joined a b p) ↔ OccursIn x p
occurs_in-joined x a b (variable y) = (λ h. h, λ h. h)
occurs_in-joined x a b (domain_value s v) = (λ h. h, λ h. h)
occurs_in-joined x a b (application f ps) = (λ h. h, λ h. h)
occurs_in-joined x a b (injection c d p) = (λ h. h, λ h. h)
occurs_in-joined x a b (call f ss ps) = (λ h. h, λ h. h)

either_way : {A B C D : Type 0} → A ↔ B → C ↔ D → (A ⊎ C) ↔ (B ⊎ D)
either_way {A} {B} {C} {D} h k = (to, from) where
  to : A ⊎ C → B ⊎ D
  to (inl a) = inl (h.0 a)
  to (inr c) = inr (k.0 c)

  from : B ⊎ D → A ⊎ C
  from (inl b) = inl (h.1 b)
  from (inr d) = inr (k.1 d)

mutual
  pub occurs_in-collapsed : (x : ℕ) (p : Pattern) → OccursIn x (collapsed p) ↔ OccursIn x p
  occurs_in-collapsed x (variable y) = (λ h. h, λ h. h)
  occurs_in-collapsed x (domain_value s v) = (λ h. h, λ h. h)
  occurs_in-collapsed x (application f ps) = occurs_in_some-collapsed x ps
  occurs_in-collapsed x (injection a b p) =
      let outer = occurs_in-joined x a b (collapsed p) in
      let inner = occurs_in-collapsed x p in
      (λ h. inner.0 (outer.0 h), λ h. outer.1 (inner.1 h))
  occurs_in-collapsed x (call f ss ps) = occurs_in_some-collapsed x ps

  pub occurs_in_some-collapsed : (x : ℕ) (ps : Patterns)
      → OccursInSome x (all_collapsed ps) ↔ OccursInSome x ps
  occurs_in_some-collapsed x no_pattern = (λ h. h, λ h. h)
  occurs_in_some-collapsed x (more_patterns p ps) =
      either_way (occurs_in-collapsed x p) (occurs_in_some-collapsed x ps)

-- ---- matches

pub collapsed_matches_the_same : CollapsedMatchesTheSame
collapsed_matches_the_same sig variables ps ts theta = (
  λ m. record {
    binds = record {
      room = m.binds.room;
      just = λ x. (
        λ some. (occurs_in_some-collapsed x ps).0 ((m.binds.just x).0 some),
        λ stands. (m.binds.just x).1 ((occurs_in_some-collapsed x ps).1 stands),
      );
      sorted = m.binds.sorted;
    };
    makes = sym (instances_of-collapsed theta ps) ∙ m.makes;
  },
  λ m. record {
    binds = record {
      room = m.binds.room;
      just = λ x. (
        λ some. (occurs_in_some-collapsed x ps).1 ((m.binds.just x).0 some),
        λ stands. (m.binds.just x).1 ((occurs_in_some-collapsed x ps).0 stands),
      );
      sorted = m.binds.sorted;
    };
    makes = instances_of-collapsed theta ps ∙ m.makes;
  },
)

-- ---- no nested injection is left

is_collapsed-joined : (a b : ℕ) (p : Pattern) → IsCollapsed p → IsCollapsed (joined a b p)
is_collapsed-joined a b (variable x) h = (tt, h)
is_collapsed-joined a b (domain_value s v) h = (tt, h)
is_collapsed-joined a b (application f ps) h = (tt, h)
is_collapsed-joined a b (injection c d p) h = h
is_collapsed-joined a b (call f ss ps) h = (tt, h)

mutual
  pub is_collapsed-collapsed : (p : Pattern) → IsCollapsed (collapsed p)
  is_collapsed-collapsed (variable x) = tt
  is_collapsed-collapsed (domain_value s v) = tt
  is_collapsed-collapsed (application f ps) = are_collapsed-collapsed ps
  is_collapsed-collapsed (injection a b p) =
      is_collapsed-joined a b (collapsed p) (is_collapsed-collapsed p)
  is_collapsed-collapsed (call f ss ps) = are_collapsed-collapsed ps

  pub are_collapsed-collapsed : CollapsedIsCollapsed
  are_collapsed-collapsed no_pattern = tt
  are_collapsed-collapsed (more_patterns p ps) =
      (is_collapsed-collapsed p, are_collapsed-collapsed ps)

-- ---- sorts

has_sort-joined : (sig : Signature) (variables : List ℕ) (a b : ℕ) (p : Pattern) (sort : ℕ)
    → HasSort sig variables (injection a b p) sort → HasSort sig variables (joined a b p) sort
has_sort-joined sig variables a b (variable x) sort h = h
has_sort-joined sig variables a b (domain_value s v) sort h = h
has_sort-joined sig variables a b (application f ps) sort h = h
has_sort-joined sig variables a b (injection c d p) sort
    (has, to, below, (own, at, under, inside)) =
    let P : ℕ → Type 0 = λ s. IsBelow sig.subsorts c s in
    (has, to, IsBelow-trans sig.subsorts c a b (subst P at under) below, inside)
has_sort-joined sig variables a b (call f ss ps) sort h = h

mutual
  pub has_sort-collapsed : (sig : Signature) (variables : List ℕ) (p : Pattern) (sort : ℕ)
      → HasSort sig variables p sort → HasSort sig variables (collapsed p) sort
  has_sort-collapsed sig variables (variable x) sort h = h
  has_sort-collapsed sig variables (domain_value s v) sort h = h
  has_sort-collapsed sig variables (application f ps) sort (info, is, ctor, result, args) =
      (info, is, ctor, result, have_sorts-collapsed sig variables [] ps info.args.items args)
  has_sort-collapsed sig variables (injection a b p) sort (has, to, below, inside) =
      has_sort-joined sig variables a b (collapsed p) sort
      (has, to, below, has_sort-collapsed sig variables p a inside)
  has_sort-collapsed sig variables (call f sorts ps) sort
      (info, is, fun, count, are, result, args) = (
        info,
        is,
        fun,
        count,
        are,
        result,
        have_sorts-collapsed sig variables sorts ps info.args.items args,
      )

  pub have_sorts-collapsed : CollapsedIsSorted
  have_sorts-collapsed sig variables sorts no_pattern [] h = h
  have_sorts-collapsed sig variables sorts no_pattern (of ∷ refs) h = absurd h
  have_sorts-collapsed sig variables sorts (more_patterns p ps) [] h = absurd h
  have_sorts-collapsed sig variables sorts (more_patterns p ps) (of ∷ refs)
      (sort, at, first, rest) = (
        sort,
        at,
        has_sort-collapsed sig variables p sort first,
        have_sorts-collapsed sig variables sorts ps refs rest,
      )

-- ---- lists

pub all_collapsed-patterns : (ps : List Pattern)
    → all_collapsed (patterns ps) ≡ patterns (map collapsed ps)
all_collapsed-patterns [] = refl
all_collapsed-patterns (p ∷ ps) = ap (more_patterns (collapsed p)) (all_collapsed-patterns ps)
