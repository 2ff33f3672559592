-- The term that a pattern becomes, from the terms of its parts.
use Rattle.std.proofs.Common.{◌≡◌, ℕ, ◌+◌, ◌<◌, ◌≤◌, ◌≢◌, ◌↔◌, ◌⊎◌, zero, suc, max, List, [], ◌∷◌}
use Rattle.std.proofs.Common.{map, length, get_or, slice_get, drop, set, replicate, Option, Some}
use Rattle.std.proofs.Common.{None, refl, sym, ◌∙◌, ap, ⊎_elim, arith}
use Rattle.std.specs.Prelude.{option_map, IsSomeAnd, Bool, false, IsTrue}
use Rattle.std.proofs.lemmas.Bool.{false≢true}
use Rattle.std.proofs.lemmas.List.{drop_more}
use Rattle.std.proofs.lemmas.Option.{get_or_from_slice_get, slice_get_within}
use Rattle.term_core.specs.Terms.{Tree, leaf, node, inj, Forest, no_tree, more_trees}
use Rattle.term_core.specs.Forests.{forest, children}
use Rattle.term_core.specs.Terms.{height, heights, IsNormal, AreNormal, injected}
use Rattle.term_core.specs.NormalForms.{norm, norms}
use Rattle.term_core.specs.Patterns.{Pattern, variable, domain_value, application, injection, call}
use Rattle.term_core.specs.Patterns.{Patterns, no_pattern, more_patterns, binding, with_first}
use Rattle.term_core.specs.Instances.{patterns, AreNormalBindings, substituted, all_substituted}
use Rattle.term_core.specs.Patterns.{instance_of, instances_of, ground_pattern, ground_patterns}
use Rattle.term_core.specs.Instances.{FitsWithin}
use Rattle.term_core.specs.RulePatterns.{plain_pattern}
use Rattle.term_core.specs.PatternLists.{AllFitWithin, plain_patterns}
use Rattle.term_core.specs.GroundPatterns.{IsGround, AreGround}
use Rattle.term_core.proofs.Forests.{injected-injected, norm-normal, injected-other}
use Rattle.term_core.specs.declared.rule_patterns.RulePat.{RulePat}

-- the depth of a pattern
abbrev mutual
  pub depth : Pattern → ℕ
  depth (variable x) = 1
  depth (domain_value s v) = 1
  depth (application f ps) = depths ps + 1
  depth (injection a b p) = depth p + 1
  depth (call f ss ps) = depths ps + 1

  pub depths : Patterns → ℕ
  depths no_pattern = 0
  depths (more_patterns p ps) = max (depth p) (depths ps)

-- a forest exists if and only if its first tree and the others exist
pub with_first_some : (o : Option Tree) (os : Option Forest) (t : Tree) (ts : Forest)
    → (with_first o os ≡ Some (more_trees t ts)) ↔ ((o ≡ Some t) × (os ≡ Some ts))
with_first_some None os t ts =
    (λ e. let no : ⊥ = cc in absurd no, λ e. let p : None ≡ Some t = e.0 in cc)
with_first_some (Some u) None t ts =
    (λ e. let no : ⊥ = cc in absurd no, λ e. let p : None ≡ Some ts = e.1 in cc)
with_first_some (Some u) (Some us) t ts =
    (λ e. (cc, cc), λ e. let p : Some u ≡ Some t = e.0 in let q : Some us ≡ Some ts = e.1 in cc)

-- a constructor exists if and only if its arguments exist
pub node_some : (f g : ℕ) (os : Option Forest) (ts : Forest)
    → (option_map (node f) os ≡ Some (node g ts)) ↔ ((f ≡ g) × (os ≡ Some ts))
node_some f g None ts = (λ e. let no : ⊥ = cc in absurd no, λ e. let p : None ≡ Some ts = e.1 in cc)
node_some f g (Some us) ts =
    (λ e. (cc, cc), λ e. let p : f ≡ g = e.0 in let q : Some us ≡ Some ts = e.1 in cc)

-- no pattern is deeper than the greatest depth
pub depth_of-item : (ps : List RulePat) (i : ℕ) (p : RulePat) → p ≡ get_or ps i p → i < length ps
    → depth (plain_pattern p) ≤ depths (plain_patterns ps)
depth_of-item [] i p e lt = absurd (omega arith)
depth_of-item (q ∷ ps) zero p e lt =
    let same : depth (plain_pattern p) ≡ depth (plain_pattern q) =
    ap (λ (r : RulePat). depth (plain_pattern r)) e in
    omega arith
depth_of-item (q ∷ ps) (suc i) p e lt = omega (arith, depth_of-item ps i p e (omega arith))

-- there are as many trees as patterns
pub length-instances : (theta : List (Option Tree)) (ps : List RulePat) (ts : List Tree)
    → instances_of theta (plain_patterns ps) ≡ Some (forest ts) → length ps ≡ length ts
length-instances theta [] [] e = refl
length-instances theta [] (t ∷ ts) e = let no : ⊥ = cc in absurd no
length-instances theta (p ∷ ps) [] e =
    absurd
    (not_none (instance_of theta (plain_pattern p)) (instances_of theta (plain_patterns ps)) e)
  where
    not_none : (o : Option Tree) (os : Option Forest) → with_first o os ≡ Some no_tree → ⊥
    not_none None os e = cc
    not_none (Some u) None e = cc
    not_none (Some u) (Some us) e = cc
length-instances theta (p ∷ ps) (t ∷ ts) e =
    let parts : (instance_of theta (plain_pattern p) ≡ Some t) ×
    (instances_of theta (plain_patterns ps) ≡ Some (forest ts)) =
    (with_first_some (instance_of theta (plain_pattern p)) (instances_of theta (plain_patterns ps))
    t (forest ts)).0 e in
    ap suc (length-instances theta ps ts parts.1)

-- The terms of the patterns from i on are the term of the one at i, and the terms of the others.
pub rest_more : (theta : List (Option Tree)) (ps : List RulePat) (ts : List Tree) (i : ℕ)
    (p : RulePat) (t : Tree) → p ≡ get_or ps i p → i < length ps → slice_get ts i ≡ Some t
    → (instances_of theta (plain_patterns (drop i ps)) ≡ Some (forest (drop i ts)))
    ↔ ((instance_of theta (plain_pattern p) ≡ Some t)
    × (instances_of theta (plain_patterns (drop (i + 1) ps)) ≡ Some (forest (drop (i + 1) ts))))
rest_more theta ps ts i p t e lt item =
    let front : drop i ps ≡ p ∷ drop (i + 1) ps =
    drop_more ps i p lt ∙ ap (λ (q : RulePat). q ∷ drop (i + 1) ps) (sym e) in
    let within : i < length ts = slice_get_within ts i t item in
    let front_tree : drop i ts ≡ t ∷ drop (i + 1) ts =
    drop_more ts i t within
    ∙ ap (λ (u : Tree). u ∷ drop (i + 1) ts) (get_or_from_slice_get ts i t t item) in
    rw (front, front_tree) (with_first_some (instance_of theta (plain_pattern p))
    (instances_of theta (plain_patterns (drop (i + 1) ps))) t (forest (drop (i + 1) ts)))

-- a constructor becomes no term with another symbol or another number of arguments
pub other_constructor : (theta : List (Option Tree)) (p : Pattern) (f g : ℕ) (ps : List RulePat)
    (t : Tree) → p ≡ application f (plain_patterns ps) → t ≡ node g (forest (children t))
    → (f ≢ g) ⊎ (length ps ≢ length (children t)) → instance_of theta p ≡ Some t → ⊥
other_constructor theta p f g ps t is root other e =
    let both : option_map (node f) (instances_of theta (plain_patterns ps)) ≡ Some
    (node g (forest (children t))) =
    sym (ap (instance_of theta) is) ∙ e ∙ ap (λ (u : Tree). Some u) root in
    let parts : (f ≡ g) × (instances_of theta (plain_patterns ps) ≡ Some (forest (children t))) =
    (node_some f g (instances_of theta (plain_patterns ps)) (forest (children t))).0 both in
    ⊎_elim (λ (ne : f ≢ g). ne parts.0) (λ (ne : length ps ≢ length (children t)).
    ne (length-instances theta ps (children t) parts.1)) other

-- an answer is false, if the fact does not hold
pub refused : (b : Bool) (P : Type 0) → b ≡ false → (P → ⊥) → IsTrue b ↔ P
refused b P e wrong = rw e (λ no. absurd (false≢true no), λ p. absurd (wrong p))

-- a substitution in which no variable is bound has only normal terms
pub AreNormalBindings-replicate : (n : ℕ) → AreNormalBindings (replicate n None)
AreNormalBindings-replicate zero = tt
AreNormalBindings-replicate (suc n) = AreNormalBindings-replicate n

pub AreNormalBindings-set : (theta : List (Option Tree)) (x : ℕ) (t : Tree)
    → AreNormalBindings theta → IsNormal t → AreNormalBindings (set theta x (Some t))
AreNormalBindings-set [] x t ns n = tt
AreNormalBindings-set (None ∷ theta) zero t ns n = (n, ns)
AreNormalBindings-set (Some u ∷ theta) zero t ns n = (n, ns.1)
AreNormalBindings-set (None ∷ theta) (suc x) t ns n = AreNormalBindings-set theta x t ns n
AreNormalBindings-set (Some u ∷ theta) (suc x) t ns n =
    (ns.0, AreNormalBindings-set theta x t ns.1 n)

pub IsNormal-binding : (theta : List (Option Tree)) (x : ℕ) (t : Tree) → AreNormalBindings theta
    → binding theta x ≡ Some t → IsNormal t
IsNormal-binding [] x t ns e = let no : ⊥ = cc in absurd no
IsNormal-binding (None ∷ theta) zero t ns e = let no : ⊥ = cc in absurd no
IsNormal-binding (Some u ∷ theta) zero t ns e = let same : t ≡ u = cc in rw same ns.0
IsNormal-binding (None ∷ theta) (suc x) t ns e = IsNormal-binding theta x t ns e
IsNormal-binding (Some u ∷ theta) (suc x) t ns e = IsNormal-binding theta x t ns.1 e

-- the normal forms of trees are the normal form of the first one and those of the others
norms-with_first : (o : Option Tree) (os : Option Forest)
    → option_map norms (with_first o os) ≡ with_first (option_map norm o) (option_map norms os)
norms-with_first None os = refl
norms-with_first (Some t) None = refl
norms-with_first (Some t) (Some ts) = refl

norm-node : (f : ℕ) (os : Option Forest)
    → option_map norm (option_map (node f) os) ≡ option_map (node f) (option_map norms os)
norm-node f None = refl
norm-node f (Some ts) = refl

norm-inj : (a b : ℕ) (o : Option Tree)
    → option_map norm (option_map (inj a b) o) ≡ option_map (injected a b) (option_map norm o)
norm-inj a b None = refl
norm-inj a b (Some t) = refl

norm-binding : (theta : List (Option Tree)) (x : ℕ) (o : Option Tree) → AreNormalBindings theta
    → binding theta x ≡ o → option_map norm o ≡ o
norm-binding theta x None ns e = refl
norm-binding theta x (Some t) ns e =
    ap (λ (u : Tree). Some u) (norm-normal t (IsNormal-binding theta x t ns e))

-- Under normal terms, the instance is the normal form of the pattern with its variables replaced by
-- the terms.
mutual
  pub norm-substituted : (theta : List (Option Tree)) (p : Pattern) → AreNormalBindings theta
      → option_map norm (substituted theta p) ≡ instance_of theta p
  norm-substituted theta (variable x) ns = norm-binding theta x (binding theta x) ns refl
  norm-substituted theta (domain_value s v) ns = refl
  norm-substituted theta (application f ps) ns =
      norm-node f (all_substituted theta ps)
      ∙ ap (option_map (node f)) (norms-all_substituted theta ps ns)
  norm-substituted theta (injection a b p) ns =
      norm-inj a b (substituted theta p)
      ∙ ap (option_map (injected a b)) (norm-substituted theta p ns)
  norm-substituted theta (call f ss ps) ns = refl

  pub norms-all_substituted : (theta : List (Option Tree)) (ps : Patterns) → AreNormalBindings theta
      → option_map norms (all_substituted theta ps) ≡ instances_of theta ps
  norms-all_substituted theta no_pattern ns = refl
  norms-all_substituted theta (more_patterns p ps) ns =
      norms-with_first (substituted theta p) (all_substituted theta ps)
      ∙ (ap (λ (o : Option Tree). with_first o (option_map norms (all_substituted theta ps)))
      (norm-substituted theta p ns)
      ∙ ap (with_first (instance_of theta p)) (norms-all_substituted theta ps ns))

-- The pattern of a term is ground. If the term is normal, the pattern becomes that term.
mutual
  pub instance_of-ground_pattern : (theta : List (Option Tree)) (t : Tree) → IsNormal t
      → instance_of theta (ground_pattern t) ≡ Some t
  instance_of-ground_pattern theta (leaf s v) n = refl
  instance_of-ground_pattern theta (node f ts) n =
      ap (option_map (node f)) (instances_of-ground_patterns theta ts n)
  instance_of-ground_pattern theta (inj a b t) n =
      ap (option_map (injected a b)) (instance_of-ground_pattern theta t n.1)
      ∙ ap (λ (u : Tree). Some u) (injected-other a b t n.0)

  pub instances_of-ground_patterns : (theta : List (Option Tree)) (ts : Forest) → AreNormal ts
      → instances_of theta (ground_patterns ts) ≡ Some ts
  instances_of-ground_patterns theta no_tree n = refl
  instances_of-ground_patterns theta (more_trees t ts) n =
      (with_first_some (instance_of theta (ground_pattern t))
      (instances_of theta (ground_patterns ts)) t ts).1
      (instance_of-ground_pattern theta t n.0, instances_of-ground_patterns theta ts n.1)

mutual
  pub IsGround-ground_pattern : (t : Tree) → IsGround (ground_pattern t)
  IsGround-ground_pattern (leaf s v) = tt
  IsGround-ground_pattern (node f ts) = AreGround-ground_patterns ts
  IsGround-ground_pattern (inj a b t) = IsGround-ground_pattern t

  pub AreGround-ground_patterns : (ts : Forest) → AreGround (ground_patterns ts)
  AreGround-ground_patterns no_tree = tt
  AreGround-ground_patterns (more_trees t ts) =
      (IsGround-ground_pattern t, AreGround-ground_patterns ts)

-- Trees fit if and only if the first one and the others fit.
with_first_fits : (n : ℕ) (o : Option Tree) (os : Option Forest)
    → IsSomeAnd (with_first o os) (λ (ts : Forest). heights ts ≤ n)
    ↔ (IsSomeAnd o (λ (t : Tree). height t ≤ n) × IsSomeAnd os (λ (ts : Forest). heights ts ≤ n))
with_first_fits n None os = (λ h. absurd h, λ h. absurd h.0)
with_first_fits n (Some t) None = (λ h. absurd h, λ h. absurd h.1)
with_first_fits n (Some t) (Some ts) = (
  λ h. (omega arith, omega arith),
  λ h. let a : height t ≤ n = h.0 in let b : heights ts ≤ n = h.1 in omega arith,
)

-- The patterns from i on fit if and only if the one at i and the others fit.
pub rest_fits : (n : ℕ) (theta : List (Option Tree)) (ps : List RulePat) (i : ℕ) (p : RulePat)
    → p ≡ get_or ps i p → i < length ps → AllFitWithin n theta (plain_patterns (drop i ps))
    ↔ (FitsWithin n theta (plain_pattern p)
    × AllFitWithin n theta (plain_patterns (drop (i + 1) ps)))
rest_fits n theta ps i p e lt =
    let front : drop i ps ≡ p ∷ drop (i + 1) ps =
    drop_more ps i p lt ∙ ap (λ (q : RulePat). q ∷ drop (i + 1) ps) (sym e) in
    rw front (with_first_fits n (instance_of theta (plain_pattern p))
    (instances_of theta (plain_patterns (drop (i + 1) ps))))

-- two injections in a row become one
pub instance_of-injections : (theta : List (Option Tree)) (a b c d : ℕ) (p : Pattern)
    → instance_of theta (injection a b (injection c d p)) ≡ instance_of theta (injection c b p)
instance_of-injections theta a b c d p = joined (instance_of theta p) where
  joined : (o : Option Tree)
      → option_map (injected a b) (option_map (injected c d) o) ≡ option_map (injected c b) o
  joined None = refl
  joined (Some t) = ap (λ (u : Tree). Some u) (injected-injected a b c d t)

-- the trees of the patterns from i on are the tree of the one at i, and the trees of the others
pub rest_built : (theta : List (Option Tree)) (ps : List RulePat) (i : ℕ) (p : RulePat) (t : Tree)
    (ts : Forest) → p ≡ get_or ps i p → i < length ps
    → instance_of theta (plain_pattern p) ≡ Some t
    → instances_of theta (plain_patterns (drop (i + 1) ps)) ≡ Some ts
    → instances_of theta (plain_patterns (drop i ps)) ≡ Some (more_trees t ts)
rest_built theta ps i p t ts e lt first others =
    let front : drop i ps ≡ p ∷ drop (i + 1) ps =
    drop_more ps i p lt ∙ ap (λ (q : RulePat). q ∷ drop (i + 1) ps) (sym e) in
    rw front ((with_first_some (instance_of theta (plain_pattern p))
    (instances_of theta (plain_patterns (drop (i + 1) ps))) t ts).1 (first, others))

-- the patterns of a list of terms
pub patterns-map : (ts : List Tree) → patterns (map ground_pattern ts) ≡ ground_patterns (forest ts)
patterns-map [] = refl
patterns-map (t ∷ ts) = ap (more_patterns (ground_pattern t)) (patterns-map ts)

-- A ground pattern becomes the same term under every substitution.
mutual
  pub instance_of-ground : (theta : List (Option Tree)) (p : Pattern) → IsGround p
      → instance_of theta p ≡ instance_of [] p
  instance_of-ground theta (variable x) g = absurd g
  instance_of-ground theta (domain_value s v) g = refl
  instance_of-ground theta (application f ps) g =
      ap (option_map (node f)) (instances_of-ground theta ps g)
  instance_of-ground theta (injection a b p) g =
      ap (option_map (injected a b)) (instance_of-ground theta p g)
  instance_of-ground theta (call f ss ps) g = absurd g

  pub instances_of-ground : (theta : List (Option Tree)) (ps : Patterns) → AreGround ps
      → instances_of theta ps ≡ instances_of [] ps
  instances_of-ground theta no_pattern g = refl
  instances_of-ground theta (more_patterns p ps) g =
      ap (λ (o : Option Tree). with_first o (instances_of theta ps))
      (instance_of-ground theta p g.0)
      ∙ ap (with_first (instance_of [] p)) (instances_of-ground theta ps g.1)
