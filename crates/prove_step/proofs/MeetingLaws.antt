-- If no two injections meet, a pattern as it is written becomes a normal term.
use Rattle.std.proofs.Common.{◌≡◌, ℕ, Bool, true, false, List, [], ◌∷◌, Option, Some, None, length}
use Rattle.std.proofs.Common.{option_map, inl, inr, refl, sym, ◌∙◌, ap, arith}
use Rattle.std.specs.Prelude.{◌⊎◌, ◌||◌, ◌==◌, ◌≢◌}
use Rattle.std.proofs.lemmas.Bool.Decides.{eqb_tells}
use Rattle.term_core.specs.Terms.{Tree, Forest, leaf, node, inj, injected, height}
use Rattle.term_core.specs.Patterns.{Pattern, Patterns, variable, domain_value, application}
use Rattle.term_core.specs.Patterns.{injection, call, no_pattern, more_patterns, with_first}
use Rattle.term_core.specs.Patterns.{instance_of, instances_of}
use Rattle.term_core.specs.Instances.{substituted, all_substituted}
use Rattle.rule_core.specs.ProgramView.{names_of}
use Rattle.rule_core.specs.declared.rules.Named.{Named}
use Rattle.rule_core.proofs.SortedInstances.{mapped}
use Rattle.ml_image.specs.Images.{image_of}
use Rattle.ml_image.specs.NamedSides.{of_child}
use Rattle.prove_term.specs.Contexts.{Context}
use Rattle.prove_term.specs.FilledSides.{SaysNamedImage}
use Rattle.prove_term.proofs.FillingLaws.{filled_written}
use Rattle.prove_term.proofs.NamingSteps.{filled_left}
use Rattle.prove_step.specs.Meeting.{is_injection, is_injection_there, becomes_injection, meet_in}
use Rattle.prove_step.specs.Meeting.{meet_in_some}

true_false : true ≡ false → ⊥
true_false h = cc

neither : (a b : Bool) → (a || b) ≡ false → (a ≡ false) × (b ≡ false)
neither true b h = absurd (true_false h)
neither false b h = (refl, h)

-- ---- terms

-- if a term is not an injection, its injection is normal as it is written
plain_injected : (a b : ℕ) (t : Tree) → is_injection t ≡ false → inj a b t ≡ injected a b t
plain_injected a b (leaf s v) h = refl
plain_injected a b (node f ts) h = refl
plain_injected a b (inj c d t) h = absurd (true_false h)

kept : (a b : ℕ) (o : Option Tree) → ((t : Tree) → o ≡ Some t → is_injection t ≡ false)
    → option_map (inj a b) o ≡ option_map (injected a b) o
kept a b None h = refl
kept a b (Some t) h = ap (λ (u : Tree). Some u) (plain_injected a b t (h t refl))

not_same : (m n : ℕ) → m ≢ n → (m == n) ≡ false
not_same m n other = go (eqb_tells m n)
  where
    go : (((m == n) ≡ true) × (m ≡ n)) ⊎ (((m == n) ≡ false) × (m ≢ n)) → (m == n) ≡ false
    go (inl same) = absurd (other same.1)
    go (inr differ) = differ.0

same_number : (m n : ℕ) → m ≡ n → (m == n) ≡ true
same_number m n same = go (eqb_tells m n)
  where
    go : (((m == n) ≡ true) × (m ≡ n)) ⊎ (((m == n) ≡ false) × (m ≢ n)) → (m == n) ≡ true
    go (inl is) = is.0
    go (inr differ) = absurd (differ.1 same)

-- injecting makes a term higher if and only if the term is not an injection
pub high_tells : (t : Tree) (m n : ℕ) → height (injected 0 0 t) ≡ m → n ≡ height t
    → (m == n) ≡ is_injection t
high_tells (leaf s v) m n high is = not_same m n (λ (e : m ≡ n). omega (arith, high, is, e))
high_tells (node f ts) m n high is = not_same m n (λ (e : m ≡ n). omega (arith, high, is, e))
high_tells (inj a b t) m n high is = same_number m n (omega (arith, high, is))

-- ---- patterns

no_injection : (theta : List (Option Tree)) (p : Pattern) (t : Tree)
    → becomes_injection theta p ≡ false → instance_of theta p ≡ Some t → is_injection t ≡ false
no_injection theta (variable x) t h e = sym (ap is_injection_there e) ∙ h
no_injection theta (domain_value s v) t h e = sym (ap is_injection_there e)
no_injection theta (application f ps) t h e =
    let from : (ts : Forest) × ((instances_of theta ps ≡ Some ts) × (node f ts ≡ t)) =
    mapped (node f) (instances_of theta ps) t e in
    sym (ap is_injection from.1.1)
no_injection theta (injection a b p) t h e = absurd (true_false h)
no_injection theta (call f ss ps) t h e = absurd (none_some t e)
  where
    none_some : (u : Tree) → None ≡ Some u → ⊥
    none_some u z = cc

mutual
  pub unmet_instance : (theta : List (Option Tree)) (p : Pattern) → meet_in theta p ≡ false
      → substituted theta p ≡ instance_of theta p
  unmet_instance theta (variable x) h = refl
  unmet_instance theta (domain_value s v) h = refl
  unmet_instance theta (application f ps) h = ap (option_map (node f)) (unmet_instances theta ps h)
  unmet_instance theta (injection a b p) h =
      let parts : (becomes_injection theta p ≡ false) × (meet_in theta p ≡ false) =
      neither (becomes_injection theta p) (meet_in theta p) h in
      ap (option_map (inj a b)) (unmet_instance theta p parts.1)
      ∙ kept a b (instance_of theta p) (λ t e. no_injection theta p t parts.0 e)
  unmet_instance theta (call f ss ps) h = refl

  unmet_instances : (theta : List (Option Tree)) (ps : Patterns) → meet_in_some theta ps ≡ false
      → all_substituted theta ps ≡ instances_of theta ps
  unmet_instances theta no_pattern h = refl
  unmet_instances theta (more_patterns p ps) h =
      let parts : (meet_in theta p ≡ false) × (meet_in_some theta ps ≡ false) =
      neither (meet_in theta p) (meet_in_some theta ps) h in
      ap (λ (o : Option Tree). with_first o (all_substituted theta ps))
      (unmet_instance theta p parts.0)
      ∙ ap (with_first (instance_of theta p)) (unmet_instances theta ps parts.1)

-- without names, a left side in which no two injections meet becomes its instance as it is written
pub unmet_side : (cx : Context) (theta : List (Option Tree)) (named : List Named) (p : Pattern)
    → length named ≡ 0 → meet_in theta p ≡ false
    → SaysNamedImage cx theta (of_child 0 (names_of named)) p None
unmet_side cx theta [] p none unmet = λ u makes.
    filled_left cx.program.sig cx.names theta p
    ∙ ap (image_of cx.program.sig cx.names)
    (filled_written theta p u (unmet_instance theta p unmet ∙ makes))
unmet_side cx theta (n ∷ named) p none unmet = absurd (omega (arith, none))
