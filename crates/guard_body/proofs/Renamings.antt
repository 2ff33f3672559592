-- Patterns with other variables: what occurs in them, their sorts, their parts, and their instances.
use Rattle.std.proofs.Common.{◌≡◌, inl, inr, ◌<◌, ℕ, zero, suc, List, [], ◌∷◌, length}
use Rattle.std.proofs.Common.{Option, Some, None, option_map, slice_get, refl, ◌∙◌, ap, subst}
use Rattle.std.specs.Option.{option_and_then}
use Rattle.term_core.specs.Terms.{Tree, node, injected}
use Rattle.term_core.specs.Patterns.{Pattern, Patterns, variable, domain_value, application}
use Rattle.term_core.specs.Patterns.{injection, call, no_pattern, more_patterns, binding}
use Rattle.term_core.specs.Patterns.{instance_of, instances_of}
use Rattle.rule_core.specs.Matching.{OccursIn, OccursInSome}
use Rattle.rule_core.specs.NamedParts.{parts, part_at, pattern_at}
use Rattle.rule_core.specs.Sorting.{HasSort, HaveSorts}
use Rattle.rule_core.specs.WellSorted.{HasNoCall, HaveNoCall}
use Rattle.rule_core.specs.declared.signature.Signature.{Signature}
use Rattle.rule_core.specs.declared.signature.SortRef.{SortRef}
use Rattle.ml_image.specs.Images.{renamed, all_renamed}

-- the renaming of the variables of some sorts: each has its sort under its number, and numbers are
-- different
pub record Renumbers (g : ℕ → ℕ) (sorts new : List ℕ) : Type 0 where
  pub sorted : (x s : ℕ) → slice_get sorts x ≡ Some s → slice_get new (g x) ≡ Some s
  pub one_to_one : (x y : ℕ) → x < length sorts → y < length sorts → g x ≡ g y → x ≡ y

-- ---- what occurs

mutual
  pub occurs_renamed : (g : ℕ → ℕ) (x : ℕ) (p : Pattern) → OccursIn x p
      → OccursIn (g x) (renamed g p)
  occurs_renamed g x (variable y) h = ap g h
  occurs_renamed g x (domain_value s v) h = absurd h
  occurs_renamed g x (application f ps) h = some_occurs_renamed g x ps h
  occurs_renamed g x (injection a b p) h = occurs_renamed g x p h
  occurs_renamed g x (call f ss ps) h = some_occurs_renamed g x ps h

  pub some_occurs_renamed : (g : ℕ → ℕ) (x : ℕ) (ps : Patterns) → OccursInSome x ps
      → OccursInSome (g x) (all_renamed g ps)
  some_occurs_renamed g x no_pattern h = absurd h
  some_occurs_renamed g x (more_patterns p ps) (inl h) = inl (occurs_renamed g x p h)
  some_occurs_renamed g x (more_patterns p ps) (inr h) = inr (some_occurs_renamed g x ps h)

mutual
  pub occurs_before : (g : ℕ → ℕ) (y : ℕ) (p : Pattern) → OccursIn y (renamed g p)
      → (x : ℕ) × OccursIn x p × (y ≡ g x)
  occurs_before g y (variable x) h = (x, refl, h)
  occurs_before g y (domain_value s v) h = absurd h
  occurs_before g y (application f ps) h = some_occurs_before g y ps h
  occurs_before g y (injection a b p) h = occurs_before g y p h
  occurs_before g y (call f ss ps) h = some_occurs_before g y ps h

  pub some_occurs_before : (g : ℕ → ℕ) (y : ℕ) (ps : Patterns) → OccursInSome y (all_renamed g ps)
      → (x : ℕ) × OccursInSome x ps × (y ≡ g x)
  some_occurs_before g y no_pattern h = absurd h
  some_occurs_before g y (more_patterns p ps) (inl h) =
      let w : (x : ℕ) × OccursIn x p × (y ≡ g x) = occurs_before g y p h in (w.0, inl w.1, w.2)
  some_occurs_before g y (more_patterns p ps) (inr h) =
      let w : (x : ℕ) × OccursInSome x ps × (y ≡ g x) = some_occurs_before g y ps h in
      (w.0, inr w.1, w.2)

-- ---- sorts

mutual
  pub sorted_renamed : (sig : Signature) (g : ℕ → ℕ) (sorts new : List ℕ) (p : Pattern) (sort : ℕ)
      → Renumbers g sorts new → HasSort sig sorts p sort → HasSort sig new (renamed g p) sort
  sorted_renamed sig g sorts new (variable x) sort r h = r.sorted x sort h
  sorted_renamed sig g sorts new (domain_value s v) sort r h = h
  sorted_renamed sig g sorts new (application f ps) sort r (info, there, kind, result, args) =
      (info, there, kind, result, all_sorted_renamed sig g sorts new [] ps _ r args)
  sorted_renamed sig g sorts new (injection a b p) sort r (has, same, below, inside) =
      (has, same, below, sorted_renamed sig g sorts new p a r inside)
  sorted_renamed sig g sorts new (call f ss ps) sort r (info, there, kind, many, are, result, args) =
      (info, there, kind, many, are, result, all_sorted_renamed sig g sorts new ss ps _ r args)

  pub all_sorted_renamed : (sig : Signature) (g : ℕ → ℕ) (sorts new given : List ℕ) (ps : Patterns)
      (refs : List SortRef) → Renumbers g sorts new → HaveSorts sig sorts given ps refs
      → HaveSorts sig new given (all_renamed g ps) refs
  all_sorted_renamed sig g sorts new given no_pattern [] r h = tt
  all_sorted_renamed sig g sorts new given no_pattern (ref ∷ refs) r h = absurd h
  all_sorted_renamed sig g sorts new given (more_patterns p ps) [] r h = absurd h
  all_sorted_renamed sig g sorts new given (more_patterns p ps) (ref ∷ refs) r (sort, is, one, rest) = (
    sort,
    is,
    sorted_renamed sig g sorts new p sort r one,
    all_sorted_renamed sig g sorts new given ps refs r rest,
  )

-- ---- calls

mutual
  pub no_call_renamed : (g : ℕ → ℕ) (p : Pattern) → HasNoCall p → HasNoCall (renamed g p)
  no_call_renamed g (variable x) h = tt
  no_call_renamed g (domain_value s v) h = tt
  no_call_renamed g (application f ps) h = all_no_call_renamed g ps h
  no_call_renamed g (injection a b p) h = no_call_renamed g p h
  no_call_renamed g (call f ss ps) h = absurd h

  pub all_no_call_renamed : (g : ℕ → ℕ) (ps : Patterns) → HaveNoCall ps
      → HaveNoCall (all_renamed g ps)
  all_no_call_renamed g no_pattern h = tt
  all_no_call_renamed g (more_patterns p ps) h =
      (no_call_renamed g p h.0, all_no_call_renamed g ps h.1)

-- ---- instances

mutual
  pub instance_renamed : (g : ℕ → ℕ) (theta sigma : List (Option Tree)) (p : Pattern)
      → ((x : ℕ) → OccursIn x p → binding theta x ≡ binding sigma (g x))
      → instance_of theta p ≡ instance_of sigma (renamed g p)
  instance_renamed g theta sigma (variable x) same = same x refl
  instance_renamed g theta sigma (domain_value s v) same = refl
  instance_renamed g theta sigma (application f ps) same =
      ap (option_map (node f)) (instances_renamed g theta sigma ps same)
  instance_renamed g theta sigma (injection a b p) same =
      ap (option_map (injected a b)) (instance_renamed g theta sigma p same)
  instance_renamed g theta sigma (call f ss ps) same = refl

  pub instances_renamed : (g : ℕ → ℕ) (theta sigma : List (Option Tree)) (ps : Patterns)
      → ((x : ℕ) → OccursInSome x ps → binding theta x ≡ binding sigma (g x))
      → instances_of theta ps ≡ instances_of sigma (all_renamed g ps)
  instances_renamed g theta sigma no_pattern same = refl
  instances_renamed g theta sigma (more_patterns p ps) same =
      rw (
        instance_renamed g theta sigma p (λ x h. same x (inl h)),
        instances_renamed g theta sigma ps (λ x h. same x (inr h)),
      ) refl

-- ---- parts

pattern_renamed : (g : ℕ → ℕ) (ps : Patterns) (i : ℕ)
    → pattern_at (all_renamed g ps) i ≡ option_map (renamed g) (pattern_at ps i)
pattern_renamed g no_pattern i = refl
pattern_renamed g (more_patterns p ps) zero = refl
pattern_renamed g (more_patterns p ps) (suc i) = pattern_renamed g ps i

parts_renamed : (g : ℕ → ℕ) (p : Pattern) → parts (renamed g p) ≡ all_renamed g (parts p)
parts_renamed g (variable x) = refl
parts_renamed g (domain_value s v) = refl
parts_renamed g (application f ps) = refl
parts_renamed g (injection a b p) = refl
parts_renamed g (call f ss ps) = refl

option_part : (g : ℕ → ℕ) (way : List ℕ) (o : Option Pattern)
    → ((q : Pattern) → part_at way (renamed g q) ≡ option_map (renamed g) (part_at way q))
    → option_and_then (part_at way) (option_map (renamed g) o)
    ≡ option_map (renamed g) (option_and_then (part_at way) o)
option_part g way None each = refl
option_part g way (Some q) each = each q

pub part_renamed : (g : ℕ → ℕ) (way : List ℕ) (p : Pattern)
    → part_at way (renamed g p) ≡ option_map (renamed g) (part_at way p)
part_renamed g [] p = refl
part_renamed g (i ∷ way) p =
    ap (λ (qs : Patterns). option_and_then (part_at way) (pattern_at qs i)) (parts_renamed g p)
    ∙ ap (option_and_then (part_at way)) (pattern_renamed g (parts p) i)
    ∙ option_part g way (pattern_at (parts p) i) (λ q. part_renamed g way q)

-- ---- patterns of a list

-- a pattern of the list in which the variable occurs
pub occurs_where : (x : ℕ) (ps : Patterns) → OccursInSome x ps
    → (i : ℕ) × (p : Pattern) × (pattern_at ps i ≡ Some p) × OccursIn x p
occurs_where x no_pattern h = absurd h
occurs_where x (more_patterns p ps) (inl h) = (0, p, refl, h)
occurs_where x (more_patterns p ps) (inr h) =
    let w : (i : ℕ) × (q : Pattern) × (pattern_at ps i ≡ Some q) × OccursIn x q =
    occurs_where x ps h in (suc w.0, w.1, w.2, w.3)

pub sorted_at : (sig : Signature) (sorts given : List ℕ) (ps : Patterns) (refs : List SortRef) (i : ℕ)
    (p : Pattern) → HaveSorts sig sorts given ps refs → pattern_at ps i ≡ Some p
    → (sort : ℕ) × HasSort sig sorts p sort
sorted_at sig sorts given no_pattern refs i p h at = absurd (let no : ⊥ = cc in no)
sorted_at sig sorts given (more_patterns q ps) [] i p h at = absurd h
sorted_at sig sorts given (more_patterns q ps) (ref ∷ refs) zero p h at =
    let same : q ≡ p = cc in (h.0, subst (λ (r : Pattern). HasSort sig sorts r h.0) same h.2)
sorted_at sig sorts given (more_patterns q ps) (ref ∷ refs) (suc i) p h at =
    sorted_at sig sorts given ps refs i p h.3 at

pub no_call_at : (ps : Patterns) (i : ℕ) (p : Pattern) → HaveNoCall ps → pattern_at ps i ≡ Some p
    → HasNoCall p
no_call_at no_pattern i p h at = absurd (let no : ⊥ = cc in no)
no_call_at (more_patterns q ps) zero p h at =
    let same : q ≡ p = cc in subst HasNoCall same h.0
no_call_at (more_patterns q ps) (suc i) p h at = no_call_at ps i p h.1 at
