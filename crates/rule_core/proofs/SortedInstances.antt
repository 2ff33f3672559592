-- Well-sorted patterns: their variables, and their instances under normal terms of the right sorts.
use Rattle.std.proofs.Common.{◌≡◌, ◌<◌, inl, inr, ℕ, List, [], ◌∷◌, length, Option, option_map}
use Rattle.std.proofs.Common.{Some, None, refl, sym, ◌∙◌, subst}
use Rattle.std.proofs.lemmas.Option.{slice_get_within}
use Rattle.term_core.specs.Terms.{Tree, leaf, node, inj, Forest, no_tree, more_trees, injected}
use Rattle.term_core.specs.Terms.{IsNormal, AreNormal}
use Rattle.term_core.specs.Patterns.{Pattern, Patterns, variable, domain_value, application}
use Rattle.term_core.specs.Patterns.{injection, call, no_pattern, more_patterns, with_first}
use Rattle.term_core.specs.Patterns.{instance_of, instances_of}
use Rattle.term_core.proofs.Forests.{IsNormal-injected}
use Rattle.rule_core.specs.Subsorts.{IsBelow}
use Rattle.rule_core.specs.Sorting.{HasSort, HaveSorts, IsTermOf, HasInjection}
use Rattle.rule_core.specs.Matching.{OccursIn, OccursInSome, RespectsSorts}
use Rattle.rule_core.specs.MatchLaws.{AreTermsOf, SortedUseFirst, InstancesAreSorted}
use Rattle.rule_core.specs.declared.signature.Signature.{Signature}
use Rattle.rule_core.specs.declared.signature.SortRef.{SortRef}
use Rattle.rule_core.proofs.Belows.{IsBelow-trans}

-- ---- variables

mutual
  uses_first : (sig : Signature) (variables : List ℕ) (p : Pattern) (sort x : ℕ)
      → HasSort sig variables p sort → OccursIn x p → x < length variables
  uses_first sig variables (variable y) sort x h stands =
      slice_get_within variables x sort (rw stands h)
  uses_first sig variables (domain_value s v) sort x h stands = absurd stands
  uses_first sig variables (application f ps) sort x (info, is, ctor, result, args) stands =
      all_use_first sig variables [] ps info.args.items x args stands
  uses_first sig variables (injection a b p) sort x (has, to, below, inside) stands =
      uses_first sig variables p a x inside stands
  uses_first sig variables (call f sorts ps) sort x (info, is, fun, count, are, result, args)
      stands =
      all_use_first sig variables sorts ps info.args.items x args stands

  all_use_first : (sig : Signature) (variables sorts : List ℕ) (ps : Patterns) (refs : List SortRef)
      (x : ℕ) → HaveSorts sig variables sorts ps refs → OccursInSome x ps → x < length variables
  all_use_first sig variables sorts no_pattern refs x h stands = absurd stands
  all_use_first sig variables sorts (more_patterns p ps) [] x h stands = absurd h
  all_use_first sig variables sorts (more_patterns p ps) (of ∷ refs) x (sort, at, first, others)
      (inl stands) =
      uses_first sig variables p sort x first stands
  all_use_first sig variables sorts (more_patterns p ps) (of ∷ refs) x (sort, at, first, others)
      (inr stands) =
      all_use_first sig variables sorts ps refs x others stands

pub sorted_use_first : SortedUseFirst
sorted_use_first sig variables sorts ps refs h x stands =
    all_use_first sig variables sorts ps refs x h stands

-- ---- instances

-- the source of a mapped option
pub mapped : {A B : Type 0} (f : A → B) (o : Option A) (y : B) → option_map f o ≡ Some y
    → (x : A) × ((o ≡ Some x) × (f x ≡ y))
mapped f None y e = absurd (let no : ⊥ = cc in no)
mapped f (Some x) y e = (x, (refl, cc))

-- trees that exist have a first one and the others
pub both_there : (o : Option Tree) (os : Option Forest) (ts : Forest) → with_first o os ≡ Some ts
    → (t : Tree) × ((us : Forest) × ((ts ≡ more_trees t us) × ((o ≡ Some t) × (os ≡ Some us))))
both_there None os ts e = absurd (let no : ⊥ = cc in no)
both_there (Some t) None ts e = absurd (let no : ⊥ = cc in no)
both_there (Some t) (Some us) ts e = (t, (us, (cc, (refl, refl))))

-- an injection of a term into a sort above its own
pub IsTermOf-injected : (sig : Signature) (a b : ℕ) (t : Tree) → HasInjection sig
    → IsBelow sig.subsorts a b → IsTermOf sig t a → IsTermOf sig (injected a b t) b
IsTermOf-injected sig a b (leaf s v) has below h = (has, refl, below, h)
IsTermOf-injected sig a b (node f ts) has below h = (has, refl, below, h)
IsTermOf-injected sig a b (inj c d t) has below (again, to, under, inside) =
    let P : ℕ → Type 0 = λ x. IsBelow sig.subsorts c x in
    (has, refl, IsBelow-trans sig.subsorts c a b (subst P to under) below, inside)

pub IsTermOf-at : (sig : Signature) (t u : Tree) (s r : ℕ) → t ≡ u → s ≡ r → IsTermOf sig t s
    → IsTermOf sig u r
IsTermOf-at sig t u s r same to h =
    let P : Tree → Type 0 = λ x. IsTermOf sig x s in
    let Q : ℕ → Type 0 = λ x. IsTermOf sig u x in subst Q to (subst P same h)

IsNormal-at : (t u : Tree) → t ≡ u → IsNormal t → IsNormal u
IsNormal-at t u same h = let P : Tree → Type 0 = IsNormal in subst P same h

mutual
  pub instance_is_sorted : (sig : Signature) (variables : List ℕ) (p : Pattern) (sort : ℕ)
      (theta : List (Option Tree)) (t : Tree) → HasSort sig variables p sort
      → RespectsSorts sig variables theta → instance_of theta p ≡ Some t
      → IsTermOf sig t sort × IsNormal t
  instance_is_sorted sig variables (variable x) sort theta t h respects e =
      let known = respects x t e in
      let both : Some known.1.0 ≡ Some sort = sym known.1.1 ∙ h in
      let same : known.1.0 ≡ sort = cc in
      (IsTermOf-at sig t t known.1.0 sort refl same known.1.2, known.0)
  instance_is_sorted sig variables (domain_value s v) sort theta t h respects e =
      let same : leaf s v ≡ t = cc in
      (IsTermOf-at sig (leaf s v) t sort sort same refl h, IsNormal-at (leaf s v) t same tt)
  instance_is_sorted sig variables (application f ps) sort theta t (info, is, ctor, result, args)
      respects e =
      let from = mapped (node f) (instances_of theta ps) t e in
      let inside =
      instances_are_sorted sig variables [] ps info.args.items theta from.0 args respects
      from.1.0 in (
        IsTermOf-at sig (node f from.0) t sort sort from.1.1 refl
            (info, is, ctor, result, inside.0),
        IsNormal-at (node f from.0) t from.1.1 inside.1,
      )
  instance_is_sorted sig variables (injection a b p) sort theta t (has, to, below, within) respects
      e =
      let from = mapped (injected a b) (instance_of theta p) t e in
      let inside = instance_is_sorted sig variables p a theta from.0 within respects from.1.0 in (
        IsTermOf-at sig (injected a b from.0) t b sort from.1.1 to
            (IsTermOf-injected sig a b from.0 has below inside.0),
        IsNormal-at (injected a b from.0) t from.1.1 (IsNormal-injected a b from.0 inside.1),
      )
  instance_is_sorted sig variables (call f sorts ps) sort theta t h respects e =
      absurd (let no : ⊥ = cc in no)

  pub instances_are_sorted : InstancesAreSorted
  instances_are_sorted sig variables sorts no_pattern [] theta ts h respects e =
      let same : no_tree ≡ ts = cc in
      let P : Forest → Type 0 = λ us. AreTermsOf sig sorts us [] × AreNormal us in
      subst P same (tt, tt)
  instances_are_sorted sig variables sorts no_pattern (of ∷ refs) theta ts h respects e = absurd h
  instances_are_sorted sig variables sorts (more_patterns p ps) [] theta ts h respects e = absurd h
  instances_are_sorted sig variables sorts (more_patterns p ps) (of ∷ refs) theta ts
      (sort, at, first, others) respects e =
      let parts = both_there (instance_of theta p) (instances_of theta ps) ts e in
      let one =
      instance_is_sorted sig variables p sort theta parts.0 first respects parts.1.1.1.0 in
      let more =
      instances_are_sorted sig variables sorts ps refs theta parts.1.0 others respects
      parts.1.1.1.1 in
      let P : Forest → Type 0 = λ us. AreTermsOf sig sorts us (of ∷ refs) × AreNormal us in
      subst P (sym parts.1.1.0) ((sort, at, one.0, more.0), (one.1, more.1))
