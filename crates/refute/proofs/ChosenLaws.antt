-- A pattern with a name in the place of the part that it names: its sort, its variables and its
-- instance.
use Rattle.std.proofs.Common.{◌≡◌, ◌≢◌, ◌⊎◌, inl, inr, ℕ, zero, suc, ◌+◌, Bool, true, false}
use Rattle.std.proofs.Common.{List, [], ◌∷◌, Option, Some, None, option_map, nat_eq}
use Rattle.std.proofs.Common.{refl, sym, ◌∙◌, ap, subst, arith, slice_get}
use Rattle.std.specs.Prelude.{◌==◌, ◌||◌, if◌then◌else◌, All}
use Rattle.std.specs.Option.{option_and_then}
use Rattle.std.proofs.lemmas.Bool.{eqb-true, false≢true}
use Rattle.term_core.specs.Terms.{Tree, node, injected, no_tree, more_trees}
use Rattle.term_core.specs.Patterns.{Pattern, Patterns, variable, domain_value, application}
use Rattle.term_core.specs.Patterns.{injection, call, no_pattern, more_patterns, binding}
use Rattle.term_core.specs.Patterns.{instance_of, instances_of, with_first}
use Rattle.rule_core.specs.Matching.{OccursIn, OccursInSome, MatchNamed}
use Rattle.rule_core.specs.NamedParts.{Name, part_at, part_of, pattern_at, part_instance}
use Rattle.rule_core.specs.Sorting.{HasSort, HaveSorts, sort_at, IsSymbol}
use Rattle.rule_core.specs.WellSorted.{HasNoCall, HaveNoCall, HaveNames}
use Rattle.rule_core.specs.declared.signature.Signature.{Signature}
use Rattle.rule_core.specs.declared.signature.SortRef.{SortRef}
use Rattle.rule_core.specs.declared.signature.SymInfo.{SymInfo}
use Rattle.ml_image.specs.NamedSides.{way_in, at_way, whole, of_child, of_whole}
use Rattle.refute.specs.Choosing.{is_named, or_name, chosen, all_chosen, part_chosen}
use Rattle.refute.specs.NamedSettings.{AreParts}

some_same : {A : Type 0} (a b : A) → Some a ≡ Some b → a ≡ b
some_same a b h = cc

none_some : {A : Type 0} (a : A) → None ≡ Some a → ⊥
none_some a h = cc

-- ---- the names of a child, and of the whole

way_split : (k : ℕ) (place way : List ℕ) → way_in k place ≡ Some way → place ≡ k ∷ way
way_split k [] way h = absurd (none_some way h)
way_split k (i ∷ rest) way h = go (nat_eq i k) refl h
  where
    go : (b : Bool) → b ≡ nat_eq i k → (if b then Some rest else None) ≡ Some way
        → i ∷ rest ≡ k ∷ way
    go true e is =
        ap (λ (j : ℕ). j ∷ rest) (eqb-true i k (sym e))
        ∙ ap (λ (r : List ℕ). k ∷ r) (some_same rest way is)
    go false e is = absurd (none_some way is)

-- what holds of each name with a place in the child k, from there on
abbrev HoldsInside : (Name → Type 0) → ℕ → Name → Type 0
HoldsInside P k n = (way : List ℕ) → n.place ≡ k ∷ way → P (record n { place = way })

more_names : (P : Name → Type 0) (n : Name) (names : List Name) → P n → All P names
    → All P (n ∷ names)
more_names P n names one all zero d low = one
more_names P n names one all (suc k) d low = all k d (omega (arith, low))

all_inside : (P : Name → Type 0) (k : ℕ) (names : List Name) → All (HoldsInside P k) names
    → All P (of_child k names)
all_inside P k [] all = λ i d low. absurd (omega (arith, low))
all_inside P k (n ∷ names) all =
    go (way_in k n.place) refl
    (all_inside P k names (λ i d low. all (suc i) d (omega (arith, low))))
  where
    go : (o : Option (List ℕ)) → way_in k n.place ≡ o → All P (of_child k names)
        → All P (at_way o n (of_child k names))
    go None is rest = rest
    go (Some way) is rest =
        more_names P (record n { place = way }) (of_child k names)
        (all 0 n (omega arith) way (way_split k n.place way is)) rest

-- a name of the whole that is x
record IsWhole (P : Name → Type 0) (x : ℕ) : Type 0 where
  name : Name
  holds : P name
  place : name.place ≡ []
  is : name.variable ≡ x

whole_name : (P : Name → Type 0) (x : ℕ) (names : List Name) → All P names
    → is_named x (of_whole names) ≡ true → IsWhole P x
whole_name P x [] all h = absurd (false≢true h)
whole_name P x (n ∷ names) all h =
    go n.place refl h (whole_name P x names (λ i d low. all (suc i) d (omega (arith, low))))
  where
    here : (b : Bool) → (n.variable == x) ≡ b → (b || is_named x (of_whole names)) ≡ true
        → n.place ≡ [] → (is_named x (of_whole names) ≡ true → IsWhole P x) → IsWhole P x
    here true same h at rest = record {
      name = n;
      holds = all 0 n (omega arith);
      place = at;
      is = eqb-true n.variable x same;
    }
    here false other h at rest = rest h

    go : (way : List ℕ) → n.place ≡ way → is_named x (whole way n (of_whole names)) ≡ true
        → (is_named x (of_whole names) ≡ true → IsWhole P x) → IsWhole P x
    go [] at h rest = here (n.variable == x) refl h at rest
    go (i ∷ way) at h rest = rest h

-- ---- a name or the pattern

-- what holds of both holds of the one that is there
or_holds : (P : Pattern → Type 0) (x : ℕ) (names : List Name) (p : Pattern)
    → (is_named x names ≡ true → P (variable x)) → P p → P (or_name x names p)
or_holds P x names p one other = go (is_named x names) refl
  where
    go : (b : Bool) → is_named x names ≡ b → P (if b then variable x else p)
    go true is = one is
    go false is = other

pub chosen_parts : (x : ℕ) (names : List Name) (p : Pattern)
    → chosen x names p ≡ or_name x (of_whole names) (part_chosen x names p)
chosen_parts x names (variable y) = refl
chosen_parts x names (domain_value s v) = refl
chosen_parts x names (application f ps) = refl
chosen_parts x names (injection a b p) = refl
chosen_parts x names (call f ss ps) = refl

-- ---- calls

mutual
  pub chosen_no_call : (x : ℕ) (names : List Name) (p : Pattern) → HasNoCall p
      → HasNoCall (chosen x names p)
  chosen_no_call x names (variable y) k =
      or_holds HasNoCall x (of_whole names) (variable y) (λ is. tt) tt
  chosen_no_call x names (domain_value s v) k =
      or_holds HasNoCall x (of_whole names) (domain_value s v) (λ is. tt) tt
  chosen_no_call x names (application f ps) k =
      or_holds HasNoCall x (of_whole names) (application f (all_chosen x names 0 ps)) (λ is. tt)
      (all_chosen_no_call x names 0 ps k)
  chosen_no_call x names (injection a b p) k =
      or_holds HasNoCall x (of_whole names) (injection a b (chosen x (of_child 0 names) p))
      (λ is. tt) (chosen_no_call x (of_child 0 names) p k)
  chosen_no_call x names (call f ss ps) k = absurd k

  all_chosen_no_call : (x : ℕ) (names : List Name) (k : ℕ) (ps : Patterns) → HaveNoCall ps
      → HaveNoCall (all_chosen x names k ps)
  all_chosen_no_call x names k no_pattern h = tt
  all_chosen_no_call x names k (more_patterns p ps) h =
      (chosen_no_call x (of_child k names) p h.0, all_chosen_no_call x names (k + 1) ps h.1)

-- ---- variables

or_occurs : (x y : ℕ) (names : List Name) (p q : Pattern)
    → (OccursIn y q → OccursIn y p ⊎ (y ≡ x)) → OccursIn y (or_name x names q)
    → OccursIn y p ⊎ (y ≡ x)
or_occurs x y names p q inside h = go (is_named x names) h
  where
    go : (b : Bool) → OccursIn y (if b then variable x else q) → OccursIn y p ⊎ (y ≡ x)
    go true same = inr same
    go false occurs = inside occurs

mutual
  pub chosen_occurs : (x y : ℕ) (names : List Name) (p : Pattern) → OccursIn y (chosen x names p)
      → OccursIn y p ⊎ (y ≡ x)
  chosen_occurs x y names (variable z) h =
      or_occurs x y (of_whole names) (variable z) (variable z) (λ k. inl k) h
  chosen_occurs x y names (domain_value s v) h =
      or_occurs x y (of_whole names) (domain_value s v) (domain_value s v) (λ k. inl k) h
  chosen_occurs x y names (application f ps) h =
      or_occurs x y (of_whole names) (application f ps) (application f (all_chosen x names 0 ps))
      (λ k. all_chosen_occur x y names 0 ps k) h
  chosen_occurs x y names (injection a b p) h =
      or_occurs x y (of_whole names) (injection a b p)
      (injection a b (chosen x (of_child 0 names) p))
      (λ k. chosen_occurs x y (of_child 0 names) p k) h
  chosen_occurs x y names (call f ss ps) h =
      or_occurs x y (of_whole names) (call f ss ps) (call f ss ps) (λ k. inl k) h

  all_chosen_occur : (x y : ℕ) (names : List Name) (k : ℕ) (ps : Patterns)
      → OccursInSome y (all_chosen x names k ps) → OccursInSome y ps ⊎ (y ≡ x)
  all_chosen_occur x y names k no_pattern h = absurd h
  all_chosen_occur x y names k (more_patterns p ps) (inl h) =
      go (chosen_occurs x y (of_child k names) p h)
    where
      go : OccursIn y p ⊎ (y ≡ x) → OccursInSome y (more_patterns p ps) ⊎ (y ≡ x)
      go (inl occurs) = inl (inl occurs)
      go (inr same) = inr same
  all_chosen_occur x y names k (more_patterns p ps) (inr h) =
      go (all_chosen_occur x y names (k + 1) ps h)
    where
      go : OccursInSome y ps ⊎ (y ≡ x) → OccursInSome y (more_patterns p ps) ⊎ (y ≡ x)
      go (inl occurs) = inl (inr occurs)
      go (inr same) = inr same

-- ---- sorts

same_info : (sig : Signature) (f : ℕ) (i j : SymInfo) → IsSymbol sig f i → IsSymbol sig f j → i ≡ j
same_info sig f i j one other =
    ap (λ (e : List ℕ × SymInfo). e.1)
    (some_same (one.0, i) (other.0, j) (sym one.1 ∙ other.1))

-- a pattern has one sort
sort_is : (sig : Signature) (variables : List ℕ) (p : Pattern) (s r : ℕ)
    → HasSort sig variables p s → HasSort sig variables p r → s ≡ r
sort_is sig variables (variable x) s r h k = some_same s r (sym h ∙ k)
sort_is sig variables (domain_value a v) s r h k = sym h.0 ∙ k.0
sort_is sig variables (application f ps) s r (i, at, ctor, result, args)
    (j, at2, ctor2, result2, args2) =
    some_same s r (sym result
    ∙ ap (λ (info : SymInfo). sort_at [] info.result) (same_info sig f i j at at2) ∙ result2)
sort_is sig variables (injection a b p) s r h k = sym h.1 ∙ k.1
sort_is sig variables (call f ss ps) s r (i, at, fun, count, are, result, args)
    (j, at2, fun2, count2, are2, result2, args2) =
    some_same s r (sym result
    ∙ ap (λ (info : SymInfo). sort_at ss info.result) (same_info sig f i j at at2) ∙ result2)

abbrev IsPart : Signature → List ℕ → Pattern → Name → Type 0
IsPart sig variables p n =
    (q : Pattern) × (sort : ℕ) × (part_at n.place p ≡ Some q)
    × HasSort sig variables q sort × (slice_get variables n.variable ≡ Some sort)

whole_sorted : (sig : Signature) (variables : List ℕ) (x : ℕ) (names : List Name) (p q : Pattern)
    (sort : ℕ) → HasSort sig variables p sort → AreParts sig variables p names
    → HasSort sig variables q sort → HasSort sig variables (or_name x (of_whole names) q) sort
whole_sorted sig variables x names p q sort h parts inside =
    or_holds (λ (r : Pattern). HasSort sig variables r sort) x (of_whole names) q
    (λ is. named (whole_name (IsPart sig variables p) x names parts is)) inside
  where
    named : IsWhole (IsPart sig variables p) x → slice_get variables x ≡ Some sort
    named w =
        let part : p ≡ w.holds.0 =
        some_same p w.holds.0
        (ap (λ (way : List ℕ). part_at way p) (sym w.place) ∙ w.holds.2) in
        let one : w.holds.1 ≡ sort =
        sort_is sig variables p w.holds.1 sort
        (subst (λ (r : Pattern). HasSort sig variables r w.holds.1) (sym part) w.holds.3) h in
        ap (slice_get variables) (sym w.is) ∙ w.holds.4 ∙ ap (λ (n : ℕ). Some n) one

-- the same for patterns, the first of which is the child k
abbrev ArePartsFrom : Signature → List ℕ → ℕ → Patterns → List Name → Type 0
ArePartsFrom sig variables k ps names =
    (j : ℕ) (q : Pattern) → pattern_at ps j ≡ Some q
    → AreParts sig variables q (of_child (k + j) names)

inside_parts : (sig : Signature) (variables : List ℕ) (k : ℕ) (p q : Pattern) (names : List Name)
    → ((way : List ℕ) → part_at (k ∷ way) p ≡ part_at way q) → AreParts sig variables p names
    → AreParts sig variables q (of_child k names)
inside_parts sig variables k p q names leads parts =
    all_inside (IsPart sig variables q) k names (λ i d low way is.
    let part = parts i d low in (
      part.0,
      part.1,
      sym (leads way) ∙ ap (λ (place : List ℕ). part_at place p) (sym is) ∙ part.2,
      part.3,
      part.4,
    ))

first_parts : (sig : Signature) (variables : List ℕ) (k : ℕ) (p : Pattern) (ps : Patterns)
    (names : List Name) → ArePartsFrom sig variables k (more_patterns p ps) names
    → AreParts sig variables p (of_child k names)
first_parts sig variables k p ps names parts =
    let same : k + 0 ≡ k = omega arith in
    subst (λ (i : ℕ). AreParts sig variables p (of_child i names)) same (parts 0 p refl)

other_parts : (sig : Signature) (variables : List ℕ) (k : ℕ) (p : Pattern) (ps : Patterns)
    (names : List Name) → ArePartsFrom sig variables k (more_patterns p ps) names
    → ArePartsFrom sig variables (k + 1) ps names
other_parts sig variables k p ps names parts j q there =
    let same : k + suc j ≡ k + 1 + j = omega arith in
    subst (λ (i : ℕ). AreParts sig variables q (of_child i names)) same (parts (suc j) q there)

arguments_parts : (sig : Signature) (variables : List ℕ) (f : ℕ) (ps : Patterns)
    (names : List Name) → AreParts sig variables (application f ps) names
    → ArePartsFrom sig variables 0 ps names
arguments_parts sig variables f ps names parts j q there =
    let same : j ≡ 0 + j = omega arith in
    subst (λ (i : ℕ). AreParts sig variables q (of_child i names)) same
    (inside_parts sig variables j (application f ps) q names
    (λ way. ap (option_and_then (part_at way)) there) parts)

mutual
  pub chosen_sorted : (sig : Signature) (variables : List ℕ) (x : ℕ) (names : List Name)
      (p : Pattern) (sort : ℕ) → HasSort sig variables p sort → AreParts sig variables p names
      → HasSort sig variables (chosen x names p) sort
  chosen_sorted sig variables x names (variable y) sort h parts =
      whole_sorted sig variables x names (variable y) (variable y) sort h parts h
  chosen_sorted sig variables x names (domain_value s v) sort h parts =
      whole_sorted sig variables x names (domain_value s v) (domain_value s v) sort h parts h
  chosen_sorted sig variables x names (application f ps) sort h parts =
      whole_sorted sig variables x names (application f ps)
      (application f (all_chosen x names 0 ps)) sort h parts (
        h.0,
        h.1,
        h.2,
        h.3,
        all_chosen_sorted sig variables x names 0 ps [] h.0.args.items h.4
            (arguments_parts sig variables f ps names parts),
      )
  chosen_sorted sig variables x names (injection a b p) sort h parts =
      whole_sorted sig variables x names (injection a b p)
      (injection a b (chosen x (of_child 0 names) p)) sort h parts (
        h.0,
        h.1,
        h.2,
        chosen_sorted sig variables x (of_child 0 names) p a h.3
            (inside_parts sig variables 0 (injection a b p) p names (λ way. refl) parts),
      )
  chosen_sorted sig variables x names (call f ss ps) sort h parts =
      whole_sorted sig variables x names (call f ss ps) (call f ss ps) sort h parts h

  all_chosen_sorted : (sig : Signature) (variables : List ℕ) (x : ℕ) (names : List Name) (k : ℕ)
      (ps : Patterns) (sorts : List ℕ) (refs : List SortRef)
      → HaveSorts sig variables sorts ps refs → ArePartsFrom sig variables k ps names
      → HaveSorts sig variables sorts (all_chosen x names k ps) refs
  all_chosen_sorted sig variables x names k no_pattern sorts [] h parts = tt
  all_chosen_sorted sig variables x names k no_pattern sorts (of ∷ refs) h parts = absurd h
  all_chosen_sorted sig variables x names k (more_patterns p ps) sorts [] h parts = absurd h
  all_chosen_sorted sig variables x names k (more_patterns p ps) sorts (of ∷ refs) h parts = (
    h.0,
    h.1,
    chosen_sorted sig variables x (of_child k names) p h.0 h.2
        (first_parts sig variables k p ps names parts),
    all_chosen_sorted sig variables x names (k + 1) ps sorts refs h.3
        (other_parts sig variables k p ps names parts),
  )

-- ---- instances

-- the name is bound to the term that its part becomes
abbrev IsBoundInside : List (Option Tree) → Pattern → Name → Type 0
IsBoundInside theta p n =
    binding theta n.variable ≡ option_and_then (instance_of theta) (part_at n.place p)

abbrev pub AreBound : List (Option Tree) → Pattern → List Name → Type 0
AreBound theta p names = All (IsBoundInside theta p) names

abbrev AreBoundFrom : List (Option Tree) → ℕ → Patterns → List Name → Type 0
AreBoundFrom theta k ps names =
    (j : ℕ) (q : Pattern) → pattern_at ps j ≡ Some q → AreBound theta q (of_child (k + j) names)

inside_bound : (theta : List (Option Tree)) (k : ℕ) (p q : Pattern) (names : List Name)
    → ((way : List ℕ) → part_at (k ∷ way) p ≡ part_at way q) → AreBound theta p names
    → AreBound theta q (of_child k names)
inside_bound theta k p q names leads bound =
    all_inside (IsBoundInside theta q) k names (λ i d low way is. bound i d low
    ∙ ap (λ (place : List ℕ). option_and_then (instance_of theta) (part_at place p)) is
    ∙ ap (option_and_then (instance_of theta)) (leads way))

first_bound : (theta : List (Option Tree)) (k : ℕ) (p : Pattern) (ps : Patterns)
    (names : List Name) → AreBoundFrom theta k (more_patterns p ps) names
    → AreBound theta p (of_child k names)
first_bound theta k p ps names bound =
    let same : k + 0 ≡ k = omega arith in
    subst (λ (i : ℕ). AreBound theta p (of_child i names)) same (bound 0 p refl)

other_bound : (theta : List (Option Tree)) (k : ℕ) (p : Pattern) (ps : Patterns)
    (names : List Name) → AreBoundFrom theta k (more_patterns p ps) names
    → AreBoundFrom theta (k + 1) ps names
other_bound theta k p ps names bound j q there =
    let same : k + suc j ≡ k + 1 + j = omega arith in
    subst (λ (i : ℕ). AreBound theta q (of_child i names)) same (bound (suc j) q there)

arguments_bound : (theta : List (Option Tree)) (f : ℕ) (ps : Patterns) (names : List Name)
    → AreBound theta (application f ps) names → AreBoundFrom theta 0 ps names
arguments_bound theta f ps names bound j q there =
    let same : j ≡ 0 + j = omega arith in
    subst (λ (i : ℕ). AreBound theta q (of_child i names)) same
    (inside_bound theta j (application f ps) q names
    (λ way. ap (option_and_then (part_at way)) there) bound)

whole_instance : (theta : List (Option Tree)) (x : ℕ) (names : List Name) (p q : Pattern)
    → AreBound theta p names → instance_of theta q ≡ instance_of theta p
    → instance_of theta (or_name x (of_whole names) q) ≡ instance_of theta p
whole_instance theta x names p q bound inside =
    or_holds (λ (r : Pattern). instance_of theta r ≡ instance_of theta p) x (of_whole names) q
    (λ is. named (whole_name (IsBoundInside theta p) x names bound is)) inside
  where
    named : IsWhole (IsBoundInside theta p) x → binding theta x ≡ instance_of theta p
    named w =
        ap (binding theta) (sym w.is) ∙ w.holds
        ∙ ap (λ (place : List ℕ). option_and_then (instance_of theta) (part_at place p)) w.place

mutual
  pub chosen_instance : (theta : List (Option Tree)) (x : ℕ) (names : List Name) (p : Pattern)
      → AreBound theta p names → instance_of theta (chosen x names p) ≡ instance_of theta p
  chosen_instance theta x names (variable y) bound =
      whole_instance theta x names (variable y) (variable y) bound refl
  chosen_instance theta x names (domain_value s v) bound =
      whole_instance theta x names (domain_value s v) (domain_value s v) bound refl
  chosen_instance theta x names (application f ps) bound =
      whole_instance theta x names (application f ps) (application f (all_chosen x names 0 ps))
      bound (ap (option_map (node f)) (all_chosen_instances theta x names 0 ps
      (arguments_bound theta f ps names bound)))
  chosen_instance theta x names (injection a b p) bound =
      whole_instance theta x names (injection a b p)
      (injection a b (chosen x (of_child 0 names) p)) bound
      (ap (option_map (injected a b)) (chosen_instance theta x (of_child 0 names) p
      (inside_bound theta 0 (injection a b p) p names (λ way. refl) bound)))
  chosen_instance theta x names (call f ss ps) bound =
      whole_instance theta x names (call f ss ps) (call f ss ps) bound refl

  all_chosen_instances : (theta : List (Option Tree)) (x : ℕ) (names : List Name) (k : ℕ)
      (ps : Patterns) → AreBoundFrom theta k ps names
      → instances_of theta (all_chosen x names k ps) ≡ instances_of theta ps
  all_chosen_instances theta x names k no_pattern bound = refl
  all_chosen_instances theta x names k (more_patterns p ps) bound =
      ap (λ (o : Option Tree). with_first o (instances_of theta (all_chosen x names (k + 1) ps)))
      (chosen_instance theta x (of_child k names) p (first_bound theta k p ps names bound))
      ∙ ap (with_first (instance_of theta p))
      (all_chosen_instances theta x names (k + 1) ps (other_bound theta k p ps names bound))

-- ---- a number that is no name

-- no name is x
abbrev AreOthers : ℕ → List Name → Type 0
AreOthers x names = All (λ (n : Name). n.variable ≢ x) names

inside_others : (x k : ℕ) (names : List Name) → AreOthers x names → AreOthers x (of_child k names)
inside_others x k names others =
    all_inside (λ (n : Name). n.variable ≢ x) k names (λ i d low way is. others i d low)

whole_none : (x : ℕ) (names : List Name) (p q : Pattern) → AreOthers x names → q ≡ p
    → or_name x (of_whole names) q ≡ p
whole_none x names p q others inside =
    or_holds (λ (r : Pattern). r ≡ p) x (of_whole names) q
    (λ is. absurd (named (whole_name (λ (n : Name). n.variable ≢ x) x names others is))) inside
  where
    named : IsWhole (λ (n : Name). n.variable ≢ x) x → ⊥
    named w = w.holds w.is

mutual
  pub chosen_none : (x : ℕ) (names : List Name) (p : Pattern) → AreOthers x names
      → chosen x names p ≡ p
  chosen_none x names (variable y) others =
      whole_none x names (variable y) (variable y) others refl
  chosen_none x names (domain_value s v) others =
      whole_none x names (domain_value s v) (domain_value s v) others refl
  chosen_none x names (application f ps) others =
      whole_none x names (application f ps) (application f (all_chosen x names 0 ps)) others
      (ap (application f) (all_chosen_none x names 0 ps others))
  chosen_none x names (injection a b p) others =
      whole_none x names (injection a b p) (injection a b (chosen x (of_child 0 names) p)) others
      (ap (injection a b) (chosen_none x (of_child 0 names) p (inside_others x 0 names others)))
  chosen_none x names (call f ss ps) others =
      whole_none x names (call f ss ps) (call f ss ps) others refl

  all_chosen_none : (x : ℕ) (names : List Name) (k : ℕ) (ps : Patterns) → AreOthers x names
      → all_chosen x names k ps ≡ ps
  all_chosen_none x names k no_pattern others = refl
  all_chosen_none x names k (more_patterns p ps) others =
      ap (λ (q : Pattern). more_patterns q (all_chosen x names (k + 1) ps))
      (chosen_none x (of_child k names) p (inside_others x k names others))
      ∙ ap (more_patterns p) (all_chosen_none x names (k + 1) ps others)

-- ---- the names of one pattern

pub only_parts : (sig : Signature) (variables : List ℕ) (p : Pattern) (names : List Name)
    → HaveNames sig variables (more_patterns p no_pattern) names
    → AreParts sig variables p (of_child 0 names)
only_parts sig variables p names have =
    all_inside (IsPart sig variables p) 0 names (λ i d low way is.
    let part = have.sorted i d low in (
      part.0,
      part.1,
      ap (part_of (more_patterns p no_pattern)) (sym is) ∙ part.2,
      part.3,
      part.4,
    ))

pub only_bound : (sig : Signature) (variables : List ℕ) (theta : List (Option Tree)) (p : Pattern)
    (t : Tree) (names : List Name)
    → MatchNamed sig variables (more_patterns p no_pattern) names (more_trees t no_tree) theta
    → AreBound theta p (of_child 0 names)
only_bound sig variables theta p t names matches =
    all_inside (IsBoundInside theta p) 0 names (λ i d low way is. matches.named i d low
    ∙ ap (λ (place : List ℕ). part_instance theta (more_patterns p no_pattern) place) is)
