-- The names of parts of one argument, with other variables.
use Rattle.std.proofs.Common.{◌≡◌, ◌≢◌, inl, inr, ◌<◌, ℕ, zero, suc, List, [], ◌∷◌}
use Rattle.std.proofs.Common.{length, map, Bool, true, false, Option, Some, None, option_map, slice_get}
use Rattle.std.proofs.Common.{refl, sym, ◌∙◌, ap, subst, arith, eq-eqb}
use Rattle.std.specs.Prelude.{All, ◌==◌, if◌then◌else◌}
use Rattle.std.specs.Option.{option_and_then}
use Rattle.std.proofs.lemmas.Bool.{eqb-true, false≢true}
use Rattle.std.proofs.lemmas.Option.{slice_get_within}
use Rattle.term_core.specs.Patterns.{Pattern, Patterns, no_pattern, more_patterns}
use Rattle.rule_core.specs.Matching.{OccursIn, OccursInSome}
use Rattle.rule_core.specs.NamedParts.{IsNamed, Name, part_at, part_of, pattern_at}
use Rattle.rule_core.specs.Sorting.{HasSort}
use Rattle.rule_core.specs.WellSorted.{AreDifferent, HaveNames}
use Rattle.rule_core.specs.declared.signature.Signature.{Signature}
use Rattle.rule_core.proofs.EvaluationUnique.{all_first, all_rest}
use Rattle.rule_core.proofs.NamedMatches.{occurs_at}
use Rattle.ml_image.specs.Images.{renamed}
use Rattle.ml_image.specs.NamedSides.{at_way, of_child, way_in}
use Rattle.ml_image.specs.PartNames.{names_renamed}
use Rattle.ml_image.specs.Premises.{renamed_name}
use Rattle.guard_body.specs.Renaming.{at_zero, begins_with, names_at, zero_first}
use Rattle.guard_body.proofs.Renamings.{Renumbers, occurs_before, part_renamed, sorted_renamed}

all_more : {X : Type 0} (P : X → Type 0) (x : X) (xs : List X) → P x → All P xs → All P (x ∷ xs)
all_more P x xs first rest zero d lt = first
all_more P x xs first rest (suc i) d lt = rest i d (omega (arith, lt))

-- the name as one of argument 0, with another variable
abbrev pub moved : (ℕ → ℕ) → Name → Name
moved g n = at_zero (renamed_name g n)

-- what holds of the names of an argument
abbrev one_names_at : (ℕ → ℕ) → ℕ → List Name → Name → Bool → List Name
one_names_at g i ns n b =
    if b then moved g n ∷ names_at i (names_renamed g ns) else names_at i (names_renamed g ns)

all_with : (g : ℕ → ℕ) (P : Name → Type 0) (i : ℕ) (n : Name) (ns : List Name) (b : Bool)
    → (b ≡ true → P (moved g n)) → All P (names_at i (names_renamed g ns))
    → All P (one_names_at g i ns n b)
all_with g P i n ns true first rest =
    all_more P (moved g n) (names_at i (names_renamed g ns)) (first refl) rest
all_with g P i n ns false first rest = rest

none_there : {X : Type 0} (P : X → Type 0) → All P []
none_there P k d lt = absurd (omega (arith, lt))

pub all_names_at : (g : ℕ → ℕ) (P Q : Name → Type 0) (i : ℕ) (ns : List Name)
    → ((n : Name) → Q n → begins_with i n.place ≡ true → P (moved g n)) → All Q ns
    → All P (names_at i (names_renamed g ns))
all_names_at g P Q i [] f all = none_there P
all_names_at g P Q i (n ∷ ns) f all =
    all_with g P i n ns (begins_with i n.place) (λ is. f n (all_first Q n ns all) is)
    (all_names_at g P Q i ns f (all_rest Q n ns all))

all_behind : (g : ℕ → ℕ) (P : Name → Type 0) (i : ℕ) (n : Name) (ns : List Name) (b : Bool)
    → All P (one_names_at g i ns n b) → All P (names_at i (names_renamed g ns))
all_behind g P i n ns true h = all_rest P (moved g n) (names_at i (names_renamed g ns)) h
all_behind g P i n ns false h = h

-- and of the names themselves
pub all_names_back : (g : ℕ → ℕ) (P : Name → Type 0) (i : ℕ) (ns : List Name)
    → All P (names_at i (names_renamed g ns))
    → All (λ (n : Name). begins_with i n.place ≡ true → P (moved g n)) ns
all_names_back g P i [] all =
    none_there (λ (n : Name). begins_with i n.place ≡ true → P (moved g n))
all_names_back g P i (n ∷ ns) all =
    all_more (λ (m : Name). begins_with i m.place ≡ true → P (moved g m)) n ns
    (λ is. all_first P (moved g n) (names_at i (names_renamed g ns))
    (subst (λ (b : Bool). All P (one_names_at g i ns n b)) is all))
    (all_names_back g P i ns (all_behind g P i n ns (begins_with i n.place) all))

-- ---- variables of names

named_case : (g : ℕ → ℕ) (i y : ℕ) (n : Name) (ns : List Name) (b : Bool)
    → (IsNamed (names_at i (names_renamed g ns)) y → (x : ℕ) × IsNamed ns x × (y ≡ g x))
    → IsNamed (one_names_at g i ns n b) y → (x : ℕ) × IsNamed (n ∷ ns) x × (y ≡ g x)
named_case g i y n ns true rest (inl same) = (n.variable, inl refl, sym same)
named_case g i y n ns true rest (inr k) = let w = rest k in (w.0, inr w.1, w.2)
named_case g i y n ns false rest k = let w = rest k in (w.0, inr w.1, w.2)

pub named_before : (g : ℕ → ℕ) (i y : ℕ) (ns : List Name)
    → IsNamed (names_at i (names_renamed g ns)) y → (x : ℕ) × IsNamed ns x × (y ≡ g x)
named_before g i y [] h = absurd h
named_before g i y (n ∷ ns) h =
    named_case g i y n ns (begins_with i n.place) (λ k. named_before g i y ns k) h

-- a name of a part stands among the names of its argument
pub record IsPlaced (g : ℕ → ℕ) (ps : Patterns) (ns : List Name) (x : ℕ) : Type 0 where
  pub number : ℕ
  pub pattern : Pattern
  pub there : pattern_at ps number ≡ Some pattern
  pub named : IsNamed (names_at number (names_renamed g ns)) (g x)

-- a part that is there is in a pattern of the list
pub record IsPart (ps : Patterns) (place : List ℕ) (q : Pattern) : Type 0 where
  pub number : ℕ
  pub way : List ℕ
  pub pattern : Pattern
  pub is : place ≡ number ∷ way
  pub there : pattern_at ps number ≡ Some pattern
  pub at : part_at way pattern ≡ Some q

pub part_there : (ps : Patterns) (place : List ℕ) (q : Pattern) → part_of ps place ≡ Some q
    → IsPart ps place q
part_there ps [] q h = absurd (let no : ⊥ = cc in no)
part_there ps (i ∷ way) q h = go (pattern_at ps i) refl h
  where
    go : (o : Option Pattern) → pattern_at ps i ≡ o → option_and_then (part_at way) o ≡ Some q
        → IsPart ps (i ∷ way) q
    go None is found = absurd (let no : ⊥ = cc in no)
    go (Some p) is found =
        record { number = i; way = way; pattern = p; is = refl; there = is; at = found }

begins_itself : (i : ℕ) (way : List ℕ) → begins_with i (i ∷ way) ≡ true
begins_itself i way = eq-eqb i i refl

one_more_named : (g : ℕ → ℕ) (i y : ℕ) (n : Name) (ns : List Name)
    → IsNamed (names_at i (names_renamed g ns)) y → IsNamed (names_at i (names_renamed g (n ∷ ns))) y
one_more_named g i y n ns h = go (begins_with i n.place)
  where
    go : (b : Bool) → IsNamed (if b then moved g n ∷ names_at i (names_renamed g ns)
        else names_at i (names_renamed g ns)) y
    go true = inr h
    go false = h

pub placed : (g : ℕ → ℕ) (ps : Patterns) (ns : List Name) (x : ℕ)
    → All (λ (n : Name). (q : Pattern) × (part_of ps n.place ≡ Some q)) ns → IsNamed ns x
    → IsPlaced g ps ns x
placed g ps [] x all h = absurd h
placed g ps (n ∷ ns) x all (inl same) =
    let P : Name → Type 0 = λ m. (q : Pattern) × (part_of ps m.place ≡ Some q) in
    let first : (q : Pattern) × (part_of ps n.place ≡ Some q) = all_first P n ns all in
    let part : IsPart ps n.place first.0 = part_there ps n.place first.0 first.1 in
    let begins : begins_with part.number n.place ≡ true =
    ap (begins_with part.number) part.is ∙ begins_itself part.number part.way in
    record {
      number = part.number;
      pattern = part.pattern;
      there = part.there;
      named =
          subst (λ (b : Bool). IsNamed (if b then moved g n ∷ names_at part.number
          (names_renamed g ns) else names_at part.number (names_renamed g ns)) (g x)) (sym begins)
          (inl (ap g same));
    }
placed g ps (n ∷ ns) x all (inr later) =
    let P : Name → Type 0 = λ m. (q : Pattern) × (part_of ps m.place ≡ Some q) in
    let w : IsPlaced g ps ns x = placed g ps ns x (all_rest P n ns all) later in
    record {
      number = w.number;
      pattern = w.pattern;
      there = w.there;
      named = one_more_named g w.number (g x) n ns w.named;
    }

-- ---- the names of an argument are right

abbrev vars_of : List Name → List ℕ
vars_of ns = map (λ (n : Name). n.variable) ns

apart_case : (g : ℕ → ℕ) (v i : ℕ) (n : Name) (ns : List Name) (b : Bool)
    → g v ≢ g n.variable → All (λ y. g v ≢ y) (vars_of (names_at i (names_renamed g ns)))
    → All (λ y. g v ≢ y) (vars_of (one_names_at g i ns n b))
apart_case g v i n ns true here rest =
    all_more (λ y. g v ≢ y) (g n.variable) (vars_of (names_at i (names_renamed g ns))) here rest
apart_case g v i n ns false here rest = rest

apart : (g : ℕ → ℕ) (sorts new : List ℕ) (v i : ℕ) (ns : List Name) → Renumbers g sorts new
    → v < length sorts → All (λ (n : Name). n.variable < length sorts) ns
    → All (λ y. v ≢ y) (vars_of ns)
    → All (λ y. g v ≢ y) (vars_of (names_at i (names_renamed g ns)))
apart g sorts new v i [] r low below all = none_there (λ y. g v ≢ y)
apart g sorts new v i (n ∷ ns) r low below all =
    let B : Name → Type 0 = λ m. m.variable < length sorts in
    apart_case g v i n ns (begins_with i n.place)
    (λ same. all_first (λ y. v ≢ y) n.variable (vars_of ns) all
    (r.one_to_one v n.variable low (all_first B n ns below) same))
    (apart g sorts new v i ns r low (all_rest B n ns below)
    (all_rest (λ y. v ≢ y) n.variable (vars_of ns) all))

different_case : (g : ℕ → ℕ) (i : ℕ) (n : Name) (ns : List Name) (b : Bool)
    → All (λ y. g n.variable ≢ y) (vars_of (names_at i (names_renamed g ns)))
    → AreDifferent (vars_of (names_at i (names_renamed g ns)))
    → AreDifferent (vars_of (one_names_at g i ns n b))
different_case g i n ns true here rest = (here, rest)
different_case g i n ns false here rest = rest

different_at : (g : ℕ → ℕ) (sorts new : List ℕ) (i : ℕ) (ns : List Name) → Renumbers g sorts new
    → All (λ (n : Name). n.variable < length sorts) ns → AreDifferent (vars_of ns)
    → AreDifferent (vars_of (names_at i (names_renamed g ns)))
different_at g sorts new i [] r below h = tt
different_at g sorts new i (n ∷ ns) r below h =
    let B : Name → Type 0 = λ m. m.variable < length sorts in
    different_case g i n ns (begins_with i n.place)
    (apart g sorts new n.variable i ns r (all_first B n ns below) (all_rest B n ns below) h.0)
    (different_at g sorts new i ns r (all_rest B n ns below) h.1)

-- the rest of a place that begins with the number
begun : (i : ℕ) (place : List ℕ) → begins_with i place ≡ true
    → (way : List ℕ) × (place ≡ i ∷ way)
begun i [] h = absurd (false≢true h)
begun i (j ∷ way) h = (way, ap (λ (k : ℕ). k ∷ way) (eqb-true j i h))

pub record IsNameOf (sig : Signature) (sorts : List ℕ) (ps : Patterns) (n : Name) : Type 0 where
  pub low : n.variable < length sorts
  pub elsewhere : OccursInSome n.variable ps → ⊥
  pub part : Pattern
  pub sort : ℕ
  pub there : part_of ps n.place ≡ Some part
  pub sorted : HasSort sig sorts part sort
  pub typed : slice_get sorts n.variable ≡ Some sort

pub each_name : (sig : Signature) (sorts : List ℕ) (ps : Patterns) (ns : List Name)
    → HaveNames sig sorts ps ns → All (IsNameOf sig sorts ps) ns
each_name sig sorts ps ns have k d lt =
    let told = have.sorted k d lt in
    record {
      low = slice_get_within sorts _ told.1 told.4;
      elsewhere = have.elsewhere k d lt;
      part = told.0;
      sort = told.1;
      there = told.2;
      sorted = told.3;
      typed = told.4;
    }

-- the part of argument 0 at the place of the moved name
pub moved_part : (g : ℕ → ℕ) (ps : Patterns) (i : ℕ) (p q : Pattern) (n : Name)
    → pattern_at ps i ≡ Some p → part_of ps n.place ≡ Some q → begins_with i n.place ≡ true
    → part_of (more_patterns (renamed g p) no_pattern) (zero_first n.place) ≡ Some (renamed g q)
moved_part g ps i p q n at there begins =
    let w : (way : List ℕ) × (n.place ≡ i ∷ way) = begun i n.place begins in
    let inside : part_at w.0 p ≡ Some q =
    sym (ap (option_and_then (part_at w.0)) at) ∙ sym (ap (part_of ps) w.1) ∙ there in
    ap (λ (place : List ℕ). part_of (more_patterns (renamed g p) no_pattern) (zero_first place)) w.1
    ∙ part_renamed g w.0 p ∙ ap (option_map (renamed g)) inside

pub names_right : (sig : Signature) (g : ℕ → ℕ) (sorts new : List ℕ) (ps : Patterns)
    (ns : List Name) (i : ℕ) (p : Pattern) → Renumbers g sorts new → HaveNames sig sorts ps ns
    → ((x : ℕ) → OccursInSome x ps → x < length sorts) → pattern_at ps i ≡ Some p
    → HaveNames sig new (more_patterns (renamed g p) no_pattern) (names_at i (names_renamed g ns))
names_right sig g sorts new ps ns i p r have uses at = record {
  different =
      different_at g sorts new i ns r (λ k d lt. (each k d lt).low) have.different;
  elsewhere =
      all_names_at g (λ (m : Name). OccursInSome m.variable (more_patterns (renamed g p) no_pattern)
      → ⊥) (IsNameOf sig sorts ps) i ns elsewhere each;
  sorted =
      all_names_at g (λ (m : Name). (q : Pattern) × (sort : ℕ)
      × (part_of (more_patterns (renamed g p) no_pattern) m.place ≡ Some q)
      × HasSort sig new q sort × (slice_get new m.variable ≡ Some sort))
      (IsNameOf sig sorts ps) i ns sorted each;
} where
  each : All (IsNameOf sig sorts ps) ns
  each = each_name sig sorts ps ns have

  elsewhere : (n : Name) → IsNameOf sig sorts ps n → begins_with i n.place ≡ true
      → OccursInSome (moved g n).variable (more_patterns (renamed g p) no_pattern) → ⊥
  elsewhere n is begins (inl h) =
      let w : (x : ℕ) × OccursIn x p × (g n.variable ≡ g x) = occurs_before g (g n.variable) p h in
      let occurs : OccursInSome w.0 ps = occurs_at ps i w.0 p at w.1 in
      let same : n.variable ≡ w.0 = r.one_to_one n.variable w.0 is.low (uses w.0 occurs) w.2 in
      is.elsewhere (subst (λ (y : ℕ). OccursInSome y ps) (sym same) occurs)
  elsewhere n is begins (inr h) = h

  sorted : (n : Name) → IsNameOf sig sorts ps n → begins_with i n.place ≡ true
      → (q : Pattern) × (sort : ℕ)
      × (part_of (more_patterns (renamed g p) no_pattern) (moved g n).place ≡ Some q)
      × HasSort sig new q sort × (slice_get new (moved g n).variable ≡ Some sort)
  sorted n is begins = (
    renamed g is.part,
    is.sort,
    moved_part g ps i p is.part n at is.there begins,
    sorted_renamed sig g sorts new is.part is.sort r is.sorted,
    r.sorted n.variable is.sort is.typed,
  )

-- ---- the names as those of the child

one_of_child : (i v : ℕ) (place : List ℕ) (b : Bool) (rest others : List Name)
    → of_child 0 rest ≡ others
    → of_child 0 (if begins_with i place
    then record { variable = v; place = zero_first place; first = b } ∷ rest else rest)
    ≡ at_way (way_in i place) (record { variable = v; place = place; first = b }) others
one_of_child i v [] b rest others same = same
one_of_child i v (j ∷ way) b rest others same = go (j == i)
  where
    go : (c : Bool) → of_child 0 (if c
        then record { variable = v; place = 0 ∷ way; first = b } ∷ rest else rest)
        ≡ at_way (if c then Some way else None)
        (record { variable = v; place = j ∷ way; first = b }) others
    go true =
        ap (λ (ns : List Name). record { variable = v; place = way; first = b } ∷ ns) same
    go false = same

pub names_of_child : (i : ℕ) (ns : List Name) → of_child 0 (names_at i ns) ≡ of_child i ns
names_of_child i [] = refl
names_of_child i (n ∷ ns) =
    one_of_child i n.variable n.place n.first (names_at i ns) (of_child i ns) (names_of_child i ns)
