-- The names of parts in the left side of an accepted rule or equation are different variables, which
-- stand nowhere else, and each has the sort of its part.
use Rattle.std.proofs.Common.{◌≡◌, ◌≤◌, ℕ, suc, ◌+◌, Bool, true, false, List, [], ◌∷◌, ◌++◌, Option}
use Rattle.std.proofs.Common.{Some, None, inl, inr, refl, ap, sym, ◌∙◌, subst, arith, slice_get}
use Rattle.std.specs.Prelude.{All, drop}
use Rattle.std.specs.Option.{option_and_then}
use Rattle.std.proofs.lemmas.List.Elements.{All-nil, All-cons, All-head, All-tail, All-append}
use Rattle.std.proofs.lemmas.List.Elements.{All-weaker}
use Rattle.kore_text.specs.Trees.{SortTree, PatternTree, AxiomDeclaration}
use Rattle.term_core.specs.Patterns.{Pattern, Patterns, variable, application, injection}
use Rattle.term_core.specs.Patterns.{no_pattern, more_patterns}
use Rattle.rule_core.specs.Matching.{OccursInSome}
use Rattle.rule_core.specs.NamedParts.{Name, pattern_at, parts, part_at, part_of}
use Rattle.rule_core.specs.Sorting.{HasSort}
use Rattle.rule_core.specs.WellSorted.{IsSignature, HasNoCall, HaveNoCall, HaveNames}
use Rattle.rule_core.specs.declared.signature.Signature.{Signature}
use Rattle.rule_core.specs.declared.signature.SymKind.{SymKind}
use Rattle.rule_core.specs.declared.signature.SymKind.TheVariants.{Injection, Ctor, Equations}
use Rattle.rule_core.specs.declared.signature.SymKind.TheVariants.{Hooked, Closed, NoKind}
use Rattle.rule_core.specs.declared.signature.SortRef.{SortRef}
use Rattle.kore_sig.specs.SortReferences.{sort_number}
use Rattle.kore_check.specs.Folds.{Unfolded, Unfoldeds, no_more, and_more, both_of, unfolded_byte}
use Rattle.kore_check.specs.PartNames.{names_in, names_in_all, name_at, number_of_variable}
use Rattle.kore_check.specs.PatternFaults.{pattern_faults, argument_faults, sort_faults}
use Rattle.kore_check.specs.PatternFaults.{clash_faults}
use Rattle.kore_check.specs.PatternMeanings.{Means, by_variable, by_value, by_symbol, by_name}
use Rattle.kore_check.specs.PatternMeanings.{AllMean, none_mean, more_mean, named_part}
use Rattle.kore_check.specs.PatternMeanings.{applied_pattern, injected_only}
use Rattle.kore_check.specs.PatternSorts.{sort_of_pattern, symbol_named, places_of}
use Rattle.kore_check.specs.SortedMeanings.{variable_sorts}
use Rattle.kore_check.proofs.BuildLaws.{variable_known}
use Rattle.kore_check.proofs.CheckLaws.{some_or_none}
use Rattle.kore_check.proofs.NamedMeanings.{IsPartOf, part_cases}
use Rattle.kore_axioms.proofs.ApplicativeLaws.{AreSides}
use Rattle.kore_axioms.proofs.BoundLaws.{no_faults}
use Rattle.kore_equations.specs.ReadableSides.{all_read}
use Rattle.kore_rules.proofs.KeptSorts.{IsKept, sort_kept}
use Rattle.kore_rules.proofs.MeaningSorts.{sorted_at, no_number}
use Rattle.kore_rules.proofs.NameCounts.{some_same, patterns_times, name_times, variable_is}
use Rattle.kore_rules.proofs.NameCounts.{all_split, listed_times, IsWritten, all_names_written}
use Rattle.kore_rules.proofs.NameCounts.{counted, different, all_occurs_counted}

-- ---- places and sorts

then_same : {X : Type 0} (o : Option X) → option_and_then (λ (x : X). Some x) o ≡ o
then_same None = refl
then_same (Some x) = refl

then_further : (way : List ℕ) (p : Pattern) (j : ℕ) (o : Option Pattern)
    → ((q : Pattern) → part_at way q ≡ Some p
    → part_at (way ++ j ∷ []) q ≡ pattern_at (parts p) j)
    → option_and_then (part_at way) o ≡ Some p
    → option_and_then (part_at (way ++ j ∷ [])) o ≡ pattern_at (parts p) j
then_further way p j None inner h = absurd (let never : ⊥ = cc in never)
then_further way p j (Some q) inner h = inner q h

further : (way : List ℕ) (q p : Pattern) (j : ℕ) → part_at way q ≡ Some p
    → part_at (way ++ j ∷ []) q ≡ pattern_at (parts p) j
further [] q p j h =
    then_same (pattern_at (parts q) j)
    ∙ ap (λ (r : Pattern). pattern_at (parts r) j) (some_same q p h)
further (k ∷ way) q p j h =
    then_further way p j (pattern_at (parts q) k) (λ r e. further way r p j e) h

from_zero : (m j : ℕ) → m ≡ 0 + j → m ≡ j
from_zero m j e = omega (arith, e)

-- the children of the part at a place
one_further : (ps : Patterns) (place : List ℕ) (p : Pattern) (j : ℕ) → part_of ps place ≡ Some p
    → part_of ps (place ++ j ∷ []) ≡ pattern_at (parts p) j
one_further ps [] p j h = absurd (let never : ⊥ = cc in never)
one_further ps (i ∷ way) p j h =
    then_further way p j (pattern_at ps i) (λ q e. further way q p j e) h

-- the arguments of an application without calls
record AreParts (p : Pattern) (ps : Patterns) : Type 0 where
  pub parts : parts p ≡ ps
  pub no_call : HaveNoCall ps

injected_parts : (ns : List ℕ) (ps : Patterns) (p : Pattern) → HasNoCall p
    → injected_only ns ps ≡ Some p → AreParts p ps
injected_parts [] ps p none made = absurd (let never : ⊥ = cc in never)
injected_parts (a ∷ []) ps p none made = absurd (let never : ⊥ = cc in never)
injected_parts (a ∷ (b ∷ (d ∷ ns))) ps p none made = absurd (let never : ⊥ = cc in never)
injected_parts (a ∷ (b ∷ [])) no_pattern p none made = absurd (let never : ⊥ = cc in never)
injected_parts (a ∷ (b ∷ [])) (more_patterns q (more_patterns r ps)) p none made =
    absurd (let never : ⊥ = cc in never)
injected_parts (a ∷ (b ∷ [])) (more_patterns q no_pattern) p none made =
    let same : injection a b q ≡ p = some_same _ p made in record {
      parts = sym (ap parts same);
      no_call = (subst HasNoCall (sym same) none, tt);
    }

applied_parts : (k : SymKind) (f : ℕ) (ns : List ℕ) (ps : Patterns) (p : Pattern) → HasNoCall p
    → applied_pattern k f ns ps ≡ Some p → AreParts p ps
applied_parts Injection f ns ps p none made = injected_parts ns ps p none made
applied_parts Ctor f ns ps p none made =
    let same : application f ps ≡ p = some_same _ p made in record {
      parts = sym (ap parts same);
      no_call = subst HasNoCall (sym same) none;
    }
applied_parts Equations f ns ps p none made =
    absurd (subst HasNoCall (sym (some_same _ p made)) none)
applied_parts (Hooked row) f ns ps p none made =
    absurd (subst HasNoCall (sym (some_same _ p made)) none)
applied_parts Closed f ns ps p none made = absurd (subst HasNoCall (sym (some_same _ p made)) none)
applied_parts NoKind f ns ps p none made = absurd (let never : ⊥ = cc in never)

-- the patterns of the text have no fault
abbrev pub AreClear : Signature → Unfoldeds → Type 0
AreClear sig no_more = Unit {0}
AreClear sig (and_more u us) = (pattern_faults sig u ≡ []) × AreClear sig us

pub arguments_clear : (sig : Signature) (ss : List SortTree) (us : Unfoldeds)
    (refs : List SortRef) → argument_faults sig ss refs us ≡ [] → AreClear sig us
arguments_clear sig ss no_more refs e = tt
arguments_clear sig ss (and_more u us) refs e =
    let here = no_faults (pattern_faults sig u) _ e in
    (here.0, arguments_clear sig ss us (drop 1 refs) (no_faults _ _ here.1).1)

-- the sort of an `\and` and its patterns have no fault, and they have its sort
record IsClear (sig : Signature) (tree : SortTree) (u w : Unfolded) : Type 0 where
  pub sort : sort_faults sig tree ≡ []
  pub first : pattern_faults sig u ≡ []
  pub first_sort : clash_faults (unfolded_byte u) (sort_of_pattern sig u)
      (sort_number sig.sorts tree)
      ≡ []
  pub second : pattern_faults sig w ≡ []
  pub second_sort : clash_faults (unfolded_byte w) (sort_of_pattern sig w)
      (sort_number sig.sorts tree)
      ≡ []

both_clear : (sig : Signature) (at : ℕ) (tree : SortTree) (u w : Unfolded)
    → pattern_faults sig (both_of at tree u w) ≡ [] → IsClear sig tree u w
both_clear sig at tree u w clear =
    let sort = no_faults (sort_faults sig tree) _ clear in
    let first = no_faults (pattern_faults sig u) _ sort.1 in
    let first_sort = no_faults (clash_faults (unfolded_byte u) (sort_of_pattern sig u)
    (sort_number sig.sorts tree)) _ first.1 in
    let second = no_faults (pattern_faults sig w) _ first_sort.1 in record {
      sort = sort.0;
      first = first.0;
      first_sort = first_sort.0;
      second = second.0;
      second_sort = second.1;
    }

abbrev IsPlaced : Signature → List ℕ → Patterns → Name → Type 0
IsPlaced sig variables ps n =
    (p : Pattern) × (sort : ℕ) × (part_of ps n.place ≡ Some p) × HasSort sig variables p sort
    × (slice_get variables n.variable ≡ Some sort)

module _ (sig : Signature) (good : IsSignature sig) (vars : List (List ℕ × ℕ)) (whole : Patterns)
  where
    abbrev Placed : Name → Type 0
    Placed = IsPlaced sig (variable_sorts vars) whole

    -- the name of a part, by the sort of its `\and`
    one_placed : (place : List ℕ) (first : Bool) (x s : ℕ) (r : Pattern)
        → part_of whole place ≡ Some r → HasSort sig (variable_sorts vars) r s
        → slice_get (variable_sorts vars) x ≡ Some s
        → All Placed (record { variable = x; place = place; first = first } ∷ [])
    one_placed place first x s r there sorted var =
        All-cons Placed (record { variable = x; place = place; first = first }) []
        (r, s, there, sorted, var) (All-nil Placed)

    none_placed : (ns : List Name) → ns ≡ [] → All Placed ns
    none_placed ns e = subst (All Placed) (sym e) (All-nil Placed)

    -- the names of an `\and`, if those of the part that is named are placed
    both_placed : (place : List ℕ) (tree : SortTree) {u w : Unfolded} {p q r : Pattern}
        → IsClear sig tree u w → Means sig vars u p → Means sig vars w q → named_part p q ≡ Some r
        → HasNoCall r → part_of whole place ≡ Some r
        → (HasNoCall p → part_of whole place ≡ Some p → All Placed (names_in sig vars place u))
        → (HasNoCall q → part_of whole place ≡ Some q → All Placed (names_in sig vars place w))
        → All Placed (names_in sig vars place u
        ++ (names_in sig vars place w
        ++ name_at place (number_of_variable sig vars u) (number_of_variable sig vars w)))
    both_placed place tree {u} {w} {p} {q} {r} clear first second part none there in_first
        in_second =
        by_case (part_cases p q r part)
      where
        known : (s : ℕ) × (sort_number sig.sorts tree ≡ Some s)
        known =
            some_or_none (sort_number sig.sorts tree)
            (λ none. variable_known sig 0 [] tree (clear.sort, tt) none)

        one : HasSort sig (variable_sorts vars) p known.0
        one =
            sorted_at sig vars (sort_number sig.sorts tree) known.0 good clear.first clear.first_sort
            known.1 first

        two : HasSort sig (variable_sorts vars) q known.0
        two =
            sorted_at sig vars (sort_number sig.sorts tree) known.0 good clear.second
            clear.second_sort known.1 second

        by_case : IsPartOf p q r
            → All Placed (names_in sig vars place u
            ++ (names_in sig vars place w
            ++ name_at place (number_of_variable sig vars u) (number_of_variable sig vars w)))
        by_case (inl it) =
            let v = variable_is sig vars first it.0 in
            let at_part : part_of whole place ≡ Some q =
            there ∙ ap (λ (x : Pattern). Some x) (sym it.2) in
            All-append Placed (names_in sig vars place u) _
            (none_placed (names_in sig vars place u) (v.none place))
            (All-append Placed (names_in sig vars place w) _
            (in_second (subst HasNoCall (sym it.2) none) at_part)
            (subst (λ (o : Option ℕ). All Placed (name_at place o (number_of_variable sig vars w)))
            (sym v.known)
            (one_placed place true v.number known.0 q at_part two
            (subst (λ (x : Pattern). HasSort sig (variable_sorts vars) x known.0) v.is one))))
        by_case (inr it) =
            let v = variable_is sig vars second it.1 in
            let at_part : part_of whole place ≡ Some p =
            there ∙ ap (λ (x : Pattern). Some x) (sym it.2) in
            All-append Placed (names_in sig vars place u) _
            (in_first (subst HasNoCall (sym it.2) none) at_part)
            (All-append Placed (names_in sig vars place w) _
            (none_placed (names_in sig vars place w) (v.none place))
            (subst (λ (o : Option ℕ). All Placed (name_at place o (number_of_variable sig vars w)))
            (sym (no_number sig vars first it.0))
            (subst (λ (o : Option ℕ). All Placed (name_at place None o)) (sym v.known)
            (one_placed place false v.number known.0 p at_part one
            (subst (λ (x : Pattern). HasSort sig (variable_sorts vars) x known.0) v.is two)))))

    mutual
      placed : (place : List ℕ) {u : Unfolded} {p : Pattern} → pattern_faults sig u ≡ []
          → HasNoCall p → Means sig vars u p → part_of whole place ≡ Some p
          → All Placed (names_in sig vars place u)
      placed place clear none (by_variable a b) there = All-nil Placed
      placed place clear none (by_value a b) there = All-nil Placed
      placed place clear none (by_symbol {byte = byte} {f = f} {name = name} {ss = ss} {us = us}
          {ns = ns} {ps = ps} {p = p} {info = info} named numbers all made) there =
          let args = applied_parts info.kind f ns ps p none made in
          let faultless : argument_faults sig ss (places_of (symbol_named sig name)) us ≡ [] =
          (no_faults _ _ (no_faults _ _ clear).1).1 in
          all_placed place 0 (arguments_clear sig ss us (places_of (symbol_named sig name)) faultless)
          args.no_call all
          (λ j m e. one_further whole place p m there
          ∙ ap (λ (qs : Patterns). pattern_at qs m) args.parts
          ∙ ap (pattern_at ps) (from_zero m j e))
      placed place clear none (by_name {at = at} {tree = tree} {u = u} {w = w} first second part)
          there =
          let both = both_clear sig at tree u w clear in
          both_placed place tree both first second part none there
          (λ none there. placed place both.first none first there)
          (λ none there. placed place both.second none second there)

      all_placed : (place : List ℕ) (i : ℕ) {us : Unfoldeds} {ps : Patterns} → AreClear sig us
          → HaveNoCall ps → AllMean sig vars us ps
          → ((j m : ℕ) → m ≡ i + j → part_of whole (place ++ m ∷ []) ≡ pattern_at ps j)
          → All Placed (names_in_all sig vars place i us)
      all_placed place i clear none none_mean there = All-nil Placed
      all_placed place i clear none (more_mean {u = u} {us = us} first rest) there =
          All-append Placed (names_in sig vars (place ++ i ∷ []) u) _
          (placed (place ++ i ∷ []) clear.0 none.0 first (there 0 i (omega arith)))
          (all_placed place (i + 1) clear.1 none.1 rest
          (λ j m e. there (suc j) m (omega (arith, e))))

-- ---- all names

both_all : {X : Type 0} (P Q R : X → Type 0) → ((x : X) → P x → Q x → R x) → (xs : List X)
    → All P xs → All Q xs → All R xs
both_all P Q R f [] p q = All-nil R
both_all P Q R f (x ∷ xs) p q =
    All-cons R x xs (f x (All-head P x xs p) (All-head Q x xs q))
    (both_all P Q R f xs (All-tail P x xs p) (All-tail Q x xs q))

pub have_names : (sig : Signature) (vars : List (List ℕ × ℕ)) (whole : List PatternTree)
    (ps : Patterns) → IsSignature sig → AreSides whole (all_read whole)
    → AreClear sig (all_read whole) → HaveNoCall ps → AllMean sig vars (all_read whole) ps
    → HaveNames sig (variable_sorts vars) ps (names_in_all sig vars [] 0 (all_read whole))
have_names sig vars whole ps good sides clear none all =
    let names : List Name = names_in_all sig vars [] 0 (all_read whole) in
    let each : All (λ (n : Name). (patterns_times n.variable ps ≤ 0)
    × (name_times n.variable names ≤ 1)) names =
    both_all (IsWritten sig vars whole) (λ (n : Name). 1 ≤ name_times n.variable names)
    (λ (n : Name). (patterns_times n.variable ps ≤ 0) × (name_times n.variable names ≤ 1))
    (λ n w many.
    let most =
    listed_times sig vars w.name w.tree w.sort n.variable w.number w.var whole in
    let whole_times = all_split sig vars [] 0 n.variable all in
    let once = w.once in (
      omega (arith, most, whole_times, once, many),
      omega (arith, most, whole_times, once, many),
    )) names (all_names_written sig vars whole [] 0 (all_read whole) sides) (counted names) in
    record {
      different =
          different names (All-weaker (λ (n : Name). (patterns_times n.variable ps ≤ 0)
          × (name_times n.variable names ≤ 1)) (λ (n : Name). name_times n.variable names ≤ 1)
          (λ n h. h.1) names each);
      elsewhere =
          All-weaker (λ (n : Name). (patterns_times n.variable ps ≤ 0)
          × (name_times n.variable names ≤ 1))
          (λ (n : Name). OccursInSome n.variable ps → ⊥)
          (λ n h occurs. let one = all_occurs_counted n.variable ps occurs in
          omega (arith, h.0, one)) names each;
      sorted =
          all_placed sig good vars ps [] 0 clear none all
          (λ j m e. then_same (pattern_at ps m) ∙ ap (pattern_at ps) (omega (arith, e)));
    }

-- names of one signature are names of another one with the same sorts
pub names_kept : (declared final : Signature) (axioms : List AxiomDeclaration) (V : List ℕ)
    (ps : Patterns) (ns : List Name) → IsKept declared final axioms
    → HaveNames declared V ps ns → HaveNames final V ps ns
names_kept declared final axioms V ps ns kept h = record {
  different = h.different;
  elsewhere = h.elsewhere;
  sorted =
      All-weaker (IsPlaced declared V ps) (IsPlaced final V ps)
      (λ n placed. (
        placed.0,
        placed.1,
        placed.2,
        sort_kept declared final axioms V placed.0 placed.1 kept placed.3,
        placed.4,
      )) ns h.sorted;
}
