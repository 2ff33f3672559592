-- What follows for the meaning of a pattern without faults.
use Rattle.std.proofs.Common.{◌≡◌, ◌<◌, ℕ, ◌+◌, Bool, true, false, ◌&&◌, ◌||◌, List, [], ◌∷◌, ◌++◌}
use Rattle.std.proofs.Common.{length, Option, Some, None, ◌⊎◌, ⊎_elim, inl, inr, refl, ap, sym, ◌∙◌}
use Rattle.std.proofs.Common.{subst, arith}
use Rattle.std.specs.Prelude.{All, not, ◌==◌, is_some, if◌then◌else◌}
use Rattle.std.specs.Option.{option_and_then}
use Rattle.std.proofs.lemmas.Bool.{false≢true, eqb-true, eq-eqb}
use Rattle.std.proofs.lemmas.Slice.Eq.{bytes_eq-Decides}
use Rattle.std.proofs.lemmas.List.{map-append, length-append}
use Rattle.std.proofs.lemmas.List.Elements.{All-push}
use Rattle.kore_text.specs.Trees.{SortTree}
use Rattle.term_core.specs.Patterns.{Pattern, Patterns, no_pattern, more_patterns}
use Rattle.rule_core.proofs.Belows.{both_true}
use Rattle.rule_core.specs.Matching.{OccursIn, OccursInSome}
use Rattle.rule_core.specs.Sorting.{HasSort}
use Rattle.rule_core.specs.WellSorted.{HasNoCall, HaveNoCall, IsSignature, UsesOnly}
use Rattle.rule_core.specs.declared.signature.Signature.{Signature}
use Rattle.rule_core.specs.declared.signature.SymInfo.{SymInfo}
use Rattle.rule_core.specs.declared.signature.SymKind.{SymKind}
use Rattle.rule_core.specs.declared.signature.SymKind.TheVariants.{Injection, Ctor, Equations}
use Rattle.rule_core.specs.declared.signature.SymKind.TheVariants.{Hooked, Closed, NoKind}
use Rattle.kore_sig.specs.SortReferences.{sort_number}
use Rattle.kore_check.specs.Folds.{Unfolded, Unfoldeds, no_more, and_more, named_variable}
use Rattle.kore_check.specs.Folds.{written_value, applied_symbol, both_of, other_form}
use Rattle.kore_check.specs.Folds.{unfolded_byte}
use Rattle.kore_check.specs.Applicative.{IsApplicative, AreApplicative}
use Rattle.kore_check.specs.PatternFaults.{pattern_faults, clash_faults}
use Rattle.kore_check.specs.PatternMeanings.{Means, by_variable, by_value, by_symbol, by_name}
use Rattle.kore_check.specs.PatternMeanings.{AllMean, is_variable_pattern, named_part}
use Rattle.kore_check.specs.PatternMeanings.{none_mean, more_mean, applied_pattern, injected_only}
use Rattle.kore_check.specs.PatternMeanings.{variable_number, with_variable, with_variables}
use Rattle.kore_check.specs.PatternMeanings.{with_all_variables, IsNamed as IsSymbolNamed}
use Rattle.kore_check.specs.PartNames.{names_in, names_in_all, name_at, number_of_variable}
use Rattle.kore_check.proofs.NamedMeanings.{IsPartOf, part_cases, part_apart, variable_meaning}
use Rattle.rule_core.specs.NamedParts.{Name, IsNamed}
use Rattle.kore_check.specs.PatternSorts.{symbol_info, symbol_named, sort_of_pattern}
use Rattle.kore_check.specs.SortedMeanings.{variable_sorts}
use Rattle.kore_check.specs.Building.{Extends}
use Rattle.kore_check.proofs.BuildLaws.{unless_empty, number-added, number-kept, extends-refl}
use Rattle.kore_check.proofs.BuildLaws.{extends-trans}
use Rattle.kore_check.proofs.CheckLaws.{faultless_sorted, some_or_none}
use Rattle.kore_check.proofs.SortedLaws.{meanings_are_sorted}
use Rattle.kore_check.proofs.SortLaws.{sort_number-within}
use Rattle.kore_axioms.proofs.ApplicativeLaws.{neither}
use Rattle.kore_axioms.proofs.BoundLaws.{no_faults, same_number}
use Rattle.kore_axioms.specs.RuleFaults.{faults_at_sort}
use Rattle.kore_equations.proofs.MeaningLaws.{all_variables_extend}
use Rattle.kore_axioms.specs.Uses.{has_symbol, have_symbol, is_plain_function}
use Rattle.kore_axioms.specs.Uses.{is_plain_function_with, is_ac_symbol, is_ac_with}
use Rattle.kore_axioms.specs.Uses.{occurs_in_pattern, occurs_in_some, is_bound_by, are_bound_by}
use Rattle.rule_core.specs.KindTests.{is_function_kind}

some_same : {X : Type 0} (x y : X) → Some x ≡ Some y → x ≡ y
some_same x y e = cc

-- ---- the form

mutual
  pub means_form : (sig : Signature) (vars : List (List ℕ × ℕ)) {u : Unfolded} {p : Pattern}
      → Means sig vars u p → IsApplicative u
  means_form sig vars (by_variable a b) = tt
  means_form sig vars (by_value a b) = tt
  means_form sig vars (by_symbol a b all d) = all_form sig vars all
  means_form sig vars (by_name {p = p} {q = q} {r = r} first second part) = (
    λ same. part_apart p q r part (variable_meaning sig vars first ∙ same
        ∙ sym (variable_meaning sig vars second)),
    means_form sig vars first,
    means_form sig vars second,
  )

  all_form : (sig : Signature) (vars : List (List ℕ × ℕ)) {us : Unfoldeds} {ps : Patterns}
      → AllMean sig vars us ps → AreApplicative us
  all_form sig vars none_mean = tt
  all_form sig vars (more_mean first rest) = (means_form sig vars first, all_form sig vars rest)

-- ---- the sort

no_clash : (byte own wanted : ℕ) → clash_faults byte (Some own) (Some wanted) ≡ [] → own ≡ wanted
no_clash byte own wanted e = eqb-true own wanted (unless_empty (own == wanted) 9 byte e)

-- a pattern without faults that has a sort means a pattern of this sort
pub sorted_at : (sig : Signature) (vars : List (List ℕ × ℕ)) (wanted : Option ℕ) (s : ℕ)
    {u : Unfolded} {p : Pattern} → IsSignature sig → pattern_faults sig u ≡ []
    → clash_faults (unfolded_byte u) (sort_of_pattern sig u) wanted ≡ [] → wanted ≡ Some s
    → Means sig vars u p → HasSort sig (variable_sorts vars) p s
sorted_at sig vars wanted s {u} {p} good clear clash is means =
    let own : (w : ℕ) × (sort_of_pattern sig u ≡ Some w) =
    some_or_none (sort_of_pattern sig u)
    (faultless_sorted sig u good (means_form sig vars means) clear) in
    let equal : own.0 ≡ s =
    no_clash (unfolded_byte u) own.0 s (ap (λ o. clash_faults (unfolded_byte u) o (Some s))
    (sym own.1) ∙ ap (λ o. clash_faults (unfolded_byte u) (sort_of_pattern sig u) o) (sym is)
    ∙ clash) in
    meanings_are_sorted sig vars u p s good clear means (own.1 ∙ ap (λ (m : ℕ). Some m) equal)

pub sorted_side : (sig : Signature) (vars : List (List ℕ × ℕ)) (wanted : Option ℕ) (s : ℕ)
    {u : Unfolded} {p : Pattern} → IsSignature sig → faults_at_sort sig wanted u ≡ []
    → wanted ≡ Some s → Means sig vars u p → HasSort sig (variable_sorts vars) p s
sorted_side sig vars wanted s good clear is means =
    let parts = no_faults _ _ clear in
    sorted_at sig vars wanted s good (no_faults _ _ parts.0).1 parts.1 is means

-- ---- functions

named_there : (sig : Signature) (name : List ℕ) (f : ℕ) (info : SymInfo) → IsSymbolNamed sig name f info
    → symbol_named sig name ≡ Some info
named_there sig name f info named = ap (option_and_then (symbol_info sig)) named.0 ∙ named.1

not_function : (k : Bool) (ac : Bool) → (k && not ac) ≡ false → ac ≡ false → k ≡ false
not_function false ac h e = refl
not_function true true h e = e
not_function true false h e = h

injected_no_call : (ns : List ℕ) (ps : Patterns) (p : Pattern) → HaveNoCall ps
    → injected_only ns ps ≡ Some p → HasNoCall p
injected_no_call [] ps p none made = absurd (let never : ⊥ = cc in never)
injected_no_call (a ∷ []) ps p none made = absurd (let never : ⊥ = cc in never)
injected_no_call (a ∷ (b ∷ (d ∷ ns))) ps p none made = absurd (let never : ⊥ = cc in never)
injected_no_call (a ∷ (b ∷ [])) no_pattern p none made = absurd (let never : ⊥ = cc in never)
injected_no_call (a ∷ (b ∷ [])) (more_patterns q (more_patterns r ps)) p none made =
    absurd (let never : ⊥ = cc in never)
injected_no_call (a ∷ (b ∷ [])) (more_patterns q no_pattern) p none made =
    subst HasNoCall (some_same _ _ made) none.0

applied_no_call : (k : SymKind) (f : ℕ) (ns : List ℕ) (ps : Patterns) (p : Pattern)
    → is_function_kind k ≡ false → HaveNoCall ps → applied_pattern k f ns ps ≡ Some p → HasNoCall p
applied_no_call Injection f ns ps p plain none made = injected_no_call ns ps p none made
applied_no_call Ctor f ns ps p plain none made = subst HasNoCall (some_same _ _ made) none
applied_no_call Equations f ns ps p plain none made = absurd (false≢true (sym plain))
applied_no_call (Hooked row) f ns ps p plain none made = absurd (false≢true (sym plain))
applied_no_call Closed f ns ps p plain none made = absurd (false≢true (sym plain))
applied_no_call NoKind f ns ps p plain none made = absurd (let never : ⊥ = cc in never)

-- what holds of both patterns of an `\and` holds of its part
part_holds : (P : Pattern → Type 0) (p q r : Pattern) → named_part p q ≡ Some r → P p → P q → P r
part_holds P p q r part of_first of_second = by_case (part_cases p q r part) where
  by_case : IsPartOf p q r → P r
  by_case (inl second) = subst P second.2 of_second
  by_case (inr first) = subst P first.2 of_first

-- a pattern without functions means a pattern without calls
mutual
  pub no_call : (sig : Signature) (vars : List (List ℕ × ℕ)) {u : Unfolded} {p : Pattern}
      → has_symbol (is_plain_function sig) u ≡ false → has_symbol (is_ac_symbol sig) u ≡ false
      → Means sig vars u p → HasNoCall p
  no_call sig vars plain ac (by_variable a b) = tt
  no_call sig vars plain ac (by_value a b) = tt
  no_call sig vars plain ac (by_symbol {f = f} {name = name} {ns = ns} {ps = ps} {p = p}
      {info = info} named numbers all made) =
      let plains = neither _ _ plain in
      let acs = neither _ _ ac in
      let there : symbol_named sig name ≡ Some info = named_there sig name f info named in
      let kind : is_function_kind info.kind ≡ false =
      not_function _ info.ac (sym (ap is_plain_function_with there) ∙ plains.0)
      (sym (ap is_ac_with there) ∙ acs.0) in
      applied_no_call info.kind f ns ps p kind (all_no_call sig vars plains.1 acs.1 all) made
  no_call sig vars plain ac (by_name {p = p} {q = q} {r = r} first second part) =
      let plains = neither _ _ plain in
      let acs = neither _ _ ac in
      part_holds HasNoCall p q r part (no_call sig vars plains.0 acs.0 first)
      (no_call sig vars plains.1 acs.1 second)

  pub all_no_call : (sig : Signature) (vars : List (List ℕ × ℕ)) {us : Unfoldeds} {ps : Patterns}
      → have_symbol (is_plain_function sig) us ≡ false → have_symbol (is_ac_symbol sig) us ≡ false
      → AllMean sig vars us ps → HaveNoCall ps
  all_no_call sig vars plain ac none_mean = tt
  all_no_call sig vars plain ac (more_mean first rest) =
      let plains = neither _ _ plain in
      let acs = neither _ _ ac in
      (no_call sig vars plains.0 acs.0 first, all_no_call sig vars plains.1 acs.1 rest)

-- ---- variables

injected_back : (ns : List ℕ) (ps : Patterns) (p : Pattern) (x : ℕ) → injected_only ns ps ≡ Some p
    → OccursIn x p → OccursInSome x ps
injected_back [] ps p x made occurs = absurd (let never : ⊥ = cc in never)
injected_back (a ∷ []) ps p x made occurs = absurd (let never : ⊥ = cc in never)
injected_back (a ∷ (b ∷ (d ∷ ns))) ps p x made occurs = absurd (let never : ⊥ = cc in never)
injected_back (a ∷ (b ∷ [])) no_pattern p x made occurs = absurd (let never : ⊥ = cc in never)
injected_back (a ∷ (b ∷ [])) (more_patterns q (more_patterns r ps)) p x made occurs =
    absurd (let never : ⊥ = cc in never)
injected_back (a ∷ (b ∷ [])) (more_patterns q no_pattern) p x made occurs =
    inl (subst (OccursIn x) (sym (some_same _ _ made)) occurs)

applied_back : (k : SymKind) (f : ℕ) (ns : List ℕ) (ps : Patterns) (p : Pattern) (x : ℕ)
    → applied_pattern k f ns ps ≡ Some p → OccursIn x p → OccursInSome x ps
applied_back Injection f ns ps p x made occurs = injected_back ns ps p x made occurs
applied_back Ctor f ns ps p x made occurs = subst (OccursIn x) (sym (some_same _ _ made)) occurs
applied_back Equations f ns ps p x made occurs =
    subst (OccursIn x) (sym (some_same _ _ made)) occurs
applied_back (Hooked row) f ns ps p x made occurs =
    subst (OccursIn x) (sym (some_same _ _ made)) occurs
applied_back Closed f ns ps p x made occurs = subst (OccursIn x) (sym (some_same _ _ made)) occurs
applied_back NoKind f ns ps p x made occurs = absurd (let never : ⊥ = cc in never)

only_one : (x : ℕ) (q : Pattern) → OccursInSome x (more_patterns q no_pattern) → OccursIn x q
only_one x q h = ⊎_elim (λ here. here) (λ none. absurd none) h

injected_forth : (ns : List ℕ) (ps : Patterns) (p : Pattern) (x : ℕ) → injected_only ns ps ≡ Some p
    → OccursInSome x ps → OccursIn x p
injected_forth [] ps p x made occurs = absurd (let never : ⊥ = cc in never)
injected_forth (a ∷ []) ps p x made occurs = absurd (let never : ⊥ = cc in never)
injected_forth (a ∷ (b ∷ (d ∷ ns))) ps p x made occurs = absurd (let never : ⊥ = cc in never)
injected_forth (a ∷ (b ∷ [])) no_pattern p x made occurs = absurd (let never : ⊥ = cc in never)
injected_forth (a ∷ (b ∷ [])) (more_patterns q (more_patterns r ps)) p x made occurs =
    absurd (let never : ⊥ = cc in never)
injected_forth (a ∷ (b ∷ [])) (more_patterns q no_pattern) p x made occurs =
    subst (OccursIn x) (some_same _ _ made) (only_one x q occurs)

applied_forth : (k : SymKind) (f : ℕ) (ns : List ℕ) (ps : Patterns) (p : Pattern) (x : ℕ)
    → applied_pattern k f ns ps ≡ Some p → OccursInSome x ps → OccursIn x p
applied_forth Injection f ns ps p x made occurs = injected_forth ns ps p x made occurs
applied_forth Ctor f ns ps p x made occurs = subst (OccursIn x) (some_same _ _ made) occurs
applied_forth Equations f ns ps p x made occurs = subst (OccursIn x) (some_same _ _ made) occurs
applied_forth (Hooked row) f ns ps p x made occurs = subst (OccursIn x) (some_same _ _ made) occurs
applied_forth Closed f ns ps p x made occurs = subst (OccursIn x) (some_same _ _ made) occurs
applied_forth NoKind f ns ps p x made occurs = absurd (let never : ⊥ = cc in never)

-- ---- names

named_left : (xs ys : List Name) (x : ℕ) → IsNamed xs x → IsNamed (xs ++ ys) x
named_left [] ys x is = absurd is
named_left (n ∷ xs) ys x (inl here) = inl here
named_left (n ∷ xs) ys x (inr later) = inr (named_left xs ys x later)

named_right : (xs ys : List Name) (x : ℕ) → IsNamed ys x → IsNamed (xs ++ ys) x
named_right [] ys x is = is
named_right (n ∷ xs) ys x is = inr (named_right xs ys x is)

-- the variable that a pattern means has the pattern's number
pub number_is : (sig : Signature) (vars : List (List ℕ × ℕ)) {u : Unfolded} {p : Pattern} (x : ℕ)
    → Means sig vars u p → is_variable_pattern p ≡ true → OccursIn x p
    → number_of_variable sig vars u ≡ Some x
number_is sig vars x (by_variable {x = y} {name = name} number is) holds occurs =
    ap (option_and_then (variable_number vars name)) number ∙ is
    ∙ ap (λ (n : ℕ). Some n) (sym occurs)
number_is sig vars x (by_value a b) holds occurs = absurd (false≢true holds)
number_is sig vars x (by_symbol {at = at} {byte = byte} {name = name} {ss = ss} {us = us} a b all d)
    holds occurs =
    absurd (false≢true (sym (variable_meaning sig vars
    (by_symbol {at = at} {byte = byte} {name = name} {ss = ss} {us = us} a b all d)) ∙ holds))
number_is sig vars x (by_name {at = at} {tree = tree} first second part) holds occurs =
    absurd (false≢true (sym (variable_meaning sig vars
    (by_name {at = at} {tree = tree} first second part)) ∙ holds))

pub no_number : (sig : Signature) (vars : List (List ℕ × ℕ)) {u : Unfolded} {p : Pattern}
    → Means sig vars u p → is_variable_pattern p ≡ false → number_of_variable sig vars u ≡ None
no_number sig vars (by_variable a b) other = absurd (false≢true (sym other))
no_number sig vars (by_value a b) other = refl
no_number sig vars (by_symbol a b all d) other = refl
no_number sig vars (by_name first second part) other = refl

-- a variable occurs in the meaning of a pattern, or is one of the names in the pattern
abbrev pub IsUsed : Signature → List (List ℕ × ℕ) → List ℕ → Unfolded → Pattern → ℕ → Type 0
IsUsed sig vars place u p x = OccursIn x p ⊎ IsNamed (names_in sig vars place u) x

abbrev pub AreUsed : Signature → List (List ℕ × ℕ) → List ℕ → ℕ → Unfoldeds → Patterns → ℕ
    → Type 0
AreUsed sig vars place i us ps x = OccursInSome x ps ⊎ IsNamed (names_in_all sig vars place i us) x

-- what is used in a pattern of an `\and` is used in the `\and`
first_used : (sig : Signature) (vars : List (List ℕ × ℕ)) (place : List ℕ) (at : ℕ)
    (tree : SortTree) (x : ℕ) {u w : Unfolded} {p q r : Pattern} → Means sig vars u p
    → Means sig vars w q → named_part p q ≡ Some r → IsUsed sig vars place u p x
    → IsUsed sig vars place (both_of at tree u w) r x
first_used sig vars place at tree x {u} {w} {p} {q} {r} first second part (inr named) =
    inr (named_left (names_in sig vars place u) _ x named)
first_used sig vars place at tree x {u} {w} {p} {q} {r} first second part (inl occurs) =
    by_case (part_cases p q r part)
  where
    by_case : IsPartOf p q r → IsUsed sig vars place (both_of at tree u w) r x
    by_case (inl it) =
        inr (named_right (names_in sig vars place u) _ x (named_right (names_in sig vars place w) _ x
        (subst (λ (o : Option ℕ). IsNamed (name_at place o (number_of_variable sig vars w)) x)
        (sym (number_is sig vars x first it.0 occurs)) (inl refl))))
    by_case (inr it) = inl (subst (OccursIn x) it.2 occurs)

second_used : (sig : Signature) (vars : List (List ℕ × ℕ)) (place : List ℕ) (at : ℕ)
    (tree : SortTree) (x : ℕ) {u w : Unfolded} {p q r : Pattern} → Means sig vars u p
    → Means sig vars w q → named_part p q ≡ Some r → IsUsed sig vars place w q x
    → IsUsed sig vars place (both_of at tree u w) r x
second_used sig vars place at tree x {u} {w} {p} {q} {r} first second part (inr named) =
    inr (named_right (names_in sig vars place u) _ x (named_left (names_in sig vars place w) _ x
    named))
second_used sig vars place at tree x {u} {w} {p} {q} {r} first second part (inl occurs) =
    by_case (part_cases p q r part)
  where
    by_case : IsPartOf p q r → IsUsed sig vars place (both_of at tree u w) r x
    by_case (inl it) = inl (subst (OccursIn x) it.2 occurs)
    by_case (inr it) =
        inr (named_right (names_in sig vars place u) _ x (named_right (names_in sig vars place w) _ x
        (subst (λ (o : Option ℕ). IsNamed (name_at place o (number_of_variable sig vars w)) x)
        (sym (no_number sig vars first it.0))
        (subst (λ (o : Option ℕ). IsNamed (name_at place None o) x)
        (sym (number_is sig vars x second it.1 occurs)) (inl refl)))))

-- what is used in the first of some patterns, and in the later ones
one_used : (sig : Signature) (vars : List (List ℕ × ℕ)) (place : List ℕ) (i : ℕ) (u : Unfolded)
    (us : Unfoldeds) (p : Pattern) (ps : Patterns) (x : ℕ)
    → IsUsed sig vars (place ++ i ∷ []) u p x
    → AreUsed sig vars place i (and_more u us) (more_patterns p ps) x
one_used sig vars place i u us p ps x (inl occurs) = inl (inl occurs)
one_used sig vars place i u us p ps x (inr named) =
    inr (named_left (names_in sig vars (place ++ i ∷ []) u) _ x named)

more_used : (sig : Signature) (vars : List (List ℕ × ℕ)) (place : List ℕ) (i : ℕ) (u : Unfolded)
    (us : Unfoldeds) (p : Pattern) (ps : Patterns) (x : ℕ)
    → AreUsed sig vars place (i + 1) us ps x
    → AreUsed sig vars place i (and_more u us) (more_patterns p ps) x
more_used sig vars place i u us p ps x (inl occurs) = inl (inr occurs)
more_used sig vars place i u us p ps x (inr named) =
    inr (named_right (names_in sig vars (place ++ i ∷ []) u) _ x named)

-- a variable that occurs in a pattern occurs in its meaning, or is one of its names
either : (a b : Bool) → (a || b) ≡ true → (a ≡ true) ⊎ (b ≡ true)
either true b h = inl refl
either false b h = inr h

mutual
  found_in : (sig : Signature) (vars : List (List ℕ × ℕ)) (place : List ℕ) (name : List ℕ)
      (tree : SortTree) (s x : ℕ) {u : Unfolded} {p : Pattern}
      → sort_number sig.sorts tree ≡ Some s → variable_number vars name s ≡ Some x
      → occurs_in_pattern name tree u ≡ true → Means sig vars u p → IsUsed sig vars place u p x
  found_in sig vars place name tree s x number var occurs
      (by_variable {x = y} {s = t} {name = n} {tree = other} a b) =
      let both = both_true _ _ occurs in
      let names : name ≡ n = (bytes_eq-Decides name n).0 both.0 in
      let sorts : s ≡ t =
      some_same s t (sym number ∙ same_number sig.sorts tree other both.1 ∙ a) in
      inl (some_same x y (sym var ∙ ap (λ (m : List ℕ). variable_number vars m s) names
      ∙ ap (variable_number vars n) sorts ∙ b))
  found_in sig vars place name tree s x number var occurs (by_value a b) =
      absurd (false≢true occurs)
  found_in sig vars place name tree s x number var occurs
      (by_symbol {f = f} {ns = ns} {ps = ps} {p = p} {info = info} named numbers all made) =
      ⊎_elim (λ here. inl (applied_forth info.kind f ns ps p x made here)) (λ named. inr named)
      (found_in_some sig vars place 0 name tree s x number var occurs all)
  found_in sig vars place name tree s x number var occurs
      (by_name {at = at} {tree = own} {u = u} {w = w} first second part) =
      ⊎_elim (λ here. first_used sig vars place at own x first second part
      (found_in sig vars place name tree s x number var here first))
      (λ later. second_used sig vars place at own x first second part
      (found_in sig vars place name tree s x number var later second))
      (either (occurs_in_pattern name tree u) (occurs_in_pattern name tree w) occurs)

  found_in_some : (sig : Signature) (vars : List (List ℕ × ℕ)) (place : List ℕ) (i : ℕ)
      (name : List ℕ) (tree : SortTree) (s x : ℕ) {us : Unfoldeds} {ps : Patterns}
      → sort_number sig.sorts tree ≡ Some s → variable_number vars name s ≡ Some x
      → occurs_in_some name tree us ≡ true → AllMean sig vars us ps
      → AreUsed sig vars place i us ps x
  found_in_some sig vars place i name tree s x number var occurs none_mean =
      absurd (false≢true occurs)
  found_in_some sig vars place i name tree s x number var occurs
      (more_mean {u = u} {us = us} {p = p} {ps = ps} first rest) =
      ⊎_elim
      (λ here. one_used sig vars place i u us p ps x
      (found_in sig vars (place ++ i ∷ []) name tree s x number var here first))
      (λ later. more_used sig vars place i u us p ps x
      (found_in_some sig vars place (i + 1) name tree s x number var later rest))
      (either (occurs_in_pattern name tree u) (occurs_in_some name tree us) occurs)

-- the meaning of a pattern of bound variables has only variables of these patterns, and their names
mutual
  pub uses_only : (sig : Signature) (vars : List (List ℕ × ℕ)) {qs : Unfoldeds} {ps : Patterns}
      → AllMean sig vars qs ps → {u : Unfolded} {p : Pattern} → is_bound_by qs u ≡ true
      → Means sig vars u p → UsesOnly ps (names_in_all sig vars [] 0 qs) p
  uses_only sig vars {qs} {ps} all bound
      (by_variable {x = y} {s = s} {name = name} {tree = tree} a b) =
      λ x is.
      subst (AreUsed sig vars [] 0 qs ps) (sym is)
      (found_in_some sig vars [] 0 name tree s y a b bound all)
  uses_only sig vars all bound (by_value a b) = λ x never. absurd never
  uses_only sig vars all bound
      (by_symbol {f = f} {ns = ns} {ps = args} {p = p} {info = info} named numbers rest made) =
      λ x occurs.
      all_use_only sig vars all bound rest x (applied_back info.kind f ns args p x made occurs)
  uses_only sig vars {qs} {ps} all bound (by_name {p = p} {q = q} {r = r} first second part) =
      let both = both_true _ _ bound in
      part_holds (UsesOnly ps (names_in_all sig vars [] 0 qs)) p q r part
      (uses_only sig vars all both.0 first) (uses_only sig vars all both.1 second)

  all_use_only : (sig : Signature) (vars : List (List ℕ × ℕ)) {qs : Unfoldeds} {ps : Patterns}
      → AllMean sig vars qs ps → {us : Unfoldeds} {rs : Patterns} → are_bound_by qs us ≡ true
      → AllMean sig vars us rs → (x : ℕ) → OccursInSome x rs → AreUsed sig vars [] 0 qs ps x
  all_use_only sig vars all bound none_mean = λ x never. absurd never
  all_use_only sig vars all bound (more_mean first rest) = λ x occurs.
      let both = both_true _ _ bound in
      ⊎_elim (λ here. uses_only sig vars all both.0 first x here)
      (λ later. all_use_only sig vars all both.1 rest x later) occurs

-- ---- numbers

last_or_before : (x n : ℕ) → x < n + 1 → (x < n) ⊎ (x ≡ n)
last_or_before x n lt = by_case (x == n) refl where
  by_case : (b : Bool) → (x == n) ≡ b → (x < n) ⊎ (x ≡ n)
  by_case true e = inr (eqb-true x n e)
  by_case false e =
      let other : x ≡ n → ⊥ = λ same. false≢true (sym e ∙ eq-eqb x n same) in
      inl (omega (arith, lt, other))

-- the variables with a new one at the end: each is an old one, or has the number of the new one
last_occurs : (vars more : List (List ℕ × ℕ)) (name : List ℕ) (s x y : ℕ)
    → Extends (vars ++ (name, s) ∷ []) more → variable_number vars name s ≡ None
    → variable_number more name s ≡ Some y → x < length (vars ++ (name, s) ∷ [])
    → (x < length vars) ⊎ (x ≡ y)
last_occurs vars more name s x y extends new is lt =
    ⊎_elim (λ before. inl before) (λ last. inr (last ∙ number))
    (last_or_before x (length vars) (omega (arith, lt, long)))
  where
    number : length vars ≡ y
    number =
        some_same (length vars) y (sym (number-kept (vars ++ (name, s)
        ∷ []) more name s (length vars) extends (number-added vars name s new)) ∙ is)

    long : length (vars ++ (name, s) ∷ []) ≡ length vars + 1
    long = length-append vars ((name, s) ∷ [])

variable_occurs : (vars more : List (List ℕ × ℕ)) (name : List ℕ) (s x y : ℕ)
    → Extends (with_variable vars name (Some s)) more → variable_number more name s ≡ Some y
    → x < length (with_variable vars name (Some s)) → (x < length vars) ⊎ (x ≡ y)
variable_occurs vars more name s x y extends is lt =
    by_case (variable_number vars name s) refl extends lt
  where
    by_case : (o : Option ℕ) → variable_number vars name s ≡ o
        → Extends (if is_some o then vars else vars ++ (name, s) ∷ []) more
        → x < length (if is_some o then vars else vars ++ (name, s) ∷ [])
        → (x < length vars) ⊎ (x ≡ y)
    by_case (Some k) e extends lt = inl lt
    by_case None e extends lt = last_occurs vars more name s x y extends e is lt

-- Each variable that numbering a pattern adds occurs in the pattern's meaning or is one of its names,
-- also if more variables are numbered later.
mutual
  pub numbered_occur : (sig : Signature) (vars more : List (List ℕ × ℕ)) (place : List ℕ)
      {u : Unfolded} {p : Pattern} → Extends (with_variables sig vars u) more → Means sig more u p
      → (x : ℕ) → x < length (with_variables sig vars u)
      → (x < length vars) ⊎ IsUsed sig more place u p x
  numbered_occur sig vars more place extends
      (by_variable {x = y} {s = s} {name = name} {tree = tree} number is) =
      λ x lt.
      ⊎_elim (λ before. inl before) (λ occurs. inr (inl occurs)) (variable_occurs vars more name s x y
      (subst (λ (o : Option ℕ). Extends (with_variable vars name o) more) number extends) is
      (subst (λ (o : Option ℕ). x < length (with_variable vars name o)) number lt))
  numbered_occur sig vars more place extends (by_value a b) = λ x lt. inl lt
  numbered_occur sig vars more place extends
      (by_symbol {f = f} {ns = ns} {ps = ps} {p = p} {info = info} named numbers all made) =
      λ x lt.
      ⊎_elim (λ before. inl before)
      (λ used. inr (⊎_elim (λ occurs. inl (applied_forth info.kind f ns ps p x made occurs))
      (λ named. inr named) used))
      (all_numbered_occur sig vars more place 0 extends all x lt)
  numbered_occur sig vars more place extends
      (by_name {at = at} {tree = tree} {u = u} {w = w} first second part) =
      λ x lt.
      let mid = with_variables sig vars u in
      let shorter : Extends mid more =
      extends-trans mid (with_variables sig mid w) more
      (all_variables_extend sig mid (and_more w no_more)) extends in
      ⊎_elim
      (λ before. ⊎_elim (λ earlier. inl earlier)
      (λ used. inr (first_used sig more place at tree x first second part used))
      (numbered_occur sig vars more place shorter first x before))
      (λ used. inr (second_used sig more place at tree x first second part used))
      (numbered_occur sig mid more place extends second x lt)

  pub all_numbered_occur : (sig : Signature) (vars more : List (List ℕ × ℕ)) (place : List ℕ)
      (i : ℕ) {us : Unfoldeds} {ps : Patterns} → Extends (with_all_variables sig vars us) more
      → AllMean sig more us ps → (x : ℕ) → x < length (with_all_variables sig vars us)
      → (x < length vars) ⊎ AreUsed sig more place i us ps x
  all_numbered_occur sig vars more place i extends none_mean = λ x lt. inl lt
  all_numbered_occur sig vars more place i extends
      (more_mean {u = u} {us = us} {p = p} {ps = ps} first rest) =
      λ x lt.
      let mid = with_variables sig vars u in
      let shorter : Extends mid more =
      extends-trans mid (with_all_variables sig mid us) more (all_variables_extend sig mid us)
      extends in
      ⊎_elim (λ before. ⊎_elim (λ earlier. inl earlier)
      (λ used. inr (one_used sig more place i u us p ps x used))
      (numbered_occur sig vars more (place ++ i ∷ []) shorter first x before))
      (λ used. inr (more_used sig more place i u us p ps x used))
      (all_numbered_occur sig mid more place (i + 1) extends rest x lt)

none_before : {P : Type 0} (x : ℕ) → (x < length {A = List ℕ × ℕ} []) ⊎ P → P
none_before x (inl lt) = absurd (omega (arith, lt))
none_before x (inr p) = p

-- so all variables that are numbered from the start occur in the meaning, or are names
pub each_occurs : (sig : Signature) (vars : List (List ℕ × ℕ)) (place : List ℕ) (u : Unfolded)
    (p : Pattern) → vars ≡ with_variables sig [] u → Means sig vars u p → (x : ℕ)
    → x < length vars → IsUsed sig vars place u p x
each_occurs sig vars place u p numbered means x lt =
    none_before x (numbered_occur sig [] vars place
    (subst (λ (vs : List (List ℕ × ℕ)). Extends vs vars) numbered (extends-refl vars)) means x
    (subst (λ (vs : List (List ℕ × ℕ)). x < length vs) numbered lt))

pub each_occurs_in_some : (sig : Signature) (vars : List (List ℕ × ℕ)) (us : Unfoldeds)
    (ps : Patterns) → vars ≡ with_all_variables sig [] us → AllMean sig vars us ps → (x : ℕ)
    → x < length vars → AreUsed sig vars [] 0 us ps x
each_occurs_in_some sig vars us ps numbered means x lt =
    none_before x (all_numbered_occur sig [] vars [] 0
    (subst (λ (vs : List (List ℕ × ℕ)). Extends vs vars) numbered (extends-refl vars)) means x
    (subst (λ (vs : List (List ℕ × ℕ)). x < length vs) numbered lt))

-- ---- the sorts of variables

abbrev pub AreDeclared : Signature → List (List ℕ × ℕ) → Type 0
AreDeclared sig vars = All (λ (s : ℕ). s < length sig.sorts) (variable_sorts vars)

one_more : (sig : Signature) (vars : List (List ℕ × ℕ)) (name : List ℕ) (s : ℕ)
    → AreDeclared sig vars → s < length sig.sorts → AreDeclared sig (vars ++ (name, s) ∷ [])
one_more sig vars name s all lt =
    subst (All (λ (t : ℕ). t < length sig.sorts))
    (sym (map-append (λ (v : List ℕ × ℕ). v.1) vars ((name, s) ∷ [])))
    (All-push (λ (t : ℕ). t < length sig.sorts) (variable_sorts vars) s all lt)

variable_declared : (sig : Signature) (vars : List (List ℕ × ℕ)) (name : List ℕ) (tree : SortTree)
    (o : Option ℕ) → sort_number sig.sorts tree ≡ o → AreDeclared sig vars
    → AreDeclared sig (with_variable vars name o)
variable_declared sig vars name tree None e all = all
variable_declared sig vars name tree (Some s) e all =
    by_case (is_some (variable_number vars name s))
  where
    by_case : (b : Bool) → AreDeclared sig (if b then vars else vars ++ (name, s) ∷ [])
    by_case true = all
    by_case false = one_more sig vars name s all (sort_number-within sig.sorts tree s e)

mutual
  pub variables_declared : (sig : Signature) (vars : List (List ℕ × ℕ)) (u : Unfolded)
      → AreDeclared sig vars → AreDeclared sig (with_variables sig vars u)
  variables_declared sig vars (named_variable at name tree) all =
      variable_declared sig vars name tree (sort_number sig.sorts tree) refl all
  variables_declared sig vars (written_value at tree text byte) all = all
  variables_declared sig vars (applied_symbol at byte name ss us) all =
      all_variables_declared sig vars us all
  variables_declared sig vars (both_of at tree p q) all =
      variables_declared sig (with_variables sig vars p) q (variables_declared sig vars p all)
  variables_declared sig vars (other_form at) all = all

  pub all_variables_declared : (sig : Signature) (vars : List (List ℕ × ℕ)) (us : Unfoldeds)
      → AreDeclared sig vars → AreDeclared sig (with_all_variables sig vars us)
  all_variables_declared sig vars no_more all = all
  all_variables_declared sig vars (and_more u us) all =
      all_variables_declared sig (with_variables sig vars u) us (variables_declared sig vars u all)
