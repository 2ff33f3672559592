-- How often a variable is used and written. The names of an accepted left side are each counted
-- once, and their variables are counted nowhere else.
use Rattle.std.proofs.Common.{◌≡◌, ◌≤◌, ℕ, ◌+◌, Bool, true, false, List, [], ◌∷◌, ◌++◌, map, Option}
use Rattle.std.proofs.Common.{Some, None, inl, inr, refl, ap, sym, ◌∙◌, subst, arith, slice_get}
use Rattle.std.proofs.Common.{eq-eqb}
use Rattle.std.specs.Prelude.{◌≢◌, ◌==◌, ◌&&◌, All, if◌then◌else◌}
use Rattle.std.specs.Option.{option_and_then}
use Rattle.std.specs.Str.{bytes_eq}
use Rattle.std.proofs.lemmas.Bool.{false≢true, eqb-true, leb-true}
use Rattle.std.proofs.lemmas.List.Elements.{All-nil, All-cons, All-head, All-tail, All-append}
use Rattle.std.proofs.lemmas.List.Elements.{All-weaker}
use Rattle.std.proofs.lemmas.Slice.Eq.{bytes_eq-Decides}
use Rattle.kore_text.specs.Trees.{SortTree, listed_sorts, PatternTree, element_variable}
use Rattle.kore_text.specs.Trees.{set_variable, string, symbol_applied, connected, binder_applied}
use Rattle.kore_text.specs.Trees.{value_written, folded, PatternTrees, no_patterns, pattern_then}
use Rattle.kore_text.specs.declared.names.Op.{Op}
use Rattle.term_core.specs.Patterns.{Pattern, Patterns, variable, domain_value, application}
use Rattle.term_core.specs.Patterns.{injection, call, no_pattern, more_patterns}
use Rattle.rule_core.proofs.Belows.{both_true, true_both}
use Rattle.rule_core.specs.Matching.{OccursIn, OccursInSome}
use Rattle.rule_core.specs.NamedParts.{Name}
use Rattle.rule_core.specs.WellSorted.{AreDifferent}
use Rattle.rule_core.specs.declared.signature.Signature.{Signature}
use Rattle.rule_core.specs.declared.signature.SymKind.{SymKind}
use Rattle.rule_core.specs.declared.signature.SymKind.TheVariants.{Injection, Ctor, Equations}
use Rattle.rule_core.specs.declared.signature.SymKind.TheVariants.{Hooked, Closed, NoKind}
use Rattle.kore_sig.specs.SortReferences.{sort_number}
use Rattle.kore_check.specs.Folds.{Unfolded, Unfoldeds, no_more, and_more, named_variable}
use Rattle.kore_check.specs.Folds.{written_value, applied_symbol, both_of, other_form, standing_at}
use Rattle.kore_check.specs.Folds.{applied_to_two, folded_left, folded_right, fold_of, unfolded}
use Rattle.kore_check.specs.Folds.{inner_fold, all_unfolded, connective_of, connective_fold}
use Rattle.kore_check.specs.PartNames.{names_in, names_in_all, name_at, number_of_variable}
use Rattle.kore_check.specs.PatternMeanings.{Means, by_variable, by_value, by_symbol, by_name}
use Rattle.kore_check.specs.PatternMeanings.{AllMean, none_mean, more_mean, is_variable_pattern}
use Rattle.kore_check.specs.PatternMeanings.{named_part, applied_pattern, injected_only}
use Rattle.kore_check.specs.PatternMeanings.{variable_number}
use Rattle.kore_check.specs.Variables.{variable_of}
use Rattle.kore_check.proofs.Connectives.{IsConnective, connective_case}
use Rattle.kore_check.proofs.NamedMeanings.{IsPartOf, part_cases, variable_meaning}
use Rattle.kore_check.proofs.SortedLaws.{position_found}
use Rattle.kore_shapes.specs.SameSorts.{is_variable}
use Rattle.kore_axioms.specs.LeftNames.{times, times_in_all, times_in, only_variable}
use Rattle.kore_axioms.specs.LeftNames.{is_written_once}
use Rattle.kore_axioms.proofs.ApplicativeLaws.{IsSide, AreSides}
use Rattle.kore_axioms.proofs.BoundLaws.{same_written}
use Rattle.kore_equations.specs.ReadableSides.{all_read}
use Rattle.kore_rules.proofs.MeaningSorts.{no_number}

pub some_same : {X : Type 0} (x y : X) → Some x ≡ Some y → x ≡ y
some_same x y e = cc

-- ---- how often a variable is used

abbrev one_if : Bool → ℕ
one_if true = 1
one_if false = 0

abbrev is_number : ℕ → Option ℕ → Bool
is_number x None = false
is_number x (Some y) = x == y

-- how many variables of the text have this number
abbrev mutual
  number_times : Signature → List (List ℕ × ℕ) → ℕ → Unfolded → ℕ
  number_times sig vars x (named_variable at n s) =
      one_if (is_number x (number_of_variable sig vars (named_variable at n s)))
  number_times sig vars x (applied_symbol at byte n ss us) = all_number_times sig vars x us
  number_times sig vars x (both_of at s u w) =
      number_times sig vars x u + number_times sig vars x w
  number_times sig vars x u = 0

  all_number_times : Signature → List (List ℕ × ℕ) → ℕ → Unfoldeds → ℕ
  all_number_times sig vars x no_more = 0
  all_number_times sig vars x (and_more u us) =
      number_times sig vars x u + all_number_times sig vars x us

-- how many places of a rule pattern have this variable
abbrev mutual
  pattern_times : ℕ → Pattern → ℕ
  pattern_times x (variable y) = one_if (x == y)
  pattern_times x (domain_value s v) = 0
  pattern_times x (application f ps) = patterns_times x ps
  pattern_times x (injection a b p) = pattern_times x p
  pattern_times x (call f ns ps) = patterns_times x ps

  pub patterns_times : ℕ → Patterns → ℕ
  patterns_times x no_pattern = 0
  patterns_times x (more_patterns p ps) = pattern_times x p + patterns_times x ps

-- how many of the names are this variable
abbrev pub name_times : ℕ → List Name → ℕ
name_times x [] = 0
name_times x (n ∷ ns) = one_if (x == n.variable) + name_times x ns

name_times-append : (x : ℕ) (ns ms : List Name)
    → name_times x (ns ++ ms) ≡ name_times x ns + name_times x ms
name_times-append x [] ms = omega arith
name_times-append x (n ∷ ns) ms =
    let rest = name_times-append x ns ms in omega (arith, rest)

injected_times : (x : ℕ) (ns : List ℕ) (ps : Patterns) (p : Pattern) → injected_only ns ps ≡ Some p
    → pattern_times x p ≡ patterns_times x ps
injected_times x [] ps p made = absurd (let never : ⊥ = cc in never)
injected_times x (a ∷ []) ps p made = absurd (let never : ⊥ = cc in never)
injected_times x (a ∷ (b ∷ (d ∷ ns))) ps p made = absurd (let never : ⊥ = cc in never)
injected_times x (a ∷ (b ∷ [])) no_pattern p made = absurd (let never : ⊥ = cc in never)
injected_times x (a ∷ (b ∷ [])) (more_patterns q (more_patterns r ps)) p made =
    absurd (let never : ⊥ = cc in never)
injected_times x (a ∷ (b ∷ [])) (more_patterns q no_pattern) p made =
    let same = ap (pattern_times x) (some_same _ p made) in omega (arith, same)

applied_times : (x : ℕ) (k : SymKind) (f : ℕ) (ns : List ℕ) (ps : Patterns) (p : Pattern)
    → applied_pattern k f ns ps ≡ Some p → pattern_times x p ≡ patterns_times x ps
applied_times x Injection f ns ps p made = injected_times x ns ps p made
applied_times x Ctor f ns ps p made = sym (ap (pattern_times x) (some_same _ p made))
applied_times x Equations f ns ps p made = sym (ap (pattern_times x) (some_same _ p made))
applied_times x (Hooked row) f ns ps p made = sym (ap (pattern_times x) (some_same _ p made))
applied_times x Closed f ns ps p made = sym (ap (pattern_times x) (some_same _ p made))
applied_times x NoKind f ns ps p made = absurd (let never : ⊥ = cc in never)

-- what means a variable is a variable of the text
pub record IsVariable (sig : Signature) (vars : List (List ℕ × ℕ)) (u : Unfolded) (p : Pattern) :
    Type 0 where
  pub number : ℕ
  pub is : p ≡ variable number
  pub known : number_of_variable sig vars u ≡ Some number
  pub none : (place : List ℕ) → names_in sig vars place u ≡ []

pub variable_is : (sig : Signature) (vars : List (List ℕ × ℕ)) {u : Unfolded} {p : Pattern}
    → Means sig vars u p → is_variable_pattern p ≡ true → IsVariable sig vars u p
variable_is sig vars (by_variable {x = x} {name = name} number is) holds = record {
  number = x;
  is = refl;
  known = ap (option_and_then (variable_number vars name)) number ∙ is;
  none = λ place. refl;
}
variable_is sig vars (by_value a b) holds = absurd (false≢true holds)
variable_is sig vars (by_symbol {at = at} {byte = byte} {name = name} {ss = ss} {us = us} a b all d)
    holds =
    absurd (false≢true (sym (variable_meaning sig vars
    (by_symbol {at = at} {byte = byte} {name = name} {ss = ss} {us = us} a b all d)) ∙ holds))
variable_is sig vars (by_name {at = at} {tree = tree} first second part) holds =
    absurd (false≢true (sym (variable_meaning sig vars
    (by_name {at = at} {tree = tree} first second part)) ∙ holds))

first_name_times : (sig : Signature) (vars : List (List ℕ × ℕ)) (place : List ℕ) (x : ℕ)
    (o : Option ℕ) {u : Unfolded} {p : Pattern} → IsVariable sig vars u p
    → name_times x (name_at place (number_of_variable sig vars u) o) ≡ pattern_times x p
first_name_times sig vars place x o v =
    ap (λ (n : Option ℕ). name_times x (name_at place n o)) v.known
    ∙ omega arith ∙ sym (ap (pattern_times x) v.is)

second_name_times : (sig : Signature) (vars : List (List ℕ × ℕ)) (place : List ℕ) (x : ℕ)
    {u : Unfolded} {p : Pattern} → IsVariable sig vars u p
    → name_times x (name_at place None (number_of_variable sig vars u)) ≡ pattern_times x p
second_name_times sig vars place x v =
    ap (λ (n : Option ℕ). name_times x (name_at place None n)) v.known
    ∙ omega arith ∙ sym (ap (pattern_times x) v.is)

-- the same of an `\and`, if it holds of its patterns
both_split : (sig : Signature) (vars : List (List ℕ × ℕ)) (place : List ℕ) (x : ℕ)
    {u w : Unfolded} {p q r : Pattern} → Means sig vars u p → Means sig vars w q
    → named_part p q ≡ Some r
    → number_times sig vars x u ≡ pattern_times x p + name_times x (names_in sig vars place u)
    → number_times sig vars x w ≡ pattern_times x q + name_times x (names_in sig vars place w)
    → number_times sig vars x u + number_times sig vars x w
    ≡ pattern_times x r
    + name_times x (names_in sig vars place u
    ++ (names_in sig vars place w
    ++ name_at place (number_of_variable sig vars u) (number_of_variable sig vars w)))
both_split sig vars place x {u} {w} {p} {q} {r} first second part of_first of_second =
    by_case (part_cases p q r part)
  where
    own : List Name
    own = name_at place (number_of_variable sig vars u) (number_of_variable sig vars w)

    joined : name_times x (names_in sig vars place u ++ (names_in sig vars place w ++ own))
        ≡ name_times x (names_in sig vars place u)
        + (name_times x (names_in sig vars place w) + name_times x own)
    joined =
        name_times-append x (names_in sig vars place u) (names_in sig vars place w ++ own)
        ∙ ap (λ (n : ℕ). name_times x (names_in sig vars place u) + n)
        (name_times-append x (names_in sig vars place w) own)

    by_case : IsPartOf p q r
        → number_times sig vars x u + number_times sig vars x w
        ≡ pattern_times x r
        + name_times x (names_in sig vars place u ++ (names_in sig vars place w ++ own))
    by_case (inl it) =
        let name : name_times x own ≡ pattern_times x p =
        first_name_times sig vars place x (number_of_variable sig vars w)
        (variable_is sig vars first it.0) in
        let same : pattern_times x q ≡ pattern_times x r = ap (pattern_times x) it.2 in
        omega (arith, of_first, of_second, joined, name, same)
    by_case (inr it) =
        let name : name_times x own ≡ pattern_times x q =
        ap (λ (o : Option ℕ). name_times x (name_at place o (number_of_variable sig vars w)))
        (no_number sig vars first it.0)
        ∙ second_name_times sig vars place x (variable_is sig vars second it.1) in
        let same : pattern_times x p ≡ pattern_times x r = ap (pattern_times x) it.2 in
        omega (arith, of_first, of_second, joined, name, same)

-- each variable of the text is one of the meaning, or a name
mutual
  split : (sig : Signature) (vars : List (List ℕ × ℕ)) (place : List ℕ) (x : ℕ) {u : Unfolded}
      {p : Pattern} → Means sig vars u p
      → number_times sig vars x u ≡ pattern_times x p + name_times x (names_in sig vars place u)
  split sig vars place x (by_variable {x = y} {name = name} number is) =
      ap (λ (o : Option ℕ). one_if (is_number x o))
      (ap (option_and_then (variable_number vars name)) number ∙ is) ∙ omega arith
  split sig vars place x (by_value a b) = refl
  split sig vars place x
      (by_symbol {f = f} {ns = ns} {ps = ps} {p = p} {info = info} named numbers all made) =
      let here = applied_times x info.kind f ns ps p made in
      let rest = all_split sig vars place 0 x all in omega (arith, here, rest)
  split sig vars place x (by_name first second part) =
      both_split sig vars place x first second part (split sig vars place x first)
      (split sig vars place x second)

  pub all_split : (sig : Signature) (vars : List (List ℕ × ℕ)) (place : List ℕ) (i x : ℕ)
      {us : Unfoldeds} {ps : Patterns} → AllMean sig vars us ps
      → all_number_times sig vars x us
      ≡ patterns_times x ps + name_times x (names_in_all sig vars place i us)
  all_split sig vars place i x none_mean = refl
  all_split sig vars place i x (more_mean {u = u} {us = us} first rest) =
      let here = split sig vars (place ++ i ∷ []) x first in
      let later = all_split sig vars place (i + 1) x rest in
      let joined =
      name_times-append x (names_in sig vars (place ++ i ∷ []) u)
      (names_in_all sig vars place (i + 1) us) in
      omega (arith, here, later, joined)

-- ---- how often a variable is written

one_variable : (vars : List (List ℕ × ℕ)) (n m : List ℕ) (s t x : ℕ)
    → variable_number vars n s ≡ Some x → variable_number vars m t ≡ Some x → (n ≡ m) × (s ≡ t)
one_variable vars n m s t x a b =
    let one = position_found (λ (v : List ℕ × ℕ). bytes_eq n v.0 && (s == v.1)) 0 x vars a in
    let two = position_found (λ (v : List ℕ × ℕ). bytes_eq m v.0 && (t == v.1)) 0 x vars b in
    let place : one.0 ≡ two.0 = omega (arith, one.1, two.1) in
    let same : one.2.0 ≡ two.2.0 =
    some_same _ _ (sym one.2.1 ∙ ap (slice_get vars) place ∙ two.2.1) in
    let first = both_true _ _ one.2.2 in
    let second = both_true _ _ two.2.2 in (
      (bytes_eq-Decides n one.2.0.0).0 first.0
          ∙ ap (λ (v : List ℕ × ℕ). v.0) same
          ∙ sym ((bytes_eq-Decides m two.2.0.0).0 second.0),
      eqb-true s one.2.0.1 first.1 ∙ ap (λ (v : List ℕ × ℕ). v.1) same
          ∙ sym (eqb-true t two.2.0.1 second.1),
    )

then_there : {X Y : Type 0} (f : X → Option Y) (o : Option X) (y : Y) → option_and_then f o ≡ Some y
    → (x : X) × (o ≡ Some x) × (f x ≡ Some y)
then_there f None y e = absurd (let never : ⊥ = cc in never)
then_there f (Some x) y e = (x, refl, e)

number_there : (x : ℕ) (o : Option ℕ) → is_number x o ≡ true → o ≡ Some x
number_there x None h = absurd (false≢true h)
number_there x (Some y) h = ap (λ (n : ℕ). Some n) (sym (eqb-true x y h))

module _ (sig : Signature) (vars : List (List ℕ × ℕ)) (name : List ℕ) (tree : SortTree) (s x : ℕ)
    (number : sort_number sig.sorts tree ≡ Some s) (var : variable_number vars name s ≡ Some x)
  where
    -- a variable with the number is written so
    so_written : (at : ℕ) (n : List ℕ) (t : SortTree)
        → number_of_variable sig vars (named_variable at n t) ≡ Some x
        → is_variable name tree (element_variable at n t) ≡ true
    so_written at n t e =
        let found = then_there (variable_number vars n) (sort_number sig.sorts t) x e in
        let same = one_variable vars name n s found.0 x var found.2 in
        true_both _ _ ((bytes_eq-Decides name n).1 same.0)
        (same_written sig.sorts tree t s number
        (found.1 ∙ ap (λ (k : ℕ). Some k) (sym same.1)))

    one_written : (at : ℕ) (n : List ℕ) (t : SortTree) (b : Bool)
        → is_number x (number_of_variable sig vars (named_variable at n t)) ≡ b
        → one_if b ≤ (if is_variable name tree (element_variable at n t) then 1 else 0)
    one_written at n t false e = omega arith
    one_written at n t true e =
        subst (λ (b : Bool). 1 ≤ (if b then 1 else 0))
        (sym (so_written at n t (number_there x _ e))) (omega arith)

    left_times : (byte : ℕ) (n : List ℕ) (ss : List SortTree) (u : Unfolded) (us : Unfoldeds)
        → number_times sig vars x (folded_left byte n ss u us)
        ≡ number_times sig vars x u + all_number_times sig vars x us
    left_times byte n ss u no_more = omega arith
    left_times byte n ss u (and_more v us) =
        let rest = left_times byte n ss (applied_to_two byte n ss u v) us in omega (arith, rest)

    right_times : (byte : ℕ) (n : List ℕ) (ss : List SortTree) (u : Unfolded) (us : Unfoldeds)
        → number_times sig vars x (folded_right byte n ss u us)
        ≡ number_times sig vars x u + all_number_times sig vars x us
    right_times byte n ss u no_more = omega arith
    right_times byte n ss u (and_more v us) =
        let rest = right_times byte n ss v us in omega (arith, rest)

    fold_times : (left : Bool) (byte : ℕ) (n : List ℕ) (ss : List SortTree) (us : Unfoldeds)
        → number_times sig vars x (fold_of left byte n ss us) ≤ all_number_times sig vars x us
    fold_times left byte n ss no_more = omega arith
    fold_times true byte n ss (and_more u us) =
        let same = left_times byte n ss u us in omega (arith, same)
    fold_times false byte n ss (and_more u us) =
        let same = right_times byte n ss u us in omega (arith, same)

    standing_times : (at : ℕ) (u : Unfolded)
        → number_times sig vars x (standing_at at u) ≡ number_times sig vars x u
    standing_times at (named_variable there n t) = refl
    standing_times at (written_value there t text byte) = refl
    standing_times at (applied_symbol there byte n ss us) = refl
    standing_times at (both_of there t u w) = refl
    standing_times at (other_form there) = refl

    connective_times : (at : ℕ) (o : Op) (ss : List SortTree) (us : Unfoldeds)
        → number_times sig vars x (connective_of at o ss us) ≤ all_number_times sig vars x us
    connective_times at o ss us = by_case (connective_case at o ss us) where
      by_case : IsConnective at o ss us
          → number_times sig vars x (connective_of at o ss us) ≤ all_number_times sig vars x us
      by_case (inl both) =
          let here : number_times sig vars x (connective_of at o ss us) ≡ number_times sig vars x
          both.1 + number_times sig vars x both.2 =
          ap (number_times sig vars x) both.4 in
          let all : all_number_times sig vars x us ≡ number_times sig vars x both.1 +
          (number_times sig vars x both.2 + 0) =
          ap (all_number_times sig vars x) both.3 in
          omega (arith, here, all)
      by_case (inr other) =
          let none : number_times sig vars x (connective_of at o ss us) ≡ 0 =
          ap (number_times sig vars x) other in
          omega (arith, none)

    folded_times : (at : ℕ) (o : Op) (ss : List SortTree) (us : Unfoldeds)
        → number_times sig vars x (connective_fold at o ss us) ≤ all_number_times sig vars x us
    folded_times at o ss no_more = connective_times at o ss no_more
    folded_times at o ss (and_more u no_more) = omega arith
    folded_times at o ss (and_more u (and_more v us)) =
        connective_times at o ss (and_more u (and_more v us))

    mutual
      written_times : (p : PatternTree)
          → number_times sig vars x (unfolded p) ≤ times name tree p
      written_times (element_variable at n t) = one_written at n t _ refl
      written_times (set_variable at n t) = omega arith
      written_times (string at text) = omega arith
      written_times (symbol_applied at n ss ps) = all_written_times ps
      written_times (connected at o ss ps) =
          let here = connective_times at o (listed_sorts ss) (all_unfolded ps) in
          let all = all_written_times ps in omega (arith, here, all)
      written_times (binder_applied at b ss y p) = omega arith
      written_times (value_written at t text place) = omega arith
      written_times (folded at left p) =
          let same = standing_times at (inner_fold left p) in
          let inner = inner_times left p in omega (arith, same, inner)

      inner_times : (left : Bool) (p : PatternTree)
          → number_times sig vars x (inner_fold left p) ≤ times name tree p
      inner_times left (element_variable at n t) = omega arith
      inner_times left (set_variable at n t) = omega arith
      inner_times left (string at text) = omega arith
      inner_times left (symbol_applied at n ss ps) =
          let fold = fold_times left at n (listed_sorts ss) (all_unfolded ps) in
          let all = all_written_times ps in omega (arith, fold, all)
      inner_times left (connected at o ss ps) =
          let here = folded_times at o (listed_sorts ss) (all_unfolded ps) in
          let all = all_written_times ps in omega (arith, here, all)
      inner_times left (binder_applied at b ss y p) = omega arith
      inner_times left (value_written at t text place) = omega arith
      inner_times left (folded at other p) = omega arith

      all_written_times : (ps : PatternTrees)
          → all_number_times sig vars x (all_unfolded ps) ≤ times_in_all name tree ps
      all_written_times no_patterns = omega arith
      all_written_times (pattern_then p ps) =
          let first = written_times p in
          let rest = all_written_times ps in omega (arith, first, rest)

    pub listed_times : (ps : List PatternTree)
        → all_number_times sig vars x (all_read ps) ≤ times_in name tree ps
    listed_times [] = omega arith
    listed_times (p ∷ ps) =
        let first = written_times p in
        let rest = listed_times ps in omega (arith, first, rest)

-- ---- a name is written once

pub record IsWritten (sig : Signature) (vars : List (List ℕ × ℕ)) (whole : List PatternTree)
    (n : Name) : Type 0 where
  pub name : List ℕ
  pub tree : SortTree
  pub sort : ℕ
  pub number : sort_number sig.sorts tree ≡ Some sort
  pub var : variable_number vars name sort ≡ Some n.variable
  pub once : times_in name tree whole ≤ 1

record IsTextVariable (sig : Signature) (vars : List (List ℕ × ℕ)) (u : Unfolded) (x : ℕ) :
    Type 0 where
  pub name : List ℕ
  pub tree : SortTree
  pub is : variable_of u ≡ Some (name, tree)
  pub sort : ℕ
  pub number : sort_number sig.sorts tree ≡ Some sort
  pub var : variable_number vars name sort ≡ Some x

text_variable : (sig : Signature) (vars : List (List ℕ × ℕ)) (u : Unfolded) (x : ℕ)
    → number_of_variable sig vars u ≡ Some x → IsTextVariable sig vars u x
text_variable sig vars (named_variable at n t) x e =
    let found = then_there (variable_number vars n) (sort_number sig.sorts t) x e in record {
      name = n;
      tree = t;
      is = refl;
      sort = found.0;
      number = found.1;
      var = found.2;
    }
text_variable sig vars (written_value at t text byte) x e = absurd (let never : ⊥ = cc in never)
text_variable sig vars (applied_symbol at byte n ss us) x e = absurd (let never : ⊥ = cc in never)
text_variable sig vars (both_of at t u w) x e = absurd (let never : ⊥ = cc in never)
text_variable sig vars (other_form at) x e = absurd (let never : ⊥ = cc in never)

-- the name of an `\and` that is written once
first_once : (whole : List PatternTree) (v : List ℕ × SortTree) (o : Option (List ℕ × SortTree))
    → is_written_once whole (only_variable (Some v) o) ≡ true → times_in v.0 v.1 whole ≤ 1
first_once whole v None h = leb-true _ _ h
first_once whole v (Some w) h = absurd (false≢true h)

second_once : (whole : List PatternTree) (o : Option (List ℕ × SortTree)) (v : List ℕ × SortTree)
    → is_written_once whole (only_variable o (Some v)) ≡ true → times_in v.0 v.1 whole ≤ 1
second_once whole None v h = leb-true _ _ h
second_once whole (Some w) v h = absurd (false≢true h)

module _ (sig : Signature) (vars : List (List ℕ × ℕ)) (whole : List PatternTree) where
  name_written : (place : List ℕ) (u w : Unfolded)
      → is_written_once whole (only_variable (variable_of u) (variable_of w)) ≡ true
      → (o r : Option ℕ) → number_of_variable sig vars u ≡ o → number_of_variable sig vars w ≡ r
      → All (IsWritten sig vars whole) (name_at place o r)
  name_written place u w once None None e f = All-nil (IsWritten sig vars whole)
  name_written place u w once None (Some x) e f =
      let v = text_variable sig vars w x f in
      All-cons (IsWritten sig vars whole) _ [] (record {
        name = v.name;
        tree = v.tree;
        sort = v.sort;
        number = v.number;
        var = v.var;
        once =
            second_once whole (variable_of u) (v.name, v.tree)
            (sym (ap (λ (o : Option (List ℕ × SortTree)).
            is_written_once whole (only_variable (variable_of u) o)) v.is) ∙ once);
      }) (All-nil (IsWritten sig vars whole))
  name_written place u w once (Some x) r e f =
      let v = text_variable sig vars u x e in
      All-cons (IsWritten sig vars whole) _ [] (record {
        name = v.name;
        tree = v.tree;
        sort = v.sort;
        number = v.number;
        var = v.var;
        once =
            first_once whole (v.name, v.tree) (variable_of w)
            (sym (ap (λ (o : Option (List ℕ × SortTree)).
            is_written_once whole (only_variable o (variable_of w))) v.is) ∙ once);
      }) (All-nil (IsWritten sig vars whole))

  mutual
    names_written : (place : List ℕ) (u : Unfolded) → IsSide whole u
        → All (IsWritten sig vars whole) (names_in sig vars place u)
    names_written place (named_variable at n t) h = All-nil (IsWritten sig vars whole)
    names_written place (written_value at t text byte) h = All-nil (IsWritten sig vars whole)
    names_written place (applied_symbol at byte n ss us) h = all_names_written place 0 us h
    names_written place (both_of at t u w) h =
        All-append (IsWritten sig vars whole) (names_in sig vars place u) _
        (names_written place u h.1)
        (All-append (IsWritten sig vars whole) (names_in sig vars place w) _
        (names_written place w h.2) (name_written place u w h.0 _ _ refl refl))
    names_written place (other_form at) h = absurd h

    pub all_names_written : (place : List ℕ) (i : ℕ) (us : Unfoldeds) → AreSides whole us
        → All (IsWritten sig vars whole) (names_in_all sig vars place i us)
    all_names_written place i no_more h = All-nil (IsWritten sig vars whole)
    all_names_written place i (and_more u us) h =
        All-append (IsWritten sig vars whole) (names_in sig vars (place ++ i ∷ []) u) _
        (names_written (place ++ i ∷ []) u h.0) (all_names_written place (i + 1) us h.1)

-- ---- names counted once

occurs_once : (x : ℕ) → one_if (x == x) ≡ 1
occurs_once x = ap one_if (eq-eqb x x refl)

-- each name is at least once among the names
pub counted : (ns : List Name) → All (λ (n : Name). 1 ≤ name_times n.variable ns) ns
counted [] = All-nil (λ (n : Name). 1 ≤ name_times n.variable [])
counted (m ∷ ns) =
    All-cons (λ (n : Name). 1 ≤ name_times n.variable (m ∷ ns)) m ns
    (let one = occurs_once m.variable in omega (arith, one))
    (All-weaker (λ (n : Name). 1 ≤ name_times n.variable ns)
    (λ (n : Name). 1 ≤ name_times n.variable (m ∷ ns)) (λ n h. omega (arith, h)) ns (counted ns))

-- a variable that is not counted is none of the names
none_of : (x : ℕ) (ns : List Name) → name_times x ns ≤ 0
    → All (λ (y : ℕ). x ≢ y) (map (λ (n : Name). n.variable) ns)
none_of x [] h = All-nil (λ (y : ℕ). x ≢ y)
none_of x (n ∷ ns) h =
    All-cons (λ (y : ℕ). x ≢ y) n.variable (map (λ (n : Name). n.variable) ns)
    (λ same. let one : one_if (x == n.variable) ≡ 1 = ap one_if (eq-eqb x n.variable same) in
    omega (arith, one, h)) (none_of x ns (omega (arith, h)))

-- names that are counted once are different
pub different : (ns : List Name) → All (λ (n : Name). name_times n.variable ns ≤ 1) ns
    → AreDifferent (map (λ (n : Name). n.variable) ns)
different [] h = tt
different (m ∷ ns) h =
    let first = All-head (λ (n : Name). name_times n.variable (m ∷ ns) ≤ 1) m ns h in
    let one = occurs_once m.variable in (
      none_of m.variable ns (omega (arith, first, one)),
      different ns (All-weaker (λ (n : Name). name_times n.variable (m ∷ ns) ≤ 1)
          (λ (n : Name). name_times n.variable ns ≤ 1) (λ n k. omega (arith, k)) ns
          (All-tail (λ (n : Name). name_times n.variable (m ∷ ns) ≤ 1) m ns h)),
    )

-- a variable that occurs is counted
mutual
  occurs_counted : (x : ℕ) (p : Pattern) → OccursIn x p → 1 ≤ pattern_times x p
  occurs_counted x (variable y) h =
      let one : one_if (x == y) ≡ 1 = ap one_if (eq-eqb x y h) in omega (arith, one)
  occurs_counted x (domain_value s v) h = absurd h
  occurs_counted x (application f ps) h = all_occurs_counted x ps h
  occurs_counted x (injection a b p) h = occurs_counted x p h
  occurs_counted x (call f ns ps) h = all_occurs_counted x ps h

  pub all_occurs_counted : (x : ℕ) (ps : Patterns) → OccursInSome x ps → 1 ≤ patterns_times x ps
  all_occurs_counted x no_pattern h = absurd h
  all_occurs_counted x (more_patterns p ps) (inl here) =
      let one = occurs_counted x p here in omega (arith, one)
  all_occurs_counted x (more_patterns p ps) (inr later) =
      let one = all_occurs_counted x ps later in omega (arith, one)
