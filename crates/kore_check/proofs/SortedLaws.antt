-- The meaning of a pattern without faults has the pattern's sort.
use Rattle.std.proofs.Common.{◌≡◌, ◌<◌, ◌≤◌, ℕ, zero, suc, ◌+◌, ◌^◌, Bool, true, false, List, []}
use Rattle.std.proofs.Common.{◌∷◌, length, Option, Some, None, option_map, slice_get, Contains}
use Rattle.std.proofs.Common.{eq-eqb, refl, sym, ◌∙◌, ap, subst, arith, ◌⊎◌, inl, inr}
use Rattle.std.specs.Prelude.{ℤ, pos, neg_ℤ, ◌==◌, ◌&&◌, not, IsTrue, flat_map, nat_lt, nat_le}
use Rattle.std.specs.Option.{option_and_then}
use Rattle.std.specs.List.{position_from}
use Rattle.std.specs.Str.{bytes_eq, is_utf8}
use Rattle.std.proofs.lemmas.Bool.{eqb-true, false≢true, ltb-true, leb-true}
use Rattle.std.proofs.lemmas.Int.{ints}
use Rattle.std.proofs.lemmas.Option.{slice_get-map}
use Rattle.std.proofs.lemmas.List.Elements.{All-contains}
use Rattle.kore_text.specs.Trees.{SortTree}
use Rattle.term_core.specs.Terms.{DomainValue, integer, truth, text}
use Rattle.term_core.specs.Patterns.{Pattern, Patterns, application, call, no_pattern}
use Rattle.term_core.specs.Patterns.{more_patterns}
use Rattle.std.specs.Result.{result_ok}
use Rattle.term_core.specs.HookValues.{is_in_range, in_range}
use Rattle.rule_core.specs.Sorting.{HasSort, HaveSorts, IsSymbol, IsValueOf, sort_at, IsFunction}
use Rattle.rule_core.specs.Sorting.{AreSorts}
use Rattle.rule_core.specs.Subsorts.{IsBelow, is_below}
use Rattle.rule_core.specs.WellSorted.{IsSignature, IsReference, IsDeclaration}
use Rattle.rule_core.specs.declared.signature.Signature.{Signature}
use Rattle.rule_core.specs.declared.signature.SortInfo.{SortInfo}
use Rattle.rule_core.specs.declared.signature.SortKind.{SortKind}
use Rattle.rule_core.specs.declared.signature.SortKind.TheVariants as kind
use Rattle.rule_core.specs.declared.signature.SymInfo.{SymInfo}
use Rattle.rule_core.specs.declared.signature.SymKind.{SymKind}
use Rattle.rule_core.specs.declared.signature.SymKind.TheVariants.{Injection, Ctor, Equations}
use Rattle.rule_core.specs.declared.signature.SymKind.TheVariants.{Hooked, Closed, NoKind}
use Rattle.rule_core.specs.declared.signature.SortRef.{SortRef}
use Rattle.rule_core.specs.declared.signature.SortRef.TheVariants.{Param, Sort}
use Rattle.rule_core.proofs.AcSymbols.{symbol_found}
use Rattle.rule_core.proofs.Belows.{both_true, is_below-true}
use Rattle.kore_sig.specs.SortReferences.{sort_number}
use Rattle.kore_check.specs.Folds.{Unfolded, Unfoldeds, unfolded_byte, count}
use Rattle.kore_check.specs.Applicative.{IsApplicative, AreApplicative}
use Rattle.kore_check.specs.ValueTexts.{value_of_text, value_of_words, truth_of_text}
use Rattle.kore_check.specs.ValueTexts.{integer_of_text, not_negative, negated, number_of_digits}
use Rattle.kore_check.specs.PatternSorts.{sort_of_pattern, symbol_named, sort_numbers, number_then}
use Rattle.kore_check.specs.PatternSorts.{result_sort, wanted_sort, places_of}
use Rattle.kore_check.specs.PatternFaults.{pattern_faults, argument_faults, clash_faults}
use Rattle.kore_check.specs.PatternFaults.{sort_faults, symbol_faults, is_bad_injection}
use Rattle.rule_core.specs.KindTests.{is_injection}
use Rattle.kore_check.specs.PatternMeanings.{Means, by_variable, by_value, by_symbol, by_name}
use Rattle.kore_check.specs.PatternMeanings.{AllMean}
use Rattle.kore_check.specs.PatternMeanings.{none_mean, more_mean, applied_pattern, injected_only}
use Rattle.kore_check.specs.PatternMeanings.{variable_number}
use Rattle.kore_check.specs.SortedMeanings.{MeaningsAreSorted, variable_sorts}
use Rattle.kore_check.proofs.SortLaws.{wanted-at, sort_numbers-length, sort_number-within}
use Rattle.kore_check.proofs.BuildLaws.{head_sound, named_same, parts_empty, some_there}
use Rattle.kore_check.proofs.BuildLaws.{unless_empty, when_empty}
use Rattle.kore_check.proofs.CheckLaws.{faultless_sorted, some_or_none}
use Rattle.kore_check.proofs.NamedMeanings.{IsPartOf, part_cases, part_apart, variable_meaning}

-- ---- values

some_same : {X : Type 0} (x y : X) → Some x ≡ Some y → x ≡ y
some_same x y e = cc

kept_in_range : (z r : ℤ) → result_ok (in_range z) ≡ Some r → is_in_range r ≡ true
kept_in_range z r is = by_case (is_in_range z) refl where
  by_case : (t : Bool) → is_in_range z ≡ t → is_in_range r ≡ true
  by_case false e =
      absurd (let none : None ≡ Some r = rw e at is in let no_value : ⊥ = cc in no_value)
  by_case true e = subst (λ n. is_in_range n ≡ true) (some_same _ _ (rw e at is)) e

number_up : (o : Option ℕ) (z : ℤ) → not_negative o ≡ Some z → is_in_range z ≡ true
number_up None z is = absurd (let no_value : ⊥ = cc in no_value)
number_up (Some n) z is = kept_in_range (pos n) z is

number_down : (o : Option ℕ) (z : ℤ) → negated o ≡ Some z → is_in_range z ≡ true
number_down None z is = absurd (let no_value : ⊥ = cc in no_value)
number_down (Some n) z is = kept_in_range (neg_ℤ (pos n)) z is

integer_in_range : (bytes : List ℕ) (z : ℤ) → integer_of_text bytes ≡ Some z
    → is_in_range z ≡ true
integer_in_range [] z is = absurd (let no_value : ⊥ = cc in no_value)
integer_in_range (b ∷ bytes) z is = by_sign (b == 45) refl (b == 43) refl where
  by_sign : (minus : Bool) → (b == 45) ≡ minus → (plus : Bool) → (b == 43) ≡ plus
      → is_in_range z ≡ true
  by_sign true e plus f = number_down (number_of_digits bytes) z (rw e at is)
  by_sign false e true f = number_up (number_of_digits bytes) z (rw (e, f) at is)
  by_sign false e false f = number_up (number_of_digits (b ∷ bytes)) z (rw (e, f) at is)

words_valid : (bytes : List ℕ) (v : DomainValue) → value_of_words bytes ≡ Some v
    → (text bytes ≡ v) × IsTrue (is_utf8 bytes)
words_valid bytes v is = by_case (is_utf8 bytes) refl where
  by_case : (t : Bool) → is_utf8 bytes ≡ t → (text bytes ≡ v) × IsTrue (is_utf8 bytes)
  by_case false e =
      absurd (let none : None ≡ Some v = rw e at is in let no_value : ⊥ = cc in no_value)
  by_case true e = (some_same _ _ (rw e at is), e)

mapped : {X Y : Type 0} (f : X → Y) (o : Option X) (y : Y) → option_map f o ≡ Some y
    → (x : X) × (o ≡ Some x) × (f x ≡ y)
mapped f None y is = absurd (let no_value : ⊥ = cc in no_value)
mapped f (Some x) y is = (x, refl, some_same _ _ is)

value_sorted : (k : SortKind) (bytes : List ℕ) (v : DomainValue) → value_of_text k bytes ≡ Some v
    → IsValueOf k v
value_sorted kind.Int bytes v is =
    let found = mapped integer (integer_of_text bytes) v is in
    subst (IsValueOf kind.Int) found.2 (integer_in_range bytes found.0 found.1)
value_sorted kind.Bool bytes v is =
    let found = mapped truth (truth_of_text bytes) v is in subst (IsValueOf kind.Bool) found.2 tt
value_sorted kind.Map bytes v is =
    let found = words_valid bytes v is in subst (IsValueOf kind.Map) found.0 found.1
value_sorted kind.Other bytes v is =
    let found = words_valid bytes v is in subst (IsValueOf kind.Other) found.0 found.1

-- ---- variables

pub position_found : {X : Type 0} (test : X → Bool) (n k : ℕ) (xs : List X)
    → position_from test n xs ≡ Some k
    → (j : ℕ) × (k ≡ n + j) × ((x : X) × (slice_get xs j ≡ Some x) × (test x ≡ true))
position_found test n k [] is = absurd (let no_place : ⊥ = cc in no_place)
position_found {X} test n k (x ∷ xs) is =
    by_case (λ e. position_found test (n + 1) k xs e) (test x) refl
  where
    by_case : (position_from test (n + 1) xs ≡ Some k
        → (j : ℕ) × (k ≡ n + 1 + j) × ((y : X) × (slice_get xs j ≡ Some y) × (test y ≡ true)))
        → (t : Bool) → test x ≡ t
        → (j : ℕ) × (k ≡ n + j) × ((y : X) × (slice_get (x ∷ xs) j ≡ Some y) × (test y ≡ true))
    by_case rest true e = (
      zero,
      (let here : Some n ≡ Some k = rw e at is in omega (arith, some_same n k here)),
      (x, refl, e),
    )
    by_case rest false e =
        let later = rest (rw e at is) in (suc later.0, omega (arith, later.1), later.2)

variable_sorted : (vars : List (List ℕ × ℕ)) (name : List ℕ) (s x : ℕ)
    → variable_number vars name s ≡ Some x → slice_get (variable_sorts vars) x ≡ Some s
variable_sorted vars name s x is =
    let found = position_found (λ (v : List ℕ × ℕ). bytes_eq name v.0 && (s == v.1)) 0 x vars is in
    let same : s ≡ found.2.0.1 = eqb-true s _ ((both_true _ _ found.2.2).1) in
    let at : x ≡ found.0 = omega (arith, found.1) in
    slice_get-map (λ (v : List ℕ × ℕ). v.1) vars x
    ∙ ap (option_map (λ (v : List ℕ × ℕ). v.1)) (ap (slice_get vars) at ∙ found.2.1)
    ∙ ap (λ (n : ℕ). Some n) (sym same)

-- ---- symbols

empty_list : (ns : List ℕ) → length ns ≡ 0 → ns ≡ []
empty_list [] e = refl
empty_list (n ∷ ns) e = absurd (omega (arith, e))

injection_sorted : (sig : Signature) (V : List ℕ) (f : ℕ) (info : SymInfo) (ns : List ℕ)
    (ps : Patterns) (p : Pattern) (s : ℕ) → IsSignature sig → IsSymbol sig f info
    → info.kind ≡ Injection → sort_at ns info.result ≡ Some s
    → HaveSorts sig V ns ps info.args.items
    → ((a b : ℕ) → ns ≡ a ∷ b ∷ [] → IsBelow sig.subsorts a b) → injected_only ns ps ≡ Some p
    → HasSort sig V p s
injection_sorted sig V f info [] ps p s good symbol is to sorted below made =
    absurd (let no_value : ⊥ = cc in no_value)
injection_sorted sig V f info (a ∷ []) ps p s good symbol is to sorted below made =
    absurd (let no_value : ⊥ = cc in no_value)
injection_sorted sig V f info (a ∷ b ∷ d ∷ ns) ps p s good symbol is to sorted below made =
    absurd (let no_value : ⊥ = cc in no_value)
injection_sorted sig V f info (a ∷ b ∷ []) no_pattern p s good symbol is to sorted below made =
    absurd (let no_value : ⊥ = cc in no_value)
injection_sorted sig V f info (a ∷ b ∷ []) (more_patterns q (more_patterns r ps)) p s good symbol is
    to sorted below made =
    absurd (let no_value : ⊥ = cc in no_value)
injection_sorted sig V f info (a ∷ b ∷ []) (more_patterns q no_pattern) p s good symbol is to sorted
    below made =
    let form = good.injections f info symbol is in
    let whole : sort_at (a ∷ b ∷ []) (Param 1) ≡ Some s =
    sym (ap (sort_at (a ∷ b ∷ [])) form.result) ∙ to in
    let only : HaveSorts sig V (a ∷ b ∷ []) (more_patterns q no_pattern) (Param 0 ∷ []) =
    subst (λ (refs : List SortRef).
    HaveSorts sig V (a ∷ b ∷ []) (more_patterns q no_pattern) refs) form.argument
    sorted in
    let inner : HasSort sig V q a =
    subst (HasSort sig V q) (sym (some_same a only.0 only.1)) only.2 in
    subst (λ (r : Pattern). HasSort sig V r s) (some_same _ _ made)
    ((f, info, symbol, is), some_same b s whole, below a b refl, inner)

call_sorted : (sig : Signature) (V : List ℕ) (f : ℕ) (info : SymInfo) (ns : List ℕ) (ps : Patterns)
    (p : Pattern) (s : ℕ) → IsSymbol sig f info → IsFunction info.kind → length ns ≡ info.params
    → AreSorts sig ns → sort_at ns info.result ≡ Some s → HaveSorts sig V ns ps info.args.items
    → Some (call f ns ps) ≡ Some p → HasSort sig V p s
call_sorted sig V f info ns ps p s symbol fun count sorts to sorted made =
    subst (λ (r : Pattern). HasSort sig V r s) (some_same _ _ made)
    (info, symbol, fun, count, sorts, to, sorted)

symbol_sorted : (sig : Signature) (V : List ℕ) (f : ℕ) (info : SymInfo) (ns : List ℕ)
    (ps : Patterns) (p : Pattern) (s : ℕ) → IsSignature sig → IsSymbol sig f info
    → length ns ≡ info.params → AreSorts sig ns → sort_at ns info.result ≡ Some s
    → HaveSorts sig V ns ps info.args.items
    → ((a b : ℕ) → info.kind ≡ Injection → ns ≡ a ∷ b ∷ [] → IsBelow sig.subsorts a b)
    → (k : SymKind) → info.kind ≡ k → applied_pattern k f ns ps ≡ Some p → HasSort sig V p s
symbol_sorted sig V f info ns ps p s good symbol count sorts to sorted below Injection is made =
    injection_sorted sig V f info ns ps p s good symbol is to sorted (λ a b e. below a b is e) made
symbol_sorted sig V f info ns ps p s good symbol count sorts to sorted below Ctor is made =
    let none : ns ≡ [] = empty_list ns (count ∙ good.constructors f info symbol is) in
    let made_of : HasSort sig V (application f ps) s = (
      info,
      symbol,
      is,
      subst (λ (ms : List ℕ). sort_at ms info.result ≡ Some s) none to,
      subst (λ (ms : List ℕ). HaveSorts sig V ms ps info.args.items) none sorted,
    ) in
    subst (λ (r : Pattern). HasSort sig V r s) (some_same _ _ made) made_of
symbol_sorted sig V f info ns ps p s good symbol count sorts to sorted below Equations is made =
    call_sorted sig V f info ns ps p s symbol (subst IsFunction (sym is) tt) count sorts to sorted
    made
symbol_sorted sig V f info ns ps p s good symbol count sorts to sorted below (Hooked row) is made =
    call_sorted sig V f info ns ps p s symbol (subst IsFunction (sym is) tt) count sorts to sorted
    made
symbol_sorted sig V f info ns ps p s good symbol count sorts to sorted below Closed is made =
    call_sorted sig V f info ns ps p s symbol (subst IsFunction (sym is) tt) count sorts to sorted
    made
symbol_sorted sig V f info ns ps p s good symbol count sorts to sorted below NoKind is made =
    absurd (let no_value : ⊥ = cc in no_value)

numbers_are_sorts : (sig : Signature) (ss : List SortTree) (ns : List ℕ)
    → sort_numbers sig ss ≡ Some ns → AreSorts sig ns
numbers_are_sorts sig [] [] is = tt
numbers_are_sorts sig [] (n ∷ ns) is = absurd (let no_numbers : ⊥ = cc in no_numbers)
numbers_are_sorts sig (s ∷ ss) ns is =
    by_case (λ ms e. numbers_are_sorts sig ss ms e) (sort_number sig.sorts s) refl
    (sort_numbers sig ss) refl
  where
    by_case : ((ms : List ℕ) → sort_numbers sig ss ≡ Some ms → AreSorts sig ms) → (o : Option ℕ)
        → sort_number sig.sorts s ≡ o → (more : Option (List ℕ)) → sort_numbers sig ss ≡ more
        → AreSorts sig ns
    by_case rest None e more f =
        let both : number_then None more ≡ Some ns =
        ap (λ o. number_then o more) (sym e)
        ∙ ap (λ m. number_then (sort_number sig.sorts s) m) (sym f) ∙ is in
        absurd (let no_numbers : ⊥ = cc in no_numbers)
    by_case rest (Some n) e None f =
        let both : number_then (Some n) None ≡ Some ns =
        ap (λ o. number_then o None) (sym e)
        ∙ ap (λ m. number_then (sort_number sig.sorts s) m) (sym f) ∙ is in
        absurd (let no_numbers : ⊥ = cc in no_numbers)
    by_case rest (Some n) e (Some ms) f =
        let both : number_then (Some n) (Some ms) ≡ Some ns =
        ap (λ o. number_then o (Some ms)) (sym e)
        ∙ ap (λ m. number_then (sort_number sig.sorts s) m) (sym f) ∙ is in
        subst (AreSorts sig) (some_same _ _ both) (sort_number-within sig.sorts s n e, rest ms f)

not_astray : (sig : Signature) (k : SymKind) (a b : ℕ)
    → (is_injection k && is_bad_injection sig (Some (a ∷ b ∷ []))) ≡ false → k ≡ Injection
    → IsBelow sig.subsorts a b
not_astray sig k a b e is = by_case (is_below sig.subsorts a b) refl where
  by_case : (t : Bool) → is_below sig.subsorts a b ≡ t → IsBelow sig.subsorts a b
  by_case true h = is_below-true sig.subsorts a b h
  by_case false h =
      absurd (false≢true (sym (sym (ap
      (λ (x : SymKind). is_injection x && is_bad_injection sig (Some (a ∷ b ∷ []))) is
      ∙ ap not h) ∙ e)))

value_there : (bytes : List ℕ) (v : DomainValue) (o : Option (List ℕ × SortInfo))
    → option_and_then (λ k. value_of_text k bytes)
    (option_map (λ (e : List ℕ × SortInfo). e.1.kind) o) ≡ Some v
    → (name : List ℕ) × ((info : SortInfo) × (o ≡ Some (name, info)) × IsValueOf info.kind v)
value_there bytes v None is = absurd (let no_value : ⊥ = cc in no_value)
value_there bytes v (Some (name, info)) is = (name, (info, refl, value_sorted info.kind bytes v is))

place_there : (sig : Signature) (ns : List ℕ) (n : ℕ) (of : SortRef) → IsReference sig n of
    → length ns ≡ n → sort_at ns of ≡ None → ⊥
place_there sig ns n (Param i) there count_is none =
    some_there ns i (omega (arith, there, count_is)) none
place_there sig ns n (Sort s) there count_is none = let no_sort : ⊥ = cc in no_sort

no_clash : (byte own wanted : ℕ) → clash_faults byte (Some own) (Some wanted) ≡ [] → own ≡ wanted
no_clash byte own wanted e = eqb-true own wanted (unless_empty (own == wanted) 9 byte e)

result_is : (info : SymInfo) (ss : List SortTree) (ns : List ℕ) (s : ℕ) → length ss ≡ info.params
    → result_sort (Some info) ss (Some ns) ≡ Some s → sort_at ns info.result ≡ Some s
result_is info ss ns s many is =
    let same : (length ss == info.params) ≡ true = eq-eqb _ _ many in rw same at is

mutual
  means_form : (sig : Signature) (vars : List (List ℕ × ℕ)) {u : Unfolded} {p : Pattern}
      → Means sig vars u p → IsApplicative u
  means_form sig vars (by_variable a b) = tt
  means_form sig vars (by_value a b) = tt
  means_form sig vars (by_symbol a b all d) = all_form sig vars all
  means_form sig vars (by_name {p = p} {q = q} {r = r} first second part) = (
    λ same. part_apart p q r part (variable_meaning sig vars first ∙ same
        ∙ sym (variable_meaning sig vars second)),
    means_form sig vars first,
    means_form sig vars second,
  )

  all_form : (sig : Signature) (vars : List (List ℕ × ℕ)) {us : Unfoldeds} {ps : Patterns}
      → AllMean sig vars us ps → AreApplicative us
  all_form sig vars none_mean = tt
  all_form sig vars (more_mean first rest) = (means_form sig vars first, all_form sig vars rest)

part_sorted : (sig : Signature) (V : List ℕ) (p q r : Pattern) (s : ℕ) → IsPartOf p q r
    → HasSort sig V p s → HasSort sig V q s → HasSort sig V r s
part_sorted sig V p q r s (inl second) of_first of_second =
    subst (λ (x : Pattern). HasSort sig V x s) second.2 of_second
part_sorted sig V p q r s (inr first) of_first of_second =
    subst (λ (x : Pattern). HasSort sig V x s) first.2 of_first

-- a pattern of an `\and` without a clash has the sort of the `\and`
sort_in_pair : (sig : Signature) (u : Unfolded) (own s : ℕ) (wanted : Option ℕ)
    → sort_of_pattern sig u ≡ Some own → wanted ≡ Some s
    → clash_faults (unfolded_byte u) (sort_of_pattern sig u) wanted ≡ []
    → sort_of_pattern sig u ≡ Some s
sort_in_pair sig u own s wanted known is clear =
    known
    ∙ ap (λ (n : ℕ). Some n) (no_clash (unfolded_byte u) own s
    (ap (λ o. clash_faults (unfolded_byte u) o (Some s)) (sym known)
    ∙ ap (λ o. clash_faults (unfolded_byte u) (sort_of_pattern sig u) o) (sym is) ∙ clear))

mutual
  sorted : (sig : Signature) (good : IsSignature sig) (vars : List (List ℕ × ℕ)) (s : ℕ)
      {u : Unfolded} {p : Pattern} → pattern_faults sig u ≡ [] → Means sig vars u p
      → sort_of_pattern sig u ≡ Some s → HasSort sig (variable_sorts vars) p s
  sorted sig good vars s e (by_variable {x = x} {s = n} {name = name} number var) is =
      variable_sorted vars name s x (subst (λ (m : ℕ). variable_number vars name m ≡ Some x)
      (some_same n s (sym number ∙ is)) var)
  sorted sig good vars s e (by_value {s = n} {text = bytes} {v = v} number value) is =
      let found = value_there bytes v (slice_get sig.sorts n) value in
      (some_same n s (sym number ∙ is), (found.0, found.1.0, found.1.1, found.1.2))
  sorted sig good vars s e (by_name {tree = tree} {u = u} {w = w} {p = p} {q = q} {r = r} first
      second part) is =
      let parts = parts_empty (sort_faults sig tree) _ e in
      let lower = parts_empty (pattern_faults sig u) _ parts.1 in
      let after =
      parts_empty (clash_faults (unfolded_byte u) (sort_of_pattern sig u)
      (sort_number sig.sorts tree)) _ lower.1 in
      let upper = parts_empty (pattern_faults sig w) _ after.1 in
      let one =
      some_or_none (sort_of_pattern sig u)
      (faultless_sorted sig u good (means_form sig vars first) lower.0) in
      let two =
      some_or_none (sort_of_pattern sig w)
      (faultless_sorted sig w good (means_form sig vars second) upper.0) in
      let of_first : HasSort sig (variable_sorts vars) p s =
      sorted sig good vars s lower.0 first
      (sort_in_pair sig u one.0 s (sort_number sig.sorts tree) one.1 is after.0) in
      let of_second : HasSort sig (variable_sorts vars) q s =
      sorted sig good vars s upper.0 second
      (sort_in_pair sig w two.0 s (sort_number sig.sorts tree) two.1 is upper.1) in
      part_sorted sig (variable_sorts vars) p q r s (part_cases p q r part) of_first of_second
  sorted sig good vars s e (by_symbol {byte = byte} {f = f} {name = name} {ss = ss} {us = us}
      {ns = ns} {ps = ps} {p = p} {info = info} named numbers all made) is =
      let parts = parts_empty (flat_map (sort_faults sig) ss) _ e in
      let more =
      parts_empty (symbol_faults sig byte (symbol_named sig name) ss (count us)) _ (parts.1) in
      let sound = head_sound sig byte name ss (count us) parts.0 more.0 in
      let same : sound.info ≡ info = named_same sig name f info sound.info named sound.named in
      let symbol : IsSymbol sig f info = symbol_found sig f info (sym named.1) in
      let there : symbol_named sig name ≡ Some info =
      sound.named ∙ ap (λ (i : SymInfo). Some i) same in
      let params : length ss ≡ info.params =
      sound.parameters ∙ ap (λ (i : SymInfo). i.params) same in
      let length_is : length ns ≡ info.params = sort_numbers-length sig ss ns numbers ∙ params in
      let to : sort_at ns info.result ≡ Some s =
      result_is info ss ns s params (ap (λ o. result_sort (Some info) ss o) (sym numbers)
      ∙ ap (λ o. result_sort o ss (sort_numbers sig ss)) (sym there) ∙ is) in
      let args : argument_faults sig ss info.args.items us ≡ [] =
      ap (λ o. argument_faults sig ss (places_of o) us) (sym there) ∙ more.1 in
      let at_symbol : symbol_faults sig byte (Some info) ss (count us) ≡ [] =
      ap (λ o. symbol_faults sig byte o ss (count us)) (sym there) ∙ more.0 in
      let astray : (is_injection info.kind && is_bad_injection sig (sort_numbers sig ss)) ≡ false =
      when_empty _ 9 byte ((parts_empty _ _ ((parts_empty _ _ at_symbol).0)).1) in
      let declared : IsDeclaration sig info = good.declared f info symbol in
      let have : HaveSorts sig (variable_sorts vars) ns ps info.args.items =
      all_sorted sig good vars ss ns info.params info.args.items numbers length_is
      (λ of known. All-contains
      (IsReference sig info.params) info.args.items of declared.arguments known) args
      all (sound.arguments ∙ ap (λ (i : SymInfo). length i.args.items) same) in
      symbol_sorted sig (variable_sorts vars) f info ns ps p s good symbol length_is
      (numbers_are_sorts sig ss ns numbers) to have
      (λ a b kind_is two. not_astray sig info.kind a b (ap
      (λ (o : Option (List ℕ)). is_injection info.kind && is_bad_injection sig o)
      (sym (numbers ∙ ap (λ (ms : List ℕ). Some ms) two)) ∙ astray) kind_is)
      info.kind refl made

  all_sorted : (sig : Signature) (good : IsSignature sig) (vars : List (List ℕ × ℕ))
      (ss : List SortTree) (ns : List ℕ) (n : ℕ) (refs : List SortRef) {us : Unfoldeds}
      {ps : Patterns} → sort_numbers sig ss ≡ Some ns → length ns ≡ n
      → ((of : SortRef) → Contains refs of → IsReference sig n of)
      → argument_faults sig ss refs us ≡ [] → AllMean sig vars us ps → count us ≡ length refs
      → HaveSorts sig (variable_sorts vars) ns ps refs
  all_sorted sig good vars ss ns n [] numbers count_is there e none_mean many = tt
  all_sorted sig good vars ss ns n (of ∷ refs) numbers count_is there e none_mean many =
      absurd (omega (arith, many))
  all_sorted sig good vars ss ns n [] numbers count_is there e (more_mean first rest) many =
      absurd (omega (arith, many))
  all_sorted sig good vars ss ns n (of ∷ refs) numbers count_is there e
      (more_mean {u = u} {us = us} {p = p} {ps = ps} first rest) many =
      let parts = parts_empty (pattern_faults sig u) _ e in
      let more =
      parts_empty (clash_faults (unfolded_byte u) (sort_of_pattern sig u) (wanted_sort sig ss of)) _
      (parts.1) in
      let wanted : (w : ℕ) × (sort_at ns of ≡ Some w) =
      some_or_none (sort_at ns of)
      (place_there sig ns n of (there of (0, omega arith, refl)) count_is) in
      let own : (w : ℕ) × (sort_of_pattern sig u ≡ Some w) =
      some_or_none (sort_of_pattern sig u)
      (faultless_sorted sig u good (means_form sig vars first) parts.0) in
      let equal : own.0 ≡ wanted.0 =
      no_clash (unfolded_byte u) own.0 wanted.0 (ap
      (λ o. clash_faults (unfolded_byte u) o (Some wanted.0)) (sym own.1)
      ∙ ap (λ o. clash_faults (unfolded_byte u) (sort_of_pattern sig u) o)
      (sym (sym (wanted-at sig ss ns of numbers) ∙ wanted.1)) ∙ more.0) in (
        wanted.0,
        wanted.1,
        sorted sig good vars wanted.0 parts.0 first (own.1 ∙ ap (λ (m : ℕ). Some m) equal),
        all_sorted sig good vars ss ns n refs numbers count_is
            (λ r known. there r (suc known.0, omega (arith, known.1), known.2)) more.1 rest
            (omega (arith, many)),
      )

pub meanings_are_sorted : MeaningsAreSorted
meanings_are_sorted sig vars u p s good e means is = sorted sig good vars s e means is
