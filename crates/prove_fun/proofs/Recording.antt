-- Records of evaluations, part by part, and the sorts of their results.
use Rattle.std.proofs.Common.{◌≡◌, ◌<◌, ◌≤◌, ℕ, zero, suc, List, [], ◌∷◌, length, Option, Some}
use Rattle.std.proofs.Common.{None, get_or, refl, sym, ◌∙◌, ap, subst, arith, inl, inr, slice_get}
use Rattle.std.specs.Prelude.{◌⊎◌, IsNone, IsSome, IfSome, All, take}
use Rattle.std.proofs.lemmas.List.{length-take-le}
use Rattle.std.proofs.lemmas.Option.{slice_get_within, get_or_from_slice_get}
use Rattle.term_core.specs.Terms.{Tree, Forest, leaf, node, height, heights, injected, DomainValue}
use Rattle.term_core.specs.Terms.{IsNormal, AreNormal}
use Rattle.term_core.specs.Patterns.{Pattern as RulePattern, Patterns as RulePatterns, variable}
use Rattle.term_core.specs.Patterns.{domain_value, application, injection, call}
use Rattle.term_core.specs.Patterns.{more_patterns, binding, ground_pattern}
use Rattle.term_core.specs.RulePatterns.{plain_pattern}
use Rattle.term_core.specs.PatternLists.{plain_patterns}
use Rattle.term_core.specs.declared.rule_patterns.RulePat.{RulePat}
use Rattle.rule_core.specs.Theories.{equations_of}
use Rattle.rule_core.specs.ProgramView.{theory_of}
use Rattle.rule_core.specs.declared.rules.Program.{Program}
use Rattle.rule_core.specs.Subsorts.{IsBelow}
use Rattle.rule_core.specs.Sorting.{HaveSorts, IsTermOf, HasInjection, IsSymbol}
use Rattle.rule_core.specs.MatchLaws.{AreTermsOf}
use Rattle.rule_core.specs.NamedParts.{Name}
use Rattle.rule_core.specs.Matching.{OccursInSome, RespectsSorts, MatchNamed}
use Rattle.rule_core.specs.RecordView.{misses}
use Rattle.rule_core.specs.Rules.{Equation, Guard}
use Rattle.rule_core.specs.Evaluation.{most_height, IsTrueValue, MatchesBy}
use Rattle.rule_core.specs.Records.{Record, RecordList, OptionalRecord, Miss, conditional}
use Rattle.rule_core.specs.Records.{no_match, condition_false, none_missed, AreMissed}
use Rattle.rule_core.specs.Records.{Records}
use Rattle.rule_core.specs.Records.{RecordAll, RecordsCondition, bound, itself, made}
use Rattle.rule_core.specs.Records.{injected_record, by_hook, by_equation, no_record, more_records}
use Rattle.rule_core.specs.Records.{result_of, results_of}
use Rattle.rule_core.specs.WellSorted.{IsWellSorted, IsEquationOf, IsCondition, HaveNames}
use Rattle.rule_core.specs.declared.signature.SortRef.{SortRef}
use Rattle.rule_core.specs.declared.signature.SymInfo.{SymInfo}
use Rattle.rule_core.proofs.EvaluationUnique.{same_symbol}
use Rattle.rule_core.proofs.EvaluationAnswers.{serves_match}
use Rattle.rule_core.proofs.Determined.{values_are_sorted, record_tells_value}
use Rattle.prove_term.specs.Filling.{filled, in_place}
use Rattle.prove_fun.specs.RecordParts.{children_of, listed, children}
use Rattle.prove_fun.specs.Evaluating.{IsSortedAndBound, IsRecorded, AreRecorded, IsHookCall}
use Rattle.prove_fun.specs.Missing.{IsFalseAt, IsMissedAt, AreMissedAt}
use Rattle.prove_fun.specs.Using.{IsUse}
use Rattle.prove_fun.proofs.Items.{item_taken}

-- ---- results

-- the result is a normal term of the pattern's sort, and not too high
pub result_good : (program : Program) (theta : List (Option Tree)) (p : RulePattern) (r : Record)
    (h : IsRecorded program theta p r)
    → IsTermOf program.sig (result_of r) h.sort × IsNormal (result_of r)
    × (height (result_of r) ≤ most_height)
result_good program theta p r h =
    let told = record_tells_value (theory_of program) theta p r h.records in
    values_are_sorted (theory_of program) told.0 told.1 told.2 h.variables theta p h.sort
    (result_of r) h.ready.well_sorted h.sorted h.serves told.3

-- ---- calls and their parts

first_same : (f g : ℕ) (ss rs : List ℕ) (ps qs : RulePatterns) → call g rs qs ≡ call f ss ps → f ≡ g
first_same f g ss rs ps qs e = cc

last_same : (f g : ℕ) (ss rs : List ℕ) (ps qs : RulePatterns) → call g rs qs ≡ call f ss ps
    → ps ≡ qs
last_same f g ss rs ps qs e = cc

-- ---- variables and values

same_variable : (x y : ℕ) → variable x ≡ variable y → x ≡ y
same_variable x y e = cc

pub variable_filled : (program : Program) (theta : List (Option Tree)) (x : ℕ) (r : Record)
    → Records (theory_of program) theta (variable x) r
    → filled theta (variable x) ≡ ground_pattern (result_of r)
variable_filled program theta x (bound y t) (is, there) =
    ap (in_place x) (ap (binding theta) (same_variable x y is) ∙ there)
variable_filled program theta x (itself t) (s, v, is, value) = absurd (let no : ⊥ = cc in no)
variable_filled program theta x (made f rs t) w = absurd (let e = w.1 in let no : ⊥ = cc in no)
variable_filled program theta x (injected_record a b r t) w =
    absurd (let e = w.1 in let no : ⊥ = cc in no)
variable_filled program theta x (by_hook f rs t) w = absurd (let e = w.6 in let no : ⊥ = cc in no)
variable_filled program theta x (by_equation f rs i sigma condition body missed) w =
    absurd (let e = w.4 in let no : ⊥ = cc in no)

same_value : (s t : ℕ) (v w : DomainValue) → domain_value s v ≡ domain_value t w → (s ≡ t) × (v ≡ w)
same_value s t v w e = (cc, cc)

pub value_filled : (program : Program) (theta : List (Option Tree)) (s : ℕ) (v : DomainValue)
    (r : Record) → Records (theory_of program) theta (domain_value s v) r
    → filled theta (domain_value s v) ≡ ground_pattern (result_of r)
value_filled program theta s v (bound y t) (is, there) = absurd (let no : ⊥ = cc in no)
value_filled program theta s v (itself t) (u, w, is, value) = is ∙ ap ground_pattern (sym value)
value_filled program theta s v (made f rs t) w = absurd (let e = w.1 in let no : ⊥ = cc in no)
value_filled program theta s v (injected_record a b r t) w =
    absurd (let e = w.1 in let no : ⊥ = cc in no)
value_filled program theta s v (by_hook f rs t) w = absurd (let e = w.6 in let no : ⊥ = cc in no)
value_filled program theta s v (by_equation f rs i sigma condition body missed) w =
    absurd (let e = w.4 in let no : ⊥ = cc in no)

-- ---- constructors

same_application : (f g : ℕ) (ps qs : RulePatterns) → application f ps ≡ application g qs
    → (g ≡ f) × (qs ≡ ps)
same_application f g ps qs e = (cc, cc)

application_made : (program : Program) (theta : List (Option Tree)) (f : ℕ) (ps : RulePatterns)
    (r : Record) → Records (theory_of program) theta (application f ps) r
    → (result_of r ≡ node f (results_of (children_of r)))
    × RecordAll (theory_of program) theta ps (children_of r)
application_made program theta f ps (bound y t) (is, there) = absurd (let no : ⊥ = cc in no)
application_made program theta f ps (itself t) (u, w, is, value) = absurd (let no : ⊥ = cc in no)
application_made program theta f ps (made g rs t) (qs, is, makes, low, all) =
    let same : (g ≡ f) × (qs ≡ ps) = same_application f g ps qs is in (
      makes ∙ ap (λ (k : ℕ). node k (results_of rs)) same.0,
      subst (λ (xs : RulePatterns). RecordAll (theory_of program) theta xs rs) same.1 all,
    )
application_made program theta f ps (injected_record a b r t) w =
    absurd (let e = w.1 in let no : ⊥ = cc in no)
application_made program theta f ps (by_hook g rs t) w =
    absurd (let e = w.6 in let no : ⊥ = cc in no)
application_made program theta f ps (by_equation g rs i sigma condition body missed) w =
    absurd (let e = w.4 in let no : ⊥ = cc in no)

pub constructor_recorded : (program : Program) (theta : List (Option Tree)) (f : ℕ)
    (ps : RulePatterns) (r : Record) → IsRecorded program theta (application f ps) r
    → (result_of r ≡ node f (results_of (children_of r)))
    × AreRecorded program theta ps (children_of r)
constructor_recorded program theta f ps r h =
    let m : (result_of r ≡ node f (results_of (children_of r))) × RecordAll (theory_of program)
    theta ps (children_of r) =
    application_made program theta f ps r h.records in (
      m.0,
      record {
        ready = h.ready;
        variables = h.variables;
        refs = h.sorted.0.args.items;
        sorted = h.sorted.4;
        bound = h.serves.bound;
        respects = h.serves.sorted;
        low = h.serves.low;
        records = m.1;
      },
    )

-- ---- injections

-- the record of the injected pattern
pub record IsInjection (program : Program) (theta : List (Option Tree)) (a b : ℕ) (p : RulePattern)
    (r : Record) : Type 0 where
  pub below : Record
  pub only : children r ≡ below ∷ []
  pub makes : result_of r ≡ injected a b (result_of below)
  pub recorded : IsRecorded program theta p below
  pub sorted : IsTermOf program.sig (result_of below) a
  pub injects : HasInjection program.sig × IsBelow program.sig.subsorts a b
  pub low : height (injected a b (result_of below)) ≤ most_height

same_injection : (a b c d : ℕ) (p q : RulePattern) → injection a b p ≡ injection c d q
    → (c ≡ a) × (d ≡ b) × (q ≡ p)
same_injection a b c d p q e = (cc, cc, cc)

injection_made : (program : Program) (theta : List (Option Tree)) (a b : ℕ) (p : RulePattern)
    (r : Record) → Records (theory_of program) theta (injection a b p) r
    → (q : Record) × (children_of r ≡ more_records q no_record)
    × (result_of r ≡ injected a b (result_of q)) × Records (theory_of program) theta p q
    × (height (result_of r) ≤ most_height)
injection_made program theta a b p (bound y t) (is, there) = absurd (let no : ⊥ = cc in no)
injection_made program theta a b p (itself t) (u, w, is, value) = absurd (let no : ⊥ = cc in no)
injection_made program theta a b p (made f rs t) w = absurd (let e = w.1 in let no : ⊥ = cc in no)
injection_made program theta a b p (injected_record c d q t) (x, is, i, makes, low, one) =
    let same : (c ≡ a) × (d ≡ b) × (x ≡ p) = same_injection a b c d p x is in (
      q,
      refl,
      makes
          ∙ ap (λ (k : ℕ). injected k d (result_of q)) same.0
          ∙ ap (λ (k : ℕ). injected a k (result_of q)) same.1,
      subst (λ (y : RulePattern). Records (theory_of program) theta y q) same.2 one,
      low,
    )
injection_made program theta a b p (by_hook f rs t) w =
    absurd (let e = w.6 in let no : ⊥ = cc in no)
injection_made program theta a b p (by_equation f rs i sigma condition body missed) w =
    absurd (let e = w.4 in let no : ⊥ = cc in no)

pub injection_recorded : (program : Program) (theta : List (Option Tree)) (a b : ℕ)
    (p : RulePattern) (r : Record) → IsRecorded program theta (injection a b p) r
    → IsInjection program theta a b p r
injection_recorded program theta a b p r h =
    let m = injection_made program theta a b p r h.records in
    let inner : IsRecorded program theta p m.0 = record {
      ready = h.ready;
      variables = h.variables;
      sort = a;
      sorted = h.sorted.3;
      serves = record { bound = h.serves.bound; sorted = h.serves.sorted; low = h.serves.low };
      records = m.3;
    } in
    record {
      below = m.0;
      only = ap listed m.1;
      makes = m.2;
      recorded = inner;
      sorted = (result_good program theta p m.0 inner).0;
      injects = (h.sorted.0, h.sorted.2);
      low = subst (λ (t : Tree). height t ≤ most_height) m.2 m.4;
    }

-- ---- arguments

pub as_many_records : (program : Program) (theta : List (Option Tree)) (args : List RulePat)
    (rs : RecordList) → RecordAll (theory_of program) theta (plain_patterns args) rs
    → length (listed rs) ≡ length args
as_many_records program theta [] no_record h = refl
as_many_records program theta (a ∷ args) no_record h = absurd (let no : ⊥ = cc in no)
as_many_records program theta [] (more_records r rs) (p, ps, is, one, rest) =
    absurd (let no : ⊥ = cc in no)
as_many_records program theta (a ∷ args) (more_records r rs) (p, ps, is, one, rest) =
    let same : plain_patterns args ≡ ps = cc in
    ap suc (as_many_records program theta args rs
    (subst (λ (xs : RulePatterns). RecordAll (theory_of program) theta xs rs) (sym same) rest))

same_record : (q r : Record) → Some q ≡ Some r → q ≡ r
same_record q r e = cc

no_item : {A : Type 0} (r : Record) → None ≡ Some r → A
no_item r e = absurd (let no : ⊥ = cc in no)

others_recorded : (program : Program) (theta : List (Option Tree)) (a : RulePat)
    (args : List RulePat) (r : Record) (rs : RecordList)
    → RecordAll (theory_of program) theta (plain_patterns (a ∷ args)) (more_records r rs)
    → Records (theory_of program) theta (plain_pattern a) r
    × RecordAll (theory_of program) theta (plain_patterns args) rs
others_recorded program theta a args r rs (p, ps, is, one, rest) =
    let first : plain_pattern a ≡ p = cc in
    let others : plain_patterns args ≡ ps = cc in (
      subst (λ (x : RulePattern). Records (theory_of program) theta x r) (sym first) one,
      subst (λ (xs : RulePatterns). RecordAll (theory_of program) theta xs rs) (sym others) rest,
    )

item_recorded : (program : Program) (variables : List ℕ) (theta : List (Option Tree))
    (args : List RulePat) (refs : List SortRef) (rs : RecordList) (i : ℕ) (p : RulePat)
    (r : Record) → IsSortedAndBound program → i < length args → p ≡ get_or args i p
    → slice_get (listed rs) i ≡ Some r
    → HaveSorts program.sig variables [] (plain_patterns args) refs
    → ((x : ℕ) → OccursInSome x (plain_patterns args) → IsSome (binding theta x))
    → RespectsSorts program.sig variables theta
    → ((x : ℕ) (t : Tree) → binding theta x ≡ Some t → height t ≤ most_height)
    → RecordAll (theory_of program) theta (plain_patterns args) rs
    → IsRecorded program theta (plain_pattern p) r
item_recorded program variables theta [] refs rs i p r ok low at there sorted stand respects lows
    all =
    absurd (omega (arith, low))
item_recorded program variables theta (a ∷ args) [] rs i p r ok low at there sorted stand respects
    lows all =
    absurd sorted
item_recorded program variables theta (a ∷ args) (of ∷ refs) no_record i p r ok low at there sorted
    stand respects lows all =
    no_item r there
item_recorded program variables theta (a ∷ args) (of ∷ refs) (more_records q rs) zero p r ok low at
    there sorted stand respects lows all =
    let first : Records (theory_of program) theta (plain_pattern a) q × RecordAll
    (theory_of program) theta (plain_patterns args) rs =
    others_recorded program theta a args q rs all in
    let P : RulePat → Record → Type 0 = λ x y. IsRecorded program theta (plain_pattern x) y in
    let one : IsRecorded program theta (plain_pattern a) q = record {
      ready = ok;
      variables = variables;
      sort = sorted.0;
      sorted = sorted.2;
      serves = record { bound = λ x stands. stand x (inl stands); sorted = respects; low = lows };
      records = first.0;
    } in
    subst (λ (x : RulePat). P x r) (sym at) (subst (P a) (same_record q r there) one)
item_recorded program variables theta (a ∷ args) (of ∷ refs) (more_records q rs) (suc i) p r ok low
    at there sorted stand respects lows all =
    item_recorded program variables theta args refs rs i p r ok (omega (arith, low)) at there
    sorted.3 (λ x stands. stand x (inr stands)) respects lows
    (others_recorded program theta a args q rs all).1

pub argument_recorded : (program : Program) (theta : List (Option Tree)) (args : List RulePat)
    (rs : RecordList) (i : ℕ) (p : RulePat) (r : Record)
    → AreRecorded program theta (plain_patterns args) rs → i < length args → p ≡ get_or args i p
    → slice_get (listed rs) i ≡ Some r → IsRecorded program theta (plain_pattern p) r
argument_recorded program theta args rs i p r h low at there =
    item_recorded program h.variables theta args h.refs rs i p r h.ready low at there h.sorted
    h.bound h.respects h.low h.records

-- ---- the results of arguments

record AreGood (program : Program) (ts : Forest) (refs : List SortRef) : Type 0 where
  sorted : AreTermsOf program.sig [] ts refs
  normal : AreNormal ts
  low : heights ts ≤ most_height

go_good : (program : Program) (variables : List ℕ) (theta : List (Option Tree)) (ps : RulePatterns)
    (refs : List SortRef) (rs : RecordList) → IsSortedAndBound program
    → HaveSorts program.sig variables [] ps refs
    → ((x : ℕ) → OccursInSome x ps → IsSome (binding theta x))
    → RespectsSorts program.sig variables theta
    → ((x : ℕ) (t : Tree) → binding theta x ≡ Some t → height t ≤ most_height)
    → RecordAll (theory_of program) theta ps rs → AreGood program (results_of rs) refs
go_good program variables theta ps [] no_record ok sorted stand respects lows all = record
    { sorted = tt; normal = tt; low = omega arith }
go_good program variables theta ps (of ∷ refs) no_record ok sorted stand respects lows all =
    absurd (subst (λ (qs : RulePatterns). HaveSorts program.sig variables [] qs (of ∷ refs)) all
    sorted)
go_good program variables theta ps [] (more_records r rs) ok sorted stand respects lows
    (q, qs, is, one, rest) =
    absurd (subst (λ (xs : RulePatterns). HaveSorts program.sig variables [] xs []) is sorted)
go_good program variables theta ps (of ∷ refs) (more_records r rs) ok sorted stand respects lows
    (q, qs, is, one, rest) =
    let sorts : HaveSorts program.sig variables [] (more_patterns q qs) (of ∷ refs) =
    subst (λ (xs : RulePatterns). HaveSorts program.sig variables [] xs (of ∷ refs)) is
    sorted in
    let stand' : (x : ℕ) → OccursInSome x (more_patterns q qs) → IsSome (binding theta x) =
    subst (λ (xs : RulePatterns). (x : ℕ) → OccursInSome x xs → IsSome (binding theta x)) is
    stand in
    let good : IsTermOf program.sig (result_of r) sorts.0 × IsNormal (result_of r) ×
    (height (result_of r) ≤ most_height) =
    result_good program theta q r (record {
      ready = ok;
      variables = variables;
      sort = sorts.0;
      sorted = sorts.2;
      serves = record { bound = λ x stands. stand' x (inl stands); sorted = respects; low = lows };
      records = one;
    }) in
    let others : AreGood program (results_of rs) refs =
    go_good program variables theta qs refs rs ok sorts.3 (λ x stands. stand' x (inr stands))
    respects lows rest in
    record {
      sorted = (sorts.0, sorts.1, good.0, others.sorted);
      normal = (good.1, others.normal);
      low = omega (arith, good.2, others.low);
    }

-- the results are normal terms of the declared sorts, and not too high
pub arguments_good : (program : Program) (theta : List (Option Tree)) (ps : RulePatterns)
    (rs : RecordList) (h : AreRecorded program theta ps rs)
    → AreTermsOf program.sig [] (results_of rs) h.refs × AreNormal (results_of rs)
    × (heights (results_of rs) ≤ most_height)
arguments_good program theta ps rs h =
    let g : AreGood program (results_of rs) h.refs =
    go_good program h.variables theta ps h.refs rs h.ready h.sorted h.bound h.respects h.low
    h.records in
    (g.sorted, g.normal, g.low)

-- ---- calls

empty_list : (xs : List ℕ) → length xs ≡ 0 → xs ≡ []
empty_list [] e = refl
empty_list (x ∷ xs) e = absurd (omega (arith, e))

call_made : (program : Program) (theta : List (Option Tree)) (f : ℕ) (sorts : List ℕ)
    (ps : RulePatterns) (r : Record) → IsWellSorted (theory_of program)
    → Records (theory_of program) theta (call f sorts ps) r
    → (info : SymInfo) × IsSymbol program.sig f info × (info.params ≡ 0)
    × RecordAll (theory_of program) theta ps (children_of r)
call_made program theta f sorts ps (bound y t) ok (is, there) = absurd (let no : ⊥ = cc in no)
call_made program theta f sorts ps (itself t) ok (u, w, is, value) = absurd (let no : ⊥ = cc in no)
call_made program theta f sorts ps (made g rs t) ok w =
    absurd (let e = w.1 in let no : ⊥ = cc in no)
call_made program theta f sorts ps (injected_record a b r t) ok w =
    absurd (let e = w.1 in let no : ⊥ = cc in no)
call_made program theta f sorts ps (by_hook g rs t) ok w =
    let same : g ≡ f = first_same g f w.0 sorts w.1 ps w.6 in
    let args : w.1 ≡ ps = last_same g f w.0 sorts w.1 ps w.6 in
    let there : IsSymbol program.sig f w.2 =
    subst (λ (n : ℕ). IsSymbol program.sig n w.2) same w.7 in (
      w.2,
      there,
      (ok.hooked f w.3 w.2 there w.8.hooked).plain,
      subst (λ (xs : RulePatterns). RecordAll (theory_of program) theta xs rs) args w.11,
    )
call_made program theta f sorts ps (by_equation g rs i sigma condition body missed) ok w =
    let same : g ≡ f = first_same g f w.0 sorts w.1 ps w.4 in
    let args : w.1 ≡ ps = last_same g f w.0 sorts w.1 ps w.4 in
    let there : IsSymbol program.sig f w.2 =
    subst (λ (n : ℕ). IsSymbol program.sig n w.2) same w.5 in (
      w.2,
      there,
      ok.functions f w.2 there w.6,
      subst (λ (xs : RulePatterns). RecordAll (theory_of program) theta xs rs) args w.10,
    )

-- a function has no sort parameters
pub call_recorded : (program : Program) (theta : List (Option Tree)) (f : ℕ) (sorts : List ℕ)
    (ps : RulePatterns) (r : Record) → IsRecorded program theta (call f sorts ps) r
    → (sorts ≡ []) × AreRecorded program theta ps (children_of r)
call_recorded program theta f sorts ps r h =
    let m : (info : SymInfo) × IsSymbol program.sig f info × (info.params ≡ 0) × RecordAll
    (theory_of program) theta ps (children_of r) =
    call_made program theta f sorts ps r h.ready.well_sorted h.records in
    let info : h.sorted.0 ≡ m.0 = same_symbol program.sig f h.sorted.0 m.0 h.sorted.1 m.1 in
    let none : sorts ≡ [] =
    empty_list sorts (h.sorted.3 ∙ ap (λ (i : SymInfo). i.params) info ∙ m.2) in (
      none,
      record {
        ready = h.ready;
        variables = h.variables;
        refs = h.sorted.0.args.items;
        sorted =
            subst (λ (ss : List ℕ). HaveSorts program.sig h.variables ss ps h.sorted.0.args.items)
            none h.sorted.6;
        bound = h.serves.bound;
        respects = h.serves.sorted;
        low = h.serves.low;
        records = m.3;
      },
    )

-- the result of a hook
pub hook_recorded : (program : Program) (theta : List (Option Tree)) (f : ℕ) (ps : RulePatterns)
    (r : Record) (g : ℕ) (rs : RecordList) (t : Tree) → r ≡ by_hook g rs t
    → IsRecorded program theta (call f [] ps) r
    → IsHookCall program.sig f (results_of (children_of r)) (result_of r)
unfolding call_recorded
hook_recorded program theta f ps r g rs t is h =
    subst (λ (q : Record). IsHookCall program.sig f (results_of (children_of q)) (result_of q))
    (sym is) (go (subst (IsRecorded program theta (call f [] ps)) is h))
  where
    go : IsRecorded program theta (call f [] ps) (by_hook g rs t)
        → IsHookCall program.sig f (results_of rs) t
    go h =
        let w = h.records in
        let same : g ≡ f = first_same g f w.0 [] w.1 ps w.6 in
        let there : IsSymbol program.sig f w.2 =
        subst (λ (n : ℕ). IsSymbol program.sig n w.2) same w.7 in
        let info : h.sorted.0 ≡ w.2 = same_symbol program.sig f h.sorted.0 w.2 h.sorted.1 there in
        let all : AreRecorded program theta ps rs =
        (call_recorded program theta f [] ps (by_hook g rs t) h).1 in
        let good : AreTermsOf program.sig [] (results_of rs) h.sorted.0.args.items =
        (arguments_good program theta ps rs all).0 in
        let value : IsTermOf program.sig (leaf w.5 w.4) h.sort =
        subst (λ (u : Tree). IsTermOf program.sig u h.sort) w.10
        (result_good program theta (call f [] ps) (by_hook g rs t) h).0 in
        record {
          info = w.2;
          there = there;
          row = w.3;
          fits = h.ready.well_sorted.hooked f w.3 w.2 there w.8.hooked;
          sorted =
              subst (λ (i : SymInfo). AreTermsOf program.sig [] (results_of rs) i.args.items) info
              good;
          value = w.4;
          answers = w.8;
          sort = w.5;
          at = w.9;
          has = value.1;
          result = w.10;
        }

pub bound_no_call : (program : Program) (theta : List (Option Tree)) (f : ℕ) (ps : RulePatterns)
    (r : Record) (x : ℕ) (t : Tree) → r ≡ bound x t → IsRecorded program theta (call f [] ps) r
    → ⊥
bound_no_call program theta f ps r x t is h =
    go (subst (Records (theory_of program) theta (call f [] ps)) is h.records)
  where
    go : Records (theory_of program) theta (call f [] ps) (bound x t) → ⊥
    go w = let e : call f [] ps ≡ variable x = w.0 in let no : ⊥ = cc in no

pub itself_no_call : (program : Program) (theta : List (Option Tree)) (f : ℕ) (ps : RulePatterns)
    (r : Record) (t : Tree) → r ≡ itself t → IsRecorded program theta (call f [] ps) r → ⊥
itself_no_call program theta f ps r t is h =
    go (subst (Records (theory_of program) theta (call f [] ps)) is h.records)
  where
    go : Records (theory_of program) theta (call f [] ps) (itself t) → ⊥
    go w = let e : call f [] ps ≡ domain_value w.0 w.1 = w.2 in let no : ⊥ = cc in no

pub made_no_call : (program : Program) (theta : List (Option Tree)) (f : ℕ) (ps : RulePatterns)
    (r : Record) (g : ℕ) (rs : RecordList) (t : Tree) → r ≡ made g rs t
    → IsRecorded program theta (call f [] ps) r → ⊥
made_no_call program theta f ps r g rs t is h =
    go (subst (Records (theory_of program) theta (call f [] ps)) is h.records)
  where
    go : Records (theory_of program) theta (call f [] ps) (made g rs t) → ⊥
    go w = let e : call f [] ps ≡ application g w.0 = w.1 in let no : ⊥ = cc in no

pub injected_no_call : (program : Program) (theta : List (Option Tree)) (f : ℕ) (ps : RulePatterns)
    (r : Record) (a b : ℕ) (q : Record) (t : Tree) → r ≡ injected_record a b q t
    → IsRecorded program theta (call f [] ps) r → ⊥
injected_no_call program theta f ps r a b q t is h =
    go (subst (Records (theory_of program) theta (call f [] ps)) is h.records)
  where
    go : Records (theory_of program) theta (call f [] ps) (injected_record a b q t) → ⊥
    go w = let e : call f [] ps ≡ injection a b w.0 = w.1 in let no : ⊥ = cc in no

-- ---- the use of an equation

pub all_at : {X : Type 0} (P : X → Type 0) (xs : List X) (i : ℕ) (x : X) → All P xs
    → slice_get xs i ≡ Some x → P x
all_at P xs i x each there =
    subst P (get_or_from_slice_get xs i x x there) (each i x (slice_get_within xs i x there))

-- the record of the condition of an equation that matches
pub condition_recorded : (program : Program) (sigma : List (Option Tree)) (variables : List ℕ)
    (ps : RulePatterns) (names : List Name) (ts : Forest) (p : RulePattern) (q : Record)
    → IsSortedAndBound program
    → HaveNames program.sig variables ps names → IsCondition program.sig variables ps names p
    → MatchNamed program.sig variables ps names ts sigma → heights ts ≤ most_height
    → Records (theory_of program) sigma p q
    → (h : IsRecorded program sigma p q) × (h.variables ≡ variables)
condition_recorded program sigma variables ps names ts p q ready named has matches low records = (
  record {
    ready = ready;
    variables = variables;
    sort = has.0;
    sorted = has.5;
    serves = serves_match program.sig variables ps names ts sigma p named matches low has.6;
    records = records;
  },
  refl,
)

pub held_record : (program : Program) (sigma : List (Option Tree)) (variables : List ℕ)
    (ps : RulePatterns) (names : List Name) (ts : Forest) (p : RulePattern) (q : Record)
    (c : Option RulePattern) (o : OptionalRecord) → IsSortedAndBound program
    → HaveNames program.sig variables ps names → IsCondition program.sig variables ps names p
    → MatchNamed program.sig variables ps names ts sigma → heights ts ≤ most_height → c ≡ Some p
    → o ≡ conditional q → RecordsCondition (theory_of program) sigma c o
    → (h : IsRecorded program sigma p q) × (h.variables ≡ variables) × IsTrueValue (result_of q)
held_record program sigma variables ps names ts p q c o ready named has matches low is_c is_o held =
    let w : RecordsCondition (theory_of program) sigma (Some p) (conditional q) =
    subst (λ (x : Option RulePattern).
    RecordsCondition (theory_of program) sigma x (conditional q)) is_c
    (subst (RecordsCondition (theory_of program) sigma c) is_o held) in
    let same : p ≡ w.0 = some_pattern p w.0 w.1 in
    let made =
    condition_recorded program sigma variables ps names ts p q ready named has matches low
    (subst (λ (x : RulePattern). Records (theory_of program) sigma x q) (sym same) w.2) in
    (made.0, made.1, w.3)
  where
    some_pattern : (p q : RulePattern) → Some p ≡ Some q → p ≡ q
    some_pattern p q e = cc

-- ---- equations that are missed

same_item : (m n : Miss) → Some m ≡ Some n → m ≡ n
same_item m n e = cc

-- what an entry says of its equation
missed_item : (program : Program) (info : SymInfo) (ts : Forest) (e : Equation)
    (sigma : List (Option Tree)) (p : RulePattern) (r : Record) → IsSortedAndBound program
    → IsEquationOf program.sig info e → heights ts ≤ most_height
    → MatchesBy (theory_of program) e ts sigma → e.condition ≡ Some p
    → Records (theory_of program) sigma p r → (IsTrueValue (result_of r) → ⊥)
    → IsFalseAt program e ts sigma r
missed_item program info ts e sigma p r ready fits low matches is records untrue =
    let has : IsCondition program.sig e.variables e.arguments e.names p =
    subst (λ (x : Option RulePattern).
    IfSome x (IsCondition program.sig e.variables e.arguments e.names)) is fits.condition in
    let made =
    condition_recorded program sigma e.variables e.arguments e.names ts p r ready fits.names has
    matches low records in
    record {
      matches = matches;
      condition = p;
      conditional = is;
      recorded = made.0;
      own = made.1;
      untrue = untrue;
    }

-- each entry says that the equation at its place is missed
missed_items : (program : Program) (info : SymInfo) (ts : Forest) (es : List Equation)
    (ms : List Miss) → IsSortedAndBound program
    → ((j : ℕ) (e : Equation) → slice_get es j ≡ Some e → IsEquationOf program.sig info e)
    → heights ts ≤ most_height → AreMissed (theory_of program) es ts (misses ms)
    → (length ms ≡ length es) × ((j : ℕ) (m : Miss) → slice_get ms j ≡ Some m
    → (e : Equation) × (slice_get es j ≡ Some e) × IsMissedAt program e ts m)
missed_items program info ts es [] ready fits low are =
    (ap length (sym are), λ j m there. absurd (let no : ⊥ = cc in no))
missed_items program info ts es (no_match ∷ ms) ready fits low (e, others, is, unmatched, rest) =
    let fit : (j : ℕ) (x : Equation) → slice_get others j ≡ Some x
    → IsEquationOf program.sig info x =
    λ j x there. fits (suc j) x (ap (λ (xs : List Equation). slice_get xs (suc j)) is ∙ there) in
    let more = missed_items program info ts others ms ready fit low rest in
    (ap suc more.0 ∙ ap length (sym is), go more.1)
  where
    go : ((j : ℕ) (m : Miss) → slice_get ms j ≡ Some m
        → (x : Equation) × (slice_get others j ≡ Some x) × IsMissedAt program x ts m)
        → (j : ℕ) (m : Miss) → slice_get (no_match ∷ ms) j ≡ Some m
        → (x : Equation) × (slice_get es j ≡ Some x) × IsMissedAt program x ts m
    go more zero m there = (
      e,
      ap (λ (xs : List Equation). slice_get xs zero) is,
      subst (IsMissedAt program e ts) (same_item no_match m there) unmatched,
    )
    go more (suc j) m there =
        let w = more j m there in
        (w.0, ap (λ (xs : List Equation). slice_get xs (suc j)) is ∙ w.1, w.2)
missed_items program info ts es (condition_false sigma r ∷ ms) ready fits low
    (e, others, q, is, matches, condition, records, untrue, rest) =
    let fit : (j : ℕ) (x : Equation) → slice_get others j ≡ Some x
    → IsEquationOf program.sig info x =
    λ j x there. fits (suc j) x (ap (λ (xs : List Equation). slice_get xs (suc j)) is ∙ there) in
    let one : IsFalseAt program e ts sigma r =
    missed_item program info ts e sigma q r ready
    (fits zero e (ap (λ (xs : List Equation). slice_get xs zero) is)) low matches condition records
    untrue in
    let more = missed_items program info ts others ms ready fit low rest in
    (ap suc more.0 ∙ ap length (sym is), go one more.1)
  where
    go : IsFalseAt program e ts sigma r → ((j : ℕ) (m : Miss) → slice_get ms j ≡ Some m
        → (x : Equation) × (slice_get others j ≡ Some x) × IsMissedAt program x ts m)
        → (j : ℕ) (m : Miss) → slice_get (condition_false sigma r ∷ ms) j ≡ Some m
        → (x : Equation) × (slice_get es j ≡ Some x) × IsMissedAt program x ts m
    go one more zero m there = (
      e,
      ap (λ (xs : List Equation). slice_get xs zero) is,
      subst (IsMissedAt program e ts) (same_item (condition_false sigma r) m there) one,
    )
    go one more (suc j) m there =
        let w = more j m there in
        (w.0, ap (λ (xs : List Equation). slice_get xs (suc j)) is ∙ w.1, w.2)

-- what the entries of a use say
record AreMisses (program : Program) (f : ℕ) (ts : Forest) (i : ℕ) (o : Option (List Guard))
    (ms : List Miss) : Type 0 where
  missed : AreMissedAt program f ts ms
  all_missed : IfSome o (λ (gs : List Guard). length ms ≡ i)

missed_before : (program : Program) (f : ℕ) (info : SymInfo) (ts : Forest) (i : ℕ) (e : Equation)
    (ms : List Miss) → IsSortedAndBound program
    → ((j : ℕ) (x : Equation) → slice_get (equations_of (theory_of program) f) j ≡ Some x
    → IsEquationOf program.sig info x)
    → heights ts ≤ most_height
    → slice_get (equations_of (theory_of program) f) i ≡ Some e
    → (IsNone e.last_resort × (misses ms ≡ none_missed)) ⊎ (IsSome e.last_resort
    × AreMissed (theory_of program) (take i (equations_of (theory_of program) f)) ts (misses ms))
    → AreMisses program f ts i e.last_resort ms
missed_before program f info ts i e [] ready fits low there (inl none) = record {
  missed = λ j m at. absurd (let no : ⊥ = cc in no);
  all_missed = go e.last_resort none.0;
}
  where
    go : (o : Option (List Guard)) → IsNone o
        → IfSome o (λ (gs : List Guard). 0 ≡ i)
    go None is = tt
    go (Some gs) is = absurd (let no : ⊥ = cc in no)
missed_before program f info ts i e (m ∷ ms) ready fits low there (inl none) =
    absurd (let e = none.1 in let no : ⊥ = cc in no)
missed_before program f info ts i e ms ready fits low there (inr (some, are)) =
    let es = equations_of (theory_of program) f in
    let all =
    missed_items program info ts (take i es) ms ready
    (λ j x at. fits j x (item_taken i es j x at).0) low are in
    let short : i < length es = slice_get_within es i e there in
    record {
      missed = λ j m at. let w = all.1 j m at in (w.0, (item_taken i es j w.0 w.1).0, w.2);
      all_missed = go e.last_resort (all.0 ∙ length-take-le i es (omega (arith, short)));
    }
  where
    go : (o : Option (List Guard)) → length ms ≡ i → IfSome o (λ (gs : List Guard). length ms ≡ i)
    go None is = tt
    go (Some gs) is = is

pub equation_recorded : (program : Program) (theta : List (Option Tree)) (f : ℕ) (ps : RulePatterns)
    (r : Record) (g : ℕ) (rs : RecordList) (i : ℕ) (sigma : List (Option Tree))
    (condition : OptionalRecord) (body : Record) (ms : List Miss)
    → r ≡ by_equation g rs i sigma condition body (misses ms)
    → IsRecorded program theta (call f [] ps) r
    → IsUse program f (results_of (children_of r)) i sigma condition body ms
unfolding call_recorded
equation_recorded program theta f ps r g rs i sigma condition body ms is h =
    subst (λ (q : Record). IsUse program f (results_of (children_of q)) i sigma condition body ms) (sym is)
    (go (subst (IsRecorded program theta (call f [] ps)) is h))
  where
    go : IsRecorded program theta (call f [] ps) (by_equation g rs i sigma condition body (misses ms))
        → IsUse program f (results_of rs) i sigma condition body ms
    go h =
        let w = h.records in
        let same : g ≡ f = first_same g f w.0 [] w.1 ps w.4 in
        let function : IsSymbol program.sig f w.2 =
        subst (λ (n : ℕ). IsSymbol program.sig n w.2) same w.5 in
        let there : slice_get (equations_of (theory_of program) f) i ≡ Some w.3 =
        subst (λ (n : ℕ). slice_get (equations_of (theory_of program) n) i ≡ Some w.3) same
        w.7 in
        let fits : IsEquationOf program.sig w.2 w.3 =
        all_at (IsEquationOf program.sig w.2) (equations_of (theory_of program) f) i w.3
        (h.ready.well_sorted.equations f w.2 function) there in
        let all : AreRecorded program theta ps rs =
        (call_recorded program theta f [] ps (by_equation g rs i sigma condition body (misses ms)) h).1
        in
        let good = arguments_good program theta ps rs all in
        let low : heights (results_of rs) ≤ most_height = good.2 in
        let info : h.sorted.0 ≡ w.2 = same_symbol program.sig f h.sorted.0 w.2 h.sorted.1 function in
        let before : AreMisses program f (results_of rs) i w.3.last_resort ms =
        missed_before program f w.2 (results_of rs) i w.3 ms h.ready (λ j x at.
        all_at (IsEquationOf program.sig w.2) (equations_of (theory_of program) f) j x
        (h.ready.well_sorted.equations f w.2 function) at) low there
        (subst (λ (n : ℕ). (IsNone w.3.last_resort × (misses ms ≡ none_missed))
        ⊎ (IsSome w.3.last_resort × AreMissed (theory_of program)
        (take i (equations_of (theory_of program) n)) (results_of rs) (misses ms))) same w.13) in
        record {
          info = w.2;
          function = function;
          by_equations = w.6;
          equation = w.3;
          there = there;
          matches = w.8;
          condition_held = w.11;
          conditional = λ p q o e.
              let has : IsCondition program.sig w.3.variables w.3.arguments w.3.names p =
              subst (λ (x : Option RulePattern).
              IfSome x (IsCondition program.sig w.3.variables w.3.arguments w.3.names)) o
              fits.condition in
              held_record program sigma w.3.variables w.3.arguments w.3.names (results_of rs) p q
              w.3.condition condition h.ready fits.names has w.8 low o e w.11;
          right = record {
            ready = h.ready;
            variables = w.3.variables;
            sort = fits.sort;
            sorted = fits.right;
            serves =
                serves_match program.sig w.3.variables w.3.arguments w.3.names (results_of rs) sigma
                w.3.right fits.names w.8 low fits.bound;
            records = w.12;
          };
          sorted =
              subst (λ (x : SymInfo). AreTermsOf program.sig [] (results_of rs) x.args.items) info
              good.0;
          are_missed = before.missed;
          all_missed = before.all_missed;
        }
