-- What rule patterns are built from.
use Rattle.std.proofs.Common.{◌≡◌, ◌≤◌, ◌<◌, inl, inr, ℕ, zero, suc, ◌+◌, Bool, true, false, List}
use Rattle.std.proofs.Common.{[], ◌∷◌, ◌++◌, length, map, drop, take, reverse, get_or, Option, Some}
use Rattle.std.proofs.Common.{None, option_map, slice_get, append_assoc, append-nil, eq-eqb, refl}
use Rattle.std.proofs.Common.{sym, ◌∙◌, ap, subst, arith, Vec}
use Rattle.std.specs.Prelude.{is_some, ◌&&◌, ◌==◌, flat_map}
use Rattle.std.proofs.lemmas.List.{map-append, reverse-append}
use Rattle.std.specs.Option.{option_and_then}
use Rattle.std.specs.List.{position_from}
use Rattle.std.specs.Str.{bytes_eq}
use Rattle.std.proofs.lemmas.Bool.{false≢true, eqb-true}
use Rattle.rule_core.proofs.Belows.{both_true, true_both}
use Rattle.rule_core.proofs.AcSymbols.{symbol_found}
use Rattle.rule_core.specs.WellSorted.{IsSignature, IsInjectionDeclaration}
use Rattle.rule_core.specs.declared.signature.SortKind.{SortKind}
use Rattle.rule_core.specs.declared.signature.SymInfo.{SymInfo}
use Rattle.rule_core.specs.declared.signature.SortRef.{SortRef}
use Rattle.rule_core.specs.declared.signature.SymKind.TheVariants.{Injection, Ctor, Equations}
use Rattle.rule_core.specs.declared.signature.SymKind.TheVariants.{Hooked, Closed, NoKind}
use Rattle.kore_sig.specs.FirstFault.{Fault, when, unless}
use Rattle.kore_sig.specs.SortReferences.{sort_place, sort_number}
use Rattle.kore_check.specs.Folds.{Unfolded, named_variable, written_value, applied_symbol}
use Rattle.kore_check.specs.Folds.{both_of, other_form, Unfoldeds, no_more, and_more, standing_at}
use Rattle.kore_check.specs.Folds.{applied_to_two, folded_left, folded_right, fold_of, count}
use Rattle.kore_check.specs.Folds.{unfolded}
use Rattle.kore_check.specs.Applicative.{AreApplicative}
use Rattle.kore_check.specs.ValueTexts.{value_of_text}
use Rattle.kore_check.specs.PatternFaults.{pattern_faults, argument_faults, sort_faults}
use Rattle.kore_check.specs.PatternFaults.{text_faults, symbol_faults}
use Rattle.rule_core.specs.KindTests.{has_no_kind}
use Rattle.kore_check.specs.declared.build.Head.{Head}
use Rattle.kore_ast.specs.declared.tree.Pat.{Pat}
use Rattle.kore_ast.specs.Plain.{pattern_tree as plain_tree}
use Rattle.kore_check.proofs.Applications.{reads}
use Rattle.kore_check.proofs.Items.{drop-item}
use Rattle.std.specs.Global.{Global}
use Rattle.kore_text.specs.Trees.{SortTree, sort_parameter, sort_applied, no_sorts, sort_then}
use Rattle.term_core.specs.Patterns.{Pattern, Patterns, injection, no_pattern, more_patterns}
use Rattle.term_core.specs.Instances.{patterns}
use Rattle.term_core.specs.RulePatterns.{plain_pattern, sort_numbers as numbers_of}
use Rattle.term_core.specs.PatternLists.{plain_patterns}
use Rattle.term_core.specs.declared.ids.SortId.{SortId}
use Rattle.term_core.specs.declared.rule_patterns.RulePat.{RulePat}
use Rattle.rule_core.specs.declared.signature.Signature.{Signature}
use Rattle.rule_core.specs.declared.signature.SymKind.{SymKind}
use Rattle.kore_check.specs.PatternSorts.{sort_kind, symbol_named, symbol_info, sort_numbers}
use Rattle.kore_check.specs.PatternSorts.{number_then, places_of}
use Rattle.kore_check.specs.PatternMeanings.{variable_number, injected_only, applied_pattern}
use Rattle.kore_check.specs.PatternMeanings.{with_variables, with_all_variables, IsNamed, Means}
use Rattle.kore_check.specs.PatternMeanings.{by_variable, by_value, by_symbol, by_name, AllMean}
use Rattle.kore_check.specs.PatternMeanings.{none_mean, more_mean}
use Rattle.kore_check.specs.Building.{Extends, MeansFrom, AllMeanFrom, IsFaultless, AreFaultless}
use Rattle.kore_check.specs.Building.{pair_pattern, fold_left_from, left_pattern, right_pattern}
use Rattle.kore_check.specs.Building.{Built, AllBuilt, IsHead}
use Rattle.kore_check.proofs.SortLaws.{number-within, sort_numbers-length}

-- ---- variables

bytes_eq-self : (bs : List ℕ) → bytes_eq bs bs ≡ true
bytes_eq-self [] = refl
bytes_eq-self (b ∷ bs) = true_both _ _ (eq-eqb b b refl) (bytes_eq-self bs)

position-kept : {X : Type 0} (test : X → Bool) (n k : ℕ) (xs ys : List X)
    → position_from test n xs ≡ Some k → position_from test n (xs ++ ys) ≡ Some k
position-kept test n k [] ys is = absurd (let no_place : ⊥ = cc in no_place)
position-kept {X} test n k (x ∷ xs) ys is =
    by_case (λ later. position-kept test (n + 1) k xs ys later) (test x) refl
  where
    by_case : (position_from test (n + 1) xs ≡ Some k
        → position_from test (n + 1) (xs ++ ys) ≡ Some k) → (t : Bool) → test x ≡ t
        → position_from test n (x ∷ (xs ++ ys)) ≡ Some k
    by_case rest true e = let here : Some n ≡ Some k = rw e at is in rw e here
    by_case rest false e =
        let later : position_from test (n + 1) xs ≡ Some k = rw e at is in rw e (rest later)

position-added : {X : Type 0} (test : X → Bool) (n : ℕ) (xs : List X) (y : X)
    → position_from test n xs ≡ None → test y ≡ true
    → position_from test n (xs ++ y ∷ []) ≡ Some (n + length xs)
position-added test n [] y none yes_there = rw yes_there (ap (λ (k : ℕ). Some k) (omega arith))
position-added {X} test n (x ∷ xs) y none yes_there =
    by_case (λ later. position-added test (n + 1) xs y later yes_there) (test x) refl
  where
    by_case : (position_from test (n + 1) xs ≡ None
        → position_from test (n + 1) (xs ++ y ∷ []) ≡ Some (n + 1 + length xs)) → (t : Bool)
        → test x ≡ t → position_from test n (x ∷ (xs ++ y ∷ [])) ≡ Some (n + length (x ∷ xs))
    by_case rest true e = absurd (let here : Some n ≡ None = rw e at none in cc)
    by_case rest false e =
        let later : position_from test (n + 1) xs ≡ None = rw e at none in
        rw e (rest later ∙ ap (λ (k : ℕ). Some k) (omega arith))

pub number-added : (vars : List (List ℕ × ℕ)) (name : List ℕ) (s : ℕ)
    → variable_number vars name s ≡ None
    → variable_number (vars ++ (name, s) ∷ []) name s ≡ Some (length vars)
number-added vars name s none =
    position-added (λ (v : List ℕ × ℕ). bytes_eq name v.0 && (s == v.1)) 0 vars (name, s) none
    (true_both _ _ (bytes_eq-self name) (eq-eqb s s refl))
    ∙ ap (λ (k : ℕ). Some k) (omega arith)

pub number-kept : (vars more : List (List ℕ × ℕ)) (name : List ℕ) (s x : ℕ) → Extends vars more
    → variable_number vars name s ≡ Some x → variable_number more name s ≡ Some x
number-kept vars more name s x (behind, is) known =
    ap (λ (vs : List (List ℕ × ℕ)). variable_number vs name s) is
    ∙ position-kept (λ (v : List ℕ × ℕ). bytes_eq name v.0 && (s == v.1)) 0 x vars behind known

pub extends-refl : (vars : List (List ℕ × ℕ)) → Extends vars vars
extends-refl vars = ([], sym (append-nil vars))

pub extends-trans : (a b d : List (List ℕ × ℕ)) → Extends a b → Extends b d → Extends a d
extends-trans a b d (xs, e) (ys, f) =
    (xs ++ ys, f ∙ ap (λ (zs : List (List ℕ × ℕ)). zs ++ ys) e ∙ append_assoc a xs ys)

-- ---- values

pub some_there : {X : Type 0} (xs : List X) (i : ℕ) → i < length xs → slice_get xs i ≡ None → ⊥
some_there [] i lt none = omega (arith, lt)
some_there (x ∷ xs) zero lt none = let no_item : ⊥ = cc in no_item
some_there (x ∷ xs) (suc i) lt none = some_there xs i (omega (arith, lt)) none

mapped_none : {X Y : Type 0} (f : X → Y) (o : Option X) → option_map f o ≡ None → o ≡ None
mapped_none f None e = refl
mapped_none f (Some x) e = absurd (let no_value : ⊥ = cc in no_value)

pub declared_kind : (sig : Signature) (tree : SortTree) (s : ℕ)
    → sort_number sig.sorts tree ≡ Some s → sort_kind sig s ≡ None → ⊥
declared_kind sig (sort_parameter at name) s is none = let no_number : ⊥ = cc in no_number
declared_kind sig (sort_applied at name no_sorts) s is none =
    some_there sig.sorts s (number-within sig.sorts name s is)
    (mapped_none _ (slice_get sig.sorts s) none)
declared_kind sig (sort_applied at name (sort_then t ts)) s is none =
    let no_number : ⊥ = cc in no_number

-- ---- injections

pub injected-other : (ns : List ℕ) (ps : List Pattern) → (length ns ≡ 2 → length ps ≡ 1 → ⊥)
    → injected_only ns (patterns ps) ≡ None
injected-other [] ps other = refl
injected-other (a ∷ []) ps other = refl
injected-other (a ∷ b ∷ []) [] other = refl
injected-other (a ∷ b ∷ []) (p ∷ []) other = absurd (other refl refl)
injected-other (a ∷ b ∷ []) (p ∷ q ∷ ps) other = refl
injected-other (a ∷ b ∷ c ∷ ns) ps other = refl

pub injected-is : (ss : List SortId) (a b : SortId) (p : Pattern) → length ss ≡ 2
    → a ≡ get_or ss 0 a → b ≡ get_or ss 1 b
    → injected_only (numbers_of ss) (patterns (p ∷ [])) ≡ Some (injection a.0 b.0 p)
injected-is [] a b p two e f = absurd (omega (arith, two))
injected-is (x ∷ []) a b p two e f = absurd (omega (arith, two))
injected-is (x ∷ y ∷ []) a b p two e f =
    ap (λ (s : SortId). Some (injection s.0 y.0 p)) (sym e)
    ∙ ap (λ (s : SortId). Some (injection a.0 s.0 p)) (sym f)
injected-is (x ∷ y ∷ z ∷ ss) a b p two e f = absurd (omega (arith, two))

pub only_item : {X : Type 0} (xs front : List X) (x : X) → xs ≡ front ++ x ∷ [] → length xs ≡ 1
    → xs ≡ x ∷ []
only_item xs [] x e one = e
only_item xs (y ∷ []) x e one =
    absurd (let two : length xs ≡ 2 = ap (λ (zs : List _). length zs) e in omega (arith, two, one))
only_item xs (y ∷ z ∷ front) x e one =
    absurd (let many : length xs ≡ length (y ∷ z ∷ (front ++ x ∷ [])) =
    ap (λ (zs : List _). length zs) e in
    omega (arith, many, one))

-- ---- folds

right-pair : (kind : SymKind) (f : ℕ) (ns : List ℕ) (xs : List Pattern) (a b r : Pattern)
    → pair_pattern kind f ns a b ≡ Some r
    → right_pattern kind f ns (xs ++ (a ∷ (b ∷ []))) ≡ right_pattern kind f ns (xs ++ (r ∷ []))
right-pair kind f ns [] a b r is = is
right-pair kind f ns (x ∷ []) a b r is = ap (option_and_then (pair_pattern kind f ns x)) is
right-pair kind f ns (x ∷ y ∷ xs) a b r is =
    ap (option_and_then (pair_pattern kind f ns x)) (right-pair kind f ns (y ∷ xs) a b r is)

right-none : (kind : SymKind) (f : ℕ) (ns : List ℕ) (xs : List Pattern) (a b : Pattern)
    → pair_pattern kind f ns a b ≡ None → right_pattern kind f ns (xs ++ (a ∷ (b ∷ []))) ≡ None
right-none kind f ns [] a b is = is
right-none kind f ns (x ∷ []) a b is = ap (option_and_then (pair_pattern kind f ns x)) is
right-none kind f ns (x ∷ y ∷ xs) a b is =
    ap (option_and_then (pair_pattern kind f ns x)) (right-none kind f ns (y ∷ xs) a b is)

-- one turn of the loop of a fold from the right: this pattern is taken from those that are left
pub right_goes_on : (kind : SymKind) (f : ℕ) (ns : List ℕ) (xs ys : List RulePat) (a b r : RulePat)
    (whole : Option Pattern) → xs ≡ ys ++ a ∷ []
    → pair_pattern kind f ns (plain_pattern a) (plain_pattern b) ≡ Some (plain_pattern r)
    → right_pattern kind f ns (map plain_pattern xs ++ plain_pattern b ∷ []) ≡ whole
    → right_pattern kind f ns (map plain_pattern ys ++ plain_pattern r ∷ []) ≡ whole
right_goes_on kind f ns xs ys a b r whole e is known =
    sym (right-pair kind f ns (map plain_pattern
    ys) (plain_pattern a) (plain_pattern b) (plain_pattern r) is)
    ∙ ap (right_pattern kind f ns) (sym (append_assoc (map plain_pattern
    ys) (plain_pattern a ∷ []) (plain_pattern b ∷ []))
    ∙ ap (λ (zs : List Pattern). zs ++ plain_pattern b ∷ [])
    (sym (ap (map plain_pattern) e ∙ map-append plain_pattern ys (a ∷ []))))
    ∙ known

pub right_fails : (kind : SymKind) (f : ℕ) (ns : List ℕ) (xs ys : List RulePat) (a b : RulePat)
    (whole : Option Pattern) → xs ≡ ys ++ a ∷ []
    → pair_pattern kind f ns (plain_pattern a) (plain_pattern b) ≡ None
    → right_pattern kind f ns (map plain_pattern xs ++ plain_pattern b ∷ []) ≡ whole → None ≡ whole
right_fails kind f ns xs ys a b whole e is known =
    sym (right-none kind f ns (map plain_pattern ys) (plain_pattern a) (plain_pattern b) is)
    ∙ ap (right_pattern kind f ns) (sym (append_assoc (map plain_pattern
    ys) (plain_pattern a ∷ []) (plain_pattern b ∷ []))
    ∙ ap (λ (zs : List Pattern). zs ++ plain_pattern b ∷ [])
    (sym (ap (map plain_pattern) e ∙ map-append plain_pattern ys (a ∷ []))))
    ∙ known

-- one turn of the loop of a fold from the left, with the patterns that are left in reverse order
pub left_goes_on : (kind : SymKind) (f : ℕ) (ns : List ℕ) (xs ys : List RulePat) (a b r : RulePat)
    (whole : Option Pattern) → xs ≡ ys ++ b ∷ []
    → pair_pattern kind f ns (plain_pattern a) (plain_pattern b) ≡ Some (plain_pattern r)
    → fold_left_from kind f ns (plain_pattern a) (map plain_pattern (reverse xs)) ≡ whole
    → fold_left_from kind f ns (plain_pattern r) (map plain_pattern (reverse ys)) ≡ whole
left_goes_on kind f ns xs ys a b r whole e is known =
    ap (option_and_then (λ p. fold_left_from kind f ns p (map plain_pattern (reverse ys)))) (sym is)
    ∙ ap (λ (zs : List RulePat). fold_left_from kind f ns (plain_pattern a) (map plain_pattern zs))
    (sym (ap reverse e ∙ reverse-append ys (b ∷ []))) ∙ known

pub left_fails : (kind : SymKind) (f : ℕ) (ns : List ℕ) (xs ys : List RulePat) (a b : RulePat)
    (whole : Option Pattern) → xs ≡ ys ++ b ∷ []
    → pair_pattern kind f ns (plain_pattern a) (plain_pattern b) ≡ None
    → fold_left_from kind f ns (plain_pattern a) (map plain_pattern (reverse xs)) ≡ whole
    → None ≡ whole
left_fails kind f ns xs ys a b whole e is known =
    ap (option_and_then (λ p. fold_left_from kind f ns p (map plain_pattern (reverse ys)))) (sym is)
    ∙ ap (λ (zs : List RulePat). fold_left_from kind f ns (plain_pattern a) (map plain_pattern zs))
    (sym (ap reverse e ∙ reverse-append ys (b ∷ []))) ∙ known

-- ---- patterns without faults

pub unless_empty : (test : Bool) (number byte : ℕ) → unless test number byte ≡ [] → test ≡ true
unless_empty true number byte e = refl
unless_empty false number byte e = absurd (let no_fault : ⊥ = cc in no_fault)

pub when_empty : (test : Bool) (number byte : ℕ) → when test number byte ≡ [] → test ≡ false
when_empty false number byte e = refl
when_empty true number byte e = absurd (let no_fault : ⊥ = cc in no_fault)

pub parts_empty : (xs ys : List Fault) → xs ++ ys ≡ [] → (xs ≡ []) × (ys ≡ [])
parts_empty [] ys e = (refl, e)
parts_empty (x ∷ xs) ys e = absurd (let no_item : ⊥ = cc in no_item)

sort_known : (sig : Signature) (s : SortTree) → sort_faults sig s ≡ []
    → sort_number sig.sorts s ≡ None → ⊥
sort_known sig s e none =
    false≢true (sym (ap is_some none)
    ∙ unless_empty (is_some (sort_number sig.sorts s)) 6 (sort_place s) e)

pub variable_known : (sig : Signature) (at : ℕ) (name : List ℕ) (s : SortTree)
    → IsFaultless sig (named_variable at name s) → sort_number sig.sorts s ≡ None → ⊥
variable_known sig at name s good none = sort_known sig s good.0 none

pub value_sort_known : (sig : Signature) (at byte : ℕ) (s : SortTree) (text : List ℕ)
    → IsFaultless sig (written_value at s text byte) → sort_number sig.sorts s ≡ None → ⊥
value_sort_known sig at byte s text good none = sort_known sig s ((parts_empty _ _ (good.0)).0) none

pub value_known : (sig : Signature) (at byte n : ℕ) (s : SortTree) (text : List ℕ) (kind : SortKind)
    → IsFaultless sig (written_value at s text byte) → sort_number sig.sorts s ≡ Some n
    → sort_kind sig n ≡ Some kind → value_of_text kind text ≡ None → ⊥
value_known sig at byte n s text kind good is of none =
    let kinds : option_and_then (sort_kind sig) (sort_number sig.sorts s) ≡ Some kind =
    ap (option_and_then (sort_kind sig)) is ∙ of in
    let fine : text_faults (Some kind) text byte ≡ [] =
    sym (ap (λ (o : Option SortKind). text_faults o text byte) kinds)
    ∙ (parts_empty (sort_faults sig s) _ (good.0)).1 in
    false≢true
    (sym (ap is_some none) ∙ unless_empty (is_some (value_of_text kind text)) 11 byte fine)

-- the head of an application without faults
pub record IsSound (sig : Signature) (name : List ℕ) (ss : List SortTree) (args : ℕ) : Type 0 where
  pub info : SymInfo
  pub named : symbol_named sig name ≡ Some info
  pub sorts : sort_numbers sig ss ≡ None → ⊥
  pub parameters : length ss ≡ info.params
  pub arguments : args ≡ length info.args.items
  pub kind : has_no_kind info.kind ≡ false

sorts_known : (sig : Signature) (ss : List SortTree) → flat_map (sort_faults sig) ss ≡ []
    → sort_numbers sig ss ≡ None → ⊥
sorts_known sig [] e none = let no_numbers : ⊥ = cc in no_numbers
sorts_known sig (s ∷ ss) e none =
    by_case (λ h. sorts_known sig ss ((parts_empty (sort_faults sig s) _ e).1) h)
    (sort_number sig.sorts s) refl (sort_numbers sig ss) refl
  where
    by_case : (sort_numbers sig ss ≡ None → ⊥) → (o : Option ℕ) → sort_number sig.sorts s ≡ o
        → (more : Option (List ℕ)) → sort_numbers sig ss ≡ more → ⊥
    by_case rest None is more is_more =
        sort_known sig s ((parts_empty (sort_faults sig s) _ e).0) is
    by_case rest (Some n) is None is_more = rest is_more
    by_case rest (Some n) is (Some ns) is_more =
        let both : number_then (Some n) (Some ns) ≡ None =
        ap (λ o. number_then o (Some ns)) (sym is)
        ∙ ap (λ m. number_then (sort_number sig.sorts s) m) (sym is_more) ∙ none in
        let no_numbers : ⊥ = cc in no_numbers

pub head_sound : (sig : Signature) (byte : ℕ) (name : List ℕ) (ss : List SortTree) (args : ℕ)
    → flat_map (sort_faults sig) ss ≡ []
    → symbol_faults sig byte (symbol_named sig name) ss args ≡ [] → IsSound sig name ss args
head_sound sig byte name ss args none e = by_symbol (symbol_named sig name) refl e where
  by_symbol : (o : Option SymInfo) → symbol_named sig name ≡ o
      → symbol_faults sig byte o ss args ≡ [] → IsSound sig name ss args
  by_symbol None is f = absurd (let no_fault : ⊥ = cc in no_fault)
  by_symbol (Some info) is f =
      let arity : ((length ss == info.params) && (args == length info.args.items)) ≡ true =
      unless_empty _ 8 byte ((parts_empty _ _ ((parts_empty _ _ f).0)).0) in
      record {
        info = info;
        named = is;
        sorts = sorts_known sig ss none;
        parameters = eqb-true _ _ ((both_true _ _ arity).0);
        arguments = eqb-true _ _ ((both_true _ _ arity).1);
        kind = when_empty (has_no_kind info.kind) 25 byte ((parts_empty _ _ f).1);
      }

-- ---- applications

pub arguments_faultless : (sig : Signature) (ss : List SortTree) (refs : List SortRef)
    (us : Unfoldeds) → argument_faults sig ss refs us ≡ [] → AreApplicative us
    → AreFaultless sig us
arguments_faultless sig ss refs no_more e form = tt
arguments_faultless sig ss refs (and_more u us) e form =
    let parts = parts_empty (pattern_faults sig u) _ e in (
      (parts.0, form.0),
      arguments_faultless sig ss (drop 1 refs) us ((parts_empty _ _ (parts.1)).1) form.1,
    )

pub application_faultless : (sig : Signature) (at byte : ℕ) (name : List ℕ) (ss : List SortTree)
    (us : Unfoldeds) → IsFaultless sig (applied_symbol at byte name ss us)
    → IsSound sig name ss (count us) × AreFaultless sig us
application_faultless sig at byte name ss us good =
    let parts = parts_empty (flat_map (sort_faults sig) ss) _ (good.0) in
    let more =
    parts_empty (symbol_faults sig byte (symbol_named sig name) ss (count us)) _ (parts.1) in (
      head_sound sig byte name ss (count us) parts.0 more.0,
      arguments_faultless sig ss (places_of (symbol_named sig name)) us more.1 good.1,
    )

-- the number of rule patterns
abbrev how_many : Patterns → ℕ
how_many no_pattern = 0
how_many (more_patterns p ps) = how_many ps + 1

count-mean : (sig : Signature) (vars : List (List ℕ × ℕ)) (us : Unfoldeds) (ps : Patterns)
    → AllMean sig vars us ps → count us ≡ how_many ps
count-mean sig vars no_more no_pattern none_mean = refl
count-mean sig vars no_more (more_patterns p ps) h = elim h [ ]
count-mean sig vars (and_more u us) no_pattern h = elim h [ ]
count-mean sig vars (and_more u us) (more_patterns p ps) (more_mean first rest) =
    ap (λ (n : ℕ). n + 1) (count-mean sig vars us ps rest)

injected-two : (ns : List ℕ) (ps : Patterns) → length ns ≡ 2 → how_many ps ≡ 1
    → injected_only ns ps ≡ None → ⊥
injected-two [] ps two one none = omega (arith, two)
injected-two (a ∷ []) ps two one none = omega (arith, two)
injected-two (a ∷ b ∷ []) no_pattern two one none = omega (arith, one)
injected-two (a ∷ b ∷ []) (more_patterns p no_pattern) two one none =
    let no_value : ⊥ = cc in no_value
injected-two (a ∷ b ∷ []) (more_patterns p (more_patterns q ps)) two one none = omega (arith, one)
injected-two (a ∷ b ∷ c ∷ ns) ps two one none = omega (arith, two)

pub named_same : (sig : Signature) (name : List ℕ) (f : ℕ) (info other : SymInfo)
    → IsNamed sig name f info → symbol_named sig name ≡ Some other → other ≡ info
named_same sig name f info other named is =
    let both : Some other ≡ Some info =
    sym is ∙ ap (option_and_then (symbol_info sig)) named.0 ∙ named.1 in
    cc

-- a sound head can be applied to as many patterns as it has arguments
makes_some : (sig : Signature) (name : List ℕ) (ss : List SortTree) (n f : ℕ) (info : SymInfo)
    (ns : List ℕ) (ps : Patterns) (kind : SymKind) → IsSignature sig → IsSound sig name ss n
    → IsNamed sig name f info → info.kind ≡ kind → sort_numbers sig ss ≡ Some ns → n ≡ how_many ps
    → applied_pattern kind f ns ps ≡ None → ⊥
makes_some sig name ss n f info ns ps Injection good sound named is sorts many none =
    let same : sound.info ≡ info = named_same sig name f info sound.info named sound.named in
    let form : IsInjectionDeclaration info =
    good.injections f info (symbol_found sig f info (sym named.1)) is in
    let params : length ss ≡ 2 =
    sound.parameters ∙ ap (λ (i : SymInfo). i.params) same ∙ form.parameters in
    let args : n ≡ 1 =
    sound.arguments ∙ ap (λ (i : SymInfo). length i.args.items) same
    ∙ ap (λ (rs : List SortRef). length rs) form.argument in
    injected-two ns ps (sort_numbers-length sig ss ns sorts ∙ params) (sym many ∙ args) none
makes_some sig name ss n f info ns ps Ctor good sound named is sorts many none =
    let no_value : ⊥ = cc in no_value
makes_some sig name ss n f info ns ps Equations good sound named is sorts many none =
    let no_value : ⊥ = cc in no_value
makes_some sig name ss n f info ns ps (Hooked row) good sound named is sorts many none =
    let no_value : ⊥ = cc in no_value
makes_some sig name ss n f info ns ps Closed good sound named is sorts many none =
    let no_value : ⊥ = cc in no_value
makes_some sig name ss n f info ns ps NoKind good sound named is sorts many none =
    false≢true (sym sound.kind
    ∙ ap has_no_kind (ap (λ (i : SymInfo). i.kind)
    (named_same sig name f info sound.info named sound.named) ∙ is))

-- what is built from an application
pub application_built : (sig : Signature) (at byte : ℕ) (name : List ℕ) (ss : List SortTree)
    (us : Unfoldeds) (old new : List (List ℕ × ℕ)) (h : Head) (args : Vec RulePat Global)
    (found : Option RulePat) → IsSignature sig → IsHead sig name ss (Some h)
    → AllBuilt sig old new us (Some args)
    → option_map plain_pattern found
    ≡ applied_pattern h.kind h.sym.0 (numbers_of h.sorts.items) (plain_patterns args.items)
    → Built sig old new (applied_symbol at byte name ss us) found
application_built sig at byte name ss us old new h args None good (info, named, kind, sorts) all
    is =
    λ faultless.
    let parts = application_faultless sig at byte name ss us faultless in
    makes_some sig name ss (count us) h.sym.0 info (numbers_of h.sorts.items)
    (plain_patterns args.items) h.kind good parts.0 named (sym kind) sorts
    (count-mean sig new us (plain_patterns args.items) (all.1 new (extends-refl new))) (sym is)
application_built sig at byte name ss us old new h args (Some p) good (info, named, kind, sorts) all
    is = (
      all.0,
      λ more ext. by_symbol named sorts (all.1 more ext) (ap (λ (k : SymKind).
          applied_pattern k h.sym.0 (numbers_of h.sorts.items) (plain_patterns args.items))
          (sym kind) ∙ sym is),
    )

pub application_without_head : (sig : Signature) (at byte : ℕ) (name : List ℕ) (ss : List SortTree)
    (us : Unfoldeds) → IsHead sig name ss None
    → IsFaultless sig (applied_symbol at byte name ss us) → ⊥
application_without_head sig at byte name ss us (inl none) good =
    let sound = (application_faultless sig at byte name ss us good).0 in
    let both : Some sound.info ≡ None = sym sound.named ∙ none in
    let no_symbol : ⊥ = cc in
    no_symbol
application_without_head sig at byte name ss us (inr none) good =
    (application_faultless sig at byte name ss us good).0.sorts none

pub application_without_arguments : (sig : Signature) (at byte : ℕ) (name : List ℕ)
    (ss : List SortTree) (us : Unfoldeds) (old new : List (List ℕ × ℕ))
    → AllBuilt sig old new us None → IsFaultless sig (applied_symbol at byte name ss us) → ⊥
application_without_arguments sig at byte name ss us old new none good =
    none ((application_faultless sig at byte name ss us good).1)

-- ---- folds

pub means_standing : (sig : Signature) (vars : List (List ℕ × ℕ)) (at : ℕ) {u : Unfolded}
    {p : Pattern} → Means sig vars u p → Means sig vars (standing_at at u) p
means_standing sig vars at (by_variable a b) = by_variable a b
means_standing sig vars at (by_value a b) = by_value a b
means_standing sig vars at (by_symbol a b d e) = by_symbol a b d e
means_standing sig vars at (by_name a b d) = by_name a b d

faultless_standing : (sig : Signature) (at : ℕ) (u : Unfolded) → IsFaultless sig (standing_at at u)
    → IsFaultless sig u
faultless_standing sig at (named_variable there name tree) good = good
faultless_standing sig at (written_value there tree text byte) good = good
faultless_standing sig at (applied_symbol there byte name ss us) good = good
faultless_standing sig at (both_of there s p q) good = good
faultless_standing sig at (other_form there) good = good

variables_standing : (sig : Signature) (vars : List (List ℕ × ℕ)) (at : ℕ) (u : Unfolded)
    → with_variables sig vars u ≡ with_variables sig vars (standing_at at u)
variables_standing sig vars at (named_variable there name tree) = refl
variables_standing sig vars at (written_value there tree text byte) = refl
variables_standing sig vars at (applied_symbol there byte name ss us) = refl
variables_standing sig vars at (both_of there s p q) = refl
variables_standing sig vars at (other_form there) = refl

pub built_standing : (sig : Signature) (old new : List (List ℕ × ℕ)) (at : ℕ) (u : Unfolded)
    (found : Option RulePat) → Built sig old new u found
    → Built sig old new (standing_at at u) found
built_standing sig old new at u None none = λ good. none (faultless_standing sig at u good)
built_standing sig old new at u (Some p) is =
    (is.0 ∙ variables_standing sig old at u, λ more ext. means_standing sig more at (is.1 more ext))

left_variables : (sig : Signature) (vars : List (List ℕ × ℕ)) (byte : ℕ) (name : List ℕ)
    (ss : List SortTree) (u : Unfolded) (us : Unfoldeds)
    → with_variables sig vars (folded_left byte name ss u us)
    ≡ with_all_variables sig (with_variables sig vars u) us
left_variables sig vars byte name ss u no_more = refl
left_variables sig vars byte name ss u (and_more v us) =
    left_variables sig vars byte name ss (applied_to_two byte name ss u v) us

right_variables : (sig : Signature) (vars : List (List ℕ × ℕ)) (byte : ℕ) (name : List ℕ)
    (ss : List SortTree) (u : Unfolded) (us : Unfoldeds)
    → with_variables sig vars (folded_right byte name ss u us)
    ≡ with_all_variables sig vars (and_more u us)
right_variables sig vars byte name ss u no_more = refl
right_variables sig vars byte name ss u (and_more v us) =
    right_variables sig (with_variables sig vars u) byte name ss v us

left_faultless : (sig : Signature) (byte : ℕ) (name : List ℕ) (ss : List SortTree) (u v : Unfolded)
    (us : Unfoldeds)
    → IsFaultless sig (folded_left byte name ss (applied_to_two byte name ss u v) us)
    → IsSound sig name ss 2 × (IsFaultless sig u × IsFaultless sig v) × AreFaultless sig us
left_faultless sig byte name ss u v no_more good =
    let parts =
    application_faultless sig byte byte name ss (and_more u (and_more v no_more)) good in
    (parts.0, (parts.1.0, parts.1.1.0), tt)
left_faultless sig byte name ss u v (and_more w us) good =
    let outer = left_faultless sig byte name ss (applied_to_two byte name ss u v) w us good in
    let inner =
    application_faultless sig byte byte name ss (and_more u (and_more v no_more)) (outer.1.0) in
    (outer.0, (inner.1.0, inner.1.1.0), (outer.1.1, outer.2))

right_faultless : (sig : Signature) (byte : ℕ) (name : List ℕ) (ss : List SortTree) (u : Unfolded)
    (us : Unfoldeds) → IsFaultless sig (folded_right byte name ss u us)
    → AreFaultless sig (and_more u us)
right_faultless sig byte name ss u no_more good = (good, tt)
right_faultless sig byte name ss u (and_more v us) good =
    let parts =
    application_faultless sig byte byte name ss
    (and_more u (and_more (folded_right byte name ss v us) no_more)) good in
    (parts.1.0, right_faultless sig byte name ss v us (parts.1.1.0))

pub fold_faultless : (sig : Signature) (left : Bool) (byte : ℕ) (name : List ℕ) (ss : List SortTree)
    (u v : Unfolded) (us : Unfoldeds)
    → IsFaultless sig (fold_of left byte name ss (and_more u (and_more v us)))
    → IsSound sig name ss 2 × AreFaultless sig (and_more u (and_more v us))
fold_faultless sig true byte name ss u v us good =
    let parts = left_faultless sig byte name ss u v us good in
    (parts.0, (parts.1.0, (parts.1.1, parts.2)))
fold_faultless sig false byte name ss u v us good =
    let parts =
    application_faultless sig byte byte name ss
    (and_more u (and_more (folded_right byte name ss v us) no_more)) good in
    (parts.0, (parts.1.0, right_faultless sig byte name ss v us (parts.1.1.0)))

then_is : {X Y : Type 0} (f : X → Option Y) (o : Option X) (y : Y) → option_and_then f o ≡ Some y
    → (x : X) × (o ≡ Some x) × (f x ≡ Some y)
then_is f None y is = absurd (let no_value : ⊥ = cc in no_value)
then_is f (Some x) y is = (x, refl, is)

-- what a fold means
left_means : (sig : Signature) (vars : List (List ℕ × ℕ)) (byte f : ℕ) (name : List ℕ)
    (ss : List SortTree) (ns : List ℕ) (info : SymInfo) (u : Unfolded) (p : Pattern)
    (us : Unfoldeds) (qs : List Pattern) (r : Pattern) → IsNamed sig name f info
    → sort_numbers sig ss ≡ Some ns → Means sig vars u p → AllMean sig vars us (patterns qs)
    → fold_left_from info.kind f ns p qs ≡ Some r → Means sig vars (folded_left byte name ss u us) r
left_means sig vars byte f name ss ns info u p no_more [] r named sorts first rest is =
    let same : p ≡ r = cc in subst (λ (q : Pattern). Means sig vars u q) same first
left_means sig vars byte f name ss ns info u p no_more (q ∷ qs) r named sorts first rest is =
    elim rest [ ]
left_means sig vars byte f name ss ns info u p (and_more v us) [] r named sorts first rest is =
    elim rest [ ]
left_means sig vars byte f name ss ns info u p (and_more v us) (q ∷ qs) r named sorts first
    (more_mean second rest) is =
    let made =
    then_is (λ x. fold_left_from info.kind f ns x qs) (pair_pattern info.kind f ns p q) r is in
    left_means sig vars byte f name ss ns info (applied_to_two byte name ss u v) made.0 us qs r
    named sorts (by_symbol named sorts (more_mean first (more_mean second none_mean)) made.1)
    rest made.2

right_means : (sig : Signature) (vars : List (List ℕ × ℕ)) (byte f : ℕ) (name : List ℕ)
    (ss : List SortTree) (ns : List ℕ) (info : SymInfo) (u : Unfolded) (us : Unfoldeds)
    (p : Pattern) (qs : List Pattern) (r : Pattern) → IsNamed sig name f info
    → sort_numbers sig ss ≡ Some ns → Means sig vars u p → AllMean sig vars us (patterns qs)
    → right_pattern info.kind f ns (p ∷ qs) ≡ Some r
    → Means sig vars (folded_right byte name ss u us) r
right_means sig vars byte f name ss ns info u no_more p [] r named sorts first rest is =
    let same : p ≡ r = cc in subst (λ (q : Pattern). Means sig vars u q) same first
right_means sig vars byte f name ss ns info u no_more p (q ∷ qs) r named sorts first rest is =
    elim rest [ ]
right_means sig vars byte f name ss ns info u (and_more v us) p [] r named sorts first rest is =
    elim rest [ ]
right_means sig vars byte f name ss ns info u (and_more v us) p (q ∷ qs) r named sorts first
    (more_mean second rest) is =
    let made =
    then_is (pair_pattern info.kind f ns p) (right_pattern info.kind f ns (q ∷ qs)) r is in
    by_symbol named sorts (more_mean first (more_mean (right_means sig vars byte f name ss ns info v
    us q qs made.0 named sorts second rest made.1) none_mean)) made.2

-- a symbol that can be applied to any two patterns can be folded over any patterns
left_some : (kind : SymKind) (f : ℕ) (ns : List ℕ) (p : Pattern) (qs : List Pattern)
    → ((a b : Pattern) → pair_pattern kind f ns a b ≡ None → ⊥)
    → fold_left_from kind f ns p qs ≡ None → ⊥
left_some kind f ns p [] some none = let no_value : ⊥ = cc in no_value
left_some kind f ns p (q ∷ qs) some none =
    by_case (λ r h. left_some kind f ns r qs some h) (pair_pattern kind f ns p q) refl
  where
    by_case : ((r : Pattern) → fold_left_from kind f ns r qs ≡ None → ⊥) → (o : Option Pattern)
        → pair_pattern kind f ns p q ≡ o → ⊥
    by_case rest None is = some p q is
    by_case rest (Some r) is =
        rest r (ap (option_and_then (λ x. fold_left_from kind f ns x qs)) (sym is) ∙ none)

right_some : (kind : SymKind) (f : ℕ) (ns : List ℕ) (p : Pattern) (qs : List Pattern)
    → ((a b : Pattern) → pair_pattern kind f ns a b ≡ None → ⊥)
    → right_pattern kind f ns (p ∷ qs) ≡ None → ⊥
right_some kind f ns p [] some none = let no_value : ⊥ = cc in no_value
right_some kind f ns p (q ∷ qs) some none =
    by_case (λ h. right_some kind f ns q qs some h) (right_pattern kind f ns (q ∷ qs)) refl
  where
    by_case : (right_pattern kind f ns (q ∷ qs) ≡ None → ⊥) → (o : Option Pattern)
        → right_pattern kind f ns (q ∷ qs) ≡ o → ⊥
    by_case rest None is = rest is
    by_case rest (Some r) is =
        some p r (ap (option_and_then (pair_pattern kind f ns p)) (sym is) ∙ none)

split_mean : (sig : Signature) (vars : List (List ℕ × ℕ)) {u : Unfolded} {us : Unfoldeds}
    {p : Pattern} {ps : Patterns} → AllMean sig vars (and_more u us) (more_patterns p ps)
    → Means sig vars u p × AllMean sig vars us ps
split_mean sig vars (more_mean first rest) = (first, rest)

-- a sound head of two arguments can be applied to any two patterns
two_some : (sig : Signature) (name : List ℕ) (ss : List SortTree) (f : ℕ) (info : SymInfo)
    (ns : List ℕ) (kind : SymKind) → IsSignature sig → IsSound sig name ss 2
    → IsNamed sig name f info → kind ≡ info.kind → sort_numbers sig ss ≡ Some ns → (a b : Pattern)
    → pair_pattern kind f ns a b ≡ None → ⊥
two_some sig name ss f info ns kind good sound named is sorts a b none =
    makes_some sig name ss 2 f info ns (more_patterns a (more_patterns b no_pattern)) kind good
    sound named (sym is) sorts refl none

abbrev pub fold_pattern : Bool → SymKind → ℕ → List ℕ → List Pattern → Option Pattern
fold_pattern true kind f ns ps = left_pattern kind f ns ps
fold_pattern false kind f ns ps = right_pattern kind f ns ps

fold_means : (sig : Signature) (vars : List (List ℕ × ℕ)) (left : Bool) (byte f : ℕ) (name : List ℕ)
    (ss : List SortTree) (ns : List ℕ) (info : SymInfo) (u : Unfolded) (us : Unfoldeds)
    (p : Pattern) (qs : List Pattern) (r : Pattern) → IsNamed sig name f info
    → sort_numbers sig ss ≡ Some ns → AllMean sig vars (and_more u us) (patterns (p ∷ qs))
    → fold_pattern left info.kind f ns (p ∷ qs) ≡ Some r
    → Means sig vars (fold_of left byte name ss (and_more u us)) r
fold_means sig vars true byte f name ss ns info u us p qs r named sorts all is =
    let parts = split_mean sig vars all in
    left_means sig vars byte f name ss ns info u p us qs r named sorts parts.0 parts.1 is
fold_means sig vars false byte f name ss ns info u us p qs r named sorts all is =
    let parts = split_mean sig vars all in
    right_means sig vars byte f name ss ns info u us p qs r named sorts parts.0 parts.1 is

fold_some : (left : Bool) (kind : SymKind) (f : ℕ) (ns : List ℕ) (p : Pattern) (qs : List Pattern)
    → ((a b : Pattern) → pair_pattern kind f ns a b ≡ None → ⊥)
    → fold_pattern left kind f ns (p ∷ qs) ≡ None → ⊥
fold_some true kind f ns p qs some none = left_some kind f ns p qs some none
fold_some false kind f ns p qs some none = right_some kind f ns p qs some none

fold_variables : (sig : Signature) (vars : List (List ℕ × ℕ)) (left : Bool) (byte : ℕ)
    (name : List ℕ) (ss : List SortTree) (u : Unfolded) (us : Unfoldeds)
    → with_variables sig vars (fold_of left byte name ss (and_more u us))
    ≡ with_all_variables sig vars (and_more u us)
fold_variables sig vars true byte name ss u us = left_variables sig vars byte name ss u us
fold_variables sig vars false byte name ss u us = right_variables sig vars byte name ss u us

-- what is built from a fold of two or more patterns
fold_made : (sig : Signature) (left : Bool) (byte : ℕ) (name : List ℕ) (ss : List SortTree)
    (u v : Unfolded) (us : Unfoldeds) (old new : List (List ℕ × ℕ)) (h : Head) (p : Pattern)
    (ps : List Pattern) (found : Option RulePat) → IsSignature sig → IsHead sig name ss (Some h)
    → new ≡ with_all_variables sig old (and_more u (and_more v us))
    → AllMeanFrom sig new (and_more u (and_more v us)) (patterns (p ∷ ps))
    → option_map plain_pattern found
    ≡ fold_pattern left h.kind h.sym.0 (numbers_of h.sorts.items) (p ∷ ps)
    → Built sig old new (fold_of left byte name ss (and_more u (and_more v us))) found
fold_made sig left byte name ss u v us old new h p ps None good (info, named, kind, sorts) vars all
    is =
    λ faultless.
    let parts = fold_faultless sig left byte name ss u v us faultless in
    fold_some left h.kind h.sym.0 (numbers_of h.sorts.items) p ps (two_some sig name ss h.sym.0 info
    (numbers_of h.sorts.items) h.kind good parts.0 named kind sorts) (sym is)
fold_made sig left byte name ss u v us old new h p ps (Some r) good (info, named, kind, sorts) vars
    all is = (
      vars ∙ sym (fold_variables sig old left byte name ss u (and_more v us)),
      λ more ext. fold_means sig more left byte h.sym.0 name ss (numbers_of h.sorts.items) info u
          (and_more v us) p ps (plain_pattern r) named sorts (all more ext)
          (ap (λ (k : SymKind). fold_pattern left k h.sym.0 (numbers_of h.sorts.items) (p ∷ ps))
          (sym kind) ∙ sym is),
    )

pub fold_built : (sig : Signature) (left : Bool) (byte : ℕ) (name : List ℕ) (ss : List SortTree)
    (args : List Pat) (old new : List (List ℕ × ℕ)) (h : Head) (ps : Vec RulePat Global)
    (found : Option RulePat) → 2 ≤ length args → IsSignature sig → IsHead sig name ss (Some h)
    → AllBuilt sig old new (reads args) (Some ps)
    → option_map plain_pattern found
    ≡ fold_pattern left h.kind h.sym.0 (numbers_of h.sorts.items) (map plain_pattern ps.items)
    → Built sig old new (fold_of left byte name ss (reads args)) found
fold_built sig left byte name ss [] old new h ps found many good head all is =
    absurd (omega (arith, many))
fold_built sig left byte name ss (a ∷ []) old new h ps found many good head all is =
    absurd (omega (arith, many))
fold_built sig left byte name ss (a ∷ b ∷ args) old new h ps found many good head all is =
    by_items ps.items refl
  where
    by_items : (items : List RulePat) → ps.items ≡ items
        → Built sig old new (fold_of left byte name ss (reads (a ∷ b ∷ args))) found
    by_items [] e =
        absurd (elim (subst
        (λ (xs : List RulePat). AllMean sig new (reads (a ∷ b ∷ args)) (plain_patterns xs))
        e (all.1 new (extends-refl new))) [ ])
    by_items (p ∷ items) e =
        fold_made sig left byte name ss (unfolded (plain_tree a)) (unfolded (plain_tree b))
        (reads args) old new h (plain_pattern p) (map plain_pattern items) found good head all.0
        (λ more ext. subst
        (λ (xs : List RulePat). AllMean sig more (reads (a ∷ b ∷ args)) (plain_patterns xs)) e
        (all.1 more ext))
        (is
        ∙ ap (λ (xs : List RulePat). fold_pattern left h.kind h.sym.0 (numbers_of h.sorts.items)
        (map plain_pattern xs)) e)

pub fold_without_head : (sig : Signature) (left : Bool) (byte : ℕ) (name : List ℕ)
    (ss : List SortTree) (args : List Pat) → 2 ≤ length args → IsHead sig name ss None
    → IsFaultless sig (fold_of left byte name ss (reads args)) → ⊥
fold_without_head sig left byte name ss [] many none good = omega (arith, many)
fold_without_head sig left byte name ss (a ∷ []) many none good = omega (arith, many)
fold_without_head sig left byte name ss (a ∷ b ∷ args) many (inl none) good =
    let sound =
    (fold_faultless sig left byte name ss (unfolded (plain_tree a)) (unfolded (plain_tree b))
    (reads args) good).0 in
    let both : Some sound.info ≡ None = sym sound.named ∙ none in
    let no_symbol : ⊥ = cc in
    no_symbol
fold_without_head sig left byte name ss (a ∷ b ∷ args) many (inr none) good =
    (fold_faultless sig left byte name ss (unfolded (plain_tree a)) (unfolded (plain_tree b))
    (reads args) good).0.sorts none

pub fold_without_arguments : (sig : Signature) (left : Bool) (byte : ℕ) (name : List ℕ)
    (ss : List SortTree) (args : List Pat) (old new : List (List ℕ × ℕ)) → 2 ≤ length args
    → AllBuilt sig old new (reads args) None
    → IsFaultless sig (fold_of left byte name ss (reads args)) → ⊥
fold_without_arguments sig left byte name ss [] old new many none good = omega (arith, many)
fold_without_arguments sig left byte name ss (a ∷ []) old new many none good = omega (arith, many)
fold_without_arguments sig left byte name ss (a ∷ b ∷ args) old new many none good =
    none ((fold_faultless sig left byte name ss (unfolded (plain_tree a)) (unfolded (plain_tree b))
    (reads args) good).1)

-- one more pattern before those that were built
pub all-more : (sig : Signature) (old mid new : List (List ℕ × ℕ)) (args : List Pat) (i : ℕ)
    (arg : Pat) (pats : List RulePat) (p : RulePat) → i < length args → arg ≡ get_or args i arg
    → Extends mid new → MeansFrom sig new (unfolded (plain_tree arg)) (plain_pattern p)
    → ((more : List (List ℕ × ℕ)) (qs : List Pattern) → Extends mid more
    → AllMean sig more (reads (drop i args)) (patterns qs)
    → AllMean sig more (reads args) (patterns (map plain_pattern pats ++ qs)))
    → (more : List (List ℕ × ℕ)) (qs : List Pattern) → Extends new more
    → AllMean sig more (reads (drop (i + 1) args)) (patterns qs)
    → AllMean sig more (reads args) (patterns (map plain_pattern (pats ++ p ∷ []) ++ qs))
all-more sig old mid new args i arg pats p lt item ext means before more qs ext2 rest =
    let grown : AllMean sig more (reads (drop i args)) (patterns (plain_pattern p ∷ qs)) =
    subst (λ (xs : List Pat). AllMean sig more (reads xs) (patterns (plain_pattern p ∷ qs)))
    (sym (drop-item args i arg lt item)) (more_mean (means more ext2) rest) in
    subst (λ (xs : List Pattern). AllMean sig more (reads args) (patterns xs))
    (sym (append_assoc (map plain_pattern pats) (plain_pattern p ∷ []) qs)
    ∙ ap (λ (xs : List Pattern). xs ++ qs) (sym (map-append plain_pattern pats (p ∷ []))))
    (before more (plain_pattern p ∷ qs) (extends-trans mid new more ext ext2) grown)

reverse-twice : {X : Type 0} (xs : List X) → reverse (reverse xs) ≡ xs
reverse-twice [] = refl
reverse-twice (x ∷ xs) = ap reverse (reverse-append (x ∷ []) xs)
    ∙ reverse-append (reverse xs) (x ∷ []) ∙ ap (λ (ys : List _). x ∷ ys) (reverse-twice xs)

pub start_left : (args rest : List RulePat) (first : RulePat) → reverse args ≡ rest ++ first ∷ []
    → args ≡ first ∷ reverse rest
start_left args rest first e =
    sym (reverse-twice args) ∙ ap reverse e ∙ reverse-append rest (first ∷ [])

take-front : {X : Type 0} (xs ys : List X) → take (length xs) (xs ++ ys) ≡ xs
take-front [] ys = refl
take-front (x ∷ xs) ys = ap (λ (zs : List _). x ∷ zs) (take-front xs ys)

-- variables that were added are removed again
pub variables-truncated : (old new : List (List ℕ × ℕ)) (n : ℕ) → n ≡ length old → Extends old new
    → take n new ≡ old
variables-truncated old new n count (behind, is) =
    ap (λ (k : ℕ). take k new) count ∙ ap (λ (vs : List (List ℕ × ℕ)). take (length old) vs) is
    ∙ take-front old behind

-- ---- the `\and` of two patterns

pub pair_faultless : (sig : Signature) (at : ℕ) (s : SortTree) (u v : Unfolded)
    → IsFaultless sig (both_of at s u v) → IsFaultless sig u × IsFaultless sig v
pair_faultless sig at s u v good =
    let sort = parts_empty (sort_faults sig s) _ good.0 in
    let first = parts_empty (pattern_faults sig u) _ sort.1 in
    let second = parts_empty (pattern_faults sig v) _ (parts_empty _ _ first.1).1 in
    ((first.0, good.1.1), (second.0, good.1.2))
