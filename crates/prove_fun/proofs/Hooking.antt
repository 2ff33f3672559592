-- Calls of hooks: what is recorded of them, and what the facts on them say.
use Rattle.std.proofs.Common.{◌≡◌, ℕ, zero, suc, List, [], ◌∷◌, ◌++◌, length, map, Option, Some}
use Rattle.std.proofs.Common.{None, refl, sym, ◌∙◌, ap, subst, arith}
use Rattle.std.specs.Prelude.{Result, Ok, slice_get}
use Rattle.ml_pat.specs.Patterns.{Pattern, equal}
use Rattle.ml_kernel.specs.Theorems.{Theorem}
use Rattle.term_core.specs.Terms.{Tree, Forest, leaf, node, inj, no_tree, more_trees, DomainValue}
use Rattle.term_core.specs.Terms.{integer, truth}
use Rattle.term_core.specs.Patterns.{Patterns as RulePatterns, domain_value, call, more_patterns}
use Rattle.term_core.specs.Patterns.{ground_pattern, ground_patterns}
use Rattle.term_core.specs.HookValues.{Operation, on_integer, on_integers, compares, on_truth}
use Rattle.term_core.specs.HookValues.{on_truths, operation_value, value_by, hook_value, hooks}
use Rattle.term_core.specs.HookValues.{Hook, Kind, argument_kinds}
use Rattle.term_core.specs.Values.{scalar_value}
use Rattle.term_core.specs.declared.ids.HookNo.{HookNo}
use Rattle.term_core.specs.declared.values.NoValue.{NoValue}
use Rattle.term_core.specs.declared.values.Scalar.{Scalar}
use Rattle.term_core.specs.declared.values.Scalar.TheVariants as scalar
use Rattle.rule_core.specs.HookCalls.{AreValues}
use Rattle.rule_core.specs.Sorting.{sort_at, HasValue}
use Rattle.rule_core.specs.MatchLaws.{AreTermsOf}
use Rattle.rule_core.specs.HookSorts.{ReferTo}
use Rattle.rule_core.specs.Records.{Record, RecordList, no_record, more_records, result_of}
use Rattle.rule_core.specs.Records.{results_of}
use Rattle.rule_core.specs.declared.signature.Signature.{Signature}
use Rattle.rule_core.specs.declared.signature.SortRef.{SortRef}
use Rattle.rule_core.specs.declared.signature.SymInfo.{SymInfo}
use Rattle.rule_core.specs.declared.signature.SymKind.{SymKind}
use Rattle.rule_core.specs.declared.signature.SymKind.TheVariants.{Hooked}
use Rattle.rule_core.proofs.EvaluationUnique.{same_symbol}
use Rattle.ml_image.specs.Images.{image_of}
use Rattle.ml_image.specs.Sentences.{Sentence, term, equals, sentence_image, IsImageOf}
use Rattle.ml_image.specs.OwnAxioms.{sort_numbered}
use Rattle.ml_image.specs.TrueFacts.{HaveValues, value_patterns, SaysHook}
use Rattle.prove_term.specs.Contexts.{Context, StaysIn}
use Rattle.prove_term.proofs.ImageShapes.{both_some}
use Rattle.prove_term.proofs.ComparingLaws.{image_closed}
use Rattle.prove_fun.specs.RecordParts.{listed}
use Rattle.prove_fun.specs.Evaluating.{IsHookCall, IsImage, SaysCall}

-- ---- arguments

no_result : {X : Type 0} {r : Result DomainValue NoValue} → None ≡ Some r → X
no_result e = let no : ⊥ = cc in absurd no

-- if an operation has a value, its arguments have no text
scalars_of : (op : Operation) (vs : List DomainValue) (r : Result DomainValue NoValue)
    → operation_value op vs ≡ Some r → (ss : List Scalar) × (vs ≡ map scalar_value ss)
scalars_of (on_integer f) (integer x ∷ []) r e = (scalar.Int x ∷ [], refl)
scalars_of (on_integers f) (integer x ∷ (integer y ∷ [])) r e =
    (scalar.Int x ∷ (scalar.Int y ∷ []), refl)
scalars_of (compares f) (integer x ∷ (integer y ∷ [])) r e =
    (scalar.Int x ∷ (scalar.Int y ∷ []), refl)
scalars_of (on_truth f) (truth a ∷ []) r e = (scalar.Bool a ∷ [], refl)
scalars_of (on_truths f) (truth a ∷ (truth b ∷ [])) r e =
    (scalar.Bool a ∷ (scalar.Bool b ∷ []), refl)
scalars_of op vs r e = no_result e

by_hooks : (o : Option Hook) (vs : List DomainValue) (r : Result DomainValue NoValue)
    → value_by o vs ≡ Some r → (ss : List Scalar) × (vs ≡ map scalar_value ss)
by_hooks None vs r e = no_result e
by_hooks (Some h) vs r e = scalars_of h.operation vs r e

pub hook_scalars : (sig : Signature) (f : ℕ) (ts : Forest) (t : Tree) → IsHookCall sig f ts t
    → (ss : List Scalar) × AreValues ts (map scalar_value ss)
hook_scalars sig f ts t h =
    let ss : (ss : List Scalar) × (h.answers.arguments ≡ map scalar_value ss) =
    by_hooks (slice_get hooks h.row) h.answers.arguments (Ok h.value) h.answers.answers in
    (ss.0, subst (AreValues ts) ss.1 h.answers.are)

same_values : (ts : Forest) (vs ws : List DomainValue) → AreValues ts vs → AreValues ts ws → vs ≡ ws
same_values no_tree vs ws a b = a ∙ sym b
same_values (more_trees (leaf s v) ts) vs ws a b =
    a.1 ∙ ap (λ r. v ∷ r) (same_values ts a.0 b.0 a.2 b.2) ∙ sym b.1
same_values (more_trees (node f us) ts) vs ws a b = absurd a
same_values (more_trees (inj k l t) ts) vs ws a b = absurd a

-- ---- sorts

named_sort : (of : SortRef) (sort : ℕ) → of ≡ sort_numbered sort → (s : ℕ) → sort_at [] of ≡ Some s
    → s ≡ sort
named_sort of sort is s at = let e : Some sort ≡ Some s = sym (ap (sort_at []) is) ∙ at in cc

refs_named : (sig : Signature) (ks : List Kind) (refs : List SortRef) → ReferTo sig ks refs
    → (sorts : List ℕ) × (refs ≡ map sort_numbered sorts)
refs_named sig [] [] h = ([], refl)
refs_named sig [] (of ∷ refs) h = absurd h
refs_named sig (k ∷ ks) [] h = absurd h
refs_named sig (k ∷ ks) (of ∷ refs) h =
    let rest : (sorts : List ℕ) × (refs ≡ map sort_numbered sorts) = refs_named sig ks refs h.1 in (
      h.0.0 ∷ rest.0,
      ap (λ (r : SortRef). r ∷ refs) h.0.1
          ∙ ap (λ (rs : List SortRef). sort_numbered h.0.0 ∷ rs) rest.1,
    )

-- terms of these sorts that are values
values_there : (sig : Signature) (sorts : List ℕ) (ts : Forest) (vs : List DomainValue)
    → AreTermsOf sig [] ts (map sort_numbered sorts) → AreValues ts vs
    → HaveValues sig sorts vs × (value_patterns sorts vs ≡ ground_patterns ts)
values_there sig [] no_tree vs of are = rw are (tt, refl)
values_there sig [] (more_trees t ts) vs of are = absurd of
values_there sig (s ∷ sorts) no_tree vs of are = absurd of
values_there sig (s ∷ sorts) (more_trees (leaf r v) ts) vs of are =
    let rest : HaveValues sig sorts are.0 × (value_patterns sorts are.0 ≡ ground_patterns ts) =
    values_there sig sorts ts are.0 of.3 are.2 in
    let same : r ≡ s = of.2.0 ∙ named_sort (sort_numbered s) s refl of.0 of.1 in
    let P : List DomainValue → Type 0 =
    λ ws. HaveValues sig (s ∷ sorts) ws
    × (value_patterns (s ∷ sorts) ws ≡ ground_patterns (more_trees (leaf r v) ts)) in
    let first : HasValue sig s v = subst (λ (n : ℕ). HasValue sig n v) same of.2.1 in
    subst P (sym are.1) (
      (first, rest.0),
      ap (λ (n : ℕ). more_patterns (domain_value n v) (value_patterns sorts are.0)) (sym same)
          ∙ ap (more_patterns (domain_value r v)) rest.1,
    )
values_there sig (s ∷ sorts) (more_trees (node f us) ts) vs of are = absurd are
values_there sig (s ∷ sorts) (more_trees (inj k l t) ts) vs of are = absurd are

-- ---- the fact

-- there is a sentence on a hook at these values
pub hook_says : (sig : Signature) (f : ℕ) (ts : Forest) (t : Tree) (vs : List DomainValue)
    → IsHookCall sig f ts t → AreValues ts vs → (s : Sentence) × SaysHook sig f vs s
hook_says sig f ts t vs h are =
    let refs : (sorts : List ℕ) × (h.info.args.items ≡ map sort_numbered sorts) =
    refs_named sig (argument_kinds h.fits.hook.operation) h.info.args.items h.fits.arguments in
    let there : HaveValues sig refs.0 vs × (value_patterns refs.0 vs ≡ ground_patterns ts) =
    values_there sig refs.0 ts vs
    (subst (λ (rs : List SortRef). AreTermsOf sig [] ts rs) refs.1 h.sorted) are in
    let same : vs ≡ h.answers.arguments = same_values ts vs h.answers.arguments are h.answers.are in
    let result : h.info.result ≡ sort_numbered h.sort =
    h.fits.result.1
    ∙ ap sort_numbered
    (sym (named_sort h.info.result h.fits.result.0 h.fits.result.1 h.sort h.at)) in (
      equals (term (call f [] (value_patterns refs.0 vs))) (term (domain_value h.sort h.value)),
      record {
        info = h.info;
        sorts = refs.0;
        sort = h.sort;
        declared = record { there = h.there; takes = refs.1; makes = result };
        row = h.row;
        hooked = h.answers.hooked;
        arguments = there.0;
        value = h.value;
        answers = ap (hook_value h.row) same ∙ h.answers.answers;
        has = h.has;
        says = refl;
      },
    )

same_row : (k : SymKind) (i j : ℕ) → k ≡ Hooked (record { 0 = i }) → k ≡ Hooked (record { 0 = j })
    → i ≡ j
same_row k i j a b =
    let e : Hooked (record { 0 = i }) ≡ Hooked (record { 0 = j }) = sym a ∙ b in
    let rows : ◌≡◌ {A = HookNo} (record { 0 = i }) (record { 0 = j }) = cc in
    ap (λ (r : HookNo). r.0) rows

same_value : (v w : DomainValue)
    → ◌≡◌ {A = Option (Result DomainValue NoValue)} (Some (Ok v)) (Some (Ok w)) → v ≡ w
same_value v w e = cc

-- the fact says what was recorded
pub hook_call : (cx : Context) (f : ℕ) (ts : Forest) (t : Tree) (vs : List DomainValue)
    (fact : Theorem) (image : Pattern) → IsHookCall cx.program.sig f ts t → AreValues ts vs
    → IsImageOf cx.program.sig cx.names (SaysHook cx.program.sig f vs) fact.conclusion
    → StaysIn cx fact → IsImage cx (ground_pattern t) image → SaysCall cx f ts image fact
hook_call cx f ts t vs fact image h are (s, says, image_is) stays is =
    let info : says.info ≡ h.info =
    same_symbol cx.program.sig f says.info h.info says.declared.there h.there in
    let refs : h.info.args.items ≡ map sort_numbered says.sorts =
    sym (ap (λ (i : SymInfo). i.args.items) info) ∙ says.declared.takes in
    let there : HaveValues cx.program.sig says.sorts vs ×
    (value_patterns says.sorts vs ≡ ground_patterns ts) =
    values_there cx.program.sig says.sorts ts vs
    (subst (λ (rs : List SortRef). AreTermsOf cx.program.sig [] ts rs) refs h.sorted) are in
    let row : says.row ≡ h.row =
    same_row h.info.kind says.row h.row (sym (ap (λ (i : SymInfo). i.kind) info) ∙ says.hooked)
    h.answers.hooked in
    let values : vs ≡ h.answers.arguments =
    same_values ts vs h.answers.arguments are h.answers.are in
    let value : says.value ≡ h.value =
    same_value says.value h.value (sym says.answers ∙ ap (λ (k : ℕ). hook_value k vs) row
    ∙ ap (hook_value h.row) values ∙ h.answers.answers) in
    let sort : h.sort ≡ says.sort =
    named_sort h.info.result says.sort
    (sym (ap (λ (i : SymInfo). i.result) info) ∙ says.declared.makes) h.sort h.at in
    let whole : sentence_image cx.program.sig cx.names (equals
    (term (call f [] (value_patterns says.sorts vs)))
    (term (domain_value says.sort says.value))) ≡ Some fact.conclusion =
    ap (sentence_image cx.program.sig cx.names) (sym says.says) ∙ image_is in
    let w : (x : Pattern) × (y : Pattern) ×
    (image_of cx.program.sig cx.names (call f [] (value_patterns says.sorts vs)) ≡ Some x) ×
    (image_of cx.program.sig cx.names (domain_value says.sort says.value) ≡ Some y) ×
    (fact.conclusion ≡ equal x y) =
    both_some equal (image_of cx.program.sig cx.names (call f [] (value_patterns says.sorts vs)))
    (image_of cx.program.sig cx.names (domain_value says.sort says.value)) fact.conclusion
    whole in
    let left : IsImage cx (call f [] (ground_patterns ts)) w.0 =
    ap (λ (ps : RulePatterns). image_of cx.program.sig cx.names (call f [] ps)) (sym there.1)
    ∙ w.2 in
    let result : Some image ≡ Some w.1 =
    sym is ∙ ap (λ (u : Tree). image_of cx.program.sig cx.names (ground_pattern u)) h.result
    ∙ ap (λ (n : ℕ). image_of cx.program.sig cx.names (domain_value n h.value)) sort
    ∙ ap (λ (v : DomainValue). image_of cx.program.sig cx.names (domain_value says.sort v))
    (sym value) ∙ w.3 in
    record {
      left = w.0;
      left_image = left;
      closed = image_closed cx.program.sig cx.names (node f ts) w.0 left;
      closed_right = image_closed cx.program.sig cx.names t image is;
      equal = record {
        says = w.4 ∙ ap (equal w.0) (sym (same_image image w.1 result));
        stays = stays;
      };
    }
  where
    same_image : (p q : Pattern) → Some p ≡ Some q → p ≡ q
    same_image p q e = cc

-- ---- the values of arguments, one by one

-- the results of the first records are these values
abbrev pub AreScalarsOf : List Record → List Scalar → Type 0
AreScalarsOf rs [] = Unit {0}
AreScalarsOf [] (s ∷ ss) = ⊥
AreScalarsOf (r ∷ rs) (s ∷ ss) =
    ((sort : ℕ) × (result_of r ≡ leaf sort (scalar_value s))) × AreScalarsOf rs ss

pub scalars-push : (rs : List Record) (ss : List Scalar) (r : Record) (s : Scalar)
    → AreScalarsOf rs ss → slice_get rs (length ss) ≡ Some r
    → (sort : ℕ) × (result_of r ≡ leaf sort (scalar_value s)) → AreScalarsOf rs (ss ++ s ∷ [])
scalars-push [] [] r s are there is = absurd (let no : ⊥ = cc in no)
scalars-push (q ∷ rs) [] r s are there is =
    let same : q ≡ r = cc in (
      subst (λ (x : Record). (sort : ℕ) × (result_of x ≡ leaf sort (scalar_value s))) (sym same) is,
      tt,
    )
scalars-push [] (x ∷ ss) r s are there is = absurd are
scalars-push (q ∷ rs) (x ∷ ss) r s are there is = (are.0, scalars-push rs ss r s are.1 there is)

pub scalars_all : (rs : RecordList) (ss : List Scalar) → AreScalarsOf (listed rs) ss
    → length (listed rs) ≡ length ss → AreValues (results_of rs) (map scalar_value ss)
scalars_all no_record [] are many = refl
scalars_all no_record (s ∷ ss) are many = absurd are
scalars_all (more_records r rs) [] are many = absurd (omega (arith, many))
scalars_all (more_records r rs) (s ∷ ss) are many =
    subst (λ (t : Tree). AreValues (more_trees t (results_of rs)) (map scalar_value (s ∷ ss)))
    (sym are.0.1) (map scalar_value ss, refl, scalars_all rs ss are.1 (omega (arith, many)))

values_first : (t : Tree) (ts : Forest) (s : Scalar) (ss : List Scalar)
    → AreValues (more_trees t ts) (map scalar_value (s ∷ ss))
    → ((sort : ℕ) × (t ≡ leaf sort (scalar_value s))) × AreValues ts (map scalar_value ss)
values_first (leaf r v) ts s ss are =
    let k : scalar_value s ∷ map scalar_value ss ≡ v ∷ are.0 = are.1 in
    let first : v ≡ scalar_value s = cc in
    let rest : are.0 ≡ map scalar_value ss = cc in
    ((r, ap (leaf r) first), subst (AreValues ts) rest are.2)
values_first (node f us) ts s ss are = absurd are
values_first (inj a b u) ts s ss are = absurd are

values_none : {A : Type 0} (t : Tree) (ts : Forest) → AreValues (more_trees t ts) [] → A
values_none (leaf r v) ts are = absurd (let k : [] ≡ v ∷ are.0 = are.1 in let no : ⊥ = cc in no)
values_none (node f us) ts are = absurd are
values_none (inj a b u) ts are = absurd are

pub value_item : (rs : RecordList) (ss : List Scalar) (i : ℕ) (r : Record)
    → AreValues (results_of rs) (map scalar_value ss) → slice_get (listed rs) i ≡ Some r
    → (sort : ℕ) × (s : Scalar) × (result_of r ≡ leaf sort (scalar_value s))
value_item no_record ss i r are there = absurd (let no : ⊥ = cc in no)
value_item (more_records q rs) [] i r are there = values_none (result_of q) (results_of rs) are
value_item (more_records q rs) (s ∷ ss) zero r are there =
    let same : q ≡ r = first q r there in
    let v : ((sort : ℕ) × (result_of q ≡ leaf sort (scalar_value s))) × AreValues (results_of rs)
    (map scalar_value ss) =
    values_first (result_of q) (results_of rs) s ss are in
    (v.0.0, s, ap result_of (sym same) ∙ v.0.1)
  where
    first : (q r : Record) → Some q ≡ Some r → q ≡ r
    first q r e = cc
value_item (more_records q rs) (s ∷ ss) (suc i) r are there =
    value_item rs ss i r (values_first (result_of q) (results_of rs) s ss are).1 there
