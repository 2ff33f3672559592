-- The sentences of a well-sorted program's own axioms, and of true facts, have no free variables.
use Rattle.std.proofs.Common.{◌≡◌, ℕ, ◌+◌, ◌<◌, ◌≤◌, ◌^◌, zero, suc, Bool, true, false, List, []}
use Rattle.std.proofs.Common.{◌∷◌, ◌++◌, map, length, Some, option_map, refl, sym, ap}
use Rattle.std.proofs.Common.{◌∙◌, subst, arith, ◌⊎◌, inl, inr, length-append}
use Rattle.std.proofs.Common.{pos_of_ne-zero}
use Rattle.std.specs.Prelude.{All, Contains}
use Rattle.std.proofs.lemmas.List.Elements.{All-contains}
use Rattle.ml_pat.specs.Judgements.{fresh}
use Rattle.term_core.specs.Terms.{DomainValue}
use Rattle.term_core.specs.Patterns.{Pattern, variable}
use Rattle.term_core.specs.Patterns.{injection, no_pattern, more_patterns}
use Rattle.rule_core.specs.Rules.{RewriteRule, Equation}
use Rattle.rule_core.specs.Theories.{RewriteTheory, equations_of}
use Rattle.rule_core.specs.Matching.{OccursIn, OccursInSome}
use Rattle.rule_core.specs.Sorting.{IsSymbol}
use Rattle.rule_core.specs.WellSorted.{IsRuleOf, IsEquationOf}
use Rattle.rule_core.specs.WellSorted.{IsWellSorted}
use Rattle.rule_core.specs.declared.signature.Signature.{Signature}
use Rattle.rule_core.specs.declared.signature.SymInfo.{SymInfo}
use Rattle.ml_image.specs.Assumed.{IsAssumed}
use Rattle.ml_image.specs.HasImages.{AreNamesBelow, count_of}
use Rattle.ml_image.specs.HasImages.{after_guards}
use Rattle.ml_image.specs.NamedSides.{of_child}
use Rattle.ml_image.specs.Images.{shifted, all_shifted}
use Rattle.ml_image.specs.Sentences.{Sentence, term, symbol, not}
use Rattle.ml_image.specs.Sentences.{implies, equals, exists, variables}
use Rattle.ml_image.specs.Sentences.{conjunctions}
use Rattle.ml_image.specs.Premises.{condition_sentence, meets}
use Rattle.ml_image.specs.Premises.{name_behind}
use Rattle.ml_image.specs.OwnAxioms.{SaysRule, IsOwnAxiom, Declares, SaysEquation}
use Rattle.ml_image.specs.OwnAxioms.{direct, kompile, last_resort, IsEquationFor, of_variables}
use Rattle.ml_image.specs.OwnAxioms.{SaysTotal}
use Rattle.ml_image.specs.OwnAxioms.{SaysApart, SaysFree, of_rule, of_equation, total, apart, free}
use Rattle.ml_image.specs.OwnAxioms.{subsort, collapse}
use Rattle.ml_image.specs.Sides.{Head, value, constructor, Side, plain, injected_variable}
use Rattle.ml_image.specs.Sides.{injected_head, numbered, head_sorts, side_sorts, head_pattern}
use Rattle.ml_image.specs.Sides.{side_pattern, IsHead, IsSide}
use Rattle.ml_image.specs.TrueFacts.{value_patterns, IsTrueFact, of_value, of_hook, of_unequal}
use Rattle.ml_image.specs.TrueFacts.{of_injective, SaysUnequal}
use Rattle.ml_image.proofs.ImageLaws.{some_same}
use Rattle.mm_adequate.specs.Assuming.{AssumesClosed, HasFewVariables}
use Rattle.mm_adequate.proofs.ClosedAxioms.{IsBelow, image_below}
use Rattle.mm_adequate.proofs.FreeVariables.{sorted_uses, all_sorted_use, counted, shifted_uses}
use Rattle.mm_adequate.proofs.FreeVariables.{all_shifted_use, count_shifted, length-numbered}
use Rattle.mm_adequate.proofs.FreeVariables.{below_bound, closes, below_apply, below_variables}
use Rattle.mm_adequate.proofs.FreeVariables.{below_of, below_pairs, below_child, below_left}
use Rattle.mm_adequate.proofs.FreeVariables.{below_sides, below_meets, names_behind, names_below}
use Rattle.mm_adequate.proofs.FreeVariables.{ConditionUses, condition_uses, condition_shifted}
use Rattle.mm_adequate.proofs.FreeVariables.{below_condition, below_guards}

-- ---- rules and equations

below_rule : (theory : RewriteTheory) (r : RewriteRule) (p : Sentence) → IsWellSorted theory
    → HasFewVariables theory → Contains theory.rules r → SaysRule theory.sig r p → IsBelow 0 p
below_rule theory r p ok few there says = go ok.one_sort
  where
    none_there : (rules : List RewriteRule) → rules ≡ [] → Contains rules r → IsBelow 0 p
    none_there [] none w = absurd (omega (arith, w.1))
    none_there (q ∷ rules) none w = let bad : ⊥ = cc in absurd bad

    go : (theory.rules ≡ []) ⊎ ((sort : ℕ) × All (IsRuleOf theory.sig sort) theory.rules)
        → IsBelow 0 p
    go (inl none) = none_there theory.rules none there
    go (inr (sort, each)) =
        let is : IsRuleOf theory.sig sort r =
        All-contains (IsRuleOf theory.sig sort) theory.rules r each there in
        subst (IsBelow 0) (sym says.says)
        (closes r.variables _ (few.rules r there) (
          (
            below_left (λ x. x < length r.variables) (of_child 0 r.names) r.left
                (below_child (λ x. x < length r.variables) 0 r.names
                (names_below theory.sig r.variables (more_patterns r.left no_pattern) r.names
                is.names))
                (λ x i. sorted_uses theory.sig r.variables r.left sort x ok.signature is.left i),
            below_condition theory.sig r.variables (length r.variables) r.condition says.condition
                (condition_uses theory.sig r.variables (more_patterns r.left no_pattern)
                r.condition r.names ok.signature is.condition) says.conditional,
          ),
          (λ x i. sorted_uses theory.sig r.variables r.right sort x ok.signature is.right i),
        ))

same_symbol : (sig : Signature) (f : ℕ) (one other : SymInfo) → IsSymbol sig f one
    → IsSymbol sig f other → one ≡ other
same_symbol sig f one other h k =
    ap (λ (w : List ℕ × SymInfo). w.1)
    (some_same (h.0, one) (k.0, other) (sym h.1 ∙ k.1))

below_equation : (theory : RewriteTheory) (f : ℕ) (e : Equation) (p : Sentence)
    → IsWellSorted theory → HasFewVariables theory → IsEquationFor theory f e
    → SaysEquation theory.sig (equations_of theory f) f e p → IsBelow 0 p
below_equation theory f e p ok few for says = go says
  where
    sig : Signature
    sig = theory.sig

    n : ℕ
    n = length e.variables

    is : IsEquationOf theory.sig for.info e
    is =
        All-contains (IsEquationOf theory.sig for.info) (equations_of theory f) e
        (ok.equations f for.info for.function) for.listed

    arguments : (x : ℕ) → OccursInSome x e.arguments → x < length e.variables
    arguments x i =
        all_sorted_use theory.sig e.variables [] e.arguments for.info.args.items x ok.signature
        is.arguments i

    right : (x : ℕ) → OccursIn x e.right → x < length e.variables
    right x i = sorted_uses theory.sig e.variables e.right is.sort x ok.signature is.right i

    condition : ConditionUses (length e.variables) e.condition
    condition =
        condition_uses theory.sig e.variables e.arguments e.condition e.names ok.signature
        is.condition

    named : AreNamesBelow (length e.variables) e.names
    named = names_below theory.sig e.variables e.arguments e.names is.names

    arguments_many : (info : SymInfo) (sorts : List ℕ) (sort : ℕ)
        → Declares theory.sig f info sorts sort → length for.info.args.items ≡ length sorts
    arguments_many info sorts sort declared =
        ap (λ (i : SymInfo). length i.args.items)
        (same_symbol theory.sig f for.info info for.function declared.there)
        ∙ ap length declared.takes ∙ length-numbered sorts

    -- the condition, and the parameters in their arguments
    required : (info : SymInfo) (sorts : List ℕ) (sort : ℕ) (c : Sentence)
        → Declares theory.sig f info sorts sort
        → condition_sentence theory.sig (sorts ++ e.variables)
        (option_map (shifted (length sorts)) e.condition) ≡ Some c
        → IsBelow (length (sorts ++ e.variables)) c
        × IsBelow (length (sorts ++ e.variables))
        (meets (map (name_behind (length sorts)) e.names) 0
        (all_shifted (length sorts) e.arguments))
    required info sorts sort c declared conditional =
        let k : ℕ = length (sorts ++ e.variables) in
        let long : k ≡ length sorts + length e.variables = length-append sorts e.variables in
        let count : count_of (all_shifted (length sorts) e.arguments) ≡ length sorts =
        count_shifted (length sorts) e.arguments
        ∙ counted theory.sig e.variables [] e.arguments for.info.args.items is.arguments
        ∙ arguments_many info sorts sort declared in (
          below_condition theory.sig (sorts ++ e.variables) k
              (option_map (shifted (length sorts)) e.condition) c
              (subst (λ (m : ℕ).
              ConditionUses m (option_map (shifted (length sorts)) e.condition)) (sym long)
              (condition_shifted (length sorts) (length e.variables) e.condition condition))
              conditional,
          below_meets (λ x. x < length (sorts ++ e.variables))
              (map (name_behind (length sorts)) e.names) 0
              (all_shifted (length sorts) e.arguments)
              (subst (λ (m : ℕ). AreNamesBelow m (map (name_behind (length sorts)) e.names))
              (sym long) (names_behind (length sorts) (length e.variables) e.names named))
              (λ x i. omega (arith, count, long, i))
              (λ x i. omega (
                arith,
                long,
                all_shifted_use (length sorts) (length e.variables) e.arguments x arguments i,
              )),
        )

    -- the function applied to the parameters, and the right side
    equated : (info : SymInfo) (sorts : List ℕ) (sort : ℕ)
        → Declares theory.sig f info sorts sort
        → IsBelow (length (sorts ++ e.variables)) (of_variables f 0 (length sorts))
        × IsBelow (length (sorts ++ e.variables)) (term (shifted (length sorts) e.right))
    equated info sorts sort declared =
        let k : ℕ = length (sorts ++ e.variables) in
        let long : k ≡ length sorts + length e.variables = length-append sorts e.variables in (
          below_of k f 0 (length sorts) (omega (arith, long)),
          (λ x i. omega (
            arith,
            long,
            shifted_uses (length sorts) (length e.variables) e.right x right i,
          )),
        )

    go : SaysEquation theory.sig (equations_of theory f) f e p → IsBelow 0 p
    go (direct c ordinary none conditional says_it) =
        subst (IsBelow 0) (sym says_it)
        (closes e.variables _ (omega (arith, few.equations f e for.listed)) (
          below_condition theory.sig e.variables (length e.variables) e.condition c condition
              conditional,
          (
            below_sides (λ x. x < length e.variables) e.names 0 (symbol f) e.arguments named tt
                arguments,
            right,
          ),
        ))
    go (kompile c info sorts sort ordinary some many declared conditional says_it) =
        let k : ℕ = length (sorts ++ e.variables) in
        let long : k ≡ length sorts + length e.variables = length-append sorts e.variables in
        subst (IsBelow 0) (sym says_it)
        (closes (sorts ++ e.variables) _
        (omega (arith, long, many, few.equations f e for.listed)) (
          required info sorts sort c declared conditional,
          equated info sorts sort declared,
        ))
    go (last_resort guards g c info sorts sort last some many declared tells conditional says_it) =
        let k : ℕ = length (sorts ++ e.variables) in
        let long : k ≡ length sorts + length e.variables = length-append sorts e.variables in
        let after : after_guards (length sorts + length e.variables) guards ≤ 2 ^ 64 =
        subst (λ (n : ℕ). after_guards (n + length e.variables) guards ≤ 2 ^ 64) many
        (few.guards f e guards for.listed last) in
        subst (IsBelow 0) (sym says_it)
        (closes (sorts ++ e.variables) _
        (omega (arith, long, many, few.equations f e for.listed)) (
          (
            below_guards theory ok f for.info for.function k
                (omega (arith, long, pos_of_ne-zero some, many))
                (omega (arith, long, arguments_many info sorts sort declared))
                (length sorts + length e.variables) guards after g tells,
            required info sorts sort c declared conditional,
          ),
          equated info sorts sort declared,
        ))

-- ---- constructors

few_sorts : (theory : RewriteTheory) (f : ℕ) (info : SymInfo) (sorts : List ℕ) (sort : ℕ)
    → Declares theory.sig f info sorts sort → length sorts < 2 ^ 63
few_sorts theory f info sorts sort declares =
    let low : length info.args.items < 2 ^ 63 = omega (arith, info.args.ok) in
    omega (arith, low, ap length declares.takes, length-numbered sorts)

below_total : (theory : RewriteTheory) (f : ℕ) (p : Sentence)
    → SaysTotal theory.sig f p → IsBelow 0 p
below_total theory f p says =
    let n : ℕ = length says.sorts in
    let low : n < 2 ^ 63 = few_sorts theory f says.info says.sorts says.sort says.constructs.0
    in
    subst (IsBelow 0) (sym says.says)
    (closes says.sorts _ (omega (arith, low)) (
      omega (arith, low),
      below_bound n (equals (term (variable n)) (of_variables f 0 n))
          ((λ x i. omega (arith, i)), below_of (n + 1) f 0 n (omega arith)),
    ))

below_apart : (theory : RewriteTheory) (f g : ℕ) (p : Sentence)
    → SaysApart theory.sig f g p → IsBelow 0 p
below_apart theory f g p says =
    let n : ℕ = length says.sorts in
    let m : ℕ = length says.others in
    let low : n < 2 ^ 63 = few_sorts theory f says.info says.sorts says.sort says.first.0 in
    let small : m < 2 ^ 63 =
    few_sorts theory g says.other says.others says.sort says.second.0 in
    let long : length (says.sorts ++ says.others) ≡ n + m = length-append says.sorts says.others in
    subst (IsBelow 0) (sym says.says)
    (closes (says.sorts ++ says.others) _ (omega (arith, low, small, long)) (
      below_of (length (says.sorts ++ says.others)) f 0 n (omega (arith, long)),
      below_of (length (says.sorts ++ says.others)) g n m (omega (arith, long)),
    ))

below_free : (theory : RewriteTheory) (f : ℕ) (p : Sentence)
    → SaysFree theory.sig f p → IsBelow 0 p
below_free theory f p says =
    let n : ℕ = length says.sorts in
    let k : ℕ = length (says.sorts ++ says.sorts) in
    let low : n < 2 ^ 63 = few_sorts theory f says.info says.sorts says.sort says.constructs.0
    in
    let long : k ≡ n + n = length-append says.sorts says.sorts in
    subst (IsBelow 0) (sym says.says)
    (closes (says.sorts ++ says.sorts) _ (omega (arith, low, long)) (
      (below_of k f 0 n (omega (arith, long)), below_of k f n n (omega (arith, long))),
      below_apply k (symbol f) (conjunctions (variables 0 n) (variables n n)) tt
          (below_pairs k (variables 0 n) (variables n n)
          (below_variables k 0 n (omega (arith, long)))
          (below_variables k n n (omega (arith, long)))),
    ))

-- ---- all that is assumed

below_own : (theory : RewriteTheory) (p : Sentence) → IsWellSorted theory
    → HasFewVariables theory → IsOwnAxiom theory p → IsBelow 0 p
below_own theory p ok few (of_rule r there says) = below_rule theory r p ok few there says
below_own theory p ok few (of_equation f e for says) = below_equation theory f e p ok few for says
below_own theory p ok few (total f says) = below_total theory f p says
below_own theory p ok few (apart f g says) = below_apart theory f g p says
below_own theory p ok few (free f says) = below_free theory f p says
below_own theory p ok few (subsort a b says) =
    subst (IsBelow 0) (sym says.says)
    (closes (a ∷ [])
    (exists 1 b (equals (term (variable 1)) (term (injection a b (variable 0))))) (omega arith) (
      omega arith,
      below_bound 1 (equals (term (variable 1)) (term (injection a b (variable 0))))
          ((λ x i. omega (arith, i)), (λ x i. omega (arith, i))),
    ))
below_own theory p ok few (collapse a b c says) =
    subst (IsBelow 0) (sym says.says)
    (closes (a ∷ [])
    (equals (term (injection b c (injection a b (variable 0))))
    (term (injection a c (variable 0)))) (omega arith)
    ((λ x i. omega (arith, i)), (λ x i. omega (arith, i))))

no_variable : (sorts : List ℕ) (vs : List DomainValue) (x : ℕ)
    → OccursInSome x (value_patterns sorts vs) → ⊥
no_variable [] vs x i = i
no_variable (s ∷ sorts) [] x i = i
no_variable (s ∷ sorts) (v ∷ vs) x (inl i) = i
no_variable (s ∷ sorts) (v ∷ vs) x (inr i) = no_variable sorts vs x i

-- ---- facts about patterns that are apart

numbered_below : (k j n x : ℕ) → j + n ≤ k → OccursInSome x (numbered j n) → x < k
numbered_below k j zero x l i = absurd i
numbered_below k j (suc n) x l (inl i) = omega (arith, l, i)
numbered_below k j (suc n) x l (inr i) = numbered_below k (j + 1) n x (omega (arith, l)) i

head_below : (sort k j x : ℕ) (h : Head) → j + length (head_sorts h) ≤ k
    → OccursIn x (head_pattern sort j h) → x < k
head_below sort k j x (value v) l i = absurd i
head_below sort k j x (constructor f sorts) l i = numbered_below k j (length sorts) x l i

side_below : (sort k j x : ℕ) (s : Side) → j + length (side_sorts s) ≤ k
    → OccursIn x (side_pattern sort j s) → x < k
side_below sort k j x (plain h) l i = head_below sort k j x h l i
side_below sort k j x (injected_variable a) l i = omega (arith, l, i)
side_below sort k j x (injected_head a h) l i = head_below a k j x h l i

few_in_head : (theory : RewriteTheory) (sort : ℕ) (h : Head) → IsHead theory.sig sort h
    → length (head_sorts h) < 2 ^ 63
few_in_head theory sort (value v) is = omega arith
few_in_head theory sort (constructor f sorts) (info, constructs, no_ac) =
    few_sorts theory f info sorts sort constructs.0

few_in_side : (theory : RewriteTheory) (sort : ℕ) (s : Side) → IsSide theory.sig sort s
    → length (side_sorts s) < 2 ^ 63
few_in_side theory sort (plain h) is = few_in_head theory sort h is
few_in_side theory sort (injected_variable a) is = omega arith
few_in_side theory sort (injected_head a h) is = few_in_head theory a h is.1

below_unequal : (theory : RewriteTheory) (left right : Pattern) (p : Sentence)
    → SaysUnequal theory.sig left right p → IsBelow 0 p
below_unequal theory left right p says =
    let k : ℕ = length says.sorts in
    let h = says.apart in
    let n : ℕ = length (side_sorts h.one) in
    let m : ℕ = length (side_sorts h.other) in
    let long : k ≡ n + m =
    ap length h.sorts_are ∙ length-append (side_sorts h.one) (side_sorts h.other) in
    subst (IsBelow 0) (sym says.says)
    (closes says.sorts (not (equals (term left) (term right)))
    (omega (
      arith,
      long,
      few_in_side theory h.sort h.one h.is_one,
      few_in_side theory h.sort h.other h.is_other,
    )) (
      (λ x i. side_below h.sort k 0 x h.one (omega (arith, long))
          (subst (OccursIn x) h.first i)),
      (λ x i. side_below h.sort k n x h.other (omega (arith, long))
          (subst (OccursIn x) h.second i)),
    ))

below_fact : (theory : RewriteTheory) (p : Sentence) → IsTrueFact theory.sig p → IsBelow 0 p
below_fact theory p (of_value s v says) = subst (IsBelow 0) (sym says.says) (λ x i. absurd i)
below_fact theory p (of_hook f vs says) =
    subst (IsBelow 0) (sym says.says)
    ((λ x i. absurd (no_variable says.sorts vs x i)), (λ x i. absurd i))
below_fact theory p (of_unequal left right says) = below_unequal theory left right p says
below_fact theory p (of_injective a b says) =
    subst (IsBelow 0) (sym says.says)
    (closes (a ∷ a ∷ [])
    (implies
    (equals (term (injection a b (variable 0))) (term (injection a b (variable 1))))
    (equals (term (variable 0)) (term (variable 1)))) (omega arith) (
      ((λ x i. omega (arith, i)), (λ x i. omega (arith, i))),
      ((λ x i. omega (arith, i)), (λ x i. omega (arith, i))),
    ))

pub below_assumed : (theory : RewriteTheory) (p : Sentence) → IsWellSorted theory
    → HasFewVariables theory → IsAssumed theory p → IsBelow 0 p
below_assumed theory p ok few (inl own) = below_own theory p ok few own
below_assumed theory p ok few (inr fact) = below_fact theory p fact

pub assumes_closed : (theory : RewriteTheory) → IsWellSorted theory → HasFewVariables theory
    → AssumesClosed theory
assumes_closed theory ok few = record {
  closed = λ s names p x assumed image_is.
      closed_at (fresh x p) ((image_below theory.sig names (λ x. x < 0) none_few s
      (below_assumed theory s ok few assumed) p image_is).0 x);
  few = λ s names p assumed image_is.
      (image_below theory.sig names (λ x. x < 0) none_few s (below_assumed theory s ok few assumed)
      p
      image_is).1;
}
  where
    none_few : (x : ℕ) → x < 0 → x < 2 ^ 64
    none_few x l = absurd (omega (arith, l))

    closed_at : (b : Bool) {x : ℕ} → (b ≡ false → x < 0) → b ≡ true
    closed_at true h = refl
    closed_at false h = absurd (omega (arith, h refl))
