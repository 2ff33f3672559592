-- Variables in the images of what an accepted program may assume have small numbers.
use Rattle.std.proofs.Common.{◌≡◌, ◌⊎◌, inl, inr, ℕ, zero, suc, ◌+◌, ◌<◌, ◌≤◌, ◌^◌, List, [], ◌∷◌}
use Rattle.std.proofs.Common.{◌++◌, length, map, Option, Some, refl, sym, ap, subst, arith}
use Rattle.std.proofs.Common.{get_or, Vec, length-append}
use Rattle.std.specs.Global.{Global}
use Rattle.std.specs.Prelude.{All, Contains, IfSome, slice_get, slice_index_or}
use Rattle.std.proofs.lemmas.List.Elements.{All-contains, All-map}
use Rattle.std.proofs.lemmas.Option.{slice_get-get_or}
use Rattle.mm_text.specs.Bytes.{Token}
use Rattle.ml_pat.specs.Patterns.{Pattern}
use Rattle.ml_pat.specs.Patterns as logic
use Rattle.ml_pat.specs.Leaves.{LeafFacts, EachLeaf}
use Rattle.term_core.specs.Patterns.{application, no_pattern}
use Rattle.rule_core.specs.BoundVariables.{HasBoundVariables, IsEquationAt}
use Rattle.rule_core.specs.Guards.{AreGuards}
use Rattle.rule_core.specs.ProgramView.{theory_of, function_equation, rewrite_rule}
use Rattle.rule_core.specs.Rules.{RewriteRule, Equation as PlainEquation, Guard}
use Rattle.rule_core.specs.Theories.{RewriteTheory, equations_of}
use Rattle.rule_core.specs.declared.rules.Program.{Program}
use Rattle.rule_core.specs.declared.rules.Equation.{Equation}
use Rattle.rule_core.specs.declared.rules.Rule.{Rule}
use Rattle.rule_core.specs.declared.signature.Signature.{Signature}
use Rattle.rule_core.specs.declared.signature.SymInfo.{SymInfo}
use Rattle.ml_image.specs.Assumed.{IsAssumed}
use Rattle.ml_image.specs.HasImages.{after_guards}
use Rattle.ml_image.specs.Images.{both, sort_image}
use Rattle.ml_image.specs.NamedSides.{of_child}
use Rattle.ml_image.specs.OwnAxioms.{IsOwnAxiom, of_rule, of_equation, total, apart, free, subsort}
use Rattle.ml_image.specs.OwnAxioms.{collapse, Declares, SaysRule, SaysEquation, direct, kompile}
use Rattle.ml_image.specs.OwnAxioms.{last_resort, IsEquationFor, behind_parameters}
use Rattle.ml_image.specs.Sentences.{Sentence, term, symbol, inject, apply, top, bottom, not, and}
use Rattle.ml_image.specs.Sentences.{or, implies, equals, is_in, functional, exists, forall, next}
use Rattle.ml_image.specs.Sentences.{sentence_image, variables, conjunctions}
use Rattle.ml_image.specs.Sides.{Head, value, constructor, Side, plain, injected_variable}
use Rattle.ml_image.specs.Sides.{injected_head, head_sorts, side_sorts, IsHead, IsSide}
use Rattle.ml_image.specs.TrueFacts.{IsTrueFact, of_value, of_hook, of_unequal, of_injective}
use Rattle.ml_image.proofs.ConditionLaws.{length-sorts_of}
use Rattle.ml_image.proofs.ImageLaws.{some_same}
use Rattle.mm_adequate.specs.Assuming.{HasFewVariables}
use Rattle.mm_adequate.proofs.ClosedAxioms.{HasFree}
use Rattle.mm_adequate.proofs.FreeVariables.{length-numbered}
use Rattle.mm_adequate.proofs.OwnAxioms.{below_assumed}
use Rattle.mm_justify.proofs.ImageLeaves.{Known, two_leaves, sorted_leaves, term_leaves}
use Rattle.mm_justify.proofs.ImageLeaves.{inject_leaves}
use Rattle.assumed_texts.specs.AssumedTexts.{CanBeAssumed, HasFewArguments}
use Rattle.assumed_texts.proofs.Binders.{BindsSmall, binds-all, binds-applied, binds-variables}
use Rattle.assumed_texts.proofs.Binders.{binds-of, binds-pairs, binds-left, binds-sides, binds-meets}
use Rattle.assumed_texts.proofs.Binders.{binds-condition, binds-guards}
use Rattle.assumed_texts.proofs.Inversions.{BothSome, both-some, map-some}

-- the number of each object variable has 32 bits
abbrev pub small_variables : LeafFacts
small_variables = record {
  sort = λ i. Unit {0};
  constant = λ i. Unit {0};
  object = λ x. x < 2 ^ 32;
  meta = λ i. Unit {0};
}

-- so has that of each variable in the image of what the program may assume
abbrev pub AssumesSmall : RewriteTheory → Type 0
AssumesSmall theory =
    (s : Sentence) (names : List Token) (p : Pattern) → IsAssumed theory s
    → sentence_image theory.sig names s ≡ Some p → EachLeaf small_variables p

-- ---- images of sentences whose variables are all bound

known : (names : List Token) → Known names small_variables
known names = record { sorts = λ n w t. tt; constants = λ n w t. tt }

small-bound : (P : ℕ → Type 0) (x : ℕ) → ((y : ℕ) → P y → y < 2 ^ 32) → x < 2 ^ 32 → (y : ℕ)
    → P y ⊎ (y ≡ x) → y < 2 ^ 32
small-bound P x few small y (inl h) = few y h
small-bound P x few small y (inr h) = omega (arith, small, h)

abbrev Small : Option Pattern → Type 0
Small o = (p : Pattern) → o ≡ Some p → EachLeaf small_variables p

two-small : (k : Pattern → Pattern → Pattern) → ((x y : Pattern) → EachLeaf small_variables x
    → EachLeaf small_variables y → EachLeaf small_variables (k x y)) → (a b : Option Pattern)
    → Small a → Small b → Small (both k a b)
two-small k keeps a b ka kb = two_leaves small_variables k keeps a b ka kb

bound-small : (k : ℕ → Pattern → Pattern) → ((n : ℕ) (x : Pattern) → EachLeaf small_variables x
    → EachLeaf small_variables (k n x)) → (s : Option ℕ) (a : Option Pattern) → Small a
    → Small (both k s a)
bound-small k keeps s a ka p h =
    let w : BothSome k s a p = both-some k s a p h in
    subst (EachLeaf small_variables) (sym w.is) (keeps w.first w.second (ka w.second w.is_second))

image-small : (sig : Signature) (names : List Token) (P : ℕ → Type 0)
    → ((x : ℕ) → P x → x < 2 ^ 32) → (s : Sentence) → HasFree P s → BindsSmall s
    → Small (sentence_image sig names s)
image-small sig names P few (term a) h b p e =
    term_leaves sig names small_variables (known names) a (λ x i. few x (h x i)) p e
image-small sig names P few (symbol f) h b p e =
    term_leaves sig names small_variables (known names) (application f no_pattern)
    (λ x i. absurd i) p e
image-small sig names P few (inject x y) h b p e =
    inject_leaves sig names small_variables (known names) x y p e
image-small sig names P few (apply p q) h b r e =
    two-small logic.app (λ x y hx hy. (hx, hy)) (sentence_image sig names p)
    (sentence_image sig names q) (image-small sig names P few p h.0 b.0)
    (image-small sig names P few q h.1 b.1) r e
image-small sig names P few top h b p e =
    subst (EachLeaf small_variables) (some_same logic.top p e) tt
image-small sig names P few bottom h b p e =
    subst (EachLeaf small_variables) (some_same logic.bot p e) tt
image-small sig names P few (not p) h b r e =
    let w = map-some logic.not (sentence_image sig names p) r e in
    subst (EachLeaf small_variables) (sym w.1.1) (image-small sig names P few p h b w.0 w.1.0)
image-small sig names P few (and p q) h b r e =
    two-small logic.and (λ x y hx hy. (hx, hy)) (sentence_image sig names p)
    (sentence_image sig names q) (image-small sig names P few p h.0 b.0)
    (image-small sig names P few q h.1 b.1) r e
image-small sig names P few (or p q) h b r e =
    two-small logic.or (λ x y hx hy. (hx, hy)) (sentence_image sig names p)
    (sentence_image sig names q) (image-small sig names P few p h.0 b.0)
    (image-small sig names P few q h.1 b.1) r e
image-small sig names P few (implies p q) h b r e =
    two-small logic.imp (λ x y hx hy. (hx, hy)) (sentence_image sig names p)
    (sentence_image sig names q) (image-small sig names P few p h.0 b.0)
    (image-small sig names P few q h.1 b.1) r e
image-small sig names P few (equals p q) h b r e =
    two-small logic.equal (λ x y hx hy. (hx, hy)) (sentence_image sig names p)
    (sentence_image sig names q) (image-small sig names P few p h.0 b.0)
    (image-small sig names P few q h.1 b.1) r e
image-small sig names P few (is_in p q) h b r e =
    two-small logic.member (λ x y hx hy. (hx, hy)) (sentence_image sig names p)
    (sentence_image sig names q) (image-small sig names P few p h.0 b.0)
    (image-small sig names P few q h.1 b.1) r e
image-small sig names P few (functional p s) h b r e =
    sorted_leaves small_variables logic.fun (λ x n hx hn. (hx, hn)) (sentence_image sig names p)
    (sort_image sig names s) (image-small sig names P few p h b) (λ n i. tt) r e
image-small sig names P few (exists x s p) h b r e =
    bound-small (logic.ex x) (λ n q hq. (hq, (b.0, tt))) (sort_image sig names s)
    (sentence_image sig names p)
    (image-small sig names (λ y. P y ⊎ (y ≡ x)) (small-bound P x few b.0) p h.1 b.1) r e
image-small sig names P few (forall x s p) h b r e =
    bound-small (logic.all x) (λ n q hq. (hq, (b.0, tt))) (sort_image sig names s)
    (sentence_image sig names p)
    (image-small sig names (λ y. P y ⊎ (y ≡ x)) (small-bound P x few b.0) p h.1 b.1) r e
image-small sig names P few (next p) h b r e =
    let w = map-some logic.next (sentence_image sig names p) r e in
    subst (EachLeaf small_variables) (sym w.1.1) (image-small sig names P few p h b w.0 w.1.0)

-- ---- the numbers of variables of rules and equations

record FewVariables (theory : RewriteTheory) : Type 0 where
  pub rules : (r : RewriteRule) → Contains theory.rules r → length r.variables ≤ 2 ^ 32
  pub equations : (f : ℕ) (e : PlainEquation) → Contains (equations_of theory f) e
      → e.parameters + length e.variables ≤ 2 ^ 32
  pub guards : (f : ℕ) (e : PlainEquation) (guards : List Guard)
      → Contains (equations_of theory f) e → e.last_resort ≡ Some guards
      → after_guards (e.parameters + length e.variables) guards ≤ 2 ^ 32

each-equation : (Q : PlainEquation → Type 0) (lists : List (Vec Equation Global)) (f : ℕ)
    → ((i : ℕ) (q : Equation) (es : Vec Equation Global) → slice_get lists f ≡ Some es
    → slice_get es.items i ≡ Some q → Q (function_equation q))
    → All Q (slice_index_or (map (λ (v : Vec Equation Global). map function_equation v.items) lists)
    f [])
each-equation Q [] f each = λ i d lt. absurd (omega (arith, lt))
each-equation Q (v ∷ lists) zero each =
    All-map Q function_equation v.items
    (λ i d lt. each i (get_or v.items i d) v refl (slice_get-get_or v.items i d lt))
each-equation Q (v ∷ lists) (suc f) each = each-equation Q lists f each

equation-has : (program : Program) (Q : PlainEquation → Type 0) (f : ℕ) (e : PlainEquation)
    → ((i : ℕ) (q : Equation) → IsEquationAt program f i q → Q (function_equation q))
    → Contains (equations_of (theory_of program) f) e → Q e
equation-has program Q f e each there =
    All-contains Q (equations_of (theory_of program) f) e
    (each-equation Q program.equations.items f (λ i q es list at. each i q (es, list, at))) there

abbrev FitsEquation : PlainEquation → Type 0
FitsEquation e = e.parameters + length e.variables ≤ 2 ^ 32

abbrev FitsGuards : PlainEquation → Type 0
FitsGuards e =
    (guards : List Guard) → e.last_resort ≡ Some guards
    → after_guards (e.parameters + length e.variables) guards ≤ 2 ^ 32

fits-guards : (sig : Signature) (es : List PlainEquation) (e : PlainEquation)
    → IfSome e.last_resort (AreGuards sig es e) → FitsGuards e
fits-guards sig es e are guards is = go (subst (λ (o : Option (List Guard)).
    IfSome o (AreGuards sig es e)) is are)
  where
    go : AreGuards sig es e guards
        → after_guards (e.parameters + length e.variables) guards ≤ 2 ^ 32
    go h = omega (arith, h.few)

few-variables : (program : Program) → HasBoundVariables program → FewVariables (theory_of program)
few-variables program bound = record {
  rules = λ r there.
      All-contains (λ (q : RewriteRule). length q.variables ≤ 2 ^ 32) (theory_of program).rules r
      (All-map (λ (q : RewriteRule). length q.variables ≤ 2 ^ 32) rewrite_rule
      program.rules.items (λ i d lt. few_in (get_or program.rules.items i d)
      (bound.rules i (get_or program.rules.items i d)
      (slice_get-get_or program.rules.items i d lt)).few)) there;
  equations = λ f e there.
      equation-has program FitsEquation f e
      (λ i q at. omega (arith, (bound.equations f i q at).few, length-sorts_of q.vars.items)) there;
  guards = λ f e guards there last.
      equation-has program FitsGuards f e
      (λ i q at. fits-guards program.sig _ (function_equation q) (bound.guards f i q at)) there
      guards last;
}
  where
    few_in : (r : Rule) → length r.vars.items < 2 ^ 32 → length (rewrite_rule r).variables ≤ 2 ^ 32
    few_in r lt = omega (arith, lt, length-sorts_of r.vars.items)

fewer : (theory : RewriteTheory) → FewVariables theory → HasFewVariables theory
fewer theory few = record {
  rules = λ r there. omega (arith, few.rules r there);
  equations = λ f e there. omega (arith, few.equations f e there);
  guards = λ f e guards there last. omega (arith, few.guards f e guards there last);
}

pub has_few_variables : (program : Program) → HasBoundVariables program
    → HasFewVariables (theory_of program)
has_few_variables program bound = fewer (theory_of program) (few-variables program bound)

-- ---- what the sentences of own axioms bind

binds-rule : (theory : RewriteTheory) (r : RewriteRule) (p : Sentence) → FewVariables theory
    → Contains theory.rules r → SaysRule theory.sig r p → BindsSmall p
binds-rule theory r p few there says =
    subst BindsSmall (sym says.says)
    (binds-all 0 r.variables _ (omega (arith, few.rules r there)) (
      (
        binds-left (of_child 0 r.names) r.left,
        binds-condition theory.sig r.variables r.condition says.condition says.conditional,
      ),
      tt,
    ))

binds-equation : (theory : RewriteTheory) (f : ℕ) (e : PlainEquation) (p : Sentence)
    → FewVariables theory → IsEquationFor theory f e
    → SaysEquation theory.sig (equations_of theory f) f e p → BindsSmall p
binds-equation theory f e p few for (direct c ordinary none conditional says) =
    subst BindsSmall (sym says)
    (binds-all 0 e.variables _ (omega (arith, few.equations f e for.listed)) (
      binds-condition theory.sig e.variables e.condition c conditional,
      (binds-sides e.names 0 (symbol f) e.arguments tt, tt),
    ))
binds-equation theory f e p few for
    (kompile c info sorts sort ordinary some many declared conditional says) =
    let b : PlainEquation = behind_parameters sorts e in
    subst BindsSmall (sym says)
    (binds-all 0 b.variables _
    (omega (arith, length-append sorts e.variables, many, few.equations f e for.listed)) (
      (
        binds-condition theory.sig b.variables b.condition c conditional,
        binds-meets b.names 0 b.arguments,
      ),
      (binds-of f 0 (length sorts), tt),
    ))
binds-equation theory f e p few for
    (last_resort gs g c info sorts sort last some many declared tells conditional says) =
    let b : PlainEquation = behind_parameters sorts e in
    let after : after_guards (length sorts + length e.variables) gs ≤ 2 ^ 32 =
    subst (λ (n : ℕ). after_guards (n + length e.variables) gs ≤ 2 ^ 32) many
    (few.guards f e gs for.listed last) in
    subst BindsSmall (sym says)
    (binds-all 0 b.variables _
    (omega (arith, length-append sorts e.variables, many, few.equations f e for.listed)) (
      (
        binds-guards theory.sig (equations_of theory f) (length sorts + length e.variables) gs g
            after tells,
        (
          binds-condition theory.sig b.variables b.condition c conditional,
          binds-meets b.names 0 b.arguments,
        ),
      ),
      (binds-of f 0 (length sorts), tt),
    ))

few-sorts : (sig : Signature) (f : ℕ) (info : SymInfo) (sorts : List ℕ) (sort : ℕ)
    → HasFewArguments sig → Declares sig f info sorts sort → length sorts < 2 ^ 31
few-sorts sig f info sorts sort few declares =
    omega (arith, few f info declares.there, ap length declares.takes, length-numbered sorts)

binds-own : (theory : RewriteTheory) (p : Sentence) → FewVariables theory
    → HasFewArguments theory.sig → IsOwnAxiom theory p → BindsSmall p
binds-own theory p few args (of_rule r there says) = binds-rule theory r p few there says
binds-own theory p few args (of_equation f e for says) = binds-equation theory f e p few for says
binds-own theory p few args (total f says) =
    let n : ℕ = length says.sorts in
    let low : n < 2 ^ 31 =
    few-sorts theory.sig f says.info says.sorts says.sort args says.constructs.0 in
    subst BindsSmall (sym says.says)
    (binds-all 0 says.sorts _ (omega (arith, low)) (omega (arith, low), (tt, binds-of f 0 n)))
binds-own theory p few args (apart f g says) =
    let n : ℕ = length says.sorts in
    let m : ℕ = length says.others in
    subst BindsSmall (sym says.says)
    (binds-all 0 (says.sorts ++ says.others) _
    (omega (
      arith,
      few-sorts theory.sig f says.info says.sorts says.sort args says.first.0,
      few-sorts theory.sig g says.other says.others says.sort args says.second.0,
      length-append says.sorts says.others,
    )) (binds-of f 0 n, binds-of g n m))
binds-own theory p few args (free f says) =
    let n : ℕ = length says.sorts in
    subst BindsSmall (sym says.says)
    (binds-all 0 (says.sorts ++ says.sorts) _
    (omega (
      arith,
      few-sorts theory.sig f says.info says.sorts says.sort args says.constructs.0,
      length-append says.sorts says.sorts,
    )) (
      (binds-of f 0 n, binds-of f n n),
      binds-applied (symbol f) (conjunctions (variables 0 n) (variables n n)) tt
          (binds-pairs (variables 0 n) (variables n n) (binds-variables 0 n) (binds-variables n n)),
    ))
binds-own theory p few args (subsort a b says) =
    subst BindsSmall (sym says.says) (omega arith, (omega arith, (tt, tt)))
binds-own theory p few args (collapse a b c says) =
    subst BindsSmall (sym says.says) (omega arith, (tt, tt))

-- ---- what true facts bind

few-in-head : (sig : Signature) (sort : ℕ) (h : Head) → HasFewArguments sig → IsHead sig sort h
    → length (head_sorts h) < 2 ^ 31
few-in-head sig sort (value v) args is = omega arith
few-in-head sig sort (constructor f sorts) args (info, constructs, no_ac) =
    few-sorts sig f info sorts sort args constructs.0

few-in-side : (sig : Signature) (sort : ℕ) (s : Side) → HasFewArguments sig → IsSide sig sort s
    → length (side_sorts s) < 2 ^ 31
few-in-side sig sort (plain h) args is = few-in-head sig sort h args is
few-in-side sig sort (injected_variable a) args is = omega arith
few-in-side sig sort (injected_head a h) args is = few-in-head sig a h args is.1

binds-fact : (sig : Signature) (p : Sentence) → HasFewArguments sig → IsTrueFact sig p
    → BindsSmall p
binds-fact sig p args (of_value s v says) = subst BindsSmall (sym says.says) tt
binds-fact sig p args (of_hook f vs says) = subst BindsSmall (sym says.says) (tt, tt)
binds-fact sig p args (of_unequal left right says) =
    let h = says.apart in
    subst BindsSmall (sym says.says)
    (binds-all 0 says.sorts _
    (omega (
      arith,
      ap length h.sorts_are,
      length-append (side_sorts h.one) (side_sorts h.other),
      few-in-side sig h.sort h.one args h.is_one,
      few-in-side sig h.sort h.other args h.is_other,
    )) (tt, tt))
binds-fact sig p args (of_injective a b says) =
    subst BindsSmall (sym says.says) (omega arith, (omega arith, ((tt, tt), (tt, tt))))

binds-assumed : (theory : RewriteTheory) (p : Sentence) → FewVariables theory
    → HasFewArguments theory.sig → IsAssumed theory p → BindsSmall p
binds-assumed theory p few args (inl own) = binds-own theory p few args own
binds-assumed theory p few args (inr fact) = binds-fact theory.sig p args fact

-- ---- so they are small

none-free : (x : ℕ) → x < 0 → x < 2 ^ 32
none-free x l = absurd (omega (arith, l))

pub assumes-small : (program : Program) → CanBeAssumed program → AssumesSmall (theory_of program)
assumes-small program can s names p assumed is =
    let few : FewVariables (theory_of program) = few-variables program can.bound in
    image-small program.sig names (λ x. x < 0) none-free s
    (below_assumed (theory_of program) s can.sorted (fewer (theory_of program) few) assumed)
    (binds-assumed (theory_of program) s few can.arguments assumed) p is
