-- Well-sorted patterns have an answer. A value is a normal term of the pattern's sort, and it is
-- not too high.
use Rattle.std.proofs.Common.{◌≡◌, ℕ, suc, zero, ◌<◌, ◌≤◌, ◌≢◌, ◌⊎◌, inl, inr, ⊎_elim, List, []}
use Rattle.std.proofs.Common.{◌∷◌, length, slice_get, true, false, Option, Some, None, refl, sym}
use Rattle.std.proofs.Common.{◌∙◌, ap, subst, arith}
use Rattle.std.specs.Prelude.{All, IsSome, IfSome}
use Rattle.std.proofs.Math.Nat.{eq-or-lt_of_le, le_trans}
use Rattle.std.proofs.lemmas.Bool.{cases_lt, false≢true}
use Rattle.term_core.specs.Terms.{DomainValue, integer, truth, text, Tree, leaf, node, inj, Forest}
use Rattle.term_core.specs.Terms.{no_tree, more_trees, height, heights, IsNormal, AreNormal}
use Rattle.term_core.specs.Terms.{injected}
use Rattle.term_core.specs.Patterns.{Pattern, Patterns, variable, domain_value, application}
use Rattle.term_core.specs.Patterns.{injection, call, no_pattern, more_patterns, binding}
use Rattle.term_core.specs.Patterns.{instance_of, instances_of}
use Rattle.term_core.proofs.Forests.{IsNormal-injected, height-injected_le}
use Rattle.rule_core.specs.Rules.{Equation}
use Rattle.rule_core.specs.Theories.{RewriteTheory, equations_of}
use Rattle.rule_core.specs.NamedParts.{Name, IsNamed, part_instance}
use Rattle.rule_core.specs.Matching.{OccursIn, OccursInSome, RespectsSorts, MatchNamed}
use Rattle.rule_core.specs.MatchLaws.{AreTermsOf}
use Rattle.rule_core.specs.Sorting.{HasSort, HaveSorts, IsTermOf, IsSymbol, IsFunction}
use Rattle.rule_core.specs.Sorting.{HasInjection, HasValue, sort_at}
use Rattle.rule_core.specs.Evaluation.{MatchesBy, IsUnmatchedBy}
use Rattle.rule_core.specs.Evaluation.{Evaluated, value, blocked, AllEvaluated, values, all_blocked}
use Rattle.rule_core.specs.Evaluation.{ConditionOutcome, holds, fails, untested, no_value, closed}
use Rattle.rule_core.specs.Evaluation.{no_equation, no_call_left, too_high, too_nested, IsTrueValue}
use Rattle.rule_core.specs.Evaluation.{most_height, IsInjectionSymbol, HasHead, of_constructor}
use Rattle.rule_core.specs.Evaluation.{of_injection, of_call, built, Says, says_true, says_other}
use Rattle.rule_core.specs.Evaluation.{says_nothing, Evaluates, bound, itself, nested_out}
use Rattle.rule_core.specs.Evaluation.{argument_blocked, made, made_too_high, function_called}
use Rattle.rule_core.specs.Evaluation.{EvaluateAll, none_left, first_blocked, later_blocked}
use Rattle.rule_core.specs.Evaluation.{one_more, HasOutcome, by_nothing, without_call, by_hook}
use Rattle.rule_core.specs.Evaluation.{hook_fails, by_equations, Equates, no_equation_left}
use Rattle.rule_core.specs.Evaluation.{unmatched, condition_fails, condition_blocked, used, Tests}
use Rattle.rule_core.specs.Evaluation.{no_condition, condition, EvaluatesIn, no_nesting, inside}
use Rattle.rule_core.specs.HookCalls.{HookAnswers, HookFails}
use Rattle.term_core.specs.declared.values.NoValue.{NoValue}
use Rattle.rule_core.specs.WellSorted.{IsWellSorted, BindsVariablesOf, IsEquationOf, IsCondition}
use Rattle.rule_core.specs.WellSorted.{UsesOnly, HaveNames}
use Rattle.rule_core.specs.HookSorts.{FitsHook}
use Rattle.rule_core.specs.declared.signature.Signature.{Signature}
use Rattle.rule_core.specs.declared.signature.SortRef.{SortRef}
use Rattle.rule_core.specs.declared.signature.SymInfo.{SymInfo}
use Rattle.rule_core.specs.declared.signature.SymKind.{SymKind}
use Rattle.rule_core.specs.declared.signature.SymKind.TheVariants.{Injection, Ctor, Equations}
use Rattle.rule_core.specs.declared.signature.SymKind.TheVariants.{Hooked, Closed, NoKind}
use Rattle.rule_core.proofs.EvaluationUnique.{all_first, all_rest, same_symbol}
use Rattle.rule_core.proofs.HookRanges.{hook_answer}
use Rattle.rule_core.proofs.SortedInstances.{mapped, both_there, IsTermOf-injected}
use Rattle.rule_core.proofs.MatchExact.{match_is_decidable}
use Rattle.rule_core.proofs.NamedMatches.{at_name, part_low, match_named_is_decidable}

-- ---- a binding is no higher than the instance

mutual
  binding_low : (theta : List (Option Tree)) (p : Pattern) (x : ℕ) (t u : Tree)
      → instance_of theta p ≡ Some t → OccursIn x p → binding theta x ≡ Some u → height u ≤ height t
  binding_low theta (variable y) x t u e stands b =
      let both : Some u ≡ Some t = sym b ∙ ap (binding theta) stands ∙ e in
      let same : u ≡ t = cc in
      rw same (omega arith)
  binding_low theta (domain_value s v) x t u e stands b = absurd stands
  binding_low theta (application f ps) x t u e stands b =
      let whole = mapped (node f) (instances_of theta ps) t e in
      let low : height u ≤ heights whole.0 =
      binding_low_in theta ps x whole.0 u whole.1.0 stands b in
      subst (λ w. height u ≤ height w) whole.1.1 (omega (arith, low))
  binding_low theta (injection a b p) x t u e stands c =
      let whole = mapped (injected a b) (instance_of theta p) t e in
      let low : height u ≤ height whole.0 = binding_low theta p x whole.0 u whole.1.0 stands c in
      subst (λ w. height u ≤ height w) whole.1.1
      (omega (arith, low, height-injected_le a b whole.0))
  binding_low theta (call f sorts ps) x t u e stands b =
      let k : None ≡ Some t = e in let no : ⊥ = cc in absurd no

  binding_low_in : (theta : List (Option Tree)) (ps : Patterns) (x : ℕ) (ts : Forest) (u : Tree)
      → instances_of theta ps ≡ Some ts → OccursInSome x ps → binding theta x ≡ Some u
      → height u ≤ heights ts
  binding_low_in theta no_pattern x ts u e stands b = absurd stands
  binding_low_in theta (more_patterns p ps) x ts u e (inl stands) b =
      let parts = both_there (instance_of theta p) (instances_of theta ps) ts e in
      let low : height u ≤ height parts.0 =
      binding_low theta p x parts.0 u parts.1.1.1.0 stands b in
      subst (λ w. height u ≤ heights w) (sym parts.1.1.0) (omega (arith, low))
  binding_low_in theta (more_patterns p ps) x ts u e (inr stands) b =
      let parts = both_there (instance_of theta p) (instances_of theta ps) ts e in
      let low : height u ≤ heights parts.1.0 =
      binding_low_in theta ps x parts.1.0 u parts.1.1.1.1 stands b in
      subst (λ w. height u ≤ heights w) (sym parts.1.1.0) (omega (arith, low))

-- ---- answers that are well-sorted

-- a normal term of this sort that is not too high
abbrev pub IsGoodTree : Signature → Tree → ℕ → Type 0
IsGoodTree sig t sort = IsTermOf sig t sort × IsNormal t × (height t ≤ most_height)

abbrev pub IsGood : Signature → ℕ → Evaluated → Type 0
IsGood sig sort (value t d) = IsGoodTree sig t sort
IsGood sig sort (blocked cause) = Unit {0}

abbrev pub AreGoodTrees : Signature → List ℕ → Forest → List SortRef → Type 0
AreGoodTrees sig sorts ts refs =
    AreTermsOf sig sorts ts refs × AreNormal ts × (heights ts ≤ most_height)

abbrev AreGood : Signature → List ℕ → List SortRef → AllEvaluated → Type 0
AreGood sig sorts refs (values ts d) = AreGoodTrees sig sorts ts refs
AreGood sig sorts refs (all_blocked cause) = Unit {0}

abbrev Answer : RewriteTheory → ℕ → List (Option Tree) → Pattern → ℕ → ℕ → Type 0
Answer theory n theta p c sort =
    (r : Evaluated) × Evaluates theory n theta p c r × IsGood theory.sig sort r

abbrev AllAnswer : RewriteTheory → ℕ → List (Option Tree) → List ℕ → Patterns → List SortRef → ℕ
    → Type 0
AllAnswer theory n theta sorts ps refs c =
    (r : AllEvaluated) × EvaluateAll theory n theta ps c r × AreGood theory.sig sorts refs r

abbrev FunctionAnswer : RewriteTheory → ℕ → ℕ → Forest → ℕ → ℕ → Type 0
FunctionAnswer theory n f ts c sort =
    (r : Evaluated) × HasOutcome theory n f ts c r × IsGood theory.sig sort r

abbrev EquationAnswer : RewriteTheory → ℕ → ℕ → List Equation → Forest → ℕ → ℕ → Type 0
EquationAnswer theory n f es ts c sort =
    (r : Evaluated) × Equates theory n f es ts c r × IsGood theory.sig sort r

-- with this much nesting, each well-sorted pattern has an answer
abbrev AnswersAt : RewriteTheory → ℕ → Type 0
AnswersAt theory n =
    (variables : List ℕ) (theta : List (Option Tree)) (p : Pattern) (sort c : ℕ)
    → HasSort theory.sig variables p sort → BindsVariablesOf theory.sig variables theta p
    → Answer theory n theta p c sort

abbrev AnswersWithin : RewriteTheory → ℕ → Type 0
AnswersWithin theory n =
    (f : ℕ) (variables : List ℕ) (theta : List (Option Tree)) (p : Pattern) (sort c : ℕ)
    → HasSort theory.sig variables p sort → BindsVariablesOf theory.sig variables theta p →
    (r : Evaluated) × EvaluatesIn theory n f theta p c r × IsGood theory.sig sort r

-- the same for patterns
record ServesAll (sig : Signature) (variables : List ℕ) (theta : List (Option Tree))
    (ps : Patterns) : Type 0 where
  bound : (x : ℕ) → OccursInSome x ps → IsSome (binding theta x)
  sorted : RespectsSorts sig variables theta
  low : (x : ℕ) (t : Tree) → binding theta x ≡ Some t → height t ≤ most_height

-- ---- arguments

joined : {theory : RewriteTheory} {n d : ℕ} {theta : List (Option Tree)} (sorts : List ℕ)
    (p : Pattern) (ps : Patterns) (of : SortRef) (refs : List SortRef) (c sort : ℕ) (t : Tree)
    → sort_at sorts of ≡ Some sort → Evaluates theory n theta p c (value t d)
    → IsGoodTree theory.sig t sort → (r : AllEvaluated) → EvaluateAll theory n theta ps d r
    → AreGood theory.sig sorts refs r
    → AllAnswer theory n theta sorts (more_patterns p ps) (of ∷ refs) c
joined sorts p ps of refs c sort t at e good (all_blocked cause) all goods =
    (all_blocked cause, later_blocked e all, tt)
joined sorts p ps of refs c sort t at e good (values ts k) all goods =
    let low : height t ≤ most_height = good.2 in
    let lows : heights ts ≤ most_height = goods.2 in (
      values (more_trees t ts) k,
      one_more e all,
      ((sort, at, good.0, goods.0), (good.1, goods.1), omega arith),
    )

first_then : {theory : RewriteTheory} {n : ℕ} {theta : List (Option Tree)} (sorts : List ℕ)
    (p : Pattern) (ps : Patterns) (of : SortRef) (refs : List SortRef) (c sort : ℕ)
    → sort_at sorts of ≡ Some sort → (r : Evaluated) → Evaluates theory n theta p c r
    → IsGood theory.sig sort r → ((d : ℕ) → AllAnswer theory n theta sorts ps refs d)
    → AllAnswer theory n theta sorts (more_patterns p ps) (of ∷ refs) c
first_then sorts p ps of refs c sort at (blocked cause) e good rest =
    (all_blocked cause, first_blocked e, tt)
first_then sorts p ps of refs c sort at (value t d) e good rest =
    let others = rest d in joined sorts p ps of refs c sort t at e good others.0 others.1 others.2

all_answer : (theory : RewriteTheory) (n : ℕ) → AnswersAt theory n
    → (variables : List ℕ) (theta : List (Option Tree)) (sorts : List ℕ) (ps : Patterns)
    (refs : List SortRef) (c : ℕ) → HaveSorts theory.sig variables sorts ps refs
    → ServesAll theory.sig variables theta ps → AllAnswer theory n theta sorts ps refs c
all_answer theory n at variables theta sorts no_pattern [] c h serves =
    (values no_tree c, none_left, (tt, tt, omega arith))
all_answer theory n at variables theta sorts no_pattern (of ∷ refs) c h serves = absurd h
all_answer theory n at variables theta sorts (more_patterns p ps) [] c h serves = absurd h
all_answer theory n at variables theta sorts (more_patterns p ps) (of ∷ refs) c h serves =
    let first =
    at variables theta p h.0 c h.2 (record {
      bound = λ x s. serves.bound x (inl s);
      sorted = serves.sorted;
      low = serves.low;
    }) in
    first_then sorts p ps of refs c h.0 h.1 first.0 first.1 first.2
    (λ d. all_answer theory n at variables theta sorts ps refs d h.3 (record {
      bound =
          λ x s. serves.bound x (inr s);
      sorted = serves.sorted;
      low = serves.low;
    }))

-- ---- constructors and injections

made_answer : {theory : RewriteTheory} {n c d f : ℕ} {theta : List (Option Tree)} (p : Pattern)
    {ps : Patterns} {ts : Forest} (t : Tree) (sort : ℕ) → HasHead theory p f ps
    → EvaluateAll theory n theta ps c (values ts d) → built p ts ≡ Some t
    → IsTermOf theory.sig t sort → IsNormal t → Answer theory (suc n) theta p c sort
made_answer {theory} {n} {c} {d} {f} {theta} p t sort h all b of normal =
    ⊎_elim
    (λ (high : most_height < height t). (blocked (too_high f), made_too_high h all b high, tt))
    (λ (low : height t ≤ most_height). (value t d, made h all b low, (of, normal, low)))
    (cases_lt most_height (height t))

constructed : {theory : RewriteTheory} {n : ℕ} {theta : List (Option Tree)} (f : ℕ) (ps : Patterns)
    (c sort : ℕ) (info : SymInfo) → IsSymbol theory.sig f info → info.kind ≡ Ctor
    → sort_at [] info.result ≡ Some sort → (r : AllEvaluated) → EvaluateAll theory n theta ps c r
    → AreGood theory.sig [] info.args.items r
    → Answer theory (suc n) theta (application f ps) c sort
constructed f ps c sort info i k at (all_blocked cause) all goods =
    (blocked cause, argument_blocked of_constructor all, tt)
constructed f ps c sort info i k at (values ts d) all goods =
    made_answer (application f ps) (node f ts) sort of_constructor all refl
    (info, i, k, at, goods.0) goods.1

injected_answer : {theory : RewriteTheory} {n : ℕ} {theta : List (Option Tree)} (a b : ℕ)
    (p : Pattern) (c f : ℕ) → IsInjectionSymbol theory.sig f → (HasInjection theory.sig)
    → ((t : Tree) → IsTermOf theory.sig t a → IsTermOf theory.sig (injected a b t) b)
    → (r : Evaluated) → Evaluates theory n theta p c r → IsGood theory.sig a r
    → Answer theory (suc n) theta (injection a b p) c b
injected_answer a b p c f i has up (blocked cause) e good =
    (blocked cause, argument_blocked (of_injection i) (first_blocked e), tt)
injected_answer a b p c f i has up (value t d) e good =
    made_answer (injection a b p) (injected a b t) b (of_injection i) (one_more e none_left) refl
    (up t good.0) (IsNormal-injected a b t good.1)

-- the first symbol, before a number, that is an injection, if there is one
is_injection : (k : SymKind) → (k ≡ Injection) ⊎ (k ≢ Injection)
is_injection Injection = inl refl
is_injection Ctor = inr (λ e. cc)
is_injection Equations = inr (λ e. cc)
is_injection (Hooked row) = inr (λ e. cc)
is_injection Closed = inr (λ e. cc)
is_injection NoKind = inr (λ e. cc)

abbrev NoneInjects : Signature → ℕ → Type 0
NoneInjects sig n =
    (g : ℕ) (other : SymInfo) → g < n → IsSymbol sig g other → other.kind ≢ Injection

none_more : (sig : Signature) (n : ℕ) → NoneInjects sig n
    → ((other : SymInfo) → IsSymbol sig n other → other.kind ≢ Injection) → NoneInjects sig (suc n)
none_more sig n none last g other lt i k =
    ⊎_elim (λ (same : g ≡ n). last other (subst (λ j. IsSymbol sig j other) same i) k)
    (λ (before : g < n). none g other before i k) (eq-or-lt_of_le (omega arith))

at_symbol : (sig : Signature) (n : ℕ) → NoneInjects sig n → (o : Option (List ℕ × SymInfo))
    → slice_get sig.symbols n ≡ o → NoneInjects sig (suc n) ⊎ ((f : ℕ) × IsInjectionSymbol sig f)
at_symbol sig n none None there =
    inl (none_more sig n none
    (λ other i k. let e : None ≡ Some (i.0, other) = sym there ∙ i.1 in let no : ⊥ = cc in no))
at_symbol sig n none (Some (name, info)) there =
    ⊎_elim
    (λ (k : info.kind ≡ Injection).
    inr (n, record { info = info; there = (name, there); injects = k; first = none }))
    (λ (k : info.kind ≢ Injection). inl (none_more sig n none (λ other i l.
    k (ap (λ (s : SymInfo). s.kind) (same_symbol sig n info other (name, there) i) ∙ l))))
    (is_injection info.kind)

first_injection : (sig : Signature) (n : ℕ)
    → NoneInjects sig n ⊎ ((f : ℕ) × IsInjectionSymbol sig f)
first_injection sig zero = inl (λ g other lt i k. absurd (omega arith))
first_injection sig (suc n) =
    ⊎_elim (λ (none : NoneInjects sig n). at_symbol sig n none (slice_get sig.symbols n) refl)
    (λ found. inr found) (first_injection sig n)

injection_symbol : (sig : Signature) → HasInjection sig → (f : ℕ) × IsInjectionSymbol sig f
injection_symbol sig has =
    ⊎_elim (λ (none : NoneInjects sig (suc has.0)).
    absurd (none has.0 has.1 (omega arith) has.2 has.3)) (λ found. found)
    (first_injection sig (suc has.0))

-- ---- equations

-- the substitution of a match serves the condition and the right side
pub serves_match : (sig : Signature) (variables : List ℕ) (ps : Patterns) (names : List Name)
    (ts : Forest) (theta : List (Option Tree)) (p : Pattern) → HaveNames sig variables ps names
    → MatchNamed sig variables ps names ts theta → heights ts ≤ most_height
    → UsesOnly ps names p → BindsVariablesOf sig variables theta p
serves_match sig variables ps names ts theta p have m lows uses = record {
  bound = λ x stands. (m.binds.just x).1 (uses x stands);
  sorted = m.binds.sorted;
  low =
      λ x t b. le_trans (named_low ps names x ts t m
      ((m.binds.just x).0 (some_of (binding theta x) t b)) b) lows;
} where
  named_low : (ps : Patterns) (names : List Name) (x : ℕ) (ts : Forest) (t : Tree)
      → MatchNamed sig variables ps names ts theta → OccursInSome x ps ⊎ IsNamed names x
      → binding theta x ≡ Some t → height t ≤ heights ts
  named_low ps names x ts t m (inl occurs) b = binding_low_in theta ps x ts t m.makes occurs b
  named_low ps names x ts t m (inr is) b =
      let here =
      at_name (λ n. binding theta n.variable ≡ part_instance theta ps n.place) names x m.named is in
      part_low theta ps ts here.0.place t m.makes
      (sym here.2 ∙ ap (binding theta) here.1 ∙ b)

  some_of : (o : Option Tree) (t : Tree) → o ≡ Some t → IsSome o
  some_of o t e = rw e refl

true_or_not : (t : Tree) → IsTrueValue t ⊎ (IsTrueValue t → ⊥)
true_or_not (leaf s (truth true)) = inl (s, refl)
true_or_not (leaf s (truth false)) =
    inr (λ h. let k : leaf s (truth false) ≡ leaf h.0 (truth true) = h.1 in cc)
true_or_not (leaf s (integer n)) =
    inr (λ h. let k : leaf s (integer n) ≡ leaf h.0 (truth true) = h.1 in cc)
true_or_not (leaf s (text bytes)) =
    inr (λ h. let k : leaf s (text bytes) ≡ leaf h.0 (truth true) = h.1 in cc)
true_or_not (node f ts) = inr (λ h. let k : node f ts ≡ leaf h.0 (truth true) = h.1 in cc)
true_or_not (inj a b t) = inr (λ h. let k : inj a b t ≡ leaf h.0 (truth true) = h.1 in cc)

pub says_something : (e : Evaluated) → (x : ConditionOutcome) × Says e x
says_something (blocked cause) = (untested cause, says_nothing)
says_something (value t c) =
    ⊎_elim (λ (is : IsTrueValue t). (holds c, says_true is))
    (λ (other : IsTrueValue t → ⊥). (fails c, says_other other)) (true_or_not t)

test_answer : (theory : RewriteTheory) (n : ℕ) → AnswersWithin theory n
    → (f : ℕ) (variables : List ℕ) (ps : Patterns) (ts : Forest) (theta : List (Option Tree))
    (c : ℕ) → (names : List Name) → HaveNames theory.sig variables ps names
    → MatchNamed theory.sig variables ps names ts theta → heights ts ≤ most_height
    → (o : Option Pattern) → IfSome o (IsCondition theory.sig variables ps names)
    → (x : ConditionOutcome) × Tests theory n f theta o c x
test_answer theory n within f variables ps ts theta c names have m lows None fits =
    (holds c, no_condition)
test_answer theory n within f variables ps ts theta c names have m lows (Some p) fits =
    let r =
    within f variables theta p fits.0 c fits.5
    (serves_match theory.sig variables ps names ts theta p have m lows fits.6) in
    let x = says_something r.0 in
    (x.0, condition r.1 x.1)

-- the outcome of an equation that matches
matched_answer : (theory : RewriteTheory) (n : ℕ) (f : ℕ) (e : Equation) (es : List Equation)
    (ts : Forest) (theta : List (Option Tree)) (c sort : ℕ)
    → MatchesBy theory e ts theta → (x : ConditionOutcome)
    → Tests theory n f theta e.condition c x
    → ((d : ℕ)
    → (r : Evaluated) × EvaluatesIn theory n f theta e.right d r × IsGood theory.sig sort r)
    → ((d : ℕ) → EquationAnswer theory n f es ts d sort)
    → EquationAnswer theory n f (e ∷ es) ts c sort
matched_answer theory n f e es ts theta c sort m (holds d) test right others =
    let r = right d in (r.0, used m test r.1, r.2)
matched_answer theory n f e es ts theta c sort m (fails d) test right others =
    let r = others d in (r.0, condition_fails m test r.1, r.2)
matched_answer theory n f e es ts theta c sort m (untested cause) test right others =
    (blocked cause, condition_blocked m test, tt)

equation_answer : (theory : RewriteTheory) → IsWellSorted theory → (n : ℕ) → AnswersWithin theory n
    → (f : ℕ) (info : SymInfo) (ts : Forest) (sort : ℕ) → sort_at [] info.result ≡ Some sort
    → AreGoodTrees theory.sig [] ts info.args.items → (es : List Equation)
    → All (IsEquationOf theory.sig info) es → (c : ℕ) → EquationAnswer theory n f es ts c sort
equation_answer theory good n within f info ts sort at trees [] each c =
    (blocked (no_equation f), no_equation_left, tt)
equation_answer theory good n within f info ts sort at trees (e ∷ es) each c =
    let fits : IsEquationOf theory.sig info e =
    all_first (IsEquationOf theory.sig info) e es each in
    let others : (d : ℕ) → EquationAnswer theory n f es ts d sort =
    equation_answer theory good n within f info ts sort at trees es
    (all_rest (IsEquationOf theory.sig info) e es each) in
    let sorts : Some fits.sort ≡ Some sort = sym fits.result ∙ at in
    let same : fits.sort ≡ sort = cc in
    ⊎_elim
    (λ (hit : (theta : List (Option Tree)) × MatchesBy theory e ts theta).
    let x =
    test_answer theory n within f e.variables e.arguments ts hit.0 c e.names fits.names hit.1
    trees.2 e.condition fits.condition in
    matched_answer theory n f e es ts hit.0 c sort hit.1 x.0 x.1
    (λ d. within f e.variables hit.0 e.right sort d
    (subst (λ s. HasSort theory.sig e.variables e.right s) same fits.right)
    (serves_match theory.sig e.variables e.arguments e.names ts hit.0 e.right fits.names hit.1
    trees.2 fits.bound)) others)
    (λ (never : IsUnmatchedBy theory e ts).
    let r = others c in (r.0, unmatched never r.1, r.2))
    (match_named_is_decidable theory.sig e.variables e.arguments e.names ts fits.names
    (match_is_decidable theory.sig e.variables [] e.arguments info.args.items ts
    good.signature.no_cycle fits.arguments trees.0 trees.1))

-- ---- functions

empty_list : (xs : List ℕ) → length xs ≡ 0 → xs ≡ []
empty_list [] e = refl
empty_list (x ∷ xs) e = absurd (omega (arith, e))

not_closed : (k other : SymKind) → k ≡ other → other ≢ Closed → k ≢ Closed
not_closed k other e differs = λ is. differs (sym e ∙ is)

function_answer : (theory : RewriteTheory) → IsWellSorted theory → (n : ℕ) → AnswersWithin theory n
    → (f : ℕ) (info : SymInfo) (sorts : List ℕ) (ts : Forest) (sort : ℕ)
    → IsSymbol theory.sig f info → length sorts ≡ info.params
    → sort_at sorts info.result ≡ Some sort → AreGoodTrees theory.sig sorts ts info.args.items
    → (k : SymKind) → info.kind ≡ k → IsFunction k → (c : ℕ) → FunctionAnswer theory n f ts c sort
function_answer theory good n within f info sorts ts sort i many at trees Injection k is c =
    absurd is
function_answer theory good n within f info sorts ts sort i many at trees Ctor k is c = absurd is
function_answer theory good n within f info sorts ts sort i many at trees NoKind k is c = absurd is
function_answer theory good n within f info sorts ts sort i many at trees Closed k is c =
    (blocked (closed f), by_nothing i k, tt)
function_answer theory good n within f info sorts ts sort i many at trees Equations k is zero =
    (blocked (no_call_left f), without_call i (not_closed info.kind Equations k (λ e. cc)), tt)
function_answer theory good n within f info sorts ts sort i many at trees Equations k is (suc c) =
    let none : sorts ≡ [] = empty_list sorts (many ∙ good.functions f info i k) in
    let r =
    equation_answer theory good n within f info ts sort
    (subst (λ ss. sort_at ss info.result ≡ Some sort) none at)
    (subst (λ ss. AreGoodTrees theory.sig ss ts info.args.items) none trees)
    (equations_of theory f) (good.equations f info i) c in
    (r.0, by_equations i k r.1, r.2)
function_answer theory good n within f info sorts ts sort i many at trees (Hooked row) k is zero =
    (blocked (no_call_left f), without_call i (not_closed info.kind (Hooked row) k (λ e. cc)), tt)
function_answer theory good n within f info sorts ts sort i many at trees (Hooked row) k is
    (suc c) =
    let fits : FitsHook theory.sig row.0 info = good.hooked f row.0 info i k in
    let none : sorts ≡ [] = empty_list sorts (many ∙ fits.plain) in
    let there = subst (λ ss. sort_at ss info.result ≡ Some sort) none at in
    let arguments = subst (λ ss. AreTermsOf theory.sig ss ts info.args.items) none trees.0 in
    ⊎_elim
    (λ (v : (v : DomainValue) × HookAnswers info row.0 ts v × HasValue theory.sig sort v).
    (value (leaf sort v.0) c, by_hook i v.1 there, ((refl, v.2), tt, omega arith)))
    (λ (why : (why : NoValue) × HookFails info row.0 ts why).
    (blocked (no_value row.0 why.0), hook_fails i why.1, tt))
    (hook_answer theory.sig info row.0 ts sort fits k there arguments)

called_answer : (theory : RewriteTheory) → IsWellSorted theory → (n : ℕ) → AnswersWithin theory n
    → (theta : List (Option Tree)) (f : ℕ) (sorts : List ℕ) (ps : Patterns) (c sort : ℕ)
    (info : SymInfo) → IsSymbol theory.sig f info → IsFunction info.kind
    → length sorts ≡ info.params → sort_at sorts info.result ≡ Some sort → (r : AllEvaluated)
    → EvaluateAll theory n theta ps c r → AreGood theory.sig sorts info.args.items r
    → Answer theory (suc n) theta (call f sorts ps) c sort
called_answer theory good n within theta f sorts ps c sort info i is many at (all_blocked cause) all
    goods =
    (blocked cause, argument_blocked of_call all, tt)
called_answer theory good n within theta f sorts ps c sort info i is many at (values ts d) all
    goods =
    let r =
    function_answer theory good n within f info sorts ts sort i many at goods info.kind refl is
    d in
    (r.0, function_called all r.1, r.2)

-- ---- all of them

bound_answer : (theory : RewriteTheory) (n : ℕ) (variables : List ℕ) (theta : List (Option Tree))
    (x sort c : ℕ) → slice_get variables x ≡ Some sort
    → BindsVariablesOf theory.sig variables theta (variable x) → (o : Option Tree)
    → binding theta x ≡ o → Answer theory n theta (variable x) c sort
bound_answer theory n variables theta x sort c at serves None b =
    let s : IsSome (binding theta x) = serves.bound x refl in
    let wrong : false ≡ true = subst IsSome b s in absurd (false≢true wrong)
bound_answer theory n variables theta x sort c at serves (Some t) b =
    let good = serves.sorted x t b in
    let sorts : Some good.1.0 ≡ Some sort = sym good.1.1 ∙ at in
    let same : good.1.0 ≡ sort = cc in (
      value t c,
      bound b,
      (subst (λ s. IsTermOf theory.sig t s) same good.1.2, good.0, serves.low x t b),
    )

at_zero : (theory : RewriteTheory) → AnswersAt theory 0
at_zero theory variables theta (variable x) sort c h serves =
    bound_answer theory 0 variables theta x sort c h serves (binding theta x) refl
at_zero theory variables theta (domain_value s v) sort c h serves =
    (value (leaf s v) c, itself, (h, tt, omega arith))
at_zero theory variables theta (application f ps) sort c h serves =
    (blocked (too_nested f), nested_out of_constructor, tt)
at_zero theory variables theta (injection a b p) sort c h serves =
    let s = injection_symbol theory.sig h.0 in
    (blocked (too_nested s.0), nested_out (of_injection s.1), tt)
at_zero theory variables theta (call f sorts ps) sort c h serves =
    (blocked (too_nested f), nested_out of_call, tt)

one_deeper : (theory : RewriteTheory) → IsWellSorted theory → (n : ℕ) → AnswersAt theory n
    → AnswersWithin theory n → AnswersAt theory (suc n)
one_deeper theory good n at within variables theta (variable x) sort c h serves =
    bound_answer theory (suc n) variables theta x sort c h serves (binding theta x) refl
one_deeper theory good n at within variables theta (domain_value s v) sort c h serves =
    (value (leaf s v) c, itself, (h, tt, omega arith))
one_deeper theory good n at within variables theta (application f ps) sort c h serves =
    let all =
    all_answer theory n at variables theta [] ps h.0.args.items c h.4
    (record { bound = serves.bound; sorted = serves.sorted; low = serves.low }) in
    constructed f ps c sort h.0 h.1 h.2 h.3 all.0 all.1 all.2
one_deeper theory good n at within variables theta (injection a b p) sort c h serves =
    let s = injection_symbol theory.sig h.0 in
    let r =
    at variables theta p a c h.3
    (record { bound = serves.bound; sorted = serves.sorted; low = serves.low }) in
    subst (λ k. Answer theory (suc n) theta (injection a b p) c k) h.1
    (injected_answer a b p c s.0 s.1 h.0 (λ t of. IsTermOf-injected theory.sig a b t h.0 h.2 of) r.0
    r.1 r.2)
one_deeper theory good n at within variables theta (call f sorts ps) sort c h serves =
    let all =
    all_answer theory n at variables theta sorts ps h.0.args.items c h.6
    (record { bound = serves.bound; sorted = serves.sorted; low = serves.low }) in
    called_answer theory good n within theta f sorts ps c sort h.0 h.1 h.2 h.3 h.5 all.0 all.1 all.2

within_zero : (theory : RewriteTheory) → AnswersWithin theory 0
within_zero theory f variables theta p sort c h serves = (blocked (too_nested f), no_nesting, tt)

one_within : (theory : RewriteTheory) (n : ℕ) → AnswersAt theory n → AnswersWithin theory (suc n)
one_within theory n at f variables theta p sort c h serves =
    let r = at variables theta p sort c h serves in (r.0, inside r.1, r.2)

pub answers : (theory : RewriteTheory) → IsWellSorted theory → (n : ℕ)
    → AnswersAt theory n × AnswersWithin theory n
answers theory good zero = (at_zero theory, within_zero theory)
answers theory good (suc n) =
    let before = answers theory good n in
    (one_deeper theory good n before.0 before.1, one_within theory n before.0)
