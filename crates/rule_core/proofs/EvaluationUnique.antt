-- An evaluation has one answer, if each equation matches in at most one way.
use Rattle.std.proofs.Common.{◌≡◌, ℕ, suc, ◌<◌, ◌≤◌, ◌≢◌, List, [], ◌∷◌, Option, Some, None, refl}
use Rattle.std.proofs.Common.{sym, ◌∙◌, ap, subst, arith}
use Rattle.std.specs.Prelude.{All, Ok, Err}
use Rattle.term_core.specs.Terms.{Tree, leaf, node, inj, Forest, no_tree, more_trees, height}
use Rattle.term_core.specs.Terms.{DomainValue}
use Rattle.term_core.specs.Patterns.{Pattern, Patterns, variable, domain_value, call, no_pattern}
use Rattle.term_core.specs.Patterns.{more_patterns, binding}
use Rattle.term_core.specs.HookValues.{hook_value}
use Rattle.term_core.specs.declared.ids.HookNo.{HookNo}
use Rattle.term_core.specs.declared.values.NoValue.{NoValue}
use Rattle.rule_core.specs.Rules.{Equation}
use Rattle.rule_core.specs.Theories.{RewriteTheory, equations_of}
use Rattle.rule_core.specs.Sorting.{IsSymbol, sort_at}
use Rattle.rule_core.specs.HookCalls.{AreValues, HookAnswers, HookFails}
use Rattle.rule_core.specs.Evaluation.{MatchesBy}
use Rattle.rule_core.specs.Evaluation.{Cause, Evaluated, value, blocked, AllEvaluated, values}
use Rattle.rule_core.specs.Evaluation.{all_blocked, ConditionOutcome, holds, fails, untested}
use Rattle.rule_core.specs.Evaluation.{no_value, closed, no_equation, no_call_left, too_high}
use Rattle.rule_core.specs.Evaluation.{too_nested, most_height, IsInjectionSymbol, HasHead}
use Rattle.rule_core.specs.Evaluation.{of_constructor, of_injection, of_call, built, Says}
use Rattle.rule_core.specs.Evaluation.{says_true, says_other, says_nothing, IsUnmatchedBy}
use Rattle.rule_core.specs.Evaluation.{Evaluates, bound, itself, nested_out, argument_blocked, made}
use Rattle.rule_core.specs.Evaluation.{made_too_high, function_called, EvaluateAll, none_left}
use Rattle.rule_core.specs.Evaluation.{first_blocked, later_blocked, one_more, HasOutcome}
use Rattle.rule_core.specs.Evaluation.{by_nothing, without_call, by_hook, hook_fails, by_equations}
use Rattle.rule_core.specs.Evaluation.{Equates, no_equation_left, unmatched, condition_fails}
use Rattle.rule_core.specs.Evaluation.{condition_blocked, used, Tests, no_condition, condition}
use Rattle.rule_core.specs.Evaluation.{EvaluatesIn, no_nesting, inside}
use Rattle.rule_core.specs.declared.signature.Signature.{Signature}
use Rattle.rule_core.specs.declared.signature.SymInfo.{SymInfo}
use Rattle.rule_core.specs.declared.signature.SymKind.{SymKind}
use Rattle.rule_core.specs.declared.signature.SymKind.TheVariants.{Equations, Hooked, Closed}

-- a number is the number of only one symbol
pub same_symbol : (sig : Signature) (f : ℕ) (a b : SymInfo) → IsSymbol sig f a → IsSymbol sig f b
    → a ≡ b
same_symbol sig f a b x y =
    let e : Some (x.0, a) ≡ Some (y.0, b) = sym x.1 ∙ y.1 in
    let pair : (x.0, a) ≡ (y.0, b) = cc in
    ap (λ (q : List ℕ × SymInfo). q.1) pair

-- only one substitution matches an equation with terms
abbrev pub MatchesOnce : RewriteTheory → Equation → Type 0
MatchesOnce theory e =
    (ts : Forest) (theta sigma : List (Option Tree))
    → MatchesBy theory e ts theta
    → MatchesBy theory e ts sigma → theta ≡ sigma

-- the same for each equation of each symbol
abbrev pub AllMatchOnce : RewriteTheory → Type 0
AllMatchOnce theory = (f : ℕ) (info : SymInfo) → IsSymbol theory.sig f info
    → All (MatchesOnce theory) (equations_of theory f)

-- what holds of each item of a list holds of the first item, and of each of the others
pub all_first : {X : Type 0} (P : X → Type 0) (x : X) (xs : List X) → All P (x ∷ xs) → P x
all_first P x xs each = each 0 x (omega arith)

pub all_rest : {X : Type 0} (P : X → Type 0) (x : X) (xs : List X) → All P (x ∷ xs) → All P xs
all_rest P x xs each = λ k d lt. each (suc k) d (omega arith)

-- ---- the head of a pattern

pub no_head_of-variable : {theory : RewriteTheory} {x f : ℕ} {ps : Patterns}
    → HasHead theory (variable x) f ps → ⊥
no_head_of-variable h = elim h [ ]

pub no_head_of-value : {theory : RewriteTheory} {s f : ℕ} {v : DomainValue} {ps : Patterns}
    → HasHead theory (domain_value s v) f ps → ⊥
no_head_of-value h = elim h [ ]

pub same_injection : (sig : Signature) (f g : ℕ) → IsInjectionSymbol sig f → IsInjectionSymbol sig g
    → f ≡ g
same_injection sig f g i j =
    let not_less : f < g → ⊥ = λ lt. j.first f i.info lt i.there i.injects in
    let not_more : g < f → ⊥ = λ lt. i.first g j.info lt j.there j.injects in
    omega arith

pub same_head : {theory : RewriteTheory} {p : Pattern} {f g : ℕ} {ps qs : Patterns}
    → HasHead theory p f ps → HasHead theory p g qs → (f ≡ g) × (ps ≡ qs)
same_head of_constructor of_constructor = (refl, refl)
same_head {theory} (of_injection i) (of_injection j) = (same_injection theory.sig _ _ i j, refl)
same_head of_call of_call = (refl, refl)

-- ---- the outcomes of a node with arguments

data Makes (theory : RewriteTheory) (n f : ℕ) (ts : Forest) (d : ℕ) : Pattern → Evaluated
    → Type 0 where
  fits : {p : Pattern} {t : Tree} → built p ts ≡ Some t → height t ≤ most_height
      → Makes theory n f ts d p (value t d)
  passes : {p : Pattern} {t : Tree} → built p ts ≡ Some t → most_height < height t
      → Makes theory n f ts d p (blocked (too_high f))
  calls : {sorts : List ℕ} {ps : Patterns} {r : Evaluated} → HasOutcome theory n f ts d r
      → Makes theory n f ts d (call f sorts ps) r

data Comes (theory : RewriteTheory) (n : ℕ) (theta : List (Option Tree)) (p : Pattern) (f : ℕ)
    (ps : Patterns) (c : ℕ) : Evaluated → Type 0 where
  from_blocked : {cause : Cause} → EvaluateAll theory n theta ps c (all_blocked cause)
      → Comes theory n theta p f ps c (blocked cause)
  from_values : {ts : Forest} {d : ℕ} {r : Evaluated}
      → EvaluateAll theory n theta ps c (values ts d) → Makes theory n f ts d p r
      → Comes theory n theta p f ps c r

comes : {theory : RewriteTheory} {n c f : ℕ} {theta : List (Option Tree)} {p : Pattern}
    {ps : Patterns} {r : Evaluated} → HasHead theory p f ps
    → Evaluates theory (suc n) theta p c r → Comes theory n theta p f ps c r
comes h (bound e) = absurd (no_head_of-variable h)
comes h itself = absurd (no_head_of-value h)
comes {theory} {n} {c} {theta = theta} h (argument_blocked {cause = cause} i all) =
    from_blocked
    (subst (λ qs. EvaluateAll theory n theta qs c (all_blocked cause)) (same_head i h).1 all)
comes {theory} {n} {c} {theta = theta} h (made {d = d} {ts = ts} i all b le) =
    from_values (subst (λ qs. EvaluateAll theory n theta qs c (values ts d)) (same_head i h).1 all)
    (fits b le)
comes {theory} {n} {c} {f} {theta = theta} {p = p} h
    (made_too_high {d = d} {f = g} {ts = ts} i all b lt) =
    from_values (subst (λ qs. EvaluateAll theory n theta qs c (values ts d)) (same_head i h).1 all)
    (subst (λ k. Makes theory n f ts d p (blocked (too_high k))) (sym (same_head i h).0)
    (passes b lt))
comes of_call (function_called all applied) = from_values all (calls applied)

-- ---- each case by itself, if its parts have one answer

bound_only : {theory : RewriteTheory} {n c x : ℕ} {theta : List (Option Tree)} {t : Tree}
    {s : Evaluated} → binding theta x ≡ Some t → Evaluates theory n theta (variable x) c s
    → value t c ≡ s
bound_only {t = t} e (bound {t = u} k) = let same : Some t ≡ Some u = sym e ∙ k in cc
bound_only e (nested_out h) = absurd (no_head_of-variable h)
bound_only e (argument_blocked h all) = absurd (no_head_of-variable h)
bound_only e (made h all b le) = absurd (no_head_of-variable h)
bound_only e (made_too_high h all b lt) = absurd (no_head_of-variable h)

itself_only : {theory : RewriteTheory} {n c k : ℕ} {theta : List (Option Tree)} {v : DomainValue}
    {s : Evaluated} → Evaluates theory n theta (domain_value k v) c s → value (leaf k v) c ≡ s
itself_only itself = refl
itself_only (nested_out h) = absurd (no_head_of-value h)
itself_only (argument_blocked h all) = absurd (no_head_of-value h)
itself_only (made h all b le) = absurd (no_head_of-value h)
itself_only (made_too_high h all b lt) = absurd (no_head_of-value h)

nested_out_only : {theory : RewriteTheory} {c f : ℕ} {theta : List (Option Tree)} {p : Pattern}
    {ps : Patterns} {s : Evaluated} → HasHead theory p f ps → Evaluates theory 0 theta p c s
    → blocked (too_nested f) ≡ s
nested_out_only h (bound e) = absurd (no_head_of-variable h)
nested_out_only h itself = absurd (no_head_of-value h)
nested_out_only h (nested_out i) = ap (λ k. blocked (too_nested k)) (same_head h i).0

blocked_only : {theory : RewriteTheory} {n c f : ℕ} {theta : List (Option Tree)} {p : Pattern}
    {ps : Patterns} {cause : Cause} {s : Evaluated}
    → ((r : AllEvaluated) → EvaluateAll theory n theta ps c r → all_blocked cause ≡ r)
    → Comes theory n theta p f ps c s → blocked cause ≡ s
blocked_only {cause = cause} only (from_blocked {cause = other} all) =
    let e : all_blocked cause ≡ all_blocked other = only (all_blocked other) all in cc
blocked_only {cause = cause} only (from_values {ts = ts} {d = d} all makes) =
    let e : all_blocked cause ≡ values ts d = only (values ts d) all in let no : ⊥ = cc in absurd no

values_only : {theory : RewriteTheory} {n c f d : ℕ} {theta : List (Option Tree)} {p : Pattern}
    {ps : Patterns} {ts : Forest} {r s : Evaluated}
    → ((a : AllEvaluated) → EvaluateAll theory n theta ps c a → values ts d ≡ a)
    → ((b : Evaluated) → Makes theory n f ts d p b → r ≡ b) → Comes theory n theta p f ps c s
    → r ≡ s
values_only {d = d} {ts = ts} only makes_only (from_blocked {cause = other} all) =
    let e : values ts d ≡ all_blocked other = only (all_blocked other) all in let no : ⊥ =
    cc in absurd no
values_only {theory} {n} {f = f} {d = d} {p = p} {ts = ts} {s = s} only makes_only
    (from_values {ts = us} {d = k} all makes) =
    let e : values ts d ≡ values us k = only (values us k) all in
    let trees_same : us ≡ ts = cc in
    let calls_same : k ≡ d = cc in
    makes_only s (subst (λ j. Makes theory n f ts j p s) calls_same
    (subst (λ vs. Makes theory n f vs k p s) trees_same makes))

no_term : {t : Tree} → None ≡ Some t → ⊥
no_term e = cc

fits_only : {theory : RewriteTheory} {n f d : ℕ} {ts : Forest} {p : Pattern} {t : Tree}
    {s : Evaluated} → built p ts ≡ Some t → height t ≤ most_height → Makes theory n f ts d p s
    → value t d ≡ s
fits_only {t = t} b le (fits {t = u} k other) = let same : Some t ≡ Some u = sym b ∙ k in cc
fits_only {t = t} b le (passes {t = u} k lt) =
    let same : Some t ≡ Some u = sym b ∙ k in
    let e : t ≡ u = cc in
    let lt' : most_height < height t = subst (λ w. most_height < height w) (sym e) lt in
    absurd (omega arith)
fits_only b le (calls applied) = absurd (no_term b)

passes_only : {theory : RewriteTheory} {n f d : ℕ} {ts : Forest} {p : Pattern} {t : Tree}
    {s : Evaluated} → built p ts ≡ Some t → most_height < height t → Makes theory n f ts d p s
    → blocked (too_high f) ≡ s
passes_only {t = t} b lt (passes k other) = refl
passes_only {t = t} b lt (fits {t = u} k le) =
    let same : Some t ≡ Some u = sym b ∙ k in
    let e : t ≡ u = cc in
    let le' : height t ≤ most_height = subst (λ w. height w ≤ most_height) (sym e) le in
    absurd (omega arith)
passes_only b lt (calls applied) = absurd (no_term b)

calls_only : {theory : RewriteTheory} {n f g d : ℕ} {sorts : List ℕ} {ps : Patterns} {ts : Forest}
    {r s : Evaluated} → ((b : Evaluated) → HasOutcome theory n f ts d b → r ≡ b)
    → Makes theory n f ts d (call g sorts ps) s → r ≡ s
calls_only only (fits b le) = absurd (no_term b)
calls_only only (passes b lt) = absurd (no_term b)
calls_only {s = s} only (calls applied) = only s applied

none_left_only : {theory : RewriteTheory} {n c : ℕ} {theta : List (Option Tree)} {s : AllEvaluated}
    → EvaluateAll theory n theta no_pattern c s → values no_tree c ≡ s
none_left_only none_left = refl

first_blocked_only : {theory : RewriteTheory} {n c : ℕ} {theta : List (Option Tree)} {p : Pattern}
    {ps : Patterns} {cause : Cause} {s : AllEvaluated}
    → ((r : Evaluated) → Evaluates theory n theta p c r → blocked cause ≡ r)
    → EvaluateAll theory n theta (more_patterns p ps) c s → all_blocked cause ≡ s
first_blocked_only {cause = cause} only (first_blocked {cause = other} e) =
    let same : blocked cause ≡ blocked other = only (blocked other) e in cc
first_blocked_only {cause = cause} only (later_blocked {d = d} {t = t} e all) =
    let same : blocked cause ≡ value t d = only (value t d) e in let no : ⊥ = cc in absurd no
first_blocked_only {cause = cause} only (one_more {d = d} {t = t} e all) =
    let same : blocked cause ≡ value t d = only (value t d) e in let no : ⊥ = cc in absurd no

-- a tree in front of the outcome of the others
abbrev behind : Tree → AllEvaluated → AllEvaluated
behind t (values ts c) = values (more_trees t ts) c
behind t (all_blocked cause) = all_blocked cause

behind_only : {theory : RewriteTheory} {n c d : ℕ} {theta : List (Option Tree)} {p : Pattern}
    {ps : Patterns} {t : Tree} {r s : AllEvaluated}
    → ((a : Evaluated) → Evaluates theory n theta p c a → value t d ≡ a)
    → ((b : AllEvaluated) → EvaluateAll theory n theta ps d b → r ≡ b)
    → EvaluateAll theory n theta (more_patterns p ps) c s → behind t r ≡ s
behind_only {d = d} {t = t} only rest (first_blocked {cause = other} e) =
    let same : value t d ≡ blocked other = only (blocked other) e in let no : ⊥ = cc in absurd no
behind_only {theory} {n} {d = d} {theta = theta} {ps = ps} {t = t} only rest
    (later_blocked {d = k} {t = u} {cause = other} e all) =
    let same : value t d ≡ value u k = only (value u k) e in
    let calls_same : k ≡ d = cc in
    ap (behind t) (rest (all_blocked other)
    (subst (λ j. EvaluateAll theory n theta ps j (all_blocked other)) calls_same all))
behind_only {theory} {n} {d = d} {theta = theta} {ps = ps} {t = t} only rest
    (one_more {d = k} {e = left} {t = u} {ts = ts} e all) =
    let same : value t d ≡ value u k = only (value u k) e in
    let calls_same : k ≡ d = cc in
    let trees_same : t ≡ u = cc in
    ap (behind t) (rest (values ts left)
    (subst (λ j. EvaluateAll theory n theta ps j (values ts left)) calls_same all))
    ∙ ap (λ w. values (more_trees w ts) left) trees_same

-- ---- a function at terms

same_values : (ts : Forest) (vs ws : List DomainValue) → AreValues ts vs → AreValues ts ws → vs ≡ ws
same_values no_tree vs ws a b = a ∙ sym b
same_values (more_trees (leaf s v) ts) vs ws a b =
    a.1 ∙ ap (λ r. v ∷ r) (same_values ts a.0 b.0 a.2 b.2) ∙ sym b.1
same_values (more_trees (node f us) ts) vs ws a b = absurd a
same_values (more_trees (inj k l t) ts) vs ws a b = absurd a

-- the number of a hook
same_row : (k : SymKind) (i j : ℕ) → k ≡ Hooked (record { 0 = i }) → k ≡ Hooked (record { 0 = j })
    → i ≡ j
same_row k i j a b =
    let e : Hooked (record { 0 = i }) ≡ Hooked (record { 0 = j }) = sym a ∙ b in
    let rows : ◌≡◌ {A = HookNo} (record { 0 = i }) (record { 0 = j }) = cc in
    ap (λ (r : HookNo). r.0) rows

same_answer : (info : SymInfo) (ts : Forest) (i j : ℕ) (v w : DomainValue) → HookAnswers info i ts v
    → HookAnswers info j ts w → v ≡ w
same_answer info ts i j v w a b =
    let rows : i ≡ j = same_row info.kind i j a.hooked b.hooked in
    let arguments : a.arguments ≡ b.arguments =
    same_values ts a.arguments b.arguments a.are b.are in
    let both : hook_value i a.arguments ≡ hook_value j b.arguments = cc in
    let e : Some (Ok v) ≡ Some (Ok w) = sym a.answers ∙ both ∙ b.answers in
    cc

no_answer : (info : SymInfo) (ts : Forest) (i j : ℕ) (v : DomainValue) (why : NoValue)
    → HookAnswers info i ts v → HookFails info j ts why → ⊥
no_answer info ts i j v why a b =
    let rows : i ≡ j = same_row info.kind i j a.hooked b.hooked in
    let arguments : a.arguments ≡ b.arguments =
    same_values ts a.arguments b.arguments a.are b.are in
    let both : hook_value i a.arguments ≡ hook_value j b.arguments = cc in
    let e : Some (Ok v) ≡ Some (Err why) = sym a.answers ∙ both ∙ b.fails in
    cc

same_failure : (info : SymInfo) (ts : Forest) (i j : ℕ) (v w : NoValue) → HookFails info i ts v
    → HookFails info j ts w → (i ≡ j) × (v ≡ w)
same_failure info ts i j v w a b =
    let rows : i ≡ j = same_row info.kind i j a.hooked b.hooked in
    let arguments : a.arguments ≡ b.arguments =
    same_values ts a.arguments b.arguments a.are b.are in
    let both : hook_value i a.arguments ≡ hook_value j b.arguments = cc in
    let e : Some (Err v) ≡ Some (Err w) = sym a.fails ∙ both ∙ b.fails in
    (rows, cc)

-- how a function with this declaration is applied
data AppliedAs (theory : RewriteTheory) (n f : ℕ) (ts : Forest) (info : SymInfo) : ℕ → Evaluated
    → Type 0 where
  as_closed : {c : ℕ} → info.kind ≡ Closed → AppliedAs theory n f ts info c (blocked (closed f))
  as_exhausted : info.kind ≢ Closed → AppliedAs theory n f ts info 0 (blocked (no_call_left f))
  as_hook : {c sort row : ℕ} {v : DomainValue} → HookAnswers info row ts v
      → sort_at [] info.result ≡ Some sort
      → AppliedAs theory n f ts info (suc c) (value (leaf sort v) c)
  as_failure : {c row : ℕ} {why : NoValue} → HookFails info row ts why
      → AppliedAs theory n f ts info (suc c) (blocked (no_value row why))
  as_equations : {c : ℕ} {r : Evaluated} → info.kind ≡ Equations
      → Equates theory n f (equations_of theory f) ts c r → AppliedAs theory n f ts info (suc c) r

applied_as : {theory : RewriteTheory} {n f c : ℕ} {ts : Forest} {r : Evaluated} (info : SymInfo)
    → IsSymbol theory.sig f info → HasOutcome theory n f ts c r → AppliedAs theory n f ts info c r
applied_as {theory} {f = f} info i (by_nothing {info = other} j k) =
    rw (same_symbol theory.sig f info other i j) (as_closed k)
applied_as {theory} {f = f} info i (without_call {info = other} j k) =
    rw (same_symbol theory.sig f info other i j) (as_exhausted k)
applied_as {theory} {f = f} info i (by_hook {info = other} j a s) =
    rw (same_symbol theory.sig f info other i j) (as_hook a s)
applied_as {theory} {f = f} info i (hook_fails {info = other} j a) =
    rw (same_symbol theory.sig f info other i j) (as_failure a)
applied_as {theory} {f = f} info i (by_equations {info = other} j k e) =
    rw (same_symbol theory.sig f info other i j) (as_equations k e)

kinds_differ : (k : SymKind) (P : Type 0) → k ≡ Closed → k ≡ Equations → P
kinds_differ k P a b = let e : Closed ≡ Equations = sym a ∙ b in let no : ⊥ = cc in absurd no

closed_is_no_hook : (k : SymKind) (row : ℕ) (P : Type 0) → k ≡ Closed
    → k ≡ Hooked (record { 0 = row }) → P
closed_is_no_hook k row P a b =
    let e : Closed ≡ Hooked (record { 0 = row }) = sym a ∙ b in let no : ⊥ = cc in absurd no

equations_are_no_hook : (k : SymKind) (row : ℕ) (P : Type 0) → k ≡ Equations
    → k ≡ Hooked (record { 0 = row }) → P
equations_are_no_hook k row P a b =
    let e : Equations ≡ Hooked (record { 0 = row }) = sym a ∙ b in let no : ⊥ = cc in absurd no

closed_only : {theory : RewriteTheory} {n f c : ℕ} {ts : Forest} {info : SymInfo} {s : Evaluated}
    → info.kind ≡ Closed → AppliedAs theory n f ts info c s → blocked (closed f) ≡ s
closed_only k (as_closed l) = refl
closed_only k (as_exhausted other) = absurd (other k)
closed_only {info = info} k (as_hook {row = row} a s) = closed_is_no_hook info.kind row _ k a.hooked
closed_only {info = info} k (as_failure {row = row} a) =
    closed_is_no_hook info.kind row _ k a.hooked
closed_only {info = info} k (as_equations l e) = kinds_differ info.kind _ k l

exhausted_only : {theory : RewriteTheory} {n f : ℕ} {ts : Forest} {info : SymInfo} {s : Evaluated}
    → info.kind ≢ Closed → AppliedAs theory n f ts info 0 s → blocked (no_call_left f) ≡ s
exhausted_only k (as_closed l) = absurd (k l)
exhausted_only k (as_exhausted other) = refl

hook_only : {theory : RewriteTheory} {n f c sort row : ℕ} {ts : Forest} {info : SymInfo}
    {v : DomainValue} {s : Evaluated} → HookAnswers info row ts v
    → sort_at [] info.result ≡ Some sort → AppliedAs theory n f ts info (suc c) s
    → value (leaf sort v) c ≡ s
hook_only {row = row} {info = info} a k (as_closed l) = closed_is_no_hook info.kind row _ l a.hooked
hook_only {sort = sort} {row = row} {ts = ts} {info = info} {v = v} a k
    (as_hook {sort = other} {row = i} {v = w} b l) =
    let vs : v ≡ w = same_answer info ts row i v w a b in
    let sorts : Some sort ≡ Some other = sym k ∙ l in
    cc
hook_only {row = row} {ts = ts} {info = info} {v = v} a k (as_failure {row = i} {why = why} b) =
    absurd (no_answer info ts row i v why a b)
hook_only {row = row} {info = info} a k (as_equations l e) =
    equations_are_no_hook info.kind row _ l a.hooked

failure_only : {theory : RewriteTheory} {n f c row : ℕ} {ts : Forest} {info : SymInfo}
    {why : NoValue} {s : Evaluated} → HookFails info row ts why
    → AppliedAs theory n f ts info (suc c) s → blocked (no_value row why) ≡ s
failure_only {row = row} {info = info} a (as_closed l) =
    closed_is_no_hook info.kind row _ l a.hooked
failure_only {row = row} {ts = ts} {info = info} {why = why} a (as_hook {row = i} {v = v} b l) =
    absurd (no_answer info ts i row v why b a)
failure_only {row = row} {ts = ts} {info = info} {why = why} a
    (as_failure {row = i} {why = other} b) =
    let both = same_failure info ts row i why other a b in
    let rows : row ≡ i = both.0 in
    let whys : why ≡ other = both.1 in
    cc
failure_only {row = row} {info = info} a (as_equations l e) =
    equations_are_no_hook info.kind row _ l a.hooked

equations_only : {theory : RewriteTheory} {n f c : ℕ} {ts : Forest} {info : SymInfo}
    {r s : Evaluated} → info.kind ≡ Equations
    → ((a : Evaluated) → Equates theory n f (equations_of theory f) ts c a → r ≡ a)
    → AppliedAs theory n f ts info (suc c) s → r ≡ s
equations_only {info = info} k only (as_closed l) = kinds_differ info.kind _ l k
equations_only {info = info} k only (as_hook {row = row} a l) =
    equations_are_no_hook info.kind row _ k a.hooked
equations_only {info = info} k only (as_failure {row = row} a) =
    equations_are_no_hook info.kind row _ k a.hooked
equations_only {s = s} k only (as_equations l e) = only s e

-- ---- equations and their conditions

-- the outcome of an equation that matches with this substitution
data Tried (theory : RewriteTheory) (n f : ℕ) (ts : Forest) (e : Equation) (es : List Equation)
    (theta : List (Option Tree)) (c : ℕ) : Evaluated → Type 0 where
  tried_fails : {d : ℕ} {r : Evaluated} → Tests theory n f theta e.condition c (fails d)
      → Equates theory n f es ts d r → Tried theory n f ts e es theta c r
  tried_blocked : {cause : Cause} → Tests theory n f theta e.condition c (untested cause)
      → Tried theory n f ts e es theta c (blocked cause)
  tried_holds : {d : ℕ} {r : Evaluated} → Tests theory n f theta e.condition c (holds d)
      → EvaluatesIn theory n f theta e.right d r → Tried theory n f ts e es theta c r

tried : {theory : RewriteTheory} {n f c : ℕ} {ts : Forest} {e : Equation} {es : List Equation}
    {r : Evaluated} (theta : List (Option Tree)) → MatchesOnce theory e
    → MatchesBy theory e ts theta → Equates theory n f (e ∷ es) ts c r
    → Tried theory n f ts e es theta c r
tried theta once m (unmatched never others) = absurd (never theta m)
tried {ts = ts} theta once m (condition_fails {theta = sigma} l test others) =
    rw (once ts theta sigma m l) (tried_fails test others)
tried {ts = ts} theta once m (condition_blocked {theta = sigma} l test) =
    rw (once ts theta sigma m l) (tried_blocked test)
tried {ts = ts} theta once m (used {theta = sigma} l test right) =
    rw (once ts theta sigma m l) (tried_holds test right)

no_equation_left_only : {theory : RewriteTheory} {n f c : ℕ} {ts : Forest} {s : Evaluated}
    → Equates theory n f [] ts c s → blocked (no_equation f) ≡ s
no_equation_left_only no_equation_left = refl

unmatched_only : {theory : RewriteTheory} {n f c : ℕ} {ts : Forest} {e : Equation}
    {es : List Equation} {r s : Evaluated} → IsUnmatchedBy theory e ts
    → ((a : Evaluated) → Equates theory n f es ts c a → r ≡ a) → Equates theory n f (e ∷ es) ts c s
    → r ≡ s
unmatched_only {s = s} never only (unmatched other others) = only s others
unmatched_only never only (condition_fails {theta = sigma} l test others) = absurd (never sigma l)
unmatched_only never only (condition_blocked {theta = sigma} l test) = absurd (never sigma l)
unmatched_only never only (used {theta = sigma} l test right) = absurd (never sigma l)

fails_only : {theory : RewriteTheory} {n f c d : ℕ} {ts : Forest} {e : Equation}
    {es : List Equation} {theta : List (Option Tree)} {r s : Evaluated}
    → ((x : ConditionOutcome) → Tests theory n f theta e.condition c x → fails d ≡ x)
    → ((a : Evaluated) → Equates theory n f es ts d a → r ≡ a) → Tried theory n f ts e es theta c s
    → r ≡ s
fails_only {theory} {n} {f} {d = d} {ts = ts} {es = es} {s = s} test only
    (tried_fails {d = k} t others) =
    let same : fails d ≡ fails k = test (fails k) t in
    let calls_same : k ≡ d = cc in
    only s (subst (λ j. Equates theory n f es ts j s) calls_same others)
fails_only {d = d} test only (tried_blocked {cause = cause} t) =
    let same : fails d ≡ untested cause = test (untested cause) t in let no : ⊥ = cc in absurd no
fails_only {d = d} test only (tried_holds {d = k} t right) =
    let same : fails d ≡ holds k = test (holds k) t in let no : ⊥ = cc in absurd no

untested_only : {theory : RewriteTheory} {n f c : ℕ} {ts : Forest} {e : Equation}
    {es : List Equation} {theta : List (Option Tree)} {cause : Cause} {s : Evaluated}
    → ((x : ConditionOutcome) → Tests theory n f theta e.condition c x → untested cause ≡ x)
    → Tried theory n f ts e es theta c s → blocked cause ≡ s
untested_only {cause = cause} test (tried_fails {d = k} t others) =
    let same : untested cause ≡ fails k = test (fails k) t in let no : ⊥ = cc in absurd no
untested_only {cause = cause} test (tried_blocked {cause = other} t) =
    let same : untested cause ≡ untested other = test (untested other) t in cc
untested_only {cause = cause} test (tried_holds {d = k} t right) =
    let same : untested cause ≡ holds k = test (holds k) t in let no : ⊥ = cc in absurd no

holds_only : {theory : RewriteTheory} {n f c d : ℕ} {ts : Forest} {e : Equation}
    {es : List Equation} {theta : List (Option Tree)} {r s : Evaluated}
    → ((x : ConditionOutcome) → Tests theory n f theta e.condition c x → holds d ≡ x)
    → ((a : Evaluated) → EvaluatesIn theory n f theta e.right d a → r ≡ a)
    → Tried theory n f ts e es theta c s → r ≡ s
holds_only {d = d} test only (tried_fails {d = k} t others) =
    let same : holds d ≡ fails k = test (fails k) t in let no : ⊥ = cc in absurd no
holds_only {d = d} test only (tried_blocked {cause = cause} t) =
    let same : holds d ≡ untested cause = test (untested cause) t in let no : ⊥ = cc in absurd no
holds_only {theory} {n} {f} {d = d} {e = e} {theta = theta} {s = s} test only
    (tried_holds {d = k} t right) =
    let same : holds d ≡ holds k = test (holds k) t in
    let calls_same : k ≡ d = cc in
    only s (subst (λ j. EvaluatesIn theory n f theta e.right j s) calls_same right)

-- a value has only one meaning for a condition
pub says_only : {e : Evaluated} {x y : ConditionOutcome} → Says e x → Says e y → x ≡ y
says_only (says_true a) (says_true b) = refl
says_only (says_true a) (says_other b) = absurd (b a)
says_only (says_other a) (says_true b) = absurd (a b)
says_only (says_other a) (says_other b) = refl
says_only says_nothing says_nothing = refl

condition_only : {theory : RewriteTheory} {n f c : ℕ} {theta : List (Option Tree)} {p : Pattern}
    {e : Evaluated} {x y : ConditionOutcome}
    → ((a : Evaluated) → EvaluatesIn theory n f theta p c a → e ≡ a) → Says e x
    → Tests theory n f theta (Some p) c y → x ≡ y
condition_only {y = y} only says (condition {e = other} ev told) =
    says_only says (subst (λ a. Says a y) (sym (only other ev)) told)

no_condition_only : {theory : RewriteTheory} {n f c : ℕ} {theta : List (Option Tree)}
    {y : ConditionOutcome}
    → Tests theory n f theta None c y → holds c ≡ y
no_condition_only no_condition = refl

no_nesting_only : {theory : RewriteTheory} {f c : ℕ} {theta : List (Option Tree)} {p : Pattern}
    {s : Evaluated} → EvaluatesIn theory 0 f theta p c s → blocked (too_nested f) ≡ s
no_nesting_only no_nesting = refl

inside_only : {theory : RewriteTheory} {n f c : ℕ} {theta : List (Option Tree)} {p : Pattern}
    {r s : Evaluated} → ((a : Evaluated) → Evaluates theory n theta p c a → r ≡ a)
    → EvaluatesIn theory (suc n) f theta p c s → r ≡ s
inside_only {s = s} only (inside e) = only s e

-- ---- all of them

mutual
  pub evaluation_unique : (theory : RewriteTheory) (once : AllMatchOnce theory) {n c : ℕ}
      {theta : List (Option Tree)} {p : Pattern} {r : Evaluated}
      → Evaluates theory n theta p c r → (s : Evaluated) → Evaluates theory n theta p c s → r ≡ s
  evaluation_unique theory once (bound e) s d = bound_only e d
  evaluation_unique theory once itself s d = itself_only d
  evaluation_unique theory once (nested_out h) s d = nested_out_only h d
  evaluation_unique theory once (argument_blocked h all) s d =
      blocked_only (all_unique theory once all) (comes h d)
  evaluation_unique theory once (made h all b le) s d =
      values_only (all_unique theory once all) (λ r m. fits_only b le m) (comes h d)
  evaluation_unique theory once (made_too_high h all b lt) s d =
      values_only (all_unique theory once all) (λ r m. passes_only b lt m) (comes h d)
  evaluation_unique theory once (function_called all applied) s d =
      values_only (all_unique theory once all)
      (λ r m. calls_only (applies_unique theory once applied) m) (comes of_call d)

  pub all_unique : (theory : RewriteTheory) (once : AllMatchOnce theory) {n c : ℕ}
      {theta : List (Option Tree)} {ps : Patterns} {r : AllEvaluated}
      → EvaluateAll theory n theta ps c r → (s : AllEvaluated) → EvaluateAll theory n theta ps c s
      → r ≡ s
  all_unique theory once none_left s d = none_left_only d
  all_unique theory once (first_blocked e) s d =
      first_blocked_only (evaluation_unique theory once e) d
  all_unique theory once (later_blocked e all) s d =
      behind_only (evaluation_unique theory once e) (all_unique theory once all) d
  all_unique theory once (one_more e all) s d =
      behind_only (evaluation_unique theory once e) (all_unique theory once all) d

  pub applies_unique : (theory : RewriteTheory) (once : AllMatchOnce theory) {n f c : ℕ}
      {ts : Forest} {r : Evaluated} → HasOutcome theory n f ts c r → (s : Evaluated)
      → HasOutcome theory n f ts c s → r ≡ s
  applies_unique theory once (by_nothing {info = info} i k) s d =
      closed_only k (applied_as info i d)
  applies_unique theory once (without_call {info = info} i k) s d =
      exhausted_only k (applied_as info i d)
  applies_unique theory once (by_hook {info = info} i a k) s d = hook_only a k (applied_as info i d)
  applies_unique theory once (hook_fails {info = info} i a) s d =
      failure_only a (applied_as info i d)
  applies_unique theory once (by_equations {f = f} {info = info} i k e) s d =
      equations_only k (equates_unique theory once (once f info i) e) (applied_as info i d)

  pub equates_unique : (theory : RewriteTheory) (once : AllMatchOnce theory) {n f c : ℕ}
      {es : List Equation} {ts : Forest} {r : Evaluated} → All (MatchesOnce theory) es
      → Equates theory n f es ts c r → (s : Evaluated) → Equates theory n f es ts c s → r ≡ s
  equates_unique theory once each no_equation_left s d = no_equation_left_only d
  equates_unique theory once each (unmatched {e = e} {es = es} never others) s d =
      unmatched_only never
      (equates_unique theory once (all_rest (MatchesOnce theory) e es each) others) d
  equates_unique theory once each (condition_fails {e = e} {es = es} {theta = theta} m test others)
      s d =
      fails_only (tests_unique theory once test)
      (equates_unique theory once (all_rest (MatchesOnce theory) e es each) others)
      (tried theta (all_first (MatchesOnce theory) e es each) m d)
  equates_unique theory once each (condition_blocked {e = e} {es = es} {theta = theta} m test) s d =
      untested_only (tests_unique theory once test)
      (tried theta (all_first (MatchesOnce theory) e es each) m d)
  equates_unique theory once each (used {e = e} {es = es} {theta = theta} m test right) s d =
      holds_only (tests_unique theory once test) (within_unique theory once right)
      (tried theta (all_first (MatchesOnce theory) e es each) m d)

  pub tests_unique : (theory : RewriteTheory) (once : AllMatchOnce theory) {n f c : ℕ}
      {theta : List (Option Tree)} {p : Option Pattern} {r : ConditionOutcome}
      → Tests theory n f theta p c r → (s : ConditionOutcome) → Tests theory n f theta p c s → r ≡ s
  tests_unique theory once no_condition s d = no_condition_only d
  tests_unique theory once (condition e says) s d =
      condition_only (within_unique theory once e) says d

  pub within_unique : (theory : RewriteTheory) (once : AllMatchOnce theory) {n f c : ℕ}
      {theta : List (Option Tree)} {p : Pattern} {r : Evaluated}
      → EvaluatesIn theory n f theta p c r → (s : Evaluated) → EvaluatesIn theory n f theta p c s
      → r ≡ s
  within_unique theory once no_nesting s d = no_nesting_only d
  within_unique theory once (inside e) s d = inside_only (evaluation_unique theory once e) d
