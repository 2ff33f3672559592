-- Evaluation of patterns under a substitution, innermost and from left to right (K framework,
-- "Functions"; Rosu 2017), as a big-step semantics. Three things bound it: the calls of functions
-- that are left, the nesting that is left, and the height of terms.
use Rattle.std.specs.Prelude.{◌≡◌, ◌≢◌, ◌≤◌, ◌<◌, ℕ, suc, true, List, [], ◌∷◌, Option, Some, None}
use Rattle.term_core.specs.Terms.{Tree, leaf, node, Forest, no_tree, more_trees, height, truth}
use Rattle.term_core.specs.Terms.{injected, DomainValue}
use Rattle.term_core.specs.Patterns.{Pattern, Patterns, variable, domain_value, application}
use Rattle.term_core.specs.Patterns.{injection, call, no_pattern, more_patterns, binding}
use Rattle.rule_core.specs.Rules.{Equation}
use Rattle.rule_core.specs.Theories.{RewriteTheory, equations_of}
use Rattle.rule_core.specs.Matching.{MatchNamed, AreUnmatched}
use Rattle.rule_core.specs.Sorting.{IsSymbol, sort_at}
use Rattle.rule_core.specs.HookCalls.{HookAnswers, HookFails}
use Rattle.rule_core.specs.declared.signature.Signature.{Signature}
use Rattle.rule_core.specs.declared.signature.SymInfo.{SymInfo}
use Rattle.rule_core.specs.declared.signature.SymKind.TheVariants.{Injection, Equations, Closed}
use Rattle.term_core.specs.declared.values.NoValue.{NoValue}

-- why there is no term: the hook with this number has no value; nothing defines the function; no
-- equation applies; no call, no height, or no nesting is left for the symbol
pub data Cause : Type 0 where
  no_value : ℕ → NoValue → Cause
  closed : ℕ → Cause
  no_equation : ℕ → Cause
  no_call_left : ℕ → Cause
  too_high : ℕ → Cause
  too_nested : ℕ → Cause

-- a term and the number of calls that are left, or the reason why there is no term
pub data Evaluated : Type 0 where
  value : Tree → ℕ → Evaluated
  blocked : Cause → Evaluated

pub data AllEvaluated : Type 0 where
  values : Forest → ℕ → AllEvaluated
  all_blocked : Cause → AllEvaluated

-- a condition holds or fails, with the number of calls that are left, or it is blocked
pub data ConditionOutcome : Type 0 where
  holds : ℕ → ConditionOutcome
  fails : ℕ → ConditionOutcome
  untested : Cause → ConditionOutcome

-- the term is the truth value `true`
abbrev pub IsTrueValue : Tree → Type 0
IsTrueValue t = (sort : ℕ) × (t ≡ leaf sort (truth true))

-- the greatest height of a term
abbrev pub most_height : ℕ
most_height = 500

-- the injection symbol: the first symbol of this kind
pub record IsInjectionSymbol (sig : Signature) (f : ℕ) : Type 0 where
  pub info : SymInfo
  pub there : IsSymbol sig f info
  pub injects : info.kind ≡ Injection
  pub first : (g : ℕ) (other : SymInfo) → g < f → IsSymbol sig g other → other.kind ≢ Injection

-- The symbol and the arguments of a node that is neither a variable nor a value. The symbol of an
-- injection is the injection symbol.
pub data HasHead (theory : RewriteTheory) : Pattern → ℕ → Patterns → Type 0 where
  of_constructor : {f : ℕ} {ps : Patterns} → HasHead theory (application f ps) f ps
  of_injection : {a b f : ℕ} {p : Pattern} → IsInjectionSymbol theory.sig f →
      HasHead theory (injection a b p) f (more_patterns p no_pattern)
  of_call : {f : ℕ} {sorts : List ℕ} {ps : Patterns} → HasHead theory (call f sorts ps) f ps

-- the normal term that a constructor or an injection builds from the values of its arguments
abbrev pub built : Pattern → Forest → Option Tree
built (application f ps) ts = Some (node f ts)
built (injection a b p) (more_trees t no_tree) = Some (injected a b t)
built _ _ = None

-- the meaning of the value of a condition
pub data Says : Evaluated → ConditionOutcome → Type 0 where
  says_true : {c : ℕ} {t : Tree} → IsTrueValue t → Says (value t c) (holds c)
  says_other : {c : ℕ} {t : Tree} → (IsTrueValue t → ⊥) → Says (value t c) (fails c)
  says_nothing : {cause : Cause} → Says (blocked cause) (untested cause)

-- the substitution matches the equation's arguments with the terms
abbrev pub MatchesBy : RewriteTheory → Equation → Forest → List (Option Tree) → Type 0
MatchesBy theory e ts theta = MatchNamed theory.sig e.variables e.arguments e.names ts theta

-- no substitution does
abbrev pub IsUnmatchedBy : RewriteTheory → Equation → Forest → Type 0
IsUnmatchedBy theory e ts = AreUnmatched theory.sig e.variables e.arguments e.names ts

mutual
  -- with this nesting and this many calls left, the pattern has this outcome under the substitution
  pub data Evaluates (theory : RewriteTheory) : ℕ → List (Option Tree) → Pattern → ℕ → Evaluated
      → Type 0 where
    bound : {n c x : ℕ} {theta : List (Option Tree)} {t : Tree} → binding theta x ≡ Some t →
        Evaluates theory n theta (variable x) c (value t c)
    itself : {n c s : ℕ} {theta : List (Option Tree)} {v : DomainValue} →
        Evaluates theory n theta (domain_value s v) c (value (leaf s v) c)
    nested_out : {c f : ℕ} {theta : List (Option Tree)} {p : Pattern} {ps : Patterns}
        → HasHead theory p f ps → Evaluates theory 0 theta p c (blocked (too_nested f))
    argument_blocked : {n c f : ℕ} {theta : List (Option Tree)} {p : Pattern} {ps : Patterns}
        {cause : Cause} → HasHead theory p f ps
        → EvaluateAll theory n theta ps c (all_blocked cause)
        → Evaluates theory (suc n) theta p c (blocked cause)
    made : {n c d f : ℕ} {theta : List (Option Tree)} {p : Pattern} {ps : Patterns} {ts : Forest}
        {t : Tree} → HasHead theory p f ps → EvaluateAll theory n theta ps c (values ts d)
        → built p ts ≡ Some t → height t ≤ most_height
        → Evaluates theory (suc n) theta p c (value t d)
    made_too_high : {n c d f : ℕ} {theta : List (Option Tree)} {p : Pattern} {ps : Patterns}
        {ts : Forest} {t : Tree} → HasHead theory p f ps
        → EvaluateAll theory n theta ps c (values ts d) → built p ts ≡ Some t
        → most_height < height t → Evaluates theory (suc n) theta p c (blocked (too_high f))
    function_called : {n c d f : ℕ} {theta : List (Option Tree)} {sorts : List ℕ} {ps : Patterns}
        {ts : Forest} {e : Evaluated} → EvaluateAll theory n theta ps c (values ts d)
        → HasOutcome theory n f ts d e → Evaluates theory (suc n) theta (call f sorts ps) c e

  -- the same for the patterns, one after another
  pub data EvaluateAll (theory : RewriteTheory) : ℕ → List (Option Tree) → Patterns → ℕ
      → AllEvaluated → Type 0 where
    none_left : {n c : ℕ} {theta : List (Option Tree)}
        → EvaluateAll theory n theta no_pattern c (values no_tree c)
    first_blocked : {n c : ℕ} {theta : List (Option Tree)} {p : Pattern} {ps : Patterns}
        {cause : Cause} → Evaluates theory n theta p c (blocked cause)
        → EvaluateAll theory n theta (more_patterns p ps) c (all_blocked cause)
    later_blocked : {n c d : ℕ} {theta : List (Option Tree)} {p : Pattern} {ps : Patterns}
        {t : Tree} {cause : Cause} → Evaluates theory n theta p c (value t d)
        → EvaluateAll theory n theta ps d (all_blocked cause)
        → EvaluateAll theory n theta (more_patterns p ps) c (all_blocked cause)
    one_more : {n c d e : ℕ} {theta : List (Option Tree)} {p : Pattern} {ps : Patterns} {t : Tree}
        {ts : Forest} → Evaluates theory n theta p c (value t d)
        → EvaluateAll theory n theta ps d (values ts e)
        → EvaluateAll theory n theta (more_patterns p ps) c (values (more_trees t ts) e)

  -- The function has this outcome at these terms. This takes one call, unless nothing defines the
  -- function.
  pub data HasOutcome (theory : RewriteTheory) : ℕ → ℕ → Forest → ℕ → Evaluated → Type 0 where
    by_nothing : {n f c : ℕ} {ts : Forest} {info : SymInfo} → IsSymbol theory.sig f info
        → info.kind ≡ Closed → HasOutcome theory n f ts c (blocked (closed f))
    without_call : {n f : ℕ} {ts : Forest} {info : SymInfo} → IsSymbol theory.sig f info
        → info.kind ≢ Closed → HasOutcome theory n f ts 0 (blocked (no_call_left f))
    by_hook : {n f c sort : ℕ} {ts : Forest} {info : SymInfo} {v : DomainValue} {row : ℕ} →
        IsSymbol theory.sig f info → HookAnswers info row ts v → sort_at [] info.result ≡ Some sort
        →
        HasOutcome theory n f ts (suc c) (value (leaf sort v) c)
    hook_fails : {n f c : ℕ} {ts : Forest} {info : SymInfo} {why : NoValue} {row : ℕ}
        → IsSymbol theory.sig f info → HookFails info row ts why
        → HasOutcome theory n f ts (suc c) (blocked (no_value row why))
    by_equations : {n f c : ℕ} {ts : Forest} {info : SymInfo} {e : Evaluated}
        → IsSymbol theory.sig f info → info.kind ≡ Equations
        → Equates theory n f (equations_of theory f) ts c e → HasOutcome theory n f ts (suc c) e

  -- The value is that of the right side of the first of these equations that matches and whose
  -- condition holds. The calls that a condition takes are not available to later conditions.
  pub data Equates (theory : RewriteTheory) : ℕ → ℕ → List Equation → Forest → ℕ → Evaluated
      → Type 0 where
    no_equation_left : {n f c : ℕ} {ts : Forest}
        → Equates theory n f [] ts c (blocked (no_equation f))
    unmatched : {n f c : ℕ} {ts : Forest} {e : Equation} {es : List Equation} {r : Evaluated} →
        IsUnmatchedBy theory e ts → Equates theory n f es ts c r
        → Equates theory n f (e ∷ es) ts c r
    condition_fails : {n f c d : ℕ} {ts : Forest} {e : Equation} {es : List Equation}
        {r : Evaluated} {theta : List (Option Tree)}
        → MatchesBy theory e ts theta
        → Tests theory n f theta e.condition c (fails d) → Equates theory n f es ts d r
        → Equates theory n f (e ∷ es) ts c r
    condition_blocked : {n f c : ℕ} {ts : Forest} {e : Equation} {es : List Equation}
        {theta : List (Option Tree)} {cause : Cause}
        → MatchesBy theory e ts theta
        → Tests theory n f theta e.condition c (untested cause)
        → Equates theory n f (e ∷ es) ts c (blocked cause)
    used : {n f c d : ℕ} {ts : Forest} {e : Equation} {es : List Equation} {r : Evaluated}
        {theta : List (Option Tree)} → MatchesBy theory e ts theta
        → Tests theory n f theta e.condition c (holds d) → EvaluatesIn theory n f theta e.right d r
        → Equates theory n f (e ∷ es) ts c r

  -- the condition of an equation of this function, if it has one
  pub data Tests (theory : RewriteTheory) : ℕ → ℕ → List (Option Tree) → Option Pattern → ℕ
      → ConditionOutcome → Type 0 where
    no_condition : {n f c : ℕ} {theta : List (Option Tree)}
        → Tests theory n f theta None c (holds c)
    condition : {n f c : ℕ} {theta : List (Option Tree)} {p : Pattern} {e : Evaluated}
        {r : ConditionOutcome}
        → EvaluatesIn theory n f theta p c e → Says e r → Tests theory n f theta (Some p) c r

  -- a condition or a right side of an equation of this function, which takes one level of nesting
  pub data EvaluatesIn (theory : RewriteTheory) : ℕ → ℕ → List (Option Tree) → Pattern → ℕ
      → Evaluated → Type 0 where
    no_nesting : {f c : ℕ} {theta : List (Option Tree)} {p : Pattern} →
        EvaluatesIn theory 0 f theta p c (blocked (too_nested f))
    inside : {n f c : ℕ} {theta : List (Option Tree)} {p : Pattern} {e : Evaluated} →
        Evaluates theory n theta p c e → EvaluatesIn theory (suc n) f theta p c e
