-- Patterns with variables: under the hypothesis each is one element of its sort.
use Rattle.std.specs.Prelude.{◌≡◌, ◌++◌, ℕ, List, Some, All}
use Rattle.std.specs.List.{AllZip}
use Rattle.ml_pat.specs.Patterns.{Pattern, app, imp, fun}
use Rattle.ml_kernel.specs.Theorems.{Theorem}
use Rattle.term_core.specs.Patterns.{Pattern as RulePattern}
use Rattle.term_core.specs.RulePatterns.{plain_pattern}
use Rattle.term_core.specs.declared.rule_patterns.RulePat.{RulePat}
use Rattle.rule_core.specs.ProgramView.{theory_of}
use Rattle.rule_core.specs.WellSorted.{IsWellSorted}
use Rattle.rule_core.specs.declared.signature.Signature.{Signature}
use Rattle.ml_image.specs.Images.{sort_image, injection_image}
use Rattle.ml_image.specs.Sentences.{Sentence}
use Rattle.prove_term.specs.Contexts.{Context, StaysIn}
use Rattle.prove_open.specs.Givens.{IsGiven, IsCovered}
use Rattle.prove_open.specs.Under.{SaysUnder, element}
use Rattle.prove_open.specs.Values.{IsOpenBelow}
use Rattle.prove_open.specs.declared.givens.Given.{Given}

-- what each call rests on
pub record IsReady (cx : Context) (sorts : List ℕ) (g : Given) : Type 0 where
  pub well_sorted : IsWellSorted (theory_of cx.program)
  pub given : IsGiven cx sorts g

-- the theorem says the sentence under the hypothesis, and stays in the context
pub record IsUnder (cx : Context) (h : Pattern) (s : Sentence) (t : Theorem) : Type 0 where
  pub says : SaysUnder cx h s t.conclusion
  pub stays : StaysIn cx t

-- the theorem says under the given hypothesis that the pattern is one element of its sort
abbrev pub IsElementUnder : Context → List ℕ → Given → RulePattern → Theorem → Type 0
IsElementUnder cx sorts g p t =
    (sort : ℕ) → IsCovered cx.program.sig sorts g p sort
    → IsUnder cx g.hypothesis (element p sort) t

abbrev pub HasElement : Signature → List ℕ → Given → RulePattern → Type 0
HasElement sig sorts g p = (sort : ℕ) × IsCovered sig sorts g p sort

-- the same for each of several patterns
abbrev pub HaveElements : Signature → List ℕ → Given → List RulePat → Type 0
HaveElements sig sorts g ps = All (λ p. HasElement sig sorts g (plain_pattern p)) ps

abbrev pub AreElementsUnder : Context → List ℕ → Given → List RulePat → List Theorem → Type 0
AreElementsUnder cx sorts g ps ts =
    AllZip (λ p t. IsElementUnder cx sorts g (plain_pattern p) t) ps ts

-- the theorems are on the patterns of the left, followed by those on the patterns of the right
pub record AreBothUnder (cx : Context) (sorts : List ℕ) (g : Given) (left right : List RulePat)
    (ts : List Theorem) : Type 0 where
  pub first : List Theorem
  pub second : List Theorem
  pub are : ts ≡ first ++ second
  pub lefts : AreElementsUnder cx sorts g left first
  pub rights : AreElementsUnder cx sorts g right second

-- ---- images

-- The theorem says that under the hypothesis h the pattern q is one element of the sort, and stays
-- in the context. The pattern has only variables below k.
pub record IsElementAt (cx : Context) (h : Pattern) (k sort : ℕ) (q : Pattern) (t : Theorem)
    : Type 0 where
  pub number : ℕ
  pub is_number : sort_image cx.program.sig cx.names sort ≡ Some number
  pub says : t.conclusion ≡ imp h (fun q number)
  pub below : IsOpenBelow k q
  pub stays : StaysIn cx t

-- the same for the injection of q from the sort a into the sort b
pub record IsInjectedAt (cx : Context) (h : Pattern) (k a b : ℕ) (q : Pattern) (t : Theorem)
    : Type 0 where
  pub head : Pattern
  pub is_head : injection_image cx.program.sig cx.names a b ≡ Some head
  pub injected : IsElementAt cx h k b (app head q) t

-- from the one theorem follows the other
abbrev pub RaisesTo : Context → Context → Pattern → ℕ → ℕ → ℕ → Theorem → Theorem → Type 0
RaisesTo old new h k a b fact t =
    (q : Pattern) → IsElementAt old h k a q fact → IsInjectedAt new h k a b q t

-- under the hypothesis h a pattern is an element of a, and its injection from a is one of b
pub record IsRaised (cx : Context) (h : Pattern) (k a b : ℕ) (fact lower : Theorem) : Type 0 where
  pub q : Pattern
  pub element : IsElementAt cx h k a q fact
  pub injected : IsInjectedAt cx h k a b q lower

-- from both follows that its injection from a into d is an element
abbrev pub RaisesFurther : Context → Context → Pattern → ℕ → ℕ → ℕ → ℕ → Theorem → Theorem
    → Theorem → Type 0
RaisesFurther old new h k a b d fact lower t =
    (r : IsRaised old h k a b fact lower) → IsInjectedAt new h k a d r.q t
