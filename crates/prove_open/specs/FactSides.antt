-- The sides of the fact that two patterns differ: the patterns with numbered variables in place of
-- parts, which are the arguments of a constructor or what is injected.
use Rattle.std.specs.Prelude.{◌≡◌, ◌++◌, ◌&&◌, ℕ, Bool, true, false, List, length, Some}
use Rattle.ml_pat.specs.Patterns.{Pattern as LogicPattern, imp, not, and, bot}
use Rattle.ml_kernel.specs.Theorems.{Theorem}
use Rattle.term_core.specs.Patterns.{Pattern, Patterns, variable, application}
use Rattle.term_core.specs.Patterns.{injection, no_pattern, more_patterns}
use Rattle.term_core.specs.PatternLists.{plain_patterns}
use Rattle.term_core.specs.declared.rule_patterns.RulePat.{RulePat}
use Rattle.ml_image.specs.HasImages.{count_of}
use Rattle.ml_image.specs.Sides.{numbered}
use Rattle.rule_core.specs.AcSymbols.{IsAcFree}
use Rattle.rule_core.specs.declared.signature.Signature.{Signature}
use Rattle.ml_image.specs.Images.{image_of}
use Rattle.ml_image.specs.Sentences.{Sentence}
use Rattle.prove_term.specs.Contexts.{Context, StaysIn}
use Rattle.prove_open.specs.Givens.{IsCovered}
use Rattle.prove_open.specs.Under.{DeniesUnder}
use Rattle.prove_open.specs.Differences.{IsValueOrConstructor, DifferAtRoot}
use Rattle.prove_open.specs.Elements.{AreElementsUnder}
use Rattle.prove_open.specs.declared.givens.Given.{Given}

abbrev pub is_injected : Pattern → Bool
is_injected (injection a b p) = true
is_injected _ = false

abbrev pub is_application : Pattern → Bool
is_application (application f ps) = true
is_application _ = false

-- a value, or a constructor with variables numbered from k for its arguments
abbrev pub head_form : ℕ → Pattern → Pattern
head_form k (application f ps) = application f (numbered k (count_of ps))
head_form k p = p

-- The same, or the injection of a variable. If `deep`, it is the injection of a value or of a
-- constructor with variables.
abbrev pub injected_form : Bool → ℕ → Pattern → Pattern
injected_form false k p = variable k
injected_form true k p = head_form k p

abbrev pub side_form : Bool → ℕ → Pattern → Pattern
side_form deep k (injection a b p) = injection a b (injected_form deep k p)
side_form deep k p = head_form k p

-- the patterns that the variables stand for
abbrev pub head_parts : Pattern → Patterns
head_parts (application f ps) = ps
head_parts p = no_pattern

abbrev pub injected_parts : Bool → Pattern → Patterns
injected_parts false p = more_patterns p no_pattern
injected_parts true p = head_parts p

abbrev pub side_parts : Bool → Pattern → Patterns
side_parts deep (injection a b p) = injected_parts deep p
side_parts deep p = head_parts p

-- the pattern has such a side: it is a value, a constructor or an injection, and if `deep`, what is
-- injected is a value or a constructor
abbrev pub IsInjectedPart : Bool → Pattern → Type 0
IsInjectedPart false p = Unit {0}
IsInjectedPart true p = IsValueOrConstructor p

abbrev pub HasSide : Bool → Pattern → Type 0
HasSide deep (injection a b p) = IsInjectedPart deep p
HasSide deep p = IsValueOrConstructor p

-- the same, as a record, which proofs keep folded
pub record IsSided (deep : Bool) (p : Pattern) : Type 0 where
  pub has : HasSide deep p

-- the given facts cover both patterns, which have one sort
abbrev pub AreCoveredAlike : Signature → List ℕ → Given → Pattern → Pattern → Type 0
AreCoveredAlike sig sorts g p q =
    (sort : ℕ) × IsCovered sig sorts g p sort × IsCovered sig sorts g q sort

-- The given facts cover both patterns, which have one sort and differ at the root. `both` says
-- whether both are constructors. No constructor is associative, commutative or idempotent, or has a
-- unit.
pub record IsClash (sig : Signature) (sorts : List ℕ) (g : Given) (p q : Pattern) (both : Bool)
    : Type 0 where
  pub covered : AreCoveredAlike sig sorts g p q
  pub differ : DifferAtRoot sig.subsorts p q
  pub both_is : (is_application p && is_application q) ≡ both
  pub free : IsAcFree sig

-- the theorem denies the sentence under the hypothesis, and stays in the context
pub record IsDenied (cx : Context) (h : LogicPattern) (s : Sentence) (t : Theorem) : Type 0 where
  pub says : DeniesUnder cx h s t.conclusion
  pub stays : StaysIn cx t

-- the theorem says under the hypothesis that nothing is in both patterns, and stays in the context
pub record AreKeptApart (cx : Context) (h : LogicPattern) (p q : Pattern) (t : Theorem) : Type 0
  where
    pub left : LogicPattern
    pub right : LogicPattern
    pub is_left : image_of cx.program.sig cx.names p ≡ Some left
    pub is_right : image_of cx.program.sig cx.names q ≡ Some right
    pub says : t.conclusion ≡ imp h (not (and left right))
    pub stays : StaysIn cx t

-- the pattern denies another under the hypothesis
abbrev pub IsDenial : LogicPattern → LogicPattern → Type 0
IsDenial h c = (p : LogicPattern) × (c ≡ imp h (not p))

-- so the other implies `bot` under it
abbrev pub IsDeniedBy : LogicPattern → LogicPattern → LogicPattern → Type 0
IsDeniedBy h c t = (p : LogicPattern) → c ≡ imp h (not p) → t ≡ imp h (imp p bot)

-- the theorems say under the given hypothesis, in order, that each pattern is one element of its
-- sort
pub record HaveFacts (cx : Context) (sorts : List ℕ) (g : Given) (ps : Patterns)
    (ts : List Theorem) : Type 0 where
  pub args : List RulePat
  pub are : plain_patterns args ≡ ps
  pub elements : AreElementsUnder cx sorts g args ts

-- the same for two lists of patterns, the first of which has n patterns
pub record HaveBothFacts (cx : Context) (sorts : List ℕ) (g : Given) (n : ℕ) (ps qs : Patterns)
    (ts : List Theorem) : Type 0 where
  pub first : List Theorem
  pub second : List Theorem
  pub are : ts ≡ first ++ second
  pub many : length first ≡ n
  pub lefts : HaveFacts cx sorts g ps first
  pub rights : HaveFacts cx sorts g qs second
