-- Patterns and the records of their evaluations, part by part: the image of a pattern equals the
-- image of its value.
use Rattle.std.specs.Prelude.{◌≡◌, ◌≤◌, ℕ, List, [], Option, Some, None, IsSome}
use Rattle.term_core.specs.Terms.{Tree, Forest, DomainValue, leaf, height, injected}
use Rattle.term_core.specs.Patterns.{Pattern as RulePattern, Patterns as RulePatterns, injection}
use Rattle.term_core.specs.Patterns.{call, binding, ground_pattern, ground_patterns}
use Rattle.ml_pat.specs.Patterns.{Pattern, equal}
use Rattle.ml_kernel.specs.Lemmas.{HasNoVariable}
use Rattle.ml_kernel.specs.Theorems.{Theorem}
use Rattle.rule_core.specs.ProgramView.{theory_of}
use Rattle.rule_core.specs.declared.rules.Program.{Program}
use Rattle.rule_core.specs.Sorting.{HasSort, HaveSorts, HasValue, IsSymbol, sort_at}
use Rattle.rule_core.specs.MatchLaws.{AreTermsOf}
use Rattle.rule_core.specs.HookCalls.{HookAnswers}
use Rattle.rule_core.specs.WellSorted.{IsWellSorted, BindsVariablesOf}
use Rattle.rule_core.specs.HookSorts.{FitsHook}
use Rattle.rule_core.specs.BoundVariables.{HasBoundVariables}
use Rattle.rule_core.specs.Matching.{OccursInSome, RespectsSorts}
use Rattle.rule_core.specs.Evaluation.{most_height}
use Rattle.rule_core.specs.Records.{Record, RecordList, Records, RecordAll}
use Rattle.rule_core.specs.declared.signature.Signature.{Signature}
use Rattle.rule_core.specs.declared.signature.SortRef.{SortRef}
use Rattle.rule_core.specs.declared.signature.SymInfo.{SymInfo}
use Rattle.ml_image.specs.Images.{image_of, applied}
use Rattle.prove_term.specs.Contexts.{Context, StaysIn}
use Rattle.prove_term.specs.Filling.{filled, all_filled}

-- The program is well sorted, and its rules and equations bind their variables.
pub record IsSortedAndBound (program : Program) : Type 0 where
  pub well_sorted : IsWellSorted (theory_of program)
  pub bound : HasBoundVariables program

-- The record is right for the evaluation of a pattern that has a sort, under a substitution that
-- serves the pattern.
pub record IsRecorded (program : Program) (theta : List (Option Tree)) (p : RulePattern)
    (r : Record) : Type 0 where
  pub ready : IsSortedAndBound program
  pub variables : List ℕ
  pub sort : ℕ
  pub sorted : HasSort program.sig variables p sort
  pub serves : BindsVariablesOf program.sig variables theta p
  pub records : Records (theory_of program) theta p r

pub record AreRecorded (program : Program) (theta : List (Option Tree)) (ps : RulePatterns)
    (rs : RecordList)
    : Type 0 where
  pub ready : IsSortedAndBound program
  pub variables : List ℕ
  pub refs : List SortRef
  pub sorted : HaveSorts program.sig variables [] ps refs
  pub bound : (x : ℕ) → OccursInSome x ps → IsSome (binding theta x)
  pub respects : RespectsSorts program.sig variables theta
  pub low : (x : ℕ) (t : Tree) → binding theta x ≡ Some t → height t ≤ most_height
  pub records : RecordAll (theory_of program) theta ps rs

-- the pattern q is the image of p
abbrev pub IsImage : Context → RulePattern → Pattern → Type 0
IsImage cx p q = image_of cx.program.sig cx.names p ≡ Some q

-- the theorem says that two patterns are equal, and stays in the context
pub record SaysEqual (cx : Context) (a b : Pattern) (t : Theorem) : Type 0 where
  pub says : t.conclusion ≡ equal a b
  pub stays : StaysIn cx t

-- there is no theorem, and two patterns are the same; or the theorem says that they are equal
abbrev pub Equates : Context → Pattern → Pattern → Option Theorem → Type 0
Equates cx a b None = a ≡ b
Equates cx a b (Some t) = SaysEqual cx a b t

-- Of three patterns without object variables, the first equals the second, and the second the
-- third. Where there is no theorem, the two are the same.
pub record AreLinked (cx : Context) (a b c : Pattern) (first second : Option Theorem) : Type 0 where
  pub closed : HasNoVariable a × (HasNoVariable b × HasNoVariable c)
  pub one : Equates cx a b first
  pub two : Equates cx b c second

-- the image of p and the given pattern are the same, or the theorem says that they are equal
pub record HasEqual (cx : Context) (p : RulePattern) (image : Pattern) (o : Option Theorem) :
    Type 0 where
  pub left : Pattern
  pub left_image : IsImage cx p left
  pub closed : HasNoVariable left
  pub equates : Equates cx left image o

-- the same for the image of p with its variables replaced by the terms of a substitution
abbrev pub IsEvaluated : Context → List (Option Tree) → RulePattern → Pattern → Option Theorem
    → Type 0
IsEvaluated cx theta p image o = HasEqual cx (filled theta p) image o

-- the same for the image of an injection of a term and the image of the normal form of that
-- injection
abbrev pub IsInjectedOnce : Context → ℕ → ℕ → Tree → Option Theorem → Type 0
IsInjectedOnce cx a b t o =
    (image : Pattern) → IsImage cx (ground_pattern (injected a b t)) image →
    HasEqual cx (injection a b (ground_pattern t)) image o

-- the same for a head that is applied to the images of such patterns
pub record AreEvaluated (cx : Context) (theta : List (Option Tree)) (ps : RulePatterns)
    (head whole : Pattern)
    (o : Option Theorem) : Type 0 where
  pub left : Pattern
  pub left_image : applied cx.program.sig cx.names (Some head) (all_filled theta ps) ≡ Some left
  pub closed : HasNoVariable left
  pub equates : Equates cx left whole o

-- The theorem says that the image of the function of these terms equals the given pattern. Neither
-- has an object variable.
pub record SaysCall (cx : Context) (f : ℕ) (ts : Forest) (right : Pattern) (t : Theorem) :
    Type 0 where
  pub left : Pattern
  pub left_image : IsImage cx (call f [] (ground_patterns ts)) left
  pub closed : HasNoVariable left
  pub closed_right : HasNoVariable right
  pub equal : SaysEqual cx left right t

-- the function has a hook; at these terms, which are of its arguments' sorts, the hook has the
-- value t
pub record IsHookCall (sig : Signature) (f : ℕ) (ts : Forest) (t : Tree) : Type 0 where
  pub info : SymInfo
  pub there : IsSymbol sig f info
  pub row : ℕ
  pub fits : FitsHook sig row info
  pub sorted : AreTermsOf sig [] ts info.args.items
  pub value : DomainValue
  pub answers : HookAnswers info row ts value
  pub sort : ℕ
  pub at : sort_at [] info.result ≡ Some sort
  pub has : HasValue sig sort value
  pub result : t ≡ leaf sort value
