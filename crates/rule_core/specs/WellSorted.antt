-- Well-sorted theories: what holds of an accepted definition, and what matching, evaluation and
-- runs require.
use Rattle.std.specs.Prelude.{◌≡◌, ◌≢◌, ℕ, ◌<◌, ◌≤◌, List, [], ◌∷◌, length, slice_get, Option, Some}
use Rattle.std.specs.Prelude.{IsSome, IfSome, All, ◌⊎◌, map}
use Rattle.term_core.specs.Terms.{Tree, height}
use Rattle.term_core.specs.Patterns.{Pattern, Patterns, variable, domain_value, application}
use Rattle.term_core.specs.Patterns.{injection, call, no_pattern, more_patterns, binding}
use Rattle.rule_core.specs.Rules.{RewriteRule, Equation, AreInOrder}
use Rattle.rule_core.specs.HookSorts.{FitsHook}
use Rattle.rule_core.specs.Theories.{RewriteTheory, equations_of}
use Rattle.rule_core.specs.Subsorts.{HasNoCycle}
use Rattle.rule_core.specs.NamedParts.{Name, IsNamed, part_of}
use Rattle.rule_core.specs.Matching.{OccursIn, OccursInSome, RespectsSorts}
use Rattle.rule_core.specs.Evaluation.{most_height}
use Rattle.rule_core.specs.Sorting.{HasSort, HaveSorts, IsSymbol, sort_at}
use Rattle.rule_core.specs.declared.signature.Signature.{Signature}
use Rattle.rule_core.specs.declared.signature.SortInfo.{SortInfo}
use Rattle.rule_core.specs.declared.signature.SortKind.TheVariants as kind
use Rattle.rule_core.specs.declared.signature.SymInfo.{SymInfo}
use Rattle.rule_core.specs.declared.signature.SymKind.TheVariants.{Injection, Ctor, Equations}
use Rattle.rule_core.specs.declared.signature.SymKind.TheVariants.{Hooked}
use Rattle.rule_core.specs.declared.signature.SortRef.{SortRef}
use Rattle.rule_core.specs.declared.signature.SortRef.TheVariants.{Param, Sort}

-- no function is called in the pattern
abbrev mutual
  pub HasNoCall : Pattern → Type 0
  HasNoCall (variable x) = Unit {0}
  HasNoCall (domain_value s v) = Unit {0}
  HasNoCall (application f ps) = HaveNoCall ps
  HasNoCall (injection a b p) = HasNoCall p
  HasNoCall (call f sorts ps) = ⊥

  pub HaveNoCall : Patterns → Type 0
  HaveNoCall no_pattern = Unit {0}
  HaveNoCall (more_patterns p ps) = HasNoCall p × HaveNoCall ps

-- no number is listed twice
abbrev pub AreDifferent : List ℕ → Type 0
AreDifferent [] = Unit {0}
AreDifferent (x ∷ xs) = All (λ y. x ≢ y) xs × AreDifferent xs

-- a reference, of a symbol with this many sort parameters, to one of them or to a declared sort
abbrev pub IsReference : Signature → ℕ → SortRef → Type 0
IsReference sig params (Param i) = i < params
IsReference sig params (Sort s) = s.0 < length sig.sorts

-- the declaration of a symbol refers only to sorts that exist
pub record IsDeclaration (sig : Signature) (info : SymInfo) : Type 0 where
  pub arguments : All (IsReference sig info.params) info.args.items
  pub result : IsReference sig info.params info.result

-- the injection is declared from its first sort parameter to its second: `inj{From,To}(From) : To`
pub record IsInjectionDeclaration (info : SymInfo) : Type 0 where
  pub parameters : info.params ≡ 2
  pub argument : info.args.items ≡ Param 0 ∷ []
  pub result : info.result ≡ Param 1

-- a pair of declared sorts
abbrev pub IsPair : Signature → ℕ × ℕ → Type 0
IsPair sig pair = (pair.0 < length sig.sorts) × (pair.1 < length sig.sorts)

pub record IsSignature (sig : Signature) : Type 0 where
  pub declared : (f : ℕ) (info : SymInfo) → IsSymbol sig f info → IsDeclaration sig info
  pub injections : (f : ℕ) (info : SymInfo) → IsSymbol sig f info → info.kind ≡ Injection
      → IsInjectionDeclaration info
  pub constructors : (f : ℕ) (info : SymInfo) → IsSymbol sig f info → info.kind ≡ Ctor
      → info.params ≡ 0
  pub pairs : All (IsPair sig) sig.subsorts
  pub no_cycle : HasNoCycle sig.subsorts

-- Parts of the patterns have these names: different variables, none of which occurs in the patterns,
-- each of the sort of its part.
pub record HaveNames (sig : Signature) (variables : List ℕ) (ps : Patterns) (names : List Name)
    : Type 0 where
  pub different : AreDifferent (map (λ (n : Name). n.variable) names)
  pub elsewhere : All (λ (n : Name). OccursInSome n.variable ps → ⊥) names
  pub sorted : All (λ (n : Name). (p : Pattern) × (sort : ℕ) × (part_of ps n.place ≡ Some p)
      × HasSort sig variables p sort × (slice_get variables n.variable ≡ Some sort)) names

-- each variable that occurs in the pattern occurs in one of these, or is one of the names
abbrev pub UsesOnly : Patterns → List Name → Pattern → Type 0
UsesOnly ps names p = (x : ℕ) → OccursIn x p → OccursInSome x ps ⊎ IsNamed names x

-- the condition has a sort of truth values, and uses only variables of these patterns and names
abbrev pub IsCondition : Signature → List ℕ → Patterns → List Name → Pattern → Type 0
IsCondition sig variables ps names p =
    (sort : ℕ) × (name : List ℕ) × (info : SortInfo)
    × (slice_get sig.sorts sort ≡ Some (name, info))
    × (info.kind ≡ kind.Bool) × HasSort sig variables p sort × UsesOnly ps names p

-- a rule on terms of this sort
pub record IsRuleOf (sig : Signature) (sort : ℕ) (rule : RewriteRule) : Type 0 where
  pub variables : All (λ s. s < length sig.sorts) rule.variables
  pub left : HasSort sig rule.variables rule.left sort
  pub no_call : HasNoCall rule.left
  pub names : HaveNames sig rule.variables (more_patterns rule.left no_pattern) rule.names
  pub condition : IfSome rule.condition
      (IsCondition sig rule.variables (more_patterns rule.left no_pattern) rule.names)
  pub right : HasSort sig rule.variables rule.right sort
  pub bound : UsesOnly (more_patterns rule.left no_pattern) rule.names rule.right

-- an equation of a function with this declaration
pub record IsEquationOf (sig : Signature) (info : SymInfo) (e : Equation) : Type 0 where
  pub variables : All (λ s. s < length sig.sorts) e.variables
  pub arguments : HaveSorts sig e.variables [] e.arguments info.args.items
  pub no_call : HaveNoCall e.arguments
  pub names : HaveNames sig e.variables e.arguments e.names
  pub condition : IfSome e.condition (IsCondition sig e.variables e.arguments e.names)
  pub sort : ℕ
  pub result : sort_at [] info.result ≡ Some sort
  pub right : HasSort sig e.variables e.right sort
  pub bound : UsesOnly e.arguments e.names e.right

pub record IsWellSorted (theory : RewriteTheory) : Type 0 where
  pub signature : IsSignature theory.sig
  pub hooked : (f row : ℕ) (info : SymInfo) → IsSymbol theory.sig f info
      → info.kind ≡ Hooked (record { 0 = row }) → FitsHook theory.sig row info
  pub functions : (f : ℕ) (info : SymInfo) → IsSymbol theory.sig f info → info.kind ≡ Equations
      → info.params ≡ 0
  pub one_sort : (theory.rules ≡ []) ⊎ ((sort : ℕ) × All (IsRuleOf theory.sig sort) theory.rules)
  pub rules_in_order : AreInOrder (map (λ (r : RewriteRule). (r.priority, r.place)) theory.rules)
  pub listed : length theory.equations ≡ length theory.sig.symbols
  pub equations : (f : ℕ) (info : SymInfo) → IsSymbol theory.sig f info →
      All (IsEquationOf theory.sig info) (equations_of theory f)
  pub equations_in_order : (f : ℕ)
      → AreInOrder (map (λ (e : Equation). (e.priority, e.place)) (equations_of theory f))

-- the substitution binds each variable of the pattern, and maybe other variables, to a normal term
-- of the variable's sort that is not too high
pub record BindsVariablesOf (sig : Signature) (variables : List ℕ) (theta : List (Option Tree))
    (p : Pattern) : Type 0 where
  pub bound : (x : ℕ) → OccursIn x p → IsSome (binding theta x)
  pub sorted : RespectsSorts sig variables theta
  pub low : (x : ℕ) (t : Tree) → binding theta x ≡ Some t → height t ≤ most_height

-- the initial term of a run: it has no variable, and its sort is that of the rules
abbrev pub IsStart : RewriteTheory → Pattern → Type 0
IsStart theory start =
    (sort : ℕ) × HasSort theory.sig [] start sort × All (IsRuleOf theory.sig sort) theory.rules
