-- The statements of a definition's rules, equations, symbols and sorts in matching logic: its own
-- axioms (Chen and Rosu 2019; K framework, attributes `constructor`, `subsort` and `function`).
pub use Rattle.ml_image.specs.Premises.{made_sort, sort_of, is_true, condition_sentence}
pub use Rattle.ml_image.specs.Premises.{name_behind}
pub use Rattle.ml_image.specs.Premises.{meets}
use Rattle.std.specs.Prelude.{◌≡◌, ◌≢◌, ◌+◌, ◌<◌, ℕ, false, List, [], ◌∷◌, ◌++◌, length, map}
use Rattle.std.specs.Prelude.{Contains, Some, None, option_map}
use Rattle.term_core.specs.Patterns.{variable, injection}
use Rattle.rule_core.specs.Rules.{RewriteRule, Equation, Guard}
use Rattle.rule_core.specs.Theories.{RewriteTheory, equations_of}
use Rattle.rule_core.specs.Subsorts.{IsBelow}
use Rattle.rule_core.specs.Sorting.{IsSymbol}
use Rattle.rule_core.specs.declared.signature.Signature.{Signature}
use Rattle.rule_core.specs.declared.signature.SymInfo.{SymInfo}
use Rattle.rule_core.specs.declared.signature.SymKind.TheVariants.{Ctor, Equations}
use Rattle.rule_core.specs.declared.signature.SortRef.{SortRef}
use Rattle.rule_core.specs.declared.signature.SortRef.TheVariants.{Sort}
use Rattle.ml_image.specs.Images.{shifted, all_shifted}
use Rattle.ml_image.specs.Sentences.{Sentence, term, symbol, not, and, implies, equals}
use Rattle.ml_image.specs.Sentences.{exists, next, for_all, variables, apply_all, conjunctions}
use Rattle.ml_image.specs.NamedSides.{left_sentence, applied_sides, of_child}
use Rattle.ml_image.specs.LastResorts.{guards_sentence, last_resort_sentence}

-- ---- rules and equations

-- The sentence of a rewrite rule with this condition: an instance of its left side, if the
-- condition holds, makes a step to that of its right side.
abbrev pub rule_sentence : RewriteRule → Sentence → Sentence
rule_sentence r c =
    for_all 0 r.variables
    (implies (and (left_sentence (of_child 0 r.names) r.left) c) (next (term r.right)))

pub record SaysRule (sig : Signature) (r : RewriteRule) (p : Sentence) : Type 0 where
  pub condition : Sentence
  pub conditional : condition_sentence sig r.variables r.condition ≡ Some condition
  pub says : p ≡ rule_sentence r condition

-- The sentence of an equation that is written directly: if the condition holds, the function
-- applied to these arguments equals the right side.
abbrev pub direct_sentence : ℕ → Equation → Sentence → Sentence
direct_sentence f e c =
    for_all 0 e.variables
    (implies c (equals (applied_sides e.names 0 (symbol f) e.arguments) (term e.right)))

-- the equation with parameters of these sorts, which come before its other variables
abbrev pub behind_parameters : List ℕ → Equation → Equation
behind_parameters sorts e = record e {
  arguments = all_shifted (length sorts) e.arguments;
  names = map (name_behind (length sorts)) e.names;
  condition = option_map (shifted (length sorts)) e.condition;
  right = shifted (length sorts) e.right;
  variables = sorts ++ e.variables;
}

-- The sentence of an equation in the form of kompile with n parameters: if the condition holds and
-- each parameter is in its argument, the function applied to the parameters equals the right side.
abbrev pub kompile_sentence : ℕ → ℕ → Equation → Sentence → Sentence
kompile_sentence f n e c =
    for_all 0 e.variables
    (implies (and c (meets e.names 0 e.arguments))
    (equals (apply_all (symbol f) (variables 0 n)) (term e.right)))

-- a sort in a declaration, which is not a sort parameter
abbrev pub sort_numbered : ℕ → SortRef
sort_numbered s = Sort (record { 0 = s })

-- the symbol with this number has these argument sorts and this result sort
pub record Declares (sig : Signature) (f : ℕ) (info : SymInfo) (sorts : List ℕ) (sort : ℕ) :
    Type 0 where
  pub there : IsSymbol sig f info
  pub takes : info.args.items ≡ map sort_numbered sorts
  pub makes : info.result ≡ sort_numbered sort

-- The sentence of an equation, which is one of these. An equation without parameters is written
-- directly. One with a parameter for each argument is in the form of kompile, and it may be an
-- equation of the last resort. The variables of its guards are numbered after its own.
pub data SaysEquation (sig : Signature) (equations : List Equation) (f : ℕ) (e : Equation)
    (p : Sentence) : Type 0 where
  direct : (c : Sentence) → e.last_resort ≡ None → e.parameters ≡ 0 →
      condition_sentence sig e.variables e.condition ≡ Some c →
      p ≡ direct_sentence f e c → SaysEquation sig equations f e p
  kompile : (c : Sentence) (info : SymInfo) (sorts : List ℕ) (sort : ℕ) → e.last_resort ≡ None →
      e.parameters ≢ 0 → e.parameters ≡ length sorts → Declares sig f info sorts sort →
      condition_sentence sig (behind_parameters sorts e).variables
      (behind_parameters sorts e).condition
      ≡ Some c →
      p ≡ kompile_sentence f (length sorts) (behind_parameters sorts e) c
      → SaysEquation sig equations f e p
  last_resort : (guards : List Guard) (g c : Sentence) (info : SymInfo) (sorts : List ℕ) (sort : ℕ)
      → e.last_resort ≡ Some guards →
      e.parameters ≢ 0 → e.parameters ≡ length sorts → Declares sig f info sorts sort →
      guards_sentence sig equations (length sorts + length e.variables) guards ≡ Some g →
      condition_sentence sig (behind_parameters sorts e).variables
      (behind_parameters sorts e).condition
      ≡ Some c →
      p ≡ last_resort_sentence f (length sorts) (behind_parameters sorts e) g c
      → SaysEquation sig equations f e p

-- the function is defined by equations, and this is one of them
pub record IsEquationFor (theory : RewriteTheory) (f : ℕ) (e : Equation) : Type 0 where
  pub info : SymInfo
  pub function : IsSymbol theory.sig f info
  pub by_equations : info.kind ≡ Equations
  pub listed : Contains (equations_of theory f) e

-- ---- constructors

abbrev pub IsConstructor : Signature → ℕ → SymInfo → List ℕ → ℕ → Type 0
IsConstructor sig f info sorts sort = Declares sig f info sorts sort × (info.kind ≡ Ctor)

-- the symbol applied to this many variables, numbered from k
abbrev pub of_variables : ℕ → ℕ → ℕ → Sentence
of_variables f k n = apply_all (symbol f) (variables k n)

-- A constructor is total: its result is one element of its result sort.
pub record SaysTotal (sig : Signature) (f : ℕ) (p : Sentence) : Type 0 where
  pub info : SymInfo
  pub sorts : List ℕ
  pub sort : ℕ
  pub constructs : IsConstructor sig f info sorts sort
  pub says : p ≡ for_all 0 sorts
      (exists (length sorts) sort
      (equals (term (variable (length sorts))) (of_variables f 0 (length sorts))))

-- Two constructors with the same result sort have different results. Neither of them is
-- associative, commutative or idempotent, or has a unit.
pub record SaysApart (sig : Signature) (f g : ℕ) (p : Sentence) : Type 0 where
  pub differ : f ≢ g
  pub info : SymInfo
  pub other : SymInfo
  pub sorts : List ℕ
  pub others : List ℕ
  pub sort : ℕ
  pub first : IsConstructor sig f info sorts sort
  pub second : IsConstructor sig g other others sort
  pub no_ac : (info.ac ≡ false) × (other.ac ≡ false)
  pub says : p ≡ for_all 0 (sorts ++ others)
      (not (and (of_variables f 0 (length sorts)) (of_variables g (length sorts) (length others))))

-- A constructor is free: equal results have equal arguments. It has an argument, and is not
-- associative, commutative or idempotent, and has no unit.
pub record SaysFree (sig : Signature) (f : ℕ) (p : Sentence) : Type 0 where
  pub info : SymInfo
  pub sorts : List ℕ
  pub sort : ℕ
  pub constructs : IsConstructor sig f info sorts sort
  pub no_ac : info.ac ≡ false
  pub some : 0 < length sorts
  pub says : let n : ℕ = length sorts in p ≡ for_all 0 (sorts ++ sorts)
      (implies (and (of_variables f 0 n) (of_variables f n n))
      (apply_all (symbol f) (conjunctions (variables 0 n) (variables n n))))

-- ---- subsorts

-- An element of a sort, injected into a sort that the definition puts directly above it, is one
-- element of that sort.
pub record SaysSubsort (sig : Signature) (a b : ℕ) (p : Sentence) : Type 0 where
  pub pair : Contains sig.subsorts (a, b)
  pub says : p
      ≡ for_all 0 (a ∷ [])
      (exists 1 b (equals (term (variable 1)) (term (injection a b (variable 0)))))

-- Two injections in a row, along a chain of three sorts, equal the injection from the first sort to
-- the last.
pub record SaysCollapse (sig : Signature) (a b c : ℕ) (p : Sentence) : Type 0 where
  pub lower : IsBelow sig.subsorts a b
  pub upper : IsBelow sig.subsorts b c
  pub says : p ≡ for_all 0 (a ∷ [])
      (equals (term (injection b c (injection a b (variable 0))))
      (term (injection a c (variable 0))))

-- ---- all of them

-- The definition's own axioms: its rules and the equations of its functions; that its constructors
-- are total, different and free; that its subsorts are subsorts; and that two injections in a row
-- equal one.
pub data IsOwnAxiom (theory : RewriteTheory) (p : Sentence) : Type 0 where
  of_rule : (r : RewriteRule) → Contains theory.rules r → SaysRule theory.sig r p
      → IsOwnAxiom theory p
  of_equation : (f : ℕ) (e : Equation) → IsEquationFor theory f e
      → SaysEquation theory.sig (equations_of theory f) f e p → IsOwnAxiom theory p
  total : (f : ℕ) → SaysTotal theory.sig f p → IsOwnAxiom theory p
  apart : (f g : ℕ) → SaysApart theory.sig f g p → IsOwnAxiom theory p
  free : (f : ℕ) → SaysFree theory.sig f p → IsOwnAxiom theory p
  subsort : (a b : ℕ) → SaysSubsort theory.sig a b p → IsOwnAxiom theory p
  collapse : (a b c : ℕ) → SaysCollapse theory.sig a b c p → IsOwnAxiom theory p
