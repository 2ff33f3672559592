-- The program that a definition means: its signature, its rewrite rules and the equations of its
-- functions.
use Rattle.std.specs.Prelude.{◌≡◌, ℕ, List, map, Option, Some, None, option_map, Contains, ◌↔◌}
use Rattle.std.specs.Prelude.{length, slice_get, string_bytes}
use Rattle.std.specs.List.{AllZip}
use Rattle.kore_text.specs.Trees.{AxiomDeclaration}
use Rattle.term_core.specs.HookValues.{Hook, hooks}
use Rattle.rule_core.specs.Rules.{RewriteRule, Equation, AreInOrder}
use Rattle.rule_core.specs.Theories.{RewriteTheory, equations_of}
use Rattle.rule_core.specs.HookSorts.{FitsHook}
use Rattle.rule_core.specs.declared.signature.Signature.{Signature}
use Rattle.rule_core.specs.declared.signature.SymInfo.{SymInfo}
use Rattle.rule_core.specs.declared.signature.SymKind.{SymKind}
use Rattle.rule_core.specs.declared.signature.SymKind.TheVariants.{Equations, Hooked, Closed}
use Rattle.kore_sig.specs.SortReferences.{sort_number}
use Rattle.kore_shapes.specs.Shapes.{Rewriting}
use Rattle.kore_axioms.specs.AxiomClasses.{rewrites, axiom_class}
use Rattle.kore_axioms.specs.AxiomMeanings.{MeansRule}
use Rattle.kore_rules.specs.EquationsAmong.{IsEquationAmong, IsUnreadableAmong}

-- a hook has this name and this number, and the declaration fits it
abbrev pub HasFittingHook : Signature → SymInfo → List ℕ → ℕ → Type 0
HasFittingHook sig info name row =
    (hook : Hook) × (slice_get hooks row ≡ Some hook) × (hook.name ≡ name) × FitsHook sig row info

-- What a symbol is used for under these axioms. A function has the values of its hook if the hook
-- fits. It is closed if its hook does not fit, or if it has no hook and an equation that is not
-- readable. Any other function has its equations.
pub data HasKind (sig : Signature) (axioms : List AxiomDeclaration) (f : List ℕ) (info : SymInfo) :
    SymKind → Type 0 where
  as_declared : (info.kind ≡ Equations → ⊥) → HasKind sig axioms f info info.kind
  hooked_kind : {name : List ℕ} {row : ℕ} → info.kind ≡ Equations
      → option_map string_bytes info.hook ≡ Some name → HasFittingHook sig info name row
      → HasKind sig axioms f info (Hooked (record { 0 = row }))
  without_hook : {name : List ℕ} → info.kind ≡ Equations
      → option_map string_bytes info.hook ≡ Some name
      → ((row : ℕ) → HasFittingHook sig info name row → ⊥) → HasKind sig axioms f info Closed
  by_unreadable : {a : AxiomDeclaration} → info.kind ≡ Equations → info.hook ≡ None
      → Contains axioms a → IsUnreadableAmong sig axioms f a → HasKind sig axioms f info Closed
  equations_kind : info.kind ≡ Equations → info.hook ≡ None →
      ((a : AxiomDeclaration) → Contains axioms a → IsUnreadableAmong sig axioms f a → ⊥)
      → HasKind sig axioms f info Equations

-- a symbol of the program is the declared one, except for its kind
pub record IsSymbolOf (sig : Signature) (axioms : List AxiomDeclaration)
    (declared made : List ℕ × SymInfo) : Type 0
  where
    pub name : made.0 ≡ declared.0
    pub kind : HasKind sig axioms declared.0 declared.1 made.1.kind
    pub params : made.1.params ≡ declared.1.params
    pub args : made.1.args.items ≡ declared.1.args.items
    pub result : made.1.result ≡ declared.1.result
    pub hook : option_map string_bytes made.1.hook ≡ option_map string_bytes declared.1.hook
    pub ac : made.1.ac ≡ declared.1.ac

-- the list has exactly the rules that axioms are, each once, in the order of trial
pub record AreRulesOf (sig : Signature) (axioms : List AxiomDeclaration)
    (rules : List RewriteRule) : Type 0 where
  pub just : (rule : RewriteRule) → Contains rules rule
      ↔ ((a : AxiomDeclaration) × Contains axioms a × MeansRule sig a rule)
  pub in_order : AreInOrder (map (λ (r : RewriteRule). (r.priority, r.place)) rules)

-- the same for the equations of a function that has its equations; any other symbol has none
pub record AreEquationsOf (sig : Signature) (axioms : List AxiomDeclaration) (f : List ℕ)
    (kind : SymKind)
    (es : List Equation) : Type 0 where
  pub just : (e : Equation) → Contains es e
      ↔ ((kind ≡ Equations) × ((a : AxiomDeclaration) × Contains axioms a
      × IsEquationAmong sig axioms f a e))
  pub in_order : AreInOrder (map (λ (e : Equation). (e.priority, e.place)) es)

-- The program of a definition whose declarations give the signature `declared`.
pub record IsProgramUnder (declared : Signature) (axioms : List AxiomDeclaration)
    (theory : RewriteTheory) : Type 0
  where
    pub sorts : theory.sig.sorts ≡ declared.sorts
    pub symbols : AllZip (IsSymbolOf declared axioms) declared.symbols theory.sig.symbols
    pub subsorts : theory.sig.subsorts ≡ declared.subsorts
    pub rules : AreRulesOf declared axioms theory.rules
    pub listed : length theory.equations ≡ length theory.sig.symbols
    pub equations : (n : ℕ) (f : List ℕ) (info : SymInfo)
        → slice_get theory.sig.symbols n ≡ Some (f, info)
        → AreEquationsOf declared axioms f info.kind (equations_of theory n)

-- the sort of a rule; None if there are no rules
abbrev pub IsTopOf : Signature → List AxiomDeclaration → Option ℕ → Type 0
IsTopOf sig axioms None =
    (a : AxiomDeclaration) → Contains axioms a → (w : Rewriting) → axiom_class sig a ≡ rewrites w
    → ⊥
IsTopOf sig axioms (Some s) =
    (a : AxiomDeclaration) × Contains axioms a
    × ((w : Rewriting) × (axiom_class sig a ≡ rewrites w) × (sort_number sig.sorts w.sort ≡ Some s))
