-- The value of a function's hook at terms.
use Rattle.std.specs.Prelude.{◌≡◌, ℕ, List, [], ◌∷◌, Some, Ok, Err}
use Rattle.term_core.specs.Terms.{leaf, Forest, no_tree, more_trees, DomainValue}
use Rattle.term_core.specs.HookValues.{hook_value}
use Rattle.term_core.specs.declared.values.NoValue.{NoValue}
use Rattle.rule_core.specs.declared.signature.SymInfo.{SymInfo}
use Rattle.rule_core.specs.declared.signature.SymKind.TheVariants.{Hooked}

-- the terms are these values, of any sorts
abbrev pub AreValues : Forest → List DomainValue → Type 0
AreValues no_tree vs = vs ≡ []
AreValues (more_trees (leaf s v) ts) vs =
    (rest : List DomainValue) × (vs ≡ v ∷ rest) × AreValues ts rest
AreValues _ _ = ⊥

-- the symbol has the hook with this number, which has this value at the terms
pub record HookAnswers (info : SymInfo) (row : ℕ) (ts : Forest) (v : DomainValue) : Type 0 where
  pub hooked : info.kind ≡ Hooked (record { 0 = row })
  pub arguments : List DomainValue
  pub are : AreValues ts arguments
  pub answers : hook_value row arguments ≡ Some (Ok v)

-- the symbol has the hook with this number, which has no value at the terms, for this reason
pub record HookFails (info : SymInfo) (row : ℕ) (ts : Forest) (why : NoValue) : Type 0 where
  pub hooked : info.kind ≡ Hooked (record { 0 = row })
  pub arguments : List DomainValue
  pub are : AreValues ts arguments
  pub fails : hook_value row arguments ≡ Some (Err why)
