-- The definition of a drill is accepted.
use Rattle.std.proofs.Common.{◌≡◌, ◌<◌, ◌≤◌, ◌+◌, ◌^◌, ℕ, List, Some, None, sym, subst, arith, inl}
use Rattle.std.proofs.Common.{inr}
use Rattle.kore_text.specs.Trees.{AxiomDeclaration, Declaration, DefinitionTree}
use Rattle.kore_ast.specs.KoreText.{ReadsDefinition}
use Rattle.rule_core.specs.declared.signature.Signature.{Signature}
use Rattle.kore_sig.specs.Declarations.{axioms_of}
use Rattle.kore_sig.specs.FirstFault.{Fault}
use Rattle.kore_sig.specs.SignatureLaws.{FirstIsOne}
use Rattle.kore_sig.specs.Signatures.{IsSignatureOf}
use Rattle.kore_rules.specs.AcceptanceLaws.{EachTextIsDecided, DefinitionIsOne, AxiomFaultIsOne}
use Rattle.kore_rules.specs.AcceptanceLaws.{SpelledDefinitionIsFaultless}
use Rattle.kore_rules.specs.FirstRefusal.{FirstOfAxioms}
use Rattle.kore_rules.specs.Refused.{FirstOfDefinition}
use Rattle.drill_gen.specs.Drill.{drill_definition}
use Rattle.drill_gen.specs.DrillLaws.{DrillIsShort}
use Rattle.drill_accepted.specs.DrillAcceptance.{DrillIsAccepted, DrillIsNotRefused}
use Rattle.drill_accepted.proofs.DrillDeclared.{Layout, declarations, tree_with, axioms-are}
use Rattle.drill_accepted.proofs.DrillDeclared.{laid-out}
use Rattle.drill_accepted.proofs.DrillSymbols.{drill-states, drill-functions}
use Rattle.drill_accepted.proofs.NoDeclarationFault.{no-declaration-fault}
use Rattle.drill_accepted.proofs.NoRuleFault.{no-rule-fault}
use Rattle.drill_accepted.proofs.Spelled.{declared_place, definition-spelled}

-- the definition of a drill spells the tree of some layout
pub record IsSpelled (n : ℕ) : Type 0 where
  pub first : Layout
  pub steps : Layout
  pub rules : Layout
  pub spelled : ReadsDefinition (drill_definition n)
      (tree_with (declarations first steps rules (n + 1) n))

abbrev pub spelled_tree : (n : ℕ) → IsSpelled n → DefinitionTree
spelled_tree n is = tree_with (declarations is.first is.steps is.rules (n + 1) n)

pub drill-spelled : (n : ℕ) → n ≤ 1000 → IsSpelled n
drill-spelled n few =
    let out = laid-out declared_place n in record {
      first = out.first;
      steps = out.steps;
      rules = out.rules;
      spelled = subst (λ (ds : List Declaration). ReadsDefinition (drill_definition n)
          (tree_with ds)) out.same
          (definition-spelled n (omega (arith, few)));
    }

-- its axioms have no fault, by whatever signature its declarations give
axioms-clear : (p q r : Layout) (n : ℕ) (sig : Signature) → n ≤ 1000
    → IsSignatureOf (tree_with (declarations p q r (n + 1) n)) sig
    → FirstOfAxioms sig (axioms_of (tree_with (declarations p q r (n + 1) n))) None
axioms-clear p q r n sig few is =
    let small : n + 1 < 2 ^ 64 = omega (arith, few) in
    subst (λ (axioms : List AxiomDeclaration). FirstOfAxioms sig axioms None)
    (sym (axioms-are p q r (n + 1) n))
    (no-rule-fault (n + 1) n r sig (drill-states p q r (n + 1) n sig small is)
    (drill-functions p q r (n + 1) n sig small is)
    (omega arith) (omega (arith, few)))

none-or-some : (f : Fault) → None ≡ Some f → ⊥
none-or-some f h = cc

-- the tree has no fault
faultless : FirstIsOne → AxiomFaultIsOne → (p q r : Layout) (n : ℕ) (f : Fault) → n ≤ 1000
    → FirstOfDefinition (tree_with (declarations p q r (n + 1) n)) (Some f) → ⊥
faultless one axioms p q r n f few (inl declared) =
    none-or-some f (one (tree_with (declarations p q r (n + 1) n)) None (Some f)
    (no-declaration-fault p q r (n + 1) n (omega (arith, few))) declared)
faultless one axioms p q r n f few (inr (clear, (sig, is, first))) =
    none-or-some f (axioms sig (axioms_of (tree_with (declarations p q r (n + 1) n))) None (Some f)
    (axioms-clear p q r n sig few is) first)

pub definition-unrefused : FirstIsOne → AxiomFaultIsOne → DefinitionIsOne
    → SpelledDefinitionIsFaultless
    → DrillIsNotRefused
definition-unrefused one axioms tree spelled n f few (inl h) =
    let is = drill-spelled n few in
    spelled (drill_definition n) (spelled_tree n is) f is.spelled h
definition-unrefused one axioms tree spelled n f few (inr (d, reads, first)) =
    let is = drill-spelled n few in
    let same : d ≡ spelled_tree n is =
    tree (drill_definition n) d (spelled_tree n is) reads is.spelled in
    faultless one axioms is.first is.steps is.rules n f few
    (subst (λ (t : DefinitionTree). FirstOfDefinition t (Some f)) same first)

pub definition-accepted : DrillIsNotRefused → EachTextIsDecided → DrillIsShort → DrillIsAccepted
definition-accepted unrefused decided short n few =
    elim (decided (drill_definition n) (omega (arith, (short n few).definition))) [
      | inl accepted ↦ (accepted.0, accepted.1.0, accepted.1.1)
      | inr refused ↦ absurd (unrefused n refused.0 few refused.1)
    ]
