-- No bytes are both accepted and refused, and refused bytes have only one fault.
use Rattle.std.proofs.Common.{◌≡◌, [], Option, Some, None, subst, inl, inr}
use Rattle.kore_text.specs.Trees.{PatternTree, DefinitionTree}
use Rattle.rule_core.specs.declared.signature.Signature.{Signature}
use Rattle.kore_sig.specs.Declarations.{axioms_of}
use Rattle.kore_sig.specs.FirstFault.{Fault}
use Rattle.kore_sig.specs.SignatureFaults.{FirstOfSignature}
use Rattle.kore_sig.specs.SignatureLaws.{FirstIsOne, SignatureIsOne}
use Rattle.kore_sig.specs.Signatures.{IsSignatureOf}
use Rattle.kore_sig.proofs.UniqueLaws.{then_one}
use Rattle.kore_check.specs.Folds.{unfolded}
use Rattle.kore_check.specs.PatternMeanings.{Means}
use Rattle.kore_rules.specs.AcceptanceLaws.{DefinitionIsOne, PatternIsOne, DefinitionFaultIsOne}
use Rattle.kore_rules.specs.AcceptanceLaws.{TextFaultIsOne, TermTextFaultIsOne}
use Rattle.kore_rules.specs.AcceptanceLaws.{SpelledDefinitionIsFaultless, SpelledPatternIsFaultless}
use Rattle.kore_rules.specs.AcceptanceLaws.{AcceptedIsNotRefused, RefusalIsOne}
use Rattle.kore_rules.specs.AcceptanceLaws.{AcceptedTermIsNotRefused, TermRefusalIsOne, StartIsOne}
use Rattle.kore_rules.specs.FirstRefusal.{FirstOfAxioms, FirstOfTerm}
use Rattle.kore_rules.specs.Refused.{FirstOfDefinition}
use Rattle.kore_rules.proofs.AlikeSignatures.{axioms_alike}
use Rattle.kore_equations.proofs.OneMeaning.{means_one}
use Rattle.kore_rules.proofs.OneFault.{term_is_one, axioms_are_one}

-- the first fault of the axioms, by any signature that the declarations give
abbrev FirstBehind : DefinitionTree → Option Fault → Type 0
FirstBehind d r = (sig : Signature) × IsSignatureOf d sig × FirstOfAxioms sig (axioms_of d) r

behind_is_one : SignatureIsOne → (d : DefinitionTree) (q r : Option Fault) → FirstBehind d q
    → FirstBehind d r → q ≡ r
behind_is_one law d q r (s, is, first) (t, too, other) =
    axioms_are_one t (axioms_of d) q r (axioms_alike s t (law d s t is too) (axioms_of d) q first)
    other

pub definition_fault_is_one : FirstIsOne → SignatureIsOne → DefinitionFaultIsOne
definition_fault_is_one first one d q r a b =
    then_one (FirstOfSignature d) (FirstBehind d) (first d) (behind_is_one one d) q r a b

none_or_some : (f : Fault) → None ≡ Some f → ⊥
none_or_some f h = cc

faults_same : (f g : Fault) → Some f ≡ Some g → f ≡ g
faults_same f g h = cc

pub accepted_not_refused : DefinitionIsOne → DefinitionFaultIsOne → SpelledDefinitionIsFaultless
    → AcceptedIsNotRefused
accepted_not_refused one first spelled bytes theory top f a (inl h) =
    spelled bytes a.definition f a.spelled h
accepted_not_refused one first spelled bytes theory top f a (inr h) =
    let same : h.0 ≡ a.definition = one bytes h.0 a.definition h.1 a.spelled in
    none_or_some f
    (first a.definition None (Some f) (a.no_fault, (a.declared, a.signature, a.no_axiom_fault))
    (subst (λ (d : DefinitionTree). FirstOfDefinition d (Some f)) same h.2))

pub refusal_is_one : DefinitionIsOne → DefinitionFaultIsOne → SpelledDefinitionIsFaultless
    → TextFaultIsOne → RefusalIsOne
refusal_is_one one first spelled text bytes f g (inl h) (inl k) = text bytes f g h k
refusal_is_one one first spelled text bytes f g (inl h) (inr k) = absurd (spelled bytes k.0 f k.1 h)
refusal_is_one one first spelled text bytes f g (inr h) (inl k) = absurd (spelled bytes h.0 g h.1 k)
refusal_is_one one first spelled text bytes f g (inr h) (inr k) =
    let same : k.0 ≡ h.0 = one bytes k.0 h.0 k.1 h.1 in
    faults_same f g (first h.0 (Some f) (Some g) h.2
    (subst (λ (d : DefinitionTree). FirstOfDefinition d (Some g)) same k.2))

pub accepted_term_not_refused : PatternIsOne → SpelledPatternIsFaultless → AcceptedTermIsNotRefused
accepted_term_not_refused one spelled sig top bytes start f a (inl h) =
    spelled bytes a.term f a.spelled h
accepted_term_not_refused one spelled sig top bytes start f a (inr h) =
    let same : h.0 ≡ a.term = one bytes h.0 a.term h.1 a.spelled in
    none_or_some f (term_is_one sig top a.term None (Some f) a.no_fault
    (subst (λ (p : PatternTree). FirstOfTerm sig top p (Some f)) same h.2))

pub term_refusal_is_one : PatternIsOne → SpelledPatternIsFaultless → TermTextFaultIsOne
    → TermRefusalIsOne
term_refusal_is_one one spelled text sig top bytes f g (inl h) (inl k) = text bytes f g h k
term_refusal_is_one one spelled text sig top bytes f g (inl h) (inr k) =
    absurd (spelled bytes k.0 f k.1 h)
term_refusal_is_one one spelled text sig top bytes f g (inr h) (inl k) =
    absurd (spelled bytes h.0 g h.1 k)
term_refusal_is_one one spelled text sig top bytes f g (inr h) (inr k) =
    let same : k.0 ≡ h.0 = one bytes k.0 h.0 k.1 h.1 in
    faults_same f g (term_is_one sig top h.0 (Some f) (Some g) h.2
    (subst (λ (p : PatternTree). FirstOfTerm sig top p (Some g)) same k.2))

pub start_is_one : PatternIsOne → StartIsOne
start_is_one one sig top bytes p q a b =
    let same : b.term ≡ a.term = one bytes b.term a.term b.spelled a.spelled in
    means_one sig [] a.means (subst (λ (t : PatternTree). Means sig [] (unfolded t) q) same b.means)
