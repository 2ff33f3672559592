-- A definition has one first fault at most, and one signature at most: two signatures of the same
-- declarations agree.
use Rattle.std.specs.Prelude.{◌≡◌, ℕ, List, Option, option_map, string_bytes}
use Rattle.std.specs.List.{AllZip}
use Rattle.kore_text.specs.Trees.{DefinitionTree}
use Rattle.rule_core.specs.declared.signature.Signature.{Signature}
use Rattle.rule_core.specs.declared.signature.SymInfo.{SymInfo}
use Rattle.kore_sig.specs.FirstFault.{Fault}
use Rattle.kore_sig.specs.SignatureFaults.{FirstOfSignature}
use Rattle.kore_sig.specs.Signatures.{IsSignatureOf}

abbrev pub FirstIsOne : Type 0
FirstIsOne =
    (definition : DefinitionTree) (q r : Option Fault) → FirstOfSignature definition q
    → FirstOfSignature definition r →
    q ≡ r

-- two entries are the same symbol
pub record IsSameSymbol (e f : List ℕ × SymInfo) : Type 0 where
  pub name : e.0 ≡ f.0
  pub kind : e.1.kind ≡ f.1.kind
  pub params : e.1.params ≡ f.1.params
  pub args : e.1.args.items ≡ f.1.args.items
  pub result : e.1.result ≡ f.1.result
  pub hook : option_map string_bytes e.1.hook ≡ option_map string_bytes f.1.hook
  pub ac : e.1.ac ≡ f.1.ac

pub record AreSameSignature (s t : Signature) : Type 0 where
  pub sorts : s.sorts ≡ t.sorts
  pub symbols : AllZip IsSameSymbol s.symbols t.symbols
  pub subsorts : s.subsorts ≡ t.subsorts

abbrev pub SignatureIsOne : Type 0
SignatureIsOne =
    (definition : DefinitionTree) (s t : Signature) → IsSignatureOf definition s
    → IsSignatureOf definition t →
    AreSameSignature s t
