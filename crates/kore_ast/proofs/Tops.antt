-- The whole text.
use Rattle.std.proofs.Common.{◌≡◌, ℕ, Bool, false, List, [], Some, None, sym, subst}
use Rattle.kore_text.specs.TokenStream.{Stream, end, token_stream}
use Rattle.kore_text.specs.Trees.{PatternTree, DefinitionTree}
use Rattle.kore_text.specs.Grammar.{TakesTokens, spell_pattern, spell_definition}
use Rattle.kore_text.specs.Faults.{IsFirstFaultOfText, IsPattern, IsDefinition}
use Rattle.kore_text.specs.declared.faults.TextFault.{TextFault}
use Rattle.kore_text.specs.declared.faults.TextFault.TheVariants as text_fault
use Rattle.kore_ast.specs.KoreText.{ReadsPattern, ReadsDefinition}
use Rattle.kore_ast.specs.TextFaults.{IsFault}
use Rattle.kore_ast.specs.Told.{told}
use Rattle.kore_ast.specs.Reading.{Has, Reads}

pub pattern-only : (bytes : List ℕ) (s r : Stream) (p : PatternTree) → s ≡ token_stream bytes
    → ((b : Bool) → Reads (spell_pattern b) p s r) → (t : PatternTree) → ReadsPattern bytes t
    → t ≡ p
pattern-only bytes s r p e h t g =
    ((h false).exact t [] (end g.1.0) tt (record {
      takes =
          subst (λ u. TakesTokens (spell_pattern false t []) u (end g.1.0)) (sym e) g.1.1;
    })).0

pub pattern-found : (bytes : List ℕ) (s r : Stream) (p : PatternTree) → s ≡ token_stream bytes
    → ((b : Bool) → Reads (spell_pattern b) p s r)
    → IsFirstFaultOfText IsPattern 0 (token_stream bytes) None
    → ReadsPattern bytes p
pattern-found bytes s r p e h f =
    let g : ReadsPattern bytes f.0.0 = (f.1, (f.0.1, f.0.2)) in
    subst (ReadsPattern bytes) (pattern-only bytes s r p e h f.0.0 g) g

pub told-fault : (L : Stream → Type 0) (bytes : List ℕ) (f : TextFault)
    → IsFirstFaultOfText L 0 (token_stream bytes) (Some f) → IsFault L bytes (told f)
told-fault L bytes (text_fault.Lex at) h = h
told-fault L bytes (text_fault.Syntax at) h = h
told-fault L bytes (text_fault.Deep at) h = h

pub definition-only : (bytes : List ℕ) (s : Stream) (d : DefinitionTree) → s ≡ token_stream bytes
    → ((t : DefinitionTree) (e : ℕ) → Has (spell_definition t []) s (end e) → t ≡ d)
    → (t : DefinitionTree) → ReadsDefinition bytes t → t ≡ d
definition-only bytes s d e h t g =
    h t g.1.0 (record {
      takes =
          subst (λ u. TakesTokens (spell_definition t []) u (end g.1.0)) (sym e) g.1.1;
    })

pub definition-found : (bytes : List ℕ) (s : Stream) (d : DefinitionTree) → s ≡ token_stream bytes
    → ((t : DefinitionTree) (e : ℕ) → Has (spell_definition t []) s (end e) → t ≡ d)
    → IsFirstFaultOfText IsDefinition 0 (token_stream bytes) None → ReadsDefinition bytes d
definition-found bytes s d e h f =
    let g : ReadsDefinition bytes f.0.0 = (f.1, (f.0.1, f.0.2)) in
    subst (ReadsDefinition bytes) (definition-only bytes s d e h f.0.0 g) g
