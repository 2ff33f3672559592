-- What a declaration of another form does not declare.
use Rattle.std.proofs.Common.{◌≡◌, None, refl}
use Rattle.kore_ast.specs.Plain.{plain_declaration}
use Rattle.kore_ast.specs.declared.tree.Decl.{Decl}
use Rattle.kore_ast.specs.declared.tree.Decl.TheVariants as decl
use Rattle.kore_ast.specs.declared.tree.ImportDecl.{ImportDecl}
use Rattle.kore_ast.specs.declared.tree.SortDecl.{SortDecl}
use Rattle.kore_ast.specs.declared.tree.SymbolDecl.{SymbolDecl}
use Rattle.kore_ast.specs.declared.tree.AxiomDecl.{AxiomDecl}
use Rattle.kore_sig.specs.CountedModules.{import_name}
use Rattle.kore_sig.specs.Declarations.{sort_declared, symbol_declared, axiom_declared}

pub no_import : (d : Decl) → ((x : ImportDecl) → d ≡ decl.Import x → ⊥)
    → import_name (plain_declaration d) ≡ None
no_import (decl.Import x) none = absurd (none x refl)
no_import (decl.SortDecl x) none = refl
no_import (decl.SymbolDecl x) none = refl
no_import (decl.Alias x) none = refl
no_import (decl.Axiom x) none = refl
no_import (decl.Claim x) none = refl

pub no_sort : (d : Decl) → ((x : SortDecl) → d ≡ decl.SortDecl x → ⊥)
    → sort_declared (plain_declaration d) ≡ None
no_sort (decl.Import x) none = refl
no_sort (decl.SortDecl x) none = absurd (none x refl)
no_sort (decl.SymbolDecl x) none = refl
no_sort (decl.Alias x) none = refl
no_sort (decl.Axiom x) none = refl
no_sort (decl.Claim x) none = refl

pub no_symbol : (d : Decl) → ((x : SymbolDecl) → d ≡ decl.SymbolDecl x → ⊥)
    → symbol_declared (plain_declaration d) ≡ None
no_symbol (decl.Import x) none = refl
no_symbol (decl.SortDecl x) none = refl
no_symbol (decl.SymbolDecl x) none = absurd (none x refl)
no_symbol (decl.Alias x) none = refl
no_symbol (decl.Axiom x) none = refl
no_symbol (decl.Claim x) none = refl

pub no_axiom : (d : Decl) → ((x : AxiomDecl) → d ≡ decl.Axiom x → ⊥)
    → axiom_declared (plain_declaration d) ≡ None
no_axiom (decl.Import x) none = refl
no_axiom (decl.SortDecl x) none = refl
no_axiom (decl.SymbolDecl x) none = refl
no_axiom (decl.Alias x) none = refl
no_axiom (decl.Axiom x) none = absurd (none x refl)
no_axiom (decl.Claim x) none = refl
