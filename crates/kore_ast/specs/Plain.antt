-- The tree of a value of the program's types. It says nothing of memory.
use Rattle.std.specs.Prelude.{ℕ, map}
use Rattle.kore_text.specs.Trees.{SortTree, sort_parameter, sort_applied, sort_trees, PatternTree}
use Rattle.kore_text.specs.Trees.{element_variable, set_variable, string, symbol_applied, connected}
use Rattle.kore_text.specs.Trees.{binder_applied, value_written, folded, pattern_trees}
use Rattle.kore_text.specs.Trees.{ImportDeclaration, SortDeclaration, SymbolDeclaration}
use Rattle.kore_text.specs.Trees.{AliasDeclaration, AxiomDeclaration, Declaration}
use Rattle.kore_text.specs.Trees.{import_declaration, sort_declaration, symbol_declaration}
use Rattle.kore_text.specs.Trees.{alias_declaration, axiom_declaration, claim_declaration}
use Rattle.kore_text.specs.Trees.{ModuleTree, DefinitionTree}
use Rattle.kore_ast.specs.declared.tree.Sort.{Sort}
use Rattle.kore_ast.specs.declared.tree.SortForm.TheOpen.{SortForm-F, Sort-F}
use Rattle.kore_ast.specs.declared.tree.SortForm.TheOpen as sort_layer
use Rattle.kore_ast.specs.declared.tree.SortForm.TheFolds.{fold-Sort}
use Rattle.kore_ast.specs.declared.tree.Pat.{Pat}
use Rattle.kore_ast.specs.declared.tree.PatForm.TheOpen.{PatForm-F, Pat-F}
use Rattle.kore_ast.specs.declared.tree.PatForm.TheOpen as pattern_layer
use Rattle.kore_ast.specs.declared.tree.PatForm.TheFolds.{fold-Pat}
use Rattle.kore_ast.specs.declared.tree.ImportDecl.{ImportDecl}
use Rattle.kore_ast.specs.declared.tree.SortDecl.{SortDecl}
use Rattle.kore_ast.specs.declared.tree.SymbolDecl.{SymbolDecl}
use Rattle.kore_ast.specs.declared.tree.AliasDecl.{AliasDecl}
use Rattle.kore_ast.specs.declared.tree.AxiomDecl.{AxiomDecl}
use Rattle.kore_ast.specs.declared.tree.Decl.{Decl}
use Rattle.kore_ast.specs.declared.tree.Decl.TheVariants as decl
use Rattle.kore_ast.specs.declared.tree.Module.{Module}
use Rattle.kore_ast.specs.declared.tree.Definition.{Definition}

-- the tree of a form whose first token is at byte `at`
abbrev pub sort_form_step : SortForm-F (ℕ → SortTree) SortTree → ℕ → SortTree
sort_form_step (sort_layer.Param n) at = sort_parameter at n
sort_form_step (sort_layer.App n ss) at = sort_applied at n (sort_trees ss.items)

abbrev pub sort_step : Sort-F (ℕ → SortTree) SortTree → SortTree
sort_step s = s.form s.at

-- the tree of a sort
abbrev pub plain_sort : Sort → SortTree
plain_sort = fold-Sort (ℕ → SortTree) SortTree sort_form_step sort_step

abbrev pub pattern_form_step : PatForm-F (ℕ → PatternTree) PatternTree → ℕ → PatternTree
pattern_form_step (pattern_layer.Elem n s) at = element_variable at n (plain_sort s)
pattern_form_step (pattern_layer.SetVar n s) at = set_variable at n (plain_sort s)
pattern_form_step (pattern_layer.Text t) at = string at t
pattern_form_step (pattern_layer.App n ss ps) at =
    symbol_applied at n (sort_trees (map plain_sort ss.items)) (pattern_trees ps.items)
pattern_form_step (pattern_layer.Built op ss ps) at =
    connected at op (sort_trees (map plain_sort ss.items)) (pattern_trees ps.items)
pattern_form_step (pattern_layer.Bound b ss x p) at =
    binder_applied at b (sort_trees (map plain_sort ss.items)) x.value p.value
pattern_form_step (pattern_layer.Value s t place) at = value_written at (plain_sort s) t place
pattern_form_step (pattern_layer.Fold left p) at = folded at left p.value

abbrev pub pattern_step : Pat-F (ℕ → PatternTree) PatternTree → PatternTree
pattern_step p = p.form p.at

-- the tree of a pattern
abbrev pub pattern_tree : Pat → PatternTree
pattern_tree = fold-Pat (ℕ → PatternTree) PatternTree pattern_form_step pattern_step

abbrev pub plain_import : ImportDecl → ImportDeclaration
plain_import d = record { at = d.at; name = d.name; attributes = map pattern_tree d.attrs.items }

abbrev pub plain_sort_decl : SortDecl → SortDeclaration
plain_sort_decl d = record {
  at = d.at;
  hooked = d.hooked;
  name = d.name;
  params = d.params.items;
  attributes = map pattern_tree d.attrs.items;
}

abbrev pub plain_symbol_decl : SymbolDecl → SymbolDeclaration
plain_symbol_decl d = record {
  at = d.at;
  hooked = d.hooked;
  name = d.name;
  params = d.params.items;
  args = map plain_sort d.args.items;
  result = plain_sort d.result;
  attributes = map pattern_tree d.attrs.items;
}

abbrev pub plain_alias_decl : AliasDecl → AliasDeclaration
plain_alias_decl d = record {
  at = d.at;
  hooked = d.hooked;
  name = d.name;
  params = d.params.items;
  args = map plain_sort d.args.items;
  result = plain_sort d.result;
  left_name = d.left_name;
  left_sorts = map plain_sort d.left_sorts.items;
  vars = map pattern_tree d.vars.items;
  body = pattern_tree d.body;
  attributes = map pattern_tree d.attrs.items;
}

abbrev pub plain_axiom_decl : AxiomDecl → AxiomDeclaration
plain_axiom_decl d = record {
  at = d.at;
  params = d.params.items;
  pattern = pattern_tree d.pat;
  attributes = map pattern_tree d.attrs.items;
}

-- the tree of a declaration
abbrev pub plain_declaration : Decl → Declaration
plain_declaration (decl.Import d) = import_declaration (plain_import d)
plain_declaration (decl.SortDecl d) = sort_declaration (plain_sort_decl d)
plain_declaration (decl.SymbolDecl d) = symbol_declaration (plain_symbol_decl d)
plain_declaration (decl.Alias d) = alias_declaration (plain_alias_decl d)
plain_declaration (decl.Axiom d) = axiom_declaration (plain_axiom_decl d)
plain_declaration (decl.Claim d) = claim_declaration (plain_axiom_decl d)

-- the tree of a module
abbrev pub plain_module : Module → ModuleTree
plain_module m = record {
  at = m.at;
  name = m.name;
  declarations = map plain_declaration m.decls.items;
  attributes = map pattern_tree m.attrs.items;
}

-- the tree of a definition
abbrev pub plain_definition : Definition → DefinitionTree
plain_definition d = record {
  attributes = map pattern_tree d.attrs.items;
  modules = map plain_module d.modules.items;
}
