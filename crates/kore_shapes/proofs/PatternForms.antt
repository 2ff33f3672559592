-- The tree of a pattern whose form is known.
use Rattle.std.proofs.Common.{◌≡◌, ℕ, List, map, ap, ◌∙◌, Vec, Global}
use Rattle.kore_text.specs.declared.names.Op.{Op}
use Rattle.kore_text.specs.Trees.{PatternTree, symbol_applied, connected, sort_trees, pattern_trees}
use Rattle.kore_ast.specs.declared.tree.Sort.{Sort}
use Rattle.kore_ast.specs.declared.tree.Pat.{Pat}
use Rattle.kore_ast.specs.declared.tree.PatForm.{PatForm}
use Rattle.kore_ast.specs.declared.tree.PatForm.TheVariants as form
use Rattle.kore_ast.specs.Plain.{plain_sort, pattern_tree}
use Rattle.kore_ast.proofs.PlainLaws.{plain-pattern-App, plain-pattern-Built}

pattern_is : (p : Pat) (f : PatForm) (t : PatternTree) → p.form ≡ f
    → pattern_tree (record { at = p.at; form = f }) ≡ t → pattern_tree p ≡ t
pattern_is p f t h e = ap (λ (f : PatForm). pattern_tree (record { at = p.at; form = f })) h ∙ e

pub application_is : (p : Pat) (n : List ℕ) (ss : Vec Sort Global) (ps : Vec Pat Global)
    → p.form ≡ form.App n ss ps
    → pattern_tree p
    ≡ symbol_applied p.at n (sort_trees (map plain_sort ss.items))
    (pattern_trees (map pattern_tree ps.items))
application_is p n ss ps h =
    pattern_is p (form.App n ss ps) (symbol_applied p.at n (sort_trees (map plain_sort ss.items))
    (pattern_trees (map pattern_tree ps.items))) h (plain-pattern-App p.at n ss ps)

pub connective_is : (p : Pat) (o : Op) (ss : Vec Sort Global) (ps : Vec Pat Global)
    → p.form ≡ form.Built o ss ps
    → pattern_tree p
    ≡ connected p.at o (sort_trees (map plain_sort ss.items))
    (pattern_trees (map pattern_tree ps.items))
connective_is p o ss ps h =
    pattern_is p (form.Built o ss ps) (connected p.at o (sort_trees (map plain_sort ss.items))
    (pattern_trees (map pattern_tree ps.items))) h (plain-pattern-Built p.at o ss ps)
