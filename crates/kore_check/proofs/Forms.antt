-- The plain tree of a sort and of a pattern, by its form.
use Rattle.std.proofs.Common.{◌≡◌, ℕ, Bool, List, [], ◌∷◌, map, refl, ap, ◌∙◌, Vec, Global}
use Rattle.std.specs.Global.{Box}
use Rattle.kore_text.specs.declared.names.Op.{Op}
use Rattle.kore_text.specs.declared.names.Binder.{Binder}
use Rattle.kore_text.specs.Trees.{SortTree, sort_trees, listed_sorts, PatternTree, element_variable}
use Rattle.kore_text.specs.Trees.{set_variable, string, symbol_applied, connected, binder_applied}
use Rattle.kore_text.specs.Trees.{value_written, folded, pattern_trees}
use Rattle.kore_ast.specs.declared.tree.Sort.{Sort}
use Rattle.kore_ast.specs.declared.tree.Pat.{Pat}
use Rattle.kore_ast.specs.declared.tree.PatForm.{PatForm}
use Rattle.kore_ast.specs.declared.tree.PatForm.TheVariants as form
use Rattle.kore_ast.specs.Plain.{plain_sort, pattern_tree}
use Rattle.kore_ast.proofs.PlainLaws.{plain-pattern-Elem, plain-pattern-SetVar, plain-pattern-Text}
use Rattle.kore_ast.proofs.PlainLaws.{plain-pattern-App, plain-pattern-Built, plain-pattern-Bound}
use Rattle.kore_ast.proofs.PlainLaws.{plain-pattern-Value, plain-pattern-Fold}

pattern_is : (p : Pat) (f : PatForm) (t : PatternTree) → p.form ≡ f
    → pattern_tree (record { at = p.at; form = f }) ≡ t → pattern_tree p ≡ t
pattern_is p f t h e = ap (λ (f : PatForm). pattern_tree (record { at = p.at; form = f })) h ∙ e

pub variable_is : (p : Pat) (n : List ℕ) (s : Sort) → p.form ≡ form.Elem n s
    → pattern_tree p ≡ element_variable p.at n (plain_sort s)
variable_is p n s h =
    pattern_is p (form.Elem n s) (element_variable p.at n (plain_sort s)) h
    (plain-pattern-Elem p.at n s)

pub set_variable_is : (p : Pat) (n : List ℕ) (s : Sort) → p.form ≡ form.SetVar n s
    → pattern_tree p ≡ set_variable p.at n (plain_sort s)
set_variable_is p n s h =
    pattern_is p (form.SetVar n s) (set_variable p.at n (plain_sort s)) h
    (plain-pattern-SetVar p.at n s)

pub string_is : (p : Pat) (n : List ℕ) → p.form ≡ form.Text n → pattern_tree p ≡ string p.at n
string_is p n h = pattern_is p (form.Text n) (string p.at n) h (plain-pattern-Text p.at n)

pub application_is : (p : Pat) (n : List ℕ) (ss : Vec Sort Global) (ps : Vec Pat Global)
    → p.form ≡ form.App n ss ps
    → pattern_tree p
    ≡ symbol_applied p.at n (sort_trees (map plain_sort ss.items))
    (pattern_trees (map pattern_tree ps.items))
application_is p n ss ps h =
    pattern_is p (form.App n ss ps) (symbol_applied p.at n (sort_trees (map plain_sort ss.items))
    (pattern_trees (map pattern_tree ps.items))) h (plain-pattern-App p.at n ss ps)

pub connective_is : (p : Pat) (o : Op) (ss : Vec Sort Global) (ps : Vec Pat Global)
    → p.form ≡ form.Built o ss ps
    → pattern_tree p
    ≡ connected p.at o (sort_trees (map plain_sort ss.items))
    (pattern_trees (map pattern_tree ps.items))
connective_is p o ss ps h =
    pattern_is p (form.Built o ss ps) (connected p.at o (sort_trees (map plain_sort ss.items))
    (pattern_trees (map pattern_tree ps.items))) h (plain-pattern-Built p.at o ss ps)

pub binder_is : (p : Pat) (b : Binder) (ss : Vec Sort Global) (x body : Box Pat)
    → p.form ≡ form.Bound b ss x body
    → pattern_tree p
    ≡ binder_applied p.at b (sort_trees (map plain_sort ss.items)) (pattern_tree x.value)
    (pattern_tree body.value)
binder_is p b ss x body h =
    pattern_is p (form.Bound b ss x body)
    (binder_applied p.at b (sort_trees (map plain_sort ss.items))
    (pattern_tree x.value) (pattern_tree body.value)) h
    (plain-pattern-Bound p.at b ss x body)

pub value_is : (p : Pat) (s : Sort) (n : List ℕ) (q : ℕ) → p.form ≡ form.Value s n q
    → pattern_tree p ≡ value_written p.at (plain_sort s) n q
value_is p s n q h =
    pattern_is p (form.Value s n q) (value_written p.at (plain_sort s) n q) h
    (plain-pattern-Value p.at s n q)

pub fold_is : (p : Pat) (left : Bool) (inner : Box Pat) → p.form ≡ form.Fold left inner
    → pattern_tree p ≡ folded p.at left (pattern_tree inner.value)
fold_is p left inner h =
    pattern_is p (form.Fold left inner) (folded p.at left (pattern_tree inner.value)) h
    (plain-pattern-Fold p.at left inner)

pub listed_sorts-trees : (ss : List SortTree) → listed_sorts (sort_trees ss) ≡ ss
listed_sorts-trees [] = refl
listed_sorts-trees (s ∷ ss) = ap (λ (rest : List SortTree). s ∷ rest) (listed_sorts-trees ss)
