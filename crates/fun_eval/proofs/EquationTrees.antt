-- The matching trees of the symbols, one by one.
use Rattle.std.proofs.Common.{◌≡◌, ℕ, zero, suc, ◌+◌, List, [], ◌∷◌, ◌++◌, length, Some, sym}
use Rattle.std.proofs.Common.{subst, arith}
use Rattle.std.specs.Prelude.{slice_get}
use Rattle.std.proofs.lemmas.List.{length-append}
use Rattle.rule_core.specs.Theories.{RewriteTheory}
use Rattle.match_tree.specs.Programs.{IsEquationTree}
use Rattle.match_tree.specs.declared.compiling.Tree.{Tree}
use Rattle.fun_eval.specs.EquationTrees.{AreTreesOf}

-- the trees of the first symbols
pub record AreFirstTrees (theory : RewriteTheory) (i : ℕ) (trees : List Tree) : Type 0 where
  pub count : length trees ≡ i
  pub each : AreTreesOf theory trees

pub none_of : (theory : RewriteTheory) (trees : List Tree) → trees ≡ []
    → AreFirstTrees theory 0 trees
none_of theory trees is =
    let P : List Tree → Type 0 = AreFirstTrees theory 0 in
    subst P (sym is) (record {
      count = omega arith;
      each = λ f t there. absurd (let no : ⊥ = cc in no);
    })

-- an item of a list with one more at its end
at_end : (trees : List Tree) (last : Tree) (P : ℕ → Tree → Type 0)
    → ((f : ℕ) (t : Tree) → slice_get trees f ≡ Some t → P f t) → P (length trees) last
    → (f : ℕ) (t : Tree) → slice_get (trees ++ last ∷ []) f ≡ Some t → P f t
at_end [] last P each at zero t there =
    let same : last ≡ t = cc in subst (P 0) same at
at_end [] last P each at (suc f) t there = absurd (let no : ⊥ = cc in no)
at_end (u ∷ trees) last P each at zero t there = each 0 t there
at_end (u ∷ trees) last P each at (suc f) t there =
    at_end trees last (λ (k : ℕ) (v : Tree). P (suc k) v)
    (λ k v found. each (suc k) v found) at f t there

pub one_more : (theory : RewriteTheory) (i : ℕ) (trees more : List Tree) (last : Tree)
    → AreFirstTrees theory i trees → more ≡ trees ++ last ∷ [] → IsEquationTree theory i last
    → AreFirstTrees theory (i + 1) more
one_more theory i trees more last first is tree =
    let P : List Tree → Type 0 = AreFirstTrees theory (i + 1) in
    let E : ℕ → Type 0 = λ k. IsEquationTree theory k last in
    let many : length (trees ++ last ∷ []) ≡ length trees + 1 =
    length-append trees (last ∷ []) in
    subst P (sym is) (record {
      count = omega (arith, many, first.count);
      each = at_end trees last (IsEquationTree theory) first.each
          (subst E (sym first.count) tree);
    })
