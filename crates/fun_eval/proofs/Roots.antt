-- Scalars among terms.
use Rattle.std.proofs.Common.{◌≡◌, ℕ, suc, zero, ◌<◌, ◌≤◌, List, [], ◌∷◌, length, map, get_or}
use Rattle.std.proofs.Common.{Option, Some, None, refl, sym, ◌∙◌, ap, subst, arith}
use Rattle.std.specs.Prelude.{slice_get, option_map}
use Rattle.term_core.specs.Terms.{integer, truth, Tree, leaf, node, inj, more_trees}
use Rattle.term_core.specs.Forests.{forest}
use Rattle.term_core.specs.HookValues.{Hook, Kind, Operation, on_integer, on_integers, compares}
use Rattle.term_core.specs.HookValues.{on_truth, on_truths, argument_kinds, hooks}
use Rattle.term_core.specs.HookSignatures.{hook_arguments}
use Rattle.term_core.specs.Values.{scalar_value}
use Rattle.term_core.specs.declared.values.Scalar.{Scalar}
use Rattle.term_core.specs.declared.values.Scalar.TheVariants as scalar
use Rattle.hook_table.specs.Scalars.{kind_of}
use Rattle.rule_core.specs.HookCalls.{AreValues}
use Rattle.fun_eval.specs.Roots.{IsScalar, AreHookArguments}

same_kind : (v w : Scalar) → scalar_value v ≡ scalar_value w → kind_of v ≡ kind_of w
same_kind (scalar.Int x) (scalar.Int y) e = refl
same_kind (scalar.Bool x) (scalar.Bool y) e = refl
same_kind (scalar.Int x) (scalar.Bool y) e =
    let k : integer x ≡ truth y = e in let no : ⊥ = cc in absurd no
same_kind (scalar.Bool x) (scalar.Int y) e =
    let k : truth x ≡ integer y = e in let no : ⊥ = cc in absurd no

pub scalar_item : (terms : List Tree) (ss : List Scalar) (i : ℕ) (t : Tree)
    → AreValues (forest terms) (map scalar_value ss) → t ≡ get_or terms i t → i < length terms
    → IsScalar t
scalar_item [] ss i t are e lt = absurd (omega arith)
scalar_item (leaf s v ∷ terms) [] i t are e lt =
    let k : [] ≡ v ∷ are.0 = are.1 in let no : ⊥ = cc in absurd no
scalar_item (leaf s v ∷ terms) (x ∷ ss) zero t are e lt =
    let k : scalar_value x ∷ map scalar_value ss ≡ v ∷ are.0 = are.1 in
    let same : v ≡ scalar_value x = cc in (s, x, e ∙ ap (leaf s) same)
scalar_item (leaf s v ∷ terms) (x ∷ ss) (suc i) t are e lt =
    let k : scalar_value x ∷ map scalar_value ss ≡ v ∷ are.0 = are.1 in
    let same : are.0 ≡ map scalar_value ss = cc in
    scalar_item terms ss i t (subst (AreValues (forest terms)) same are.2) e (omega arith)
scalar_item (node f ts ∷ terms) ss i t are e lt = absurd are
scalar_item (inj a b u ∷ terms) ss i t are e lt = absurd are

-- the terms are these scalars
abbrev pub AreScalars : List Tree → List Scalar → Type 0
AreScalars [] rs = rs ≡ []
AreScalars (t ∷ terms) [] = ⊥
AreScalars (t ∷ terms) (r ∷ rs) =
    ((sort : ℕ) × (t ≡ leaf sort (scalar_value r))) × AreScalars terms rs

pub same_kinds : (terms : List Tree) (ss rs : List Scalar)
    → AreValues (forest terms) (map scalar_value ss) → AreScalars terms rs
    → map kind_of ss ≡ map kind_of rs
same_kinds [] [] rs are is = sym (ap (map kind_of) is)
same_kinds [] (x ∷ ss) rs are is =
    let k : scalar_value x ∷ map scalar_value ss ≡ [] = are in let no : ⊥ = cc in absurd no
same_kinds (t ∷ terms) ss [] are is = absurd is
same_kinds (leaf s v ∷ terms) [] (r ∷ rs) are is =
    let k : [] ≡ v ∷ are.0 = are.1 in let no : ⊥ = cc in absurd no
same_kinds (leaf s v ∷ terms) (x ∷ ss) (r ∷ rs) are is =
    let k : scalar_value x ∷ map scalar_value ss ≡ v ∷ are.0 = are.1 in
    let rest : are.0 ≡ map scalar_value ss = cc in
    let first : leaf s v ≡ leaf is.0.0 (scalar_value r) = is.0.1 in
    let same : scalar_value x ≡ scalar_value r = cc in
    ap (λ q. q ∷ map kind_of ss) (same_kind x r same)
    ∙ ap (λ qs. kind_of r ∷ qs)
    (same_kinds terms ss rs (subst (AreValues (forest terms)) rest are.2) is.1)
same_kinds (node f ts ∷ terms) ss (r ∷ rs) are is = absurd are
same_kinds (inj a b u ∷ terms) ss (r ∷ rs) are is = absurd are

pub scalars_are : (terms : List Tree) (rs : List Scalar) → AreScalars terms rs
    → AreValues (forest terms) (map scalar_value rs)
scalars_are [] rs is = ap (map scalar_value) is
scalars_are (t ∷ terms) [] is = absurd is
scalars_are (t ∷ terms) (r ∷ rs) is =
    let P : Tree → Type 0 =
    λ u. AreValues (more_trees u (forest terms)) (map scalar_value (r ∷ rs)) in
    subst P (sym is.0.1) (map scalar_value rs, refl, scalars_are terms rs is.1)

one_item : (xs : List Tree) (x : Tree) → length xs ≡ 1 → x ≡ get_or xs 0 x → xs ≡ x ∷ []
one_item [] x len e = absurd (omega (arith, len))
one_item (y ∷ []) x len e = ap (λ z. z ∷ []) (sym e)
one_item (y ∷ (z ∷ xs)) x len e = absurd (omega (arith, len))

two_items : (xs : List Tree) (x y : Tree) → length xs ≡ 2 → x ≡ get_or xs 0 x → y ≡ get_or xs 1 y
    → xs ≡ x ∷ (y ∷ [])
two_items [] x y len e f = absurd (omega (arith, len))
two_items (v ∷ []) x y len e f = absurd (omega (arith, len))
two_items (v ∷ (w ∷ [])) x y len e f =
    ap (λ z. z ∷ (w ∷ [])) (sym e) ∙ ap (λ z. x ∷ (z ∷ [])) (sym f)
two_items (v ∷ (w ∷ (z ∷ xs))) x y len e f = absurd (omega (arith, len))

pub one_scalar : (terms : List Tree) (t : Tree) (r : Scalar) → length terms ≡ 1
    → t ≡ get_or terms 0 t → (sort : ℕ) × (t ≡ leaf sort (scalar_value r))
    → AreScalars terms (r ∷ [])
one_scalar terms t r len e is =
    subst (λ ts. AreScalars ts (r ∷ [])) (sym (one_item terms t len e)) (is, refl)

pub two_scalars : (terms : List Tree) (t u : Tree) (r s : Scalar) → length terms ≡ 2
    → t ≡ get_or terms 0 t → u ≡ get_or terms 1 u → (sort : ℕ) × (t ≡ leaf sort (scalar_value r))
    → (sort : ℕ) × (u ≡ leaf sort (scalar_value s)) → AreScalars terms (r ∷ (s ∷ []))
two_scalars terms t u r s len e f is js =
    subst (λ ts. AreScalars ts (r ∷ (s ∷ []))) (sym (two_items terms t u len e f)) (is, (js, refl))

pub hook_kinds : (row : ℕ) (terms : List Tree) (rs : List Scalar)
    → AreHookArguments row (forest terms) → AreScalars terms rs
    → hook_arguments row ≡ Some (map kind_of rs)
hook_kinds row terms rs h is = h.2 ∙ ap Some (same_kinds terms h.0 rs h.1 is)

-- a hook has one or two arguments
few_kinds : (op : Operation) → (1 ≤ length (argument_kinds op)) × (length (argument_kinds op) ≤ 2)
few_kinds (on_integer f) = (omega arith, omega arith)
few_kinds (on_integers f) = (omega arith, omega arith)
few_kinds (compares f) = (omega arith, omega arith)
few_kinds (on_truth f) = (omega arith, omega arith)
few_kinds (on_truths f) = (omega arith, omega arith)

few_arguments : (o : Option Hook) (ks : List Kind)
    → option_map (λ (h : Hook). argument_kinds h.operation) o ≡ Some ks
    → (1 ≤ length ks) × (length ks ≤ 2)
few_arguments None ks e = let k : None ≡ Some ks = e in let no : ⊥ = cc in absurd no
few_arguments (Some h) ks e =
    let k : Some (argument_kinds h.operation) ≡ Some ks = e in
    let same : argument_kinds h.operation ≡ ks = cc in
    subst (λ js. (1 ≤ length js) × (length js ≤ 2)) same (few_kinds h.operation)

same_length : (terms : List Tree) (ss : List Scalar)
    → AreValues (forest terms) (map scalar_value ss) → length terms ≡ length (map kind_of ss)
same_length [] [] are = refl
same_length [] (x ∷ ss) are =
    let k : scalar_value x ∷ map scalar_value ss ≡ [] = are in let no : ⊥ = cc in absurd no
same_length (leaf s v ∷ terms) [] are =
    let k : [] ≡ v ∷ are.0 = are.1 in let no : ⊥ = cc in absurd no
same_length (leaf s v ∷ terms) (x ∷ ss) are =
    let k : scalar_value x ∷ map scalar_value ss ≡ v ∷ are.0 = are.1 in
    let rest : are.0 ≡ map scalar_value ss = cc in
    ap suc (same_length terms ss (subst (AreValues (forest terms)) rest are.2))
same_length (node f ts ∷ terms) ss are = absurd are
same_length (inj a b u ∷ terms) ss are = absurd are

pub few_terms : (row : ℕ) (terms : List Tree) → AreHookArguments row (forest terms)
    → (1 ≤ length terms) × (length terms ≤ 2)
few_terms row terms h =
    let few = few_arguments (slice_get hooks row) (map kind_of h.0) h.2 in
    let same : length terms ≡ length (map kind_of h.0) = same_length terms h.0 h.1 in
    (omega (arith, few.0), omega (arith, few.1))
