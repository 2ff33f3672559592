-- The places of lemmas by pairs and triples of sorts, after one more is kept.
use Rattle.std.proofs.Common.{◌≡◌, ℕ, Bool, true, false, cond, Option, Some, refl, sym, ◌∙◌, subst}
use Rattle.std.specs.Prelude.{IfSome}
use Rattle.std.specs.BTreeMap as tree
use Rattle.std.specs.BTreeMap.{BTreeMap, UpdatesBy, is_at}
use Rattle.std.specs.Ordering.{is_eq, ordering_then, nat_cmp}
use Rattle.std.specs.Cmp.{unsigned_ties}
use Rattle.std.specs.declared.cmp.Ordering.{Ordering}
use Rattle.std.specs.declared.cmp.Ordering.TheVariants.{Less, Equal, Greater}
use Rattle.std.proofs.lemmas.Bool.{false≢true, eqb-true}
use Rattle.prove_term.specs.Contexts.{Context}
use Rattle.prove_term.specs.Injections.{IsInjectionAt, IsCollapseAt}
use Rattle.prove_term.specs.SortKeys.{pair_cmp, triple_cmp}

both_equal : (p q : Ordering) → is_eq (ordering_then p q) ≡ true
    → (is_eq p ≡ true) × (is_eq q ≡ true)
both_equal Less q h = absurd (false≢true h)
both_equal Equal q h = (refl, h)
both_equal Greater q h = absurd (false≢true h)

pub same_number : (a b : ℕ) → is_eq (nat_cmp a b) ≡ true → a ≡ b
same_number a b h = eqb-true a b (unsigned_ties a b ∙ h)

pub kept_at : (P : ℕ → Type 0) (t : Bool) (before after : Option ℕ) (k : ℕ)
    → after ≡ cond t (Some k) before → IfSome before P → (t ≡ true → P k) → IfSome after P
kept_at P true before after k e h f = subst (λ (o : Option ℕ). IfSome o P) (sym e) (f refl)
kept_at P false before after k e h f = subst (λ (o : Option ℕ). IfSome o P) (sym e) h

pub injections_kept : (cx : Context) (before after : BTreeMap (ℕ × ℕ) ℕ) (x y k : ℕ)
    → IsInjectionAt cx x y k → UpdatesBy pair_cmp (pair_cmp (x, y)) before after (Some k)
    → ((q : ℕ × ℕ) → IfSome (tree.get pair_cmp before q) (IsInjectionAt cx q.0 q.1)) → (q : ℕ × ℕ)
    → IfSome (tree.get pair_cmp after q) (IsInjectionAt cx q.0 q.1)
injections_kept cx before after x y k is updates kept q =
    kept_at (IsInjectionAt cx q.0 q.1) (is_at (pair_cmp (x, y)) q) (tree.get pair_cmp before q)
    (tree.get pair_cmp after q) k (updates.0 q) (kept q) here
  where
    here : is_at (pair_cmp (x, y)) q ≡ true → IsInjectionAt cx q.0 q.1 k
    here h =
        let b : (is_eq (nat_cmp x q.0) ≡ true) × (is_eq (nat_cmp y q.1) ≡ true) =
        both_equal (nat_cmp x q.0) (nat_cmp y q.1) h in
        subst (λ (a : ℕ). IsInjectionAt cx a q.1 k) (same_number x q.0 b.0)
        (subst (λ (a : ℕ). IsInjectionAt cx x a k) (same_number y q.1 b.1) is)

pub collapses_kept : (cx : Context) (before after : BTreeMap (ℕ × ℕ × ℕ) ℕ) (x y z k : ℕ)
    → IsCollapseAt cx x y z k → UpdatesBy triple_cmp (triple_cmp (x, y, z)) before after (Some k)
    → ((q : ℕ × ℕ × ℕ) → IfSome (tree.get triple_cmp before q) (IsCollapseAt cx q.0 q.1 q.2))
    → (q : ℕ × ℕ × ℕ) → IfSome (tree.get triple_cmp after q) (IsCollapseAt cx q.0 q.1 q.2)
collapses_kept cx before after x y z k is updates kept q =
    kept_at (IsCollapseAt cx q.0 q.1 q.2) (is_at (triple_cmp (x, y, z)) q)
    (tree.get triple_cmp before q) (tree.get triple_cmp after q) k (updates.0 q) (kept q) here
  where
    here : is_at (triple_cmp (x, y, z)) q ≡ true → IsCollapseAt cx q.0 q.1 q.2 k
    here h =
        let two : (is_eq (ordering_then (nat_cmp x q.0) (nat_cmp y q.1)) ≡ true) ×
        (is_eq (nat_cmp z q.2) ≡ true) =
        both_equal (ordering_then (nat_cmp x q.0) (nat_cmp y q.1)) (nat_cmp z q.2) h in
        let b : (is_eq (nat_cmp x q.0) ≡ true) × (is_eq (nat_cmp y q.1) ≡ true) =
        both_equal (nat_cmp x q.0) (nat_cmp y q.1) two.0 in
        subst (λ (a : ℕ). IsCollapseAt cx a q.1 q.2 k) (same_number x q.0 b.0)
        (subst (λ (a : ℕ). IsCollapseAt cx x a q.2 k) (same_number y q.1 b.1)
        (subst (λ (a : ℕ). IsCollapseAt cx x y a k) (same_number z q.2 two.1) is))
