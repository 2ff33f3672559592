-- What comparing a pattern with a term of its sort comes to has one sort again.
use Rattle.std.proofs.Common.{◌≡◌, inl, inr, ℕ, Bool, true, false, List, [], Some, slice_get, sym, ◌∙◌}
use Rattle.std.proofs.Common.{refl, ap, subst, eq-eqb}
use Rattle.std.specs.Prelude.{◌==◌, if◌then◌else◌}
use Rattle.std.proofs.lemmas.Bool.{eqb-true, false≢true}
use Rattle.term_core.specs.Terms.{Tree, node, inj, Forest, IsNormal, IsNoInjection}
use Rattle.term_core.specs.Patterns.{Pattern, Patterns, application, injection, ground_patterns}
use Rattle.rule_core.specs.Matching.{OccursIn}
use Rattle.rule_core.specs.MatchSteps.{lowered}
use Rattle.rule_core.specs.Sorting.{HasSort, HaveSorts, IsTermOf, HasInjection}
use Rattle.rule_core.specs.declared.signature.Signature.{Signature}
use Rattle.rule_core.specs.declared.signature.SymInfo.{SymInfo}
use Rattle.refute.specs.Bindings.{IsSortedPair}
use Rattle.refute.specs.Clashes.{IsUpTo, StandTogether, ComesTo, here, argument, below}
use Rattle.refute.proofs.Pairs.{ItemPair, together_sorted, together_occurs}

some_same : {A : Type 0} (a b : A) → Some a ≡ Some b → a ≡ b
some_same a b h = cc

same_info : (sig : Signature) (f : ℕ) (n m : List ℕ) (i j : SymInfo)
    → slice_get sig.symbols f ≡ Some (n, i) → slice_get sig.symbols f ≡ Some (m, j) → i ≡ j
same_info sig f n m i j one other =
    ap (λ (e : List ℕ × SymInfo). e.1) (some_same (n, i) (m, j) (sym one ∙ other))

-- ---- arguments and injected terms

pub argument_sorted : (sig : Signature) (variables : List ℕ) (f : ℕ) (ps : Patterns) (ts : Forest)
    (p : Pattern) (t : Tree) → IsSortedPair sig variables (application f ps) (node f ts)
    → StandTogether p t ps ts → IsSortedPair sig variables p t
argument_sorted sig variables f ps ts p t is together =
    let left : HasSort sig variables (application f ps) is.sort = is.left in
    let right : IsTermOf sig (node f ts) is.sort = is.right in
    let same : right.0 ≡ left.0 =
    same_info sig f right.1.0 left.1.0 right.0 left.0 right.1.1 left.1.1 in
    let item : ItemPair sig variables p t =
    together_sorted sig variables p t ps ts left.0.args.items together left.4 is.no_call
    (subst (λ (i : SymInfo). HaveSorts sig [] [] (ground_patterns ts) i.args.items) same right.4)
    is.normal in
    record {
      sort = item.sort;
      left = item.left;
      no_call = item.no_call;
      right = item.right;
      normal = item.normal;
    }

lowered_term : (sig : Signature) (a b : ℕ) (t : Tree) → IsUpTo sig.subsorts a b
    → HasInjection sig → IsTermOf sig t a → IsNoInjection t → IsNormal t
    → IsTermOf sig (lowered a b t) b × IsNormal (lowered a b t)
lowered_term sig a b t up has is other normal = told (a == b) refl up
  where
    told : (same : Bool) → (a == b) ≡ same → IsUpTo sig.subsorts a b
        → IsTermOf sig (if same then t else inj a b t) b
        × IsNormal (if same then t else inj a b t)
    told true e up = (subst (IsTermOf sig t) (eqb-true a b e) is, normal)
    told false e (inl same) = absurd (false≢true (sym e ∙ eq-eqb a b same))
    told false e (inr low) = ((has, refl, low, is), (other, normal))

pub below_sorted : (sig : Signature) (variables : List ℕ) (a b c : ℕ) (p : Pattern) (t : Tree)
    → IsSortedPair sig variables (injection b c p) (inj a c t) → IsUpTo sig.subsorts a b
    → IsSortedPair sig variables p (lowered a b t)
below_sorted sig variables a b c p t is up =
    let left : HasSort sig variables (injection b c p) is.sort = is.left in
    let right : IsTermOf sig (inj a c t) is.sort = is.right in
    let moved : IsTermOf sig (lowered a b t) b × IsNormal (lowered a b t) =
    lowered_term sig a b t up right.0 right.3 is.normal.0 is.normal.1 in
    record {
      sort = b;
      left = left.3;
      no_call = is.no_call;
      right = moved.0;
      normal = moved.1;
    }

-- ---- any place

pub comes_sorted : (sig : Signature) (variables : List ℕ) (q : Pattern) (u : Tree) {p : Pattern}
    {t : Tree} → ComesTo sig.subsorts q u p t → IsSortedPair sig variables p t
    → IsSortedPair sig variables q u
comes_sorted sig variables q u here is = is
comes_sorted sig variables q u (argument {f = f} {ps = ps} {ts = ts} p t together inside) is =
    comes_sorted sig variables q u inside (argument_sorted sig variables f ps ts p t is together)
comes_sorted sig variables q u (below {a = a} {b = b} {c = c} {p = p} {t = t} up inside) is =
    comes_sorted sig variables q u inside (below_sorted sig variables a b c p t is up)

pub comes_occurs : (pairs : List (ℕ × ℕ)) (x : ℕ) (q : Pattern) (u : Tree) {p : Pattern} {t : Tree}
    → ComesTo pairs q u p t → OccursIn x q → OccursIn x p
comes_occurs pairs x q u here occurs = occurs
comes_occurs pairs x q u (argument {f = f} {ps = ps} {ts = ts} p t together inside) occurs =
    together_occurs x p t ps ts together (comes_occurs pairs x q u inside occurs)
comes_occurs pairs x q u (below {a = a} {b = b} {c = c} {p = p} {t = t} up inside) occurs =
    comes_occurs pairs x q u inside occurs
