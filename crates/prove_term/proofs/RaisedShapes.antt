-- What axioms say about symbols and sorts, with the numbers of their variables raised.
use Rattle.std.proofs.Common.{◌≡◌, ◌+◌, ◌≤◌, ℕ, zero, suc, true, List, [], ◌∷◌, ◌++◌, length, map}
use Rattle.std.proofs.Common.{refl, sym, ◌∙◌, ap, subst, arith, length-append}
use Rattle.ml_pat.specs.Patterns.{Pattern, Ex, All, app, all, ex, equal}
use Rattle.ml_pat.specs.Patterns.{var}
use Rattle.ml_pat.specs.Patterns.{imp, and, not, constant}
use Rattle.ml_pat.specs.Judgements.{fresh}
use Rattle.ml_pat.specs.Leaves.{EachLeaf}
use Rattle.prove_term.specs.Applications.{applied_to}
use Rattle.prove_term.specs.Numbered.{variables_from, pairs_from, all_from, inject}
use Rattle.prove_term.specs.OpenAxioms.{at_numbered, total_at, free_at, apart_at, subsort_at}
use Rattle.prove_term.specs.OpenAxioms.{collapse_at, injective_at}
use Rattle.prove_term.specs.Raised.{in_front, variables_below, IsBoundInFront, raised}
use Rattle.prove_term.proofs.Renumbering.{fresh_above, fresh_under}

-- ---- raising

pub raised_all : (k j : ℕ) (ss : List ℕ) (p : Pattern)
    → raised k (all_from j ss p) ≡ all_from (k + j) ss (raised k p)
raised_all k j [] p = refl
raised_all k j (s ∷ ss) p =
    let further : k + (j + 1) ≡ k + j + 1 = omega arith in
    ap (all (k + j) s)
    (raised_all k (j + 1) ss p ∙ ap (λ (i : ℕ). all_from i ss (raised k p)) further)

raised_applied : (k : ℕ) (qs : List Pattern) (h : Pattern)
    → raised k (applied_to h qs) ≡ applied_to (raised k h) (map (raised k) qs)
raised_applied k [] h = refl
raised_applied k (q ∷ qs) h = raised_applied k qs (app h q)

raised_variables : (k j n : ℕ) → map (raised k) (variables_from j n) ≡ variables_from (k + j) n
raised_variables k j zero = refl
raised_variables k j (suc n) =
    let further : k + (j + 1) ≡ k + j + 1 = omega arith in
    ap (λ (ps : List Pattern). var (k + j) ∷ ps) (raised_variables k (j + 1) n
    ∙ ap (λ (i : ℕ). variables_from i n) further)

raised_pairs : (k i j n : ℕ) → map (raised k) (pairs_from i j n) ≡ pairs_from (k + i) (k + j) n
raised_pairs k i j zero = refl
raised_pairs k i j (suc n) =
    let first : k + (i + 1) ≡ k + i + 1 = omega arith in
    let second : k + (j + 1) ≡ k + j + 1 = omega arith in
    ap (λ (ps : List Pattern). and (var (k + i)) (var (k + j)) ∷ ps)
    (raised_pairs k (i + 1) (j + 1) n ∙ ap (λ (m : ℕ). pairs_from m (k + (j + 1)) n) first
    ∙ ap (λ (m : ℕ). pairs_from (k + i + 1) m n) second)

raised_numbered : (k head j n : ℕ) → raised k (at_numbered head j n) ≡ at_numbered head (k + j) n
raised_numbered k head j n =
    raised_applied k (variables_from j n) (constant head)
    ∙ ap (applied_to (constant head)) (raised_variables k j n)

-- ---- the axioms

pub raised_total : (k head : ℕ) (ns : List ℕ) (number : ℕ)
    → raised k (total_at 0 head ns number) ≡ total_at k head ns number
raised_total k head ns number =
    let n : ℕ = length ns in
    let start : k + 0 ≡ k = omega arith in
    let last : k + (0 + length ns) ≡ k + length ns = omega arith in
    raised_all k 0 ns (ex (0 + n) number (equal (var (0 + n)) (at_numbered head 0 n)))
    ∙ ap (λ (p : Pattern). all_from (k + 0) ns (ex (k + (0 + n)) number
    (equal (var (k + (0 + n))) p))) (raised_numbered k head 0 n)
    ∙ ap (λ (i : ℕ). all_from i ns (ex (k + (0 + n)) number
    (equal (var (k + (0 + n))) (at_numbered head i n)))) start
    ∙ ap (λ (i : ℕ). all_from k ns (ex i number (equal (var i) (at_numbered head k n)))) last

pub raised_free : (k head : ℕ) (ns : List ℕ) → raised k (free_at 0 head ns) ≡ free_at k head ns
raised_free k head ns =
    let n : ℕ = length ns in
    let start : k + 0 ≡ k = omega arith in
    let next : k + (0 + length ns) ≡ k + length ns = omega arith in
    let pairs : raised k (applied_to (constant head) (pairs_from 0 (0 + n) n)) ≡ applied_to
    (constant head) (pairs_from (k + 0) (k + (0 + n)) n) =
    raised_applied k (pairs_from 0 (0 + n) n) (constant head)
    ∙ ap (applied_to (constant head)) (raised_pairs k 0 (0 + n) n) in
    raised_all k 0 (ns ++ ns) (imp (and (at_numbered head 0 n) (at_numbered head (0 + n) n))
    (applied_to (constant head) (pairs_from 0 (0 + n) n)))
    ∙ ap (λ (p : Pattern). all_from (k + 0) (ns ++ ns)
    (imp (and p (raised k (at_numbered head (0 + n) n)))
    (raised k (applied_to (constant head) (pairs_from 0 (0 + n) n)))))
    (raised_numbered k head 0 n)
    ∙ ap (λ (p : Pattern). all_from (k + 0) (ns ++ ns) (imp (and (at_numbered head (k + 0) n) p)
    (raised k (applied_to (constant head) (pairs_from 0 (0 + n) n)))))
    (raised_numbered k head (0 + n) n)
    ∙ ap (λ (p : Pattern). all_from (k + 0) (ns ++ ns) (imp
    (and (at_numbered head (k + 0) n) (at_numbered head (k + (0 + n)) n)) p)) pairs
    ∙ ap (λ (i : ℕ). all_from i (ns ++ ns) (imp
    (and (at_numbered head i n) (at_numbered head (k + (0 + n)) n))
    (applied_to (constant head) (pairs_from i (k + (0 + n)) n)))) start
    ∙ ap (λ (i : ℕ). all_from k (ns ++ ns) (imp (and (at_numbered head k n) (at_numbered head i n))
    (applied_to (constant head) (pairs_from k i n)))) next

pub raised_apart : (k head : ℕ) (ns : List ℕ) (other : ℕ) (ms : List ℕ)
    → raised k (apart_at 0 head ns other ms) ≡ apart_at k head ns other ms
raised_apart k head ns other ms =
    let n : ℕ = length ns in
    let m : ℕ = length ms in
    let start : k + 0 ≡ k = omega arith in
    let next : k + (0 + length ns) ≡ k + length ns = omega arith in
    raised_all k 0 (ns ++ ms) (not (and (at_numbered head 0 n) (at_numbered other (0 + n) m)))
    ∙ ap (λ (p : Pattern). all_from (k + 0) (ns ++ ms)
    (not (and p (raised k (at_numbered other (0 + n) m))))) (raised_numbered k head 0 n)
    ∙ ap (λ (p : Pattern). all_from (k + 0) (ns ++ ms) (not (and (at_numbered head (k + 0) n) p)))
    (raised_numbered k other (0 + n) m)
    ∙ ap (λ (i : ℕ). all_from i (ns ++ ms)
    (not (and (at_numbered head i n) (at_numbered other (k + (0 + n)) m)))) start
    ∙ ap (λ (i : ℕ). all_from k (ns ++ ms)
    (not (and (at_numbered head k n) (at_numbered other i m)))) next

pub raised_subsort : (k c s t : ℕ) → raised k (subsort_at 0 c s t) ≡ subsort_at k c s t
raised_subsort k c s t =
    let start : k + 0 ≡ k = omega arith in
    ap (λ (i : ℕ). all i s (ex (k + 1) t (equal (var (k + 1)) (inject c s t (var i))))) start

pub raised_collapse : (k c s t u : ℕ) → raised k (collapse_at 0 c s t u) ≡ collapse_at k c s t u
raised_collapse k c s t u =
    let start : k + 0 ≡ k = omega arith in
    ap (λ (i : ℕ). collapse_at i c s t u) start

pub raised_injective : (k c s t : ℕ) → raised k (injective_at 0 c s t) ≡ injective_at k c s t
raised_injective k c s t =
    let start : k + 0 ≡ k = omega arith in
    ap (λ (i : ℕ). all i s (all (k + 1) s (imp
    (equal (inject c s t (var i)) (inject c s t (var (k + 1))))
    (equal (var i) (var (k + 1)))))) start

-- ---- bound variables

leaves_all : (m : ℕ) (ss : List ℕ) (j : ℕ) (p : Pattern) → j + length ss ≤ m
    → EachLeaf (variables_below m) p → EachLeaf (variables_below m) (all_from j ss p)
leaves_all m [] j p few h = h
leaves_all m (s ∷ ss) j p few h =
    (leaves_all m ss (j + 1) p (omega (arith, few)) h, (omega (arith, few), tt))

leaves_variables : (m n j : ℕ) (h : Pattern) → j + n ≤ m → EachLeaf (variables_below m) h
    → EachLeaf (variables_below m) (applied_to h (variables_from j n))
leaves_variables m zero j h few is = is
leaves_variables m (suc n) j h few is =
    leaves_variables m n (j + 1) (app h (var j)) (omega (arith, few)) (is, omega (arith, few))

leaves_pairs : (m n i j : ℕ) (h : Pattern) → i + n ≤ m → j + n ≤ m
    → EachLeaf (variables_below m) h
    → EachLeaf (variables_below m) (applied_to h (pairs_from i j n))
leaves_pairs m zero i j h few few' is = is
leaves_pairs m (suc n) i j h few few' is =
    leaves_pairs m n (i + 1) (j + 1) (app h (and (var i) (var j))) (omega (arith, few))
    (omega (arith, few')) (is, (omega (arith, few), omega (arith, few')))

fresh_all : (ss : List ℕ) (j : ℕ) (p : Pattern)
    → ((x : ℕ) → j + length ss ≤ x → fresh x p ≡ true) → (x : ℕ) → j ≤ x
    → fresh x (all_from j ss p) ≡ true
fresh_all [] j p free x above = free x (omega (arith, above))
fresh_all (s ∷ ss) j p free x above =
    fresh_under All j s (all_from (j + 1) ss p)
    (fresh_all ss (j + 1) p (λ y past. free y (omega (arith, past)))) x above

front_all : (ss : List ℕ) (j : ℕ) (p : Pattern)
    → in_front (all_from j ss p) ≡ length ss + in_front p
front_all [] j p = omega arith
front_all (s ∷ ss) j p = omega (arith, front_all ss (j + 1) p)

bound_front : (ss : List ℕ) (p : Pattern) (m : ℕ) → m ≡ length ss + in_front p
    → EachLeaf (variables_below m) p → ((x : ℕ) → length ss ≤ x → fresh x p ≡ true)
    → IsBoundInFront (all_from 0 ss p)
bound_front ss p m many leaves free = record {
  numbers =
      subst (λ (n : ℕ). EachLeaf (variables_below n) (all_from 0 ss p))
      (many ∙ sym (front_all ss 0 p))
      (leaves_all m ss 0 p (omega (arith, many)) leaves);
  closed = λ x. fresh_all ss 0 p (λ y above. free y (omega (arith, above))) x (omega arith);
}

-- all variables are bound by the quantifiers of these sorts
pub bound_all : (ss : List ℕ) (p : Pattern) → in_front p ≡ 0
    → EachLeaf (variables_below (length ss)) p → IsBoundInFront (all_from 0 ss p)
bound_all ss p none leaves =
    bound_front ss p (length ss) (omega (arith, none)) leaves
    (λ x above. fresh_above (length ss) x p above leaves)

-- one more is bound by a quantifier behind
bound_some : (ss : List ℕ) (t : ℕ) (p : Pattern) → in_front p ≡ 0
    → EachLeaf (variables_below (length ss + 1)) p
    → IsBoundInFront (all_from 0 ss (ex (length ss) t p))
bound_some ss t p none leaves =
    bound_front ss (ex (length ss) t p) (length ss + 1) (omega (arith, none))
    (leaves, (omega arith, tt))
    (fresh_under Ex (length ss) t p (λ x above. fresh_above (length ss + 1) x p above leaves))

pub bound_total : (head : ℕ) (ns : List ℕ) (number : ℕ)
    → IsBoundInFront (total_at 0 head ns number)
bound_total head ns number =
    let same : length ns ≡ 0 + length ns = omega arith in
    subst (λ (i : ℕ). IsBoundInFront
    (all_from 0 ns (ex i number (equal (var i) (at_numbered head 0 (length ns)))))) same
    (bound_some ns number (equal (var (length ns)) (at_numbered head 0 (length ns))) refl (
      omega arith,
      leaves_variables (length ns + 1) (length ns) 0 (constant head) (omega arith) tt,
    ))

pub bound_free : (head : ℕ) (ns : List ℕ) → IsBoundInFront (free_at 0 head ns)
bound_free head ns =
    let n : ℕ = length ns in
    let twice : length (ns ++ ns) ≡ length ns + length ns = length-append ns ns in
    bound_all (ns ++ ns) (imp (and (at_numbered head 0 n) (at_numbered head (0 + n) n))
    (applied_to (constant head) (pairs_from 0 (0 + n) n))) refl (
      (
        leaves_variables (length (ns ++ ns)) (length ns) 0 (constant head) (omega (arith, twice))
            tt,
        leaves_variables (length (ns ++ ns)) (length ns) (0 + length ns) (constant head)
            (omega (arith, twice)) tt,
      ),
      leaves_pairs (length (ns ++ ns)) (length ns) 0 (0 + length ns) (constant head)
          (omega (arith, twice)) (omega (arith, twice)) tt,
    )

pub bound_apart : (head : ℕ) (ns : List ℕ) (other : ℕ) (ms : List ℕ)
    → IsBoundInFront (apart_at 0 head ns other ms)
bound_apart head ns other ms =
    let all : length (ns ++ ms) ≡ length ns + length ms = length-append ns ms in
    bound_all (ns ++ ms)
    (not (and (at_numbered head 0 (length ns)) (at_numbered other (0 + length ns) (length ms))))
    refl (
      leaves_variables (length (ns ++ ms)) (length ns) 0 (constant head) (omega (arith, all)) tt,
      leaves_variables (length (ns ++ ms)) (length ms) (0 + length ns) (constant other)
          (omega (arith, all)) tt,
    )

pub bound_subsort : (c s t : ℕ) → IsBoundInFront (subsort_at 0 c s t)
bound_subsort c s t =
    bound_some (s ∷ []) t (equal (var 1) (inject c s t (var 0))) refl
    (omega arith, (((tt, tt), tt), omega arith))

pub bound_collapse : (c s t u : ℕ) → IsBoundInFront (collapse_at 0 c s t u)
bound_collapse c s t u =
    bound_all (s ∷ []) (equal (inject c t u (inject c s t (var 0))) (inject c s u (var 0))) refl (
      (((tt, tt), tt), (((tt, tt), tt), omega arith)),
      (((tt, tt), tt), omega arith),
    )

pub bound_injective : (c s t : ℕ) → IsBoundInFront (injective_at 0 c s t)
bound_injective c s t =
    bound_all (s ∷ s ∷ []) (imp (equal (inject c s t (var 0)) (inject c s t (var 1)))
    (equal (var 0) (var 1))) refl (
      ((((tt, tt), tt), omega arith), (((tt, tt), tt), omega arith)),
      (omega arith, omega arith),
    )
