-- Instances of patterns that are apart differ, and so do injections of different terms.
use Rattle.std.proofs.Common.{◌≡◌, ℕ, ◌⊎◌, inl, inr, List, [], ◌∷◌, ◌++◌, length, Option}
use Rattle.std.proofs.Common.{Some, refl, ap, sym, ◌∙◌, subst}
use Rattle.std.specs.Prelude.{slice_get}
use Rattle.term_core.specs.Terms.{DomainValue, Tree, leaf, node, inj, Forest, injected}
use Rattle.term_core.specs.Patterns.{binding, instance_of}
use Rattle.term_core.specs.Patterns.{instances_of}
use Rattle.rule_core.specs.Subsorts.{IsBelow, HasNoCycle}
use Rattle.rule_core.specs.Sorting.{IsTermOf}
use Rattle.rule_core.specs.Matching.{RespectsSorts}
use Rattle.rule_core.specs.declared.signature.Signature.{Signature}
use Rattle.rule_core.proofs.SortedInstances.{mapped}
use Rattle.ml_image.specs.Sides.{value, constructor, Side, plain, injected_variable}
use Rattle.ml_image.specs.Sides.{injected_head, side_pattern, head_pattern, side_sorts, numbered}
use Rattle.ml_image.specs.Sides.{Differ}
use Rattle.ml_image.specs.ApartLaws.{InstancesDiffer, InjectionsDiffer}
use Rattle.ml_image.proofs.ImageLaws.{some_same}

-- ---- injections of terms

-- an injection comes from the sort itself or from a sort below it
injected_from : (sig : Signature) (a b c : ℕ) (t u : Tree) → IsTermOf sig t a
    → injected a b t ≡ inj c b u → (c ≡ a) ⊎ IsBelow sig.subsorts c a
injected_from sig a b c (leaf s v) u sorted e = let same : c ≡ a = cc in inl same
injected_from sig a b c (node f ts) u sorted e = let same : c ≡ a = cc in inl same
injected_from sig a b c (inj d to t) u (has, is, below, inside) e =
    let same : d ≡ c = cc in
    inr (subst (λ (n : ℕ). IsBelow sig.subsorts n a) same
    (subst (λ (n : ℕ). IsBelow sig.subsorts d n) is below))

injected_leaf : (a b s : ℕ) (v : DomainValue) (t : Tree) → leaf s v ≡ injected a b t → ⊥
injected_leaf a b s v (leaf r w) e = cc
injected_leaf a b s v (node f ts) e = cc
injected_leaf a b s v (inj c d t) e = cc

injected_node : (a b f : ℕ) (ts : Forest) (t : Tree) → node f ts ≡ injected a b t → ⊥
injected_node a b f ts (leaf r w) e = cc
injected_node a b f ts (node g us) e = cc
injected_node a b f ts (inj c d t) e = cc

-- injections of terms of a sort differ if the terms do
injected_same : (sig : Signature) (a b : ℕ) (t u : Tree) → HasNoCycle sig.subsorts
    → IsTermOf sig t a → IsTermOf sig u a → injected a b t ≡ injected a b u → t ≡ u
injected_same sig a b (leaf s v) (leaf r w) acyclic h k e = cc
injected_same sig a b (leaf s v) (node f ts) acyclic h k e = absurd (cc)
injected_same sig a b (leaf s v) (inj c d u) acyclic h (has, is, below, inside) e =
    let same : a ≡ c = cc in
    absurd (acyclic a (subst (λ (n : ℕ). IsBelow sig.subsorts n a) (sym same)
    (subst (λ (n : ℕ). IsBelow sig.subsorts c n) is below)))
injected_same sig a b (node f ts) (leaf s v) acyclic h k e = absurd (cc)
injected_same sig a b (node f ts) (node g us) acyclic h k e = cc
injected_same sig a b (node f ts) (inj c d u) acyclic h (has, is, below, inside) e =
    let same : a ≡ c = cc in
    absurd (acyclic a (subst (λ (n : ℕ). IsBelow sig.subsorts n a) (sym same)
    (subst (λ (n : ℕ). IsBelow sig.subsorts c n) is below)))
injected_same sig a b (inj c d t) (leaf s v) acyclic (has, is, below, inside) k e =
    let same : a ≡ c = cc in
    absurd (acyclic a (subst (λ (n : ℕ). IsBelow sig.subsorts n a) (sym same)
    (subst (λ (n : ℕ). IsBelow sig.subsorts c n) is below)))
injected_same sig a b (inj c d t) (node f ts) acyclic (has, is, below, inside) k e =
    let same : a ≡ c = cc in
    absurd (acyclic a (subst (λ (n : ℕ). IsBelow sig.subsorts n a) (sym same)
    (subst (λ (n : ℕ). IsBelow sig.subsorts c n) is below)))
injected_same sig a b (inj c d t) (inj c' d' u) acyclic h k e =
    let to : d ≡ d' = h.1 ∙ sym k.1 in
    let from : c ≡ c' = cc in
    let what : t ≡ u = cc in
    ap (λ (n : ℕ). inj n d t) from ∙ ap (λ (n : ℕ). inj c' n t) to ∙ ap (inj c' d') what

-- ---- sides

-- the variable of a side is bound to a term of its sort
abbrev IsVariableOf : Signature → List (Option Tree) → ℕ → Side → Type 0
IsVariableOf sig theta k (plain h) = Unit {0}
IsVariableOf sig theta k (injected_variable a) =
    (x : Tree) → binding theta k ≡ Some x → IsTermOf sig x a
IsVariableOf sig theta k (injected_head a h) = Unit {0}

bound_at : (sig : Signature) (sorts : List ℕ) (theta : List (Option Tree)) (k a : ℕ)
    → RespectsSorts sig sorts theta → slice_get sorts k ≡ Some a → (x : Tree)
    → binding theta k ≡ Some x → IsTermOf sig x a
bound_at sig sorts theta k a respects at x bound =
    let h = respects k x bound in
    subst (IsTermOf sig x) (some_same h.1.0 a (sym h.1.1 ∙ at)) h.1.2

behind : (xs : List ℕ) (a : ℕ) → slice_get (xs ++ a ∷ []) (length xs) ≡ Some a
behind [] a = refl
behind (x ∷ xs) a = behind xs a

first_variable : (sig : Signature) (sorts rest : List ℕ) (theta : List (Option Tree)) (s : Side)
    → RespectsSorts sig sorts theta → sorts ≡ side_sorts s ++ rest → IsVariableOf sig theta 0 s
first_variable sig sorts rest theta (plain h) respects are = tt
first_variable sig sorts rest theta (injected_variable a) respects are =
    bound_at sig sorts theta 0 a respects (ap (λ (xs : List ℕ). slice_get xs 0) are)
first_variable sig sorts rest theta (injected_head a h) respects are = tt

last_variable : (sig : Signature) (sorts before : List ℕ) (theta : List (Option Tree)) (s : Side)
    → RespectsSorts sig sorts theta → sorts ≡ before ++ side_sorts s
    → IsVariableOf sig theta (length before) s
last_variable sig sorts before theta (plain h) respects are = tt
last_variable sig sorts before theta (injected_variable a) respects are =
    bound_at sig sorts theta (length before) a respects
    (ap (λ (xs : List ℕ). slice_get xs (length before)) are ∙ behind before a)
last_variable sig sorts before theta (injected_head a h) respects are = tt

-- the sides differ in what they make
side_differs : (sig : Signature) (theta : List (Option Tree)) (sort k m : ℕ) (a b : Side)
    (t u : Tree) → Differ sig a b → IsVariableOf sig theta k a
    → instance_of theta (side_pattern sort k a) ≡ Some t
    → instance_of theta (side_pattern sort m b) ≡ Some u → t ≡ u → ⊥
side_differs sig theta sort k m (plain (value v)) (plain (value w)) t u d sorted e g same =
    let is : v ≡ w = cc in d is
side_differs sig theta sort k m (plain (value v)) (plain (constructor f ss)) t u d sorted e g same =
    let made = mapped (node f) (instances_of theta (numbered m (length ss))) u g in cc
side_differs sig theta sort k m (plain (value v)) (injected_variable a) t u d sorted e g same =
    let made = mapped (injected a sort) (binding theta m) u g in
    injected_leaf a sort sort v made.0 (some_same (leaf sort v) t e ∙ same ∙ sym made.1.1)
side_differs sig theta sort k m (plain (constructor f ss)) (injected_variable a) t u d sorted e g
    same =
    let made = mapped (injected a sort) (binding theta m) u g in
    let head = mapped (node f) (instances_of theta (numbered k (length ss))) t e in
    injected_node a sort f head.0 made.0 (head.1.1 ∙ same ∙ sym made.1.1)
side_differs sig theta sort k m (injected_variable a) (injected_head b (value v)) t u d sorted e g
    same =
    let made = mapped (injected a sort) (binding theta k) t e in
    let is : inj b sort (leaf b v) ≡ u = some_same (inj b sort (leaf b v)) u g in
    apart_from (injected_from sig a sort b made.0 (leaf b v) (sorted made.0 made.1.0)
    (made.1.1 ∙ same ∙ sym is))
  where
    apart_from : (b ≡ a) ⊎ IsBelow sig.subsorts b a → ⊥
    apart_from (inl one) = d.0 (sym one)
    apart_from (inr below) = d.1 below
side_differs sig theta sort k m (injected_variable a) (injected_head b (constructor f ss)) t u d
    sorted e g same =
    let made = mapped (injected a sort) (binding theta k) t e in
    let inner =
    mapped (injected b sort) (instance_of theta (head_pattern b m (constructor f ss))) u g in
    let head = mapped (node f) (instances_of theta (numbered m (length ss))) inner.0 inner.1.0 in
    let is : inj b sort (node f head.0) ≡ u = ap (injected b sort) head.1.1 ∙ inner.1.1 in
    apart_from (injected_from sig a sort b made.0 (node f head.0) (sorted made.0 made.1.0)
    (made.1.1 ∙ same ∙ sym is))
  where
    apart_from : (b ≡ a) ⊎ IsBelow sig.subsorts b a → ⊥
    apart_from (inl one) = d.0 (sym one)
    apart_from (inr below) = d.1 below
side_differs sig theta sort k m a b t u d sorted e g same = absurd d

pub instances_differ : InstancesDiffer
instances_differ sig p q sorts theta t u apart respects first second same = go apart.differ
  where
    k : ℕ
    k = length (side_sorts apart.one)

    one : instance_of theta (side_pattern apart.sort 0 apart.one) ≡ Some t
    one = ap (instance_of theta) (sym apart.first) ∙ first

    other : instance_of theta (side_pattern apart.sort k apart.other) ≡ Some u
    other = ap (instance_of theta) (sym apart.second) ∙ second

    go : Differ sig apart.one apart.other ⊎ Differ sig apart.other apart.one → ⊥
    go (inl d) =
        side_differs sig theta apart.sort 0 k apart.one apart.other t u d
        (first_variable sig sorts (side_sorts apart.other) theta apart.one respects apart.sorts_are)
        one other same
    go (inr d) =
        side_differs sig theta apart.sort k 0 apart.other apart.one u t d
        (last_variable sig sorts (side_sorts apart.one) theta apart.other respects apart.sorts_are)
        other one (sym same)

pub injections_differ : InjectionsDiffer
injections_differ sig a b theta t acyclic respects first second =
    let one = mapped (injected a b) (binding theta 0) t first in
    let other = mapped (injected a b) (binding theta 1) t second in
    one.1.0
    ∙ ap (λ (x : Tree). Some x)
    (injected_same sig a b one.0 other.0 acyclic
    (bound_at sig (a ∷ a ∷ []) theta 0 a respects refl one.0 one.1.0)
    (bound_at sig (a ∷ a ∷ []) theta 1 a respects refl other.0 other.1.0)
    (one.1.1 ∙ sym other.1.1))
    ∙ sym other.1.0
