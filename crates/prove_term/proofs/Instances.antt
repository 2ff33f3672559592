-- Instances of what lemmas about constructors say.
use Rattle.std.proofs.Common.{◌≡◌, ◌≤◌, ◌+◌, ℕ, zero, suc, List, [], ◌∷◌, ◌++◌, length, refl, ◌∙◌}
use Rattle.std.proofs.Common.{ap, subst, arith, append_assoc, length-append, slice_index_or}
use Rattle.std.proofs.Common.{reverse}
use Rattle.std.proofs.lemmas.List.{reverse-append}
use Rattle.ml_pat.specs.Patterns.{Pattern, app, fun, meta}
use Rattle.ml_kernel.specs.Lemmas.{instance, instances, IsMetaBelow, AreMetasBelow}
use Rattle.ml_kernel.specs.Theorems.{Theorem, conclusions}
use Rattle.prove_term.specs.Schemas.{at_metas, meta_facts, facts, reversed}
use Rattle.prove_term.specs.Applications.{applied_to}

-- ---- lists from their ends

pub reverse-reversed : {A : Type 0} (xs : List A) → reverse (reversed xs) ≡ xs
reverse-reversed [] = refl
reverse-reversed {A} (x ∷ xs) =
    reverse-append (reversed xs) (x ∷ []) ∙ ap (λ (ys : List A). x ∷ ys) (reverse-reversed xs)

pub reversed-push : {A : Type 0} (xs : List A) (x : A) → reversed (xs ++ x ∷ []) ≡ x ∷ reversed xs
reversed-push [] x = refl
reversed-push {A} (y ∷ xs) x = ap (λ (ys : List A). ys ++ y ∷ []) (reversed-push xs x)

pub conclusions-append : (ts us : List Theorem)
    → conclusions (ts ++ us) ≡ conclusions ts ++ conclusions us
conclusions-append [] us = refl
conclusions-append (t ∷ ts) us =
    ap (λ (ps : List Pattern). t.conclusion ∷ ps) (conclusions-append ts us)

instances-append : (ms ps qs : List Pattern)
    → instances ms (ps ++ qs) ≡ instances ms ps ++ instances ms qs
instances-append ms [] qs = refl
instances-append ms (p ∷ ps) qs =
    ap (λ (rs : List Pattern). instance ms p ∷ rs) (instances-append ms ps qs)

pub instances-reversed : (ms ps : List Pattern)
    → instances ms (reversed ps) ≡ reversed (instances ms ps)
instances-reversed ms [] = refl
instances-reversed ms (p ∷ ps) =
    instances-append ms (reversed ps) (p ∷ [])
    ∙ ap (λ (rs : List Pattern). rs ++ instance ms p ∷ []) (instances-reversed ms ps)

-- ---- pattern variables of a range

at_place : (pre post : List Pattern) (q d : Pattern)
    → slice_index_or (pre ++ q ∷ post) (length pre) d ≡ q
at_place [] post q d = refl
at_place (p ∷ pre) post q d = at_place pre post q d

pub instance-metas : (post pre : List Pattern) (h : Pattern)
    → instance (pre ++ post) (at_metas h (length pre) (length post))
    ≡ applied_to (instance (pre ++ post) h) post
instance-metas [] pre h = refl
instance-metas (q ∷ post) pre h =
    let whole : (pre ++ q ∷ []) ++ post ≡ pre ++ q ∷ post = append_assoc pre (q ∷ []) post in
    let count : length (pre ++ q ∷ []) ≡ length pre + 1 = length-append pre (q ∷ []) in
    let below : instance (pre ++ q ∷ post)
    (at_metas (app h (meta (length pre))) (length pre + 1) (length post)) ≡ applied_to
    (instance (pre ++ q ∷ post) (app h (meta (length pre)))) post =
    subst (λ (ms : List Pattern). instance ms
    (at_metas (app h (meta (length pre))) (length pre + 1) (length post))
    ≡ applied_to (instance ms (app h (meta (length pre)))) post) whole
    (subst (λ (k : ℕ). instance ((pre ++ q ∷ []) ++ post)
    (at_metas (app h (meta (length pre))) k (length post))
    ≡ applied_to (instance ((pre ++ q ∷ []) ++ post) (app h (meta (length pre)))) post)
    count
    (instance-metas post (pre ++ q ∷ []) (app h (meta (length pre))))) in
    below
    ∙ ap (λ (r : Pattern). applied_to (app (instance (pre ++ q ∷ post) h) r) post)
    (at_place pre post q (meta (length pre)))

pub instances-facts : (post pre : List Pattern) (ss : List ℕ) → length post ≡ length ss
    → instances (pre ++ post) (meta_facts (length pre) ss) ≡ facts post ss
instances-facts [] pre [] h = refl
instances-facts [] pre (s ∷ ss) h = absurd (omega (arith, h))
instances-facts (q ∷ post) pre [] h = absurd (omega (arith, h))
instances-facts (q ∷ post) pre (s ∷ ss) h =
    let whole : (pre ++ q ∷ []) ++ post ≡ pre ++ q ∷ post = append_assoc pre (q ∷ []) post in
    let count : length (pre ++ q ∷ []) ≡ length pre + 1 = length-append pre (q ∷ []) in
    let below : instances (pre ++ q ∷ post) (meta_facts (length pre + 1) ss) ≡ facts post ss =
    subst (λ (ms : List Pattern). instances ms (meta_facts (length pre + 1) ss) ≡ facts post ss)
    whole
    (subst (λ (k : ℕ). instances ((pre ++ q ∷ []) ++ post) (meta_facts k ss) ≡ facts post ss) count
    (instances-facts post (pre ++ q ∷ []) ss (omega (arith, h)))) in
    ap (λ (r : Pattern). fun r s ∷ instances (pre ++ q ∷ post) (meta_facts (length pre + 1) ss))
    (at_place pre post q (meta (length pre)))
    ∙ ap (λ (rs : List Pattern). fun q s ∷ rs) below

-- ---- the pattern variables that occur in them

pub below-metas : (n k m : ℕ) (h : Pattern) → k + m ≤ n → IsMetaBelow n h
    → IsMetaBelow n (at_metas h k m)
below-metas n k zero h few below = below
below-metas n k (suc m) h few below =
    below-metas n (k + 1) m (app h (meta k)) (omega (arith, few)) (below, omega (arith, few))

pub below-facts : (n k : ℕ) (ss : List ℕ) → k + length ss ≤ n → AreMetasBelow n (meta_facts k ss)
below-facts n k [] few = tt
below-facts n k (s ∷ ss) few = (omega (arith, few), below-facts n (k + 1) ss (omega (arith, few)))

below-append : (n : ℕ) (ps qs : List Pattern) → AreMetasBelow n ps → AreMetasBelow n qs
    → AreMetasBelow n (ps ++ qs)
below-append n [] qs h k = k
below-append n (p ∷ ps) qs h k = (h.0, below-append n ps qs h.1 k)

pub below-reversed : (n : ℕ) (ps : List Pattern) → AreMetasBelow n ps
    → AreMetasBelow n (reversed ps)
below-reversed n [] h = tt
below-reversed n (p ∷ ps) h =
    below-append n (reversed ps) (p ∷ []) (below-reversed n ps h.1) (h.0, tt)

pub facts-push : (ss : List ℕ) (s k : ℕ)
    → meta_facts k (ss ++ s ∷ []) ≡ meta_facts k ss ++ fun (meta (k + length ss)) s ∷ []
facts-push [] s k = ap (λ (i : ℕ). fun (meta i) s ∷ []) (omega arith)
facts-push (t ∷ ss) s k =
    ap (λ (ps : List Pattern). fun (meta k) t ∷ ps) (facts-push ss s (k + 1)
    ∙ ap (λ (i : ℕ). meta_facts (k + 1) ss ++ fun (meta i) s ∷ []) (omega arith))
