-- The judgements about patterns, for instances.
use Rattle.std.proofs.Common.{◌≡◌, ◌==◌, ◌||◌, ◌&&◌, ℕ, ◌+◌, ◌<◌, List, [], ◌∷◌, Bool, true, false}
use Rattle.std.proofs.Common.{cond, Option, Some, None, option_map, slice_index_or, refl, sym, ◌∙◌}
use Rattle.std.proofs.Common.{ap, arith, suc, zero, length, subst, slice_get, ◌++◌}
use Rattle.std.proofs.Common as std
use Rattle.std.proofs.lemmas.Bool.{false≢true}
use Rattle.ml_pat.specs.Patterns.{Pattern, nullary, unary, binary, sorted, quantified, imp, not}
use Rattle.ml_pat.specs.Patterns.{and, or, equal, member, fun, var, meta}
use Rattle.ml_pat.specs.Judgements.{fresh, absent, substituted, predicate, both_parts}
use Rattle.ml_pat.specs.Judgements.{under_quantifier}
use Rattle.ml_pat.proofs.LeafLaws.{both_true, split_true}
use Rattle.ml_kernel.specs.Lemmas.{instance, IsMetaBelow, HasNoMeta, HasNoVariable, HaveNoVariables}
use Rattle.ml_kernel.specs.TheoryView.{HaveNoMetas}
use Rattle.ml_kernel.specs.Renamings.{renamed}

both : (a b c d : Bool) → a ≡ c → b ≡ d → (a && b) ≡ (c && d)
both a b c d e f = cc

-- every variable is fresh in a pattern without variables
pub fresh-without : (x : ℕ) (p : Pattern) → HasNoVariable p → fresh x p ≡ true
fresh-without x (binary c p q) h = both_true _ _ (fresh-without x p h.0) (fresh-without x q h.1)
fresh-without x (unary c p) h = fresh-without x p h
fresh-without x (sorted c p s) h = fresh-without x p h
fresh-without x (quantified c y s p) h = absurd h
fresh-without x (var y) h = absurd h
fresh-without x p h = refl

-- every variable is absent from a pattern without variables
pub absent-without : (x : ℕ) (p : Pattern) → HasNoVariable p → absent x p ≡ true
absent-without x (binary c p q) h = both_true _ _ (absent-without x p h.0) (absent-without x q h.1)
absent-without x (unary c p) h = absent-without x p h
absent-without x (sorted c p s) h = absent-without x p h
absent-without x (quantified c y s p) h = absurd h
absent-without x (var y) h = absurd h
absent-without x p h = refl

joined_none : (f : Pattern → Pattern → Pattern) (p q : Pattern) (a b : Option Pattern) → a ≡ Some p
    → b ≡ Some q → both_parts f a b ≡ Some (f p q)
joined_none f p q a b e g = rw (e, g) refl

-- substitution does not change a pattern without variables
pub substituted-without : (p : Pattern) (x : ℕ) (u : Pattern) → HasNoVariable p
    → substituted p x u ≡ Some p
substituted-without (binary c p q) x u h =
    joined_none (binary c) p q _ _ (substituted-without p x u h.0) (substituted-without q x u h.1)
substituted-without (unary c p) x u h = ap (option_map (unary c)) (substituted-without p x u h)
substituted-without (sorted c p s) x u h =
    ap (option_map (λ (r : Pattern). sorted c r s)) (substituted-without p x u h)
substituted-without (quantified c y s p) x u h = absurd h
substituted-without (var y) x u h = absurd h
substituted-without p x u h = refl

-- the pattern for a pattern variable has no object variable
pub HasNoVariable-place : (ms : List Pattern) (i j : ℕ) → HaveNoVariables ms
    → HasNoVariable (slice_index_or ms i (meta j))
HasNoVariable-place [] i j h = tt
HasNoVariable-place (m ∷ ms) zero j h = h.0
HasNoVariable-place (m ∷ ms) (suc i) j h = HasNoVariable-place ms i j h.1

-- the same variables are fresh in an instance
pub fresh-instance : (ms : List Pattern) (x : ℕ) (p : Pattern) → HaveNoVariables ms
    → fresh x (instance ms p) ≡ fresh x p
fresh-instance ms x (binary c p q) h =
    both _ _ _ _ (fresh-instance ms x p h) (fresh-instance ms x q h)
fresh-instance ms x (unary c p) h = fresh-instance ms x p h
fresh-instance ms x (sorted c p s) h = fresh-instance ms x p h
fresh-instance ms x (quantified c y s p) h = ap (λ b. (x == y) || b) (fresh-instance ms x p h)
fresh-instance ms x (meta i) h =
    fresh-without x (slice_index_or ms i (meta i)) (HasNoVariable-place ms i i h)
fresh-instance ms x p h = refl

-- the same variables are absent from an instance
pub absent-instance : (ms : List Pattern) (x : ℕ) (p : Pattern) → HaveNoVariables ms
    → absent x (instance ms p) ≡ absent x p
absent-instance ms x (binary c p q) h =
    both _ _ _ _ (absent-instance ms x p h) (absent-instance ms x q h)
absent-instance ms x (unary c p) h = absent-instance ms x p h
absent-instance ms x (sorted c p s) h = absent-instance ms x p h
absent-instance ms x (quantified c y s p) h =
    ap (λ b. std.not (x == y) && b) (absent-instance ms x p h)
absent-instance ms x (meta i) h =
    absent-without x (slice_index_or ms i (meta i)) (HasNoVariable-place ms i i h)
absent-instance ms x p h = refl

-- an instance of a predicate is a predicate
pub predicate-instance : (ms : List Pattern) (p : Pattern) → predicate p ≡ true
    → predicate (instance ms p) ≡ true
predicate-instance ms (nullary c) h = refl
predicate-instance ms (imp p q) h =
    let b = split_true _ _ h in
    both_true _ _ (predicate-instance ms p b.0) (predicate-instance ms q b.1)
predicate-instance ms (not p) h = predicate-instance ms p h
predicate-instance ms (and p q) h =
    let b = split_true _ _ h in
    both_true _ _ (predicate-instance ms p b.0) (predicate-instance ms q b.1)
predicate-instance ms (or p q) h =
    let b = split_true _ _ h in
    both_true _ _ (predicate-instance ms p b.0) (predicate-instance ms q b.1)
predicate-instance ms (equal p q) h = refl
predicate-instance ms (member p q) h = refl
predicate-instance ms (fun p s) h = refl
predicate-instance ms (quantified c y s p) h = predicate-instance ms p h
predicate-instance ms p h = absurd (false≢true h)

-- the instance of a pattern of two parts, each of which may be missing
two_parts : (ms : List Pattern) (f : Pattern → Pattern → Pattern) (a b c d : Option Pattern)
    → ((p q : Pattern) → instance ms (f p q) ≡ f (instance ms p) (instance ms q))
    → c ≡ option_map (instance ms) a → d ≡ option_map (instance ms) b
    → both_parts f c d ≡ option_map (instance ms) (both_parts f a b)
two_parts ms f None b c d k e g = rw e refl
two_parts ms f (Some p) None c d k e g = rw (e, g) refl
two_parts ms f (Some p) (Some q) c d k e g = rw (e, g) (ap Some (sym (k p q)))

one_part : (ms : List Pattern) (f : Pattern → Pattern) (a c : Option Pattern)
    → ((p : Pattern) → instance ms (f p) ≡ f (instance ms p)) → c ≡ option_map (instance ms) a
    → option_map f c ≡ option_map (instance ms) (option_map f a)
one_part ms f None c k e = rw e refl
one_part ms f (Some p) c k e = rw e (ap Some (sym (k p)))

under_binder : (ms : List Pattern) (f : Pattern → Pattern) (b d : Bool) (p : Pattern)
    (a c : Option Pattern) → ((p : Pattern) → instance ms (f p) ≡ f (instance ms p))
    → c ≡ option_map (instance ms) a
    → cond b (Some (f (instance ms p))) (cond d (option_map f c) None)
    ≡ option_map (instance ms) (cond b (Some (f p)) (cond d (option_map f a) None))
under_binder ms f true d p a c k e = ap Some (sym (k p))
under_binder ms f false true p a c k e = one_part ms f a c k e
under_binder ms f false false p a c k e = refl

under : (ms : List Pattern) (f : Pattern → Pattern) (x y : ℕ) (u p : Pattern) (a c : Option Pattern)
    → ((p : Pattern) → instance ms (f p) ≡ f (instance ms p)) → HaveNoVariables ms
    → c ≡ option_map (instance ms) a
    → under_quantifier f x y (instance ms u) (instance ms p) c
    ≡ option_map (instance ms) (under_quantifier f x y u p a)
under ms f x y u p a c k h e =
    rw (fresh-instance ms x p h, fresh-instance ms y u h)
    (under_binder ms f ((x == y) || fresh x p) (fresh y u) p a c k e)

chosen : (ms : List Pattern) (b : Bool) (u p : Pattern) → instance ms p ≡ p
    → cond b (Some (instance ms u)) (Some p) ≡ option_map (instance ms) (cond b (Some u) (Some p))
chosen ms true u p e = refl
chosen ms false u p e = ap Some (sym e)

-- substitution in an instance is the instance of the substitution
pub substituted-instance : (ms : List Pattern) (p : Pattern) (x : ℕ) (u : Pattern)
    → HaveNoVariables ms
    → substituted (instance ms p) x (instance ms u) ≡ option_map (instance ms) (substituted p x u)
substituted-instance ms (binary c p q) x u h =
    two_parts ms (binary c) _ _ _ _ (λ p q. refl) (substituted-instance ms p x u h)
    (substituted-instance ms q x u h)
substituted-instance ms (unary c p) x u h =
    one_part ms (unary c) _ _ (λ p. refl) (substituted-instance ms p x u h)
substituted-instance ms (sorted c p s) x u h =
    one_part ms (λ r. sorted c r s) _ _ (λ p. refl) (substituted-instance ms p x u h)
substituted-instance ms (quantified c y s p) x u h =
    under ms (quantified c y s) x y u p _ _ (λ p. refl) h (substituted-instance ms p x u h)
substituted-instance ms (var y) x u h = chosen ms (x == y) u (var y) refl
substituted-instance ms (meta i) x u h =
    substituted-without (slice_index_or ms i (meta i)) x (instance ms u)
    (HasNoVariable-place ms i i h)
substituted-instance ms p x u h = refl

-- a pattern without pattern variables is its own instance
pub instance-without : (ms : List Pattern) (p : Pattern) → HasNoMeta p → instance ms p ≡ p
instance-without ms (binary c p q) h = cc (instance-without ms p h.0, instance-without ms q h.1)
instance-without ms (unary c p) h = ap (unary c) (instance-without ms p h)
instance-without ms (sorted c p s) h = ap (λ r. sorted c r s) (instance-without ms p h)
instance-without ms (quantified c x s p) h = ap (quantified c x s) (instance-without ms p h)
instance-without ms (meta i) h = absurd (omega (arith, h))
instance-without ms p h = refl

-- renaming adds no pattern variable
pub HasNoMeta-renamed : (f : ℕ → ℕ) (p : Pattern) → HasNoMeta p → HasNoMeta (renamed f p)
HasNoMeta-renamed f (binary c p q) h = (HasNoMeta-renamed f p h.0, HasNoMeta-renamed f q h.1)
HasNoMeta-renamed f (unary c p) h = HasNoMeta-renamed f p h
HasNoMeta-renamed f (sorted c p s) h = HasNoMeta-renamed f p h
HasNoMeta-renamed f (quantified c x s p) h = HasNoMeta-renamed f p h
HasNoMeta-renamed f (meta i) h = h
HasNoMeta-renamed f p h = tt

-- if there are no patterns for pattern variables, a pattern is its own instance
pub instance-empty : (ms : List Pattern) (p : Pattern) → length ms ≡ 0 → IsMetaBelow (length ms) p
    → instance ms p ≡ p
instance-empty ms p e h = instance-without ms p (subst (λ n. IsMetaBelow n p) e h)

pub HasNoMeta-at : (ps : List Pattern) (i : ℕ) (p : Pattern) → HaveNoMetas ps
    → slice_get ps i ≡ Some p → HasNoMeta p
HasNoMeta-at [] i p h e = absurd (let z : ⊥ = cc in z)
HasNoMeta-at (q ∷ ps) zero p h e =
    let same : q ≡ p = cc in subst (λ (r : Pattern). HasNoMeta r) same h.0
HasNoMeta-at (q ∷ ps) (suc i) p h e = HasNoMeta-at ps i p h.1 e

pub HaveNoMetas-push : (ps : List Pattern) (p : Pattern) → HaveNoMetas ps → HasNoMeta p
    → HaveNoMetas (ps ++ p ∷ [])
HaveNoMetas-push [] p h k = (k, tt)
HaveNoMetas-push (q ∷ ps) p h k = (h.0, HaveNoMetas-push ps p h.1 k)
