-- Sentences for all of numbered variables, at patterns with variables of smaller numbers.
use Rattle.std.proofs.Common.{◌≡◌, ◌+◌, ◌≤◌, ℕ, List, [], ◌∷◌, Some, length, refl, sym}
use Rattle.std.proofs.Common.{◌∙◌, ap, subst, arith}
use Rattle.ml_pat.specs.Patterns.{Pattern, all, imp, fun}
use Rattle.ml_pat.specs.Judgements.{substituted}
use Rattle.ml_derived.specs.Instances.{IsOpenInstance, SaysOpenInstance}
use Rattle.prove_term.specs.Numbered.{all_from}
use Rattle.prove_open.specs.Values.{at_values, values_from, AreOpenBelow, BindsFrom, facts_under}
use Rattle.prove_open.specs.Instances.{IsForPatterns, HoldsOfPatterns}
use Rattle.prove_open.proofs.ValueLaws.{all_open_further, binds_less, values_of_variables}
use Rattle.prove_open.proofs.ValueLaws.{values_one_by_one, values_bind, substituted-values}

values_all : (e : ℕ → Pattern) (k : ℕ) (ss : List ℕ) (p : Pattern)
    → at_values e (all_from k ss p) ≡ all_from k ss (at_values e p)
values_all e k [] p = refl
values_all e k (s ∷ ss) p = ap (all k s) (values_all e (k + 1) ss p)

all_binds : (m k : ℕ) (ss : List ℕ) (p : Pattern) → m ≤ k → BindsFrom m p
    → BindsFrom m (all_from k ss p)
all_binds m k [] p le h = h
all_binds m k (s ∷ ss) p le h = (le, all_binds m (k + 1) ss p (omega (arith, le)) h)

-- The instance at these patterns is the body with all of them in place of its variables.
pub open_instance : (h : Pattern) (k : ℕ) (qs : List Pattern) (ss : List ℕ) (body : Pattern)
    → length qs ≡ length ss → AreOpenBelow k qs → BindsFrom (k + length qs) body
    → IsOpenInstance h (all_from k ss body) (facts_under h qs ss)
    (at_values (values_from k qs) body)
open_instance h k [] [] body many low binds = values_of_variables body
open_instance h k [] (s ∷ ss) body many low binds = absurd (omega (arith, many))
open_instance h k (q ∷ qs) [] body many low binds = absurd (omega (arith, many))
open_instance h k (q ∷ qs) (s ∷ ss) body many low binds =
    let one : ℕ → Pattern = values_from k (q ∷ []) in
    let made : Pattern = all_from (k + 1) ss (at_values (values_from k (q ∷ [])) body) in
    let put : substituted (all_from (k + 1) ss body) k q
    ≡ Some (all_from (k + 1) ss (at_values (values_from k (q ∷ [])) body)) =
    substituted-values k q (all_from (k + 1) ss body) low.0
    (all_binds (k + 1) (k + 1) ss body (omega arith)
    (binds_less (k + 1) (k + length (q ∷ qs)) body (omega arith) binds))
    ∙ ap (λ (p : Pattern). Some p) (values_all (values_from k (q ∷ [])) (k + 1) ss body) in
    let rest : IsOpenInstance h
    (all_from (k + 1) ss (at_values (values_from k (q ∷ [])) body)) (facts_under h qs ss)
    (at_values (values_from (k + 1) qs) (at_values (values_from k (q ∷ [])) body)) =
    open_instance h (k + 1) qs ss (at_values (values_from k (q ∷ [])) body) (omega (arith, many))
    (all_open_further k (k + 1) qs (omega arith) low.1)
    (values_bind (k + 1 + length qs) k q body low.0
    (binds_less (k + 1 + length qs) (k + length (q ∷ qs)) body (omega arith) binds)) in (
      k,
      (
        s,
        (
          q,
          (
            all_from (k + 1) ss body,
            (
              made,
              (
                refl,
                (
                  refl,
                  (
                    put,
                    subst
                        (λ (r : Pattern). IsOpenInstance h
                        (all_from (k + 1) ss (at_values (values_from k (q ∷ [])) body))
                        (facts_under h qs ss) r)
                        (values_one_by_one k q qs body low.0) rest,
                  ),
                ),
              ),
            ),
          ),
        ),
      ),
    )

all_same : (x y s v : ℕ) (p q : Pattern) → all x s p ≡ all y v q → (x ≡ y) × (p ≡ q)
all_same x y s v p q e = (cc, cc)

said_same : (h p q : Pattern) (s v : ℕ) → imp h (fun p s) ≡ imp h (fun q v) → p ≡ q
said_same h p q s v e = cc

made_same : (x y : ℕ) (p q b d m n : Pattern) → x ≡ y → p ≡ q → b ≡ d
    → substituted b x p ≡ Some m → substituted d y q ≡ Some n → m ≡ n
made_same x y p q b d m n e k i made other = cc

-- a sentence has only one such instance
pub IsOpenInstance-unique : (h p : Pattern) (facts : List Pattern) (r t : Pattern)
    → IsOpenInstance h p facts r → IsOpenInstance h p facts t → r ≡ t
IsOpenInstance-unique h p [] r t i j = i ∙ sym j
IsOpenInstance-unique h p (fact ∷ facts) r t
    (x, (s, (q, (body, (made, (is, (says, (put, rest))))))))
    (y, (v, (u, (other, (built, (as_is, (as_says, (as_put, more)))))))) =
    let binders : (x ≡ y) × (body ≡ other) = all_same x y s v body other (sym is ∙ as_is) in
    let same : made ≡ built =
    made_same x y q u body other made built binders.0 (said_same h q u s v (sym says ∙ as_says))
    binders.1 put as_put in
    IsOpenInstance-unique h built facts r t
    (subst (λ (m : Pattern). IsOpenInstance h m facts r) same rest) more

-- what the code needs and says
pub opens : (h sentence : Pattern) (facts : List Pattern) (f : IsForPatterns h sentence facts)
    → IsOpenInstance h sentence facts (at_values (values_from f.k f.qs) f.body)
opens h sentence facts f =
    subst
    (λ (p : Pattern). IsOpenInstance h p facts (at_values (values_from f.k f.qs) f.body))
    (sym f.is)
    (subst
    (λ (ps : List Pattern). IsOpenInstance h (all_from f.k f.numbers f.body) ps
    (at_values (values_from f.k f.qs) f.body))
    (sym f.facts_are)
    (open_instance h f.k f.qs f.numbers f.body f.many f.below f.binds))

pub holds : (h sentence : Pattern) (facts : List Pattern) (t : Pattern)
    → SaysOpenInstance h sentence facts t → HoldsOfPatterns h sentence facts t
holds h sentence facts t (r, (is, i)) = λ f. is
    ∙ ap (imp h) (IsOpenInstance-unique h sentence facts r
    (at_values (values_from f.k f.qs) f.body) i (opens h sentence facts f))
