-- The places of the lemmas on equalities, after one more is kept and in grown contexts.
use Rattle.std.proofs.Common.{◌≡◌, ℕ, zero, suc, true, Some, refl, sym, ◌∙◌, ap, subst}
use Rattle.std.specs.Prelude.{IfSome}
use Rattle.std.specs.BTreeMap as tree
use Rattle.std.specs.BTreeMap.{BTreeMap, UpdatesBy, is_at}
use Rattle.std.specs.Ordering.{nat_cmp}
use Rattle.std.proofs.lemmas.Option.{IfSome_then}
use Rattle.prove_term.specs.Contexts.{Context, HasGrown}
use Rattle.prove_term.specs.EqualityLemmas.{IsEqualityAt, number_of}
use Rattle.prove_term.specs.declared.equality_lemmas.EqualityLemma.{EqualityLemma}
use Rattle.prove_term.specs.declared.equality_lemmas.EqualityLemma.TheVariants.{Flip, Join, CongFun}
use Rattle.prove_term.specs.declared.equality_lemmas.EqualityLemma.TheVariants.{CongArg, CongApp}
use Rattle.prove_term.specs.declared.equality_lemmas.EqualityLemma.TheVariants.{NameFirst, NameLast}
use Rattle.prove_term.proofs.ContextLaws.{lemma_there_grown}
use Rattle.prove_term.proofs.KeptSorts.{kept_at, same_number}

-- ---- growing

pub equality_grown : (a b : Context) (which : EqualityLemma) (k : ℕ) → HasGrown a b
    → IsEqualityAt a which k → IsEqualityAt b which k
equality_grown a b which k g h = record {
  lemma = h.lemma;
  there = lemma_there_grown a b k h.lemma g h.there;
  is = h.is;
}

pub equalities_grown : (a b : Context) (kept : BTreeMap ℕ ℕ) → HasGrown a b
    → ((which : EqualityLemma)
    → IfSome (tree.get nat_cmp kept (number_of which)) (IsEqualityAt a which))
    → (which : EqualityLemma)
    → IfSome (tree.get nat_cmp kept (number_of which)) (IsEqualityAt b which)
equalities_grown a b kept g h =
    λ which. IfSome_then (tree.get nat_cmp kept (number_of which)) (h which)
    (λ k is. equality_grown a b which k g is)

-- ---- keeping

-- the lemma with a number
numbered : ℕ → EqualityLemma
numbered zero = Flip
numbered (suc zero) = Join
numbered (suc (suc zero)) = CongFun
numbered (suc (suc (suc zero))) = CongArg
numbered (suc (suc (suc (suc zero)))) = CongApp
numbered (suc (suc (suc (suc (suc zero))))) = NameFirst
numbered (suc (suc (suc (suc (suc (suc n)))))) = NameLast

numbered-number : (which : EqualityLemma) → numbered (number_of which) ≡ which
unfolding numbered
numbered-number Flip = refl
numbered-number Join = refl
numbered-number CongFun = refl
numbered-number CongArg = refl
numbered-number CongApp = refl
numbered-number NameFirst = refl
numbered-number NameLast = refl

same_lemma : (which other : EqualityLemma) → number_of which ≡ number_of other → which ≡ other
same_lemma which other h = sym (numbered-number which) ∙ ap numbered h ∙ numbered-number other

pub equalities_kept : (cx : Context) (before after : BTreeMap ℕ ℕ) (which : EqualityLemma)
    (n k : ℕ) → n ≡ number_of which → IsEqualityAt cx which k
    → UpdatesBy nat_cmp (nat_cmp n) before after (Some k)
    → ((other : EqualityLemma)
    → IfSome (tree.get nat_cmp before (number_of other)) (IsEqualityAt cx other))
    → (other : EqualityLemma)
    → IfSome (tree.get nat_cmp after (number_of other)) (IsEqualityAt cx other)
equalities_kept cx before after which n k number is updates kept other =
    kept_at (IsEqualityAt cx other) (is_at (nat_cmp n) (number_of other))
    (tree.get nat_cmp before (number_of other)) (tree.get nat_cmp after (number_of other)) k
    (updates.0 (number_of other)) (kept other) here
  where
    here : is_at (nat_cmp n) (number_of other) ≡ true → IsEqualityAt cx other k
    here h =
        subst (λ (e : EqualityLemma). IsEqualityAt cx e k)
        (same_lemma which other (sym number ∙ same_number n (number_of other) h)) is
