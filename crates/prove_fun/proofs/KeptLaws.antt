-- The kept places of the lemmas of equations: what stays true when a context grows, and when one
-- more place is kept.
use Rattle.std.proofs.Common.{◌≡◌, ◌<◌, ℕ, Bool, true, false, cond, List, [], ◌∷◌, ◌++◌, Option}
use Rattle.std.proofs.Common.{Some, length, slice_get, refl, sym, ◌∙◌, subst}
use Rattle.std.specs.Prelude.{IfSome}
use Rattle.std.specs.BTreeMap.{BTreeMap, UpdatesBy, is_at}
use Rattle.std.specs.Map.{lookup}
use Rattle.std.specs.Ordering.{is_eq, ordering_then, nat_cmp}
use Rattle.std.specs.Cmp.{unsigned_ties}
use Rattle.std.specs.declared.cmp.Ordering.{Ordering}
use Rattle.std.specs.declared.cmp.Ordering.TheVariants.{Less, Equal, Greater}
use Rattle.std.proofs.lemmas.Bool.{false≢true, eqb-true}
use Rattle.std.proofs.lemmas.Option.{IfSome_then, slice_get_within}
use Rattle.ml_kernel.specs.Theorems.{Theorem}
use Rattle.rule_core.specs.Rules.{Equation}
use Rattle.rule_core.specs.Theories.{equations_of}
use Rattle.rule_core.specs.ProgramView.{theory_of}
use Rattle.rule_core.specs.declared.rules.Program.{Program}
use Rattle.prove_term.specs.Contexts.{Context, HasGrown}
use Rattle.prove_term.proofs.ContextLaws.{grown_none, grown_twice, grown_lemma, lemma_there_grown}
use Rattle.prove_term.proofs.ContextLaws.{contains_there}
use Rattle.prove_term.proofs.KeptInside.{last_there}
use Rattle.prove_term.proofs.EquationLaws.{says_equation_grown}
use Rattle.prove_equation.specs.EquationLemmas.{SaysEquationSchema, IsEquationLemma}
use Rattle.prove_fun.specs.KeptLemmas.{IsLemmaAt, IsKeptIn, pair_cmp}

-- ---- growing

pub schema_grown : (a b : Context) (f : ℕ) (e : Equation) (t : Theorem) → HasGrown a b
    → SaysEquationSchema a f e t → SaysEquationSchema b f e t
schema_grown a b f e t g h = record {
  sentence = h.sentence;
  is_sentence = says_equation_grown a b f e h.sentence g h.is_sentence;
  numbers = h.numbers;
  condition = h.condition;
  equality = h.equality;
  closes = h.closes;
  says = h.says;
  assumes = h.assumes;
}

lemma_at_grown : (a b : Context) (f i k : ℕ) → HasGrown a b → IsLemmaAt a f i k → IsLemmaAt b f i k
lemma_at_grown a b f i k g h = λ e there.
    let old : (t : Theorem) × (slice_get a.lemmas k ≡ Some t) × SaysEquationSchema a f e t =
    h e (subst (λ (p : Program). slice_get (equations_of (theory_of p) f) i ≡ Some e) g.program
    there) in
    (old.0, lemma_there_grown a b k old.0 g old.1, schema_grown a b f e old.0 g old.2)

pub kept_grown : (a b : Context) (kept : List ((ℕ × ℕ) × ℕ)) → HasGrown a b → IsKeptIn a kept
    → IsKeptIn b kept
kept_grown a b kept g h = record {
  each =
      λ f i. IfSome_then (lookup (is_at (pair_cmp (f, i))) kept) (h.each f i)
      (λ k is. lemma_at_grown a b f i k g is);
}

pub ruleset growing = (grown_none, grown_twice, kept_grown)

-- ---- the lemma of an equation

pub lemma_listed : (cx : Context) (f i k : ℕ) (e : Equation) (t : Theorem) → IsLemmaAt cx f i k
    → slice_get (equations_of (theory_of cx.program) f) i ≡ Some e → slice_get cx.lemmas k ≡ Some t
    → IsEquationLemma cx f e t
lemma_listed cx f i k e t at there is =
    let own : (u : Theorem) × (slice_get cx.lemmas k ≡ Some u) × SaysEquationSchema cx f e u =
    at e there in
    let same : Some own.0 ≡ Some t = sym own.1 ∙ is in
    record {
      listed = contains_there cx.lemmas k t is;
      says = subst (SaysEquationSchema cx f e) (same_theorem own.0 t same) own.2;
    }
  where
    same_theorem : (t u : Theorem) → Some t ≡ Some u → t ≡ u
    same_theorem t u e = cc

pub lemma_within : (cx : Context) (f i k : ℕ) (e : Equation) → IsLemmaAt cx f i k
    → slice_get (equations_of (theory_of cx.program) f) i ≡ Some e → k < length cx.lemmas
lemma_within cx f i k e at there = let own = at e there in slice_get_within cx.lemmas k own.0 own.1

pub lemma_made : (old cx : Context) (f i k : ℕ) (e : Equation) (t : Theorem) → HasGrown old cx
    → slice_get (equations_of (theory_of old.program) f) i ≡ Some e → SaysEquationSchema cx f e t
    → slice_get cx.lemmas k ≡ Some t → IsLemmaAt cx f i k
lemma_made old cx f i k e t g there says is = λ other at.
    let old_at : slice_get (equations_of (theory_of old.program) f) i ≡ Some other =
    subst (λ (p : Program). slice_get (equations_of (theory_of p) f) i ≡ Some other) g.program
    at in
    let same : Some e ≡ Some other = sym there ∙ old_at in
    (t, is, subst (λ (x : Equation). SaysEquationSchema cx f x t) (same_equation e other same) says)
  where
    same_equation : (x y : Equation) → Some x ≡ Some y → x ≡ y
    same_equation x y e = cc

-- ---- one more place

both_equal : (p q : Ordering) → is_eq (ordering_then p q) ≡ true
    → (is_eq p ≡ true) × (is_eq q ≡ true)
both_equal Less q h = absurd (false≢true h)
both_equal Equal q h = (refl, h)
both_equal Greater q h = absurd (false≢true h)

same_number : (a b : ℕ) → is_eq (nat_cmp a b) ≡ true → a ≡ b
same_number a b h = eqb-true a b (unsigned_ties a b ∙ h)

kept_at : (P : ℕ → Type 0) (t : Bool) (before after : Option ℕ) (k : ℕ)
    → after ≡ cond t (Some k) before → IfSome before P → (t ≡ true → P k) → IfSome after P
kept_at P true before after k e h f = subst (λ (o : Option ℕ). IfSome o P) (sym e) (f refl)
kept_at P false before after k e h f = subst (λ (o : Option ℕ). IfSome o P) (sym e) h

pub place_kept : (cx : Context) (before after : BTreeMap (ℕ × ℕ) ℕ) (x y k : ℕ) → IsLemmaAt cx x y k
    → UpdatesBy pair_cmp (pair_cmp (x, y)) before after (Some k) → IsKeptIn cx before.entries
    → IsKeptIn cx after.entries
place_kept cx before after x y k is updates kept = record {
  each =
      λ f i. kept_at (IsLemmaAt cx f i) (is_at (pair_cmp (x, y)) (f, i))
      (lookup (is_at (pair_cmp (f, i))) before.entries)
      (lookup (is_at (pair_cmp (f, i))) after.entries) k (updates.0 (f, i)) (kept.each f i)
      (here f i);
}
  where
    here : (f i : ℕ) → is_at (pair_cmp (x, y)) (f, i) ≡ true → IsLemmaAt cx f i k
    here f i h =
        let b : (is_eq (nat_cmp x f) ≡ true) × (is_eq (nat_cmp y i) ≡ true) =
        both_equal (nat_cmp x f) (nat_cmp y i) h in
        subst (λ (a : ℕ). IsLemmaAt cx a i k) (same_number x f b.0)
        (subst (λ (a : ℕ). IsLemmaAt cx x a k) (same_number y i b.1) is)

-- a lemma that was added at the end
pub lemma_placed : (old mid cx : Context) (f i k : ℕ) (e : Equation) (t : Theorem)
    → HasGrown old mid → slice_get (equations_of (theory_of old.program) f) i ≡ Some e
    → SaysEquationSchema mid f e t → cx ≡ record mid { lemmas = mid.lemmas ++ t ∷ [] }
    → k ≡ length mid.lemmas → HasGrown mid cx × IsLemmaAt cx f i k
lemma_placed old mid cx f i k e t g there says is at =
    let grown : HasGrown mid cx = subst (HasGrown mid) (sym is) (grown_lemma mid t) in
    let found : slice_get cx.lemmas k ≡ Some t =
    subst (λ (v : Context). slice_get v.lemmas k ≡ Some t) (sym is)
    (last_there mid.lemmas t k at) in (
      grown,
      lemma_made old cx f i k e t (grown_twice old mid cx g grown) there
          (schema_grown mid cx f e t grown says) found,
    )
