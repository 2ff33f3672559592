-- The lemmas on equalities of pattern variables, and their use.
use Rattle.std.proofs.Common.{◌≡◌, ◌+◌, ◌<◌, ℕ, true, zero, suc, List, [], ◌∷◌, ◌++◌, length, take}
use Rattle.std.proofs.Common.{get_or, inl, inr, refl, sym, ◌∙◌, ap, subst, arith}
use Rattle.std.specs.Prelude.{◌⊎◌, All, Contains, slice_index_or}
use Rattle.std.specs.List.{AllZip}
use Rattle.std.proofs.lemmas.List.{take_more}
use Rattle.ml_pat.specs.Patterns.{Pattern, equal, app}
use Rattle.ml_kernel.specs.Lemmas.{instance, instances, IsMetaBelow, AreMetasBelow, HasNoVariable}
use Rattle.ml_kernel.specs.Lemmas.{HaveNoVariables}
use Rattle.ml_kernel.specs.Theorems.{Theorem, conclusions}
use Rattle.ml_derived.specs.Equalities.{IsApplied, IsAppliedTo, IsArgument}
use Rattle.ml_derived.specs.Scopes.{Scope, IsOver, IsOverPlaces, IsWithin, AreWithin}
use Rattle.ml_derived.specs.Scopes.{CitesWithin}
use Rattle.prove_term.specs.Contexts.{Context, IsLemmaIn, StaysInWith}
use Rattle.prove_term.specs.EqualityLemmas.{first_of, second_of, conclusion_of, metas_of}
use Rattle.prove_term.specs.EqualityLemmas.{same_metas, IsMadeFor, IsEqualityHypothesis}
use Rattle.prove_term.specs.EqualityLemmas.{IsEqualityLemma, IsEqualityAt, IsFirst, IsLater}
use Rattle.prove_term.specs.EqualityLemmas.{ProvesEither, ProveHypotheses, CitesEquality}
use Rattle.prove_term.specs.Applications.{HasClosedSides}
use Rattle.prove_term.specs.declared.equality_lemmas.EqualityLemma.{EqualityLemma}
use Rattle.prove_term.specs.declared.equality_lemmas.EqualityLemma.TheVariants.{Flip, Join, CongFun}
use Rattle.prove_term.specs.declared.equality_lemmas.EqualityLemma.TheVariants.{CongArg, CongApp}
use Rattle.prove_term.specs.declared.equality_lemmas.EqualityLemma.TheVariants.{NameFirst, NameLast}
use Rattle.prove_term.proofs.ContextLaws.{contains_there}
use Rattle.prove_term.proofs.KeptInside.{last_there}

-- ---- what a lemma assumes

pub first_there : (p q : Pattern) → Contains (p ∷ q ∷ []) p
first_there p q = (zero, omega arith, refl)

pub second_there : (p q : Pattern) → Contains (p ∷ q ∷ []) q
second_there p q = (suc zero, omega arith, refl)

one_of : (p q r : Pattern) → Contains (p ∷ q ∷ []) r → (r ≡ p) ⊎ (r ≡ q)
one_of p q r (zero, low, is) = inl (sym is)
one_of p q r (suc zero, low, is) = inr (sym is)
one_of p q r (suc (suc k), low, is) = absurd (omega (arith, low))

-- a scope of all numbers, in which nothing was stated
abbrev everything : List Pattern → Scope
everything ps = record {
  sort = λ n. true;
  constant = λ n. true;
  object = λ n. true;
  meta = λ n. true;
  stated = [];
  assumed = ps;
}

made_assumes : (which : EqualityLemma) (t : Theorem) → IsMadeFor which t → (p : Pattern)
    → Contains t.hypotheses p → IsEqualityHypothesis which p
made_assumes which t made p there =
    let ps : List Pattern = first_of which ∷ second_of which ∷ [] in
    let within : IsWithin (everything ps) t =
    made.stays (everything ps) (λ x. refl) (λ i. refl) (λ q k. k) in
    one_of (first_of which) (second_of which) p (within.hypotheses p there).0

there_at : (ps : List Pattern) (k : ℕ) (d : Pattern) → k < length ps
    → Contains ps (slice_index_or ps k d)
there_at [] k d low = absurd (omega (arith, low))
there_at (p ∷ ps) zero d low = (zero, omega arith, refl)
there_at (p ∷ ps) (suc k) d low =
    let deeper : Contains ps (slice_index_or ps k d) = there_at ps k d (omega (arith, low)) in
    (suc deeper.0, omega (arith, deeper.1), deeper.2)

pub made_says : (which : EqualityLemma) (t : Theorem) → IsMadeFor which t → IsEqualityLemma which t
made_says which t made = record {
  says = made.says;
  hypotheses =
      λ k d low. made_assumes which t made (slice_index_or t.hypotheses k d)
      (there_at t.hypotheses k d low);
}

-- it stays wherever its own hypotheses may be assumed
pub made_stays : (which : EqualityLemma) (t : Theorem) → IsMadeFor which t → (cx : Context)
    → IsLemmaIn cx t
made_stays which t made cx s has own =
    let ps : List Pattern = first_of which ∷ second_of which ∷ [] in
    let within : IsWithin (record s { assumed = ps }) t =
    made.stays (record s { assumed = ps }) has.objects has.metas (λ q k. k) in
    record {
      hypotheses = λ p k. (own p k, (within.hypotheses p k).1);
      conclusion = within.conclusion;
      used = within.used;
      cited = within.cited;
    }

-- the lemma that was added last
pub equality_learned : (cx : Context) (which : EqualityLemma) (place : ℕ) (lemma : Theorem)
    → IsEqualityLemma which lemma → place ≡ length cx.lemmas
    → IsEqualityAt (record cx { lemmas = cx.lemmas ++ lemma ∷ [] }) which place
equality_learned cx which place lemma is last = record {
  lemma = lemma;
  there = last_there cx.lemmas lemma place last;
  is = is;
}

-- ---- proofs of its hypotheses

zip_push : {X Y : Type 0} (R : X → Y → Type 0) (xs : List X) (ys : List Y) (x : X) (y : Y)
    → AllZip R xs ys → R x y → AllZip R (xs ++ x ∷ []) (ys ++ y ∷ [])
zip_push R [] [] x y h k = (k, tt)
zip_push R [] (b ∷ ys) x y h k = absurd h
zip_push R (a ∷ xs) [] x y h k = absurd h
zip_push R (a ∷ xs) (b ∷ ys) x y h k = (h.0, zip_push R xs ys x y h.1 k)

kind : (which : EqualityLemma) (p : Pattern) → IsEqualityHypothesis which p → IsFirst p ⊎ IsLater p
kind Flip p (inl h) = inl h
kind Flip p (inr h) = inl h
kind Join p (inl h) = inl h
kind Join p (inr h) = inr (inl h)
kind CongFun p (inl h) = inl h
kind CongFun p (inr h) = inl h
kind CongArg p (inl h) = inr (inl h)
kind CongArg p (inr h) = inr (inl h)
kind CongApp p (inl h) = inl h
kind CongApp p (inr h) = inr (inr h)
kind NameFirst p (inl h) = inl h
kind NameFirst p (inr h) = inl h
kind NameLast p (inl h) = inl h
kind NameLast p (inr h) = inl h

pub kind_at : (which : EqualityLemma) (ps : List Pattern) (i : ℕ) (p : Pattern)
    → All (IsEqualityHypothesis which) ps → i < length ps → p ≡ get_or ps i p
    → IsFirst p ⊎ IsLater p
kind_at which ps i p all low is =
    kind which p (subst (IsEqualityHypothesis which) (sym is) (all i p low))

pub one_more_proof : (first second : Theorem) (ps : List Pattern) (i : ℕ) (p : Pattern)
    (ts : List Theorem) (t : Theorem) → i < length ps → p ≡ get_or ps i p
    → AllZip (ProvesEither first second) (take i ps) ts → ProvesEither first second p t
    → AllZip (ProvesEither first second) (take (i + 1) ps) (ts ++ t ∷ [])
one_more_proof first second ps i p ts t low is before here =
    let front : take (i + 1) ps ≡ take i ps ++ p ∷ [] =
    take_more ps i p low ∙ ap (λ (q : Pattern). take i ps ++ q ∷ []) (sym is) in
    subst (λ (qs : List Pattern). AllZip (ProvesEither first second) qs (ts ++ t ∷ []))
    (sym front)
    (zip_push (ProvesEither first second) (take i ps) ts p t before here)

same_left : (i j k l : ℕ) → same_metas i j ≡ same_metas k l → i ≡ k
same_left i j k l h = cc

not_later : (p : Pattern) → IsFirst p → IsLater p → ⊥
not_later p f (inl h) = let e : 0 ≡ 1 = same_left 0 1 1 2 (sym f ∙ h) in omega (arith, e)
not_later p f (inr h) = let e : 0 ≡ 2 = same_left 0 1 2 3 (sym f ∙ h) in omega (arith, e)

-- a hypothesis that is first is the first of the lemma, and a later one the second
is_first : (which : EqualityLemma) (p : Pattern) → IsEqualityHypothesis which p → IsFirst p
    → p ≡ first_of which
is_first Flip p h f = f
is_first Join p h f = f
is_first CongFun p h f = f
is_first CongArg p (inl h) f = h
is_first CongArg p (inr h) f = h
is_first CongApp p h f = f
is_first NameFirst p h f = f
is_first NameLast p h f = f

is_second : (which : EqualityLemma) (p : Pattern) → IsEqualityHypothesis which p → IsLater p
    → p ≡ second_of which
is_second Flip p (inl h) l = h
is_second Flip p (inr h) l = h
is_second Join p (inl h) l = absurd (not_later p h l)
is_second Join p (inr h) l = h
is_second CongFun p (inl h) l = h
is_second CongFun p (inr h) l = h
is_second CongArg p (inl h) l = h
is_second CongArg p (inr h) l = h
is_second CongApp p (inl h) l = absurd (not_later p h l)
is_second CongApp p (inr h) l = h
is_second NameFirst p (inl h) l = h
is_second NameFirst p (inr h) l = h
is_second NameLast p (inl h) l = h
is_second NameLast p (inr h) l = h

concludes : (which : EqualityLemma) (images : List Pattern) (first second : Theorem)
    → ProveHypotheses which images first second → (p : Pattern) (t : Theorem)
    → IsEqualityHypothesis which p → ProvesEither first second p t
    → t.conclusion ≡ instance images p
concludes which images first second proved p t h (inl k) =
    ap (λ (u : Theorem). u.conclusion) k.1 ∙ proved.one
    ∙ ap (instance images) (sym (is_first which p h k.0))
concludes which images first second proved p t h (inr k) =
    ap (λ (u : Theorem). u.conclusion) k.1 ∙ proved.two
    ∙ ap (instance images) (sym (is_second which p h k.0))

pair : {p q : Pattern} {ps qs : List Pattern} → p ≡ q → ps ≡ qs → p ∷ ps ≡ q ∷ qs
pair h k = cc

rest : (P : Pattern → Type 0) (p : Pattern) (ps : List Pattern) → All P (p ∷ ps) → All P ps
rest P p ps all = λ k d low. all (suc k) d (omega (arith, low))

pub proofs_conclude : (which : EqualityLemma) (images : List Pattern) (first second : Theorem)
    → ProveHypotheses which images first second → (ps : List Pattern) (ts : List Theorem)
    → All (IsEqualityHypothesis which) ps → AllZip (ProvesEither first second) ps ts
    → conclusions ts ≡ instances images ps
proofs_conclude which images first second proved [] [] all h = refl
proofs_conclude which images first second proved [] (t ∷ ts) all h = absurd h
proofs_conclude which images first second proved (p ∷ ps) [] all h = absurd h
proofs_conclude which images first second proved (p ∷ ps) (t ∷ ts) all h =
    pair (concludes which images first second proved p t (all 0 p (omega arith)) h.0)
    (proofs_conclude which images first second proved ps ts (rest (IsEqualityHypothesis which) p ps all) h.1)

first_metas : (which : EqualityLemma) → IsMetaBelow (metas_of which) (first_of which)
first_metas Flip = (omega arith, omega arith)
first_metas Join = (omega arith, omega arith)
first_metas CongFun = (omega arith, omega arith)
first_metas CongArg = (omega arith, omega arith)
first_metas CongApp = (omega arith, omega arith)
first_metas NameFirst = (omega arith, omega arith)
first_metas NameLast = (omega arith, omega arith)

second_metas : (which : EqualityLemma) → IsMetaBelow (metas_of which) (second_of which)
second_metas Flip = (omega arith, omega arith)
second_metas Join = (omega arith, omega arith)
second_metas CongFun = (omega arith, omega arith)
second_metas CongArg = (omega arith, omega arith)
second_metas CongApp = (omega arith, omega arith)
second_metas NameFirst = (omega arith, omega arith)
second_metas NameLast = (omega arith, omega arith)

conclusion_below : (which : EqualityLemma) → IsMetaBelow (metas_of which) (conclusion_of which)
conclusion_below Flip = (omega arith, omega arith)
conclusion_below Join = (omega arith, omega arith)
conclusion_below CongFun = ((omega arith, omega arith), (omega arith, omega arith))
conclusion_below CongArg = ((omega arith, omega arith), (omega arith, omega arith))
conclusion_below CongApp = ((omega arith, omega arith), (omega arith, omega arith))
conclusion_below NameFirst = ((omega arith, omega arith), omega arith)
conclusion_below NameLast = ((omega arith, omega arith), omega arith)

hypothesis_metas : (which : EqualityLemma) (p : Pattern) → IsEqualityHypothesis which p
    → IsMetaBelow (metas_of which) p
hypothesis_metas which p (inl h) = subst (IsMetaBelow (metas_of which)) (sym h) (first_metas which)
hypothesis_metas which p (inr h) = subst (IsMetaBelow (metas_of which)) (sym h) (second_metas which)

below : (which : EqualityLemma) (ps : List Pattern) → All (IsEqualityHypothesis which) ps
    → AreMetasBelow (metas_of which) ps
below which [] all = tt
below which (p ∷ ps) all =
    (hypothesis_metas which p (all 0 p (omega arith)), below which ps (rest (IsEqualityHypothesis which) p ps all))

pub hypotheses_metas : (which : EqualityLemma) (n : ℕ) (ps : List Pattern) → n ≡ metas_of which
    → All (IsEqualityHypothesis which) ps → AreMetasBelow n ps
hypotheses_metas which n ps is all =
    subst (λ (k : ℕ). AreMetasBelow k ps) (sym is) (below which ps all)

pub conclusion_metas : (which : EqualityLemma) (n : ℕ) (lemma : Theorem) → n ≡ metas_of which
    → IsEqualityLemma which lemma → IsMetaBelow n lemma.conclusion
conclusion_metas which n lemma is h =
    subst (λ (k : ℕ). IsMetaBelow k lemma.conclusion) (sym is)
    (subst (IsMetaBelow (metas_of which)) (sym h.says) (conclusion_below which))

-- ---- its use

conclusion_over : (which : EqualityLemma) (s : Scope) → IsOverPlaces s (conclusion_of which)
conclusion_over Flip s = (tt, tt)
conclusion_over Join s = (tt, tt)
conclusion_over CongFun s = ((tt, tt), (tt, tt))
conclusion_over CongArg s = ((tt, tt), (tt, tt))
conclusion_over CongApp s = ((tt, tt), (tt, tt))
conclusion_over NameFirst s = ((tt, tt), tt)
conclusion_over NameLast s = ((tt, tt), tt)

proofs_within : (s : Scope) (first second : Theorem) (ps : List Pattern) (ts : List Theorem)
    → IsWithin s first → IsWithin s second → AllZip (ProvesEither first second) ps ts
    → AreWithin s ts
proofs_within s first second [] [] one two h = tt
proofs_within s first second [] (t ∷ ts) one two h = absurd h
proofs_within s first second (p ∷ ps) [] one two h = absurd h
proofs_within s first second (p ∷ ps) (t ∷ ts) one two (inl k, more) =
    (subst (IsWithin s) (sym k.1) one, proofs_within s first second ps ts one two more)
proofs_within s first second (p ∷ ps) (t ∷ ts) one two (inr k, more) =
    (subst (IsWithin s) (sym k.1) two, proofs_within s first second ps ts one two more)

pub cites : (which : EqualityLemma) (lemma first second t : Theorem) (images : List Pattern)
    (ts : List Theorem) → IsEqualityLemma which lemma
    → AllZip (ProvesEither first second) lemma.hypotheses ts → CitesWithin lemma images ts t
    → CitesEquality lemma images first second t
cites which lemma first second t images ts is proofs by s stated over (one, (two, none)) =
    by s stated (subst (IsOverPlaces s) (sym is.says) (conclusion_over which s)) over
    (proofs_within s first second lemma.hypotheses ts one two proofs)

-- in a context that has the lemma
pub stays_cited : (cx : Context) (which : EqualityLemma) (place : ℕ) (lemma first second t : Theorem)
    (images : List Pattern) (at : IsEqualityAt cx which place) → at.lemma ≡ lemma
    → CitesEquality lemma images first second t
    → StaysInWith cx images (first ∷ second ∷ []) t
stays_cited cx which place lemma first second t images at same by s has over within =
    subst (λ (l : Theorem). CitesEquality l images first second t) (sym same) by s
    (has.lemmas at.lemma (contains_there cx.lemmas place at.lemma at.there)) over within

-- ---- congruence

-- the sides of an equality are determined
pub same_sides : (p q p' q' : Pattern) → equal p q ≡ equal p' q' → (p ≡ p') × (q ≡ q')
same_sides p q p' q' h = (cc, cc)

pub closed_sides : (e p q : Pattern) → e ≡ equal p q → HasClosedSides e
    → HasNoVariable p × HasNoVariable q
closed_sides e p q is (p', (q', (is', (closed, closed')))) =
    let same : (p' ≡ p) × (q' ≡ q) = same_sides p' q' p q (sym is' ∙ is) in
    (subst HasNoVariable same.0 closed, subst HasNoVariable same.1 closed')

pub both_over : (s : Scope) (t : Theorem) (p q : Pattern) → t.conclusion ≡ equal p q → IsWithin s t
    → IsOver s p × IsOver s q
both_over s t p q is within = subst (IsOver s) is within.conclusion

abbrev pub three : Pattern → Pattern → Pattern → List Pattern
three p q r = p ∷ q ∷ r ∷ []

abbrev pub four : Pattern → Pattern → Pattern → Pattern → List Pattern
four p q r t = p ∷ q ∷ r ∷ t ∷ []

pub fun_closed : (f : Theorem) (p q r : Pattern) (images : List Pattern) → images ≡ three p q r
    → f.conclusion ≡ equal p q → HasClosedSides f.conclusion → HasNoVariable r
    → HaveNoVariables images
fun_closed f p q r images all is sides closed =
    let both : HasNoVariable p × HasNoVariable q = closed_sides f.conclusion p q is sides in
    subst HaveNoVariables (sym all) (both.0, (both.1, (closed, tt)))

pub fun_proved : (f : Theorem) (p q r : Pattern) (images : List Pattern) → images ≡ three p q r
    → f.conclusion ≡ equal p q → ProveHypotheses CongFun images f f
fun_proved f p q r images all is =
    subst (λ (ms : List Pattern). ProveHypotheses CongFun ms f f) (sym all)
    (record { one = is; two = is })

pub fun_says : (f t : Theorem) (p q r : Pattern) (images : List Pattern) → images ≡ three p q r
    → f.conclusion ≡ equal p q → t.conclusion ≡ instance images (conclusion_of CongFun)
    → IsAppliedTo f.conclusion r t.conclusion
fun_says f t p q r images all is says p' q' is' =
    let same : (p ≡ p') × (q ≡ q') = same_sides p q p' q' (sym is ∙ is') in
    says ∙ ap (λ (ms : List Pattern). instance ms (conclusion_of CongFun)) all
    ∙ ap (λ (x : Pattern). equal (app x r) (app q r)) same.0
    ∙ ap (λ (x : Pattern). equal (app p' r) (app x r)) same.1

pub fun_stays : (cx : Context) (f t : Theorem) (p q r : Pattern) (images : List Pattern)
    → images ≡ three p q r → f.conclusion ≡ equal p q → StaysInWith cx images (f ∷ f ∷ []) t
    → StaysInWith cx (r ∷ []) (f ∷ []) t
fun_stays cx f t p q r images all is stays s has over within =
    let both : IsOver s p × IsOver s q = both_over s f p q is within.0 in
    subst (λ (ms : List Pattern). StaysInWith cx ms (f ∷ f ∷ []) t) all stays s has
    (both.0, (both.1, (over.0, tt))) (within.0, (within.0, tt))

pub arg_closed : (a : Theorem) (p r t : Pattern) (images : List Pattern) → images ≡ three p r t
    → a.conclusion ≡ equal r t → HasClosedSides a.conclusion → HasNoVariable p
    → HaveNoVariables images
arg_closed a p r t images all is sides closed =
    let both : HasNoVariable r × HasNoVariable t = closed_sides a.conclusion r t is sides in
    subst HaveNoVariables (sym all) (closed, (both.0, (both.1, tt)))

pub arg_proved : (a : Theorem) (p r t : Pattern) (images : List Pattern) → images ≡ three p r t
    → a.conclusion ≡ equal r t → ProveHypotheses CongArg images a a
arg_proved a p r t images all is =
    subst (λ (ms : List Pattern). ProveHypotheses CongArg ms a a) (sym all)
    (record { one = is; two = is })

pub arg_says : (a made : Theorem) (p r t : Pattern) (images : List Pattern) → images ≡ three p r t
    → a.conclusion ≡ equal r t → made.conclusion ≡ instance images (conclusion_of CongArg)
    → IsArgument p a.conclusion made.conclusion
arg_says a made p r t images all is says r' t' is' =
    let same : (r ≡ r') × (t ≡ t') = same_sides r t r' t' (sym is ∙ is') in
    says ∙ ap (λ (ms : List Pattern). instance ms (conclusion_of CongArg)) all
    ∙ ap (λ (x : Pattern). equal (app p x) (app p t)) same.0
    ∙ ap (λ (x : Pattern). equal (app p r') (app p x)) same.1

pub arg_stays : (cx : Context) (a made : Theorem) (p r t : Pattern) (images : List Pattern)
    → images ≡ three p r t → a.conclusion ≡ equal r t
    → StaysInWith cx images (a ∷ a ∷ []) made → StaysInWith cx (p ∷ []) (a ∷ []) made
arg_stays cx a made p r t images all is stays s has over within =
    let both : IsOver s r × IsOver s t = both_over s a r t is within.0 in
    subst (λ (ms : List Pattern). StaysInWith cx ms (a ∷ a ∷ []) made) all stays s has
    (over.0, (both.0, (both.1, tt))) (within.0, (within.0, tt))

pub app_closed : (f a : Theorem) (p q r t : Pattern) (images : List Pattern)
    → images ≡ four p q r t → f.conclusion ≡ equal p q → a.conclusion ≡ equal r t
    → HasClosedSides f.conclusion → HasClosedSides a.conclusion → HaveNoVariables images
app_closed f a p q r t images all is is' sides sides' =
    let one : HasNoVariable p × HasNoVariable q = closed_sides f.conclusion p q is sides in
    let two : HasNoVariable r × HasNoVariable t = closed_sides a.conclusion r t is' sides' in
    subst HaveNoVariables (sym all) (one.0, (one.1, (two.0, (two.1, tt))))

pub app_proved : (f a : Theorem) (p q r t : Pattern) (images : List Pattern)
    → images ≡ four p q r t → f.conclusion ≡ equal p q → a.conclusion ≡ equal r t
    → ProveHypotheses CongApp images f a
app_proved f a p q r t images all is is' =
    subst (λ (ms : List Pattern). ProveHypotheses CongApp ms f a) (sym all)
    (record { one = is; two = is' })

pub app_says : (f a made : Theorem) (p q r t : Pattern) (images : List Pattern)
    → images ≡ four p q r t → f.conclusion ≡ equal p q → a.conclusion ≡ equal r t
    → made.conclusion ≡ instance images (conclusion_of CongApp)
    → IsApplied f.conclusion a.conclusion made.conclusion
app_says f a made p q r t images all is is' says p' q' r' t' at at' =
    let one : (p ≡ p') × (q ≡ q') = same_sides p q p' q' (sym is ∙ at) in
    let two : (r ≡ r') × (t ≡ t') = same_sides r t r' t' (sym is' ∙ at') in
    says ∙ ap (λ (ms : List Pattern). instance ms (conclusion_of CongApp)) all
    ∙ ap (λ (x : Pattern). equal (app x r) (app q t)) one.0
    ∙ ap (λ (x : Pattern). equal (app p' r) (app x t)) one.1
    ∙ ap (λ (x : Pattern). equal (app p' x) (app q' t)) two.0
    ∙ ap (λ (x : Pattern). equal (app p' r') (app q' x)) two.1

pub app_stays : (cx : Context) (f a made : Theorem) (p q r t : Pattern) (images : List Pattern)
    → images ≡ four p q r t → f.conclusion ≡ equal p q → a.conclusion ≡ equal r t
    → StaysInWith cx images (f ∷ a ∷ []) made → StaysInWith cx [] (f ∷ a ∷ []) made
app_stays cx f a made p q r t images all is is' stays s has over within =
    let one : IsOver s p × IsOver s q = both_over s f p q is within.0 in
    let two : IsOver s r × IsOver s t = both_over s a r t is' within.1.0 in
    subst (λ (ms : List Pattern). StaysInWith cx ms (f ∷ a ∷ []) made) all stays s has
    (one.0, (one.1, (two.0, (two.1, tt)))) within
