-- Hypotheses on variables: their images, and the facts that they give.
use Rattle.std.proofs.Common.{◌≡◌, ◌<◌, ◌≤◌, ◌+◌, ◌==◌, ℕ, zero, suc, Bool, true, false, List, []}
use Rattle.std.proofs.Common.{◌∷◌, ◌++◌, Option, Some, None, length, take, drop, get_or, refl, sym}
use Rattle.std.proofs.Common.{◌∙◌, ap, subst, arith, slice_get, add-one, drop-cons}
use Rattle.std.specs.Prelude.{All, Contains, slice_index_or, slice_set, replicate, ◌⊎◌}
use Rattle.std.proofs.Common.{inl, inr}
use Rattle.std.proofs.lemmas.Bool.{eqb-true, eqb-false}
use Rattle.std.proofs.lemmas.List.{take_more, take_all, drop_more, drop_all}
use Rattle.std.proofs.lemmas.List.Elements.{Contains-append_cases}
use Rattle.ml_pat.specs.Patterns.{Pattern, and, fun, imp, var, top}
use Rattle.ml_pat.specs.Judgements.{IsPredicate}
use Rattle.ml_kernel.specs.Theorems.{Theorem}
use Rattle.ml_derived.specs.Scopes.{StaysWithin}
use Rattle.term_core.specs.RulePatterns.{sort_numbers}
use Rattle.term_core.specs.declared.ids.SortId.{SortId}
use Rattle.rule_core.specs.Sorting.{AreSorts}
use Rattle.rule_core.proofs.FirstApplies.{all_at}
use Rattle.rule_core.specs.declared.signature.Signature.{Signature}
use Rattle.ml_image.specs.Images.{both, sort_image}
use Rattle.ml_image.specs.Sentences.{sentence_image}
use Rattle.prove_term.specs.Contexts.{Context, HasGrown}
use Rattle.prove_term.proofs.ContextLaws.{image_grown}
use Rattle.prove_term.proofs.ImageShapes.{both_some}
use Rattle.prove_term.proofs.InjectionSteps.{number_at}
use Rattle.prove_open.specs.Givens.{all_sorted, IsFactOn, IsGiven}
use Rattle.prove_open.specs.declared.givens.Given.{Given}
use Rattle.prove_open.specs.Hypotheses.{IsHypothesis, AreFacts, GivesFacts, IsConjoined, IsFirst}
use Rattle.prove_open.specs.Hypotheses.{IsSecond}

some_same : {A : Type 0} (a b : A) → Some a ≡ Some b → a ≡ b
some_same a b e = cc

-- ---- the hypothesis

item_at : (ss : List ℕ) (i : ℕ) → i < length ss → slice_get ss i ≡ Some (slice_index_or ss i 0)
item_at [] i low = absurd (omega (arith, low))
item_at (s ∷ ss) zero low = refl
item_at (s ∷ ss) (suc i) low = item_at ss i (omega (arith, low))

pub sort_within : (sig : Signature) (ss : List SortId) (i : ℕ) (d : SortId)
    → AreSorts sig (sort_numbers ss) → i < length ss → (get_or ss i d).0 < length sig.sorts
sort_within sig [] i d h low = absurd (omega (arith, low))
sort_within sig (s ∷ ss) zero d h low = h.0
sort_within sig (s ∷ ss) (suc i) d h low = sort_within sig ss i d h.1 (omega (arith, low))

-- the conjunction with one more variable in front
pub sorted_next : (old new : Context) (sorts xs : List ℕ) (x n : ℕ) (rest : Pattern)
    → HasGrown old new
    → sentence_image old.program.sig old.names (all_sorted sorts xs) ≡ Some rest
    → sort_image new.program.sig new.names (slice_index_or sorts x 0) ≡ Some n
    → sentence_image new.program.sig new.names (all_sorted sorts (x ∷ xs))
    ≡ Some (and (fun (var x) n) rest)
sorted_next old new sorts xs x n rest g is number =
    ap
    (λ (o : Option ℕ). both and (both fun (Some (var x)) o)
    (sentence_image new.program.sig new.names (all_sorted sorts xs))) number
    ∙ ap (both and (Some (fun (var x) n)))
    (image_grown old new (all_sorted sorts xs) rest g is)

-- a variable of the list is below the bound of all of them
pub variable_low : (n : ℕ) (vars : List ℕ) (i : ℕ) → All (λ x. x < n) vars → i < length vars
    → get_or vars i 0 < n
variable_low n vars i low lt =
    all_at (λ (x : ℕ). x < n) vars i (get_or vars i 0) low (item_at vars i lt)

-- without variables the hypothesis is `top`
pub sorted_none : (cx : Context) (sorts vars : List ℕ) (whole : Pattern) → whole ≡ top
    → sentence_image cx.program.sig cx.names (all_sorted sorts (drop (length vars) vars))
    ≡ Some whole
sorted_none cx sorts vars whole is =
    ap (λ (xs : List ℕ). sentence_image cx.program.sig cx.names (all_sorted sorts xs))
    (drop_all (length vars) vars (omega arith))
    ∙ ap (λ (p : Pattern). Some p) (sym is)

-- the hypothesis on the variables from one of them on
pub sorted_from : (old new : Context) (ss : List SortId) (vars : List ℕ) (i j n : ℕ) (d : SortId)
    (rest : Pattern) → HasGrown old new → i ≡ j + 1 → j < length vars
    → get_or vars j 0 < length ss
    → sentence_image old.program.sig old.names (all_sorted (sort_numbers ss) (drop i vars))
    ≡ Some rest
    → sort_image new.program.sig new.names (get_or ss (get_or vars j 0) d).0 ≡ Some n
    → sentence_image new.program.sig new.names (all_sorted (sort_numbers ss) (drop j vars))
    ≡ Some (and (fun (var (get_or vars j 0)) n) rest)
sorted_from old new ss vars i j n d rest g next lt low is number =
    ap (λ (xs : List ℕ). sentence_image new.program.sig new.names (all_sorted (sort_numbers ss) xs))
    (drop_more vars j 0 lt)
    ∙ sorted_next old new (sort_numbers ss) (drop (j + 1) vars) (get_or vars j 0) n rest g
    (subst (λ (k : ℕ). sentence_image old.program.sig old.names
    (all_sorted (sort_numbers ss) (drop k vars)) ≡ Some rest) next is)
    (ap (sort_image new.program.sig new.names) (number_at ss (get_or vars j 0) d low) ∙ number)

-- ---- one variable of the hypothesis

-- the image of the conjunction, taken apart
pub record IsSplit (sig : Signature) (names : List (List ℕ)) (sorts xs : List ℕ) (x : ℕ)
    (whole : Pattern) : Type 0 where
  pub number : ℕ
  pub is_number : sort_image sig names (slice_index_or sorts x 0) ≡ Some number
  pub rest : Pattern
  pub is_rest : sentence_image sig names (all_sorted sorts xs) ≡ Some rest
  pub is : whole ≡ and (fun (var x) number) rest

pub split : (sig : Signature) (names : List (List ℕ)) (sorts xs : List ℕ) (x : ℕ) (whole : Pattern)
    → sentence_image sig names (all_sorted sorts (x ∷ xs)) ≡ Some whole
    → IsSplit sig names sorts xs x whole
split sig names sorts xs x whole e =
    let w : (p : Pattern) × (q : Pattern)
    × (both fun (Some (var x)) (sort_image sig names (slice_index_or sorts x 0)) ≡ Some p)
    × (sentence_image sig names (all_sorted sorts xs) ≡ Some q) × (whole ≡ and p q) =
    both_some and (both fun (Some (var x)) (sort_image sig names (slice_index_or sorts x 0)))
    (sentence_image sig names (all_sorted sorts xs)) whole e in
    let u : (p : Pattern) × (n : ℕ) × (Some (var x) ≡ Some p)
    × (sort_image sig names (slice_index_or sorts x 0) ≡ Some n) × (w.0 ≡ fun p n) =
    both_some fun (Some (var x)) (sort_image sig names (slice_index_or sorts x 0)) w.0 w.2 in
    record {
      number = u.1;
      is_number = u.3;
      rest = w.1;
      is_rest = w.3;
      is =
          w.4
          ∙ ap (λ (p : Pattern). and p w.1)
          (u.4 ∙ ap (λ (p : Pattern). fun p u.1) (sym (some_same (var x) u.0 u.2)));
    }

-- ---- places of lists

set_there : {A : Type 0} (xs : List A) (i : ℕ) (v : A) → i < length xs
    → slice_get (slice_set xs i v) i ≡ Some v
set_there [] i v low = absurd (omega (arith, low))
set_there (x ∷ xs) zero v low = refl
set_there (x ∷ xs) (suc i) v low = set_there xs i v (omega (arith, low))

set_elsewhere : {A : Type 0} (xs : List A) (i j : ℕ) (v : A) → (i ≡ j → ⊥)
    → slice_get (slice_set xs i v) j ≡ slice_get xs j
set_elsewhere [] i j v other = refl
set_elsewhere (x ∷ xs) zero zero v other = absurd (other refl)
set_elsewhere (x ∷ xs) zero (suc j) v other = refl
set_elsewhere (x ∷ xs) (suc i) zero v other = refl
set_elsewhere (x ∷ xs) (suc i) (suc j) v other =
    set_elsewhere xs i j v (λ e. other (ap suc e))

set_length : {A : Type 0} (xs : List A) (i : ℕ) (v : A)
    → length (slice_set xs i v) ≡ length xs
set_length [] i v = refl
set_length (x ∷ xs) zero v = refl
set_length (x ∷ xs) (suc i) v = ap suc (set_length xs i v)

-- no facts
pub none_there : (n x : ℕ) (t : Theorem) → slice_get (replicate n None) x ≡ Some (Some t) → ⊥
none_there zero x t e = none_some (Some t) e
  where
    none_some : {A : Type 0} (a : A) → None ≡ Some a → ⊥
    none_some a e = cc
none_there (suc n) zero t e = none_some t (some_same None (Some t) e)
  where
    none_some : {A : Type 0} (a : A) → None ≡ Some a → ⊥
    none_some a e = cc
none_there (suc n) (suc x) t e = none_there n x t e

-- ---- the facts, one after another

-- What is left after the first i variables: the theorem says the conjunction for the others. There
-- are facts on the first i variables.
pub record IsLeft (sorts vars : List ℕ) (h : Pattern) (i : ℕ) (rest : Theorem)
    (facts : List (Option Theorem)) : Type 0 where
  pub many : length facts ≡ length sorts
  pub inner : Pattern
  pub is : rest.conclusion ≡ imp h inner
  pub image : (sig : Signature) (names : List (List ℕ))
      → sentence_image sig names (all_sorted sorts vars) ≡ Some h
      → sentence_image sig names (all_sorted sorts (drop i vars)) ≡ Some inner
  pub stays : StaysWithin (h ∷ []) [] rest
  pub are : (cx : Context) → sentence_image cx.program.sig cx.names (all_sorted sorts vars) ≡ Some h
      → AreFacts cx sorts (take i vars) h facts

length-none : (n : ℕ) → length {A = Option Theorem} (replicate n None) ≡ n
length-none zero = refl
length-none (suc n) = ap suc (length-none n)

pub left_start : (sorts vars : List ℕ) (h : Pattern) (n : ℕ) (rest : Theorem)
    (facts : List (Option Theorem)) → n ≡ length sorts → facts ≡ replicate n None
    → rest.conclusion ≡ imp h h → StaysWithin (h ∷ []) [] rest → IsLeft sorts vars h 0 rest facts
left_start sorts vars h n rest facts many none is stays = record {
  many = ap (λ (os : List (Option Theorem)). length os) none ∙ length-none n ∙ many;
  inner = h;
  is = is;
  image = λ sig names e. e;
  stays = stays;
  are = λ cx e. record {
    are = λ x t there. absurd (none_there n x t
        (subst (λ (os : List (Option Theorem)). slice_get os x ≡ Some (Some t)) none there));
    there = λ x in_it. absurd (omega (arith, in_it.1));
  };
}

next_variable : (vars : List ℕ) (i x : ℕ) → i < length vars → x ≡ get_or vars i x
    → drop i vars ≡ x ∷ drop (i + 1) vars
next_variable vars i x lt is =
    rw (add-one, drop-cons vars i x) (ap (λ (y : ℕ). y ∷ drop (suc i) vars) (sym is))

same_rest : (p q r u : Pattern) → and p q ≡ and r u → q ≡ u
same_rest p q r u e = cc

-- the conjunction for what is left, taken apart
left_split : (sorts vars : List ℕ) (h : Pattern) (i x : ℕ) (rest : Theorem)
    (facts : List (Option Theorem)) (sig : Signature) (names : List (List ℕ))
    (l : IsLeft sorts vars h i rest facts) → i < length vars → x ≡ get_or vars i x
    → sentence_image sig names (all_sorted sorts vars) ≡ Some h
    → IsSplit sig names sorts (drop (i + 1) vars) x l.inner
left_split sorts vars h i x rest facts sig names l lt is e =
    split sig names sorts (drop (i + 1) vars) x l.inner
    (ap (λ (xs : List ℕ). sentence_image sig names (all_sorted sorts xs))
    (sym (next_variable vars i x lt is)) ∙ l.image sig names e)

conjoined_from : (sorts vars : List ℕ) (h : Pattern) (i x : ℕ) (rest : Theorem)
    (facts : List (Option Theorem)) (sig : Signature) (names : List (List ℕ))
    (l : IsLeft sorts vars h i rest facts) → IsSplit sig names sorts (drop (i + 1) vars) x l.inner
    → IsConjoined rest.conclusion
conjoined_from sorts vars h i x rest facts sig names l s = record {
  h = h;
  p = fun (var x) s.number;
  q = s.rest;
  is = l.is ∙ ap (imp h) s.is;
}

pub left_conjoined : (sorts vars : List ℕ) (h : Pattern) (i x : ℕ) (rest : Theorem)
    (facts : List (Option Theorem)) → IsHypothesis sorts vars h
    → IsLeft sorts vars h i rest facts → i < length vars → x ≡ get_or vars i x
    → IsConjoined rest.conclusion
left_conjoined sorts vars h i x rest facts (sig, names, e) l lt is =
    conjoined_from sorts vars h i x rest facts sig names l
    (left_split sorts vars h i x rest facts sig names l lt is e)

-- the fact on the next variable
next_fact : (cx : Context) (sorts vars : List ℕ) (h : Pattern) (i x : ℕ) (rest one : Theorem)
    (facts : List (Option Theorem)) (l : IsLeft sorts vars h i rest facts) → i < length vars
    → x ≡ get_or vars i x → x < length sorts
    → sentence_image cx.program.sig cx.names (all_sorted sorts vars) ≡ Some h
    → IsFirst rest.conclusion one.conclusion → StaysWithin [] (rest ∷ []) one
    → IsFactOn cx sorts h x one
unfolding conjoined_from
next_fact cx sorts vars h i x rest one facts l lt is low e first stays =
    let s : IsSplit cx.program.sig cx.names sorts (drop (i + 1) vars) x l.inner =
    left_split sorts vars h i x rest facts cx.program.sig cx.names l lt is e in
    record {
      sort = slice_index_or sorts x 0;
      is_sort = item_at sorts x low;
      number = s.number;
      is_number = s.is_number;
      says =
          first (conjoined_from sorts vars h i x rest facts cx.program.sig cx.names l s);
      stays =
          λ scope has. stays scope tt
          (l.stays scope (has.images (all_sorted sorts vars) h e, tt) tt, tt);
    }

same_or_other : (x y : ℕ) → (x ≡ y) ⊎ (x ≡ y → ⊥)
same_or_other x y = go (x == y) refl
  where
    go : (b : Bool) → (x == y) ≡ b → (x ≡ y) ⊎ (x ≡ y → ⊥)
    go true is = inl (eqb-true x y is)
    go false is = inr (eqb-false x y is)

fact_after : (cx : Context) (sorts : List ℕ) (h : Pattern) (x y : ℕ) (one t : Theorem)
    (facts : List (Option Theorem)) → x < length facts → IsFactOn cx sorts h x one
    → ((u : Theorem) → slice_get facts y ≡ Some (Some u) → IsFactOn cx sorts h y u)
    → slice_get (slice_set facts x (Some one)) y ≡ Some (Some t) → IsFactOn cx sorts h y t
fact_after cx sorts h x y one t facts low fact before there = go (same_or_other x y)
  where
    go : (x ≡ y) ⊎ (x ≡ y → ⊥) → IsFactOn cx sorts h y t
    go (inl same) =
        let here : slice_get (slice_set facts x (Some one)) x ≡ Some (Some t) =
        ap (slice_get (slice_set facts x (Some one))) same ∙ there in
        let known : one ≡ t =
        some_same one t (some_same (Some one) (Some t) (sym (set_there facts x (Some one) low) ∙ here)) in
        subst (λ (u : Theorem). IsFactOn cx sorts h y u) known
        (subst (λ (z : ℕ). IsFactOn cx sorts h z one) same fact)
    go (inr other) = before t (sym (set_elsewhere facts x y (Some one) other) ∙ there)

there_after : (x y : ℕ) (one : Theorem) (facts : List (Option Theorem)) → x < length facts
    → (x ≡ y) ⊎ ((t : Theorem) × (slice_get facts y ≡ Some (Some t)))
    → (t : Theorem) × (slice_get (slice_set facts x (Some one)) y ≡ Some (Some t))
there_after x y one facts low known = go (same_or_other x y) known
  where
    go : (x ≡ y) ⊎ (x ≡ y → ⊥) → (x ≡ y) ⊎ ((t : Theorem) × (slice_get facts y ≡ Some (Some t)))
        → (t : Theorem) × (slice_get (slice_set facts x (Some one)) y ≡ Some (Some t))
    go (inl same) k = (
      one,
      subst (λ (z : ℕ). slice_get (slice_set facts x (Some one)) z ≡ Some (Some one)) same
          (set_there facts x (Some one) low),
    )
    go (inr other) (inl same) = absurd (other same)
    go (inr other) (inr (t, at)) = (t, set_elsewhere facts x y (Some one) other ∙ at)

pub left_next : (sorts vars : List ℕ) (h : Pattern) (i x : ℕ) (rest one two : Theorem)
    (facts : List (Option Theorem)) → IsHypothesis sorts vars h → IsLeft sorts vars h i rest facts
    → i < length vars → x ≡ get_or vars i x → x < length sorts
    → IsFirst rest.conclusion one.conclusion → StaysWithin [] (rest ∷ []) one
    → IsSecond rest.conclusion two.conclusion → StaysWithin [] (rest ∷ []) two
    → IsLeft sorts vars h (i + 1) two (slice_set facts x (Some one))
unfolding conjoined_from
left_next sorts vars h i x rest one two facts (sig, names, e) l lt is low first one_stays second
    two_stays =
    let known : IsSplit sig names sorts (drop (i + 1) vars) x l.inner =
    left_split sorts vars h i x rest facts sig names l lt is e in
    let room : x < length facts = omega (arith, low, l.many) in
    record {
      many = set_length facts x (Some one) ∙ l.many;
      inner = known.rest;
      is = second (conjoined_from sorts vars h i x rest facts sig names l known);
      image =
          λ s ns f.
          let here : IsSplit s ns sorts (drop (i + 1) vars) x l.inner =
          left_split sorts vars h i x rest facts s ns l lt is f in
          here.is_rest
          ∙ ap (λ (p : Pattern). Some p)
          (same_rest (fun (var x) here.number) here.rest (fun (var x) known.number) known.rest
          (sym here.is ∙ known.is));
      stays = λ scope hp ht. two_stays scope tt (l.stays scope hp ht, tt);
      are = λ cx f. record {
        are = λ y t there. fact_after cx sorts h x y one t facts room
            (next_fact cx sorts vars h i x rest one facts l lt is low f first one_stays)
            ((l.are cx f).are y) there;
        there = λ y in_it. there_after x y one facts room
            (before_or_here cx f y
            (Contains-append_cases (take i vars) (x ∷ []) y
            (subst (λ (ys : List ℕ). Contains ys y)
            (take_more vars i x lt ∙ ap (λ (z : ℕ). take i vars ++ z ∷ []) (sym is)) in_it)));
      };
    }
  where
    only_one : (y : ℕ) → Contains (x ∷ []) y → x ≡ y
    only_one y (zero, within, at) = at
    only_one y (suc k, within, at) = absurd (omega (arith, within))

    before_or_here : (cx : Context)
        → sentence_image cx.program.sig cx.names (all_sorted sorts vars) ≡ Some h → (y : ℕ)
        → Contains (take i vars) y ⊎ Contains (x ∷ []) y
        → (x ≡ y) ⊎ ((t : Theorem) × (slice_get facts y ≡ Some (Some t)))
    before_or_here cx f y (inl old) = inr ((l.are cx f).there y old)
    before_or_here cx f y (inr new) = inl (only_one y new)

-- after the last variable
pub left_end : (sorts vars : List ℕ) (h : Pattern) (i : ℕ) (rest : Theorem)
    (facts : List (Option Theorem)) → length vars ≤ i → IsLeft sorts vars h i rest facts
    → GivesFacts sorts vars h facts
left_end sorts vars h i rest facts all_done l cx e =
    subst (λ (xs : List ℕ). AreFacts cx sorts xs h facts) (take_all i vars all_done) (l.are cx e)

-- ---- what is given

-- the hypothesis is everything or nothing
pub sorted_predicate : (sig : Signature) (names : List (List ℕ)) (sorts vars : List ℕ)
    (h : Pattern) → sentence_image sig names (all_sorted sorts vars) ≡ Some h → IsPredicate h
sorted_predicate sig names sorts [] h is =
    subst (λ (p : Pattern). IsPredicate p) (some_same top h is) refl
sorted_predicate sig names sorts (x ∷ xs) h is =
    let s : IsSplit sig names sorts xs x h = split sig names sorts xs x h is in
    subst (λ (p : Pattern). IsPredicate p) (sym s.is)
    (sorted_predicate sig names sorts xs s.rest s.is_rest)

pub given_of : (cx : Context) (sorts vars : List ℕ) (g : Given)
    → sentence_image cx.program.sig cx.names (all_sorted sorts vars) ≡ Some g.hypothesis
    → GivesFacts sorts vars g.hypothesis g.facts.items → IsGiven cx sorts g
given_of cx sorts vars g is gives = record {
  predicate = sorted_predicate cx.program.sig cx.names sorts vars g.hypothesis is;
  over = λ s has. has.images (all_sorted sorts vars) g.hypothesis is;
  facts = λ x t there. (gives cx is).are x t there;
}
