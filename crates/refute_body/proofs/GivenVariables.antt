-- Variables that are given, one after another.
use Rattle.std.proofs.Common.{◌≡◌, ℕ, suc, List, [], ◌∷◌}
use Rattle.std.proofs.Common.{Some, refl, sym, ◌∙◌, ap, arith}
use Rattle.std.specs.Prelude.{Contains, slice_get, slice_index_or, true, false}
use Rattle.std.proofs.lemmas.Bool.{false≢true}
use Rattle.std.proofs.lemmas.Option.{get_or_from_slice_get}
use Rattle.ml_pat.specs.Patterns.{Pattern, fun, var, imp}
use Rattle.ml_pat.specs.Patterns as logic
use Rattle.ml_kernel.specs.Theorems.{Theorem}
use Rattle.ml_image.specs.Images.{sort_image}
use Rattle.ml_image.specs.Sentences.{functional, sentence_image, term}
use Rattle.prove_term.specs.Contexts.{Context, StaysIn}
use Rattle.prove_term.proofs.ImageShapes.{both_some}
use Rattle.prove_open.specs.Givens.{HasFact, IsFactOn, IsGiven, all_sorted}
use Rattle.prove_open.specs.declared.givens.Given.{Given}
use Rattle.term_core.specs.Patterns.{variable}
use Rattle.refute_body.specs.Implications.{is_conjunction}
use Rattle.refute_body.proofs.Shapes.{and_left, and_right}

-- ---- hypotheses

index_there : (xs : List ℕ) (i x : ℕ) → slice_get xs i ≡ Some x → slice_index_or xs i 0 ≡ x
index_there xs i x there = get_or_from_slice_get xs i x 0 there

-- the parts of a hypothesis
pub record IsSorted (cx : Context) (sorts : List ℕ) (x : ℕ) (xs : List ℕ) (h : Pattern) : Type 0
  where
    pub sort : ℕ
    pub rest : Pattern
    pub is : h ≡ logic.and (fun (var x) sort) rest
    pub numbered : sort_image cx.program.sig cx.names (slice_index_or sorts x 0) ≡ Some sort
    pub is_rest : sentence_image cx.program.sig cx.names (all_sorted sorts xs) ≡ Some rest

pub sorted_parts : (cx : Context) (sorts : List ℕ) (x : ℕ) (xs : List ℕ) (h : Pattern)
    → sentence_image cx.program.sig cx.names (all_sorted sorts (x ∷ xs)) ≡ Some h
    → IsSorted cx sorts x xs h
sorted_parts cx sorts x xs h is =
    let w = both_some logic.and (sentence_image cx.program.sig cx.names
    (functional (term (variable x)) (slice_index_or sorts x 0)))
    (sentence_image cx.program.sig cx.names (all_sorted sorts xs)) h is in
    let v = both_some fun (Some (var x))
    (sort_image cx.program.sig cx.names (slice_index_or sorts x 0)) w.0 w.2 in
    let this : var x ≡ v.0 = some_same (var x) v.0 v.2 in
    record {
      sort = v.1;
      rest = w.1;
      is =
          w.4 ∙ ap (λ (p : Pattern). logic.and p w.1)
          (v.4 ∙ ap (λ (p : Pattern). fun p v.1) (sym this));
      numbered = v.3;
      is_rest = w.3;
    }
  where
    some_same : (p q : Pattern) → Some p ≡ Some q → p ≡ q
    some_same p q e = cc

-- everything is said of no variables
pub nothing_sorted : (cx : Context) (sorts : List ℕ) (h : Pattern)
    → sentence_image cx.program.sig cx.names (all_sorted sorts []) ≡ Some h → logic.top ≡ h
nothing_sorted cx sorts h is = let same : logic.top ≡ h = cc in same

-- how a hypothesis on variables, each of which is given, is read
pub record IsRead (cx : Context) (sorts : List ℕ) (g : Given) (p q : Pattern) : Type 0 where
  pub x : ℕ
  pub sort : ℕ
  pub xs : List ℕ
  pub first : p ≡ fun (var x) sort
  pub fact : HasFact g x
  pub rest : sentence_image cx.program.sig cx.names (all_sorted sorts xs) ≡ Some q
  pub facts : (y : ℕ) → Contains xs y → HasFact g y
  pub listed : (s : ℕ) → slice_get sorts x ≡ Some s
      → sort_image cx.program.sig cx.names s ≡ Some sort

pub read_hypothesis : (cx : Context) (sorts : List ℕ) (g : Given) (xs : List ℕ) (h p q : Pattern)
    → sentence_image cx.program.sig cx.names (all_sorted sorts xs) ≡ Some h
    → ((x : ℕ) → Contains xs x → HasFact g x) → h ≡ logic.and p q → IsRead cx sorts g p q
read_hypothesis cx sorts g [] h p q is facts split =
    absurd (let no : ⊥ = cc in no)
read_hypothesis cx sorts g (x ∷ xs) h p q is facts split =
    let w : IsSorted cx sorts x xs h = sorted_parts cx sorts x xs h is in
    let e : logic.and (fun (var x) w.sort) w.rest ≡ logic.and p q = sym w.is ∙ split in
    record {
      x = x;
      sort = w.sort;
      xs = xs;
      first = sym (and_left (fun (var x) w.sort) w.rest p q e);
      fact = facts x (0, omega arith, refl);
      rest =
          w.is_rest ∙ ap (λ (r : Pattern). Some r) (and_right (fun (var x) w.sort) w.rest p q e);
      facts = λ y there. facts y (suc there.0, omega (arith, there.1), there.2);
      listed = λ s at.
          ap (sort_image cx.program.sig cx.names) (sym (index_there sorts x s at)) ∙ w.numbered;
    }

-- the hypothesis is about no variable
pub read_nothing : (cx : Context) (sorts : List ℕ) (xs : List ℕ) (h : Pattern)
    → sentence_image cx.program.sig cx.names (all_sorted sorts xs) ≡ Some h
    → ((p q : Pattern) → h ≡ logic.and p q → ⊥) → h ≡ logic.top
read_nothing cx sorts [] h is none = sym (nothing_sorted cx sorts h is)
read_nothing cx sorts (x ∷ xs) h is none =
    let w : IsSorted cx sorts x xs h = sorted_parts cx sorts x xs h is in
    absurd (none (fun (var x) w.sort) w.rest w.is)

-- the fact on the variable says just that
pub fact_says : (cx : Context) (sorts : List ℕ) (g : Given) (p q : Pattern) (t : Theorem)
    (r : IsRead cx sorts g p q) → IsGiven cx sorts g
    → slice_get g.facts.items r.x ≡ Some (Some t)
    → (t.conclusion ≡ imp g.hypothesis p) × StaysIn cx t
fact_says cx sorts g p q t r given at =
    let f : IsFactOn cx sorts g.hypothesis r.x t = given.facts r.x t at in
    let same : f.number ≡ r.sort =
    some_number f.number r.sort (sym f.is_number ∙ r.listed f.sort f.is_sort) in (
      f.says ∙ ap (λ (s : ℕ). imp g.hypothesis (fun (var r.x) s)) same
          ∙ ap (imp g.hypothesis) (sym r.first),
      f.stays,
    )
  where
    some_number : (a b : ℕ) → Some a ≡ Some b → a ≡ b
    some_number a b e = cc

-- a conjunction has two parts
pub conjunction : (p : Pattern) → is_conjunction p ≡ true
    → (q : Pattern) × (r : Pattern) × (p ≡ logic.and q r)
conjunction (logic.and p q) is = (p, q, refl)
conjunction (logic.nullary c) is = absurd (false≢true is)
conjunction (logic.unary c p) is = absurd (false≢true is)
conjunction (logic.binary logic.Imp p q) is = absurd (false≢true is)
conjunction (logic.binary logic.Or p q) is = absurd (false≢true is)
conjunction (logic.binary logic.Equal p q) is = absurd (false≢true is)
conjunction (logic.binary logic.Member p q) is = absurd (false≢true is)
conjunction (logic.binary logic.App p q) is = absurd (false≢true is)
conjunction (logic.sorted c p s) is = absurd (false≢true is)
conjunction (logic.quantified c y s p) is = absurd (false≢true is)
conjunction (logic.var y) is = absurd (false≢true is)
conjunction (logic.meta i) is = absurd (false≢true is)
conjunction (logic.constant c) is = absurd (false≢true is)

-- what is no conjunction has no two parts
pub no_conjunction : (p q r : Pattern) → is_conjunction p ≡ false → p ≡ logic.and q r → ⊥
no_conjunction p q r none is = false≢true (sym none ∙ ap is_conjunction is)
