-- Terms in place of a condition's variables, one after another.
use Rattle.std.proofs.Common.{◌≡◌, ℕ, zero, suc, true, false, List, [], ◌∷◌, Option, Some}
use Rattle.std.proofs.Common.{refl, sym, ◌∙◌, ap, subst, arith}
use Rattle.std.specs.Prelude.{Contains}
use Rattle.std.proofs.lemmas.Bool.{false≢true}
use Rattle.ml_pat.specs.Patterns.{Pattern as LogicPattern, imp, var, equal}
use Rattle.ml_pat.specs.Patterns as logic
use Rattle.ml_pat.specs.Judgements.{IsFresh, substituted}
use Rattle.ml_pat.proofs.ReplacingLaws.{substituted-fresh}
use Rattle.ml_kernel.specs.Theorems.{Theorem}
use Rattle.ml_derived.specs.Scopes.{StaysWithin}
use Rattle.term_core.specs.Terms.{Tree}
use Rattle.term_core.specs.Patterns.{Pattern, binding, ground_pattern}
use Rattle.rule_core.specs.Matching.{OccursIn}
use Rattle.ml_image.specs.Images.{image_of}
use Rattle.ml_image.specs.Premises.{is_true}
use Rattle.ml_image.specs.Sentences.{sentence_image}
use Rattle.prove_term.specs.Contexts.{Context, StaysIn}
use Rattle.prove_term.specs.Filling.{filled}
use Rattle.prove_term.proofs.ImageShapes.{both_some}
use Rattle.refute.specs.Refutations.{all_bound, is_bound_to}
use Rattle.refute_body.specs.Conditions.{AreReplaceable, CanFill, IsFilled, IsReplaced}
use Rattle.refute_body.specs.Implications.{IsUnderTwo, is_conjunction}
use Rattle.refute_body.specs.Conditions.{SaysUnderTwo}
use Rattle.refute_body.proofs.BodyImages.{Puts, itself_put, put_condition, with_term}
use Rattle.refute_body.proofs.BodyImages.{with_term_filled, with_term_occurs}

some_same : {A : Type 0} (x y : A) → Some x ≡ Some y → x ≡ y
some_same x y e = cc

-- the substitution has the bindings that theta has of these variables
abbrev pub HasBindings : List ℕ → List (Option Tree) → List (Option Tree) → Type 0
HasBindings xs theta sigma =
    (x : ℕ) (u : Tree) → Contains xs x → binding theta x ≡ Some u → binding sigma x ≡ Some u

-- The equations of the variables `rest` are left. The terms of the others are in their places in r.
pub record IsFilling (cx : Context) (g b : LogicPattern) (xs : List ℕ) (theta : List (Option Tree))
    (q : Pattern) (s : ℕ) (left present : Theorem) : Type 0 where
  pub rest : List ℕ
  pub left_says : SaysUnderTwo cx g b (all_bound theta rest) left.conclusion
  pub left_stays : StaysIn cx left
  pub among : (x : ℕ) → Contains rest x → Contains xs x
  pub r : Pattern
  pub holds : SaysUnderTwo cx g b (is_true r s) present.conclusion
  pub stays : StaysIn cx present
  pub same : (sigma : List (Option Tree)) → HasBindings xs theta sigma
      → filled sigma r ≡ filled sigma q
  pub fewer : (x : ℕ) → OccursIn x r → OccursIn x q
  pub gone : (x : ℕ) → Contains xs x → OccursIn x r → Contains rest x

abbrev pub IsFillingFrom : Theorem → Theorem → Theorem → Theorem → Type 0
IsFillingFrom equations start left present =
    (cx : Context) (g b : LogicPattern) (xs : List ℕ) (theta : List (Option Tree)) (q : Pattern)
    (s : ℕ) → CanFill cx g b xs theta q s equations start
    → IsFilling cx g b xs theta q s left present

pub filling_begins : (equations start : Theorem) → IsFillingFrom equations start equations start
filling_begins equations start cx g b xs theta q s can = record {
  rest = xs;
  left_says = can.says;
  left_stays = can.stays;
  among = λ x h. h;
  r = q;
  holds = can.holds;
  stays = can.start_stays;
  same = λ sigma has. refl;
  fewer = λ x h. h;
  gone = λ x h o. h;
}

-- ---- the first of the equations that are left

pub record HasFirst (cx : Context) (g b : LogicPattern) (theta : List (Option Tree))
    (rest : List ℕ) (left : LogicPattern) : Type 0 where
  pub x : ℕ
  pub more : List ℕ
  pub are : rest ≡ x ∷ more
  pub t : Tree
  pub bound : binding theta x ≡ Some t
  pub u : LogicPattern
  pub image : image_of cx.program.sig cx.names (ground_pattern t) ≡ Some u
  pub e : LogicPattern
  pub others : sentence_image cx.program.sig cx.names (all_bound theta more) ≡ Some e
  pub says : IsUnderTwo g b (logic.and (equal (var x) u) e) left

has_first : (cx : Context) (g b : LogicPattern) (theta : List (Option Tree)) (rest : List ℕ)
    (left : LogicPattern) → ((x : ℕ) → Contains rest x → (t : Tree) × (binding theta x ≡ Some t))
    → ((p : LogicPattern) → IsUnderTwo g b p left → is_conjunction p ≡ true)
    → SaysUnderTwo cx g b (all_bound theta rest) left → HasFirst cx g b theta rest left
has_first cx g b theta [] left bound both says =
    absurd (false≢true (ap is_conjunction (some_same logic.top says.image says.is_image)
    ∙ both says.image says.says))
has_first cx g b theta (x ∷ more) left bound both says =
    let first : (t : Tree) × (binding theta x ≡ Some t) = bound x (zero, omega arith, refl) in
    let w : (p : LogicPattern) × (e : LogicPattern)
    × (sentence_image cx.program.sig cx.names (is_bound_to x (binding theta x)) ≡ Some p)
    × (sentence_image cx.program.sig cx.names (all_bound theta more) ≡ Some e)
    × (says.image ≡ logic.and p e) =
    both_some logic.and (sentence_image cx.program.sig cx.names (is_bound_to x (binding theta x)))
    (sentence_image cx.program.sig cx.names (all_bound theta more)) says.image says.is_image in
    let v : (p : LogicPattern) × (u : LogicPattern) × (Some (var x) ≡ Some p)
    × (image_of cx.program.sig cx.names (ground_pattern first.0) ≡ Some u) × (w.0 ≡ equal p u) =
    both_some equal (Some (var x)) (image_of cx.program.sig cx.names (ground_pattern first.0)) w.0
    (ap (λ (o : Option Tree). sentence_image cx.program.sig cx.names (is_bound_to x o))
    (sym first.1) ∙ w.2) in
    record {
      x = x;
      more = more;
      are = refl;
      t = first.0;
      bound = first.1;
      u = v.1;
      image = v.3;
      e = w.1;
      others = w.3;
      says =
          says.says
          ∙ ap (λ (p : LogicPattern). imp g (imp b p)) w.4
          ∙ ap (λ (p : LogicPattern). imp g (imp b (logic.and p w.1))) v.4
          ∙ ap (λ (p : LogicPattern). imp g (imp b (logic.and (equal p v.1) w.1)))
          (sym (some_same (var x) v.0 v.2));
    }

pub first_left : (cx : Context) (g b : LogicPattern) (xs : List ℕ) (theta : List (Option Tree))
    (q : Pattern) (s : ℕ) (equations start left present : Theorem)
    → CanFill cx g b xs theta q s equations start
    → ((g b p : LogicPattern) → IsUnderTwo g b p left.conclusion → is_conjunction p ≡ true)
    → (f : IsFilling cx g b xs theta q s left present)
    → HasFirst cx g b theta f.rest left.conclusion
first_left cx g b xs theta q s equations start left present can both f =
    has_first cx g b theta f.rest left.conclusion (λ x h. can.bound x (f.among x h))
    (λ p says. both g b p says) f.left_says

-- ---- the next step

-- what the step makes of the condition
put_first : (cx : Context) (g b : LogicPattern) (xs : List ℕ) (theta : List (Option Tree))
    (q : Pattern) (s : ℕ) (left present : Theorem) (f : IsFilling cx g b xs theta q s left present)
    (h : HasFirst cx g b theta f.rest left.conclusion)
    → Puts h.x h.u f.holds.image
    (sentence_image cx.program.sig cx.names (is_true (with_term h.x h.t f.r) s))
put_first cx g b xs theta q s left present f h =
    put_condition cx.program.sig cx.names h.x h.t h.u f.r s f.holds.image h.image f.holds.is_image

replaceable : (cx : Context) (g b : LogicPattern) (xs : List ℕ) (theta : List (Option Tree))
    (q : Pattern) (s : ℕ) (left present : Theorem) (f : IsFilling cx g b xs theta q s left present)
    → HasFirst cx g b theta f.rest left.conclusion
    → AreReplaceable left.conclusion present.conclusion
replaceable cx g b xs theta q s left present f h =
    let put : Puts h.x h.u f.holds.image
    (sentence_image cx.program.sig cx.names (is_true (with_term h.x h.t f.r) s)) =
    put_first cx g b xs theta q s left present f h in
    record {
      g = g;
      b = b;
      x = h.x;
      t = h.u;
      e = h.e;
      c = f.holds.image;
      d = put.0;
      is_equations = h.says;
      is_present = f.holds.says;
      keeps = itself_put h.x f.holds.image;
      replaces = put.1;
    }

-- the first of the equations that are left, and what it replaces
pub can_replace : (equations start left present : Theorem)
    → IsFillingFrom equations start left present → (cx : Context) (g b : LogicPattern) (xs : List ℕ)
    (theta : List (Option Tree)) (q : Pattern) (s : ℕ) → CanFill cx g b xs theta q s equations start
    → ((g b p : LogicPattern) → IsUnderTwo g b p left.conclusion → is_conjunction p ≡ true)
    → AreReplaceable left.conclusion present.conclusion
can_replace equations start left present filling cx g b xs theta q s can both =
    let f : IsFilling cx g b xs theta q s left present = filling cx g b xs theta q s can in
    replaceable cx g b xs theta q s left present f
    (first_left cx g b xs theta q s equations start left present can both f)

other_there : (xs : List ℕ) (x y : ℕ) → (y ≡ x → ⊥) → Contains (x ∷ xs) y → Contains xs y
other_there xs x y differ (zero, low, same) = absurd (differ (sym same))
other_there xs x y differ (suc k, low, same) = (k, omega (arith, low), same)

more_there : (xs : List ℕ) (x y : ℕ) → Contains xs y → Contains (x ∷ xs) y
more_there xs x y (k, low, same) = (suc k, omega (arith, low), same)

pub filling_next : (cx : Context) (g b : LogicPattern) (xs : List ℕ) (theta : List (Option Tree))
    (q : Pattern) (s : ℕ) (left present less made : Theorem)
    (f : IsFilling cx g b xs theta q s left present)
    → HasFirst cx g b theta f.rest left.conclusion
    → IsReplaced left.conclusion present.conclusion made.conclusion
    → StaysWithin [] (left ∷ present ∷ []) made
    → ((g b p q : LogicPattern) → IsUnderTwo g b (logic.and p q) left.conclusion
    → IsUnderTwo g b q less.conclusion)
    → StaysWithin [] (left ∷ []) less → IsFilling cx g b xs theta q s less made
filling_next cx g b xs theta q s left present less made f h replaced stays others less_stays =
    let put : Puts h.x h.u f.holds.image
    (sentence_image cx.program.sig cx.names (is_true (with_term h.x h.t f.r) s)) =
    put_first cx g b xs theta q s left present f h in
    let inside : (y : ℕ) → Contains h.more y → Contains f.rest y =
    λ y there. subst (λ (ys : List ℕ). Contains ys y) (sym h.are) (more_there h.more h.x y there) in
    let first : Contains f.rest h.x =
    subst (λ (ys : List ℕ). Contains ys h.x) (sym h.are) (zero, omega arith, refl) in
    record {
      rest = h.more;
      left_says = record {
        image = h.e;
        is_image = h.others;
        says = others g b (equal (var h.x) h.u) h.e h.says;
      };
      left_stays = λ scope has. less_stays scope tt (f.left_stays scope has, tt);
      among = λ y there. f.among y (inside y there);
      r = with_term h.x h.t f.r;
      holds = record {
        image = put.0;
        is_image = put.2;
        says = replaced g b h.u h.e f.holds.image put.0 h.x h.says f.holds.says put.1;
      };
      stays = λ scope has.
          stays scope tt (f.left_stays scope has, (f.stays scope has, tt));
      same = λ sigma has.
          with_term_filled sigma h.x h.t (has h.x h.t (f.among h.x first) h.bound) f.r
          ∙ f.same sigma has;
      fewer = λ y o. f.fewer y (with_term_occurs h.x h.t y f.r o).0;
      gone = λ y there o.
          let w : OccursIn y f.r × (y ≡ h.x → ⊥) = with_term_occurs h.x h.t y f.r o in
          other_there h.more h.x y w.1
          (subst (λ (ys : List ℕ). Contains ys y) h.are (f.gone y there w.0));
    }

-- ---- the end

none_there : (y : ℕ) → Contains [] y → ⊥
none_there y (k, low, is) = omega (arith, low)

is_empty : (cx : Context) (g b : LogicPattern) (theta : List (Option Tree)) (rest : List ℕ)
    (left : LogicPattern)
    → ((p : LogicPattern) → IsUnderTwo g b p left → is_conjunction p ≡ false)
    → SaysUnderTwo cx g b (all_bound theta rest) left → rest ≡ []
is_empty cx g b theta [] left none says = refl
is_empty cx g b theta (x ∷ more) left none says =
    let w : (p : LogicPattern) × (e : LogicPattern)
    × (sentence_image cx.program.sig cx.names (is_bound_to x (binding theta x)) ≡ Some p)
    × (sentence_image cx.program.sig cx.names (all_bound theta more) ≡ Some e)
    × (says.image ≡ logic.and p e) =
    both_some logic.and (sentence_image cx.program.sig cx.names (is_bound_to x (binding theta x)))
    (sentence_image cx.program.sig cx.names (all_bound theta more)) says.image says.is_image in
    absurd (false≢true (sym (none says.image says.says) ∙ ap is_conjunction w.4))

pub filling_ends : (cx : Context) (g b : LogicPattern) (xs : List ℕ) (theta : List (Option Tree))
    (q : Pattern) (s : ℕ) (left present : Theorem)
    → ((g b p : LogicPattern) → IsUnderTwo g b p left.conclusion → is_conjunction p ≡ false)
    → IsFilling cx g b xs theta q s left present → IsFilled cx g b xs theta q s present
filling_ends cx g b xs theta q s left present none f =
    let empty : f.rest ≡ [] =
    is_empty cx g b theta f.rest left.conclusion (λ p says. none g b p says) f.left_says in
    record {
      r = f.r;
      holds = f.holds;
      stays = f.stays;
      same = f.same;
      fewer = f.fewer;
      gone = λ y there o.
          none_there y
          (subst (λ (ys : List ℕ). Contains ys y) empty (f.gone y there o));
    }

-- ---- one equation

-- the parts of an equation at the front of a conjunction
pub read_equation : (p q e r t f : LogicPattern) → logic.and (equal p q) e ≡ logic.and (equal r t) f
    → (p ≡ r) × (q ≡ t)
read_equation p q e r t f is = (cc, cc)

variable_same : (x y : ℕ) → var x ≡ var y → x ≡ y
variable_same x y is = cc

-- a variable that is not free is not replaced
pub kept_fresh : (g b t r d : LogicPattern) (x y : ℕ) (p c : LogicPattern) → var x ≡ var y
    → IsFresh y p → p ≡ r → IsUnderTwo g b r c → substituted r x t ≡ Some d → IsUnderTwo g b d c
kept_fresh g b t r d x y p c same free is says put =
    let kept : substituted r x t ≡ Some r =
    substituted-fresh x t r (subst (λ (z : ℕ). IsFresh z r) (sym (variable_same x y same))
    (subst (IsFresh y) is free)) in
    says ∙ ap (λ (q : LogicPattern). imp g (imp b q)) (some_same r d (sym kept ∙ put))

pub put_same : (x y : ℕ) (t u r d : LogicPattern) → var x ≡ var y → t ≡ u
    → substituted r x t ≡ Some d → substituted r y u ≡ Some d
put_same x y t u r d same is put =
    ap (λ (z : ℕ). substituted r z u) (sym (variable_same x y same))
    ∙ ap (substituted r x) (sym is) ∙ put
