-- One of the equations of a conjunction, found by going along it.
use Rattle.std.proofs.Common.{◌≡◌, ◌<◌, inl, inr, ℕ, suc, Bool, true, false, [], ◌∷◌}
use Rattle.std.proofs.Common.{refl, sym, ◌∙◌, ap, subst, arith}
use Rattle.std.specs.Prelude.{if◌then◌else◌}
use Rattle.std.proofs.lemmas.Bool.{false≢true}
use Rattle.ml_pat.specs.Patterns.{Pattern, nullary, unary, binary, sorted, quantified, var, meta}
use Rattle.ml_pat.specs.Patterns.{constant, imp, and}
use Rattle.ml_pat.specs.Patterns as logic
use Rattle.ml_kernel.specs.Theorems.{Theorem}
use Rattle.ml_derived.specs.Scopes.{StaysWithin}
use Rattle.refute_body.specs.Implications.{HasEquation, IsUnderTwo, count_of, first_equation}
use Rattle.refute_body.specs.Implications.{is_equation_on}
use Rattle.refute_body.proofs.Shapes.{imp_left, imp_right}

-- the rest of the equations, which has the same first equation of the variable
pub record IsRest (x : ℕ) (start t : Theorem) : Type 0 where
  pub ends : (g b p : Pattern) → IsUnderTwo g b p start.conclusion → HasEquation x p
      → (q : Pattern) × IsUnderTwo g b q t.conclusion × HasEquation x q
      × (first_equation x q ≡ first_equation x p)
  pub stays : StaysWithin [] (start ∷ []) t

pub rest_at_first : (x : ℕ) (start t : Theorem) → t ≡ start → IsRest x start t
rest_at_first x start t is = record {
  ends = λ g b p says has. (
    p,
    subst (λ (u : Theorem). IsUnderTwo g b p u.conclusion) (sym is) says,
    has,
    refl,
  );
  stays = λ s hp ht. subst (λ (u : Theorem). StaysWithin [] (start ∷ []) u) (sym is) (λ r kp kt. kt.0) s hp ht;
}

-- a conjunction with an equation of the variable
pub record IsSplit (x : ℕ) (p : Pattern) : Type 0 where
  pub first : Pattern
  pub others : Pattern
  pub is : p ≡ and first others

pub split : (x : ℕ) (p : Pattern) → HasEquation x p → IsSplit x p
split x (and p q) has = record { first = p; others = q; is = refl }
split x (nullary c) has = absurd has
split x (unary c p) has = absurd has
split x (binary logic.Imp p q) has = absurd has
split x (binary logic.Or p q) has = absurd has
split x (binary logic.Equal p q) has = absurd has
split x (binary logic.Member p q) has = absurd has
split x (binary logic.App p q) has = absurd has
split x (sorted c p s) has = absurd has
split x (quantified c y s p) has = absurd has
split x (var y) has = absurd has
split x (meta i) has = absurd has
split x (constant c) has = absurd has

-- the first equation is of another variable
pub go_on : (x : ℕ) (p q : Pattern) → is_equation_on x p ≡ false → HasEquation x (and p q)
    → HasEquation x q × (first_equation x (and p q) ≡ first_equation x q)
go_on x p q other (inl here) = absurd (false≢true (sym other ∙ here))
go_on x p q other (inr later) =
    (later, ap (λ (b : Bool). if b then p else first_equation x q) other)

pub found_here : (x : ℕ) (p q : Pattern) → is_equation_on x p ≡ true
    → first_equation x (and p q) ≡ p
found_here x p q here = ap (λ (b : Bool). if b then p else first_equation x q) here

-- how many equations are left in the conclusion of a theorem
abbrev pub equations_left : Pattern → ℕ
equations_left (imp g p) = behind p
  where
    behind : Pattern → ℕ
    behind (imp b q) = count_of q
    behind q = 0
equations_left p = 0

-- two readings of what ends a theorem
pub same_end : (g b p h d q : Pattern) (c : Pattern) → IsUnderTwo g b p c → IsUnderTwo h d q c
    → (p ≡ q) × (g ≡ h) × (b ≡ d)
same_end g b p h d q c one other =
    let e : imp g (imp b p) ≡ imp h (imp d q) = sym one ∙ other in (
      imp_right b p d q (imp_right g (imp b p) h (imp d q) e),
      imp_left g (imp b p) h (imp d q) e,
      imp_left b p d q (imp_right g (imp b p) h (imp d q) e),
    )

-- what is left of the equations, as the theorem says it
pub record IsReading (x : ℕ) (start t : Theorem) : Type 0 where
  pub g : Pattern
  pub b : Pattern
  pub first : Pattern
  pub others : Pattern
  pub says : IsUnderTwo g b (and first others) t.conclusion
  pub has : HasEquation x (and first others)
  pub same : (h d p : Pattern) → IsUnderTwo h d p start.conclusion
      → (h ≡ g) × (d ≡ b) × (first_equation x p ≡ first_equation x (and first others))

pub read : (x : ℕ) (start t : Theorem) (g b p : Pattern) → IsUnderTwo g b p start.conclusion
    → HasEquation x p → IsRest x start t → IsReading x start t
read x start t g b p says has rest =
    let ends : (q : Pattern) × IsUnderTwo g b q t.conclusion × HasEquation x q
    × (first_equation x q ≡ first_equation x p) = rest.ends g b p says has in
    let parts : IsSplit x ends.0 = split x ends.0 ends.2 in
    record {
      g = g;
      b = b;
      first = parts.first;
      others = parts.others;
      says = subst (λ (r : Pattern). IsUnderTwo g b r t.conclusion) parts.is ends.1;
      has = subst (HasEquation x) parts.is ends.2;
      same = λ h d r other.
          let both : (r ≡ p) × (h ≡ g) × (d ≡ b) =
          same_end h d r g b p start.conclusion other says in (
            both.1,
            both.2,
            ap (first_equation x) both.0 ∙ sym ends.3
                ∙ ap (first_equation x) parts.is,
          );
    }

-- the others are left
pub rest_next : (x : ℕ) (start t made : Theorem) → IsRest x start t
    → ((g b p q : Pattern) → IsUnderTwo g b (and p q) t.conclusion → is_equation_on x p ≡ false)
    → ((g b p q : Pattern) → IsUnderTwo g b (and p q) t.conclusion
    → IsUnderTwo g b q made.conclusion)
    → StaysWithin [] (t ∷ []) made → IsRest x start made
rest_next x start t made rest other says stays = record {
  ends = λ g b p begins has.
      let ends : (q : Pattern) × IsUnderTwo g b q t.conclusion × HasEquation x q
      × (first_equation x q ≡ first_equation x p) = rest.ends g b p begins has in
      let parts : IsSplit x ends.0 = split x ends.0 ends.2 in
      let here : IsUnderTwo g b (and parts.first parts.others) t.conclusion =
      subst (λ (r : Pattern). IsUnderTwo g b r t.conclusion) parts.is ends.1 in
      let later : HasEquation x parts.others
      × (first_equation x (and parts.first parts.others) ≡ first_equation x parts.others) =
      go_on x parts.first parts.others (other g b parts.first parts.others here)
      (subst (HasEquation x) parts.is ends.2) in (
        parts.others,
        says g b parts.first parts.others here,
        later.0,
        sym later.1 ∙ sym (ap (first_equation x) parts.is) ∙ ends.3,
      );
  stays = λ s hp ht. stays s tt (rest.stays s hp ht, tt);
}

pub fewer_left : (g b p q c d : Pattern) → IsUnderTwo g b (and p q) c → IsUnderTwo g b q d
    → equations_left d < equations_left c
fewer_left g b p q c d more less =
    let left : equations_left d ≡ count_of q = ap equations_left less in
    let had : equations_left c ≡ suc (count_of q) = ap equations_left more in
    omega (arith, left, had)

pub of_first : (x : ℕ) (start t made : Theorem) (r : IsReading x start t)
    → is_equation_on x r.first ≡ true
    → ((g b p q : Pattern) → IsUnderTwo g b (and p q) t.conclusion
    → IsUnderTwo g b p made.conclusion)
    → (g b p : Pattern) → IsUnderTwo g b p start.conclusion
    → IsUnderTwo g b (first_equation x p) made.conclusion
of_first x start t made r here says g b p other =
    let same : (g ≡ r.g) × (b ≡ r.b)
    × (first_equation x p ≡ first_equation x (and r.first r.others)) = r.same g b p other in
    says r.g r.b r.first r.others r.says
    ∙ ap (λ (h : Pattern). imp h (imp r.b r.first)) (sym same.0)
    ∙ ap (λ (d : Pattern). imp g (imp d r.first)) (sym same.1)
    ∙ ap (λ (q : Pattern). imp g (imp b q))
    (sym (same.2 ∙ found_here x r.first r.others here))
