-- Quantifiers that are put in front of a pattern one after another.
use Rattle.std.proofs.Common.{◌≡◌, ◌≢◌, ◌<◌, ◌≤◌, ◌+◌, ℕ, zero, suc, List, [], ◌∷◌, ◌++◌}
use Rattle.std.proofs.Common.{length, map, take, drop, get_or, refl, sym, ◌∙◌, ap, subst, arith}
use Rattle.std.specs.Prelude.{All}
use Rattle.std.proofs.lemmas.List.{drop_more, take_more}
use Rattle.std.proofs.Math.Seq.{take_all}
use Rattle.ml_pat.specs.Patterns.{Pattern, bot, top, imp, and, fun, ex, var}
use Rattle.ml_pat.specs.Judgements.{IsFresh}
use Rattle.ml_kernel.specs.Theorems.{Theorem}
use Rattle.ml_derived.specs.Scopes.{StaysWithin}
use Rattle.rule_core.specs.WellSorted.{AreDifferent}
use Rattle.refute_body.specs.Implications.{CanClose, IsClosed, IsOpen, elements, for_some_of}
use Rattle.refute_body.specs.Implications.{variable_of}

-- the first i of the variables are closed
abbrev pub IsClosedSofar : Theorem → ℕ → Theorem → Type 0
IsClosedSofar start i t =
    ((ps : List (ℕ × ℕ)) (e : Pattern) → IsOpen ps e start.conclusion → i ≤ length ps
    → t.conclusion ≡ imp (elements (drop i ps)) (imp (for_some_of (take i ps) e) bot))
    × StaysWithin [] (start ∷ []) t

pub none_closed : (t : Theorem) → IsClosedSofar t 0 t
none_closed t = (λ ps e begins low. begins.is, λ s hp ht. ht.0)

for_some-append : (ps : List (ℕ × ℕ)) (p : ℕ × ℕ) (e : Pattern)
    → for_some_of (ps ++ p ∷ []) e ≡ ex p.0 p.1 (for_some_of ps e)
for_some-append [] p e = refl
for_some-append (q ∷ ps) p e = for_some-append ps p (ex q.0 q.1 e)

fresh_elements : (x : ℕ) (ps : List (ℕ × ℕ)) → All (λ y. x ≢ y) (map variable_of ps)
    → IsFresh x (elements ps)
fresh_elements x [] apart = refl
fresh_elements x (p ∷ ps) apart =
    both (fun (var p.0) p.1) (elements ps) (differ x p.0 (apart 0 0 (omega arith)))
    (fresh_elements x ps (λ i d low. apart (suc i) d (omega (arith, low))))
  where
    differ : (x y : ℕ) → x ≢ y → IsFresh x (fun (var y) p.1)
    differ x y h = grind (arith, h)

    both : (a b : Pattern) → IsFresh x a → IsFresh x b → IsFresh x (and a b)
    both a b h k = rw (h, k) refl

different_behind : (ps : List (ℕ × ℕ)) (i : ℕ) (d : ℕ × ℕ) → i < length ps
    → AreDifferent (map variable_of ps)
    → All (λ y. (get_or ps i d).0 ≢ y) (map variable_of (drop (i + 1) ps))
different_behind [] i d low h = absurd (omega (arith, low))
different_behind (p ∷ ps) zero d low h = h.0
different_behind (p ∷ ps) (suc i) d low h =
    let further : suc i + 1 ≡ suc (i + 1) = omega arith in
    subst (λ (k : ℕ). All (λ y. (get_or ps i d).0 ≢ y) (map variable_of (drop k (p ∷ ps))))
    (sym further) (different_behind ps i d (omega (arith, low)) h.1)

-- what is left, with the next variable in front
front : (ps : List (ℕ × ℕ)) (i : ℕ) (d : ℕ × ℕ) → i < length ps
    → elements (drop i ps)
    ≡ and (fun (var (get_or ps i d).0) (get_or ps i d).1) (elements (drop (i + 1) ps))
front ps i d low = ap elements (drop_more ps i d low)

pub can_close : (start t : Theorem) (i : ℕ) (ps : List (ℕ × ℕ)) (e : Pattern)
    → IsOpen ps e start.conclusion → i < length ps → IsClosedSofar start i t
    → CanClose t.conclusion
can_close start t i ps e begins low sofar =
    let d : ℕ × ℕ = (0, 0) in
    record {
      x = (get_or ps i d).0;
      s = (get_or ps i d).1;
      g = elements (drop (i + 1) ps);
      e = for_some_of (take i ps) e;
      is =
          sofar.0 ps e begins (omega (arith, low))
          ∙ ap (λ (h : Pattern). imp h (imp (for_some_of (take i ps) e) bot)) (front ps i d low);
      apart = fresh_elements (get_or ps i d).0 (drop (i + 1) ps)
          (different_behind ps i d low begins.different);
    }

pub next_closed : (start t made : Theorem) (i : ℕ) → IsClosedSofar start i t
    → IsClosed t.conclusion made.conclusion → StaysWithin [] (t ∷ []) made
    → IsClosedSofar start (i + 1) made
next_closed start t made i sofar closed stays = (
  λ ps e begins low.
      let d : ℕ × ℕ = (0, 0) in
      let inside : i < length ps = omega (arith, low) in
      closed (get_or ps i d).0 (get_or ps i d).1 (elements (drop (i + 1) ps))
      (for_some_of (take i ps) e)
      (sofar.0 ps e begins (omega (arith, low))
      ∙ ap (λ (h : Pattern). imp h (imp (for_some_of (take i ps) e) bot)) (front ps i d inside))
      ∙ ap (λ (f : Pattern). imp (elements (drop (i + 1) ps)) (imp f bot))
      (sym (ap (λ (qs : List (ℕ × ℕ)). for_some_of qs e) (take_more ps i d inside)
      ∙ for_some-append (take i ps) (get_or ps i d) e)),
  λ s hp ht. stays s tt (sofar.1 s hp ht, tt),
)

none_left : {A : Type 0} (xs : List A) (i : ℕ) → i ≡ length xs → drop i xs ≡ []
none_left xs i is = ap (λ (n : ℕ). drop n xs) is ∙ go xs
  where
    go : {A : Type 0} (ys : List A) → drop (length ys) ys ≡ []
    go [] = refl
    go (y ∷ ys) = go ys

-- all of them are closed
pub all_closed : (start t : Theorem) (i : ℕ) (ps : List (ℕ × ℕ)) (e : Pattern)
    → IsOpen ps e start.conclusion → i ≡ length ps → IsClosedSofar start i t
    → t.conclusion ≡ imp top (imp (for_some_of ps e) bot)
all_closed start t i ps e begins all sofar =
    sofar.0 ps e begins (omega (arith, all))
    ∙ ap (λ (qs : List (ℕ × ℕ)). imp (elements qs) (imp (for_some_of (take i ps) e) bot))
    (none_left ps i all)
    ∙ ap (λ (qs : List (ℕ × ℕ)). imp top (imp (for_some_of qs e) bot))
    (take_all i ps (omega (arith, all)))
