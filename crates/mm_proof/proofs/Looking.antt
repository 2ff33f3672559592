-- Patterns on a stack.
use Rattle.std.proofs.Common.{◌≡◌, ℕ, ◌+◌, ◌<◌, Bool, true, false, List, [], ◌∷◌, ◌++◌, refl, ap}
use Rattle.std.proofs.Common.{◌∙◌, sym, arith}
use Rattle.std.specs.Prelude.{◌&&◌}
use Rattle.std.specs.Borrow.{Bor}
use Rattle.ml_pat.specs.Patterns.{Pattern}
use Rattle.ml_pat.specs.FormsIn.{forms_in}
use Rattle.ml_pat.specs.Judgements.{absent}
use Rattle.mm_proof.specs.Searching.{patterns_of, all_absent, all_forms, IsLeft}

and_assoc : (a b c : Bool) → ((a && b) && c) ≡ (a && (b && c))
and_assoc true b c = refl
and_assoc false b c = refl

and_true : (a : Bool) → (a && true) ≡ a
and_true true = refl
and_true false = refl

pub all_absent-push : (x : ℕ) (ps : List (Bor Pattern)) (p : Bor Pattern)
    → all_absent x (patterns_of (ps ++ p ∷ [])) ≡ (absent x p.now && all_absent x (patterns_of ps))
all_absent-push x [] p = sym (and_true (absent x p.now))
all_absent-push x (q ∷ ps) p = ap (λ b. b && absent x q.now) (all_absent-push x ps p)
    ∙ and_assoc (absent x p.now) (all_absent x (patterns_of ps)) (absent x q.now)

pub all_forms-push : (ps : List (Bor Pattern)) (p : Bor Pattern)
    → all_forms (patterns_of (ps ++ p ∷ [])) ≡ all_forms (patterns_of ps) + forms_in p.now
all_forms-push [] p = omega arith
all_forms-push (q ∷ ps) p = omega (arith, all_forms-push ps p)

pub one_left : (x : ℕ) (p : Bor Pattern) (old new : List (Bor Pattern)) → new ≡ old ++ p ∷ []
    → IsLeft x (absent x p.now) (forms_in p.now + 1) old new true
one_left x p old new is = (
  ap (λ ps. all_absent x (patterns_of ps)) is ∙ all_absent-push x old p,
  (let e : all_forms (patterns_of new) ≡ all_forms (patterns_of old) + forms_in p.now =
      ap (λ ps. all_forms (patterns_of ps)) is ∙ all_forms-push old p in
      omega (arith, e)),
)

pub two_left : (x : ℕ) (p q : Bor Pattern) (old mid new : List (Bor Pattern)) → mid ≡ old ++ q ∷ []
    → new ≡ mid ++ p ∷ []
    → IsLeft x (absent x p.now && absent x q.now) (forms_in p.now + forms_in q.now + 1) old new true
two_left x p q old mid new first second =
    let f : all_absent x (patterns_of mid) ≡ (absent x q.now && all_absent x (patterns_of old)) =
    ap (λ ps. all_absent x (patterns_of ps)) first ∙ all_absent-push x old q in (
      ap (λ ps. all_absent x (patterns_of ps)) second ∙ all_absent-push x mid p
          ∙ ap (λ b. absent x p.now && b) f
          ∙ sym (and_assoc (absent x p.now) (absent x q.now) (all_absent x (patterns_of old))),
      (let e : all_forms (patterns_of new) ≡ all_forms (patterns_of mid) + forms_in p.now =
          ap (λ ps. all_forms (patterns_of ps)) second ∙ all_forms-push mid p in
          let g : all_forms (patterns_of mid) ≡ all_forms (patterns_of old) + forms_in q.now =
          ap (λ ps. all_forms (patterns_of ps)) first ∙ all_forms-push old q in
          omega (arith, e, g)),
    )

-- one more pattern was searched
pub looked : (x : ℕ) (next : Bor Pattern) (before popped new : List (Bor Pattern))
    (going whole : Bool) → before ≡ popped ++ next ∷ []
    → all_absent x (patterns_of before) ≡ whole
    → IsLeft x (absent x next.now) (forms_in next.now) popped new going
    → (going && all_absent x (patterns_of new)) ≡ whole
looked x next before popped new going whole is invariant left =
    left.0 ∙ sym (all_absent-push x popped next) ∙ ap (λ ps. all_absent x (patterns_of ps)) (sym is)
    ∙ invariant

pub looked_smaller : (x : ℕ) (next : Bor Pattern) (before popped new : List (Bor Pattern))
    (going : Bool) → before ≡ popped ++ next ∷ []
    → IsLeft x (absent x next.now) (forms_in next.now) popped new going
    → all_forms (patterns_of new) < all_forms (patterns_of before)
looked_smaller x next before popped new going is left =
    let e : all_forms (patterns_of before) ≡ all_forms (patterns_of popped) + forms_in next.now =
    ap (λ ps. all_forms (patterns_of ps)) is ∙ all_forms-push popped next in
    omega (arith, e, left.1)

pub still_going : (going new whole : Bool) → going ≡ true → (going && new) ≡ whole → new ≡ whole
still_going true new whole is h = h
still_going false new whole is h = absurd (cc)

pub stopped : (going new whole : Bool) → going ≡ false → (going && new) ≡ whole → false ≡ whole
stopped true new whole is h = absurd (cc)
stopped false new whole is h = h
