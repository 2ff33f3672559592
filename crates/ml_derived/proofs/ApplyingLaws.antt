-- A refutation is carried up along the arguments of an application.
use Rattle.std.proofs.Common.{◌≡◌, ◌<◌, ◌≤◌, ◌+◌, ℕ, zero, suc, List, [], ◌∷◌, length, drop, get_or}
use Rattle.std.proofs.Common.{sym, ◌∙◌, ap, subst, add-one, drop-cons, arith}
use Rattle.std.proofs.lemmas.List.{drop_all}
use Rattle.ml_pat.specs.Patterns.{Pattern, bot, imp, app}
use Rattle.ml_kernel.specs.Theorems.{Theorem}
use Rattle.ml_derived.specs.Applying.{applied_to}
use Rattle.ml_derived.specs.Scopes.{Scope, IsOver, AreOver, StaysWithin}

-- The invariant of the loop: nothing is in the present application, which still lacks the arguments
-- from this one on.
pub record IsCarried (r f : Pattern) (ps : List Pattern) (a : Theorem) (i : ℕ) (at : Pattern)
    (present : Theorem) : Type 0 where
  pub conclusion : present.conclusion ≡ imp r (imp at bot)
  pub rest : applied_to at (drop i ps) ≡ applied_to f ps
  pub stays : StaysWithin ps (a ∷ []) present

pub carried_at_start : (r f at : Pattern) (ps : List Pattern) (a : Theorem)
    → a.conclusion ≡ imp r (imp f bot) → at ≡ f → IsCarried r f ps a 0 at a
carried_at_start r f at ps a is same = record {
  conclusion = is ∙ ap (λ (p : Pattern). imp r (imp p bot)) (sym same);
  rest = ap (λ (p : Pattern). applied_to p ps) same;
  stays = λ s hp ht. ht.0;
}

next_item : (ps : List Pattern) (i : ℕ) (p : Pattern) → i < length ps → p ≡ get_or ps i p
    → drop i ps ≡ p ∷ drop (i + 1) ps
next_item ps i p lt is =
    rw (add-one, drop-cons ps i p) (ap (λ (q : Pattern). q ∷ drop (suc i) ps) (sym is))

over_at : (s : Scope) (ps : List Pattern) (i : ℕ) (p : Pattern) → AreOver s ps → i < length ps
    → p ≡ get_or ps i p → IsOver s p
over_at s [] i p h lt is = absurd (omega (arith, lt))
over_at s (q ∷ ps) zero p h lt is = subst (IsOver s) (sym is) h.0
over_at s (q ∷ ps) (suc i) p h lt is = over_at s ps i p h.1 (omega (arith, lt)) is

pub carried_further : (r f at new : Pattern) (ps : List Pattern) (a : Theorem) (i : ℕ) (p : Pattern)
    (present further : Theorem) → IsCarried r f ps a i at present → i < length ps → p ≡ get_or ps i p
    → further.conclusion ≡ imp r (imp (app at p) bot) → new ≡ app at p
    → StaysWithin (p ∷ []) (present ∷ []) further → IsCarried r f ps a (i + 1) new further
carried_further r f at new ps a i p present further h lt is concludes made stays = record {
  conclusion = concludes ∙ ap (λ (q : Pattern). imp r (imp q bot)) (sym made);
  rest =
      ap (λ (q : Pattern). applied_to q (drop (i + 1) ps)) made
      ∙ sym (ap (applied_to at) (next_item ps i p lt is)) ∙ h.rest;
  stays = λ s hp ht. stays s (over_at s ps i p hp lt is, tt) (h.stays s hp ht, tt);
}

pub carried_at_end : (r f at : Pattern) (ps : List Pattern) (a : Theorem) (i : ℕ)
    (present : Theorem) → IsCarried r f ps a i at present → length ps ≤ i
    → present.conclusion ≡ imp r (imp (applied_to f ps) bot)
carried_at_end r f at ps a i present h le =
    h.conclusion
    ∙ ap (λ (q : Pattern). imp r (imp q bot))
    (sym (ap (applied_to at) (drop_all i ps le)) ∙ h.rest)
