-- The proof obligation of each rule call, one line for each rule: its case of `Infers`, up to
-- equations between patterns.
use Rattle.std.proofs.Common.{◌≡◌, List, [], ◌∷◌, sym, subst}
use Rattle.std.specs.Prelude.{ℕ, Some}
use Rattle.ml_pat.specs.Patterns.{Pattern, bot, top, imp, not, and, or, equal, member, fun, ex, all}
use Rattle.ml_pat.specs.Patterns.{app, next, ev, var}
use Rattle.ml_pat.specs.Judgements.{IsFresh, IsAbsent, IsPredicate, substituted}
use Rattle.ml_kernel.specs.Rules as rules
use Rattle.ml_kernel.specs.Rules.{Infers, Instance, pattern, variable, sort}
use Rattle.ml_kernel.specs.declared.rules.Rule.{Rule}
use Rattle.ml_kernel.specs.declared.rules.Rule.TheVariants as rule

concluding : (r : Rule) (is : List Instance) (ps : List Pattern) (c q : Pattern) → c ≡ q
    → Infers r is ps q → Infers r is ps c
concluding r is ps c q e h = subst (λ (p : Pattern). Infers r is ps p) (sym e) h

from_one : (r : Rule) (is : List Instance) (a p c q : Pattern) → a ≡ p → c ≡ q
    → Infers r is (p ∷ []) q → Infers r is (a ∷ []) c
from_one r is a p c q e f h =
    concluding r is (a ∷ []) c q f (subst (λ (o : Pattern). Infers r is (o ∷ []) q) (sym e) h)

from_two : (r : Rule) (is : List Instance) (a p b s c q : Pattern) → a ≡ p → b ≡ s → c ≡ q
    → Infers r is (p ∷ s ∷ []) q → Infers r is (a ∷ b ∷ []) c
from_two r is a p b s c q e f g h =
    concluding r is (a ∷ b ∷ []) c q g
    (subst (λ (o : Pattern). Infers r is (o ∷ b ∷ []) q) (sym e)
    (subst (λ (o : Pattern). Infers r is (p ∷ o ∷ []) q) (sym f) h))

pub infers_p_1 : (p q c : Pattern) → c ≡ imp p (imp q p)
    → Infers rule.P1 (pattern p ∷ pattern q ∷ []) [] c
infers_p_1 p q c e = concluding _ _ _ _ _ e (rules.p_1 p q)

pub infers_p_2 : (p q r c : Pattern) → c ≡ imp (imp p (imp q r)) (imp (imp p q) (imp p r))
    → Infers rule.P2 (pattern p ∷ pattern q ∷ pattern r ∷ []) [] c
infers_p_2 p q r c e = concluding _ _ _ _ _ e (rules.p_2 p q r)

pub infers_p_3 : (p : Pattern) (c : Pattern) → c ≡ imp (imp (imp p bot) bot) p
    → Infers rule.P3 (pattern p ∷ []) [] c
infers_p_3 p c e = concluding _ _ _ _ _ e (rules.p_3 p)

pub infers_mp : (p q a b c : Pattern) → a ≡ p → b ≡ imp p q → c ≡ q
    → Infers rule.Mp (pattern p ∷ pattern q ∷ []) (a ∷ b ∷ []) c
infers_mp p q a b c d e f = from_two _ _ _ _ _ _ _ _ d e f (rules.mp p q)

pub infers_not_1 : (p : Pattern) (c : Pattern) → c ≡ imp (not p) (imp p bot)
    → Infers rule.Not1 (pattern p ∷ []) [] c
infers_not_1 p c e = concluding _ _ _ _ _ e (rules.not_1 p)

pub infers_not_2 : (p : Pattern) (c : Pattern) → c ≡ imp (imp p bot) (not p)
    → Infers rule.Not2 (pattern p ∷ []) [] c
infers_not_2 p c e = concluding _ _ _ _ _ e (rules.not_2 p)

pub infers_and_1 : (p q : Pattern) (c : Pattern) → c ≡ imp (and p q) p
    → Infers rule.And1 (pattern p ∷ pattern q ∷ []) [] c
infers_and_1 p q c e = concluding _ _ _ _ _ e (rules.and_1 p q)

pub infers_and_2 : (p q : Pattern) (c : Pattern) → c ≡ imp (and p q) q
    → Infers rule.And2 (pattern p ∷ pattern q ∷ []) [] c
infers_and_2 p q c e = concluding _ _ _ _ _ e (rules.and_2 p q)

pub infers_and_3 : (p q c : Pattern) → c ≡ imp p (imp q (and p q))
    → Infers rule.And3 (pattern p ∷ pattern q ∷ []) [] c
infers_and_3 p q c e = concluding _ _ _ _ _ e (rules.and_3 p q)

pub infers_or_1 : (p q : Pattern) (c : Pattern) → c ≡ imp p (or p q)
    → Infers rule.Or1 (pattern p ∷ pattern q ∷ []) [] c
infers_or_1 p q c e = concluding _ _ _ _ _ e (rules.or_1 p q)

pub infers_or_2 : (p q : Pattern) (c : Pattern) → c ≡ imp q (or p q)
    → Infers rule.Or2 (pattern p ∷ pattern q ∷ []) [] c
infers_or_2 p q c e = concluding _ _ _ _ _ e (rules.or_2 p q)

pub infers_or_3 : (p q r : Pattern) (c : Pattern)
    → c ≡ imp (imp p r) (imp (imp q r) (imp (or p q) r))
    → Infers rule.Or3 (pattern p ∷ pattern q ∷ pattern r ∷ []) [] c
infers_or_3 p q r c e = concluding _ _ _ _ _ e (rules.or_3 p q r)

pub infers_top : (c : Pattern) → c ≡ top → Infers rule.Top [] [] c
infers_top c e = concluding _ _ _ _ _ e rules.truth

pub infers_inst : (p q r : Pattern) (x s : ℕ) (c : Pattern) → substituted p x q ≡ Some r
    → c ≡ imp (all x s p) (imp (fun q s) r)
    → Infers rule.Inst (pattern p ∷ pattern q ∷ pattern r ∷ variable x ∷ sort s ∷ []) [] c
infers_inst p q r x s c k0 e = concluding _ _ _ _ _ e (rules.inst p q r x s k0)

pub infers_fun_ex : (p : Pattern) (y s : ℕ) (c : Pattern) → IsAbsent y p
    → c ≡ imp (ex y s (equal (var y) p)) (fun p s)
    → Infers rule.FunEx (pattern p ∷ variable y ∷ sort s ∷ []) [] c
infers_fun_ex p y s c k0 e = concluding _ _ _ _ _ e (rules.fun_ex p y s k0)

pub infers_ex_el : (p q : Pattern) (x s : ℕ) (h0 : Pattern) (c : Pattern) → IsFresh x q
    → h0 ≡ imp (fun (var x) s) (imp p q) → c ≡ imp (ex x s p) q
    → Infers rule.ExEl (pattern p ∷ pattern q ∷ variable x ∷ sort s ∷ []) (h0 ∷ []) c
infers_ex_el p q x s h0 c k0 e0 e = from_one _ _ _ _ _ _ e0 e (rules.ex_el p q x s k0)

pub infers_eq_refl : (p : Pattern) (c : Pattern) → c ≡ equal p p
    → Infers rule.EqRefl (pattern p ∷ []) [] c
infers_eq_refl p c e = concluding _ _ _ _ _ e (rules.eq_refl p)

pub infers_eq_el : (p q r t u : Pattern) (x : ℕ) (c : Pattern) → substituted r x p ≡ Some t
    → substituted r x q ≡ Some u → c ≡ imp (equal p q) (imp t u)
    → Infers rule.EqEl (pattern p ∷ pattern q ∷ pattern r ∷ pattern t ∷ pattern u ∷ variable x ∷ [])
    [] c
infers_eq_el p q r t u x c k0 k1 e = concluding _ _ _ _ _ e (rules.eq_el p q r t u x k0 k1)

pub infers_eq_in : (p q : Pattern) (h0 : Pattern) (h1 : Pattern) (c : Pattern) → h0 ≡ imp p q
    → h1 ≡ imp q p → c ≡ equal p q → Infers rule.EqIn (pattern p ∷ pattern q ∷ []) (h0 ∷ h1 ∷ []) c
infers_eq_in p q h0 h1 c e0 e1 e = from_two _ _ _ _ _ _ _ _ e0 e1 e (rules.eq_in p q)

pub infers_mem_in : (p : Pattern) (s : ℕ) (c : Pattern) → c ≡ imp (fun p s) (member p p)
    → Infers rule.MemIn (pattern p ∷ sort s ∷ []) [] c
infers_mem_in p s c e = concluding _ _ _ _ _ e (rules.mem_in p s)

pub infers_mem_no : (p q r : Pattern) (h0 : Pattern) (c : Pattern) → IsPredicate r
    → h0 ≡ imp r (not (and p q)) → c ≡ imp r (not (member p q))
    → Infers rule.MemNo (pattern p ∷ pattern q ∷ pattern r ∷ []) (h0 ∷ []) c
infers_mem_no p q r h0 c k0 e0 e = from_one _ _ _ _ _ _ e0 e (rules.mem_no p q r k0)

pub infers_apart : (p q : Pattern) (s v : ℕ) (c : Pattern)
    → c ≡ imp (fun p s) (imp (fun q v) (imp (not (equal p q)) (not (and p q))))
    → Infers rule.Apart (pattern p ∷ pattern q ∷ sort s ∷ sort v ∷ []) [] c
infers_apart p q s v c e = concluding _ _ _ _ _ e (rules.apart p q s v)

pub infers_app_l : (p q r t : Pattern) (h0 : Pattern) (c : Pattern) → IsPredicate r
    → h0 ≡ imp r (imp p q) → c ≡ imp r (imp (app p t) (app q t))
    → Infers rule.AppL (pattern p ∷ pattern q ∷ pattern r ∷ pattern t ∷ []) (h0 ∷ []) c
infers_app_l p q r t h0 c k0 e0 e = from_one _ _ _ _ _ _ e0 e (rules.app_l p q r t k0)

pub infers_app_r : (p q r t : Pattern) (h0 : Pattern) (c : Pattern) → IsPredicate r
    → h0 ≡ imp r (imp p q) → c ≡ imp r (imp (app t p) (app t q))
    → Infers rule.AppR (pattern p ∷ pattern q ∷ pattern r ∷ pattern t ∷ []) (h0 ∷ []) c
infers_app_r p q r t h0 c k0 e0 e = from_one _ _ _ _ _ _ e0 e (rules.app_r p q r t k0)

pub infers_bot_l : (p : Pattern) (c : Pattern) → c ≡ imp (app bot p) bot
    → Infers rule.BotL (pattern p ∷ []) [] c
infers_bot_l p c e = concluding _ _ _ _ _ e (rules.bot_l p)

pub infers_bot_r : (p : Pattern) (c : Pattern) → c ≡ imp (app p bot) bot
    → Infers rule.BotR (pattern p ∷ []) [] c
infers_bot_r p c e = concluding _ _ _ _ _ e (rules.bot_r p)

pub infers_next_in : (p q a c : Pattern) → a ≡ imp p q → c ≡ imp (next p) (next q)
    → Infers rule.NextIn (pattern p ∷ pattern q ∷ []) (a ∷ []) c
infers_next_in p q a c d e = from_one _ _ _ _ _ _ d e (rules.next_in p q)

pub infers_ev_1 : (p c : Pattern) → c ≡ imp p (ev p) → Infers rule.Ev1 (pattern p ∷ []) [] c
infers_ev_1 p c e = concluding _ _ _ _ _ e (rules.ev_1 p)

pub infers_ev_2 : (p c : Pattern) → c ≡ imp (next (ev p)) (ev p)
    → Infers rule.Ev2 (pattern p ∷ []) [] c
infers_ev_2 p c e = concluding _ _ _ _ _ e (rules.ev_2 p)

pub infers_ev_kt : (p q a b c : Pattern) → a ≡ imp p q → b ≡ imp (next q) q → c ≡ imp (ev p) q
    → Infers rule.EvKt (pattern p ∷ pattern q ∷ []) (a ∷ b ∷ []) c
infers_ev_kt p q a b c d e f = from_two _ _ _ _ _ _ _ _ d e f (rules.ev_kt p q)

-- all of these
pub ruleset rule_laws = (
  infers_p_1,
  infers_p_2,
  infers_p_3,
  infers_mp,
  infers_not_1,
  infers_not_2,
  infers_and_1,
  infers_and_2,
  infers_and_3,
  infers_or_1,
  infers_or_2,
  infers_or_3,
  infers_top,
  infers_inst,
  infers_fun_ex,
  infers_ex_el,
  infers_eq_refl,
  infers_eq_el,
  infers_eq_in,
  infers_mem_in,
  infers_mem_no,
  infers_apart,
  infers_app_l,
  infers_app_r,
  infers_bot_l,
  infers_bot_r,
  infers_next_in,
  infers_ev_1,
  infers_ev_2,
  infers_ev_kt,
)
