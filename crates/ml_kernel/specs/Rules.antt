-- The rules of matching logic with one-step and many-step reachability, as schemes over patterns
-- (Rosu 2017; Chen and Rosu 2019).
use Rattle.std.specs.Prelude.{◌≡◌, ℕ, List, [], ◌∷◌, Some, codes}
use Rattle.ml_pat.specs.Patterns.{Pattern, bot, top, imp, not, and, or, equal, member, fun, ex, all}
use Rattle.ml_pat.specs.Patterns.{app, next, ev, var}
use Rattle.ml_pat.specs.Judgements.{IsFresh, IsAbsent, substituted, IsPredicate}
use Rattle.ml_kernel.specs.declared.rules.Rule.{Rule}
use Rattle.ml_kernel.specs.declared.rules.Rule.TheVariants as rule

-- what is substituted for a variable of a scheme
pub data Instance : Type 0 where
  pattern : Pattern → Instance
  variable : ℕ → Instance
  sort : ℕ → Instance

-- `Infers rule is ps q`: the rule, at the instances `is` of its variables, concludes q from ps. The
-- side conditions of a rule are premises of its case.
pub data Infers : Rule → List Instance → List Pattern → Pattern → Type 0 where
  p_1 : (p q : Pattern) → Infers rule.P1 (pattern p ∷ pattern q ∷ []) [] (imp p (imp q p))
  p_2 : (p q r : Pattern)
      → Infers rule.P2 (pattern p ∷ pattern q ∷ pattern r ∷ []) []
      (imp (imp p (imp q r)) (imp (imp p q) (imp p r)))
  p_3 : (p : Pattern) → Infers rule.P3 (pattern p ∷ []) [] (imp (imp (imp p bot) bot) p)
  mp : (p q : Pattern) → Infers rule.Mp (pattern p ∷ pattern q ∷ []) (p ∷ imp p q ∷ []) q
  not_1 : (p : Pattern) → Infers rule.Not1 (pattern p ∷ []) [] (imp (not p) (imp p bot))
  not_2 : (p : Pattern) → Infers rule.Not2 (pattern p ∷ []) [] (imp (imp p bot) (not p))
  and_1 : (p q : Pattern) → Infers rule.And1 (pattern p ∷ pattern q ∷ []) [] (imp (and p q) p)
  and_2 : (p q : Pattern) → Infers rule.And2 (pattern p ∷ pattern q ∷ []) [] (imp (and p q) q)
  and_3 : (p q : Pattern)
      → Infers rule.And3 (pattern p ∷ pattern q ∷ []) [] (imp p (imp q (and p q)))
  or_1 : (p q : Pattern) → Infers rule.Or1 (pattern p ∷ pattern q ∷ []) [] (imp p (or p q))
  or_2 : (p q : Pattern) → Infers rule.Or2 (pattern p ∷ pattern q ∷ []) [] (imp q (or p q))
  or_3 : (p q r : Pattern)
      → Infers rule.Or3 (pattern p ∷ pattern q ∷ pattern r ∷ []) []
      (imp (imp p r) (imp (imp q r) (imp (or p q) r)))
  truth : Infers rule.Top [] [] top
  inst : (p q r : Pattern) (x s : ℕ) → substituted p x q ≡ Some r
      → Infers rule.Inst (pattern p ∷ pattern q ∷ pattern r ∷ variable x ∷ sort s ∷ []) []
      (imp (all x s p) (imp (fun q s) r))
  fun_ex : (p : Pattern) (y s : ℕ) → IsAbsent y p
      → Infers rule.FunEx (pattern p ∷ variable y ∷ sort s ∷ []) []
      (imp (ex y s (equal (var y) p)) (fun p s))
  ex_el : (p q : Pattern) (x s : ℕ) → IsFresh x q
      → Infers rule.ExEl (pattern p ∷ pattern q ∷ variable x ∷ sort s ∷ [])
      (imp (fun (var x) s) (imp p q) ∷ []) (imp (ex x s p) q)
  eq_refl : (p : Pattern) → Infers rule.EqRefl (pattern p ∷ []) [] (equal p p)
  eq_el : (p q r t u : Pattern) (x : ℕ) → substituted r x p ≡ Some t → substituted r x q ≡ Some u
      → Infers rule.EqEl
      (pattern p ∷ pattern q ∷ pattern r ∷ pattern t ∷ pattern u ∷ variable x ∷ []) []
      (imp (equal p q) (imp t u))
  eq_in : (p q : Pattern)
      → Infers rule.EqIn (pattern p ∷ pattern q ∷ []) (imp p q ∷ imp q p ∷ []) (equal p q)
  mem_in : (p : Pattern) (s : ℕ)
      → Infers rule.MemIn (pattern p ∷ sort s ∷ []) [] (imp (fun p s) (member p p))
  mem_no : (p q r : Pattern) → IsPredicate r
      → Infers rule.MemNo (pattern p ∷ pattern q ∷ pattern r ∷ []) (imp r (not (and p q)) ∷ [])
      (imp r (not (member p q)))
  apart : (p q : Pattern) (s v : ℕ)
      → Infers rule.Apart (pattern p ∷ pattern q ∷ sort s ∷ sort v ∷ []) []
      (imp (fun p s) (imp (fun q v) (imp (not (equal p q)) (not (and p q)))))
  app_l : (p q r t : Pattern) → IsPredicate r
      → Infers rule.AppL (pattern p ∷ pattern q ∷ pattern r ∷ pattern t ∷ []) (imp r (imp p q) ∷ [])
      (imp r (imp (app p t) (app q t)))
  app_r : (p q r t : Pattern) → IsPredicate r
      → Infers rule.AppR (pattern p ∷ pattern q ∷ pattern r ∷ pattern t ∷ []) (imp r (imp p q) ∷ [])
      (imp r (imp (app t p) (app t q)))
  bot_l : (p : Pattern) → Infers rule.BotL (pattern p ∷ []) [] (imp (app bot p) bot)
  bot_r : (p : Pattern) → Infers rule.BotR (pattern p ∷ []) [] (imp (app p bot) bot)
  next_in : (p q : Pattern)
      → Infers rule.NextIn (pattern p ∷ pattern q ∷ []) (imp p q ∷ []) (imp (next p) (next q))
  ev_1 : (p : Pattern) → Infers rule.Ev1 (pattern p ∷ []) [] (imp p (ev p))
  ev_2 : (p : Pattern) → Infers rule.Ev2 (pattern p ∷ []) [] (imp (next (ev p)) (ev p))
  ev_kt : (p q : Pattern)
      → Infers rule.EvKt (pattern p ∷ pattern q ∷ []) (imp p q ∷ imp (next q) q ∷ []) (imp (ev p) q)

-- the label of a rule in the header of a Metamath database
abbrev pub label : Rule → List ℕ
label rule.P1 = codes "p.1"
label rule.P2 = codes "p.2"
label rule.P3 = codes "p.3"
label rule.Mp = codes "mp"
label rule.Not1 = codes "not.1"
label rule.Not2 = codes "not.2"
label rule.And1 = codes "and.1"
label rule.And2 = codes "and.2"
label rule.And3 = codes "and.3"
label rule.Or1 = codes "or.1"
label rule.Or2 = codes "or.2"
label rule.Or3 = codes "or.3"
label rule.Top = codes "top"
label rule.Inst = codes "inst"
label rule.FunEx = codes "fun.ex"
label rule.ExEl = codes "ex.el"
label rule.EqRefl = codes "eq.refl"
label rule.EqEl = codes "eq.el"
label rule.EqIn = codes "eq.in"
label rule.MemIn = codes "mem.in"
label rule.MemNo = codes "mem.no"
label rule.Apart = codes "apart"
label rule.AppL = codes "app.l"
label rule.AppR = codes "app.r"
label rule.BotL = codes "bot.l"
label rule.BotR = codes "bot.r"
label rule.NextIn = codes "next.in"
label rule.Ev1 = codes "ev.1"
label rule.Ev2 = codes "ev.2"
label rule.EvKt = codes "ev.kt"
