-- The pattern that represents a form of the code. The parts of the pattern represent the parts of
-- the form.
use Rattle.ml_pat.specs.Patterns.{Pattern, bot, top, imp, not, and, or, equal, member, fun, ex, all}
use Rattle.ml_pat.specs.Patterns.{app, at_sort, next, ev, var, meta, constant}
use Rattle.ml_pat.specs.declared.patterns.MForm.{MForm}
use Rattle.ml_pat.specs.declared.patterns.MForm.TheVariants as form

abbrev pub pattern_of : MForm → Pattern
pattern_of form.Bot = bot
pattern_of form.Top = top
pattern_of (form.Imp p q) = imp p q
pattern_of (form.Not p) = not p
pattern_of (form.And p q) = and p q
pattern_of (form.Or p q) = or p q
pattern_of (form.Equal p q) = equal p q
pattern_of (form.Member p q) = member p q
pattern_of (form.Fun p s) = fun p s.0
pattern_of (form.Ex x s p) = ex x.0 s.0 p
pattern_of (form.All x s p) = all x.0 s.0 p
pattern_of (form.App p q) = app p q
pattern_of (form.At p s) = at_sort p s.0
pattern_of (form.Next p) = next p
pattern_of (form.Ev p) = ev p
pattern_of (form.Var x) = var x.0
pattern_of (form.Meta i) = meta i
pattern_of (form.Const c) = constant c.0
