-- Instances of sentences at closed patterns, and at patterns with variables under a hypothesis.
use Rattle.std.specs.Prelude.{◌≡◌, ◌==◌, ℕ, List, [], ◌∷◌, if◌then◌else◌, Some}
use Rattle.ml_pat.specs.Patterns.{Pattern, nullary, unary, binary, sorted, quantified, fun, all}
use Rattle.ml_pat.specs.Patterns.{imp, var, meta, constant}
use Rattle.ml_pat.specs.Judgements.{substituted}
use Rattle.ml_kernel.specs.Lemmas.{HasNoVariable}

-- The pattern with u substituted for each free x. If u has no variable, nothing is captured.
abbrev pub put : ℕ → Pattern → Pattern → Pattern
put x u (nullary c) = nullary c
put x u (binary c p q) = binary c (put x u p) (put x u q)
put x u (unary c p) = unary c (put x u p)
put x u (sorted c p s) = sorted c (put x u p) s
put x u (quantified c y s p) = quantified c y s (if x == y then p else put x u p)
put x u (var y) = if x == y then u else var y
put x u (meta i) = meta i
put x u (constant c) = constant c

-- r is p at the closed patterns of these facts. Each fact says that a pattern is one element of the
-- sort of the variable that is the outermost one then.
abbrev pub IsInstance : Pattern → List Pattern → Pattern → Type 0
IsInstance p [] r = r ≡ p
IsInstance p (fact ∷ facts) r =
    (x : ℕ) × ((s : ℕ) × ((q : Pattern) × ((body : Pattern) ×
    ((p ≡ all x s body)
    × ((fact ≡ fun q s) × (HasNoVariable q × IsInstance (put x q body) facts r))))))

-- p binds a variable of the right sort for each of the facts
abbrev pub HasInstance : Pattern → List Pattern → Type 0
HasInstance p facts = (r : Pattern) × IsInstance p facts r

-- r is p at the patterns of these facts, which may have variables. Each fact says that under the
-- hypothesis h a pattern is one element of the sort of the variable that is the outermost one then.
abbrev pub IsOpenInstance : Pattern → Pattern → List Pattern → Pattern → Type 0
IsOpenInstance h p [] r = r ≡ p
IsOpenInstance h p (fact ∷ facts) r =
    (x : ℕ) × ((s : ℕ) × ((q : Pattern) × ((body : Pattern) × ((made : Pattern) ×
    ((p ≡ all x s body)
    × ((fact ≡ imp h (fun q s))
    × ((substituted body x q ≡ Some made) × IsOpenInstance h made facts r)))))))

-- p binds a variable of the right sort for each of the facts, and nothing is captured
abbrev pub HasOpenInstance : Pattern → Pattern → List Pattern → Type 0
HasOpenInstance h p facts = (r : Pattern) × IsOpenInstance h p facts r

-- the pattern says that under the hypothesis such an instance holds
abbrev pub SaysOpenInstance : Pattern → Pattern → List Pattern → Pattern → Type 0
SaysOpenInstance h p facts t = (r : Pattern) × ((t ≡ imp h r) × IsOpenInstance h p facts r)
