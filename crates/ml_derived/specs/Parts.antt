-- The patterns whose parts derived rules read.
use Rattle.std.specs.Prelude.{◌≡◌, ℕ, Some}
use Rattle.ml_pat.specs.Patterns.{Pattern, imp, and, equal, next, fun, all}
use Rattle.ml_pat.specs.Judgements.{substituted}
use Rattle.ml_kernel.specs.Lemmas.{HasNoVariable}
use Rattle.ml_derived.specs.Instances.{put}

abbrev pub IsImplication : Pattern → Type 0
IsImplication t = (p : Pattern) × ((q : Pattern) × (t ≡ imp p q))

abbrev pub IsConjunction : Pattern → Type 0
IsConjunction t = (p : Pattern) × ((q : Pattern) × (t ≡ and p q))

abbrev pub IsNext : Pattern → Type 0
IsNext t = (p : Pattern) × (t ≡ next p)

abbrev pub IsForAll : Pattern → Type 0
IsForAll t = (x : ℕ) × ((s : ℕ) × ((p : Pattern) × (t ≡ all x s p)))

abbrev pub IsFunctional : Pattern → Type 0
IsFunctional t = (p : Pattern) × ((s : ℕ) × (t ≡ fun p s))

-- t says that p is one element of a sort
abbrev pub IsElementOf : Pattern → Pattern → Type 0
IsElementOf p t = (s : ℕ) × (t ≡ fun p s)

-- the sentence binds a variable, and the fact says that a closed pattern is one element of the
-- variable's sort
abbrev pub FitsBinder : Pattern → Pattern → Type 0
FitsBinder sentence fact =
    (x : ℕ) × ((s : ℕ) × ((q : Pattern) × ((body : Pattern) ×
    ((sentence ≡ all x s body) × ((fact ≡ fun q s) × HasNoVariable q)))))

-- the sentence with the pattern of the fact substituted for its variable
abbrev pub IsPutIn : Pattern → Pattern → Pattern → Type 0
IsPutIn sentence fact r =
    (x s : ℕ) (q body : Pattern) → sentence ≡ all x s body → fact ≡ fun q s → r ≡ put x q body

abbrev pub IsEquality : Pattern → Type 0
IsEquality t = (p : Pattern) × ((q : Pattern) × (t ≡ equal p q))

-- the pattern can be substituted for x
abbrev pub CanReplace : Pattern → ℕ → Pattern → Type 0
CanReplace context x p = (made : Pattern) × (substituted context x p ≡ Some made)

-- Under the hypothesis h the sentence binds a variable, and the fact says that a pattern is one
-- element of the variable's sort. The pattern can be substituted for the variable.
pub record FitsUnder (h sentence fact : Pattern) : Type 0 where
  pub variable : ℕ
  pub sort : ℕ
  pub body : Pattern
  pub by : Pattern
  pub made : Pattern
  pub binds : sentence ≡ imp h (all variable sort body)
  pub says : fact ≡ imp h (fun by sort)
  pub put : substituted body variable by ≡ Some made

-- the sentence with the pattern of the fact substituted for its variable, under the hypothesis
abbrev pub IsPutUnder : Pattern → Pattern → Pattern → Pattern → Type 0
IsPutUnder h sentence fact r = (fits : FitsUnder h sentence fact) → r ≡ imp h fits.made
