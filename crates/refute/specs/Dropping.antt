-- Left sides without the names of their parts, or with one name in the place of its part.
use Rattle.std.specs.Prelude.{◌≡◌, Bool, if◌then◌else◌, Some}
use Rattle.ml_pat.specs.Patterns.{Pattern, imp, app, and, not}
use Rattle.ml_kernel.specs.Theorems.{Theorem}
use Rattle.ml_image.specs.Sentences.{Sentence, sentence_image}
use Rattle.prove_term.specs.Contexts.{Context, StaysIn}

-- the theorem says that the sentence s implies r
pub record Implies (cx : Context) (s r : Sentence) (t : Theorem) : Type 0 where
  pub from : Pattern
  pub is_from : sentence_image cx.program.sig cx.names s ≡ Some from
  pub to : Pattern
  pub is_to : sentence_image cx.program.sig cx.names r ≡ Some to
  pub says : t.conclusion ≡ imp from to
  pub stays : StaysIn cx t

-- an implication
abbrev pub IsImplication : Pattern → Type 0
IsImplication c = (p : Pattern) × (q : Pattern) × (c ≡ imp p q)

-- `f a -> g b`, from `f -> g` and `a -> b`
abbrev pub IsApplied : Pattern → Pattern → Pattern → Type 0
IsApplied function argument made =
    (f g a b : Pattern) → function ≡ imp f g → argument ≡ imp a b
    → made ≡ imp (app f a) (app g b)

-- the conjunction of the name x and the pattern p, as they are written
abbrev pub with_name : Bool → Pattern → Pattern → Pattern
with_name first x p = if first then and x p else and p x

-- `h -> q & t -> e` and `d -> q`
abbrev pub AreDroppable : Pattern → Pattern → Type 0
AreDroppable rule dropping =
    (h : Pattern) × (q : Pattern) × (t : Pattern) × (e : Pattern) × (d : Pattern)
    × (rule ≡ imp h (imp (and q t) e)) × (dropping ≡ imp d q)

-- `h -> d & t -> e`
abbrev pub IsOfNamed : Pattern → Pattern → Pattern → Type 0
IsOfNamed rule dropping made =
    (h q t e d : Pattern) → rule ≡ imp h (imp (and q t) e) → dropping ≡ imp d q
    → made ≡ imp h (imp (and d t) e)

-- `h -> ~(q & t)` and `d -> q`
abbrev pub AreDroppableDenial : Pattern → Pattern → Type 0
AreDroppableDenial denial dropping =
    (h : Pattern) × (q : Pattern) × (t : Pattern) × (d : Pattern)
    × (denial ≡ imp h (not (and q t))) × (dropping ≡ imp d q)

-- `h -> ~(d & t)`
abbrev pub IsDenialOfNamed : Pattern → Pattern → Pattern → Type 0
IsDenialOfNamed denial dropping made =
    (h q t d : Pattern) → denial ≡ imp h (not (and q t)) → dropping ≡ imp d q
    → made ≡ imp h (not (and d t))
