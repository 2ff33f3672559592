-- What is known about a pattern, where the judgement of one of its parts may be left open.
use Rattle.std.specs.Prelude.{◌≡◌, ◌<◌, ℕ, Bool, true, false}
use Rattle.ml_pat.specs.Patterns.{Pattern}
use Rattle.ml_pat.specs.FormsIn.{forms_in}
use Rattle.ml_pat.specs.Judgements.{fresh, predicate}
use Rattle.ml_pat.specs.declared.judgements.Judgement.{Judgement}
use Rattle.ml_pat.specs.declared.judgements.Judgement.TheVariants as judgement

-- Either it is known whether x is not free, or it is so if and only if it is so in this smaller
-- part.
abbrev pub JudgesFresh : ℕ → Pattern → Judgement → Type 0
JudgesFresh x p (judgement.Known answer) = answer ≡ fresh x p
JudgesFresh x p (judgement.AsPart part) =
    (fresh x part.now ≡ fresh x p) × (forms_in part.now < forms_in p)

-- Either it is known whether the pattern is a predicate, or it is one if and only if this smaller
-- part is one.
abbrev pub JudgesPredicate : Pattern → Judgement → Type 0
JudgesPredicate p (judgement.Known answer) = answer ≡ predicate p
JudgesPredicate p (judgement.AsPart part) =
    (predicate part.now ≡ predicate p) × (forms_in part.now < forms_in p)

-- the answer is that of the part if the other one holds, and otherwise no
abbrev pub IsPartWhere : Bool → Pattern → Judgement → Type 0
IsPartWhere other p (judgement.Known answer) = (other ≡ false) × (answer ≡ false)
IsPartWhere other p (judgement.AsPart part) = (other ≡ true) × (part.now ≡ p)

-- the answer is yes if that is known already, and otherwise that of the part
abbrev pub IsPartUnless : Bool → Pattern → Judgement → Type 0
IsPartUnless known p (judgement.Known answer) = (known ≡ true) × (answer ≡ true)
IsPartUnless known p (judgement.AsPart part) = (known ≡ false) × (part.now ≡ p)
