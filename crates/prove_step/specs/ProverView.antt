-- The context that a `Prover` of the code has as its model, and what is true of it.
use Rattle.std.specs.Prelude.{◌≡◌, ℕ, List, Option, length}
use Rattle.prove_term.specs.Contexts.{Context}
use Rattle.prove_fun.specs.KeptLemmas.{IsKeptIn}
use Rattle.prove_step.specs.declared.prover.Prover.TheInside.{Inside}
use Rattle.prove_step.specs.KeptSides.{AreSideLemmas}
use Rattle.prove_step.specs.RuleLemmas.{AreRuleLemmas}
use Rattle.prove_step.specs.declared.side_lemmas.SideLemmas.{SideLemmas}

abbrev pub context_of : Inside → Context
context_of a = a.cx

-- There is room for one place per rule. The lemma at a kept place is the lemma of its rule. The
-- kept lemmas of equations and of sides are right too.
pub record AreLemmas (cx : Context) (places : List (Option ℕ)) (kept : List ((ℕ × ℕ) × ℕ))
    (lemmas : SideLemmas) :
    Type 0 where
  pub room : length places ≡ length cx.program.rules.items
  pub rules : AreRuleLemmas cx places
  pub equations : IsKeptIn cx kept
  pub sides : AreSideLemmas cx lemmas

abbrev pub HasLemmas : Inside → Type 0
HasLemmas a = AreLemmas a.cx a.rules.items a.kept a.sides
