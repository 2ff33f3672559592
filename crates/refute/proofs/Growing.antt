-- What stays true when a context grows.
use Rattle.std.proofs.Common.{◌≤◌, ℕ, List, length, sym, subst, arith}
use Rattle.std.proofs.lemmas.List.{length-map}
use Rattle.term_core.specs.declared.ids.SortId.{SortId}
use Rattle.ml_pat.specs.Patterns.{Pattern}
use Rattle.term_core.specs.Patterns.{Pattern as RulePattern}
use Rattle.term_core.specs.Terms.{Tree}
use Rattle.rule_core.specs.AcSymbols.{IsAcFree}
use Rattle.rule_core.specs.ProgramView.{theory_of}
use Rattle.rule_core.specs.WellSorted.{IsWellSorted}
use Rattle.rule_core.specs.declared.rules.Program.{Program}
use Rattle.ml_image.specs.Sentences.{Sentence}
use Rattle.prove_term.specs.Contexts.{Context, HasGrown}
use Rattle.prove_term.proofs.ContextLaws.{grown_none, grown_twice, image_grown}
use Rattle.prove_term.proofs.ContextLaws.{stays_grown}
use Rattle.prove_open.specs.Under.{SaysUnder, DeniesUnder}
use Rattle.prove_open.specs.Differences.{SaysDifference}
use Rattle.prove_open.proofs.GatheringLaws.{given_grown}
use Rattle.prove_open.specs.declared.givens.Given.{Given}
use Rattle.prove_open.specs.declared.differences.Difference.{Difference}
use Rattle.prove_open.specs.declared.differences.Difference.TheVariants.{Unequal, Disjoint}
use Rattle.refute.specs.declared.settings.Setting.{Setting}
use Rattle.refute.specs.declared.settings.Goal.{Goal}
use Rattle.refute.specs.declared.settings.Goal.TheVariants as goal
use Rattle.refute.specs.Refuting.{IsGoal, IsSetting, Denies, IsPair, AreCovered}
use Rattle.term_core.specs.RulePatterns.{sort_numbers}

pub ruleset growing = (grown_none, grown_twice)

-- what is said of a program is said of the program of the grown context
pub program_grown : (a b : Context) (P : Program → Type 0) → HasGrown a b → P a.program
    → P b.program
program_grown a b P g h = subst P (sym g.program) h

pub says_under_grown : (a b : Context) (h : Pattern) (s : Sentence) (p : Pattern) → HasGrown a b
    → SaysUnder a h s p → SaysUnder b h s p
says_under_grown a b h s p g is = record {
  image = is.image;
  is_image = image_grown a b s is.image g is.is_image;
  says = is.says;
}

pub denies_under_grown : (a b : Context) (h : Pattern) (s : Sentence) (p : Pattern) → HasGrown a b
    → DeniesUnder a h s p → DeniesUnder b h s p
denies_under_grown a b h s p g is = record {
  image = is.image;
  is_image = image_grown a b s is.image g is.is_image;
  says = is.says;
}

pub goal_grown : (a b : Context) (h : Pattern) (what : Goal) → HasGrown a b → IsGoal a h what
    → IsGoal b h what
goal_grown a b h goal.Clash grown is = tt
goal_grown a b h (goal.Binding x t fact) grown is = (
  says_under_grown a b h _ fact.conclusion grown is.0,
  stays_grown a b fact grown is.1,
)

pub setting_grown : (a b : Context) (s : Setting) → HasGrown a b → IsSetting a s → IsSetting b s
setting_grown a b s grown is = record {
  well_sorted =
      program_grown a b (λ (program : Program). IsWellSorted (theory_of program)) grown
      is.well_sorted;
  no_ac = program_grown a b (λ (program : Program). IsAcFree program.sig) grown is.no_ac;
  given = given_grown a b (sort_numbers s.sorts.now) s.given grown is.given;
  new = is.new;
  goal = goal_grown a b s.given.hypothesis s.goal grown is.goal;
}

pub difference_grown : (a b : Context) (h : Pattern) (p q : RulePattern) (d : Difference)
    → HasGrown a b → SaysDifference a h p q d → SaysDifference b h p q d
difference_grown a b h p q (Unequal t) grown is = says_under_grown a b h _ t.conclusion grown is
difference_grown a b h p q (Disjoint t) grown is = denies_under_grown a b h _ t.conclusion grown is

pub denies_grown : (a b : Context) (h : Pattern) (p q : RulePattern) (d : Difference)
    → HasGrown a b → Denies a h p q d → Denies b h p q d
denies_grown a b h p q d grown is = record {
  says = difference_grown a b h p q d grown is.says;
  stays = stays_grown a b _ grown is.stays;
}

pub pair_grown : (a b : Context) (sorts : List ℕ) (g : Given) (p : RulePattern) (t : Tree)
    → HasGrown a b → IsPair a.program.sig sorts g p t → IsPair b.program.sig sorts g p t
pair_grown a b sorts g p t grown is =
    program_grown a b (λ (program : Program). IsPair program.sig sorts g p t) grown is

pub covered_grown : (a b : Context) (sorts : List ℕ) (g : Given) (p q : RulePattern)
    → HasGrown a b → AreCovered a.program.sig sorts g p q → AreCovered b.program.sig sorts g p q
covered_grown a b sorts g p q grown is =
    program_grown a b (λ (program : Program). AreCovered program.sig sorts g p q) grown is

-- the new variable is above those that have sorts
pub new_is_high : (cx : Context) (s : Setting) → IsSetting cx s
    → length (sort_numbers s.sorts.now) ≤ s.new.0
new_is_high cx s is =
    omega (arith, is.new, length-map s.sorts.now (λ (r : SortId). r.0))
