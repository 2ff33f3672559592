-- What is said of a refused text, and the sort of a program's rules.
use Rattle.std.specs.Prelude.{◌≡◌, ℕ, [], All, Option, Some, None, option_map}
use Rattle.term_core.specs.declared.ids.SortId.{SortId}
use Rattle.rule_core.specs.Theories.{RewriteTheory}
use Rattle.rule_core.specs.WellSorted.{IsRuleOf}
use Rattle.rule_core.specs.declared.rules.Program.{Program}
use Rattle.kore_sig.specs.FirstFault.{Fault}
use Rattle.kore_axioms.specs.declared.refusals.Refusal.{Refusal}
use Rattle.kore_axioms.specs.declared.refusals.Refusal.TheVariants.{Refused, Memory}

-- P holds for the fault that the text is refused for; nothing is said if memory ran out
abbrev pub RefusesFor : (Fault → Type 0) → Refusal → Type 0
RefusesFor P (Refused number byte) = P (record { number = number; byte = byte })
RefusesFor P Memory = Unit {0}

abbrev pub number_of_sort : Option SortId → Option ℕ
number_of_sort sort = option_map (λ (s : SortId). s.0) sort

-- the sort of the rules that the program states, if there is one
abbrev pub top_of : Program → Option ℕ
top_of program = number_of_sort program.top

-- all rules have this sort; None if there are no rules
abbrev pub IsSortOfRules : RewriteTheory → Option ℕ → Type 0
IsSortOfRules theory None = theory.rules ≡ []
IsSortOfRules theory (Some s) = All (IsRuleOf theory.sig s) theory.rules
