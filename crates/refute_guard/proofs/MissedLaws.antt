-- Why the equation that a guard repeats is not used, as a fact on the guard's arguments.
use Rattle.std.proofs.Common.{◌≡◌, ◌⊎◌, inl, inr, ◌<◌, ℕ, List, [], length, Option, Some, sym, ◌∙◌, ap}
use Rattle.std.proofs.Common.{refl, subst}
use Rattle.term_core.specs.Terms.{Tree, Forest}
use Rattle.term_core.specs.Patterns.{binding}
use Rattle.term_core.specs.RulePatterns.{sort_numbers}
use Rattle.rule_core.specs.Evaluation.{IsUnmatchedBy, MatchesBy}
use Rattle.rule_core.specs.Matching.{MatchNamed, OccursInSome}
use Rattle.rule_core.specs.NamedParts.{IsNamed}
use Rattle.rule_core.specs.ProgramView.{theory_of}
use Rattle.rule_core.specs.Rules.{Equation}
use Rattle.rule_core.specs.WellSorted.{IsWellSorted}
use Rattle.rule_core.specs.declared.signature.Signature.{Signature}
use Rattle.rule_core.specs.declared.rules.Program.{Program}
use Rattle.rule_core.proofs.MatchExact.{match_is_unique}
use Rattle.rule_core.proofs.NamedMatches.{match_named_once}
use Rattle.ml_image.specs.LastResorts.{number_from}
use Rattle.ml_image.specs.Premises.{is_true, sort_of}
use Rattle.ml_image.specs.Sentences.{not}
use Rattle.ml_image.proofs.WellSortedLaws.{names_below}
use Rattle.prove_term.specs.Contexts.{Context, HasGrown}
use Rattle.prove_term.specs.Filling.{filled}
use Rattle.prove_term.proofs.ContextLaws.{image_grown, stays_grown}
use Rattle.guard_body.specs.Arguments.{MatchTogether}
use Rattle.guard_body.specs.Guarded.{IsRepeated}
use Rattle.refute_guard.specs.Guards.{IsMissed}
use Rattle.guard_body.specs.Guarded.{IsAppliedTo, IsOrderOf}
use Rattle.guard_body.specs.Renaming.{sorts_from}
use Rattle.refute_guard.specs.Repeated.{IsMissedHere}
use Rattle.guard_body.specs.declared.guarded.Guarded.{Guarded}
use Rattle.refute_guard.specs.declared.guards.Missed.{Missed}
use Rattle.refute_guard.specs.declared.guards.Missed.TheVariants.{NoMatch, ConditionFalse}
use Rattle.refute_guard.proofs.FalseConditions.{fails_together}
use Rattle.guard_body.proofs.RepeatedLaws.{named_low, renumbers}
use Rattle.guard_body.proofs.TogetherLaws.{AreTogether, from_whole, matches_whole, pulled}
use Rattle.rule_core.proofs.SortedInstances.{sorted_use_first}

-- substitutions that match the guard's arguments, and are one
together : (cx : Context) (k : ℕ) (order : List ℕ) (ts : Forest) (e : Equation) (x : Guarded)
    (found : List (List (Option Tree))) → IsAppliedTo cx.program.sig e ts
    → IsOrderOf (length e.variables) order → IsRepeated cx k order ts e x
    → MatchTogether cx.program.sig (sort_numbers x.sorts.items) x.arguments.items found
    → AreTogether cx.program.sig (number_from k order) e.variables (sorts_from k e.variables order)
    e.arguments e.names ts x.arguments.items found
together cx k order ts e x found (info, equation, terms) is w m = record {
  numbers = renumbers k e.variables order is;
  low = λ y used. low y used;
  named = equation.names;
  renamed = w.arguments;
  together =
      subst (λ (ss : List ℕ). MatchTogether cx.program.sig ss x.arguments.items found) w.sorts m;
}
  where
    low : (y : ℕ) → OccursInSome y e.arguments ⊎ IsNamed e.names y → y < length e.variables
    low y (inl o) =
        sorted_use_first cx.program.sig e.variables [] e.arguments info.args.items
        equation.arguments y o
    low y (inr n) =
        named_low (length e.variables) e.names y
        (names_below cx.program.sig e.variables e.arguments e.names equation.names) n

-- at most one substitution matches
once : (sig : Signature) (e : Equation) (ts : Forest) (theta sigma : List (Option Tree))
    (cx : Context) → cx.program.sig ≡ sig → IsWellSorted (theory_of cx.program)
    → IsAppliedTo cx.program.sig e ts
    → MatchNamed cx.program.sig e.variables e.arguments e.names ts theta
    → MatchNamed cx.program.sig e.variables e.arguments e.names ts sigma → theta ≡ sigma
once sig e ts theta sigma cx same good (info, equation, terms) one other =
    match_named_once cx.program.sig e.variables e.arguments e.names ts theta sigma
    (λ xs ys a b. match_is_unique cx.program.sig e.variables [] e.arguments info.args.items ts xs ys
    good.signature.no_cycle equation.arguments a b) one other

pub missed_here : (cx : Context) (k : ℕ) (order : List ℕ) (ts : Forest) (e : Equation)
    (x : Guarded) (missed : Missed) → IsWellSorted (theory_of cx.program)
    → IsAppliedTo cx.program.sig e ts → IsOrderOf (length e.variables) order
    → (w : IsRepeated cx k order ts e x) → IsMissed cx e ts missed
    → IsMissedHere cx (sort_numbers x.sorts.items) x.arguments.items w.condition missed
missed_here cx k order ts e x NoMatch good applied is w unmatched = λ found m.
    unmatched (pulled (number_from k order) found 0 (length e.variables))
    (matches_whole cx.program.sig (number_from k order) e.variables
    (sorts_from k e.variables order) e.arguments e.names ts x.arguments.items found
    (together cx k order ts e x found applied is w m))
missed_here cx k order ts e x (ConditionFalse theta t) good applied is w fails =
    fails_together cx k order ts e x theta.now t.now good applied is w fails
    (λ found m i y sigma u there bound.
    let h = together cx k order ts e x found applied is w m in
    let g = number_from k order in
    let whole =
    matches_whole cx.program.sig g e.variables (sorts_from k e.variables order) e.arguments e.names
    ts x.arguments.items found h in
    let same = once cx.program.sig e ts (pulled g found 0 (length e.variables)) theta.now cx refl good
    applied whole fails.matches in
    let v =
    from_whole cx.program.sig g e.variables (sorts_from k e.variables order) e.arguments e.names ts
    x.arguments.items found i y sigma u h there bound in
    (v.0, v.1, v.2, ap (λ (s : List (Option Tree)). binding s v.0) (sym same) ∙ v.3))

-- why it is not used stays so in a grown context
pub missed_grown : (a b : Context) (e : Equation) (ts : Forest) (missed : Missed) → HasGrown a b
    → IsMissed a e ts missed → IsMissed b e ts missed
missed_grown a b e ts NoMatch g unmatched =
    subst (λ (p : Program). IsUnmatchedBy (theory_of p) e ts) (sym g.program) unmatched
missed_grown a b e ts (ConditionFalse theta t) g fails = record {
  matches = subst (λ (p : Program). MatchesBy (theory_of p) e ts theta.now) (sym g.program) fails.matches;
  condition = fails.condition;
  is_condition = fails.is_condition;
  sort = fails.sort;
  is_sort =
      subst (λ (p : Program). sort_of p.sig e.variables fails.condition ≡ Some fails.sort)
      (sym g.program) fails.is_sort;
  says =
      image_grown a b (not (is_true (filled theta.now fails.condition) fails.sort)) t.now.conclusion g
      fails.says;
  no_hypotheses = fails.no_hypotheses;
  stays = stays_grown a b t.now g fails.stays;
}
