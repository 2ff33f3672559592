use Rattle.std.proofs.Common.{rules, inr, ◌≡◌, ◌++◌, ◌∷◌, [], ℕ, List, sym, subst}
use Rattle.std.proofs.lemmas.List.{map-append}
use Rattle.term_core.specs.RulePatterns.{sort_numbers}
use Rattle.rule_core.specs.Subsorts.{IsBelow}
use Rattle.rule_core.proofs.Paths.{IsWalk, pairs_above-less, IsWalk-append, IsWalk-ends}
use Rattle.rule_core.proofs.subsorts.Subsorts.path.Goals as goal

pub walk-smaller : goal.walk-smaller
walk-smaller c =
    pairs_above-less c.args.self.now _ _ c.has_no_cycle.ensures c.next_towards-last.ensures.pair

pub walk-preserved : goal.walk-preserved
walk-preserved c =
    let longer : sort_numbers c.push.new.self.items ≡ sort_numbers c.walk.sorts.items ++
    c.next_towards-last.result.0 ∷ [] =
    search (rules, map-append) in
    let P : List ℕ → Type 0 =
    λ sorts. IsWalk c.args.self.now c.args.a.0 c.next_towards-last.result.0 sorts in
    record {
      walk =
          subst P (sym longer) (inr (IsWalk-append c.args.self.now c.args.a.0 _ _ _
          c.walk.invariant.walk c.next_towards-last.ensures.pair));
      ahead = c.next_towards-last.ensures.leads;
    }

pub returns-clause-chain : goal.returns-clause-chain
returns-clause-chain c =
    let below : IsBelow c.args.self.now c.args.a.0 c.args.b.0 = c.below.ensures.0 (search rules) in
    let there : c.walk.last.0 ≡ c.args.b.0 = search rules in
    IsWalk-ends c.args.self.now c.args.a.0 c.walk.last.0 c.args.b.0 _ c.has_no_cycle.ensures below
    there c.walk.invariant.walk
