use Rattle.std.proofs.Common.{◌<◌, ◌∙◌, ℕ, sym, subst}
use Rattle.term_core.specs.RulePatterns.{plain_pattern}
use Rattle.rule_core.specs.Matching.{OccursIn}
use Rattle.rule_core.proofs.MatchAnswers.{stands_of-item, rest_goes_on}
use Rattle.match_tree.proofs.BindingLaws.{item_match, item_at}
use Rattle.match_tree.proofs.binding.bind_row.Goals as goal

pub bind-requires-clause-scoped : goal.bind-requires-clause-scoped
bind-requires-clause-scoped g c =
    let P : ℕ → Type 0 = λ n. (x : ℕ) → OccursIn x (plain_pattern c.index-row-i.result) → x < n in
    subst P (sym c.loop-i.invariant.room) (λ x stands. c.requires.scoped x
    (stands_of-item _ _ _ x c.index-row-i.is c.loop-i-test.true stands))

pub bind-requires-clause-matches : goal.bind-requires-clause-matches
bind-requires-clause-matches g c =
    item_match c.args.subsorts.now c.args.row.now c.args.terms.now _ c.loop-i.i
    c.index-row-i.result c.index-terms-i.result _ c.index-row-i.is c.loop-i-test.true
    (item_at c.args.row.now c.args.terms.now c.loop-i.i c.index-terms-i.result c.requires.count
    c.loop-i-test.true c.index-terms-i.is) c.loop-i.invariant.rest c.requires.matches

pub loop-i-preserved : goal.loop-i-preserved
loop-i-preserved g c = record {
  room = c.in_ok-bind.ensures.room ∙ c.loop-i.invariant.room;
  rest =
      rest_goes_on _ _ _ _ _ _ _ c.index-terms-i.result _ c.index-row-i.is c.loop-i-test.true
      (item_at c.args.row.now c.args.terms.now c.loop-i.i c.index-terms-i.result
      c.requires.count c.loop-i-test.true c.index-terms-i.is)
      c.in_ok-bind.ensures.bound c.loop-i.invariant.rest;
}
