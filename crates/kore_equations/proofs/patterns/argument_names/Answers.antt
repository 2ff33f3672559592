use Rattle.std.proofs.Common.{rules, ◌≡◌, ◌++◌, ◌∷◌, [], ℕ, List, map, ◌∙◌, ap}
use Rattle.rule_core.specs.ProgramView.{names_of}
use Rattle.rule_core.specs.declared.rules.Named.{Named}
use Rattle.kore_check.specs.Folds.{unfolded}
use Rattle.kore_check.specs.PartNames.{names_in, names_in_all}
use Rattle.kore_shapes.specs.Views.{pattern_at}
use Rattle.kore_equations.specs.ReadableSides.{all_read}
use Rattle.kore_equations.proofs.MeaningLaws.{next_names, last_names}
use Rattle.kore_equations.proofs.patterns.argument_names.Goals as goal

pub loop-i-init : goal.loop-i-init
loop-i-init c =
    ap (λ (ns : List Named). names_of ns ++ names_in_all c.args.sig.now c.args.vars.now [] 0
    (all_read (map pattern_at c.args.pats.now))) c.new-named.ensures.items

pub loop-i-preserved : goal.loop-i-preserved
loop-i-preserved c =
    let number : c.in_ok-number.number ≡ c.loop-i.i = search rules in
    next_names pattern_at c.args.sig.now c.args.vars.now c.args.pats.now c.loop-i.i
    c.index-pats-i.result (names_of c.loop-i.named.items) (names_of c.add_names.new.named.items) _
    c.loop-i-test.true c.index-pats-i.is
    (c.in_ok-add_names.ensures
    ∙ ap (λ (n : ℕ). names_of c.loop-i.named.items
    ++ names_in c.args.sig.now c.args.vars.now (n ∷ []) (unfolded (pattern_at c.index-pats-i.result)))
    number) c.loop-i.invariant

pub returns : goal.returns
returns c =
    last_names pattern_at c.args.sig.now c.args.vars.now c.args.pats.now c.loop-i.i
    (names_of c.loop-i.named.items) _ c.loop-i-test.false c.loop-i.invariant
