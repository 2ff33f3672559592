use Rattle.std.proofs.Common.{sym, ◌∙◌}
use Rattle.kore_ast.specs.Plain.{pattern_tree}
use Rattle.kore_check.specs.Folds.{unfolded}
use Rattle.kore_equations.proofs.BoundMeanings.{bound_meaning, unbound_meaning}
use Rattle.kore_equations.proofs.patterns.bound_pattern.Goals as goal

pub returns-then-len-before : goal.returns-then-len-before
returns-then-len-before c = λ qs of.
    bound_meaning c.args.sig.now qs (unfolded (pattern_tree c.args.pat.now)) c.args.vars.now
    c.build_pattern.new.vars c.in_ok-made.made c.requires.fine.clear
    (record { of = of; more = c.in_ok-made.ensures.vars })
    (sym c.len.ensures ∙ c.if-len-before.true ∙ c.len-before.ensures) c.in_ok-made.ensures.means

pub returns-else-len-before : goal.returns-else-len-before
returns-else-len-before c = λ qs of.
    unbound_meaning c.args.sig.now qs (unfolded (pattern_tree c.args.pat.now)) c.args.vars.now
    c.build_pattern.new.vars (record { of = of; more = c.in_ok-made.ensures.vars })
    (λ same. c.if-len-before.false (c.len.ensures ∙ same ∙ sym c.len-before.ensures))
