use Rattle.std.proofs.Common.{◌≡◌, ℕ, ◌<◌, length, Some, ap, subst, arith}
use Rattle.std.specs.Prelude.{slice_get}
use Rattle.std.proofs.lemmas.List.{length-map}
use Rattle.rule_core.specs.ProgramView.{rewrite_rule, rewrite_rules}
use Rattle.rule_core.specs.declared.rules.Program.{Program}
use Rattle.rule_core.proofs.Trials.{rule_at}
use Rattle.rewriter.proofs.rules.rule_of.Goals as goal

within : (p q : Program) (number : ℕ) → q ≡ p → number < length (rewrite_rules p.rules.items)
    → number < length q.rules.items
within p q number same lt =
    let len : length (rewrite_rules p.rules.items) ≡ length p.rules.items =
    length-map p.rules.items rewrite_rule in
    let own : length q.rules.items ≡ length p.rules.items =
    ap (λ (r : Program). length r.rules.items) same in
    omega arith

pub index-requires : goal.index-requires
index-requires c =
    let lt =
    within c.args.engine.now c.program.result.now c.args.number c.program.ensures.program
    c.requires in
    omega arith

pub returns : goal.returns
returns c =
    let lt =
    within c.args.engine.now c.program.result.now c.args.number c.program.ensures.program
    c.requires in
    subst (λ (p : Program). slice_get (rewrite_rules p.rules.items) c.args.number
    ≡ Some (rewrite_rule c.index.result.now)) c.program.ensures.program
    (rule_at c.program.result.now.rules.items c.args.number c.index.result.now lt c.index.ensures)
