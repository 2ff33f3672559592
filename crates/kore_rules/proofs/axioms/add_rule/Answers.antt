use Rattle.std.proofs.Common.{refl}
use Rattle.kore_ast.specs.Plain.{plain_axiom_decl}
use Rattle.kore_rules.proofs.AxiomReads.{read_rule}
use Rattle.kore_rules.proofs.axioms.add_rule.Goals as goal

pub returns-clause-read : goal.returns-clause-read
returns-clause-read c = λ axioms h.
    read_rule c.args.sig.now axioms (plain_axiom_decl c.args.decl.now) c.args.readings.now _
    c.in_ok-rule.rule c.in_ok-push.ensures.items refl refl c.in_ok-rule.ensures.means h
