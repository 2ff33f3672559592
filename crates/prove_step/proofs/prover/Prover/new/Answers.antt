use Rattle.std.proofs.Common.{◌≡◌, length, sym, ◌∙◌, ap, subst, rules}
use Rattle.std.proofs.lemmas.List.{length-replicate}
use Rattle.prove_term.specs.Contexts.{Context}
use Rattle.prove_step.specs.RuleLemmas.{AreRuleLemmas}
use Rattle.prove_step.proofs.ProverLaws.{no_rule_lemmas}
use Rattle.prove_step.proofs.prover.Prover.new.Goals as goal

pub invariant_of-result : goal.invariant_of-result
invariant_of-result c =
    let count : c.len.result ≡ length c.args.program.now.rules.items = search rules in
    record {
      room =
          ap length c.in_ok-no_lemmas.ensures ∙ length-replicate _ _ ∙ count
          ∙ sym (ap (λ (cx : Context). length cx.program.rules.items) c.new.ensures);
      rules =
          subst (AreRuleLemmas c.new.result) (sym c.in_ok-no_lemmas.ensures)
          (no_rule_lemmas c.new.result _);
      equations = c.new-2.ensures c.new.result;
      sides = c.none.ensures c.new.result;
    }
