use Rattle.std.proofs.Common.{ℕ, ◌+◌, List, length, ap, ◌∙◌, sym}
use Rattle.std.proofs.lemmas.List.{length-map}
use Rattle.ml_kernel.specs.Rules.{Instance}
use Rattle.ml_kernel.specs.StepView.{instance_of, instances_of}
use Rattle.mm_proof.specs.Labels.{own_labels}
use Rattle.mm_proof.specs.declared.words.Label.TheVariants.{Row}
use Rattle.mm_proof.proofs.Stacking.{on_ok}
use Rattle.mm_render.proofs.PartLaws.{put_over_rule, rule_count}
use Rattle.mm_render.proofs.derivations.put_rule.Goals as goal

pub returns : goal.returns
returns c =
    let is : List Instance = instances_of c.args.instances.now in
    let n : ℕ = length c.args.instances.now + c.judgements.result + length c.args.parts.now in
    on_ok c.put_derived.result (λ above. put_over_rule c.args.rule is c.args.parts.now
    (Row c.label.result) n c.args.stack.now.items c.push.new.self.items
    c.put_after.new.stack.items c.put_derived.new.stack.items (λ k. c.label.ensures)
    (λ k at. ap (λ (m : ℕ). m + c.judgements.result + length c.args.parts.now)
    (sym (length-map c.args.instances.now instance_of))
    ∙ rule_count c.args.rule is c.args.parts.now c.judgements.result k at
    (c.judgements.ensures.judged (own_labels k) is))
    c.in_ok-push.ensures.items c.in_ok-put_after.ensures above) c.put_derived.ensures
