use Rattle.std.proofs.Common.{◌<◌, ◌++◌, ◌∷◌, [], List, length, rules, sym, subst}
use Rattle.mm_text.specs.Bytes.{Token}
use Rattle.mm_proof.specs.TableView.{AreNumbersOf, tokens_of}
use Rattle.mm_proof.specs.Writing.{label_token}
use Rattle.mm_proof.proofs.TableLaws.{grown-again, one_more_number, next_token}
use Rattle.mm_proof.proofs.table.label_numbers.Goals as goal

pub loop-label-preserved : goal.loop-label-preserved
loop-label-preserved c =
    let old : List Token = tokens_of c.loop-label.tokens.keys in
    let new : List Token = tokens_of c.label_number.new.tokens.keys in
    let lt : c.loop-label.label-index < length c.args.labels.now = search rules in (
      grown-again (tokens_of c.args.tokens.now.keys) old new c.loop-label.invariant.0
          c.in_ok-label_number.ensures.grown,
      rw c.in_ok-push.ensures.items
          (subst (λ (ts : List Token). AreNumbersOf new ts
          (c.loop-label.numbers.items ++ c.in_ok-label_number.field-0 ∷ []))
          (sym (next_token (label_token c.args.serial) c.args.labels.now c.loop-label.label-index _
          lt)) (one_more_number old new _ c.loop-label.numbers.items
          c.in_ok-label_number.field-0 _ c.in_ok-label_number.ensures.grown
          c.loop-label.invariant.1 c.in_ok-label_number.ensures.number)),
    )
