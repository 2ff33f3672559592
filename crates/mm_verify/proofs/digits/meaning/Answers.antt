use Rattle.std.proofs.Common.{rules, arith, ◌≡◌, ◌∙◌, ◌-◌, ◌<◌, ◌≤◌, ap, sym, map, length, Bool}
use Rattle.std.proofs.Common.{true, false}
use Rattle.std.specs.Prelude.{nat_lt, slice_get, Some}
use Rattle.std.proofs.lemmas.List.{length-map, get_or-map}
use Rattle.mm_frame.specs.PlainFrames.{plain_hypothesis, mandatory_hypotheses}
use Rattle.mm_verify.specs.Running.{citation_of}
use Rattle.mm_verify.proofs.ReadLetters.{repeat_if, step_of_number-in, step_of_number-behind}
use Rattle.mm_verify.proofs.ReadLetters.{step_of_number-given, step_of_number-listed}
use Rattle.mm_verify.proofs.digits.meaning.Goals as goal

pub returns-then-place-given : goal.returns-then-place-given
returns-then-place-given c =
    let hyps = mandatory_hypotheses c.args.mandatory.now in
    let there : slice_get hyps (c.args.number - 1) ≡ Some (plain_hypothesis c.in_ok-hyp.hyp.now) =
    search rules in
    step_of_number-given hyps c.args.listed.now c.args.saved (c.args.number - 1)
    (plain_hypothesis c.in_ok-hyp.hyp.now) there

pub returns-then-behind-count : goal.returns-then-behind-count
returns-then-behind-count c =
    let hyps = mandatory_hypotheses c.args.mandatory.now in
    let size : c.count-given.result ≡ length hyps = c.count-given.ensures in
    let m = c.args.number - 1 - c.count-given.result in
    let past : c.count-given.result ≤ c.args.number - 1 = search rules in
    let within : m < length c.args.listed.now = search rules in
    let is =
    ap citation_of c.index-listed-behind.is
    ∙
    sym (get_or-map citation_of c.args.listed.now m c.index-listed-behind.result
    (citation_of c.index-listed-behind.result) within) in
    sym (step_of_number-in (map citation_of
    c.args.listed.now) c.args.saved m (citation_of c.index-listed-behind.result) (omega
    (arith, within, length-map c.args.listed.now citation_of)) is)
    ∙ step_of_number-listed hyps c.args.listed.now c.args.saved (c.args.number - 1) m
    (omega (arith, size, past)) (omega (arith, size))

pub returns-then-behind-count-2 : goal.returns-then-behind-count-2
returns-then-behind-count-2 c =
    let hyps = mandatory_hypotheses c.args.mandatory.now in
    let size : c.count-given.result ≡ length hyps = c.count-given.ensures in
    let n = c.args.number - 1 - c.count-given.result in
    let m = n - length c.args.listed.now in
    let past : c.count-given.result ≤ c.args.number - 1 = search rules in
    let le : length c.args.listed.now ≤ n = search rules in
    let lt : nat_lt m c.args.saved ≡ true = search rules in
    sym (step_of_number-behind (map citation_of
    c.args.listed.now) c.args.saved n m (omega
    (arith, le, length-map c.args.listed.now citation_of)) (omega
    (arith, length-map c.args.listed.now citation_of))
    ∙ ap (λ (b : Bool). repeat_if b m) lt)
    ∙ step_of_number-listed hyps c.args.listed.now c.args.saved (c.args.number - 1) n
    (omega (arith, size, past)) (omega (arith, size))

pub returns-else-behind-count-2 : goal.returns-else-behind-count-2
returns-else-behind-count-2 c =
    let hyps = mandatory_hypotheses c.args.mandatory.now in
    let size : c.count-given.result ≡ length hyps = c.count-given.ensures in
    let n = c.args.number - 1 - c.count-given.result in
    let m = n - length c.args.listed.now in
    let past : c.count-given.result ≤ c.args.number - 1 = search rules in
    let le : length c.args.listed.now ≤ n = search rules in
    let lt : nat_lt m c.args.saved ≡ false = search rules in
    sym (step_of_number-behind (map citation_of
    c.args.listed.now) c.args.saved n m (omega
    (arith, le, length-map c.args.listed.now citation_of)) (omega
    (arith, length-map c.args.listed.now citation_of))
    ∙ ap (λ (b : Bool). repeat_if b m) lt)
    ∙ step_of_number-listed hyps c.args.listed.now c.args.saved (c.args.number - 1) n
    (omega (arith, size, past)) (omega (arith, size))
