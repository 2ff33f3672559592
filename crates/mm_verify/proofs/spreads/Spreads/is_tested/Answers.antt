use Rattle.std.proofs.Common.{rules, arith, ◌≡◌, ◌∙◌, ap, ℕ, Some}
use Rattle.std.specs.Ordering.{nat_cmp}
use Rattle.std.specs.BTreeMap.{get}
use Rattle.mm_database.specs.Proofs.{texts_apart}
use Rattle.mm_frame.specs.NumberedSteps.{numbers_apart}
use Rattle.mm_verify.specs.Filling.{text_at}
use Rattle.mm_verify.proofs.spreads.Spreads.is_tested.Goals as goal

pub returns-then-pair-i : goal.returns-then-pair-i
returns-then-pair-i c p entries known same =
    let is : get nat_cmp c.args.self.now.tested c.pair_key.result ≡ Some c.in-Some.pair.now =
    search rules in
    let one : c.args.i ≡ c.in-Some.pair.now.0 = omega (arith, c.if-pair-i.true) in
    let two : c.args.j ≡ c.in-Some.pair.now.1 = grind (arith, same) in
    ap (λ (a : ℕ). texts_apart (numbers_apart p) (text_at entries a) (text_at entries c.args.j)) one
    ∙ ap (λ (b : ℕ). texts_apart (numbers_apart p) (text_at entries c.in-Some.pair.now.0)
    (text_at entries b)) two
    ∙ known.tested c.pair_key.result c.in-Some.pair.now is
