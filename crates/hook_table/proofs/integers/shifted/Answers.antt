use Rattle.std.proofs.Common.{◌≡◌, ◌^◌, ◌-◌, ◌/◌, ◌∙◌, ℤ, pos, ◌*ℤ◌, ap, sym, subst, arith}
use Rattle.std.proofs.Common.{FitsSigned, to_z, of_z}
use Rattle.std.specs.Int.{w128}
use Rattle.std.specs.Option.{SomeIff}
use Rattle.std.proofs.lemmas.Int.{to_z-of_z}
use Rattle.hook_table.proofs.Ranges.{too-far, lacks-part, two-parts}
use Rattle.hook_table.proofs.integers.shifted.Goals as goal

pub returns-then-by-gt127 : goal.returns-then-by-gt127
returns-then-by-gt127 c f =
    too-far c.args.x c.args.by (λ e. c.if-x-eq0.false (ap (of_z w128) e)) c.if-by-gt127.true f

pub returns-in_err-part : goal.returns-in_err-part
returns-in_err-part c =
    let x : to_z w128 (of_z w128 c.args.x) ≡ c.args.x = to_z-of_z w128 c.args.x c.ranges.x in
    let p : to_z w128 (of_z w128 c.power_of_two.result) ≡ pos (2 ^ (c.args.by / 2)) =
    to_z-of_z w128 c.power_of_two.result (record { sfits = c.power_of_two.type_inv })
    ∙ c.power_of_two.ensures in
    rw c.from_residual.ensures (lacks-part c.args.x c.args.by (c.args.by / 2) (omega arith)
    (λ f. c.in_err-part.ensures (rw (x, p) f)))

pub returns : goal.returns
returns c =
    let half = c.args.by / 2 in
    let x : to_z w128 (of_z w128 c.args.x) ≡ c.args.x = to_z-of_z w128 c.args.x c.ranges.x in
    let p : to_z w128 (of_z w128 c.power_of_two.result) ≡ pos (2 ^ half) =
    to_z-of_z w128 c.power_of_two.result (record { sfits = c.power_of_two.type_inv })
    ∙ c.power_of_two.ensures in
    let q : to_z w128 (of_z w128 c.power_of_two-2.result) ≡ pos (2 ^ (c.args.by - half)) =
    to_z-of_z w128 c.power_of_two-2.result (record { sfits = c.power_of_two-2.type_inv })
    ∙ c.power_of_two-2.ensures in
    let told : FitsSigned w128
    (to_z w128 (of_z w128 c.args.x) *ℤ to_z w128 (of_z w128 c.power_of_two.result)) ×
    (c.in_ok-part.part
    ≡ to_z w128 (of_z w128 c.args.x) *ℤ to_z w128 (of_z w128 c.power_of_two.result)) =
    c.in_ok-part.ensures in
    let Fits : ℤ → Type 0 = λ z. FitsSigned w128 z in
    let part : to_z w128 (of_z w128 c.in_ok-part.part) ≡ c.args.x *ℤ pos (2 ^ half) =
    to_z-of_z w128 c.in_ok-part.part (subst Fits (sym told.1) told.0)
    ∙ (told.1 ∙ (λ i. x i *ℤ p i)) in
    let Given : ℤ → Type 0 = λ z. SomeIff c.checked_mul-2.result (FitsSigned w128 z) z in
    subst Given ((λ i. part i *ℤ q i) ∙ two-parts c.args.x c.args.by half (omega arith))
    c.checked_mul-2.ensures
