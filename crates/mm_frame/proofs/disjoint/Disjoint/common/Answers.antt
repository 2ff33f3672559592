use Rattle.std.proofs.Common.{rules, ◌≡◌, ap, sym, ◌∙◌}
use Rattle.std.specs.Prelude.{◌&&◌, slice_get, Some}
use Rattle.std.proofs.lemmas.Result.{IfOk-weaker}
use Rattle.mm_frame.specs.PlainFrames.{has_number}
use Rattle.mm_frame.specs.DisjointView.{groups_in}
use Rattle.mm_frame.specs.Listed.{group_places}
use Rattle.mm_frame.specs.Places.{passes}
use Rattle.mm_frame.proofs.Apartness.{and-turned}
use Rattle.mm_frame.proofs.Groups.{has_number-filter}
use Rattle.mm_frame.proofs.Placing.{places-has}
use Rattle.mm_frame.proofs.disjoint.Disjoint.common.Goals as goal

pub returns-then-len-numbers : goal.returns-then-len-numbers
returns-then-len-numbers c =
    let gs = groups_in c.args.self.now in
    let found : slice_get gs c.args.place ≡ Some c.in-Some.group.now.items = search rules in
    IfOk-weaker c.kept_numbers.result _ _
    (λ v is n. ap (λ ms. has_number ms n) is
    ∙ has_number-filter (has_number c.args.numbers.now) _ n
    ∙ ap (λ ms. has_number ms n && has_number c.args.numbers.now n) c.deref.ensures.value
    ∙ ap (λ o. passes (λ g. has_number g n) o && has_number c.args.numbers.now n) (sym found))
    c.kept_numbers.ensures

pub returns-else-len-numbers : goal.returns-else-len-numbers
returns-else-len-numbers c =
    let gs = groups_in c.args.self.now in
    IfOk-weaker c.listed_numbers.result _ _
    (λ v is n. ap (λ ms. has_number ms n) is
    ∙ has_number-filter (λ m. has_number (group_places gs m) c.args.place) c.args.numbers.now n
    ∙ and-turned (has_number c.args.numbers.now n) (has_number (group_places gs n) c.args.place)
    ∙ ap (λ b. b && has_number c.args.numbers.now n)
    (places-has (λ g. has_number g n) gs c.args.place))
    c.listed_numbers.ensures
