use Rattle.std.proofs.Common.{rules, ◌≡◌, ap, sym, ◌∙◌}
use Rattle.std.specs.Prelude.{slice_get, Some, None}
use Rattle.mm_frame.specs.Listed.{ends_with}
use Rattle.mm_frame.proofs.Listing.{list_of-none, list_of-found}
use Rattle.mm_frame.proofs.disjoint.stands_last.Goals as goal

pub returns-in-None : goal.returns-in-None
returns-in-None c =
    let none : slice_get c.args.lists.now c.args.at ≡ None = search rules in
    sym (ap (ends_with c.args.place) (list_of-none c.args.lists.now c.args.at none))

pub returns-in-Some : goal.returns-in-Some
returns-in-Some c =
    let found : slice_get c.args.lists.now c.args.at ≡ Some c.in-Some.list.now = search rules in
    c.is_last.ensures
    ∙ ap (ends_with c.args.place) (c.deref.ensures.value
    ∙ sym (list_of-found c.args.lists.now c.args.at c.in-Some.list.now found))
