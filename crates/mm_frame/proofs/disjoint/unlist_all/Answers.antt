use Rattle.std.proofs.Common.{◌<◌, length, take, get_or, ap, sym, ◌∙◌, arith}
use Rattle.std.specs.Prelude.{nat_eq, if◌then◌else◌}
use Rattle.std.proofs.lemmas.List.Folds.{list_any_more}
use Rattle.mm_frame.specs.PlainFrames.{has_number}
use Rattle.mm_frame.specs.Listed.{list_of, without_place}
use Rattle.mm_frame.proofs.Listing.{once-more, without-again}
use Rattle.mm_frame.proofs.disjoint.unlist_all.Goals as goal

pub loop-n-preserved : goal.loop-n-preserved
loop-n-preserved c = λ n.
    let i = c.loop-n.n-index in
    let xs = list_of c.args.lists.now.items n in
    let within : i < length c.args.group.now = omega arith in
    once-more (without_place c.args.place) xs (list_of c.loop-n.lists.items n) _
    (has_number (take i c.args.group.now) n) (nat_eq (get_or c.args.group.now i 0) n)
    (without-again c.args.place xs (c.requires n)) (c.loop-n.invariant n)
    (c.unlist_one.ensures n)
    ∙ ap (λ b. if b then without_place c.args.place xs else xs)
    (sym (list_any_more (λ m. nat_eq m n) c.args.group.now i 0 within))
