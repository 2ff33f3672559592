use Rattle.std.proofs.Common.{rules, ◌≡◌, ◌<◌, ◌-◌, length, take, true, false, ap, sym, ◌∙◌, arith}
use Rattle.std.specs.Prelude.{vec_len}
use Rattle.mm_frame.specs.PlainFrames.{items_of}
use Rattle.mm_frame.specs.Listed.{list_of, ends_with, without_place}
use Rattle.mm_frame.proofs.Listing.{changed, unchanged, list_of-past, list_of-read, without-free}
use Rattle.mm_frame.proofs.Listing.{without-last}
use Rattle.mm_frame.proofs.disjoint.unlist_one.Goals as goal

pub returns-then-at-len : goal.returns-then-at-len
returns-then-at-len c =
    unchanged (without_place c.args.place) c.args.lists.now.items c.args.at (let past =
    list_of-past c.args.lists.now.items c.args.at
    (omega (arith, c.if-at-len.true, c.len.ensures)) in
    ap (without_place c.args.place) past ∙ sym past)

pub returns-then-stands_last : goal.returns-then-stands_last
returns-then-stands_last c =
    let lists = c.args.lists.now.items in
    let low : c.args.at < length lists = omega (arith, c.if-at-len.false, c.len.ensures) in
    let was : list_of lists c.args.at ≡ c.index_mut.result.now.items =
    list_of-read lists c.args.at c.index_mut.result.now low
    ∙ ap items_of (sym c.index_mut.ensures.value) in
    let last : ends_with c.args.place (list_of lists c.args.at) ≡ true =
    ap (λ ls. ends_with c.args.place (list_of ls c.args.at)) (sym c.deref.ensures.value)
    ∙ sym c.stands_last.ensures ∙ c.if-stands_last.true in
    let size : vec_len c.index_mut.result.now ≡ length c.index_mut.result.now.items =
    search rules in
    changed (without_place c.args.place) lists c.args.at c.pop.new.self low
    (without-last c.args.place (list_of lists c.args.at) c.pop.new.self.items last
    (c.pop.ensures.rest ∙ ap (λ k. take (k - 1) c.index_mut.result.now.items) size
    ∙ ap (λ ys. take (length ys - 1) ys) (sym was)))

pub returns-else-stands_last : goal.returns-else-stands_last
returns-else-stands_last c =
    let lists = c.args.lists.now.items in
    let free : ends_with c.args.place (list_of lists c.args.at) ≡ false =
    ap (λ ls. ends_with c.args.place (list_of ls c.args.at)) (sym c.deref.ensures.value)
    ∙ sym c.stands_last.ensures ∙ c.if-stands_last.false in
    unchanged (without_place c.args.place) lists c.args.at
    (without-free c.args.place (list_of lists c.args.at) free)
