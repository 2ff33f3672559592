use Rattle.std.proofs.Common.{rules, ◌≡◌, ◌<◌, [], ◌∷◌, ◌++◌, length, true, false, ap, sym, ◌∙◌}
use Rattle.std.proofs.Common.{arith}
use Rattle.std.specs.Prelude.{if◌then◌else◌, nat_eq}
use Rattle.mm_frame.specs.PlainFrames.{items_of}
use Rattle.mm_frame.specs.Listed.{list_of, ends_with, with_place}
use Rattle.mm_frame.proofs.Listing.{changed, unchanged, list_of-read, with-last, with-free}
use Rattle.mm_frame.proofs.disjoint.list_one.Goals as goal

pub returns-then-stands_last : goal.returns-then-stands_last
returns-then-stands_last c = λ n.
    let lists = c.reach.new.lists.items in
    let last : ends_with c.args.place (list_of lists c.args.at) ≡ true =
    ap (λ ls. ends_with c.args.place (list_of ls c.args.at)) (sym c.deref.ensures.value)
    ∙ sym c.stands_last.ensures ∙ c.if-stands_last.true in
    unchanged (with_place c.args.place) lists c.args.at
    (with-last c.args.place (list_of lists c.args.at) last) n
    ∙ ap (λ ms. if nat_eq c.args.at n then with_place c.args.place ms else ms)
    (c.in_ok-reach.ensures.same n)

pub returns : goal.returns
returns c = λ n.
    let lists = c.reach.new.lists.items in
    let low : c.args.at < length lists = omega (arith, c.in_ok-reach.ensures.long) in
    let free : ends_with c.args.place (list_of lists c.args.at) ≡ false =
    ap (λ ls. ends_with c.args.place (list_of ls c.args.at)) (sym c.deref.ensures.value)
    ∙ sym c.stands_last.ensures ∙ c.if-stands_last.false in
    let was : list_of lists c.args.at ≡ c.index_mut.result.now.items =
    list_of-read lists c.args.at c.index_mut.result.now low
    ∙ ap items_of (sym c.index_mut.ensures.value) in
    let items : c.push.new.self.items ≡ c.index_mut.result.now.items ++ c.args.place ∷ [] =
    search rules in
    let is : c.push.new.self.items ≡ with_place c.args.place (list_of lists c.args.at) =
    items ∙ ap (λ ms. ms ++ c.args.place ∷ []) (sym was)
    ∙ sym (with-free c.args.place (list_of lists c.args.at) free) in
    changed (with_place c.args.place) lists c.args.at c.push.new.self low is n
    ∙ ap (λ ms. if nat_eq c.args.at n then with_place c.args.place ms else ms)
    (c.in_ok-reach.ensures.same n)
