use Rattle.std.proofs.Common.{◌∙◌, ap, drop, List, ℕ, []}
use Rattle.std.specs.Prelude.{slice_index_or}
use Rattle.mm_verify.specs.Pairs.{are_variables_apart}
use Rattle.mm_verify.proofs.Spreading.{lists-apart}
use Rattle.mm_verify.proofs.spreads.are_texts_apart.Goals as goal

pub returns-else-are_long-clause-apart : goal.returns-else-are_long-clause-apart
returns-else-are_long-clause-apart g c =
    let p = g.P.Place.place c.args.place.now in
    let entries = drop c.args.base c.args.stack.now in
    let s = c.find-2.new.self in
    c.are_variables_apart.ensures
    ∙ ap (λ (vs : List ℕ). are_variables_apart p vs c.list-else-are_long.result.now) c.list.ensures
    ∙ ap (λ (ws : List ℕ). are_variables_apart p (slice_index_or s.lists c.in_ok-x.x []) ws)
    c.list-else-are_long.ensures
    ∙ lists-apart p entries s c.args.i c.args.j c.in_ok-x.x c.in_ok-y.y c.in_ok-y.ensures.known
    (c.in_ok-y.ensures.keeps c.args.i c.in_ok-x.x c.in_ok-x.ensures.found) c.in_ok-y.ensures.found
