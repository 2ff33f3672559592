use Rattle.std.proofs.Common.{◌≡◌, ◌∙◌, ap, sym, subst, List, ℕ, true}
use Rattle.std.specs.List.{list_all}
use Rattle.mm_verify.specs.Pairs.{is_pair_apart}
use Rattle.mm_verify.proofs.Spreading.{pair-read}
use Rattle.mm_verify.proofs.spreads.are_lists_apart.Goals as goal

pub returns-in_ok-note_last-clause-noted : goal.returns-in_ok-note_last-clause-noted
returns-in_ok-note_last-clause-noted g c =
    let p = g.P.Place.place c.args.place.now in
    c.in_ok-note_last.ensures p
    (subst (λ (ls : List (List ℕ)). list_all (is_pair_apart p) ls ≡ true)
    (sym c.in_ok-have.ensures.pairs) c.requires.noted)
    (ap (is_pair_apart p) c.in_ok-have.ensures.last
    ∙ pair-read p c.entry-xs.result.now c.entry-ys.result.now
    ∙ sym c.are_variables_apart-are_apart.ensures ∙ c.if-are_apart.true)
