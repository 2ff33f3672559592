use Rattle.std.proofs.Common.{rules, ◌≡◌, ◌∙◌, ap, sym, map, List, ℕ, flat_map}
use Rattle.mm_frame.specs.PlainFrames.{plain_hypotheses}
use Rattle.mm_verify.specs.Places.{parts_of}
use Rattle.mm_verify.specs.Locating.{place_by, AreLocated}
use Rattle.mm_verify.specs.StatementView.{statement_parts}
use Rattle.mm_verify.specs.Resolved.{hypotheses_of, parts_in}
use Rattle.mm_verify.proofs.Placing.{placed}
use Rattle.mm_verify.proofs.assertion.Assertion.built.Goals as goal

pub invariant_of-result : goal.invariant_of-result
invariant_of-result c =
    let same : hypotheses_of c.in_ok-wanted.wanted.items ≡ plain_hypotheses
    c.in_ok-places.places.hyps.now =
    search rules in
    let located : AreLocated c.in_ok-places.places
    (statement_parts c.in_ok-conclusion.conclusion) =
    c.in_ok-conclusion.ensures.places
    ∙ ap (λ (s : List ℕ). map (place_by c.in_ok-places.places) s)
    (sym c.in_ok-conclusion.ensures.symbols) in
    record {
      wanted_placed =
          placed c.in_ok-places.places _ (flat_map parts_in c.in_ok-wanted.wanted.items) same
          c.in_ok-wanted.ensures.places;
      apart_placed =
          placed c.in_ok-places.places _ (flat_map parts_of c.in_ok-apart.apart.items) same
          c.in_ok-apart.ensures.places;
      conclusion_placed =
          placed c.in_ok-places.places _ (statement_parts c.in_ok-conclusion.conclusion) same
          located;
    }
