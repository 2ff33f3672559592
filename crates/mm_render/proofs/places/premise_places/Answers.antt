use Rattle.std.proofs.Common.{ℕ, List, ◌≡◌, ◌+◌, ◌++◌, ◌∷◌, [], length, take, ap, ◌∙◌, sym, subst}
use Rattle.std.proofs.Common.{arith, cond, Some}
use Rattle.std.specs.Prelude.{bytes_eq}
use Rattle.std.proofs.lemmas.List.{take_more, length-take-le}
use Rattle.ml_pat.specs.Patterns.{Pattern}
use Rattle.mm_claims.specs.CitedAt.{ArePremises}
use Rattle.mm_render.specs.Keys.{pattern_key}
use Rattle.mm_render.specs.KeyPlaces.{premise_place_by}
use Rattle.mm_render.specs.PlaceTable.{found_in}
use Rattle.mm_render.proofs.PlaceLaws.{premise_more, found-insert}
use Rattle.mm_render.proofs.places.premise_places.Goals as goal

pub loop-no-preserved : goal.loop-no-preserved
loop-no-preserved c =
    let before : List Pattern = take c.loop-no.no c.args.hypotheses.now in
    let item : Pattern = c.index-hypotheses-no.result in
    let place : c.loop-no.no ≡ length before =
    sym (length-take-le c.loop-no.no c.args.hypotheses.now (omega
    (arith, c.loop-no-test.true))) in
    let next : take (c.loop-no.no + 1) c.args.hypotheses.now ≡ before ++ item ∷ [] =
    take_more c.args.hypotheses.now c.loop-no.no item c.loop-no-test.true
    ∙ ap (λ (p : Pattern). before ++ p ∷ []) (sym c.index-hypotheses-no.is) in
    let key : c.push_key.new.key.items ≡ pattern_key item =
    c.in_ok-push_key.ensures
    ∙ ap (λ (bs : List ℕ). bs ++ pattern_key item) c.new-key.ensures.items in
    let inserted : (other : List ℕ) → found_in c.insert.new.self other ≡ cond
    (bytes_eq c.push_key.new.key.items other) (Some (length before))
    (found_in c.loop-no.places other) =
    λ (other : List ℕ). found-insert c.loop-no.places c.insert.new.self c.push_key.new.key
    (Some c.loop-no.no) c.in_ok-insert.ensures.updates other
    ∙ ap (λ (k : ℕ). cond (bytes_eq c.push_key.new.key.items other) (Some k)
    (found_in c.loop-no.places other)) place in
    subst (λ (ps : List Pattern). ArePremises ps (premise_place_by (found_in c.insert.new.self)))
    (sym next)
    (premise_more before item c.push_key.new.key.items (found_in c.loop-no.places)
    (found_in c.insert.new.self) c.loop-no.invariant key inserted)
