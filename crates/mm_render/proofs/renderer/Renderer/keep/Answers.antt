use Rattle.std.proofs.Common.{ℕ, List, ◌≡◌, ◌++◌, ◌∷◌, [], length, ap, ◌∙◌, sym, subst, rules, cond}
use Rattle.std.proofs.Common.{Some}
use Rattle.std.specs.Prelude.{bytes_eq}
use Rattle.std.proofs.lemmas.List.{map-append, length-map}
use Rattle.ml_pat.specs.Patterns.{Pattern}
use Rattle.mm_claims.specs.Blocks.{Stated}
use Rattle.mm_render.specs.declared.claims.Stated as code
use Rattle.mm_render.specs.ClaimView.{plain_stated, plain_stated_all}
use Rattle.mm_render.specs.Keys.{statement_key}
use Rattle.mm_render.specs.KeyPlaces.{ArePlaced}
use Rattle.mm_render.specs.PlaceTable.{found_in}
use Rattle.mm_render.proofs.PlaceLaws.{claim_more, found-insert}
use Rattle.mm_render.proofs.renderer.Renderer.keep.Goals as goal

pub invariant_of-self-2 : goal.invariant_of-self-2
invariant_of-self-2 c =
    let before : List Stated = plain_stated_all c.self.inside.stated.items in
    let s : code.Stated = record { number = c.self.inside.written; claim = c.args.claim } in
    let length_is : c.len-place.result ≡ length c.self.inside.stated.items = search rules in
    let place : c.len-place.result ≡ length before =
    length_is ∙ sym (length-map c.self.inside.stated.items plain_stated) in
    let pushed : c.push.new.self.items ≡ c.self.inside.stated.items ++ s ∷ [] = search rules in
    let stated : plain_stated_all c.push.new.self.items ≡ before ++ plain_stated s ∷ [] =
    ap plain_stated_all pushed ∙ map-append plain_stated c.self.inside.stated.items (s ∷ []) in
    let key : c.in_ok-key.key.items ≡ statement_key c.args.claim.hypotheses.items
    c.args.claim.conclusion =
    c.in_ok-key.ensures
    ∙ ap (λ (ps : List Pattern). statement_key ps c.args.claim.conclusion)
    c.deref.ensures.value in
    let inserted : (other : List ℕ) → found_in c.insert.new.self other ≡ cond
    (bytes_eq c.in_ok-key.key.items other) (Some (length before))
    (found_in c.self.inside.places other) =
    λ (other : List ℕ). found-insert c.self.inside.places c.insert.new.self c.in_ok-key.key
    (Some c.len-place.result) c.in_ok-insert.ensures.updates other
    ∙ ap (λ (k : ℕ). cond (bytes_eq c.in_ok-key.key.items other) (Some k)
    (found_in c.self.inside.places other)) place in
    subst (λ (ss : List Stated). ArePlaced ss (found_in c.insert.new.self)) (sym stated)
    (claim_more before (plain_stated s) c.in_ok-key.key.items (found_in c.self.inside.places)
    (found_in c.insert.new.self) c.self.invariant key inserted)
