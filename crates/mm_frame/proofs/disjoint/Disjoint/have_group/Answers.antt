use Rattle.std.proofs.Common.{◌≡◌, true, false, not, ap, sym, ◌∙◌}
use Rattle.std.specs.Prelude.{nat_eq}
use Rattle.std.specs.List.{list_any}
use Rattle.std.proofs.lemmas.Bool.{eq-eqb}
use Rattle.mm_frame.specs.PlainFrames.{has_number}
use Rattle.mm_frame.specs.DisjointView.{groups_in}
use Rattle.mm_frame.specs.Listed.{group_places}
use Rattle.mm_frame.proofs.Listing.{unequal}
use Rattle.mm_frame.proofs.Apartness.{common-apart, common-apart-turned, apart-itself}
use Rattle.mm_frame.proofs.disjoint.Disjoint.have_group.Goals as goal

pub returns-then-first-second : goal.returns-then-first-second
returns-then-first-second c =
    let gs = groups_in c.args.self.now in
    let differ : nat_eq c.args.a c.args.b ≡ false = unequal c.args.a c.args.b c.if-a-b.true in
    c.have_common.ensures
    ∙ ap (λ ms. list_any (has_number ms) c.listed-first.result.now) c.listed-second.ensures.places
    ∙ ap (λ ms. list_any (has_number (group_places gs c.args.b)) ms) c.listed-first.ensures.places
    ∙ common-apart gs c.args.a c.args.b differ

pub returns-else-first-second : goal.returns-else-first-second
returns-else-first-second c =
    let gs = groups_in c.args.self.now in
    let differ : nat_eq c.args.a c.args.b ≡ false = unequal c.args.a c.args.b c.if-a-b.true in
    c.have_common-else-first-second.ensures
    ∙ ap (λ ms. list_any (has_number ms) c.listed-second.result.now) c.listed-first.ensures.places
    ∙ ap (λ ms. list_any (has_number (group_places gs c.args.a)) ms) c.listed-second.ensures.places
    ∙ common-apart-turned gs c.args.a c.args.b differ

pub returns-else-a-b : goal.returns-else-a-b
returns-else-a-b c =
    let same : nat_eq c.args.a c.args.b ≡ true = eq-eqb c.args.a c.args.b c.if-a-b.false in
    ap not same ∙ sym (apart-itself (groups_in c.args.self.now) c.args.a c.args.b same)
