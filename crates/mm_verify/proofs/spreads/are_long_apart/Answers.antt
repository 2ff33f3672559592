use Rattle.std.proofs.Common.{◌≡◌, ◌∙◌, sym}
use Rattle.mm_database.specs.Proofs.{texts_apart}
use Rattle.mm_frame.specs.NumberedSteps.{numbers_apart}
use Rattle.mm_verify.specs.Filling.{text_at}
use Rattle.mm_verify.proofs.Spreading.{lists-apart, known-noted}
use Rattle.mm_verify.proofs.spreads.are_long_apart.Goals as goal

pub returns-in_ok-note : goal.returns-in_ok-note
returns-in_ok-note g c entries known at there =
    let p = g.P.Place.place c.args.place.now in
    let s = c.args.spreads.now in
    let is : c.in_ok-are_apart.are_apart
    ≡ texts_apart (numbers_apart p) (text_at entries c.args.i) (text_at entries c.args.j) =
    c.in_ok-are_apart.ensures.apart
    ∙ lists-apart p entries s c.args.i c.args.j c.args.x c.args.y known at there in
    record {
      known =
          c.in_ok-note.ensures p entries
          (known-noted p entries s c.are_lists_apart.new.spreads known
          c.in_ok-are_apart.ensures.lists c.in_ok-are_apart.ensures.numbers
          c.in_ok-are_apart.ensures.tested c.in_ok-are_apart.ensures.noted)
          (sym is ∙ c.if-are_apart.true);
      is = is;
    }

pub returns-else-are_apart : goal.returns-else-are_apart
returns-else-are_apart g c entries known at there =
    let p = g.P.Place.place c.args.place.now in
    let s = c.args.spreads.now in
    record {
      known =
          known-noted p entries s c.are_lists_apart.new.spreads known
          c.in_ok-are_apart.ensures.lists c.in_ok-are_apart.ensures.numbers
          c.in_ok-are_apart.ensures.tested c.in_ok-are_apart.ensures.noted;
      is =
          c.in_ok-are_apart.ensures.apart
          ∙ lists-apart p entries s c.args.i c.args.j c.args.x c.args.y known at there;
    }
