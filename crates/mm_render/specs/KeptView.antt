-- What a `Renderer` of the code keeps.
use Rattle.mm_render.specs.declared.renderer.Renderer.TheInside.{Inside}
use Rattle.mm_claims.specs.Rendered.{Rendered}
use Rattle.mm_render.specs.ClaimView.{last_of, plain_stated_all}
use Rattle.mm_render.specs.KeyPlaces.{ArePlaced}
use Rattle.mm_render.specs.PlaceTable.{found_in}

abbrev pub kept_of : Inside → Rendered
kept_of r = record {
  begun = r.begun;
  named = r.named;
  count = r.written;
  stated = plain_stated_all r.stated.items;
  last = last_of r.run;
}

-- its table has the claims that may always be cited
abbrev pub FindsKept : Inside → Type 0
FindsKept r = ArePlaced (plain_stated_all r.stated.items) (found_in r.places)
