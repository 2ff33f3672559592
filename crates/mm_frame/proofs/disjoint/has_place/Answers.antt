use Rattle.std.proofs.Common.{◌∙◌}
use Rattle.mm_frame.proofs.Listing.{search-has}
use Rattle.mm_frame.proofs.disjoint.has_place.Goals as goal

pub returns : goal.returns
returns c = c.is_ok.ensures.value
    ∙ search-has c.args.places.now c.args.place c.binary_search.result c.requires
    c.binary_search.ensures.position
