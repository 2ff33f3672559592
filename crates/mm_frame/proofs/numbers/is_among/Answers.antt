use Rattle.std.proofs.Common.{◌∙◌}
use Rattle.mm_frame.proofs.Listing.{search-has}
use Rattle.mm_frame.proofs.numbers.is_among.Goals as goal

pub returns : goal.returns
returns c = c.is_ok.ensures.value
    ∙ search-has c.args.numbers.now c.args.n c.binary_search.result c.requires
    c.binary_search.ensures.position
