-- The name of each token.
use Rattle.std.specs.Prelude.{Option}
use Rattle.mm_text.specs.Bytes.{Token}
use Rattle.mm_frame.specs.KnownNames.{name_in}
use Rattle.mm_frame.specs.declared.names.Name.{Name}
use Rattle.mm_frame.specs.declared.names.Names.{Names}

abbrev pub names_in : Names → Token → Option Name
names_in names token = name_in names.ordered token
