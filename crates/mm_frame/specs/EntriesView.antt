-- The token and the name of an entry, in the list next to the ordered map of names.
use Rattle.std.specs.Prelude.{◌≡◌, List, map, Option, Some}
use Rattle.std.specs.Borrow.{Bor}
use Rattle.std.specs.BTreeMap.{BTreeMap}
use Rattle.mm_text.specs.Bytes.{Token}
use Rattle.mm_frame.specs.KnownNames.{name_in}
use Rattle.mm_frame.specs.declared.entries.Entry.{Entry}
use Rattle.mm_frame.specs.declared.names.Name.{Name}

abbrev pub entry_word : Entry → Token
entry_word entry = entry.word.now

abbrev pub entry_name : Entry → Option Name
entry_name entry = Some entry.name

-- each entry has the name that its token has in the map
abbrev pub AreKnown : BTreeMap (Bor Token) Name → List Entry → Type 0
AreKnown names entries = map entry_name entries ≡ map (name_in names) (map entry_word entries)
