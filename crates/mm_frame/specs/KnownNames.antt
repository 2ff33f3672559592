-- The name of a token in the ordered map. A name that is given to one more token.
use Rattle.std.specs.Prelude.{◌≡◌, Option, Some, bytes_eq, if◌then◌else◌}
use Rattle.std.specs.Borrow.{Bor}
use Rattle.std.specs.BTreeMap.{BTreeMap, get_by}
use Rattle.std.specs.Cmp.Lexicographic.{slice_cmp}
use Rattle.std.specs.Ordering.{nat_cmp}
use Rattle.mm_text.specs.Bytes.{Token}
use Rattle.mm_frame.specs.declared.names.Name.{Name}

abbrev pub name_in : BTreeMap (Bor Token) Name → Token → Option Name
name_in names token = get_by (λ k. slice_cmp nat_cmp token k.now) names

-- the token gets a name, and all other tokens keep theirs
abbrev pub Renames : (Token → Option Name) → Token → Name → (Token → Option Name) → Type 0
Renames old token name new = (t : Token) → new t ≡ (if bytes_eq token t then Some name else old t)
