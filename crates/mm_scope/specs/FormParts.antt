-- The parts of a statement as they are read. Only clauses of private functions cite these
-- definitions.
use Rattle.std.specs.Prelude.{Bool, true, false, not, ◌&&◌, ◌||◌, if◌then◌else◌, List, [], ◌∷◌}
use Rattle.std.specs.Prelude.{Option, Some, None, codes, bytes_eq}
use Rattle.mm_text.specs.Bytes.{Token}
use Rattle.mm_database.specs.Forms.{before_dollar, from_dollar, is_end, is_nil}
use Rattle.mm_scope.specs.declared.forms.Keyword.{Keyword}
use Rattle.mm_scope.specs.declared.forms.Keyword.TheVariants.{Constants, Variables, Theorem}

abbrev pub names_symbols : Keyword → Bool
names_symbols Constants = true
names_symbols Variables = true
names_symbols keyword = false

-- the proof after the symbols of a `$p`
abbrev pub proof_read : List Token → Option (List Token)
proof_read [] = None
proof_read (token ∷ rest) = if bytes_eq token (codes "$=") && is_end (from_dollar rest)
    then Some (before_dollar rest) else None

-- the proof after the symbols, by the keyword; it is empty if the keyword has no proof
abbrev pub proof_for : Keyword → List Token → List Token → Option (List Token)
proof_for Theorem symbols rest = proof_read rest
proof_for keyword symbols rest =
    if is_end rest && (not (is_nil symbols) || not (names_symbols keyword))
    then Some [] else None
