-- Tokens of statements that are read as they were written.
use Rattle.std.specs.Prelude.{Bool, true, false, not, List}
use Rattle.std.specs.List.{list_all}
use Rattle.mm_text.specs.Bytes.{Token}
use Rattle.mm_database.specs.Forms.{Keyword, proves, has_dollar}

abbrev pub are_clean : List Token → Bool
are_clean tokens = list_all (λ t. not (has_dollar t)) tokens

abbrev pub has_proof : Keyword → Bool
has_proof proves = true
has_proof keyword = false
