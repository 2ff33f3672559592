-- What the private functions say of the text that they write. Only their clauses cite it.
use Rattle.std.specs.Prelude.{◌≡◌, ℕ, zero, suc, false, List, [], ◌∷◌, ◌++◌, map}
use Rattle.kore_text.specs.TokenStream.{KoreToken, mark}
use Rattle.kore_text.specs.Trees.{SortTree, PatternTree}
use Rattle.kore_text.specs.Grammar.{Requirement, any, Spelling, listed, more_listed, spell_sort}
use Rattle.kore_text.specs.Grammar.{spell_pattern}
use Rattle.kore_print.specs.CanonicalText.{text_of}

-- what `spell` spells was added, whatever follows it
abbrev pub Writes : Spelling → List ℕ → List ℕ → Type 0
Writes spell old new = (k : List Requirement) → new ++ text_of k ≡ old ++ text_of (spell k)

-- what is before an item that comes after n others
abbrev pub comma_after : ℕ → List ℕ
comma_after zero = []
comma_after (suc i) = 44 ∷ []

-- the rest of a list after n items
abbrev pub listed_after : ℕ → List Spelling → ℕ → Spelling
listed_after zero fs close = listed fs close
listed_after (suc i) fs close = more_listed fs close

-- sorts in braces, patterns in parentheses, and a head with its sorts
abbrev pub spell_in_braces : List SortTree → Spelling
spell_in_braces ss k = any (mark 123) ∷ listed (map spell_sort ss) 125 k

abbrev pub spell_in_parentheses : List PatternTree → Spelling
spell_in_parentheses ps k = any (mark 40) ∷ listed (map (spell_pattern false) ps) 41 k

abbrev pub spell_head : KoreToken → List SortTree → Spelling
spell_head t ss k = any t ∷ spell_in_braces ss k
