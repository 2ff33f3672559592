-- Which tree the bytes of a Kore text spell. The tokens spell the tree by the grammar, up to the
-- end. Each place in the tree is the byte of its first token. At most 500 brackets `(` and `{` are
-- open at once. If the bytes spell no tree, the first fault of the text is reported.
use Rattle.std.specs.Prelude.{ℕ, List, [], false}
use Rattle.kore_text.specs.TokenStream.{end, token_stream}
use Rattle.kore_text.specs.Trees.{PatternTree, DefinitionTree}
use Rattle.kore_text.specs.Grammar.{TakesTokens, spell_pattern, spell_definition}
use Rattle.kore_text.specs.Depth.{IsShallow}

-- the bytes spell this pattern
abbrev pub ReadsPattern : List ℕ → PatternTree → Type 0
ReadsPattern bytes p = IsShallow 0 (token_stream bytes)
    × ((e : ℕ) × TakesTokens (spell_pattern false p []) (token_stream bytes) (end e))

-- the bytes spell this definition
abbrev pub ReadsDefinition : List ℕ → DefinitionTree → Type 0
ReadsDefinition bytes d = IsShallow 0 (token_stream bytes)
    × ((e : ℕ) × TakesTokens (spell_definition d []) (token_stream bytes) (end e))
