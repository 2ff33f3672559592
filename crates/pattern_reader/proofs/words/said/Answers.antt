use Rattle.std.proofs.Common.{◌∙◌, sym, ap}
use Rattle.std.specs.Prelude.{option_map}
use Rattle.pattern_reader.specs.Views.{word_of}
use Rattle.pattern_reader.proofs.TokenLaws.{fixed-says}
use Rattle.pattern_reader.proofs.words.said.Goals as goal

pub returns-in-Some-clause-word : goal.returns-in-Some-clause-word
returns-in-Some-clause-word c =
    fixed-says c.args.names.now c.args.token.now (word_of c.in-Some.word)
    (sym c.fixed_word.ensures ∙ ap (option_map word_of) c.in-Some.is)
