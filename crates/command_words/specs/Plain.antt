-- Commands without subcommands. If such a command is parsed without an error, its definition takes
-- the words.
use Rattle.std.specs.Prelude.{◌≡◌, Bool, true, false, ◌&&◌, List, [], ◌∷◌}
use Rattle.std.specs.List.{list_all}
use Rattle.clap.specs.Walk.{Text, first_of}
use Rattle.clap.specs.Simple.{App, Shape, built, matches_of}
use Rattle.clap.specs.Faults.{is_simple_and_free}
use Rattle.clap.specs.Takes.{takes, default_passes}
use Rattle.clap.specs.Matches.{first_value, found_of}
use Rattle.clap.specs.declared.parser.matches.ArgMatches.{ArgMatches}

abbrev pub has_none : List Shape → Bool
has_none [] = true
has_none (s ∷ ss) = false

-- no subcommand once built, no argument with a rule on another argument, and defaults that pass
abbrev pub is_plain : App → Bool
is_plain a = is_simple_and_free a
    && (has_none (built a).subs
    && (list_all default_passes (built a).top.rules
    && list_all (λ r. r.is_free) (built a).top.rules))

-- the command's definition takes the words, and the matches have the values that it assigns
pub record IsReadBy (a : App) (words : List Text) (m : ArgMatches) : Type 0 where
  pub taken : takes a words ≡ true
  pub values : (id : Text) → first_value (found_of m) id ≡ first_of id (matches_of a words)
