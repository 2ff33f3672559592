-- The words of the command line: the name of a command, then what clap's definition of that command
-- takes. The first word is where clap expects the name of a program.
use Rattle.std.specs.Prelude.{ℕ, Bool, true, false, not, ◌&&◌, ◌||◌, List, [], ◌∷◌, length, Option}
use Rattle.std.specs.Prelude.{Some, None, is_some}
use Rattle.std.specs.Prelude.{if◌then◌else◌, codes, nat_le}
use Rattle.std.specs.Option.{option_map_or}
use Rattle.std.specs.Str.{bytes_eq, all_ascii_digits}
use Rattle.std.specs.Str.Parse.{digits_value}
use Rattle.clap.specs.Walk.{Rule, Text, first_of}
use Rattle.clap.specs.Simple.{App, new_rule, new_app, on_top, with_rule, matches_of}
use Rattle.clap.specs.Takes.{takes}
use Rattle.clap.specs.declared.builder.action.ArgAction.TheVariants.{Set, SetTrue}

-- a required word that no option precedes
abbrev pub positional_rule : Text → Rule
positional_rule id = record (new_rule id) { action = Some Set; required = true }

-- `--NAME VALUE`
abbrev pub option_rule : Text → Bool → Rule
option_rule id is_required =
    record (new_rule id) { long = Some id; action = Some Set; required = is_required }

-- `--NAME`
abbrev pub flag_rule : Text → Rule
flag_rule id = record (new_rule id) { long = Some id; action = Some SetTrue }

-- a command without arguments and without help
abbrev pub bare_app : Text → App
bare_app name = on_top (λ s. record s { disable_help_flag = true }) (new_app name)

-- `run DEF TERM --limit N`, with optional `--calls N`, `--proof FILE`, `--hints HINTS` and
-- `--stuck`
abbrev pub run_app : App
run_app =
    with_rule (with_rule (with_rule (with_rule (with_rule (with_rule (with_rule (bare_app (codes
    "run"))
    (positional_rule (codes "def"))) (positional_rule (codes "term"))) (option_rule (codes
    "limit") true))
    (option_rule (codes "calls") false)) (option_rule (codes "proof") false)) (option_rule (codes
    "hints") false)) (flag_rule (codes "stuck"))

-- `verify FILE`
abbrev pub verify_app : App
verify_app = with_rule (bare_app (codes "verify")) (positional_rule (codes "file"))

-- `check DEF FILE`
abbrev pub check_app : App
check_app =
    with_rule (with_rule (bare_app (codes "check")) (positional_rule (codes "def")))
    (positional_rule (codes "file"))

-- `prove DEF HINTS --proof FILE`, with optional `--calls N`
abbrev pub prove_app : App
prove_app =
    with_rule (with_rule (with_rule (with_rule (bare_app (codes "prove"))
    (positional_rule (codes "def"))) (positional_rule (codes "hints"))) (option_rule (codes
    "proof") true))
    (option_rule (codes "calls") false)

-- `drill N FILE`
abbrev pub drill_app : App
drill_app =
    with_rule (with_rule (bare_app (codes "drill")) (positional_rule (codes "n")))
    (positional_rule (codes "file"))

-- the value that the words give to an argument, if they give it one
abbrev pub value_of : App → List Text → Text → Option Text
value_of app words id = first_of id (matches_of app words)

-- clap gives a flag the value `true` where the words state it, and else the value `false`
abbrev pub is_true : Option Text → Bool
is_true (Some value) = bytes_eq value (codes "true")
is_true None = false

-- the words state the flag
abbrev pub is_set : App → List Text → Text → Bool
is_set app words id = is_true (value_of app words id)

-- a number is one to eight ASCII digits
abbrev pub is_number : Text → Bool
is_number word = (nat_le 1 (length word) && nat_le (length word) 8) && all_ascii_digits word

-- a number that is at most this one
abbrev pub is_number_to : ℕ → Text → Bool
is_number_to most word = is_number word && nat_le (digits_value 10 word) most

-- the greatest limit of steps, the greatest number of calls, and the number of calls if none is
-- stated
abbrev pub most_steps : ℕ
most_steps = 1000000

abbrev pub most_calls : ℕ
most_calls = 10000000

abbrev pub usual_calls : ℕ
usual_calls = 1000000

-- the greatest number of steps of a drill
abbrev pub most_drilled : ℕ
most_drilled = 1000

-- a number of steps of a drill, at least one
abbrev pub is_drill_number : Text → Bool
is_drill_number word = is_number_to most_drilled word && nat_le 1 (digits_value 10 word)

-- the first word is this one
abbrev pub is_named : Text → List Text → Bool
is_named name [] = false
is_named name (word ∷ words) = bytes_eq word name

-- both names are there, and they are the same text
abbrev pub names_one_file : Option Text → Option Text → Bool
names_one_file (Some name) (Some other) = bytes_eq name other
names_one_file (Some name) None = false
names_one_file None other = false

-- what a proof shows at the end of a stuck run is wanted, and no proof is
abbrev pub shows_nowhere : Bool → Option Text → Bool
shows_nowhere true None = true
shows_nowhere true (Some file) = false
shows_nowhere false file = false

-- the proof and the hints go to one file, or a proof is to show more and there is none
abbrev pub are_bad_files : Bool → Option Text → Option Text → Bool
are_bad_files stuck proof hints = shows_nowhere stuck proof || names_one_file proof hints

-- the words name the two files, the numbers are good, and so are the files to be written
abbrev pub is_run : List Text → Bool
is_run words = takes run_app words
    && ((is_some (value_of run_app words (codes "def"))
    && is_some (value_of run_app words (codes "term")))
    && (option_map_or (is_number_to most_steps) (value_of run_app words (codes "limit")) false
    && (option_map_or (is_number_to most_calls) (value_of run_app words (codes "calls")) true
    && not (are_bad_files (is_set run_app words (codes "stuck"))
    (value_of run_app words (codes "proof")) (value_of run_app words (codes "hints"))))))

abbrev pub is_verify : List Text → Bool
is_verify words = takes verify_app words && is_some (value_of verify_app words (codes "file"))

abbrev pub is_check : List Text → Bool
is_check words = takes check_app words
    && (is_some (value_of check_app words (codes "def"))
    && is_some (value_of check_app words (codes "file")))

-- the words name the three files, and the number of calls is good
abbrev pub is_prove : List Text → Bool
is_prove words = takes prove_app words
    && ((is_some (value_of prove_app words (codes "def"))
    && is_some (value_of prove_app words (codes "hints")))
    && (is_some (value_of prove_app words (codes "proof"))
    && option_map_or (is_number_to most_calls) (value_of prove_app words (codes "calls")) true))

abbrev pub is_drill : List Text → Bool
is_drill words = takes drill_app words
    && (option_map_or is_drill_number (value_of drill_app words (codes "n")) false
    && is_some (value_of drill_app words (codes "file")))

-- no command takes the words
abbrev pub are_bad : List Text → Bool
are_bad words =
    if is_named (codes "run") words then not (is_run words)
    else if is_named (codes "verify") words then not (is_verify words)
    else if is_named (codes "check") words then not (is_check words)
    else if is_named (codes "prove") words then not (is_prove words)
    else if is_named (codes "drill") words then not (is_drill words)
    else true
