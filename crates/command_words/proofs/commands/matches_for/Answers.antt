use Rattle.std.proofs.Common.{◌≡◌, ◌∙◌, ap, List, ℕ, map, string_bytes, Some}
use Rattle.std.specs.Result.{result_err}
use Rattle.std.proofs.lemmas.Bool.{false_from_ne_true}
use Rattle.clap.specs.Walk.{first_of}
use Rattle.clap.specs.Matches.{found_of}
use Rattle.clap.specs.Simple.{app_of}
use Rattle.clap.proofs.WalkLemmas.{first_value-rows}
use Rattle.command_words.specs.declared.commands.WordsEnd.{WordsEnd}
use Rattle.command_words.specs.declared.commands.WordsEnd.TheVariants.{Bad}
use Rattle.command_words.proofs.Taken.{is-taken, plain-free, plain-simple}
use Rattle.command_words.proofs.commands.matches_for.Goals as goal

some_same : (x y : WordsEnd) → Some x ≡ Some y → x ≡ y
some_same x y e = cc

pub returns-in-Ok-clause-read : goal.returns-in-Ok-clause-read
returns-in-Ok-clause-read c =
    let app = app_of c.args.command in
    let rows = (c.in-Ok.ensures.matches (plain-simple app c.requires)).0 in
    record {
      taken =
          is-taken app (map string_bytes c.args.words.now) c.requires
          (c.in-Ok.ensures.kinds (plain-free app c.requires));
      values =
          λ (id : List ℕ). first_value-rows (found_of c.in-Ok.matches) id ∙ ap (first_of id) rows;
    }

pub returns-in-Err-clause-bad : goal.returns-in-Err-clause-bad
returns-in-Err-clause-bad c is =
    false_from_ne_true _
    (λ taken. c.end_of.ensures.bad.0 (some_same c.end_of.result Bad (ap result_err is))
    (c.kind.ensures ∙ c.in-Err.ensures.passes taken))
