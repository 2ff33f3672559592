use Rattle.std.proofs.Common.{◌≡◌, ◌∙◌, sym, ap, subst, List, ℕ, map, string_bytes, Option, is_some}
use Rattle.std.proofs.Common.{option_map, option_copied, codes, false}
use Rattle.std.specs.Option.{option_map_or}
use Rattle.std.specs.Str.Parse.{digits_value}
use Rattle.clap.specs.Simple.{App}
use Rattle.clap.specs.Takes.{takes}
use Rattle.command_words.specs.CommandLine.{drill_app, value_of, is_drill_number}
use Rattle.command_words.specs.Plain.{IsReadBy}
use Rattle.command_words.proofs.WordTests.{no-number, no-file, all-three}
use Rattle.command_words.proofs.commands.drill_words.Goals as goal

pub returns-in_err-steps-clause-bad : goal.returns-in_err-steps-clause-bad
returns-in_err-steps-clause-bad c _ =
    let words = map string_bytes c.args.words.now in
    let read =
    subst (λ (a : App). IsReadBy a words c.in_ok-matches.matches) c.in_ok-command.ensures
    c.in_ok-matches.ensures.read in
    let number : value_of drill_app words (codes "n") ≡ option_copied c.get_str.result =
    sym (read.values (codes "n")) ∙ sym c.get_str.ensures in
    no-number (takes drill_app words)
    (option_map_or is_drill_number (value_of drill_app words (codes "n")) false)
    (is_some (value_of drill_app words (codes "file")))
    (ap (λ (o : Option (List ℕ)). option_map_or is_drill_number o false) number
    ∙ rw c.in_err-steps.ensures.ok_part at c.steps_in.ensures.bad)

pub returns-in_err-file-clause-bad : goal.returns-in_err-file-clause-bad
returns-in_err-file-clause-bad c _ =
    let words = map string_bytes c.args.words.now in
    let read =
    subst (λ (a : App). IsReadBy a words c.in_ok-matches.matches) c.in_ok-command.ensures
    c.in_ok-matches.ensures.read in
    let file : value_of drill_app words (codes "file") ≡ option_copied c.get_str-2.result =
    sym (read.values (codes "file")) ∙ sym c.get_str-2.ensures in
    no-file (takes drill_app words)
    (option_map_or is_drill_number (value_of drill_app words (codes "n")) false)
    (is_some (value_of drill_app words (codes "file")))
    (ap is_some file ∙ ap (λ r. is_some (option_copied r)) c.in_err-file.ensures.ok_part)

pub returns-clause-good : goal.returns-clause-good
returns-clause-good c =
    let words = map string_bytes c.args.words.now in
    let read =
    subst (λ (a : App). IsReadBy a words c.in_ok-matches.matches) c.in_ok-command.ensures
    c.in_ok-matches.ensures.read in
    let number : value_of drill_app words (codes "n") ≡ option_copied c.get_str.result =
    sym (read.values (codes "n")) ∙ sym c.get_str.ensures in
    let file : value_of drill_app words (codes "file") ≡ option_copied c.get_str-2.result =
    sym (read.values (codes "file")) ∙ sym c.get_str-2.ensures in (
      all-three (takes drill_app words)
          (option_map_or is_drill_number (value_of drill_app words (codes "n")) false)
          (is_some (value_of drill_app words (codes "file")))
          read.taken
          (ap (λ (o : Option (List ℕ)). option_map_or is_drill_number o false) number
          ∙ (rw c.in_ok-steps.ensures.ok_part at c.steps_in.ensures.good))
          (ap is_some file ∙ ap (λ r. is_some (option_copied r)) c.in_ok-file.ensures.ok_part),
      record {
        named = c.requires;
        steps = ap (option_map (digits_value 10)) number ∙ (rw c.in_ok-steps.ensures.ok_part at
            c.steps_in.ensures.number);
        some_steps = (rw c.in_ok-steps.ensures.ok_part at c.steps_in.ensures.bounds).0;
        few_steps = (rw c.in_ok-steps.ensures.ok_part at c.steps_in.ensures.bounds).1;
        file = file ∙ ap (λ r. option_copied r) c.in_ok-file.ensures.ok_part;
      },
    )
