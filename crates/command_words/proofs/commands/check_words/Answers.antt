use Rattle.std.proofs.Common.{◌≡◌, ◌∙◌, sym, ap, subst, map, string_bytes, is_some, option_copied}
use Rattle.std.proofs.Common.{codes}
use Rattle.clap.specs.Simple.{App}
use Rattle.clap.specs.Takes.{takes}
use Rattle.command_words.specs.CommandLine.{check_app, value_of}
use Rattle.command_words.specs.Plain.{IsReadBy}
use Rattle.command_words.proofs.WordTests.{no-file, all-three}
use Rattle.command_words.proofs.commands.check_words.Goals as goal

pub returns-in_err-file-clause-bad : goal.returns-in_err-file-clause-bad
returns-in_err-file-clause-bad c _ =
    let words = map string_bytes c.args.words.now in
    let read =
    subst (λ (a : App). IsReadBy a words c.in_ok-matches.matches) c.in_ok-command.ensures
    c.in_ok-matches.ensures.read in
    let file : value_of check_app words (codes "file") ≡ option_copied c.get_str-2.result =
    sym (read.values (codes "file")) ∙ sym c.get_str-2.ensures in
    no-file (takes check_app words) (is_some (value_of check_app words (codes "def")))
    (is_some (value_of check_app words (codes "file")))
    (ap is_some file ∙ ap (λ r. is_some (option_copied r)) c.in_err-file.ensures.ok_part)

pub returns-clause-good : goal.returns-clause-good
returns-clause-good c =
    let words = map string_bytes c.args.words.now in
    let read =
    subst (λ (a : App). IsReadBy a words c.in_ok-matches.matches) c.in_ok-command.ensures
    c.in_ok-matches.ensures.read in
    let definition : value_of check_app words (codes "def") ≡ option_copied c.get_str.result =
    sym (read.values (codes "def")) ∙ sym c.get_str.ensures in
    let file : value_of check_app words (codes "file") ≡ option_copied c.get_str-2.result =
    sym (read.values (codes "file")) ∙ sym c.get_str-2.ensures in (
      all-three (takes check_app words) (is_some (value_of check_app words (codes "def")))
          (is_some (value_of check_app words (codes "file"))) read.taken
          (ap is_some definition
          ∙ ap (λ r. is_some (option_copied r)) c.in_ok-definition.ensures.ok_part)
          (ap is_some file ∙ ap (λ r. is_some (option_copied r)) c.in_ok-file.ensures.ok_part),
      record {
        named = c.requires;
        definition = definition ∙ ap (λ r. option_copied r) c.in_ok-definition.ensures.ok_part;
        file = file ∙ ap (λ r. option_copied r) c.in_ok-file.ensures.ok_part;
      },
    )
