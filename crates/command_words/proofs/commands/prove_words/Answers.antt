use Rattle.std.proofs.Common.{◌≡◌, ◌∙◌, sym, ap, subst, List, ℕ, map, string_bytes, Option, is_some}
use Rattle.std.proofs.Common.{option_copied, codes, true}
use Rattle.std.specs.Option.{option_map_or}
use Rattle.std.specs.Str.Parse.{digits_value}
use Rattle.clap.specs.Simple.{App}
use Rattle.clap.specs.Takes.{takes}
use Rattle.command_words.specs.CommandLine.{prove_app, value_of, is_number_to, most_calls}
use Rattle.command_words.specs.CommandLine.{usual_calls}
use Rattle.command_words.specs.Plain.{IsReadBy}
use Rattle.command_words.proofs.RunTests.{no-second, no-third, no-fourth, all-five}
use Rattle.command_words.proofs.commands.prove_words.Goals as goal

pub returns-in_err-hints-clause-bad : goal.returns-in_err-hints-clause-bad
returns-in_err-hints-clause-bad c _ =
    let words = map string_bytes c.args.words.now in
    let read =
    subst (λ (a : App). IsReadBy a words c.in_ok-matches.matches) c.in_ok-command.ensures
    c.in_ok-matches.ensures.read in
    let hints : value_of prove_app words (codes "hints") ≡ option_copied c.get_str-2.result =
    sym (read.values (codes "hints")) ∙ sym c.get_str-2.ensures in
    no-second (takes prove_app words) (is_some (value_of prove_app words (codes "def")))
    (is_some (value_of prove_app words (codes "hints")))
    (is_some (value_of prove_app words (codes "proof")))
    (option_map_or (is_number_to most_calls) (value_of prove_app words (codes "calls")) true)
    (ap is_some hints ∙ ap (λ r. is_some (option_copied r)) c.in_err-hints.ensures.ok_part)

pub returns-in_err-proof-clause-bad : goal.returns-in_err-proof-clause-bad
returns-in_err-proof-clause-bad c _ =
    let words = map string_bytes c.args.words.now in
    let read =
    subst (λ (a : App). IsReadBy a words c.in_ok-matches.matches) c.in_ok-command.ensures
    c.in_ok-matches.ensures.read in
    let proof : value_of prove_app words (codes "proof") ≡ option_copied c.get_str-3.result =
    sym (read.values (codes "proof")) ∙ sym c.get_str-3.ensures in
    no-third (takes prove_app words) (is_some (value_of prove_app words (codes "def")))
    (is_some (value_of prove_app words (codes "hints")))
    (is_some (value_of prove_app words (codes "proof")))
    (option_map_or (is_number_to most_calls) (value_of prove_app words (codes "calls")) true)
    (ap is_some proof ∙ ap (λ r. is_some (option_copied r)) c.in_err-proof.ensures.ok_part)

pub returns-in_err-calls-clause-bad : goal.returns-in_err-calls-clause-bad
returns-in_err-calls-clause-bad c _ =
    let words = map string_bytes c.args.words.now in
    let read =
    subst (λ (a : App). IsReadBy a words c.in_ok-matches.matches) c.in_ok-command.ensures
    c.in_ok-matches.ensures.read in
    let calls : value_of prove_app words (codes "calls") ≡ option_copied c.get_str-4.result =
    sym (read.values (codes "calls")) ∙ sym c.get_str-4.ensures in
    no-fourth (takes prove_app words) (is_some (value_of prove_app words (codes "def")))
    (is_some (value_of prove_app words (codes "hints")))
    (is_some (value_of prove_app words (codes "proof")))
    (option_map_or (is_number_to most_calls) (value_of prove_app words (codes "calls")) true)
    (ap (λ (o : Option (List ℕ)). option_map_or (is_number_to most_calls) o true) calls
    ∙ rw c.in_err-calls.ensures.ok_part at c.number_or.ensures.bad)

pub returns-clause-good : goal.returns-clause-good
returns-clause-good c =
    let words = map string_bytes c.args.words.now in
    let read =
    subst (λ (a : App). IsReadBy a words c.in_ok-matches.matches) c.in_ok-command.ensures
    c.in_ok-matches.ensures.read in
    let definition : value_of prove_app words (codes "def") ≡ option_copied c.get_str.result =
    sym (read.values (codes "def")) ∙ sym c.get_str.ensures in
    let hints : value_of prove_app words (codes "hints") ≡ option_copied c.get_str-2.result =
    sym (read.values (codes "hints")) ∙ sym c.get_str-2.ensures in
    let proof : value_of prove_app words (codes "proof") ≡ option_copied c.get_str-3.result =
    sym (read.values (codes "proof")) ∙ sym c.get_str-3.ensures in
    let calls : value_of prove_app words (codes "calls") ≡ option_copied c.get_str-4.result =
    sym (read.values (codes "calls")) ∙ sym c.get_str-4.ensures in (
      all-five (takes prove_app words) (is_some (value_of prove_app words (codes "def")))
          (is_some (value_of prove_app words (codes "hints")))
          (is_some (value_of prove_app words (codes "proof")))
          (option_map_or (is_number_to most_calls) (value_of prove_app words (codes "calls")) true)
          read.taken
          (ap is_some definition ∙ ap (λ r. is_some (option_copied r))
          c.in_ok-definition.ensures.ok_part)
          (ap is_some hints ∙ ap (λ r. is_some (option_copied r)) c.in_ok-hints.ensures.ok_part)
          (ap is_some proof ∙ ap (λ r. is_some (option_copied r)) c.in_ok-proof.ensures.ok_part)
          (ap (λ (o : Option (List ℕ)). option_map_or (is_number_to most_calls) o true) calls
          ∙ (rw c.in_ok-calls.ensures.ok_part at c.number_or.ensures.good)),
      record {
        named = c.requires;
        definition = definition ∙ ap (λ r. option_copied r) c.in_ok-definition.ensures.ok_part;
        hints = hints ∙ ap (λ r. option_copied r) c.in_ok-hints.ensures.ok_part;
        proof = proof ∙ ap (λ r. option_copied r) c.in_ok-proof.ensures.ok_part;
        calls = (rw c.in_ok-calls.ensures.ok_part at c.number_or.ensures.number)
            ∙ ap (λ (o : Option (List ℕ)). option_map_or (digits_value 10) o usual_calls)
            (sym calls);
      },
    )
