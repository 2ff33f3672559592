use Rattle.std.proofs.Common.{◌≡◌, ◌∙◌, sym, ap, subst, List, ℕ, map, string_bytes, Option, is_some}
use Rattle.std.proofs.Common.{option_map, option_copied, codes, true, false, not, ◌&&◌, Bool}
use Rattle.std.specs.Option.{option_map_or}
use Rattle.std.specs.Str.Parse.{digits_value}
use Rattle.clap.specs.Simple.{App}
use Rattle.clap.specs.Takes.{takes}
use Rattle.command_words.specs.CommandLine.{run_app, value_of, is_number_to, most_steps, most_calls}
use Rattle.command_words.specs.CommandLine.{usual_calls, is_set, is_true, are_bad_files}
use Rattle.command_words.specs.Plain.{IsReadBy}
use Rattle.command_words.proofs.RunTests.{no-first, no-second, no-third, no-fourth, all-five}
use Rattle.command_words.proofs.RunTests.{no-calls, bad-files, good-files}
use Rattle.command_words.proofs.commands.run_words.Goals as goal

abbrev good_calls : List (List ℕ) → Bool
good_calls words =
    option_map_or (is_number_to most_calls) (value_of run_app words (codes "calls")) true

-- the files to be written are bad
abbrev bad_files : List (List ℕ) → Bool
bad_files words =
    are_bad_files (is_set run_app words (codes "stuck")) (value_of run_app words (codes "proof"))
    (value_of run_app words (codes "hints"))

pub returns-in_err-definition-clause-bad : goal.returns-in_err-definition-clause-bad
returns-in_err-definition-clause-bad c _ =
    let words = map string_bytes c.args.words.now in
    let read =
    subst (λ (a : App). IsReadBy a words c.in_ok-matches.matches) c.in_ok-command.ensures
    c.in_ok-matches.ensures.read in
    let definition : value_of run_app words (codes "def") ≡ option_copied c.get_str.result =
    sym (read.values (codes "def")) ∙ sym c.get_str.ensures in
    no-first (takes run_app words) (is_some (value_of run_app words (codes "def")))
    (is_some (value_of run_app words (codes "term")))
    (option_map_or (is_number_to most_steps) (value_of run_app words (codes "limit")) false)
    (good_calls words && not (bad_files words))
    (ap is_some definition ∙ ap (λ r. is_some (option_copied r))
    c.in_err-definition.ensures.ok_part)

pub returns-in_err-term-clause-bad : goal.returns-in_err-term-clause-bad
returns-in_err-term-clause-bad c _ =
    let words = map string_bytes c.args.words.now in
    let read =
    subst (λ (a : App). IsReadBy a words c.in_ok-matches.matches) c.in_ok-command.ensures
    c.in_ok-matches.ensures.read in
    let term : value_of run_app words (codes "term") ≡ option_copied c.get_str-2.result =
    sym (read.values (codes "term")) ∙ sym c.get_str-2.ensures in
    no-second (takes run_app words) (is_some (value_of run_app words (codes "def")))
    (is_some (value_of run_app words (codes "term")))
    (option_map_or (is_number_to most_steps) (value_of run_app words (codes "limit")) false)
    (good_calls words && not (bad_files words))
    (ap is_some term ∙ ap (λ r. is_some (option_copied r)) c.in_err-term.ensures.ok_part)

pub returns-in_err-limit-clause-bad : goal.returns-in_err-limit-clause-bad
returns-in_err-limit-clause-bad c _ =
    let words = map string_bytes c.args.words.now in
    let read =
    subst (λ (a : App). IsReadBy a words c.in_ok-matches.matches) c.in_ok-command.ensures
    c.in_ok-matches.ensures.read in
    let limit : value_of run_app words (codes "limit") ≡ option_copied c.get_str-3.result =
    sym (read.values (codes "limit")) ∙ sym c.get_str-3.ensures in
    no-third (takes run_app words) (is_some (value_of run_app words (codes "def")))
    (is_some (value_of run_app words (codes "term")))
    (option_map_or (is_number_to most_steps) (value_of run_app words (codes "limit")) false)
    (good_calls words && not (bad_files words))
    (ap (λ (o : Option (List ℕ)). option_map_or (is_number_to most_steps) o false) limit
    ∙ rw c.in_err-limit.ensures.ok_part at c.number_in.ensures.bad)

pub returns-in_err-calls-clause-bad : goal.returns-in_err-calls-clause-bad
returns-in_err-calls-clause-bad c _ =
    let words = map string_bytes c.args.words.now in
    let read =
    subst (λ (a : App). IsReadBy a words c.in_ok-matches.matches) c.in_ok-command.ensures
    c.in_ok-matches.ensures.read in
    let calls : value_of run_app words (codes "calls") ≡ option_copied c.get_str-4.result =
    sym (read.values (codes "calls")) ∙ sym c.get_str-4.ensures in
    no-fourth (takes run_app words) (is_some (value_of run_app words (codes "def")))
    (is_some (value_of run_app words (codes "term")))
    (option_map_or (is_number_to most_steps) (value_of run_app words (codes "limit")) false)
    (good_calls words && not (bad_files words))
    (no-calls (good_calls words) (bad_files words)
    (ap (λ (o : Option (List ℕ)). option_map_or (is_number_to most_calls) o true) calls
    ∙ rw c.in_err-calls.ensures.ok_part at c.number_or.ensures.bad))

pub returns-then-are_bad_files-clause-bad : goal.returns-then-are_bad_files-clause-bad
returns-then-are_bad_files-clause-bad c _ =
    let words = map string_bytes c.args.words.now in
    let read =
    subst (λ (a : App). IsReadBy a words c.in_ok-matches.matches) c.in_ok-command.ensures
    c.in_ok-matches.ensures.read in
    let proof : value_of run_app words (codes "proof") ≡ option_copied c.get_str-proof.result =
    sym (read.values (codes "proof")) ∙ sym c.get_str-proof.ensures in
    let hints : value_of run_app words (codes "hints") ≡ option_copied c.get_str-hints.result =
    sym (read.values (codes "hints")) ∙ sym c.get_str-hints.ensures in
    let stuck : is_set run_app words (codes "stuck") ≡ c.is_set-stuck.result =
    ap is_true (sym (read.values (codes "stuck"))) ∙ sym c.is_set-stuck.ensures in
    let bad : bad_files words ≡ true =
    (λ k. are_bad_files (stuck k) (proof k) (hints k)) ∙ sym c.are_bad_files.ensures
    ∙ c.if-are_bad_files.true in
    no-fourth (takes run_app words) (is_some (value_of run_app words (codes "def")))
    (is_some (value_of run_app words (codes "term")))
    (option_map_or (is_number_to most_steps) (value_of run_app words (codes "limit")) false)
    (good_calls words && not (bad_files words))
    (bad-files (good_calls words) (bad_files words) bad)

pub returns-clause-good : goal.returns-clause-good
returns-clause-good c =
    let words = map string_bytes c.args.words.now in
    let read =
    subst (λ (a : App). IsReadBy a words c.in_ok-matches.matches) c.in_ok-command.ensures
    c.in_ok-matches.ensures.read in
    let definition : value_of run_app words (codes "def") ≡ option_copied c.get_str.result =
    sym (read.values (codes "def")) ∙ sym c.get_str.ensures in
    let term : value_of run_app words (codes "term") ≡ option_copied c.get_str-2.result =
    sym (read.values (codes "term")) ∙ sym c.get_str-2.ensures in
    let limit : value_of run_app words (codes "limit") ≡ option_copied c.get_str-3.result =
    sym (read.values (codes "limit")) ∙ sym c.get_str-3.ensures in
    let calls : value_of run_app words (codes "calls") ≡ option_copied c.get_str-4.result =
    sym (read.values (codes "calls")) ∙ sym c.get_str-4.ensures in
    let proof : value_of run_app words (codes "proof") ≡ option_copied c.get_str-proof.result =
    sym (read.values (codes "proof")) ∙ sym c.get_str-proof.ensures in
    let hints : value_of run_app words (codes "hints") ≡ option_copied c.get_str-hints.result =
    sym (read.values (codes "hints")) ∙ sym c.get_str-hints.ensures in
    let stuck : is_set run_app words (codes "stuck") ≡ c.is_set-stuck.result =
    ap is_true (sym (read.values (codes "stuck"))) ∙ sym c.is_set-stuck.ensures in
    let bad : bad_files words ≡ false =
    (λ k. are_bad_files (stuck k) (proof k) (hints k)) ∙ sym c.are_bad_files.ensures
    ∙ c.if-are_bad_files.false in (
      all-five (takes run_app words) (is_some (value_of run_app words (codes "def")))
          (is_some (value_of run_app words (codes "term")))
          (option_map_or (is_number_to most_steps) (value_of run_app words (codes "limit")) false)
          (good_calls words && not (bad_files words))
          read.taken
          (ap is_some definition ∙ ap (λ r. is_some (option_copied r))
          c.in_ok-definition.ensures.ok_part) (ap is_some term ∙ ap (λ r. is_some (option_copied r))
          c.in_ok-term.ensures.ok_part) (ap (λ (o : Option (List ℕ)). option_map_or (is_number_to
          most_steps) o false) limit
          ∙ (rw c.in_ok-limit.ensures.ok_part at c.number_in.ensures.good))
          (good-files (good_calls words) (bad_files words)
          (ap (λ (o : Option (List ℕ)). option_map_or (is_number_to most_calls) o true) calls
          ∙ (rw c.in_ok-calls.ensures.ok_part at c.number_or.ensures.good)) bad),
      record {
        named = c.requires;
        definition = definition ∙ ap (λ r. option_copied r) c.in_ok-definition.ensures.ok_part;
        term = term ∙ ap (λ r. option_copied r) c.in_ok-term.ensures.ok_part;
        limit = ap (option_map (digits_value 10)) limit ∙ (rw c.in_ok-limit.ensures.ok_part at
            c.number_in.ensures.number);
        calls = (rw c.in_ok-calls.ensures.ok_part at c.number_or.ensures.number)
            ∙ ap (λ (o : Option (List ℕ)). option_map_or (digits_value 10) o usual_calls)
            (sym calls);
        proof = sym proof;
        hints = sym hints;
        stuck = sym stuck;
      },
    )
