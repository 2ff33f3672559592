use Rattle.std.proofs.Common.{◌≡◌, false, List, ℕ, map, Result, Ok, Err, IfOk}
use Rattle.std.specs.Prelude.{string_bytes}
use Rattle.command_words.specs.CommandLine.{are_bad}
use Rattle.command_words.specs.Commands.{Gives}
use Rattle.kore_prove.specs.Requests.{AsksFor}
use Rattle.kore_prove.proofs.CommandWords.{asked_of}
use Rattle.kore_prove.proofs.call.named_command.Goals as goal

if_ok : {T E : Type 0} (P Q : T → Type 0) (r : Result T E) → ((t : T) → P t → Q t) → IfOk r P
    → IfOk r Q
if_ok P Q (Ok t) f h = f t h
if_ok P Q (Err e) f h = tt

pub returns-clause-asked : goal.returns-clause-asked
returns-clause-asked c =
    let words = map string_bytes c.args.words.now in
    if_ok (λ k. (are_bad words ≡ false) × Gives words k) (AsksFor words) c.read_words.result
    (asked_of words) c.read_words.ensures.good
