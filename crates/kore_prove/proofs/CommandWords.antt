-- Words ask for only one thing.
use Rattle.std.proofs.Common.{◌≡◌, ℕ, List, [], ◌∷◌, length, Bool, true, false, Option, Some, refl}
use Rattle.std.proofs.Common.{sym, ◌∙◌, ap, subst, arith, None}
use Rattle.std.proofs.lemmas.Bool.{and_parts}
use Rattle.std.proofs.lemmas.Slice.Eq.{bytes_eq-Decides}
use Rattle.std.specs.Prelude.{codes, not, ◌&&◌, ◌||◌, if◌then◌else◌, is_some, IsFalse}
use Rattle.std.specs.Option.{option_map_or}
use Rattle.std.specs.Str.{bytes_eq}
use Rattle.clap.specs.Takes.{takes}
use Rattle.command_words.specs.CommandLine.{are_bad, is_named, is_number_to, is_run, most_calls}
use Rattle.command_words.specs.CommandLine.{most_steps, names_one_file, run_app, value_of, is_set}
use Rattle.command_words.specs.CommandLine.{are_bad_files, shows_nowhere}
use Rattle.command_words.specs.Commands.{Gives}
use Rattle.command_words.specs.declared.commands.Command.{Command}
use Rattle.command_words.specs.declared.commands.Command.TheVariants as command
use Rattle.kore_prove.specs.CheckWords.{CheckRequest, IsCheck, IsNoCheck}
use Rattle.kore_prove.specs.ProveWords.{ProveRequest, IsProve, IsNoProve}
use Rattle.kore_prove.specs.DrillWords.{DrillRequest, IsDrill, IsNoDrill}
use Rattle.kore_prove.specs.RunWords.{RunRequest, IsRun}
use Rattle.kore_prove.specs.VerifyWords.{IsVerify}
use Rattle.kore_prove.specs.BadWords.{AreBad}
use Rattle.kore_prove.specs.Requests.{HasGoodFiles, AsksFor, request}

some_same : {A : Type 0} (o : Option A) (a b : A) → o ≡ Some a → o ≡ Some b → a ≡ b
some_same o a b h k = cc

never : (b : Bool) → b ≡ false → b ≡ true → ⊥
never b h k = cc

pub one_request : (words : List (List ℕ)) (a b : RunRequest) → IsRun words a → IsRun words b → a ≡ b
one_request words a b h k =
    let definition : a.definition ≡ b.definition = some_same _ _ _ h.definition k.definition in
    let term : a.term ≡ b.term = some_same _ _ _ h.term k.term in
    let limit : a.limit ≡ b.limit = some_same _ _ _ h.limit k.limit in
    let calls : a.calls ≡ b.calls = h.calls ∙ sym k.calls in
    let proof : a.proof ≡ b.proof = h.proof ∙ sym k.proof in
    let hints : a.hints ≡ b.hints = h.hints ∙ sym k.hints in
    let stuck : a.stuck ≡ b.stuck = h.stuck ∙ sym k.stuck in
    λ j. record {
      definition = definition j;
      term = term j;
      limit = limit j;
      calls = calls j;
      proof = proof j;
      hints = hints j;
      stuck = stuck j;
    }

pub one_file : (words : List (List ℕ)) (a b : List ℕ) → IsVerify words a → IsVerify words b → a ≡ b
one_file words a b h k = some_same _ _ _ h.file_is k.file_is

pub one_check : (words : List (List ℕ)) (a b : CheckRequest) → IsCheck words a → IsCheck words b
    → a ≡ b
one_check words a b h k =
    let definition : a.definition ≡ b.definition =
    some_same _ _ _ h.definition_is k.definition_is in
    let file : a.file ≡ b.file = some_same _ _ _ h.file_is k.file_is in
    ap (λ (d : List ℕ). record a { definition = d }) definition
    ∙ ap (λ (f : List ℕ). record b { file = f }) file

pub one_prove : (words : List (List ℕ)) (a b : ProveRequest) → IsProve words a → IsProve words b
    → a ≡ b
one_prove words a b h k =
    let definition : a.definition ≡ b.definition =
    some_same _ _ _ h.definition_is k.definition_is in
    let hints : a.hints ≡ b.hints = some_same _ _ _ h.hints_are k.hints_are in
    let proof : a.proof ≡ b.proof = some_same _ _ _ h.proof_is k.proof_is in
    let calls : a.calls ≡ b.calls = h.calls_are ∙ sym k.calls_are in
    ap (λ (d : List ℕ). record a { definition = d }) definition
    ∙ ap (λ (o : List ℕ). record b { hints = o; proof = a.proof; calls = a.calls }) hints
    ∙ ap (λ (p : List ℕ). record b { proof = p; calls = a.calls }) proof
    ∙ ap (λ (n : ℕ). record b { calls = n }) calls

pub one_drill : (words : List (List ℕ)) (a b : DrillRequest) → IsDrill words a → IsDrill words b
    → a ≡ b
one_drill words a b h k =
    let steps : a.steps ≡ b.steps = some_same _ _ _ h.steps_are k.steps_are in
    let file : a.file ≡ b.file = some_same _ _ _ h.file_is k.file_is in
    ap (λ (n : ℕ). record a { steps = n }) steps ∙ ap (λ (f : List ℕ). record b { file = f }) file

pub run_good : (words : List (List ℕ)) (asked : RunRequest) → IsRun words asked → AreBad words → ⊥
run_good words asked h bad = never _ h.good bad.bad

pub verify_good : (words : List (List ℕ)) (file : List ℕ) → IsVerify words file → AreBad words → ⊥
verify_good words file h bad = never _ h.good bad.bad

pub check_good : (words : List (List ℕ)) (asked : CheckRequest) → IsCheck words asked → AreBad words
    → ⊥
check_good words asked h bad = never _ h.good bad.bad

pub prove_good : (words : List (List ℕ)) (asked : ProveRequest) → IsProve words asked → AreBad words
    → ⊥
prove_good words asked h bad = never _ h.good bad.bad

pub drill_good : (words : List (List ℕ)) (asked : DrillRequest) → IsDrill words asked → AreBad words
    → ⊥
drill_good words asked h bad = never _ h.good bad.bad

-- words do not have two different names
both_names : (a b word : List ℕ) → (a ≡ b → ⊥) → bytes_eq word a ≡ true → bytes_eq word b ≡ true
    → ⊥
both_names a b word differ h k =
    let one : word ≡ a = (bytes_eq-Decides word a).0 h in
    let other : word ≡ b = (bytes_eq-Decides word b).0 k in
    differ (sym one ∙ other)

named_both : (a b : List ℕ) (words : List (List ℕ)) → (a ≡ b → ⊥)
    → is_named a words ≡ true → is_named b words ≡ true → ⊥
named_both a b [] differ h k = never false refl h
named_both a b (word ∷ words) differ h k = both_names a b word differ h k

pub not_both : (words : List (List ℕ)) (asked : RunRequest) (file : List ℕ) → IsRun words asked
    → IsVerify words file → ⊥
not_both words asked file h k =
    named_both (codes "run") (codes "verify") words
    (λ same. (let lengths : 3 ≡ 6 = ap length same in omega (arith, lengths))) h.named k.named

-- words that ask for something else, or that are bad, do not ask for a check
pub run_no_check : (words : List (List ℕ)) (asked : RunRequest) → IsRun words asked
    → IsNoCheck words
run_no_check words asked h = λ check k.
    named_both (codes "run") (codes "check") words
    (λ same. (let lengths : 3 ≡ 5 = ap length same in omega (arith, lengths))) h.named k.named

pub verify_no_check : (words : List (List ℕ)) (file : List ℕ) → IsVerify words file
    → IsNoCheck words
verify_no_check words file h = λ check k.
    named_both (codes "verify") (codes "check") words
    (λ same. (let lengths : 6 ≡ 5 = ap length same in omega (arith, lengths))) h.named k.named

abbrev first_byte : List ℕ → ℕ
first_byte [] = 0
first_byte (b ∷ bytes) = b

pub drill_no_check : (words : List (List ℕ)) (asked : DrillRequest) → IsDrill words asked
    → IsNoCheck words
drill_no_check words asked h = λ check k.
    named_both (codes "drill") (codes "check") words
    (λ same. (let bytes : 100 ≡ 99 = ap first_byte same in omega (arith, bytes))) h.named k.named

pub bad_no_check : (words : List (List ℕ)) → AreBad words → IsNoCheck words
bad_no_check words bad = λ check k. check_good words check k bad

-- words that ask for something else, or that are bad, do not ask for a proof of a path
pub run_no_prove : (words : List (List ℕ)) (asked : RunRequest) → IsRun words asked
    → IsNoProve words
run_no_prove words asked h = λ prove k.
    named_both (codes "run") (codes "prove") words
    (λ same. (let lengths : 3 ≡ 5 = ap length same in omega (arith, lengths))) h.named k.named

pub verify_no_prove : (words : List (List ℕ)) (file : List ℕ) → IsVerify words file
    → IsNoProve words
verify_no_prove words file h = λ prove k.
    named_both (codes "verify") (codes "prove") words
    (λ same. (let lengths : 6 ≡ 5 = ap length same in omega (arith, lengths))) h.named k.named

pub check_no_prove : (words : List (List ℕ)) (asked : CheckRequest) → IsCheck words asked
    → IsNoProve words
check_no_prove words asked h = λ prove k.
    named_both (codes "check") (codes "prove") words
    (λ same. (let bytes : 99 ≡ 112 = ap first_byte same in omega (arith, bytes))) h.named k.named

pub drill_no_prove : (words : List (List ℕ)) (asked : DrillRequest) → IsDrill words asked
    → IsNoProve words
drill_no_prove words asked h = λ prove k.
    named_both (codes "drill") (codes "prove") words
    (λ same. (let bytes : 100 ≡ 112 = ap first_byte same in omega (arith, bytes))) h.named k.named

pub bad_no_prove : (words : List (List ℕ)) → AreBad words → IsNoProve words
bad_no_prove words bad = λ prove k. prove_good words prove k bad

-- words that ask for something else, or that are bad, do not ask for a drill
pub run_no_drill : (words : List (List ℕ)) (asked : RunRequest) → IsRun words asked
    → IsNoDrill words
run_no_drill words asked h = λ drill k.
    named_both (codes "run") (codes "drill") words
    (λ same. (let lengths : 3 ≡ 5 = ap length same in omega (arith, lengths))) h.named k.named

pub verify_no_drill : (words : List (List ℕ)) (file : List ℕ) → IsVerify words file
    → IsNoDrill words
verify_no_drill words file h = λ drill k.
    named_both (codes "verify") (codes "drill") words
    (λ same. (let lengths : 6 ≡ 5 = ap length same in omega (arith, lengths))) h.named k.named

pub bad_no_drill : (words : List (List ℕ)) → AreBad words → IsNoDrill words
bad_no_drill words bad = λ drill k. drill_good words drill k bad

-- ---- what words of a run write goes to two files

first_choice : (b x y : Bool) → b ≡ true → (if b then not x else y) ≡ false → x ≡ true
first_choice true true y is h = refl
first_choice true false y is h = absurd (never true h refl)
first_choice false x y is h = absurd (never false refl is)

not_true : (b : Bool) → not b ≡ true → b ≡ false
not_true true h = absurd (never false refl h)
not_true false h = refl

neither : (a b : Bool) → not (a || b) ≡ true → (a ≡ false) × (b ≡ false)
neither true b h = absurd (never false refl h)
neither false b h = (refl, not_true b h)

two_names : (proof hints : Option (List ℕ)) (file : List ℕ) → proof ≡ Some file → hints ≡ Some file
    → names_one_file proof hints ≡ false → ⊥
two_names proof hints file is is' h =
    let one : names_one_file proof hints ≡ true =
    rw (is, is') ((bytes_eq-Decides file file).1 refl) in
    never _ h one

shown_there : (stuck : Bool) (proof : Option (List ℕ)) → proof ≡ None
    → shows_nowhere stuck proof ≡ false → IsFalse stuck
shown_there stuck proof is h =
    let nowhere : shows_nowhere stuck None ≡ false =
    subst (λ (p : Option (List ℕ)). shows_nowhere stuck p ≡ false) is h in
    go stuck nowhere
  where
    go : (b : Bool) → shows_nowhere b None ≡ false → IsFalse b
    go true h = absurd (never false refl (sym h))
    go false h = refl

pub good_files : (words : List (List ℕ)) (asked : RunRequest) → IsRun words asked
    → HasGoodFiles asked
good_files words asked h = (
    let good : is_run words ≡ true =
    first_choice (is_named (codes "run") words) (is_run words) _ h.named h.good in
    let taken = takes run_app words in
    let named = is_some (value_of run_app words (codes "def"))
    && is_some (value_of run_app words (codes "term")) in
    let limited =
    option_map_or (is_number_to most_steps) (value_of run_app words (codes "limit")) false in
    let counted =
    option_map_or (is_number_to most_calls) (value_of run_app words (codes "calls")) true in
    let files =
    not (are_bad_files (is_set run_app words (codes "stuck"))
    (value_of run_app words (codes "proof")) (value_of run_app words (codes "hints"))) in
    let after_taken = (and_parts taken (named && (limited && (counted && files))) good).1 in
    let after_named = (and_parts named (limited && (counted && files)) after_taken).1 in
    let after_limited = (and_parts limited (counted && files) after_named).1 in
    let both = neither _ _ (and_parts counted files after_limited).1 in
    record {
      two =
          λ file proof hints. two_names _ _ file (sym h.proof ∙ proof) (sym h.hints ∙ hints)
          both.1;
      shown_there =
          λ none. subst IsFalse (sym h.stuck)
          (shown_there _ _ (sym h.proof ∙ none) both.0);
    })

-- what good words ask for, in the terms of the requests
pub asked_of : (words : List (List ℕ)) (c : Command) → (are_bad words ≡ false) × Gives words c
    → AsksFor words c
asked_of words (command.Run r) h =
    let run : IsRun words (request r) = record {
      good = h.0;
      named = h.1.named;
      definition = h.1.definition;
      term = h.1.term;
      limit = h.1.limit;
      calls = h.1.calls;
      proof = h.1.proof;
      hints = h.1.hints;
      stuck = h.1.stuck;
    } in
    (run, good_files words (request r) run)
asked_of words (command.Verify file) h =
    record { good = h.0; named = h.1.named; file_is = h.1.file_is }
asked_of words (command.Check c) h = record {
  good = h.0;
  named = h.1.named;
  definition_is = h.1.definition;
  file_is = h.1.file;
}
asked_of words (command.Prove p) h = record {
  good = h.0;
  named = h.1.named;
  definition_is = h.1.definition;
  hints_are = h.1.hints;
  proof_is = h.1.proof;
  calls_are = h.1.calls;
}
asked_of words (command.Drill d) h = (
  record { good = h.0; named = h.1.named; steps_are = h.1.steps; file_is = h.1.file },
  h.1.few_steps,
)
