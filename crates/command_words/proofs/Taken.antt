-- A plain command takes words that have no fault for it.
use Rattle.std.proofs.Common.{◌≡◌, ◌+◌, ◌≤◌, ◌&&◌, ◌||◌, ◌==◌, ◌⊎◌, inl, inr, ℕ, zero, suc, Bool}
use Rattle.std.proofs.Common.{true, false, not, List, [], ◌∷◌, length, min, drop, Option, Some}
use Rattle.std.proofs.Common.{None, is_some, if◌then◌else◌, nat_le, nat_lt, refl, arith, find}
use Rattle.std.proofs.Common.{codes, encode_utf8, slice_get}
use Rattle.std.specs.List.{list_all, list_any}
use Rattle.std.specs.Option.{option_map_or}
use Rattle.std.specs.Str.{bytes_eq, chars}
use Rattle.clap.specs.Lexer.{long_of, short_of}
use Rattle.clap.specs.Matches.{count_text}
use Rattle.clap.specs.Facts.{explicit_source, parser_of_value, unwrap_or_range}
use Rattle.clap.specs.ValueTests.{accepts}
use Rattle.clap.specs.Walk.{Held, Names, Row, Rule, Step, Text, Waiting, Walk, action_of, next}
use Rattle.clap.specs.Walk.{trailing, subcommand, value}
use Rattle.clap.specs.Walk.{answers_to, arg_by_id, arg_by_index, arg_by_long, arg_by_short}
use Rattle.clap.specs.Walk.{attached_value, count_of, finished, has_row, is_pending}
use Rattle.clap.specs.Walk.{most_values, nothing_held, reacted, settled, subcommand_met}
use Rattle.clap.specs.Walk.{takes_several, takes_values, values_or_missing, walk, walk_from}
use Rattle.clap.specs.Walk.{walked, word_met}
use Rattle.clap.specs.Simple.{App, Shape, argument_words, built, entered, is_simple, label_of}
use Rattle.clap.specs.Simple.{names_of}
use Rattle.clap.specs.Kinds.{Kinds, check_kinds, or_else, range_kinds, value_kinds}
use Rattle.clap.specs.Takes.{value_passes, values_pass, count_passes, set_passes, action_passes}
use Rattle.clap.specs.Takes.{use_passes, settle_passes, react_passes, option_passes, long_passes}
use Rattle.clap.specs.Takes.{short_passes, bundle_step_passes, flags_pass, bundle_passes}
use Rattle.clap.specs.Takes.{flag_word_passes, other_passes, word_passes, positional_passes}
use Rattle.clap.specs.Takes.{step_passes, turn_passes, walk_passes, default_passes, is_given}
use Rattle.clap.specs.Takes.{is_valid, level_passes, entered_passes, built_takes, takes}
use Rattle.clap.specs.Faults.{values_fault, count_fault, repeat_fault, set_fault, action_fault}
use Rattle.clap.specs.Faults.{use_fault, settle_fault, react_fault, option_fault, long_fault}
use Rattle.clap.specs.Faults.{short_fault, bundle_step_fault, flags_fault, bundle_fault}
use Rattle.clap.specs.Faults.{flag_word_fault, other_fault, word_fault, positional_fault}
use Rattle.clap.specs.Faults.{stray_fault, step_fault, turn_fault, walk_fault, defaults_fault}
use Rattle.clap.specs.Faults.{check_fault, is_free_app, level_fault, entered_fault, built_fault}
use Rattle.clap.specs.Faults.{is_simple_and_free, fault_of}
use Rattle.clap.specs.declared.builder.action.ArgAction.{ArgAction}
use Rattle.clap.specs.declared.builder.action.ArgAction.TheVariants.{Set, Append, SetTrue, SetFalse}
use Rattle.clap.specs.declared.builder.action.ArgAction.TheVariants.{Count, Help, HelpShort}
use Rattle.clap.specs.declared.builder.action.ArgAction.TheVariants.{HelpLong, Version}
use Rattle.clap.specs.declared.error.kind.ErrorKind.{ErrorKind}
use Rattle.clap.specs.declared.error.kind.ErrorKind.TheVariants as kind
use Rattle.command_words.specs.Plain.{is_plain, has_none}

-- neither part has a fault
neither : (first then_next : Kinds) → or_else first then_next ≡ [] → (first ≡ []) × (then_next ≡ [])
neither [] then_next e = (refl, e)
neither (k ∷ ks) then_next e = absurd (let wrong : ⊥ = cc in wrong)

-- both tests hold
also : (a b : Bool) → a ≡ true → b ≡ true → a && b ≡ true
also true b h k = k
also false b h k = absurd (let wrong : ⊥ = cc in wrong)

-- a choice with a fault in its first branch goes to the second branch
is_else : (b : Bool) (k : ErrorKind) (ks other : Kinds) → (if b then k ∷ ks else other) ≡ []
    → (b ≡ false) × (other ≡ [])
is_else true k ks other e = absurd (let wrong : ⊥ = cc in wrong)
is_else false k ks other e = (refl, e)

is_then : (b : Bool) (k : ErrorKind) (ks other : Kinds) → (if b then other else k ∷ ks) ≡ []
    → (b ≡ true) × (other ≡ [])
is_then true k ks other e = (refl, e)
is_then false k ks other e = absurd (let wrong : ⊥ = cc in wrong)

-- ---- values

value-passes : (a : Rule) (v : Text) → value_kinds a.ignore_case (parser_of_value a.parser) v ≡ []
    → value_passes a v ≡ true
value-passes a v e = (is_then (accepts a.ignore_case (parser_of_value a.parser) v) _ [] [] e).0

values-pass : (a : Rule) (vs : List Text) → values_fault a vs ≡ [] → values_pass a vs ≡ true
values-pass a [] e = refl
values-pass a (v ∷ vs) e =
    let both =
    neither (value_kinds a.ignore_case (parser_of_value a.parser) v) (values_fault a vs) e in
    also (value_passes a v) (values_pass a vs) (value-passes a v both.0) (values-pass a vs both.1)

count-passes : (a : Rule) (vs : List Text) (rows : List Row) → count_fault a vs rows ≡ []
    → count_passes a vs rows ≡ true
count-passes a [] rows e = value-passes a (count_text (min (count_of a.id rows + 1) 255)) e
count-passes a (v ∷ vs) rows e = values-pass a (v ∷ vs) e

set-passes : (again : Bool) (a : Rule) (vs : List Text) (rows : List Row)
    → set_fault again a vs rows ≡ [] → set_passes again a vs rows ≡ true
set-passes again a vs rows e =
    let both = neither (repeat_fault again a.id rows) (values_fault a vs) e in
    also (not (has_row a.id rows) || again) (values_pass a vs)
    (once (has_row a.id rows) again both.0) (values-pass a vs both.1) where
      once : (there again : Bool)
          → (if there && not again then kind.ArgumentConflict ∷ [] else []) ≡ []
          → not there || again ≡ true
      once true true e = refl
      once true false e = absurd (let wrong : ⊥ = cc in wrong)
      once false again e = refl

action-passes : (action : ArgAction) (again : Bool) (a : Rule) (vs : List Text) (rows : List Row)
    → action_fault action again a vs rows ≡ [] → action_passes action again a vs rows ≡ true
action-passes Set again a vs rows e = set-passes again a vs rows e
action-passes SetTrue again a vs rows e = set-passes again a vs rows e
action-passes SetFalse again a vs rows e = set-passes again a vs rows e
action-passes Append again a vs rows e = values-pass a vs e
action-passes Count again a vs rows e = count-passes a vs rows e
action-passes Help again a vs rows e = absurd (let wrong : ⊥ = cc in wrong)
action-passes HelpShort again a vs rows e = absurd (let wrong : ⊥ = cc in wrong)
action-passes HelpLong again a vs rows e = absurd (let wrong : ⊥ = cc in wrong)
action-passes Version again a vs rows e = absurd (let wrong : ⊥ = cc in wrong)

range_case : (bad same equal few many : Bool)
    → (if bad then kind.InvalidValue ∷ []
    else (if same then (if equal then [] else kind.WrongNumberOfValues ∷ []) else (if few
    then kind.TooFewValues ∷ [] else (if many then kind.TooManyValues ∷ [] else []))))
    ≡ [] → ((same ≡ true) × (equal ≡ true)) ⊎ ((few ≡ false) × (many ≡ false))
range_case true same equal few many e = absurd (let wrong : ⊥ = cc in wrong)
range_case false true true few many e = inl (refl, refl)
range_case false true false few many e = absurd (let wrong : ⊥ = cc in wrong)
range_case false false equal true many e = absurd (let wrong : ⊥ = cc in wrong)
range_case false false equal false true e = absurd (let wrong : ⊥ = cc in wrong)
range_case false false equal false false e = inr (refl, refl)

range-passes : (least most n : ℕ) → range_kinds least most n ≡ []
    → (nat_le least n ≡ true) × (nat_le n most ≡ true)
range-passes least most n e =
    elim (range_case (nat_lt 0 least && n == 0) (least == most) (least == n) (nat_lt n least)
    (nat_lt most n) e) [
      | inl h ↦ (
        let le : least ≤ n = grind (arith, h.0, h.1) in
            grind (arith, le),
        let le : n ≤ most = grind (arith, h.0, h.1) in grind (arith, le),
      )
      | inr h ↦ (grind (arith, h.0), grind (arith, h.1))
    ]

use-passes : (again : Bool) (a : Rule) (vs : List Text) (rows : List Row)
    → use_fault again a vs rows ≡ [] → use_passes again a vs rows ≡ true
use-passes again a vs rows e =
    let both =
    neither (range_kinds (unwrap_or_range a.range).start_inclusive (most_values a) (length vs))
    (action_fault (action_of a) again a (values_or_missing a vs) rows) e in
    let range =
    range-passes (unwrap_or_range a.range).start_inclusive (most_values a) (length vs) both.0 in
    also _ _ range.0 (also _ _ range.1
    (action-passes (action_of a) again a (values_or_missing a vs) rows both.1))

-- ---- the walk

settle-passes : (c : List Rule) (again : Bool) (h : Held) → settle_fault c again h ≡ []
    → settle_passes c again h ≡ true
settle-passes c again h e = of_pending h.pending e where
  of_rule : (p : Text × List Text) (r : Option Rule)
      → option_map_or (λ a. use_fault again a p.1 h.rows) r [] ≡ []
      → option_map_or (λ a. use_passes again a p.1 h.rows) r true ≡ true
  of_rule p None e = refl
  of_rule p (Some a) e = use-passes again a p.1 h.rows e

  of_pending : (p : Option (Text × List Text))
      → option_map_or (λ p. option_map_or (λ a. use_fault again a p.1 h.rows) (arg_by_id c p.0) [])
      p [] ≡ []
      → option_map_or
      (λ p. option_map_or (λ a. use_passes again a p.1 h.rows) (arg_by_id c p.0) true) p
      true ≡ true
  of_pending None e = refl
  of_pending (Some p) e = of_rule p (arg_by_id c p.0) e

react-passes : (c : List Rule) (again : Bool) (a : Rule) (vs : List Text) (h : Held)
    → react_fault c again a vs h ≡ [] → react_passes c again a vs h ≡ true
react-passes c again a vs h e =
    let both = neither (settle_fault c again h) (use_fault again a vs (settled c h).rows) e in
    also _ _ (settle-passes c again h both.0) (use-passes again a vs (settled c h).rows both.1)

option-passes : (c : List Rule) (again : Bool) (a : Rule) (v : Option Text) (h : Held)
    → option_fault c again a v h ≡ [] → option_passes c again a v h ≡ true
option-passes c again a (Some v) h e = react-passes c again a (v ∷ []) h e
option-passes c again a None h e = settle-passes c again h e

long-passes : (c : List Rule) (again : Bool) (r : Option Rule) (v : Option Text) (h : Held)
    → long_fault c again r v h ≡ [] → long_passes c again r v h ≡ true
long-passes c again None v h e = absurd (let wrong : ⊥ = cc in wrong)
long-passes c again (Some a) v h e = by_kind (takes_values a) e where
  flag : (given : Bool)
      → (if given then kind.TooManyValues ∷ [] else react_fault c again a [] h) ≡ []
      → not given && react_passes c again a [] h ≡ true
  flag true e = absurd (let wrong : ⊥ = cc in wrong)
  flag false e = react-passes c again a [] h e

  by_kind : (b : Bool)
      → (if b then option_fault c again a v h
      else (if is_some v then kind.TooManyValues ∷ [] else react_fault c again a [] h)) ≡ []
      → (if b then option_passes c again a v h
      else (not (is_some v) && react_passes c again a [] h)) ≡ true
  by_kind true e = option-passes c again a v h e
  by_kind false e = flag (is_some v) e

short-passes : (c : List Rule) (again : Bool) (r : Option Rule) (rest : Text) (h : Held)
    (bad : Held → Kinds) (good : Held → Bool) → ((k : Held) → bad k ≡ [] → good k ≡ true)
    → short_fault c again r rest h bad ≡ [] → short_passes c again r rest h good ≡ true
short-passes c again None rest h bad good on e = absurd (let wrong : ⊥ = cc in wrong)
short-passes c again (Some a) rest h bad good on e = by_kind (takes_values a) e where
  by_kind : (b : Bool)
      → (if b then option_fault c again a (attached_value rest) h
      else or_else (react_fault c again a [] h) (bad (reacted c a [] h))) ≡ []
      → (if b then option_passes c again a (attached_value rest) h
      else (react_passes c again a [] h && good (reacted c a [] h))) ≡ true
  by_kind true e = option-passes c again a (attached_value rest) h e
  by_kind false e =
      let both = neither (react_fault c again a [] h) (bad (reacted c a [] h)) e in
      also _ _ (react-passes c again a [] h both.0) (on (reacted c a [] h) both.1)

bundle-passes-step : (c : List Rule) (again : Bool) (x : Option ℕ) (flags : Text) (skip : ℕ)
    (h : Held) (bad : Text → ℕ → Held → Kinds) (good : Text → ℕ → Held → Bool)
    → ((t : Text) (n : ℕ) (k : Held) → bad t n k ≡ [] → good t n k ≡ true)
    → bundle_step_fault c again x flags skip h bad ≡ []
    → bundle_step_passes c again x flags skip h good ≡ true
bundle-passes-step c again None flags skip h bad good on e = refl
bundle-passes-step c again (Some x) flags zero h bad good on e =
    let rest = drop (length (encode_utf8 x)) flags in
    short-passes c again (arg_by_short c x) rest h (bad rest 0) (good rest 0) (on rest 0) e
bundle-passes-step c again (Some x) flags (suc skip) h bad good on e =
    on (drop (length (encode_utf8 x)) flags) skip h e

flags-pass : (c : List Rule) (again : Bool) (k : ℕ) (flags : Text) (skip : ℕ) (h : Held)
    → flags_fault c again k flags skip h ≡ [] → flags_pass c again k flags skip h ≡ true
unfolding flags_fault flags_pass
flags-pass c again zero flags skip h e = refl
flags-pass c again (suc k) flags skip h e =
    bundle-passes-step c again (slice_get (chars flags) 0) flags skip h (flags_fault c again k)
    (flags_pass c again k) (λ t n held f. flags-pass c again k t n held f) e

flag_word-passes : (c : List Rule) (again : Bool) (p : Option (Text × Option Text)) (word : Text)
    (h : Held) → flag_word_fault c again p word h ≡ []
    → flag_word_passes c again p word h ≡ true
flag_word-passes c again (Some p) word h e = long-passes c again (arg_by_long c p.0) p.1 h e
flag_word-passes c again None word h e = of_flags (short_of word) e where
  of_flags : (f : Option Text) → option_map_or (λ flags. bundle_fault c again flags h) f [] ≡ []
      → option_map_or (λ flags. bundle_passes c again flags h) f true ≡ true
  of_flags None e = refl
  of_flags (Some flags) e = flags-pass c again (length flags) flags h.skip (record h { skip = 0 }) e

other-passes : (s : Shape) (name : Option Text) (word : Text) (h : Held)
    → other_fault s name word h ≡ [] → other_passes s name word h ≡ true
other-passes s (Some name) word h e =
    no_help (bytes_eq name (codes "help")) s.disable_help_subcommand e
  where
    no_help : (b d : Bool)
        → (if b && not d then kind.DisplayHelp ∷ kind.InvalidSubcommand ∷ [] else []) ≡ []
        → not b || d ≡ true
    no_help true true e = refl
    no_help true false e = absurd (let wrong : ⊥ = cc in wrong)
    no_help false d e = refl
other-passes s None word h e = by_dashes (bytes_eq word (45 ∷ 45 ∷ [])) e where
  by_dashes : (b : Bool)
      → (if b then [] else flag_word_fault s.rules s.args_override_self (long_of word) word h) ≡ []
      → b || flag_word_passes s.rules s.args_override_self (long_of word) word h ≡ true
  by_dashes true e = refl
  by_dashes false e = flag_word-passes s.rules s.args_override_self (long_of word) word h e

word-passes : (s : Shape) (names : Names) (is_trailing : Bool) (waiting : Waiting) (word : Text)
    (h : Held) → word_fault s names is_trailing waiting word h ≡ []
    → word_passes s names is_trailing waiting word h ≡ true
word-passes s names true waiting word h e = refl
word-passes s names false waiting word h e =
    other-passes s (subcommand_met names waiting word) word h e

positional-passes : (c : List Rule) (again : Bool) (a : Rule) (h : Held)
    → positional_fault c again a h ≡ [] → positional_passes c again a h ≡ true
positional-passes c again a h e = by_test (is_pending a h.pending && takes_several a) e where
  by_test : (b : Bool) → (if b then [] else settle_fault c again h) ≡ []
      → b || settle_passes c again h ≡ true
  by_test true e = refl
  by_test false e = settle-passes c again h e

step-passes : (s : Shape) (position : ℕ) (h : Held) (step : Step)
    → step_fault s position h step ≡ [] → step_passes s position h step ≡ true
step-passes s position h (next waiting) e = refl
step-passes s position h (trailing n) e = refl
step-passes s position h (subcommand name) e = refl
step-passes s position h value e = of_rule (arg_by_index s.rules position) e where
  stray : (leaf : Bool)
      → (if leaf then kind.UnknownArgument ∷ []
      else kind.UnknownArgument ∷ kind.InvalidSubcommand ∷ []) ≡ [] → ⊥
  stray true e = cc
  stray false e = cc

  of_rule : (r : Option Rule)
      → option_map_or (λ a. positional_fault s.rules s.args_override_self a h) r (stray_fault s)
      ≡ []
      → option_map_or (λ a. positional_passes s.rules s.args_override_self a h) r false ≡ true
  of_rule None e = absurd (stray s.is_leaf e)
  of_rule (Some a) e = positional-passes s.rules s.args_override_self a h e

turn_case : (s : Shape) (names : Names) (w : Walk) (word : Text) (h : Held) (step : Step) (b : Bool)
    → (if b then []
    else or_else (word_fault s names w.is_trailing w.waiting word w.held)
    (step_fault s w.position h step)) ≡ []
    → b
    || (word_passes s names w.is_trailing w.waiting word w.held
    && step_passes s w.position h step) ≡ true
turn_case s names w word h step true e = refl
turn_case s names w word h step false e =
    let both =
    neither (word_fault s names w.is_trailing w.waiting word w.held)
    (step_fault s w.position h step) e in
    also (word_passes s names w.is_trailing w.waiting word w.held) (step_passes s w.position h step)
    (word-passes s names w.is_trailing w.waiting word w.held both.0)
    (step-passes s w.position h step both.1)

turn-passes : (s : Shape) (names : Names) (w : Walk) (word : Text) → turn_fault s names w word ≡ []
    → turn_passes s names w word ≡ true
turn-passes s names w word e =
    let met = word_met s.rules names w.is_trailing w.waiting w.position word w.held in
    turn_case s names w word met.0 met.1 (is_some w.stopped) e

walk-passes : (s : Shape) (names : Names) (w : Walk) (words : List Text)
    → walk_fault s names w words ≡ [] → walk_passes s names w words ≡ true
unfolding walk_fault walk_passes
walk-passes s names w [] e = refl
walk-passes s names w (word ∷ rest) e =
    let both =
    neither (turn_fault s names w word) (walk_fault s names (walked s.rules names w word) rest)
    e in
    also _ _ (turn-passes s names w word both.0)
    (walk-passes s names (walked s.rules names w word) rest both.1)

-- ---- after the walk

check_case : (a b c : Bool) → check_kinds a b c ≡ [] → (a ≡ false) × (b ≡ false) × (c ≡ false)
check_case true b c e = absurd (let wrong : ⊥ = cc in wrong)
check_case false true c e = absurd (let wrong : ⊥ = cc in wrong)
check_case false false true e = absurd (let wrong : ⊥ = cc in wrong)
check_case false false false e = (refl, refl, refl)

given-all : (rows : List Row) (rules : List Rule)
    → list_any (λ (a : Rule). a.required && not (is_given a.id rows)) rules ≡ false
    → list_all (λ (a : Rule). not a.required || is_given a.id rows) rules ≡ true
given-all rows [] e = refl
given-all rows (a ∷ rules) e =
    step a.required (is_given a.id rows) (λ f. given-all rows rules f) e
  where
    step : (wanted given : Bool)
        → (list_any (λ (r : Rule). r.required && not (is_given r.id rows)) rules ≡ false
        → list_all (λ (r : Rule). not r.required || is_given r.id rows) rules ≡ true)
        → (wanted && not given)
        || list_any (λ (r : Rule). r.required && not (is_given r.id rows)) rules ≡ false
        → (not wanted || given)
        && list_all (λ (r : Rule). not r.required || is_given r.id rows) rules ≡ true
    step true true on e = on e
    step true false on e = absurd (let wrong : ⊥ = cc in wrong)
    step false given on e = on e

helped : (sub help some : Bool) → not sub && (help && not some) ≡ false
    → not help || (sub || some) ≡ true
helped true true some e = refl
helped true false some e = refl
helped false true true e = refl
helped false true false e = absurd (let wrong : ⊥ = cc in wrong)
helped false false some e = refl

entered-where : (sub wanted : Bool) → not sub && wanted ≡ false → not wanted || sub ≡ true
entered-where true true e = refl
entered-where true false e = refl
entered-where false true e = absurd (let wrong : ⊥ = cc in wrong)
entered-where false false e = refl

unless-negated : (negated some every : Bool) → (some ≡ false → every ≡ true)
    → not negated && some ≡ false → negated || every ≡ true
unless-negated true some every on e = refl
unless-negated false some every on e = on e

check-passes : (s : Shape) (rows : List Row) (sub : Bool)
    → list_all (λ (a : Rule). a.is_free) s.rules ≡ true → check_fault s rows sub ≡ []
    → is_valid s rows sub ≡ true
check-passes s rows sub free e =
    let some = list_any (λ (r : Row). explicit_source r.source) rows in
    let missing = list_any (λ (a : Rule). a.required && not (is_given a.id rows)) s.rules in
    let every = list_all (λ (a : Rule). not a.required || is_given a.id rows) s.rules in
    let no =
    check_case (not sub && (s.arg_required_else_help && not some))
    (not sub && s.subcommand_required) (not (s.subcommand_negates_reqs && sub) && missing)
    e in
    also (not s.arg_required_else_help || (sub || some)) ((not s.subcommand_required || sub)
    && (list_all (λ (a : Rule). a.is_free) s.rules
    && ((s.subcommand_negates_reqs && sub) || every)))
    (helped sub s.arg_required_else_help some no.0)
    (also (not s.subcommand_required || sub) (list_all (λ (a : Rule). a.is_free) s.rules
    && ((s.subcommand_negates_reqs && sub) || every))
    (entered-where sub s.subcommand_required no.1)
    (also (list_all (λ (a : Rule). a.is_free) s.rules) ((s.subcommand_negates_reqs && sub) || every)
    free
    (unless-negated (s.subcommand_negates_reqs && sub) missing every (given-all rows s.rules)
    no.2)))

level-passes : (s : Shape) (names : Names) (h : Held) (words : List Text) (sub : Bool)
    (below : Kinds) → list_all default_passes s.rules ≡ true
    → list_all (λ (a : Rule). a.is_free) s.rules ≡ true → level_fault s names h words sub below ≡ []
    → level_passes s names h words sub ≡ true
level-passes s names h words sub below defaults free e =
    let end = (walk s.rules names h words).held in
    let settle = settle_fault s.rules s.args_override_self end in
    let by_default = defaults_fault (settled s.rules end).rows s.rules in
    let check = check_fault s (finished s.rules end) sub in
    let walking =
    neither (walk_fault s names (walk_from h) words)
    (or_else below (or_else settle (or_else by_default check))) e in
    let entering = neither below (or_else settle (or_else by_default check)) walking.1 in
    let settling = neither settle (or_else by_default check) entering.1 in
    let last = neither by_default check settling.1 in
    also (walk_passes s names (walk_from h) words) (settle_passes s.rules s.args_override_self end
    && (list_all default_passes s.rules && is_valid s (finished s.rules end) sub))
    (walk-passes s names (walk_from h) words walking.0)
    (also (settle_passes s.rules s.args_override_self end)
    (list_all default_passes s.rules && is_valid s (finished s.rules end) sub)
    (settle-passes s.rules s.args_override_self end settling.0)
    (also (list_all default_passes s.rules) (is_valid s (finished s.rules end) sub) defaults
    (check-passes s (finished s.rules end) sub free last.1)))

-- no subcommand is entered if there is none
none-entered : (a : App) (stop : Option (Text × List Text)) → a.subs ≡ []
    → entered_passes a stop ≡ true
none-entered a None e = refl
none-entered a (Some p) e = by_subs a.subs e where
  by_subs : (subs : List Shape) → subs ≡ []
      → option_map_or (λ s. level_passes s [] nothing_held p.1 false)
      (find (λ s. answers_to p.0 (label_of s)) subs) true ≡ true
  by_subs [] e = refl
  by_subs (s ∷ subs) e = absurd (let wrong : ⊥ = cc in wrong)

built-takes : (a : App) (h : Held) (words : List Text) → a.subs ≡ []
    → list_all default_passes a.top.rules ≡ true
    → list_all (λ (r : Rule). r.is_free) a.top.rules ≡ true → built_fault a h words ≡ []
    → built_takes a h words ≡ true
built-takes a h words leaf defaults free e =
    let stop = (walk a.top.rules (names_of a) h words).stopped in
    also (entered_passes a stop)
    (level_passes a.top (names_of a) h words (is_some (entered a stop)))
    (none-entered a stop leaf)
    (level-passes a.top (names_of a) h words (is_some (entered a stop)) (entered_fault a stop)
    defaults free e)

left : (a b : Bool) → a && b ≡ true → a ≡ true
left true b e = refl
left false b e = absurd (let wrong : ⊥ = cc in wrong)

right : (a b : Bool) → a && b ≡ true → b ≡ true
right true b e = e
right false b e = absurd (let wrong : ⊥ = cc in wrong)

no-shape : (xs : List Shape) → has_none xs ≡ true → xs ≡ []
no-shape [] e = refl
no-shape (x ∷ xs) e = absurd (let wrong : ⊥ = cc in wrong)

-- words without a fault are taken
pub is-taken : (a : App) (words : List Text) → is_plain a ≡ true → fault_of a words ≡ []
    → takes a words ≡ true
is-taken a words plain e =
    let free_app =
    left (is_simple_and_free a) (has_none (built a).subs
    && (list_all default_passes (built a).top.rules
    && list_all (λ r. r.is_free) (built a).top.rules)) plain in
    let rest =
    right (is_simple_and_free a) (has_none (built a).subs
    && (list_all default_passes (built a).top.rules
    && list_all (λ r. r.is_free) (built a).top.rules)) plain in
    let leaf =
    left (has_none (built a).subs) (list_all default_passes (built a).top.rules
    && list_all (λ r. r.is_free) (built a).top.rules) rest in
    let both =
    right (has_none (built a).subs) (list_all default_passes (built a).top.rules
    && list_all (λ r. r.is_free) (built a).top.rules) rest in
    also (is_simple a) (built_takes (built a) nothing_held (argument_words a words))
    (left (is_simple a) (is_free_app (built a)) free_app)
    (built-takes (built a) nothing_held (argument_words a words) (no-shape (built a).subs leaf)
    (left (list_all default_passes (built a).top.rules)
    (list_all (λ r. r.is_free) (built a).top.rules) both)
    (right (list_all default_passes (built a).top.rules)
    (list_all (λ r. r.is_free) (built a).top.rules) both) e)

-- a plain command is simple, and none of its arguments has a rule on another one
pub plain-free : (a : App) → is_plain a ≡ true → is_simple_and_free a ≡ true
plain-free a plain =
    left (is_simple_and_free a) (has_none (built a).subs
    && (list_all default_passes (built a).top.rules
    && list_all (λ r. r.is_free) (built a).top.rules)) plain

pub plain-simple : (a : App) → is_plain a ≡ true → is_simple a ≡ true
plain-simple a plain = left (is_simple a) (is_free_app (built a)) (plain-free a plain)
