use Rattle.std.proofs.Common.{◌+◌, ◌∙◌, ◌++◌, ◌∷◌, [], List, sym, ap, subst, take, get_or, Option}
use Rattle.std.proofs.Common.{Bor, ℕ}
use Rattle.std.specs.Prelude.{MatchOption}
use Rattle.std.proofs.lemmas.List.{map-append}
use Rattle.mm_text.specs.Bytes.{Token}
use Rattle.pattern_reader.specs.Words.{SaysNothing, Says, AllSay}
use Rattle.pattern_reader.specs.Words as words
use Rattle.pattern_reader.specs.Readings.{texts}
use Rattle.pattern_reader.specs.Views.{words_of, word_of}
use Rattle.pattern_reader.specs.declared.words.Word.{Word}
use Rattle.pattern_reader.proofs.Keeping.{among, said-next, kept_twice}
use Rattle.pattern_reader.proofs.Keeping.{gains-next}
use Rattle.pattern_reader.proofs.words.all_said.Goals as goal

-- what is read past the end of the tokens
abbrev nowhere : Bor Token
nowhere = record { ref_ptr = (0, 0); now = [] }

pub returns-in-None-clause-words : goal.returns-in-None-clause-words
returns-in-None-clause-words c =
    let t : Token = (get_or c.args.tokens.now c.loop-token.token-index nowhere).now in
    let says : Word → Type 0 = λ w. Says c.said.new.names t (word_of w) in (
      t,
      among c.args.tokens.now c.loop-token.token-index nowhere c.loop-token-test.true,
      subst (λ (o : Option Word). MatchOption o (SaysNothing t) says) c.in-None.is
          c.in_ok-word.ensures.word,
    )

pub loop-token-preserved : goal.loop-token-preserved
loop-token-preserved c =
    let i : ℕ = c.loop-token.token-index in
    let t : Token = (get_or c.args.tokens.now i nowhere).now in
    let says : Word → Type 0 = λ w. Says c.said.new.names t (word_of w) in
    let one : Says c.said.new.names t (word_of c.in-Some.word) =
    subst (λ (o : Option Word). MatchOption o (SaysNothing t) says) c.in-Some.is
    c.in_ok-word.ensures.word in
    let ws : List words.Word = words_of c.loop-token.words.items in
    let more : AllSay c.said.new.names (texts (take (i + 1) c.args.tokens.now))
    (ws ++ word_of c.in-Some.word ∷ []) =
    said-next c.loop-token.names c.said.new.names c.args.tokens.now i nowhere ws
    (word_of c.in-Some.word) c.loop-token-test.true c.in_ok-word.ensures.names
    c.loop-token.invariant.0 one in (
      subst (λ (us : List words.Word). AllSay c.said.new.names
          (texts (take (i + 1) c.args.tokens.now)) us)
          (sym (ap words_of c.in_ok-push-in-Some.ensures.items
          ∙ map-append word_of c.loop-token.words.items (c.in-Some.word ∷ []))) more,
      kept_twice c.args.names.now c.loop-token.names c.said.new.names c.loop-token.invariant.1
          c.in_ok-word.ensures.names,
      gains-next c.args.tokens.now i nowhere c.args.names.now c.loop-token.names
          c.said.new.names c.loop-token-test.true c.loop-token.invariant.2
          c.in_ok-word.ensures.gained,
    )

pub returns-in_err-word-clause-gained : goal.returns-in_err-word-clause-gained
returns-in_err-word-clause-gained c =
    gains-next c.args.tokens.now c.loop-token.token-index nowhere c.args.names.now
    c.loop-token.names c.said.new.names c.loop-token-test.true c.loop-token.invariant.2
    c.in_err-word.ensures.gained

pub returns-in_err-push-in-Some-clause-gained : goal.returns-in_err-push-in-Some-clause-gained
returns-in_err-push-in-Some-clause-gained c =
    gains-next c.args.tokens.now c.loop-token.token-index nowhere c.args.names.now
    c.loop-token.names c.said.new.names c.loop-token-test.true c.loop-token.invariant.2
    c.in_ok-word.ensures.gained

pub returns-in-None-clause-gained : goal.returns-in-None-clause-gained
returns-in-None-clause-gained c =
    gains-next c.args.tokens.now c.loop-token.token-index nowhere c.args.names.now
    c.loop-token.names c.said.new.names c.loop-token-test.true c.loop-token.invariant.2
    c.in_ok-word.ensures.gained
