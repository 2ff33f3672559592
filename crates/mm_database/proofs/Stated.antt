-- What appended texts state.
use Rattle.std.proofs.Common.{◌≡◌, ℕ, ◌+◌, true, List, ◌++◌, length, refl, ap, ◌∙◌, sym, arith}
use Rattle.std.specs.Prelude.{Option, Some, None}
use Rattle.mm_text.specs.Statements.{Statements, no_statement, unended, bad_statement}
use Rattle.mm_text.specs.Statements.{next_statement, statements_from, statements_of}
use Rattle.mm_text.specs.TextLaws.{end_well, followed_by}
use Rattle.mm_text.proofs.Appending.{appended_text}
use Rattle.mm_database.specs.Forms.{form_of}
use Rattle.mm_database.specs.Frames.{Hypothesis}
use Rattle.mm_database.specs.Database.{Context, empty_context, context_after}
use Rattle.mm_database.specs.Assertions.{Assertion, form_assertion, with_assertion_first}
use Rattle.mm_database.specs.Assertions.{assertions_in, form_typing, with_typing_first, typings_in}
use Rattle.mm_database.specs.Validity.{HaveNoFault}
use Rattle.mm_database.specs.FrameLaws.{AppendedStates}
use Rattle.mm_database.proofs.Texts.{end_well-HaveNoFault}

first-append : (a : Option Assertion) (xs ys : List Assertion)
    → with_assertion_first a (xs ++ ys) ≡ with_assertion_first a xs ++ ys
first-append None xs ys = refl
first-append (Some a) xs ys = refl

typing-append : (h : Option Hypothesis) (xs ys : List Hypothesis)
    → with_typing_first h (xs ++ ys) ≡ with_typing_first h xs ++ ys
typing-append None xs ys = refl
typing-append (Some h) xs ys = refl

pub assertions_in-followed : (c left : Context) (statements more : Statements)
    → HaveNoFault c statements left
    → assertions_in c (followed_by statements more)
    ≡ assertions_in c statements ++ assertions_in left more
assertions_in-followed c left no_statement more same = ap (λ d. assertions_in d more) (sym same)
assertions_in-followed c left (unended at) more h = absurd h
assertions_in-followed c left (bad_statement f) more h = absurd h
assertions_in-followed c left (next_statement s statements) more fine =
    ap (with_assertion_first (form_assertion c (form_of s.tokens)))
    (assertions_in-followed (context_after c s) left statements more fine.1)
    ∙ first-append (form_assertion c (form_of s.tokens))
    (assertions_in (context_after c s) statements) (assertions_in left more)

pub typings_in-followed : (statements more : Statements) → end_well statements ≡ true
    → typings_in (followed_by statements more) ≡ typings_in statements ++ typings_in more
typings_in-followed no_statement more h = refl
typings_in-followed (unended at) more h = absurd (cc)
typings_in-followed (bad_statement f) more h = absurd (cc)
typings_in-followed (next_statement s statements) more h =
    ap (with_typing_first (form_typing (form_of s.tokens))) (typings_in-followed statements more h)
    ∙ typing-append (form_typing (form_of s.tokens)) (typings_in statements) (typings_in more)

pub appended_states : AppendedStates
appended_states text more left ends fine =
    let well : end_well (statements_of text) ≡ true =
    end_well-HaveNoFault empty_context left (statements_of text) fine in
    let place : 0 + length text ≡ length text = omega arith in
    let read : statements_of (text ++ more) ≡ followed_by (statements_of text)
    (statements_from (length text) more) =
    appended_text 0 text more ends well
    ∙ ap (λ (n : ℕ). followed_by (statements_of text) (statements_from n more)) place in (
      ap (assertions_in empty_context) read
          ∙ assertions_in-followed empty_context left (statements_of text)
          (statements_from (length text) more) fine,
      ap typings_in read
          ∙ typings_in-followed (statements_of text) (statements_from (length text) more) well,
    )
