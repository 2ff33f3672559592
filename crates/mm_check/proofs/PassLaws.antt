-- What is found in a valid database after some of its statements.
use Rattle.std.proofs.Common.{◌≡◌, ℕ, List, [], ◌∷◌, ◌++◌, length, refl, ap, sym, ◌∙◌, subst, inl}
use Rattle.std.proofs.Common.{inr}
use Rattle.std.proofs.Common.{append_assoc}
use Rattle.std.specs.Prelude.{Option, Some, None, Result, Ok, Err}
use Rattle.std.specs.Borrow.{Bor}
use Rattle.std.specs.Global.{Vec}
use Rattle.std.proofs.lemmas.List.{append-nil}
use Rattle.mm_text.specs.Bytes.{Token}
use Rattle.mm_text.specs.Statements.{Statement, Statements, no_statement, unended, bad_statement}
use Rattle.mm_text.specs.Statements.{next_statement, statements_of, statements_in, between}
use Rattle.mm_text.specs.Reader.{statements_left, statement_of}
use Rattle.mm_text.specs.Tokens.{tokens_from}
use Rattle.mm_text.specs.Next.{left}
use Rattle.mm_text.specs.declared.fault.MmFault.{MmFault}
use Rattle.mm_text.specs.declared.tokens.MmToken.{MmToken}
use Rattle.mm_text.specs.declared.tokens.MmTokens.{MmTokens}
use Rattle.mm_database.specs.Forms.{form_of}
use Rattle.mm_database.specs.Database.{Context, empty_context, context_after}
use Rattle.mm_database.specs.Assertions.{Assertion, form_assertion, form_typing, assertions_in}
use Rattle.mm_database.specs.Assertions.{assertions_of, typings_in, with_assertion_first}
use Rattle.mm_database.specs.Orderly.{IsOrderly, EmptyIsOrderly, OrderlyAfter}
use Rattle.mm_database.specs.Validity.{IsValid, HasNoFault, HaveNoFault}
use Rattle.mm_scope.specs.ScopeState.{ScopeState}
use Rattle.mm_scope.specs.Standing.{Stands}
use Rattle.rule_core.specs.Theories.{RewriteTheory}
use Rattle.mm_justify.specs.Justifying.{AreTypings, AreAllowed, HasOnlyAxiomsOf}
use Rattle.mm_check.specs.PlainStatements.{AreAscii}
use Rattle.mm_check.specs.Offences.{TypesWell, AssumesWell, IsFirstOffending, last_among}
use Rattle.mm_check.specs.Offences.{last_assertion_at, at_assertion}
use Rattle.mm_check.specs.Passing.{MayStep, StepsTo, IsNoted, IsProven, IsLast, IsLastWith}
use Rattle.mm_check.specs.Passing.{place_of}
use Rattle.mm_check.specs.Passing.{Passes}
use Rattle.mm_check.specs.declared.ends.CheckEnd.{CheckEnd}
use Rattle.mm_check.specs.declared.ends.CheckEnd.TheVariants.{Invalid, Unjustified, Memory}
use Rattle.mm_check.specs.declared.ends.Offence.{Offence}
use Rattle.mm_check.specs.declared.notes.Last.{Last}
use Rattle.mm_check.specs.declared.notes.Noted.{Noted}
use Rattle.mm_check.specs.declared.notes.Noted.TheVariants.{Other, Stated}
use Rattle.mm_check.proofs.AsciiTexts.{text_ascii}
use Rattle.mm_check.proofs.Offending.{allowed_first, typed_first}

-- At a context, these statements of a text are left, and this is the last assertion before them. If
-- the statements that are left are as they should be, then all are; and if one of them is the first
-- that offends, then it is so in the text.
pub record Found (theory : RewriteTheory) (bytes : List ℕ) (c : Context) (ss : Statements)
    (last : Option Last) : Type 0 where
  pub before : List Assertion
  pub assertions : assertions_of bytes ≡ before ++ assertions_in c ss
  pub is_last : IsLast before last
  pub place : last_assertion_at bytes ≡ last_among c ss (place_of last (length bytes))
  pub only : AreAllowed theory (assertions_in c ss) → AreTypings (typings_in ss)
      → HasOnlyAxiomsOf theory bytes
  pub first : (o : Offence) (at : ℕ) → IsFirstOffending theory c ss o at
      → IsFirstOffending theory empty_context (statements_of bytes) o at

-- The reader has read the statements that the scopes have taken, and has the others. The second
-- theory is that of the axioms by which statements are judged.
pub record IsPassing (theory judged : RewriteTheory) (bytes : List ℕ) (reader : MmTokens)
    (h : ScopeState) (last : Option Last) : Type 0 where
  pub text : reader.bytes.now ≡ bytes
  pub same : judged ≡ theory
  pub context : Context
  pub left : Context
  pub stands : Stands h context
  pub orderly : IsOrderly context
  pub fine : HaveNoFault context (statements_left reader) left
  pub ascii : AreAscii (statements_left reader)
  pub found : Found theory bytes context (statements_left reader) last

-- ---- the start

found_start : (theory : RewriteTheory) (bytes : List ℕ)
    → Found theory bytes empty_context (statements_of bytes) None
found_start theory bytes = record {
  before = [];
  assertions = refl;
  is_last = refl;
  place = refl;
  only = λ allowed typed. record { axioms = allowed; types = typed };
  first = λ o at h. h;
}

pub passing_start : EmptyIsOrderly → (theory judged : RewriteTheory) (bytes : List ℕ)
    (reader : MmTokens) (h : ScopeState) → judged ≡ theory → IsValid bytes
    → reader.bytes.now ≡ bytes → left reader ≡ tokens_from 0 bytes → Stands h empty_context
    → IsPassing theory judged bytes reader h None
passing_start empty theory judged bytes reader h same valid text all stands =
    let every : statements_left reader ≡ statements_of bytes = ap (statements_in between) all in
    record {
      text = text;
      same = same;
      context = empty_context;
      left = valid.left;
      stands = stands;
      orderly = empty;
      fine = subst (λ (ss : Statements). HaveNoFault empty_context ss valid.left) (sym every)
          valid.fine;
      ascii = subst AreAscii (sym every) (text_ascii bytes);
      found = subst (λ (ss : Statements). Found theory bytes empty_context ss None) (sym every)
          (found_start theory bytes);
    }

-- ---- one more statement

-- some assertions, and perhaps one more
abbrev and_next : List Assertion → Option Assertion → List Assertion
and_next xs None = xs
and_next xs (Some a) = xs ++ a ∷ []

with_next : (xs : List Assertion) (o : Option Assertion) (rest : List Assertion)
    → xs ++ with_assertion_first o rest ≡ and_next xs o ++ rest
with_next xs None rest = refl
with_next xs (Some a) rest = sym (append_assoc xs (a ∷ []) rest)

last_next : (c : Context) (s : Statement) (tokens : List MmToken) (xs : List Assertion)
    (last new : Option Last) (noted : Noted) → IsLast xs last → IsNoted c s noted
    → IsLastWith last noted tokens new
    → IsLast (and_next xs (form_assertion c (form_of s.tokens))) new
last_next c s tokens xs last new Other is_last notes with =
    subst (λ (o : Option Assertion). IsLast (and_next xs o) new) (sym notes)
    (subst (IsLast xs) (sym with) is_last)
last_next c s tokens xs last new (Stated ws) is_last (a, is, proven) (l, now, same, at) =
    subst (λ (o : Option Assertion). IsLast (and_next xs o) new) (sym is)
    (subst (IsLast (xs ++ a ∷ [])) (sym now)
    (xs, a, refl, subst (λ (o : Option (Vec (Bor Token))). IsProven a o) (sym same) proven))

place_next : (c : Context) (bytes : List ℕ) (tokens : List MmToken) (last new : Option Last)
    (noted : Noted) (end : ℕ) → IsNoted c (statement_of bytes tokens) noted
    → IsLastWith last noted tokens new
    → at_assertion (form_assertion c (form_of (statement_of bytes tokens).tokens))
    (statement_of bytes tokens).at (place_of last end) ≡ place_of new end
place_next c bytes tokens last new Other end notes with =
    ap (λ (o : Option Assertion). at_assertion o (statement_of bytes tokens).at (place_of last end))
    notes
    ∙ sym (ap (λ (l : Option Last). place_of l end) with)
place_next c bytes tokens last new (Stated ws) end (a, is, proven) (l, now, same, at) =
    ap (λ (o : Option Assertion). at_assertion o (statement_of bytes tokens).at (place_of last end))
    is
    ∙ (sym (at bytes) ∙ sym (ap (λ (l : Option Last). place_of l end) now))

found_next : (theory : RewriteTheory) (bytes : List ℕ) (c : Context) (tokens : List MmToken)
    (ss : Statements) (last new : Option Last) (noted : Noted)
    → Found theory bytes c (next_statement (statement_of bytes tokens) ss) last
    → TypesWell (statement_of bytes tokens) → AssumesWell theory c (statement_of bytes tokens)
    → IsNoted c (statement_of bytes tokens) noted → IsLastWith last noted tokens new
    → Found theory bytes (context_after c (statement_of bytes tokens)) ss new
found_next theory bytes c tokens ss last new noted f types states notes with =
    record {
      before = and_next f.before (form_assertion c (form_of (statement_of bytes tokens).tokens));
      assertions = f.assertions
          ∙ with_next f.before (form_assertion c (form_of (statement_of bytes tokens).tokens))
          (assertions_in (context_after c (statement_of bytes tokens)) ss);
      is_last =
          last_next c (statement_of bytes tokens) tokens f.before last new noted f.is_last notes
          with;
      place = f.place
          ∙ ap (last_among (context_after c (statement_of bytes tokens)) ss)
          (place_next c bytes tokens last new noted (length bytes) notes with);
      only = λ allowed typed.
          f.only (allowed_first theory
          (form_assertion c (form_of (statement_of bytes tokens).tokens))
          (assertions_in (context_after c (statement_of bytes tokens)) ss) states allowed)
          (typed_first (form_typing (form_of (statement_of bytes tokens).tokens)) (typings_in ss)
          types
          typed);
      first = λ o at later. f.first o at (inr (types, states, later));
    }

-- the statement that the reader found is the next one of the text
next_of : (theory judged : RewriteTheory) (bytes : List ℕ) (old new : MmTokens) (h : ScopeState)
    (last : Option Last) (tokens : List MmToken) → IsPassing theory judged bytes old h last
    → statements_left old ≡ next_statement (statement_of old.bytes.now tokens) (statements_left new)
    → statements_left old ≡ next_statement (statement_of bytes tokens) (statements_left new)
next_of theory judged bytes old new h last tokens p found =
    found
    ∙ ap (λ (b : List ℕ). next_statement (statement_of b tokens) (statements_left new)) p.text

pub may_step : (theory judged : RewriteTheory) (bytes : List ℕ) (old new : MmTokens)
    (h : ScopeState) (last : Option Last) (tokens : List MmToken)
    → IsPassing theory judged bytes old h last
    → statements_left old ≡ next_statement (statement_of old.bytes.now tokens) (statements_left new)
    → MayStep h (statement_of bytes tokens)
may_step theory judged bytes old new h last tokens p found =
    let next = next_of theory judged bytes old new h last tokens p found in
    record {
      context = p.context;
      stands = p.stands;
      orderly = p.orderly;
      fine = (subst (λ (ss : Statements). HaveNoFault p.context ss p.left) next p.fine).0;
      ascii = (subst AreAscii next p.ascii).0;
    }

-- what a step does at each context for which the scopes stand
abbrev pub Stepping : RewriteTheory → ScopeState → ScopeState → Statement → Result Noted CheckEnd
    → Type 0
Stepping judged old new s r =
    (c : Context) → Stands old c → IsOrderly c → HasNoFault c s.tokens → StepsTo judged c s new r

stepped : (theory judged : RewriteTheory) (bytes : List ℕ) (old new : MmTokens)
    (h g : ScopeState) (last : Option Last) (tokens : List MmToken) (r : Result Noted CheckEnd)
    (p : IsPassing theory judged bytes old h last)
    → statements_left old ≡ next_statement (statement_of old.bytes.now tokens) (statements_left new)
    → Stepping judged h g (statement_of bytes tokens) r
    → StepsTo theory p.context (statement_of bytes tokens) g r
stepped theory judged bytes old new h g last tokens r p found steps =
    let next = next_of theory judged bytes old new h last tokens p found in
    subst (λ (t : RewriteTheory). StepsTo t p.context (statement_of bytes tokens) g r) p.same
    (steps p.context p.stands p.orderly
    (subst (λ (ss : Statements). HaveNoFault p.context ss p.left) next p.fine).0)

pub passing_next : OrderlyAfter → (theory judged after : RewriteTheory) (bytes : List ℕ)
    (old new : MmTokens) (h g : ScopeState) (last last' : Option Last) (tokens : List MmToken)
    (noted : Noted) → IsPassing theory judged bytes old h last → after ≡ judged
    → new.bytes.now ≡ old.bytes.now
    → statements_left old ≡ next_statement (statement_of old.bytes.now tokens) (statements_left new)
    → Stepping judged h g (statement_of bytes tokens) (Ok noted)
    → IsLastWith last noted tokens last' → IsPassing theory after bytes new g last'
passing_next orderly theory judged after bytes old new h g last last' tokens noted p same text found
    steps with =
    let next = next_of theory judged bytes old new h last tokens p found in
    let fine = subst (λ (ss : Statements). HaveNoFault p.context ss p.left) next p.fine in
    let here = stepped theory judged bytes old new h g last tokens (Ok noted) p found steps in
    record {
      text = text ∙ p.text;
      same = same ∙ p.same;
      context = context_after p.context (statement_of bytes tokens);
      left = p.left;
      stands = here.3;
      orderly = orderly p.context (statement_of bytes tokens) p.orderly fine.0;
      fine = fine.1;
      ascii = (subst AreAscii next p.ascii).1;
      found = found_next theory bytes p.context tokens (statements_left new) last last' noted
          (subst (λ (ss : Statements). Found theory bytes p.context ss last) next p.found)
          here.0 here.1 here.2 with;
    }

-- ---- the ends

pub never_bad : (theory judged : RewriteTheory) (bytes : List ℕ) (reader : MmTokens)
    (h : ScopeState) (last : Option Last) (f : MmFault)
    → IsPassing theory judged bytes reader h last → statements_left reader ≡ bad_statement f → ⊥
never_bad theory judged bytes reader h last f p found =
    subst (λ (ss : Statements). HaveNoFault p.context ss p.left) found p.fine

pub never_unended : (theory judged : RewriteTheory) (bytes : List ℕ) (reader : MmTokens)
    (h : ScopeState) (last : Option Last) (at : ℕ)
    → IsPassing theory judged bytes reader h last → statements_left reader ≡ unended at → ⊥
never_unended theory judged bytes reader h last at p found =
    subst (λ (ss : Statements). HaveNoFault p.context ss p.left) found p.fine

pub passed : (theory judged : RewriteTheory) (bytes : List ℕ) (reader : MmTokens)
    (h : ScopeState) (last : Option Last) → IsPassing theory judged bytes reader h last
    → statements_left reader ≡ no_statement → Passes theory bytes (Ok last)
passed theory judged bytes reader h last p ends =
    let f = subst (λ (ss : Statements). Found theory bytes p.context ss last) ends p.found in (
      f.only tt tt,
      subst (λ (xs : List Assertion). IsLast xs last) (sym (f.assertions ∙ append-nil f.before))
          f.is_last,
      f.place,
    )

pub ended_by_step : (theory judged : RewriteTheory) (bytes : List ℕ) (old new : MmTokens)
    (h g : ScopeState) (last : Option Last) (tokens : List MmToken) (end : CheckEnd)
    → IsPassing theory judged bytes old h last
    → statements_left old ≡ next_statement (statement_of old.bytes.now tokens) (statements_left new)
    → Stepping judged h g (statement_of bytes tokens) (Err end) → Passes theory bytes (Err end)
ended_by_step theory judged bytes old new h g last tokens Memory p found steps = tt
ended_by_step theory judged bytes old new h g last tokens (Invalid f) p found steps =
    absurd (stepped theory judged bytes old new h g last tokens (Err (Invalid f)) p found steps)
ended_by_step theory judged bytes old new h g last tokens (Unjustified offence at) p found steps =
    let next = next_of theory judged bytes old new h last tokens p found in
    let f = subst (λ (ss : Statements). Found theory bytes p.context ss last) next p.found in
    f.first offence at
    (inl (stepped theory judged bytes old new h g last tokens (Err (Unjustified offence at)) p found
    steps))
