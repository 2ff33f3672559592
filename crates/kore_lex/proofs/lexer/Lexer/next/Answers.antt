use Rattle.std.proofs.Common.{◌≡◌, ◌∙◌, sym, ap, arith, ℕ, List, length}
use Rattle.kore_lex.specs.Unread.{head, tail}
use Rattle.kore_lex.specs.Pieces.{piece}
use Rattle.kore_lex.proofs.Lexing.{end-step, gap-step, whole-step, bad-step, is-token}
use Rattle.kore_lex.specs.declared.lexer.TokenKind.TheVariants.{End}
use Rattle.kore_lex.proofs.Longest.{token-longest}
use Rattle.kore_lex.proofs.StringLaws.{token-string}
use Rattle.kore_lex.proofs.lexer.Lexer.next.Goals as goal

pub returns-in-Nothing-clause-token : goal.returns-in-Nothing-clause-token
returns-in-Nothing-clause-token c =
    let e = end-step _ _ (c.in-Nothing.ensures ∙ ap piece c.behind.ensures) in
    is-token End _ _ _ c.token_at.ensures.kind c.token_at.ensures.from
    (c.token_at.ensures.to ∙ omega arith) ∙ ap head (sym e ∙ c.loop-len.invariant.same)

pub returns-in-Nothing-clause-rest : goal.returns-in-Nothing-clause-rest
returns-in-Nothing-clause-rest c =
    let e = end-step _ _ (c.in-Nothing.ensures ∙ ap piece c.behind.ensures) in
    e ∙ ap tail (sym e ∙ c.loop-len.invariant.same)

pub overflow_add-self : goal.overflow_add-self
overflow_add-self c =
    let s =
    gap-step _ _ _ c.loop-len.invariant.within (c.in-Gap.ensures ∙ ap piece c.behind.ensures) in
    omega (arith, s, c.loop-len.invariant.small)

pub loop-len-smaller : goal.loop-len-smaller
loop-len-smaller c =
    let s =
    gap-step _ _ _ c.loop-len.invariant.within (c.in-Gap.ensures ∙ ap piece c.behind.ensures) in
    omega (arith, s, c.loop-len.invariant.small)

pub loop-len-preserved : goal.loop-len-preserved
loop-len-preserved c =
    let s =
    gap-step _ _ _ c.loop-len.invariant.within (c.in-Gap.ensures ∙ ap piece c.behind.ensures) in
    record {
      same = s.2 ∙ c.loop-len.invariant.same;
      text = c.loop-len.invariant.text;
      within = s.1;
      small = c.loop-len.invariant.small;
    }

pub token_at-token-requires : goal.token_at-token-requires
token_at-token-requires c =
    let s =
    whole-step _ _ _ _ c.loop-len.invariant.within
    (c.in-Whole.ensures ∙ ap piece c.behind.ensures) in
    omega (arith, s.0, c.loop-len.invariant.small)

pub invariant_of-self-in-Whole : goal.invariant_of-self-in-Whole
invariant_of-self-in-Whole c =
    let s =
    whole-step _ _ _ _ c.loop-len.invariant.within
    (c.in-Whole.ensures ∙ ap piece c.behind.ensures) in
    (s.0, c.loop-len.invariant.small)

pub returns-in-Whole-clause-token : goal.returns-in-Whole-clause-token
returns-in-Whole-clause-token c =
    let s =
    whole-step _ _ _ _ c.loop-len.invariant.within
    (c.in-Whole.ensures ∙ ap piece c.behind.ensures) in
    is-token _ _ _ _ c.token_at-token.ensures.kind c.token_at-token.ensures.from
    c.token_at-token.ensures.to ∙ ap head (sym s.1 ∙ c.loop-len.invariant.same)

pub returns-in-Whole-clause-rest : goal.returns-in-Whole-clause-rest
returns-in-Whole-clause-rest c =
    let s =
    whole-step _ _ _ _ c.loop-len.invariant.within
    (c.in-Whole.ensures ∙ ap piece c.behind.ensures) in
    ap tail (sym s.1 ∙ c.loop-len.invariant.same)

pub overflow_add-result : goal.overflow_add-result
overflow_add-result c =
    let s =
    bad-step _ _ _ c.loop-len.invariant.within (c.in-Bad.ensures ∙ ap piece c.behind.ensures) in
    omega (arith, s, c.loop-len.invariant.small)

pub overflow_cast-result : goal.overflow_cast-result
overflow_cast-result c =
    let s =
    bad-step _ _ _ c.loop-len.invariant.within (c.in-Bad.ensures ∙ ap piece c.behind.ensures) in
    omega (arith, s, c.loop-len.invariant.small)

pub returns-in-Bad-clause-token : goal.returns-in-Bad-clause-token
returns-in-Bad-clause-token c =
    let s =
    bad-step _ _ _ c.loop-len.invariant.within (c.in-Bad.ensures ∙ ap piece c.behind.ensures) in
    ap head (sym s.1 ∙ c.loop-len.invariant.same)

pub returns-in-Bad-clause-rest : goal.returns-in-Bad-clause-rest
returns-in-Bad-clause-rest c =
    let s =
    bad-step _ _ _ c.loop-len.invariant.within (c.in-Bad.ensures ∙ ap piece c.behind.ensures) in
    s.1 ∙ ap tail (sym s.1 ∙ c.loop-len.invariant.same)

pub returns-in-Whole-clause-string : goal.returns-in-Whole-clause-string
returns-in-Whole-clause-string c =
    token-string _ _ _ _ _ c.token_at-token.result (c.in-Whole.ensures ∙ ap piece c.behind.ensures)
    c.loop-len.invariant.text
    c.token_at-token.ensures.kind c.token_at-token.ensures.from c.token_at-token.ensures.to

pub returns-in-Nothing-clause-longest : goal.returns-in-Nothing-clause-longest
returns-in-Nothing-clause-longest c = λ h. absurd (h c.token_at.ensures.kind)

pub returns-in-Whole-clause-longest : goal.returns-in-Whole-clause-longest
returns-in-Whole-clause-longest c = λ h.
    token-longest _ _ _ _ _ c.token_at-token.result (c.in-Whole.ensures ∙ ap piece c.behind.ensures)
    c.loop-len.invariant.text
    c.token_at-token.ensures.kind c.token_at-token.ensures.from c.token_at-token.ensures.to

pub returns-in-Whole-clause-within : goal.returns-in-Whole-clause-within
returns-in-Whole-clause-within c =
    let s =
    whole-step _ _ _ _ c.loop-len.invariant.within
    (c.in-Whole.ensures ∙ ap piece c.behind.ensures) in
    let e : length c.loop-len.self-inside.text.now ≡ length c.args.self.now.text =
    ap (λ (t : List ℕ). length t) c.loop-len.invariant.text in (
      omega (arith, c.token_at-token.ensures.from, c.token_at-token.ensures.to),
      omega (arith, s.0, e, c.token_at-token.ensures.to),
    )
