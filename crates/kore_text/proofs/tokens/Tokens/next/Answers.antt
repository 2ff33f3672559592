use Rattle.std.proofs.Common.{◌-◌, ℕ, List, take, drop, sym, ◌∙◌, subst}
use Rattle.kore_lex.specs.Unread.{Unread}
use Rattle.kore_lex.specs.Tokens.{IsToken, IsString}
use Rattle.kore_text.specs.declared.tokens.Next.{Next}
use Rattle.kore_text.specs.Remaining.{left, Comes}
use Rattle.kore_text.proofs.Cutting.{next-end, next-fault, left-token}
use Rattle.kore_text.proofs.tokens.Tokens.next.Goals.{in-Err, in-Ok+in-End, in-Ok+in_default}
use Rattle.kore_text.proofs.tokens.Tokens.next.Goals as goal

pub returns : goal.returns
unfolding left
returns c =
    let u : Unread = c.self.inside.lexer in
    let v : Unread = c.next.new.self in
    subst (λ (x : Unread). Comes c.match-next.result (left x) (left v)) c.self.view_is
    (elim c.match-next.branch [
      | in-Err w ↦
          subst (λ (x : Next). Comes x (left u) (left v)) (sym w.result-is)
          (next-fault u.text _ w.in-Err.fault (sym w.in-Err.is ∙ c.next.ensures.token))
      | in-Ok+in-End w ↦
          subst (λ (x : Next). Comes x (left u) (left v)) (sym w.result-is)
          (next-end u.text _ w.in-Ok.token (sym w.in-Ok.is ∙ c.next.ensures.token) w.in-End.is)
      | in-Ok+in_default w ↦
          subst (λ (x : Next). Comes x (left u) (left v)) (sym w.result-is) (
            left-token u v c.self.inside.text.now w.in-Ok.token
                (sym w.in-Ok.is ∙ c.next.ensures.token) w.in_default.not-End
                c.next.ensures.rest c.next.ensures.text c.self.invariant,
            w.in_default.not-End,
            subst (λ (text : List ℕ). IsToken w.in-Ok.token.kind
                (take (w.in-Ok.token.to - w.in-Ok.token.from) (drop w.in-Ok.token.from text)))
                c.self.invariant (w.in-Ok.ensures.longest w.in_default.not-End).0,
            λ k. subst (λ (text : List ℕ). IsString
                (take (w.in-Ok.token.to - w.in-Ok.token.from) (drop w.in-Ok.token.from text)))
                c.self.invariant (w.in-Ok.ensures.string k),
          )
    ])
