use Rattle.std.proofs.Common.{rules, ◌≡◌, ◌∙◌, ap, List, ℕ, ◌++◌, ◌∷◌, [], ◌-◌, length, take, vec_len}
use Rattle.mm_check.proofs.LineLaws.{line_ended}
use Rattle.mm_check.proofs.lines.push_line.Goals as goal

pub returns : goal.returns
returns c =
    let text : List ℕ = c.push_text.new.to.items in
    let size : vec_len c.push_text.new.to ≡ length text = search rules in
    c.in_ok-push.ensures.items
    ∙ ap (λ (bytes : List ℕ). bytes ++ 10 ∷ []) c.pop.ensures.rest
    ∙ ap (λ (k : ℕ). take (k - 1) text ++ 10 ∷ []) size
    ∙ line_ended c.args.lines.now.items text c.args.names.now c.args.pattern.now c.requires.names
    c.requires.closed c.in_ok-push_text.ensures
