use Rattle.std.proofs.Common.{rules, ap, ◌∙◌, ◌≡◌, ◌++◌, ◌∷◌, [], List, ℕ, length}
use Rattle.mm_database.specs.Stack.{Saving, saving}
use Rattle.mm_verify.specs.Ranges.{pieces}
use Rattle.mm_verify.specs.declared.stack.Range.{Range}
use Rattle.mm_verify.proofs.Pieces.{pieces-push, pieces-more}
use Rattle.mm_verify.proofs.entries.Entries.push.Goals as goal

pub returns : goal.returns
returns c =
    let xs = c.self.inside.symbols.items in
    let ys = c.args.expression.now in
    let rs = c.self.inside.stack.items in
    let ss = c.self.inside.saved.items in
    let r = c.in_ok-range.range in
    let symbols : c.append.new.to.items ≡ xs ++ ys = search rules in
    let stack : c.push.new.self.items ≡ rs ++ r ∷ [] = search rules in
    let from : r.from ≡ length xs = search rules in
    let to : r.to ≡ length (xs ++ ys) = search rules in
    ap (λ (zs : List ℕ). saving (pieces zs c.push.new.self.items) (pieces zs ss)) symbols
    ∙ ap (λ (ts : List Range). saving (pieces (xs ++ ys) ts) (pieces (xs ++ ys) ss)) stack
    ∙ ap (λ (ps : List (List ℕ)). saving ps (pieces (xs ++ ys) ss))
    (pieces-push xs ys rs r c.self.invariant.stack from to)
    ∙ ap (λ (ps : List (List ℕ)). saving (pieces xs rs ++ ys ∷ []) ps)
    (pieces-more xs ys ss c.self.invariant.saved)
    ∙ ap (λ (w : Saving (List ℕ)). saving (w.stack ++ ys ∷ []) w.saved) c.self.view_is
