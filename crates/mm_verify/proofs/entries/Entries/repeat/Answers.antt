use Rattle.std.proofs.Common.{rules, ap, sym, ◌∙◌, ◌≡◌, ◌++◌, ◌∷◌, [], List, ℕ}
use Rattle.std.specs.Prelude.{slice_get, Some}
use Rattle.mm_database.specs.Stack.{Saving, saving}
use Rattle.mm_verify.specs.Ranges.{piece, pieces}
use Rattle.mm_verify.specs.declared.stack.Range.{Range}
use Rattle.mm_verify.proofs.Pieces.{agrees, piece-at, pieces-append}
use Rattle.mm_verify.proofs.entries.Entries.repeat.Goals as goal

pub returns-in_ok-push-in-Some : goal.returns-in_ok-push-in-Some
returns-in_ok-push-in-Some c =
    let xs = c.self.inside.symbols.items in
    let rs = c.self.inside.stack.items in
    let ss = c.self.inside.saved.items in
    let r = c.in-Some.range in
    let old = c.args.self.now in
    let found : slice_get ss c.args.number ≡ Some r = search rules in
    let stack : c.push.new.self.items ≡ rs ++ r ∷ [] = search rules in
    let is : slice_get old.saved c.args.number ≡ Some (piece xs r) =
    ap (λ (w : Saving (List ℕ)). slice_get w.saved c.args.number) (sym c.self.view_is)
    ∙ piece-at xs ss c.args.number r found in
    agrees (λ (e : List ℕ). saving (old.stack ++ e ∷ []) old.saved) _ (piece xs r) _ _ is
    (ap (λ (ts : List Range). saving (pieces xs ts) (pieces xs ss)) stack
    ∙ ap (λ (ps : List (List ℕ)). saving ps (pieces xs ss)) (pieces-append xs rs (r ∷ []))
    ∙ ap (λ (w : Saving (List ℕ)). saving (w.stack ++ piece xs r ∷ []) w.saved) c.self.view_is)
