use Rattle.std.proofs.Common.{rules, ap, sym, ◌∙◌, ◌≡◌, ◌++◌, ◌∷◌, [], List, ℕ, ◌-◌, length}
use Rattle.std.specs.Prelude.{slice_get, Some}
use Rattle.mm_database.specs.Stack.{Saving, saving}
use Rattle.mm_verify.specs.Ranges.{piece, pieces}
use Rattle.mm_verify.specs.declared.stack.Range.{Range}
use Rattle.mm_verify.proofs.Pieces.{agrees, length-pieces, piece-at, pieces-append}
use Rattle.mm_verify.proofs.entries.Entries.save.Goals as goal

pub returns-in_ok-push-in-Some : goal.returns-in_ok-push-in-Some
returns-in_ok-push-in-Some c =
    let xs = c.self.inside.symbols.items in
    let rs = c.self.inside.stack.items in
    let ss = c.self.inside.saved.items in
    let r = c.in-Some.range.now in
    let old = c.args.self.now in
    let last : slice_get rs (length rs - 1) ≡ Some r = search rules in
    let saved : c.push.new.self.items ≡ ss ++ r ∷ [] = search rules in
    let is : slice_get old.stack (length old.stack - 1) ≡ Some (piece xs r) =
    ap (λ (w : Saving (List ℕ)). slice_get w.stack (length w.stack - 1)) (sym c.self.view_is)
    ∙ ap (λ (n : ℕ). slice_get (pieces xs rs) (n - 1)) (length-pieces xs rs)
    ∙ piece-at xs rs (length rs - 1) r last in
    agrees (λ (e : List ℕ). saving old.stack (old.saved ++ e ∷ [])) _ (piece xs r) _ _ is
    (ap (λ (ts : List Range). saving (pieces xs rs) (pieces xs ts)) saved
    ∙ ap (λ (ps : List (List ℕ)). saving (pieces xs rs) ps) (pieces-append xs ss (r ∷ []))
    ∙ ap (λ (w : Saving (List ℕ)). saving w.stack (w.saved ++ piece xs r ∷ [])) c.self.view_is)
