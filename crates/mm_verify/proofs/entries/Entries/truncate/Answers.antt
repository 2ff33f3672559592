use Rattle.std.proofs.Common.{ap, ◌∙◌, List, ℕ, take}
use Rattle.mm_database.specs.Stack.{Saving, saving}
use Rattle.mm_verify.specs.Ranges.{pieces}
use Rattle.mm_verify.specs.declared.stack.Range.{Range}
use Rattle.mm_verify.proofs.Pieces.{pieces-take}
use Rattle.mm_verify.proofs.entries.Entries.truncate.Goals as goal

pub returns : goal.returns
returns c =
    let xs = c.self.inside.symbols.items in
    let saved = pieces xs c.self.inside.saved.items in
    ap (λ (rs : List Range). saving (pieces xs rs) saved) c.truncate.ensures.items
    ∙ ap (λ (ps : List (List ℕ)). saving ps saved)
    (pieces-take xs c.args.n c.self.inside.stack.items)
    ∙ ap (λ (w : Saving (List ℕ)). saving (take c.args.n w.stack) w.saved) c.self.view_is
