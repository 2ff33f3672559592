use Rattle.std.proofs.Common.{rules, ap, ◌∙◌, ◌≡◌, List, ℕ}
use Rattle.mm_database.specs.Stack.{saving}
use Rattle.mm_verify.specs.Ranges.{pieces}
use Rattle.mm_verify.proofs.Pieces.{pieces-more}
use Rattle.mm_verify.proofs.entries.Entries.gather.Goals as goal

pub returns : goal.returns
returns c =
    let xs = c.moved.new.to.items in
    let zs = c.moved-2.new.to.items in
    let old = c.self.inside.symbols.items in
    let ss = c.in_ok-saved.saved.items in
    let more = c.in_ok-stack.ensures.front in
    let saved : pieces xs ss ≡ pieces old c.self.inside.saved.items = search rules in
    let stack : pieces zs c.in_ok-stack.stack.items ≡ pieces old c.self.inside.stack.items =
    search rules in
    ap (λ (ps : List (List ℕ)). saving ps (pieces zs ss)) stack
    ∙ ap (λ (ps : List (List ℕ)). saving (pieces old c.self.inside.stack.items) ps)
    (ap (λ (l : List ℕ). pieces l ss) more.1
    ∙ pieces-more xs more.0 ss c.in_ok-saved.ensures.within ∙ saved)
    ∙ c.self.view_is
