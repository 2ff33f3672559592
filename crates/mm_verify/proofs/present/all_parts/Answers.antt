use Rattle.std.proofs.Common.{rules, ◌≡◌, ◌++◌, ◌∷◌, [], get_or}
use Rattle.mm_verify.specs.LongStatementView.{part_by, long_symbols}
use Rattle.mm_verify.proofs.Presence.{all-more}
use Rattle.mm_verify.proofs.present.all_parts.Goals as goal

pub loop-position-preserved : goal.loop-position-preserved
loop-position-preserved c =
    let f = part_by c.args.statement.now.places.value in
    let symbols = long_symbols c.args.statement.now in
    let i = c.loop-position.position in
    let new : c.push.new.self.items ≡ c.loop-position.to.items ++ f (get_or symbols i 0) ∷ [] =
    search rules in
    all-more f symbols c.loop-position.to.items c.push.new.self.items i
    (search rules) new c.loop-position.invariant
