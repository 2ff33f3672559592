use Rattle.std.proofs.Common.{rules, ◌≡◌, ◌++◌, ◌∷◌, [], get_or}
use Rattle.mm_verify.specs.LongStatementView.{part_by, long_symbols}
use Rattle.mm_verify.proofs.Presence.{part-more}
use Rattle.mm_verify.proofs.present.parts_at.Goals as goal

pub loop-position-preserved : goal.loop-position-preserved
loop-position-preserved c =
    let i = c.loop-position.position-index in
    let at = get_or c.args.positions.now i 0 in
    let f = part_by c.args.statement.now.places.value in
    let symbols = long_symbols c.args.statement.now in
    let new : c.push.new.self.items ≡ c.loop-position.to.items ++ f (get_or symbols at 0) ∷ [] =
    search rules in
    part-more f symbols c.args.positions.now c.loop-position.to.items c.push.new.self.items _
    i 0 c.loop-position-test.true (c.requires i 0 c.loop-position-test.true) new
    c.loop-position.invariant
