use Rattle.std.proofs.Common.{rules, arith, ◌≡◌, ◌<◌, ◌+◌, ◌*◌, ◌++◌, ◌∷◌, [], get_or, map, ap, ◌∙◌}
use Rattle.std.proofs.Common.{sym, subst, List, ℕ}
use Rattle.std.specs.Prelude.{All}
use Rattle.std.proofs.lemmas.List.Elements.{All-push}
use Rattle.std.proofs.lemmas.Nat.{mod-mul-add}
use Rattle.mm_frame.specs.PlainFrames.{has_number}
use Rattle.mm_frame.specs.Spots.{IsSpot, position_at}
use Rattle.mm_frame.proofs.Spotting.{spot-is, positions-more}
use Rattle.mm_frame.proofs.expression.all_spots.Goals as goal

pub loop-position-preserved : goal.loop-position-preserved
loop-position-preserved c =
    let i = c.loop-position.position in
    let small : i < 4294967296 = omega arith in
    let spot : ℕ = get_or c.args.symbols.now i 0 * 4294967296 + i in
    let items : c.push.new.self.items ≡ c.loop-position.spots.items ++ spot ∷ [] = search rules in
    record {
      each =
          subst (λ (l : List ℕ). All (IsSpot c.args.symbols.now) l) (sym items)
          (All-push (IsSpot c.args.symbols.now) c.loop-position.spots.items spot
          c.loop-position.invariant.each (spot-is c.args.symbols.now i 0
          c.loop-position-test.true small));
      all =
          λ k lt. ap (λ (l : List ℕ). has_number (map position_at l) k) items
          ∙ positions-more c.loop-position.spots.items spot i (mod-mul-add _ 4294967296 i small)
          c.loop-position.invariant.all k lt;
    }
