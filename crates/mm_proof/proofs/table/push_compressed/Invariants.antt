use Rattle.std.proofs.Common.{◌≡◌, ◌∷◌, ◌++◌, map, take}
use Rattle.std.specs.Prelude.{codes}
use Rattle.mm_text.specs.Written.{written}
use Rattle.mm_proof.specs.Listings.{token_at}
use Rattle.mm_proof.specs.TableView.{tokens_of}
use Rattle.mm_proof.proofs.table.push_compressed.Given as goal

abbrev pub invariant-loop-number : goal.invariant-loop-number
invariant-loop-number l = l.to.items
    ≡ l.fn.to.items ++ written (codes "(" ∷ map (token_at (tokens_of l.tokens))
    (take l.number-index l.proof.listed.items))
