-- What was stated is found by the bytes of its numbers. Only clauses of private functions cite
-- this.
use Rattle.std.specs.Prelude.{◌≡◌, ◌<◌, ℕ, ◌+◌, List, [], ◌∷◌, ◌++◌, Option}
use Rattle.std.specs.Borrow.{Bor}
use Rattle.std.specs.BTreeMap.{BTreeMap, get_by}
use Rattle.std.specs.Cmp.Lexicographic.{slice_cmp}
use Rattle.std.specs.Global.{Vec}
use Rattle.std.specs.Ordering.{nat_cmp}
use Rattle.ml_pat.specs.Patterns.{Pattern}
use Rattle.mm_proof.specs.Searching.{all_forms, patterns_of}
use Rattle.mm_render.specs.declared.places.StatementContext.{StatementContext}
use Rattle.mm_claims.specs.Blocks.{Stated}
use Rattle.mm_render.specs.Keys.{numbers, all_bytes}
use Rattle.mm_render.specs.KeyPlaces.{find_by, premise_place_by}
use Rattle.mm_render.specs.ClaimView.{last_of, plain_stated_all}

-- what a table has under these bytes
abbrev pub found_in : BTreeMap (Vec ℕ) ℕ → List ℕ → Option ℕ
found_in table key = get_by (λ (k : Vec ℕ). slice_cmp nat_cmp key k.items) table

-- how the statement that is being written finds claims, and the places of its hypotheses
abbrev pub found_at : StatementContext → List Pattern → Pattern → Stated
found_at at =
    find_by (plain_stated_all at.stated.now) (last_of at.last.now) (found_in at.places.now)

abbrev pub premises_at : StatementContext → Pattern → ℕ
premises_at at = premise_place_by (found_in at.premises.now)

-- the numbers of the patterns on a stack, the top last, before others
abbrev pub all_numbers : List Pattern → List ℕ → List ℕ
all_numbers [] rest = rest
all_numbers (p ∷ ps) rest = all_numbers ps (numbers p rest)

-- A pattern was taken from a stack. The bytes of its form's numbers were added, and its parts were
-- put on the stack.
pub record FormIsAdded (of_pattern : List ℕ → List ℕ) (size : ℕ) (old new : List (Bor Pattern))
    (key key' : List ℕ) : Type 0 where
  pub bytes : key' ++ all_bytes (all_numbers (patterns_of new) [])
      ≡ key ++ all_bytes (of_pattern (all_numbers (patterns_of old) []))
  pub weight : all_forms (patterns_of new) < all_forms (patterns_of old) + size
