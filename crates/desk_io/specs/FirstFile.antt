-- If a file of a desk in memory is created, it is the first one, and the desk tells it. This is the
-- law of every desk, for the desk in memory.
use Rattle.std.specs.Prelude.{◌≡◌, ℕ, ◌<◌, Bool, true, false, List, [], ◌∷◌, length, Some, nat_eq}
use Rattle.std.specs.Prelude.{refl, IsTrue, String, string_bytes, vec_len}
use Rattle.std.proofs.Common.{arith}
use Rattle.std.specs.Cmp.Lexicographic.{pointwise, bytes_decides}
use Rattle.std.specs.Global.{Vec, Global}
use Rattle.desk_io.specs.Changes.{TellsCreated}
use Rattle.desk_io.specs.Memory.{named_bytes, created_name}

-- a name is equal to itself
pub same_name : (name : List ℕ) → pointwise nat_eq name name ≡ true
same_name name = (bytes_decides name name).1 refl

-- the first file is told by its name
pub tells_first : (files : Vec (String Global × Vec ℕ)) (unread : List ℕ) (created : Bool)
    → (IsTrue created → 0 < vec_len files)
    → TellsCreated created (Some (record {
      files = named_bytes files.items;
      unread = unread;
      created = created_name created (named_bytes files.items);
    }))
tells_first files unread false some = refl
tells_first files unread true some = by files.items (omega (arith, some refl))
  where
    by : (items : List (String Global × Vec ℕ)) → 0 < length items
        → TellsCreated true (Some (record {
          files = named_bytes items;
          unread = unread;
          created = created_name true (named_bytes items);
        }))
    by [] h = absurd (omega (arith, h))
    by (file ∷ items) h =
        (string_bytes file.0, file.1.items, refl, rw (same_name (string_bytes file.0)) refl)
