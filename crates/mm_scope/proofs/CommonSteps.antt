-- What is common, as hypotheses and pairs come.
use Rattle.std.proofs.Common.{◌≡◌, ℕ, false, List, [], ◌∷◌, ◌++◌, ◌<◌, length, ap, sym, subst, ◌∙◌}
use Rattle.std.proofs.Common.{arith}
use Rattle.std.specs.Prelude.{slice_set, filter, Option, IfSome}
use Rattle.std.specs.List.{list_any}
use Rattle.mm_text.specs.Bytes.{Token}
use Rattle.mm_database.specs.Frames.{floating}
use Rattle.mm_frame.specs.Numbered.{NumberedHypothesis}
use Rattle.mm_frame.specs.NeededNumbers.{number_stands_in}
use Rattle.mm_frame.specs.PlacedHypotheses.{Placed}
use Rattle.mm_frame.specs.PlacedOrder.{find_placed}
use Rattle.mm_scope.specs.Sharing.{ArePairs, IsCommon, pairs_in, is_wanted_number}
use Rattle.mm_frame.specs.Grouping.{Extends}
use Rattle.mm_scope.specs.declared.common.Common.{Common}
use Rattle.mm_scope.proofs.MandatoryTrees.{mandatory-floating}
use Rattle.mm_scope.proofs.CommonPairs.{pairs-floating, pairs-group}
use Rattle.mm_scope.proofs.OuterKept.{placed-before, placed-hypothesis}

pub common-same : (types : List ℕ) (hs : List NumberedHypothesis) (gs : List (List ℕ))
    (c d : Common) → d.tree.value ≡ c.tree.value → pairs_in d ≡ pairs_in c
    → IsCommon types hs gs c → IsCommon types hs gs d
common-same types hs gs c d tree pairs is = record {
  tree = λ placed i. ap (λ (ps : List Placed). find_placed ps i) tree ∙ is.tree placed i;
  pairs = subst (λ (o : Option (List (List ℕ))). IfSome o (ArePairs hs gs)) (sym pairs) is.pairs;
}

pub common-floating : (types : List ℕ) (hs : List NumberedHypothesis) (gs : List (List ℕ))
    (l : Token) (k v : ℕ) (c : Common) → list_any (number_stands_in v) hs ≡ false
    → IsCommon types hs gs c
    → IsCommon (slice_set types v (length hs)) (hs ++ floating l k v ∷ []) gs c
common-floating types hs gs l k v c free is = record {
  tree =
      λ placed. mandatory-floating hs l k v c.tree.value free (is.tree (placed-hypothesis types hs
      (length hs) (floating l k v) (omega arith)
      (placed-before (slice_set types v (length hs)) hs (floating l k v ∷ []) placed)));
  pairs = pairs-floating hs gs l k v (pairs_in c) is.pairs;
}

pub common-group : (types : List ℕ) (hs : List NumberedHypothesis) (old new : List (List ℕ))
    (group kept : List ℕ) (c : Common) → kept ≡ filter (is_wanted_number hs []) group
    → length kept < 2 → Extends old group new → IsCommon types hs old c → IsCommon types hs new c
common-group types hs old new group kept c is short more common = record {
  tree = common.tree;
  pairs = pairs-group hs old new group kept (pairs_in c) is short more common.pairs;
}
