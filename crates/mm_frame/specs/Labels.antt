-- The labels of hypotheses.
use Rattle.std.specs.Prelude.{◌≡◌, List, map, is_some}
use Rattle.std.specs.Borrow.{Bor}
use Rattle.std.specs.BTreeMap.{BTreeMap, get_by}
use Rattle.std.specs.Cmp.Lexicographic.{slice_cmp}
use Rattle.std.specs.Ordering.{nat_cmp}
use Rattle.mm_text.specs.Bytes.{Token, has_token}
use Rattle.mm_frame.specs.declared.frames.Hyp.{Hyp}
use Rattle.mm_frame.specs.declared.frames.Hyp.TheVariants.{Floating, Essential}

abbrev pub label_in : Hyp → Token
label_in (Floating label typecode variable) = label.now
label_in (Essential label statement) = label.now

-- the map has just the labels of these hypotheses
abbrev pub HasLabels : {V : Type 0} → BTreeMap (Bor Token) V → List Hyp → Type 0
HasLabels labels hyps =
    (t : Token)
    → is_some (get_by (λ k. slice_cmp nat_cmp t k.now) labels) ≡ has_token (map label_in hyps) t
