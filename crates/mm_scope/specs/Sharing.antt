-- What assertions of one place share. Only clauses of private functions cite these definitions.
use Rattle.std.specs.Prelude.{◌≡◌, ◌≤◌, ℕ, nat_eq, Bool, not, ◌&&◌, ◌||◌, List, [], filter}
use Rattle.std.specs.Prelude.{if◌then◌else◌, length, take, slice_get, slice_index, Option, Some}
use Rattle.std.specs.Prelude.{None, IfSome, option_map}
use Rattle.std.specs.Global.{Vec, Global}
use Rattle.std.specs.declared.rc.Rc.{Rc}
use Rattle.std.specs.List.{list_any}
use Rattle.mm_text.specs.Bytes.{Token}
use Rattle.mm_database.specs.Frames.{floating}
use Rattle.mm_frame.specs.Numbered.{NumberedHypothesis}
use Rattle.mm_frame.specs.PlainFrames.{has_number, in_group, in_groups, groups_of}
use Rattle.mm_frame.specs.NeededNumbers.{number_stands_in, is_needed_number, is_mandatory_number}
use Rattle.mm_frame.specs.PlacedHypotheses.{Placed}
use Rattle.mm_frame.specs.PlacedOrder.{find_placed}
use Rattle.mm_frame.specs.Listed.{group_places}
use Rattle.mm_frame.specs.Places.{passes}
use Rattle.mm_scope.specs.declared.common.Common.{Common}
use Rattle.mm_scope.specs.declared.scopes.OpenBlock.{OpenBlock}

-- each `$f` is at the place that is kept for its variable
abbrev pub ArePlacedIn : List ℕ → List NumberedHypothesis → Type 0
ArePlacedIn types hypotheses =
    (i : ℕ) (l : Token) (k v : ℕ) → slice_get hypotheses i ≡ Some (floating l k v)
    → slice_index types v ≡ i

-- what a statement asks for, by the active hypotheses and `$d`
pub record IsMandatory (hypotheses : List NumberedHypothesis) (groups : List (List ℕ))
    (statement : List ℕ)
    (mandatory : List NumberedHypothesis) (pairs : List (List ℕ)) : Type 0 where
  pub hyps : mandatory
      ≡ filter (is_mandatory_number (is_needed_number hypotheses statement)) hypotheses
  pub apart : (a b : ℕ) → in_groups pairs a b
      ≡ (in_groups groups a b
      && (is_needed_number hypotheses statement a && is_needed_number hypotheses statement b))

abbrev pub kept_at : (NumberedHypothesis → Bool) → Option NumberedHypothesis
    → Option NumberedHypothesis
kept_at test None = None
kept_at test (Some h) = if test h then Some h else None

-- at each place is the hypothesis that a statement asks for there
abbrev pub HasMandatory : List NumberedHypothesis → List ℕ → List Placed → Type 0
HasMandatory hypotheses statement ps = (i : ℕ) →
    find_placed ps i
    ≡ kept_at (is_mandatory_number (is_needed_number hypotheses statement))
    (slice_get hypotheses i)

-- the pairs that a statement without symbols asks for
abbrev pub ArePairs : List NumberedHypothesis → List (List ℕ) → List (List ℕ) → Type 0
ArePairs hypotheses groups pairs = (a b : ℕ) → in_groups pairs a b
    ≡ (in_groups groups a b
    && (is_needed_number hypotheses [] a && is_needed_number hypotheses [] b))

abbrev pub groups_at : Option (Rc (Vec (Vec ℕ)) Global) → Option (List (List ℕ))
groups_at pairs = option_map (λ (p : Rc (Vec (Vec ℕ)) Global). groups_of p.value.items) pairs

abbrev pub pairs_in : Common → Option (List (List ℕ))
pairs_in c = groups_at c.pairs

-- what a statement without symbols asks for
pub record IsCommon (types : List ℕ) (hypotheses : List NumberedHypothesis) (groups : List (List ℕ))
    (c : Common) : Type
    0 where
  pub tree : ArePlacedIn types hypotheses → HasMandatory hypotheses [] c.tree.value
  pub pairs : IfSome (pairs_in c) (ArePairs hypotheses groups)

-- what was common when a block was opened
pub record IsOuter (types : List ℕ) (hypotheses : List NumberedHypothesis) (groups : List (List ℕ))
    (blocks : List OpenBlock) (i : ℕ) (b : OpenBlock) (o : Option Common) : Type 0 where
  pub hyps : b.hyps ≤ length hypotheses
  pub disjoint : b.disjoint ≤ length groups
  pub nested : (j : ℕ) (d : OpenBlock) → i ≤ j → slice_get blocks j ≡ Some d
      → (b.hyps ≤ d.hyps) × (b.disjoint ≤ d.disjoint)
  pub common : IfSome o (IsCommon types (take b.hyps hypotheses) (take b.disjoint groups))

pub record AreOuter (types : List ℕ) (hypotheses : List NumberedHypothesis) (groups : List (List ℕ))
    (blocks : List OpenBlock) (outer : List (Option Common)) : Type 0 where
  pub long : length outer ≡ length blocks
  pub each : (i : ℕ) (b : OpenBlock) (o : Option Common) → slice_get blocks i ≡ Some b
      → slice_get outer i ≡ Some o → IsOuter types hypotheses groups blocks i b o

-- no active `$e` has the symbol
abbrev pub is_unasked_number : List NumberedHypothesis → ℕ → Bool
is_unasked_number hypotheses n = not (list_any (number_stands_in n) hypotheses)

-- it occurs in the statement, and in no active `$e`
abbrev pub is_own_number : List NumberedHypothesis → List ℕ → ℕ → Bool
is_own_number hypotheses statement n = has_number statement n && is_unasked_number hypotheses n

-- it occurs in an active `$e`, or is in no group
abbrev pub is_free_number : List NumberedHypothesis → List (List ℕ) → ℕ → Bool
is_free_number hypotheses groups n =
    list_any (number_stands_in n) hypotheses || nat_eq (length (group_places groups n)) 0

-- it occurs in an active `$e`, or is one of the numbers
abbrev pub is_wanted_number : List NumberedHypothesis → List ℕ → ℕ → Bool
is_wanted_number hypotheses own n = list_any (number_stands_in n) hypotheses || has_number own n

-- what is at a place, after the hypotheses at some places were added
abbrev pub or_found : Option NumberedHypothesis → Option NumberedHypothesis
    → Option NumberedHypothesis
or_found None old = old
or_found (Some h) old = Some h

abbrev pub taken_at : List NumberedHypothesis → List ℕ → Option NumberedHypothesis → ℕ
    → Option NumberedHypothesis
taken_at hypotheses places old i =
    if has_number places i then or_found (slice_get hypotheses i) old else old

-- the group at a place has two that are wanted
abbrev pub shares_wanted : List NumberedHypothesis → List (List ℕ) → List ℕ → ℕ → ℕ → ℕ → Bool
shares_wanted hypotheses groups own a b place =
    passes (λ group. in_group a b (filter (is_wanted_number hypotheses own) group))
    (slice_get groups place)

-- the groups that have one of the numbers have two that are wanted
abbrev pub own_shares : List NumberedHypothesis → List (List ℕ) → List ℕ → ℕ → ℕ → Bool
own_shares hypotheses groups own a b =
    list_any (λ group. list_any (has_number group) own && in_group a b group) groups
    && (is_wanted_number hypotheses own a && is_wanted_number hypotheses own b)
