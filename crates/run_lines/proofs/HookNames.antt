-- The names of the rows of the code's table are the names of the hooks.
use Rattle.std.proofs.Common.{◌≡◌, ℕ, ◌<◌, ◌≤◌, List, [], length, get_or, map, Option, Some, None}
use Rattle.std.proofs.Common.{sym, ◌∙◌, ap}
use Rattle.std.specs.Prelude.{option_map, unwrap_or, slice_get}
use Rattle.std.proofs.lemmas.Option.{slice_get-map, slice_get-get_or, slice_get_past}
use Rattle.term_core.specs.HookValues.{Hook}
use Rattle.term_core.specs.HookSignatures.{signature}
use Rattle.hook_table.specs.Rows.{plain_row}
use Rattle.hook_table.specs.declared.table.HookRow.{HookRow}

abbrev name_in : Option Hook → List ℕ
name_in o = unwrap_or (option_map (λ (h : Hook). h.name) o) []

name_of_some : (o : Option Hook) (row : HookRow) → Some (plain_row row) ≡ option_map signature o
    → row.name.now ≡ name_in o
name_of_some None row h = absurd (let z : ⊥ = cc in z)
name_of_some (Some hook) row h =
    let same : plain_row row ≡ signature hook = cc in ap (λ s. s.name) same

name_of_none : (o : Option Hook) → None ≡ option_map signature o → [] ≡ name_in o
name_of_none None h = cc
name_of_none (Some hook) h = absurd (let z : ⊥ = cc in z)

read_alike : (rows : List HookRow) (hs : List Hook) (n : ℕ) → map plain_row rows ≡ map signature hs
    → option_map plain_row (slice_get rows n) ≡ option_map signature (slice_get hs n)
read_alike rows hs n same = sym (slice_get-map plain_row rows n)
    ∙ (ap (λ xs. slice_get xs n) same ∙ slice_get-map signature hs n)

pub row_name : (rows : List HookRow) (hs : List Hook) (n : ℕ) (row : HookRow)
    → map plain_row rows ≡ map signature hs → n < length rows → row ≡ get_or rows n row
    → row.name.now ≡ name_in (slice_get hs n)
row_name rows hs n row same low is =
    let found : slice_get rows n ≡ Some row =
    slice_get-get_or rows n row low ∙ ap (λ (r : HookRow). Some r) (sym is) in
    name_of_some (slice_get hs n) row (ap (λ (o : Option HookRow). option_map plain_row o)
    (sym found) ∙ read_alike rows hs n same)

pub no_row_name : (rows : List HookRow) (hs : List Hook) (n : ℕ)
    → map plain_row rows ≡ map signature hs → length rows ≤ n → [] ≡ name_in (slice_get hs n)
no_row_name rows hs n same high =
    name_of_none (slice_get hs n) (ap (λ (o : Option HookRow). option_map plain_row o)
    (sym (slice_get_past rows n high)) ∙ read_alike rows hs n same)
