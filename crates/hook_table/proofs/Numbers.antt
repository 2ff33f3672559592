-- The numbers of the hooks.
use Rattle.std.proofs.Common.{◌≡◌, ℕ, zero, suc, ◌+◌, ◌<◌, ◌≤◌, List, [], ◌∷◌, map, length, Option}
use Rattle.std.proofs.Common.{Some, None, refl, sym, ◌∙◌, ap, arith}
use Rattle.std.specs.Prelude.{slice_get, option_map, cond, nat_lt, not}
use Rattle.std.specs.List.{position, position_or_len}
use Rattle.std.specs.Str.{bytes_eq}
use Rattle.std.proofs.lemmas.Option.{slice_get_within}
use Rattle.term_core.specs.HookValues.{Kind, Hook, hooks, argument_kinds}
use Rattle.term_core.specs.HookSignatures.{hook_arguments, Signature, signature}
use Rattle.hook_table.specs.Names.{hook_number}
use Rattle.hook_table.specs.Rows.{plain_kind, plain_row}
use Rattle.hook_table.specs.declared.table.HookRow.{HookRow}

mapped : {A B : Type 0} (f : A → B) (o : Option A) (b : B) → option_map f o ≡ Some b
    → (a : A) × (o ≡ Some a)
mapped f None b e = let no : ⊥ = cc in absurd no
mapped f (Some a) b e = (a, refl)

-- a number with arguments is one of the 31
pub number-below : (n : ℕ) (kinds : List Kind) → hook_arguments n ≡ Some kinds → n < 31
number-below n kinds e =
    let found = mapped (λ (h : Hook). argument_kinds h.operation) (slice_get hooks n) kinds e in
    slice_get_within hooks n found.0 found.1

-- ---- kinds

pub slice_get-past : {X : Type 0} (xs : List X) (n : ℕ) → length xs ≤ n → slice_get xs n ≡ None
slice_get-past [] n past = refl
slice_get-past (x ∷ xs) zero past = absurd (omega arith)
slice_get-past (x ∷ xs) (suc n) past = slice_get-past xs n (omega arith)

pub same_some : (xs ys : List Kind) → Some xs ≡ Some ys → xs ≡ ys
same_some xs ys e = cc

pub none-some : (xs : List Kind) → None ≡ Some xs → ⊥
none-some xs e = cc

same_arguments : (rows : List HookRow) (hs : List Hook) (n : ℕ)
    → map plain_row rows ≡ map signature hs
    → option_map (λ (r : HookRow). map plain_kind r.args.now) (slice_get rows n)
    ≡ option_map (λ (h : Hook). argument_kinds h.operation) (slice_get hs n)
same_arguments [] [] n e = refl
same_arguments [] (h ∷ hs) n e = let no : ⊥ = cc in absurd no
same_arguments (r ∷ rows) [] n e = let no : ⊥ = cc in absurd no
same_arguments (r ∷ rows) (h ∷ hs) zero e =
    let first : plain_row r ≡ signature h = cc in ap (λ (s : Signature). Some s.arguments) first
same_arguments (r ∷ rows) (h ∷ hs) (suc n) e =
    let rest : map plain_row rows ≡ map signature hs = cc in same_arguments rows hs n rest

-- the kinds of a row are the kinds of its hook
pub arguments-of-row : (rows : List HookRow) (n : ℕ) (row : HookRow)
    → map plain_row rows ≡ map signature hooks → slice_get rows n ≡ Some row
    → hook_arguments n ≡ Some (map plain_kind row.args.now)
arguments-of-row rows n row e is =
    sym (same_arguments rows hooks n e)
    ∙ ap (option_map (λ (r : HookRow). map plain_kind r.args.now)) is

pub no-row : (rows : List HookRow) (n : ℕ) → map plain_row rows ≡ map signature hooks
    → slice_get rows n ≡ None → hook_arguments n ≡ None
no-row rows n e is =
    sym (same_arguments rows hooks n e)
    ∙ ap (option_map (λ (r : HookRow). map plain_kind r.args.now)) is

-- ---- names

-- a name has the same index in the rows as among the hooks
same_place : (name : List ℕ) (rows : List HookRow) (hs : List Hook)
    → map plain_row rows ≡ map signature hs
    → (position_or_len (λ (r : HookRow). bytes_eq r.name.now name) rows
    ≡ position_or_len (λ (h : Hook). bytes_eq h.name name) hs) × (length rows ≡ length hs)
same_place name [] [] e = (refl, refl)
same_place name [] (h ∷ hs) e = let no : ⊥ = cc in absurd no
same_place name (r ∷ rows) [] e = let no : ⊥ = cc in absurd no
same_place name (r ∷ rows) (h ∷ hs) e =
    let first : plain_row r ≡ signature h = cc in
    let rest : map plain_row rows ≡ map signature hs = cc in
    let named : r.name.now ≡ h.name = ap (λ (s : Signature). s.name) first in
    let both = same_place name rows hs rest in
    (λ i. cond (not (bytes_eq (named i) name)) (1 + both.0 i) 0, ap suc both.1)

pub position-of-rows : (name : List ℕ) (rows : List HookRow)
    → map plain_row rows ≡ map signature hooks
    → position (λ (r : HookRow). bytes_eq r.name.now name) rows ≡ hook_number name
position-of-rows name rows e =
    let both = same_place name rows hooks e in
    λ i. cond (nat_lt (both.0 i) (both.1 i)) (Some (both.0 i)) None
