-- Statements that are written one after another.
use Rattle.std.proofs.Common.{◌≡◌, ℕ, List, [], ◌∷◌, ◌++◌, zero, suc, refl, ap, ◌∙◌, sym}
use Rattle.std.proofs.Common.{append_assoc, append-nil, slice_get}
use Rattle.std.specs.Prelude.{unwrap_or, slice_index_or}
use Rattle.mm_text.specs.Bytes.{Token}
use Rattle.mm_text.specs.Written.{white_after, written}
use Rattle.mm_database.specs.StatementTexts.{written_statements}

pub written-append : (xs ys : List Token) → written (xs ++ ys) ≡ written xs ++ written ys
written-append [] ys = refl
written-append (x ∷ xs) ys =
    ap (λ (t : List ℕ). (x ++ white_after x ∷ []) ++ t) (written-append xs ys)
    ∙ sym (append_assoc (x ++ white_after x ∷ []) (written xs) (written ys))

pub two_statements : (xs ys : List Token) → written (xs ++ ys) ≡ written_statements (xs ∷ ys ∷ [])
two_statements xs ys =
    written-append xs ys ∙ ap (λ (t : List ℕ). written xs ++ t) (sym (append-nil (written ys)))

pub unwrap-get : (names : List Token) (i : ℕ)
    → unwrap_or (slice_get names i) [] ≡ slice_index_or names i []
unwrap-get [] i = refl
unwrap-get (t ∷ names) zero = refl
unwrap-get (t ∷ names) (suc i) = unwrap-get names i
