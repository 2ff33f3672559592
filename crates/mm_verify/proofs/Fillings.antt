-- Laws on statements with texts substituted for variables.
use Rattle.std.proofs.Common.{◌≡◌, ℕ, ◌+◌, ◌<◌, Bool, true, false, List, [], ◌∷◌, ◌++◌, length}
use Rattle.std.proofs.Common.{take, drop, get_or, nat_eq, refl, ap, ◌∙◌, sym}
use Rattle.std.specs.Borrow.{Bor}
use Rattle.std.specs.Prelude.{◌&&◌, Option, None, Some, MatchOption}
use Rattle.std.proofs.lemmas.List.{drop_more}
use Rattle.mm_verify.specs.declared.parts.Part.{Part}
use Rattle.mm_verify.specs.Filling.{part_text, filled}
use Rattle.mm_frame.specs.NumberedSteps.{same_numbers}

-- a list is a text followed by another if it begins with the text and goes on with the other
pub same-append : (xs text zs : List ℕ)
    → same_numbers xs (text ++ zs)
    ≡ (same_numbers (take (length text) xs) text && same_numbers (drop (length text) xs) zs)
same-append xs [] zs = refl
same-append [] (t ∷ text) zs = refl
same-append (x ∷ xs) (t ∷ text) zs = go (nat_eq x t) (same-append xs text zs)
  where
    go : (b : Bool)
        → same_numbers xs (text ++ zs)
        ≡ (same_numbers (take (length text) xs) text && same_numbers (drop (length text) xs) zs)
        → (b && same_numbers xs (text ++ zs))
        ≡ ((b && same_numbers (take (length text) xs) text)
        && same_numbers (drop (length text) xs) zs)
    go true h = h
    go false h = refl

pub filled_more : (entries : List (List ℕ)) (parts : List Part) (i : ℕ) (p : Part)
    → i < length parts → p ≡ get_or parts i p
    → filled entries (drop i parts) ≡ part_text entries p ++ filled entries (drop (i + 1) parts)
filled_more entries parts i p lt is =
    ap (λ (ps : List Part). filled entries ps) (drop_more parts i p lt)
    ∙ ap (λ (q : Part). part_text entries q ++ filled entries (drop (i + 1) parts)) (sym is)

-- what `strip_prefix` returns for a text that is not at the front, and for one that is
pub text_missing : (xs text others : List ℕ) → same_numbers (take (length text) xs) text ≡ false
    → same_numbers xs (text ++ others) ≡ false
text_missing xs text others differs = same-append xs text others
    ∙ ap (λ (b : Bool). b && same_numbers (drop (length text) xs) others) differs

pub text_passed : (xs text others left : List ℕ) → same_numbers (take (length text) xs) text ≡ true
    → left ≡ drop (length text) xs → same_numbers xs (text ++ others) ≡ same_numbers left others
text_passed xs text others left equal behind =
    same-append xs text others
    ∙ ap (λ (b : Bool). b && same_numbers (drop (length text) xs) others) equal
    ∙ ap (λ (l : List ℕ). same_numbers l others) (sym behind)

pub stripped : (xs text others : List ℕ) (r : Option (Bor (List ℕ)))
    → MatchOption r (same_numbers (take (length text) xs) text ≡ false) (λ x. (same_numbers
    (take (length text) xs) text ≡ true) × (x.now ≡ drop (length text) xs)
    × (length x.now + length text ≡ length xs))
    → MatchOption r (same_numbers xs (text ++ others) ≡ false)
    (λ x. same_numbers xs (text ++ others) ≡ same_numbers x.now others)
stripped xs text others None h = text_missing xs text others h
stripped xs text others (Some x) h = text_passed xs text others x.now h.0 h.1

-- a part that is not at the front, and one that is
pub not_filled : (entries : List (List ℕ)) (parts : List Part) (i : ℕ) (p : Part) (rest : List ℕ)
    (whole : Bool) → i < length parts → p ≡ get_or parts i p
    → same_numbers rest (part_text entries p ++ filled entries (drop (i + 1) parts)) ≡ false
    → same_numbers rest (filled entries (drop i parts)) ≡ whole → false ≡ whole
not_filled entries parts i p rest whole lt is differs now =
    sym differs
    ∙ ap (λ (t : List ℕ). same_numbers rest t) (sym (filled_more entries parts i p lt is)) ∙ now

pub filled_behind : (entries : List (List ℕ)) (parts : List Part) (i : ℕ) (p : Part)
    (rest left : List ℕ) (whole : Bool) → i < length parts → p ≡ get_or parts i p
    → same_numbers rest (part_text entries p ++ filled entries (drop (i + 1) parts))
    ≡ same_numbers left (filled entries (drop (i + 1) parts))
    → same_numbers rest (filled entries (drop i parts)) ≡ whole
    → same_numbers left (filled entries (drop (i + 1) parts)) ≡ whole
filled_behind entries parts i p rest left whole lt is passed now =
    sym passed
    ∙ ap (λ (t : List ℕ). same_numbers rest t) (sym (filled_more entries parts i p lt is)) ∙ now
