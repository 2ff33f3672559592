-- The instance of a pattern, built around the instance of its part along the spine, and a renamed
-- pattern built around its renamed part.
use Rattle.std.proofs.Common.{◌≡◌, ℕ, List, Some, sym, ap}
use Rattle.ml_pat.specs.Patterns.{Pattern, unary, binary, sorted, quantified, or}
use Rattle.ml_pat.specs.SpinePart.{spine_part}
use Rattle.ml_pat.proofs.SpineLaws.{some_same, none_some}
use Rattle.ml_kernel.specs.Lemmas.{instance}
use Rattle.ml_kernel.specs.Renamings.{renamed}
use Rattle.ml_kernel.specs.Spines.{around, renamed_around}

-- the instance of the whole is built around the instance of the part along the spine
pub around-instance : (ms : List Pattern) (r p : Pattern) → spine_part r ≡ Some p
    → around ms (instance ms p) r ≡ instance ms r
around-instance ms (or q t) p h =
    ap (λ (u : Pattern). around ms (instance ms u) (or q t)) (sym (some_same t p h))
around-instance ms (binary c t q) p h =
    ap (λ (u : Pattern). around ms (instance ms u) (binary c t q)) (sym (some_same t p h))
around-instance ms (unary c t) p h =
    ap (λ (u : Pattern). around ms (instance ms u) (unary c t)) (sym (some_same t p h))
around-instance ms (sorted c t s) p h =
    ap (λ (u : Pattern). around ms (instance ms u) (sorted c t s)) (sym (some_same t p h))
around-instance ms (quantified c x s t) p h =
    ap (λ (u : Pattern). around ms (instance ms u) (quantified c x s t)) (sym (some_same t p h))
around-instance ms r p h = absurd (none_some p h)

-- the renamed whole is built around the renamed part along the spine
pub around-renamed : (f : ℕ → ℕ) (r p : Pattern) → spine_part r ≡ Some p
    → renamed_around f (renamed f p) r ≡ renamed f r
around-renamed f (or q t) p h =
    ap (λ (u : Pattern). renamed_around f (renamed f u) (or q t)) (sym (some_same t p h))
around-renamed f (binary c t q) p h =
    ap (λ (u : Pattern). renamed_around f (renamed f u) (binary c t q)) (sym (some_same t p h))
around-renamed f (unary c t) p h =
    ap (λ (u : Pattern). renamed_around f (renamed f u) (unary c t)) (sym (some_same t p h))
around-renamed f (sorted c t s) p h =
    ap (λ (u : Pattern). renamed_around f (renamed f u) (sorted c t s)) (sym (some_same t p h))
around-renamed f (quantified c x s t) p h =
    ap (λ (u : Pattern). renamed_around f (renamed f u) (quantified c x s t)) (sym (some_same t p h))
around-renamed f r p h = absurd (none_some p h)
