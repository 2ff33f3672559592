-- A token on a stack whose next symbol was removed.
use Rattle.std.proofs.Common.{◌≡◌, Bool, true, false, ◌&&◌, List, [], ◌∷◌, ◌++◌, length, arith}
use Rattle.std.proofs.Common.{reverse, Option, Some, None, Result, Ok, Err, if◌then◌else◌, refl, ap}
use Rattle.std.proofs.Common.{sym, ◌∙◌, subst}
use Rattle.std.specs.Prelude.{IfOk}
use Rattle.std.specs.declared.alloc.AllocError.{AllocError}
use Rattle.kore_text.specs.declared.symbols.Symbol.{Symbol}
use Rattle.kore_text.specs.TokenStream.{KoreToken}
use Rattle.kore_text.specs.Table.{turn, rest_of, step, is_empty, onto}
use Rattle.kore_text.specs.Stacks.{Expands, Steps, is_none, is_left_out}
use Rattle.kore_text.proofs.Accepting.{both}
use Rattle.kore_text.proofs.StackLaws.{pushed}

pub next-first : (xs ys : List Symbol) (f : Symbol) → xs ≡ ys ++ (f ∷ [])
    → reverse xs ≡ f ∷ reverse ys
next-first xs ys f h = ap reverse h ∙ pushed ys f

left-out : (mv : Option (List Symbol)) (z : Bool) (m : List Symbol) (o : Option (List Symbol))
    → (z && is_none mv) ≡ true → onto mv m (if z then o else None) ≡ o
left-out (Some b) z m o h = let x = both z false h in let y : ⊥ = cc in absurd y
left-out None true m o h = refl
left-out None false m o h = let y : ⊥ = cc in absurd y

pub step-left-out : (f : Symbol) (t : KoreToken) (k : List Symbol) → is_left_out f t ≡ true
    → step (f ∷ k) t ≡ step k t
unfolding step
step-left-out f t k h = left-out (turn f t) (is_empty f) (rest_of f t k) (step k t) h

taken : (mv : Option (List Symbol)) (z : Bool) (m : List Symbol) (o : Option (List Symbol))
    (fits : Bool) (new : List Symbol) → (z && is_none mv) ≡ false → Expands fits mv m new
    → Steps fits (onto mv m (if z then o else None)) new
taken (Some b) z m o true new h e = e
taken (Some b) z m o false new h e = absurd e
taken None true m o fits new h e = let y : ⊥ = cc in absurd y
taken None false m o true new h e = absurd e
taken None false m o false new h e = tt

pub step-taken : (f : Symbol) (t : KoreToken) (k : List Symbol) (fits : Bool) (new : List Symbol)
    → is_left_out f t ≡ false → Expands fits (turn f t) (rest_of f t k) new
    → Steps fits (step (f ∷ k) t) new
unfolding step
step-taken f t k fits new h e =
    taken (turn f t) (is_empty f) (rest_of f t k) (step k t) fits new h e

pub step-nothing : (t : KoreToken) → step [] t ≡ None
unfolding step
step-nothing t = refl

pub on-taken : (f : Symbol) (t : KoreToken) (k : List Symbol) (r : Result Bool AllocError)
    (new : List Symbol) (o : Option (List Symbol)) → step (f ∷ k) t ≡ o
    → is_left_out f t ≡ false → IfOk r (λ fits. Expands fits (turn f t) (rest_of f t k) new)
    → IfOk r (λ fits. Steps fits o new)
on-taken f t k (Ok fits) new o i h e =
    subst (λ u. Steps fits u new) i (step-taken f t k fits new h e)
on-taken f t k (Err x) new o i h e = tt

pub nothing-left : (xs : List Symbol) (t : KoreToken) (new : List Symbol) (o : Option (List Symbol))
    → length xs ≡ 0 → step (reverse xs) t ≡ o → Steps false o new
nothing-left [] t new o h i = subst (λ u. Steps false u new) (sym (step-nothing t) ∙ i) tt
nothing-left (x ∷ xs) t new o h i = let y : ⊥ = omega (arith, h) in absurd y
