-- What the table says at the next token.
use Rattle.std.proofs.Common.{◌≡◌, ◌<◌, ◌≤◌, ℕ, Bool, true, false, ◌&&◌, List, [], ◌∷◌, nat_lt}
use Rattle.std.proofs.Common.{Option, Some, None, if◌then◌else◌, refl, ap, sym, ◌∙◌, subst, arith}
use Rattle.std.proofs.lemmas.Bool.Decides.{nat_tests}
use Rattle.kore_text.specs.declared.faults.TextFault.TheVariants.{Lex, Syntax, Deep}
use Rattle.kore_text.specs.declared.symbols.Symbol.{Symbol}
use Rattle.kore_text.specs.TokenStream.{KoreToken, Stream, end, no_token_at, token}
use Rattle.kore_text.specs.Depth.{opened}
use Rattle.kore_text.specs.Remaining.{size}
use Rattle.kore_text.specs.Stacks.{Steps, is_nil}
use Rattle.kore_text.specs.Table.{step, passes, passes_on, run, empty_fold, is_fold, can_end}
use Rattle.kore_text.specs.Table.{onward}

pub size_token : (t : KoreToken) (p : ℕ) (s r : Stream) → s ≡ token t p r → size r < size s
unfolding size
size_token t p s r h = rw h (omega arith)

-- how the table passes tokens
pub passes_done : (s : Stream) (k : List Symbol) → is_nil k ≡ true → passes s k ≡ true
unfolding passes
passes_done s [] h = refl
passes_done s (f ∷ k) h = let y : ⊥ = cc in absurd y

pub passes_end : (s : Stream) (x : ℕ) (k : List Symbol) → s ≡ end x → is_nil k ≡ false
    → passes s k ≡ false
unfolding passes
passes_end s x [] h n = let y : ⊥ = cc in absurd y
passes_end s x (f ∷ k) h n = rw h refl

pub passes_fault : (s : Stream) (x : ℕ) (k : List Symbol) → s ≡ no_token_at x → is_nil k ≡ false
    → passes s k ≡ false
unfolding passes
passes_fault s x [] h n = let y : ⊥ = cc in absurd y
passes_fault s x (f ∷ k) h n = rw h refl

goes-on : (mv : Option (List Symbol)) (r : Stream) (new : List Symbol) → Steps true mv new
    → passes_on (passes r) mv ≡ passes r new
goes-on (Some b) r new h = ap (passes r) (sym h)
goes-on None r new h = absurd h

stops : (mv : Option (List Symbol)) (r : Stream) (new : List Symbol) → Steps false mv new
    → passes_on (passes r) mv ≡ false
stops (Some b) r new h = absurd h
stops None r new h = refl

pub passes_token : (t : KoreToken) (p : ℕ) (s r : Stream) (k new : List Symbol) → s ≡ token t p r
    → is_nil k ≡ false → Steps true (step k t) new → passes s k ≡ passes r new
unfolding passes
passes_token t p s r [] new h n m = let y : ⊥ = cc in absurd y
passes_token t p s r (f ∷ k) new h n m = rw h (goes-on (step (f ∷ k) t) r new m)

pub passes_stuck : (t : KoreToken) (p : ℕ) (s r : Stream) (k new : List Symbol) → s ≡ token t p r
    → is_nil k ≡ false → Steps false (step k t) new → passes s k ≡ false
unfolding passes
passes_stuck t p s r [] new h n m = let y : ⊥ = cc in absurd y
passes_stuck t p s r (f ∷ k) new h n m = rw h (stops (step (f ∷ k) t) r new m)

-- the result of the table
pub run_end : (x n : ℕ) (s : Stream) (k : List Symbol) → s ≡ end x
    → run s (Some n) k ≡ run (end x) (Some n) k
run_end x n s k h = ap (λ u. run u (Some n) k) h

pub run_ends : (x n : ℕ) (k : List Symbol) → true ≡ can_end k → run (end x) (Some n) k ≡ None
unfolding run
run_ends x n k h = rw (sym h) refl

pub run_no_end : (x n : ℕ) (k : List Symbol) → false ≡ can_end k
    → run (end x) (Some n) k ≡ Some (Syntax x)
unfolding run
run_no_end x n k h = rw (sym h) refl

pub run_fault : (x n : ℕ) (s : Stream) (k : List Symbol) → s ≡ no_token_at x
    → run s (Some n) k ≡ Some (Lex x)
unfolding run
run_fault x n s k h = rw h refl

pub run_empty_fold : (t : KoreToken) (p n : ℕ) (s r : Stream) (k : List Symbol) → s ≡ token t p r
    → (is_fold t && passes r empty_fold) ≡ true → run s (Some n) k ≡ Some (Syntax p)
unfolding run
run_empty_fold t p n s r k h e = rw (h, e) refl

run-token : (t : KoreToken) (p n : ℕ) (r : Stream) (k : List Symbol) (x : Bool)
    → (is_fold t && passes r empty_fold) ≡ x
    → run (token t p r) (Some n) k
    ≡ (if x then Some (Syntax p) else onward (run r) p (Some (opened t n)) (step k t))
unfolding run
run-token t p n r k x h = rw h refl

onward-stuck : (mv : Option (List Symbol)) (r : Stream) (p : ℕ) (n : Option ℕ) (new : List Symbol)
    → Steps false mv new → onward (run r) p n mv ≡ Some (Syntax p)
onward-stuck (Some b) r p n new h = absurd h
onward-stuck None r p n new h = refl

onward-deep : (mv : Option (List Symbol)) (r : Stream) (p n : ℕ) (new : List Symbol)
    → Steps true mv new → nat_lt 500 n ≡ true → onward (run r) p (Some n) mv ≡ Some (Deep p)
onward-deep (Some b) r p n new h d = rw d refl
onward-deep None r p n new h d = absurd h

onward-on : (mv : Option (List Symbol)) (r : Stream) (p n : ℕ) (new : List Symbol)
    → Steps true mv new → nat_lt 500 n ≡ false → onward (run r) p (Some n) mv ≡ run r (Some n) new
onward-on (Some b) r p n new h d = rw d (ap (run r (Some n)) (sym h))
onward-on None r p n new h d = absurd h

pub run_stuck : (t : KoreToken) (p n : ℕ) (s r : Stream) (k new : List Symbol) → s ≡ token t p r
    → (is_fold t && passes r empty_fold) ≡ false → Steps false (step k t) new
    → run s (Some n) k ≡ Some (Syntax p)
run_stuck t p n s r k new h e m = ap (λ u. run u (Some n) k) h ∙ run-token t p n r k false e
    ∙ onward-stuck (step k t) r p (Some (opened t n)) new m

pub run_deep : (t : KoreToken) (p n d : ℕ) (s r : Stream) (k new : List Symbol) → s ≡ token t p r
    → (is_fold t && passes r empty_fold) ≡ false → Steps true (step k t) new → d ≡ opened t n
    → 500 < d → run s (Some n) k ≡ Some (Deep p)
run_deep t p n d s r k new h e m i l =
    let j : nat_lt 500 (opened t n) ≡ true =
    (let a : 500 < opened t n = subst (λ u. 500 < u) i l in grind (arith, nat_tests)) in
    ap (λ u. run u (Some n) k) h ∙ run-token t p n r k false e
    ∙ onward-deep (step k t) r p (opened t n) new m j

pub run_on : (t : KoreToken) (p n d : ℕ) (s r : Stream) (k new : List Symbol) → s ≡ token t p r
    → (is_fold t && passes r empty_fold) ≡ false → Steps true (step k t) new → d ≡ opened t n
    → d ≤ 500 → run s (Some n) k ≡ run r (Some d) new
run_on t p n d s r k new h e m i l =
    let j : nat_lt 500 (opened t n) ≡ false =
    (let a : opened t n ≤ 500 = subst (λ u. u ≤ 500) i l in grind (arith, nat_tests)) in
    ap (λ u. run u (Some n) k) h ∙ run-token t p n r k false e
    ∙ onward-on (step k t) r p (opened t n) new m j ∙ ap (λ u. run r (Some u) new) (sym i)
