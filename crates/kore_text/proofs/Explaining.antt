-- The result of the table is the first fault.
use Rattle.std.proofs.Common.{◌≡◌, ℕ, Bool, true, false, ◌&&◌, List, [], ◌∷◌, ◌++◌, map, Option}
use Rattle.std.proofs.Common.{Some, None, refl, ap, sym, ◌∙◌, subst, arith, inl, inr, if◌then◌else◌}
use Rattle.std.proofs.Common.{◌≤◌, ◌<◌, nat_lt}
use Rattle.std.proofs.lemmas.Bool.Decides.{nat_tests}
use Rattle.kore_text.specs.declared.symbols.Symbol.{Symbol}
use Rattle.kore_text.specs.declared.symbols.Symbol.TheVariants as symbol
use Rattle.kore_text.specs.TokenStream.{KoreToken, Stream, end, no_token_at, token}
use Rattle.kore_text.specs.Grammar.{in_order, spell_module}
use Rattle.kore_text.specs.Table.{is_fold, step, passes, run, empty_fold, can_end, onward}
use Rattle.kore_text.specs.Table.{pattern_symbols, definition_symbols}
use Rattle.kore_text.specs.Faults.{IsPattern, IsDefinition, IsEmptyFold, PlacedToken, followed_by}
use Rattle.kore_text.specs.Faults.{open_after, Begins, IsGood, Stops, GoesDeep, Follows}
use Rattle.kore_text.specs.Faults.{IsFirstFaultOfText}
use Rattle.kore_text.specs.Depth.{opened, IsShallow}
use Rattle.kore_text.specs.declared.faults.TextFault.{TextFault}
use Rattle.kore_text.specs.declared.faults.TextFault.TheVariants.{Lex, Syntax, Deep}
use Rattle.kore_text.proofs.AcceptedDefinitions.{accepts-pattern, accepts-definition}
use Rattle.kore_text.proofs.Saying.{Pieces}
use Rattle.kore_text.proofs.Completing.{completes, ends-back, step-back, is-empty-fold, fold-found}

-- what follows the good tokens; `In` has the texts that go on, and `Out` has the texts that would
-- be accepted
abbrev Standing : (Stream → Type 0) → (Stream → Type 0) → ℕ → List PlacedToken → Stream → TextFault
    → Type 0
Standing In Out n good rest (Lex at) = rest ≡ no_token_at at
Standing In Out n good rest (Syntax at) = Stops Out good rest at
Standing In Out n good rest (Deep at) = GoesDeep In n good rest at

pub record HasFaultIn (In Out : Stream → Type 0) (n : ℕ) (s : Stream) (f : TextFault) :
    Type 0 where
  pub good : List PlacedToken
  pub rest : Stream
  pub is : s ≡ followed_by good rest
  pub are_good : IsGood In n good rest
  pub next : Standing In Out n good rest f

-- what a result says
abbrev pub Explained : (Stream → Type 0) → (Stream → Type 0) → ℕ → Stream → Option TextFault
    → Type 0
Explained In Out n s None = In s × IsShallow n s
Explained In Out n s (Some f) = HasFaultIn In Out n s f

abbrev pub Fits : List Symbol → Stream → Type 0
Fits k s = (e : ℕ) × Pieces k s (end e)

abbrev pub Accepts : List Symbol → Stream → Type 0
Accepts k s = run s None k ≡ None

begins-cons : (In In' : Stream → Type 0) (t : KoreToken) (p : ℕ) (good : List PlacedToken)
    → ((r : Stream) → In' r → In (token t p r)) → Begins In' good → Begins In ((t, p) ∷ good)
begins-cons In In' t p good inn b = (b.0, inn (followed_by good b.0) b.1)

begins-tail : (Out Out' : Stream → Type 0) (t : KoreToken) (p : ℕ) (good : List PlacedToken)
    → ((r : Stream) → Out (token t p r) → Out' r) → Begins Out ((t, p) ∷ good) → Begins Out' good
begins-tail Out Out' t p good out b = (b.0, out (followed_by good b.0) b.1)

stops-step : (Out Out' : Stream → Type 0) (t : KoreToken) (p : ℕ) (good : List PlacedToken)
    (rest : Stream) (at : ℕ) → ((r : Stream) → Out (token t p r) → Out' r) → Stops Out' good rest at
    → Stops Out ((t, p) ∷ good) rest at
stops-step Out Out' t p good (end e) at out h =
    (h.0, λ o. h.1 (out (followed_by good (end e)) o))
stops-step Out Out' t p good (no_token_at e) at out h = absurd h
stops-step Out Out' t p good (token u q r) at out h = (
  h.0,
  elim h.1 [
    | inl f ↦ inl (λ b. f (begins-tail Out Out' t p (good ++ (u, q) ∷ []) out b))
    | inr g ↦ inr g
  ],
)

deep-step : (In In' : Stream → Type 0) (t : KoreToken) (p n : ℕ) (good : List PlacedToken)
    (rest : Stream) (at : ℕ) → ((r : Stream) → In' r → In (token t p r))
    → GoesDeep In' (opened t n) good rest at → GoesDeep In n ((t, p) ∷ good) rest at
deep-step In In' t p n good (end e) at inn h = absurd h
deep-step In In' t p n good (no_token_at e) at inn h = absurd h
deep-step In In' t p n good (token u q r) at inn h =
    (h.0, begins-cons In In' t p (good ++ (u, q) ∷ []) inn h.1, h.2)

heads : (t u : PlacedToken) (ts us : List PlacedToken) → t ∷ ts ≡ u ∷ us → t ≡ u
heads t u ts us e = cc

tails : (t u : PlacedToken) (ts us : List PlacedToken) → t ∷ ts ≡ u ∷ us → ts ≡ us
tails t u ts us e = cc

shallow-step : (t : PlacedToken) (good : List PlacedToken) (n : ℕ) → opened t.0 n ≤ 500
    → ((before : List PlacedToken) (u : PlacedToken) (after : List PlacedToken)
    → good ≡ before ++ u ∷ after → opened u.0 (open_after before (opened t.0 n)) ≤ 500)
    → (before : List PlacedToken) (u : PlacedToken) (after : List PlacedToken)
    → t ∷ good ≡ before ++ u ∷ after → opened u.0 (open_after before n) ≤ 500
shallow-step t good n l others [] u after e =
    subst (λ (x : PlacedToken). opened x.0 n ≤ 500) (heads t u good after e) l
shallow-step t good n l others (b ∷ before) u after e =
    subst (λ (x : PlacedToken). opened u.0 (open_after before (opened x.0 n)) ≤ 500)
    (heads t b good (before ++ u ∷ after) e)
    (others before u after (tails t b good (before ++ u ∷ after) e))

filled-step : (t : PlacedToken) (good : List PlacedToken) (rest : Stream)
    → (IsEmptyFold t.0 (followed_by good rest) → ⊥)
    → ((before : List PlacedToken) (u : PlacedToken) (after : List PlacedToken)
    → good ≡ before ++ u ∷ after → IsEmptyFold u.0 (followed_by after rest) → ⊥)
    → (before : List PlacedToken) (u : PlacedToken) (after : List PlacedToken)
    → t ∷ good ≡ before ++ u ∷ after → IsEmptyFold u.0 (followed_by after rest) → ⊥
filled-step t good rest f others [] u after e empty =
    f (subst (λ (x : PlacedToken). IsEmptyFold x.0 (followed_by good rest))
    (sym (heads t u good after e))
    (subst (λ (ts : List PlacedToken). IsEmptyFold u.0 (followed_by ts rest))
    (sym (tails t u good after e)) empty))
filled-step t good rest f others (b ∷ before) u after e empty =
    others before u after (tails t b good (before ++ u ∷ after) e) empty

good-step : (In In' : Stream → Type 0) (t : KoreToken) (p n : ℕ) (good : List PlacedToken)
    (rest : Stream) → ((r : Stream) → In' r → In (token t p r)) → opened t n ≤ 500
    → (IsEmptyFold t (followed_by good rest) → ⊥) → IsGood In' (opened t n) good rest
    → IsGood In n ((t, p) ∷ good) rest
good-step In In' t p n good rest inn l f g =
    record {
      begins = begins-cons In In' t p good inn g.begins;
      shallow = shallow-step (t, p) good n l g.shallow;
      filled = filled-step (t, p) good rest f g.filled;
    }

standing-step : (In In' Out Out' : Stream → Type 0) (t : KoreToken) (p n : ℕ)
    (good : List PlacedToken) (rest : Stream) (f : TextFault)
    → ((r : Stream) → In' r → In (token t p r)) → ((r : Stream) → Out (token t p r) → Out' r)
    → Standing In' Out' (opened t n) good rest f → Standing In Out n ((t, p) ∷ good) rest f
standing-step In In' Out Out' t p n good rest (Lex at) inn out h = h
standing-step In In' Out Out' t p n good rest (Syntax at) inn out h =
    stops-step Out Out' t p good rest at out h
standing-step In In' Out Out' t p n good rest (Deep at) inn out h =
    deep-step In In' t p n good rest at inn h

-- a good token before the others
onwards : (In In' Out Out' : Stream → Type 0) (t : KoreToken) (p n : ℕ) (s : Stream)
    (v : Option TextFault) → ((r : Stream) → In' r → In (token t p r))
    → ((r : Stream) → Out (token t p r) → Out' r) → opened t n ≤ 500 → (IsEmptyFold t s → ⊥)
    → Explained In' Out' (opened t n) s v → Explained In Out n (token t p s) v
onwards In In' Out Out' t p n s None inn out l f h = (inn s h.0, (l, h.1))
onwards In In' Out Out' t p n s (Some v) inn out l f h = record {
  good = (t, p) ∷ h.good;
  rest = h.rest;
  is = ap (token t p) h.is;
  are_good =
      good-step In In' t p n h.good h.rest inn l
      (λ empty. f (subst (IsEmptyFold t) (sym h.is) empty)) h.are_good;
  next = standing-step In In' Out Out' t p n h.good h.rest v inn out h.next;
}

none-before : (before : List PlacedToken) (u : PlacedToken) (after : List PlacedToken)
    → [] ≡ before ++ u ∷ after → ⊥
none-before [] u after e = let z : ⊥ = cc in z
none-before (b ∷ before) u after e = let z : ⊥ = cc in z

good-start : (k : List Symbol) (n : ℕ) (s : Stream) → IsGood (Fits k) n [] s
good-start k n s =
    let c = completes k (end 0) in
    record {
      begins = (c.0, (0, c.1));
      shallow = λ before u after e. absurd (none-before before u after e);
      filled = λ before u after e empty. none-before before u after e;
    }

-- the fault comes at once
at-once : (Out : Stream → Type 0) (k : List Symbol) (n : ℕ) (s : Stream) (f : TextFault)
    → Standing (Fits k) Out n [] s f → Explained (Fits k) Out n s (Some f)
at-once Out k n s f h =
    record { good = []; rest = s; is = refl; are_good = good-start k n s; next = h }

end-run : (e : ℕ) (k : List Symbol) → can_end k ≡ false → run (end e) None k ≡ Some (Syntax e)
unfolding run
end-run e k h = rw h refl

end-case : (e n : ℕ) (k : List Symbol) (v : Option TextFault) (x : Bool) → x ≡ can_end k
    → (if x then None else Some (Syntax e)) ≡ v → Explained (Fits k) (Accepts k) n (end e) v
end-case e n k v true i h =
    subst (Explained (Fits k) (Accepts k) n (end e)) h ((e, ends-back k (end e) (sym i)), tt)
end-case e n k v false i h =
    subst (Explained (Fits k) (Accepts k) n (end e)) h
    (at-once (Accepts k) k n (end e) (Syntax e) (
      refl,
      λ o.
          (let z : Some (Syntax e) ≡ None = sym (end-run e k (sym i)) ∙ o in let y : ⊥ = cc in y),
    ))

stuck-case : (t : KoreToken) (p : ℕ) (r : Stream) (k : List Symbol) (x : Bool)
    → (if x then Some (Syntax p) else onward (run r) p None None) ≡ None → ⊥
stuck-case t p r k true h = let y : ⊥ = cc in y
stuck-case t p r k false h = let y : ⊥ = cc in y

pub stuck-run : (t : KoreToken) (p : ℕ) (r : Stream) (k : List Symbol) → step k t ≡ None
    → run (token t p r) None k ≡ None → ⊥
unfolding run
stuck-run t p r k m h =
    stuck-case t p r k (is_fold t && passes r empty_fold) (subst (λ mv. (if is_fold t && passes r
    empty_fold then Some (Syntax p) else onward (run r) p None mv) ≡ None) m h)

on-case : (t : KoreToken) (p : ℕ) (r : Stream) (k' : List Symbol) (x : Bool)
    → (if x then Some (Syntax p) else onward (run r) p None (Some k')) ≡ None → run r None k' ≡ None
on-case t p r k' true h = let y : ⊥ = cc in absurd y
on-case t p r k' false h = h

pub on-run : (t : KoreToken) (p : ℕ) (r : Stream) (k k' : List Symbol) → step k t ≡ Some k'
    → run (token t p r) None k ≡ None → run r None k' ≡ None
unfolding run
on-run t p r k k' m h =
    on-case t p r k' (is_fold t && passes r empty_fold) (subst (λ mv. (if is_fold t && passes r
    empty_fold then Some (Syntax p) else onward (run r) p None mv) ≡ None) m h)

no-start : (t : KoreToken) (p : ℕ) (k : List Symbol) → step k t ≡ None
    → Begins (Accepts k) ((t, p) ∷ []) → ⊥
no-start t p k m b = stuck-run t p b.0 k m b.1

above : (n : ℕ) → nat_lt 500 n ≡ true → 500 < n
above n h = grind (arith, nat_tests)

not-above : (n : ℕ) → nat_lt 500 n ≡ false → n ≤ 500
not-above n h = grind (arith, nat_tests)

true-false : (x : Bool) → x ≡ false → x ≡ true → ⊥
true-false x h i = let y : ⊥ = cc in y

fits-more : (k k' : List Symbol) (t : KoreToken) (p : ℕ) → step k t ≡ Some k' → (r : Stream)
    → Fits k' r
    → Fits k (token t p r)
fits-more k k' t p m r f = (f.0, step-back k t p r k' (end f.0) m f.1)

abbrev onward-by : Bool → (Option ℕ → List Symbol → Option TextFault) → ℕ → Option ℕ
    → Option (List Symbol) → Option TextFault
onward-by d go at n None = Some (Syntax at)
onward-by d go at n (Some k) = if d then Some (Deep at) else go n k

onward-is : (x : Bool) (mv : Option (List Symbol)) (go : Option ℕ → List Symbol → Option TextFault)
    (p n : ℕ) (v : Option TextFault)
    → (if x then Some (Syntax p) else onward go p (Some n) mv) ≡ v
    → (if x then Some (Syntax p) else onward-by (nat_lt 500 n) go p (Some n) mv) ≡ v
onward-is x None go p n v h = h
onward-is x (Some k) go p n v h = h

token-case : (t : KoreToken) (p : ℕ) (s : Stream) (n : ℕ) (k : List Symbol) (v : Option TextFault)
    (x : Bool) (mv : Option (List Symbol)) (d : Bool) → (is_fold t && passes s empty_fold) ≡ x
    → step k t ≡ mv → nat_lt 500 (opened t n) ≡ d
    → (if x then Some (Syntax p) else onward-by d (run s) p (Some (opened t n)) mv) ≡ v
    → ((k' : List Symbol) (v' : Option TextFault) → run s (Some (opened t n)) k' ≡ v'
    → Explained (Fits k') (Accepts k') (opened t n) s v')
    → Explained (Fits k) (Accepts k) n (token t p s) v
token-case t p s n k v true mv d i m l h rec =
    subst (Explained (Fits k) (Accepts k) n (token t p s)) h
    (at-once (Accepts k) k n (token t p s) (Syntax p) (refl, inr (is-empty-fold t s i)))
token-case t p s n k v false None d i m l h rec =
    subst (Explained (Fits k) (Accepts k) n (token t p s)) h
    (at-once (Accepts k) k n (token t p s) (Syntax p) (refl, inl (no-start t p k m)))
token-case t p s n k v false (Some k') true i m l h rec =
    subst (Explained (Fits k) (Accepts k) n (token t p s)) h
    (at-once (Accepts k) k n (token t p s) (Deep p) (
      refl,
      begins-cons (Fits k) (Fits k') t p [] (fits-more k k' t p m) (good-start k' n s).begins,
      above (opened t n) l,
    ))
token-case t p s n k v false (Some k') false i m l h rec =
    onwards (Fits k) (Fits k') (Accepts k) (Accepts k') t p n s v (fits-more k k' t p m)
    (λ r o. on-run t p r k k' m o) (not-above (opened t n) l)
    (λ f. true-false (is_fold t && passes s empty_fold) i (fold-found t s f)) (rec k' v h)

pub explain : (s : Stream) (n : ℕ) (k : List Symbol) (v : Option TextFault) → run s (Some n) k ≡ v
    → Explained (Fits k) (Accepts k) n s v
unfolding run
explain (end e) n k v h = end-case e n k v (can_end k) refl h
explain (no_token_at e) n k v h =
    subst (Explained (Fits k) (Accepts k) n (no_token_at e)) h
    (at-once (Accepts k) k n (no_token_at e) (Lex e) refl)
explain (token t p s) n k v h =
    token-case t p s n k v (is_fold t && passes s empty_fold) (step k t) (nat_lt 500 (opened t n))
    refl refl refl
    (onward-is (is_fold t && passes s empty_fold) (step k t) (run s) p (opened t n) v h)
    (λ k' v' h'. explain s (opened t n) k' v' h')

in-language : (L : Stream → Type 0) (k : List Symbol) (n : ℕ) (good : List PlacedToken)
    (rest : Stream) → ((r : Stream) → Fits k r → L r) → IsGood (Fits k) n good rest
    → IsGood L n good rest
in-language L k n good rest inn g =
    record {
      begins = (g.begins.0, inn (followed_by good g.begins.0) g.begins.1);
      shallow = g.shallow;
      filled = g.filled;
    }

stops-in : (L : Stream → Type 0) (k : List Symbol) (good : List PlacedToken) (rest : Stream)
    (at : ℕ) → ((r : Stream) → L r → Accepts k r) → Stops (Accepts k) good rest at
    → Stops L good rest at
stops-in L k good (end e) at out h = (h.0, λ o. h.1 (out (followed_by good (end e)) o))
stops-in L k good (no_token_at e) at out h = absurd h
stops-in L k good (token t p r) at out h = (
  h.0,
  elim h.1 [
    | inl f ↦ inl (λ b. f (b.0, out (followed_by (good ++ (t, p) ∷ []) b.0) b.1))
    | inr g ↦ inr g
  ],
)

deep-in : (L : Stream → Type 0) (k : List Symbol) (n : ℕ) (good : List PlacedToken)
    (rest : Stream) (at : ℕ) → ((r : Stream) → Fits k r → L r) → GoesDeep (Fits k) n good rest at
    → GoesDeep L n good rest at
deep-in L k n good (end e) at inn h = absurd h
deep-in L k n good (no_token_at e) at inn h = absurd h
deep-in L k n good (token t p r) at inn h =
    (h.0, (h.1.0, inn (followed_by (good ++ (t, p) ∷ []) h.1.0) h.1.1), h.2)

follows-in : (L : Stream → Type 0) (k : List Symbol) (n : ℕ) (good : List PlacedToken)
    (rest : Stream) (f : TextFault) → ((r : Stream) → Fits k r → L r)
    → ((r : Stream) → L r → Accepts k r) → Standing (Fits k) (Accepts k) n good rest f
    → Follows L n good rest f
follows-in L k n good rest (Lex at) inn out h = h
follows-in L k n good rest (Syntax at) inn out h = stops-in L k good rest at out h
follows-in L k n good rest (Deep at) inn out h = deep-in L k n good rest at inn h

first-fault : (L : Stream → Type 0) (k : List Symbol) (n : ℕ) (s : Stream) (v : Option TextFault)
    → ((r : Stream) → Fits k r → L r) → ((r : Stream) → L r → Accepts k r)
    → Explained (Fits k) (Accepts k) n s v → IsFirstFaultOfText L n s v
first-fault L k n s None inn out h = (inn s h.0, h.1)
first-fault L k n s (Some f) inn out h = record {
  good = h.good;
  rest = h.rest;
  is = h.is;
  are_good = in-language L k n h.good h.rest inn h.are_good;
  next = follows-in L k n h.good h.rest f inn out h.next;
}

fits-pattern : (r : Stream) → Fits pattern_symbols r → IsPattern r
fits-pattern r f = (f.1.1.0, f.0, f.1.1.1 [] (end f.0) f.1.2)

fits-definition : (r : Stream) → Fits definition_symbols r → IsDefinition r
fits-definition r f =
    let m : Pieces definition_symbols r (end f.0) = f.1 in
    let k : Pieces (symbol.Module ∷ symbol.Modules ∷ []) m.0 (end f.0) = m.2 in
    let g : Pieces (symbol.Modules ∷ []) k.0 (end f.0) = k.2 in (
      record { attributes = m.1.0; modules = k.1.0 ∷ g.1.0 },
      f.0,
      (
        refl,
        m.1.1 (in_order (map spell_module (k.1.0 ∷ g.1.0)) []) (end f.0)
            (k.1.1 (in_order (map spell_module g.1.0) []) (end f.0) (g.1.1 [] (end f.0) g.2)),
      ),
    )

-- the result of the table is the first fault
pub pattern_fault : (s : Stream) → IsFirstFaultOfText IsPattern 0 s (run s (Some 0) pattern_symbols)
pattern_fault s =
    first-fault IsPattern pattern_symbols 0 s (run s (Some 0) pattern_symbols) fits-pattern
    accepts-pattern (explain s 0 pattern_symbols (run s (Some 0) pattern_symbols) refl)

pub definition_fault : (s : Stream)
    → IsFirstFaultOfText IsDefinition 0 s (run s (Some 0) definition_symbols)
definition_fault s =
    first-fault IsDefinition definition_symbols 0 s (run s (Some 0) definition_symbols)
    fits-definition accepts-definition
    (explain s 0 definition_symbols (run s (Some 0) definition_symbols) refl)
