-- A text of the language in which at most 500 brackets are open has no fault.
use Rattle.std.proofs.Common.{◌≡◌, ℕ, Bool, true, false, ◌&&◌, List, [], ◌∷◌, Option, Some, None}
use Rattle.std.proofs.Common.{refl, sym, subst, arith, inl, inr, if◌then◌else◌}
use Rattle.kore_text.specs.declared.symbols.Symbol.{Symbol}
use Rattle.kore_text.specs.declared.faults.TextFault.{TextFault}
use Rattle.kore_text.specs.declared.faults.TextFault.TheVariants.{Lex, Syntax, Deep}
use Rattle.kore_text.specs.TokenStream.{KoreToken, Stream, end, no_token_at, token, token_stream}
use Rattle.kore_text.specs.TextLaws.{PatternHasNoFault, DefinitionHasNoFault}
use Rattle.kore_text.specs.Table.{is_fold, step, passes, run, empty_fold, onward, pattern_symbols}
use Rattle.kore_text.specs.Table.{definition_symbols}
use Rattle.kore_text.specs.Faults.{PlacedToken, followed_by, open_after, Stops, GoesDeep, Follows}
use Rattle.kore_text.specs.Faults.{IsFirstFaultOfText, IsPattern, IsDefinition}
use Rattle.kore_text.specs.Depth.{opened, IsShallow}
use Rattle.kore_text.proofs.AcceptedDefinitions.{accepts-pattern, accepts-definition}
use Rattle.kore_text.proofs.Completing.{fold-found}
use Rattle.kore_text.proofs.Explaining.{Accepts, stuck-run, on-run}
use Rattle.kore_text.proofs.Unique.{followed_by-append}

-- after an accepted token, some stack accepts what follows
accepted-on : (t : KoreToken) (p : ℕ) (r : Stream) (k : List Symbol) (m : Option (List Symbol))
    → step k t ≡ m → Accepts k (token t p r) → (k' : List Symbol) × Accepts k' r
accepted-on t p r k None e h = absurd (stuck-run t p r k e h)
accepted-on t p r k (Some k') e h = (k', on-run t p r k k' e h)

accepted-after : (good : List PlacedToken) (rest : Stream) (k : List Symbol)
    → Accepts k (followed_by good rest) → (k' : List Symbol) × Accepts k' rest
accepted-after [] rest k h = (k, h)
accepted-after (t ∷ good) rest k h =
    let o = accepted-on t.0 t.1 (followed_by good rest) k (step k t.0) refl h in
    accepted-after good rest o.0 o.1

no-fault : (e : ℕ) (k : List Symbol) → Accepts k (no_token_at e) → ⊥
unfolding run
no-fault e k h = let z : ⊥ = cc in z

fold-case : (p : ℕ) (x : Bool) (other : Option TextFault) → x ≡ true
    → (if x then Some (Syntax p) else other) ≡ None → ⊥
fold-case p true other e h = let z : ⊥ = cc in z
fold-case p false other e h = let z : ⊥ = cc in z

no-empty-fold : (t : KoreToken) (p : ℕ) (r : Stream) (k : List Symbol)
    → (is_fold t && passes r empty_fold) ≡ true → Accepts k (token t p r) → ⊥
unfolding run
no-empty-fold t p r k e h =
    fold-case p (is_fold t && passes r empty_fold) (onward (run r) p None (step k t)) e h

shallow-after : (good : List PlacedToken) (n : ℕ) (rest : Stream)
    → IsShallow n (followed_by good rest) → IsShallow (open_after good n) rest
shallow-after [] n rest h = h
shallow-after (t ∷ good) n rest h = shallow-after good (opened t.0 n) rest h.1

not-stopped : (L : Stream → Type 0) (good : List PlacedToken) (rest : Stream) (k : List Symbol)
    (at : ℕ) → L (followed_by good rest) → Accepts k rest → Stops L good rest at → ⊥
not-stopped L good (end e) k at l h stops = stops.1 l
not-stopped L good (no_token_at e) k at l h stops = stops
not-stopped L good (token t p r) k at l h stops =
    elim stops.1 [
      | inl never ↦ never (r, subst L (sym (followed_by-append good ((t, p) ∷ []) r)) l)
      | inr empty ↦ no-empty-fold t p r k (fold-found t r empty) h
    ]

not-deep : (L : Stream → Type 0) (n : ℕ) (good : List PlacedToken) (rest : Stream) (at : ℕ)
    → IsShallow (open_after good n) rest → GoesDeep L n good rest at → ⊥
not-deep L n good (end e) at h deep = deep
not-deep L n good (no_token_at e) at h deep = deep
not-deep L n good (token t p r) at h deep = absurd (omega (arith, h.0, deep.2))

not-there : (L : Stream → Type 0) (k : List Symbol) (n : ℕ) (good : List PlacedToken)
    (rest : Stream) (f : TextFault) → L (followed_by good rest) → Accepts k rest
    → IsShallow (open_after good n) rest → Follows L n good rest f → ⊥
not-there L k n good rest (Lex at) l h d next = no-fault at k (subst (Accepts k) next h)
not-there L k n good rest (Syntax at) l h d next = not-stopped L good rest k at l h next
not-there L k n good rest (Deep at) l h d next = not-deep L n good rest at d next

faultless : (L : Stream → Type 0) (k : List Symbol) (n : ℕ) (s : Stream) (f : TextFault)
    → (L s → Accepts k s) → IsFirstFaultOfText L n s None → IsFirstFaultOfText L n s (Some f) → ⊥
faultless L k n s f accepts fine h =
    let o = accepted-after h.good h.rest k (subst (Accepts k) h.is (accepts fine.0)) in
    not-there L o.0 n h.good h.rest f (subst L h.is fine.0) o.1
    (shallow-after h.good n h.rest (subst (IsShallow n) h.is fine.1)) h.next

pub pattern-faultless : PatternHasNoFault
pattern-faultless bytes f =
    faultless IsPattern pattern_symbols 0 (token_stream bytes) f
    (accepts-pattern (token_stream bytes))

pub definition-faultless : DefinitionHasNoFault
definition-faultless bytes f =
    faultless IsDefinition definition_symbols 0 (token_stream bytes) f
    (accepts-definition (token_stream bytes))
