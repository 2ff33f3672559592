-- The search for the first injection symbol.
use Rattle.std.proofs.Common.{◌≡◌, ◌≢◌, ℕ, zero, suc, ◌+◌, ◌<◌, ◌≤◌, ⊎_elim, List, [], ◌∷◌, length}
use Rattle.std.proofs.Common.{Some, refl, sym, ◌∙◌, ap, subst, arith}
use Rattle.std.specs.Prelude.{slice_get}
use Rattle.std.proofs.lemmas.Option.{slice_get_within}
use Rattle.std.proofs.Math.Nat.{eq-or-lt_of_le}
use Rattle.rule_core.specs.Sorting.{IsSymbol}
use Rattle.rule_core.specs.declared.signature.Signature.{Signature}
use Rattle.rule_core.specs.declared.signature.SymInfo.{SymInfo}
use Rattle.rule_core.specs.declared.signature.SymKind.TheVariants.{Injection}

-- none of the symbols before this number is an injection symbol
abbrev pub NoneInjects : Signature → ℕ → Type 0
NoneInjects sig n = (g : ℕ) (info : SymInfo) → g < n → IsSymbol sig g info → info.kind ≢ Injection

-- a number below the count of symbols is the number of a symbol
pub symbol_within : (sig : Signature) (i : ℕ) → i < length sig.symbols
    → (info : SymInfo) × IsSymbol sig i info
symbol_within sig i lt = let e = item sig.symbols i lt in (e.0.1, (e.0.0, e.1)) where
  item : (xs : List (List ℕ × SymInfo)) (k : ℕ) → k < length xs
      → (x : List ℕ × SymInfo) × (slice_get xs k ≡ Some x)
  item [] k within = absurd (omega arith)
  item (x ∷ xs) zero within = (x, refl)
  item (x ∷ xs) (suc k) within = item xs k (omega arith)

same_info : (sig : Signature) (i : ℕ) (a b : SymInfo) → IsSymbol sig i a → IsSymbol sig i b → a ≡ b
same_info sig i a b x y =
    let e : Some (x.0, a) ≡ Some (y.0, b) = sym x.1 ∙ y.1 in
    let pair : (x.0, a) ≡ (y.0, b) = cc in
    ap (λ (q : List ℕ × SymInfo). q.1) pair

pub none_more : (sig : Signature) (i : ℕ) (info : SymInfo) → NoneInjects sig i → IsSymbol sig i info
    → info.kind ≢ Injection → NoneInjects sig (i + 1)
none_more sig i info none there other = λ g found lt is k.
    ⊎_elim
    (λ (same : g ≡ i). let own : IsSymbol sig i found = subst (λ j. IsSymbol sig j found) same is in
    other (ap (λ (s : SymInfo). s.kind) (same_info sig i info found there own) ∙ k))
    (λ (before : g < i). none g found before is k)
    (eq-or-lt_of_le (omega arith))

pub none_after : (sig : Signature) (n : ℕ) → NoneInjects sig n → length sig.symbols ≤ n
    → (f : ℕ) (info : SymInfo) → IsSymbol sig f info → info.kind ≢ Injection
none_after sig n none all f info is =
    let within : f < length sig.symbols = slice_get_within sig.symbols f _ is.1 in
    none f info (omega arith) is
