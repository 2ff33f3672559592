-- Declared sorts and symbols, by their numbers.
use Rattle.std.proofs.Common.{◌≡◌, ◌+◌, ◌<◌, ℕ, zero, suc, List, [], ◌∷◌, drop, length, Bool, true}
use Rattle.std.proofs.Common.{false, slice_get, Some, IsSome, option_map, refl, ◌∙◌, ap, arith}
use Rattle.std.proofs.Common.{if◌then◌else◌}
use Rattle.std.proofs.lemmas.List.{drop_more}
use Rattle.std.proofs.lemmas.Option.{slice_get_within, get_or_from_slice_get}
use Rattle.rule_core.specs.declared.signature.SymInfo.{SymInfo}
use Rattle.kore_show.specs.KorePatterns.{declared_name, injection_name}
use Rattle.rule_core.specs.KindTests.{is_injection}

-- each number below the length is declared
pub name-there : {V : Type 0} → (entries : List (List ℕ × V)) (n : ℕ) → n < length entries
    → IsSome (declared_name entries n)
name-there {V} [] n lt = absurd (omega arith)
name-there {V} (e ∷ es) zero lt = refl
name-there {V} (e ∷ es) (suc n) lt = name-there es n (omega arith)

pub found-there : {V : Type 0} → (entries : List (List ℕ × V)) (n : ℕ) (e : List ℕ × V)
    → slice_get entries n ≡ Some e → declared_name entries n ≡ Some e.0
found-there {V} entries n e at = ap (option_map (λ (x : List ℕ × V). x.0)) at

-- the rest of the symbols, beginning with this one
front : (es : List (List ℕ × SymInfo)) (n : ℕ) (e : List ℕ × SymInfo) → slice_get es n ≡ Some e
    → drop n es ≡ e ∷ drop (n + 1) es
front es n e at =
    drop_more es n e (slice_get_within es n e at)
    ∙ ap (λ (d : List ℕ × SymInfo). d ∷ drop (n + 1) es) (get_or_from_slice_get es n e e at)

-- the search continues after a symbol that is not the injection symbol
pub next-injection : (es : List (List ℕ × SymInfo)) (n : ℕ) (e : List ℕ × SymInfo)
    → slice_get es n ≡ Some e → is_injection e.1.kind ≡ false
    → injection_name (drop n es) ≡ injection_name (drop (n + 1) es)
next-injection es n e at fails = rw (front es n e at, fails) refl

-- the search ends at the injection symbol
pub this-injection : (es : List (List ℕ × SymInfo)) (n : ℕ) (e : List ℕ × SymInfo)
    → slice_get es n ≡ Some e → is_injection e.1.kind ≡ true
    → declared_name es n ≡ injection_name (drop n es)
this-injection es n e at holds = rw (front es n e at, holds) (found-there es n e at)

-- if some symbol is an injection symbol, there is a first one
pub injection-there : (es : List (List ℕ × SymInfo)) (n : ℕ) (e : List ℕ × SymInfo)
    → slice_get es n ≡ Some e → is_injection e.1.kind ≡ true → IsSome (injection_name es)
injection-there [] n e at holds = absurd (let wrong : ⊥ = cc in wrong)
injection-there (d ∷ es) zero e at holds =
    let same : d ≡ e = cc in
    let this : is_injection d.1.kind ≡ true =
    ap (λ (x : List ℕ × SymInfo). is_injection x.1.kind) same ∙ holds in
    rw this refl
injection-there (d ∷ es) (suc n) e at holds =
    either (is_injection d.1.kind) d.0 (injection-there es n e at holds)
  where
    either : (b : Bool) (name : List ℕ) → IsSome (injection_name es)
        → IsSome (if b then Some name else injection_name es)
    either true name h = refl
    either false name h = h
