-- What the declarations of a definition say about the kinds of symbols.
use Rattle.std.proofs.Common.{◌≡◌, ℕ, zero, suc, ◌+◌, Bool, true, false, ◌&&◌, List, [], ◌∷◌}
use Rattle.std.proofs.Common.{length, slice_get, Some, refl, ap, sym, ◌∙◌, arith}
use Rattle.std.specs.Prelude.{◌==◌, if◌then◌else◌, codes, option_map}
use Rattle.std.specs.List.{position_from}
use Rattle.std.specs.Option.{option_and_then}
use Rattle.std.specs.Str.{bytes_eq}
use Rattle.std.proofs.lemmas.Bool.{eqb-true}
use Rattle.std.proofs.lemmas.Slice.Eq.{bytes_eq-Decides}
use Rattle.kore_text.specs.Trees.{DefinitionTree}
use Rattle.rule_core.specs.Named.{number_of_name}
use Rattle.rule_core.specs.DistinctNames.{names_of, IsNoneOf, AreDistinct}
use Rattle.rule_core.specs.declared.signature.Signature.{Signature}
use Rattle.rule_core.specs.declared.signature.SymInfo.{SymInfo}
use Rattle.rule_core.specs.declared.signature.SymKind.TheVariants.{Injection, Ctor, Equations}
use Rattle.rule_core.specs.declared.signature.SymKind.TheVariants.{Hooked, Closed, NoKind}
use Rattle.kore_sig.specs.Attributes.{has_attribute}
use Rattle.kore_sig.specs.Declarations.{symbols_of}
use Rattle.kore_sig.specs.Signatures.{IsSignatureOf}
use Rattle.kore_sig.specs.SymbolKinds.{injection_of, is_named_so, ac_names}
use Rattle.kore_sig.proofs.InjectionLaws.{entry_of}
use Rattle.kore_check.specs.PatternSorts.{symbol_info, symbol_named}

equations_by : (a b c z k : Bool)
    → (if a then Injection else if b then (if k then Equations else Closed) else if c && z then Ctor
    else NoKind) ≡ Equations → k ≡ true
equations_by true b c z k e = absurd (let no : ⊥ = cc in no)
equations_by false true c z true e = refl
equations_by false true c z false e = absurd (let no : ⊥ = cc in no)
equations_by false false true true k e = absurd (let no : ⊥ = cc in no)
equations_by false false true false k e = absurd (let no : ⊥ = cc in no)
equations_by false false false z k e = absurd (let no : ⊥ = cc in no)

hooked_by : (a b c z k : Bool) (row : _)
    → (if a then Injection else if b then (if k then Equations else Closed) else if c && z then Ctor
    else NoKind) ≡ Hooked row → ⊥
hooked_by true b c z k row e = let no : ⊥ = cc in no
hooked_by false true c z true row e = let no : ⊥ = cc in no
hooked_by false true c z false row e = let no : ⊥ = cc in no
hooked_by false false true true k row e = let no : ⊥ = cc in no
hooked_by false false true false k row e = let no : ⊥ = cc in no
hooked_by false false false z k row e = let no : ⊥ = cc in no

-- a function with equations has no sort parameters
pub functions_plain : (d : DefinitionTree) (sig : Signature) (f : ℕ) (e : List ℕ × SymInfo)
    → IsSignatureOf d sig → slice_get sig.symbols f ≡ Some e → e.1.kind ≡ Equations → e.1.params ≡ 0
functions_plain d sig f e is at kind =
    let x =
    entry_of sig.sorts (injection_of (symbols_of d)) (ac_names d) (symbols_of d) sig.symbols f e
    is.symbols at in
    let none : length x.0.params ≡ 0 =
    eqb-true (length x.0.params) 0 (equations_by
    (is_named_so (injection_of (symbols_of d)) x.0.name)
    (has_attribute (codes "function") x.0.attributes)
    (has_attribute (codes "constructor") x.0.attributes) (length x.0.params == 0)
    (length x.0.params == 0) (sym x.1.kind ∙ kind)) in
    x.1.params ∙ none

-- no symbol is declared to have the values of a hook
pub never_hooked : (d : DefinitionTree) (sig : Signature) (f : ℕ) (e : List ℕ × SymInfo) (row : _)
    → IsSignatureOf d sig → slice_get sig.symbols f ≡ Some e → e.1.kind ≡ Hooked row → ⊥
never_hooked d sig f e row is at kind =
    let x =
    entry_of sig.sorts (injection_of (symbols_of d)) (ac_names d) (symbols_of d) sig.symbols f e
    is.symbols at in
    hooked_by (is_named_so (injection_of (symbols_of d)) x.0.name)
    (has_attribute (codes "function") x.0.attributes)
    (has_attribute (codes "constructor") x.0.attributes) (length x.0.params == 0)
    (length x.0.params == 0) row (sym x.1.kind ∙ kind)

-- ---- distinct names

none_at : {V : Type 0} (n : List ℕ) (es : List (List ℕ × V)) (f : ℕ) (e : List ℕ × V)
    → IsNoneOf n (names_of es) → slice_get es f ≡ Some e → n ≡ e.0 → ⊥
none_at n [] f e none at same = let no : ⊥ = cc in no
none_at n (x ∷ es) zero e none at same =
    let is : x ≡ e = cc in none.0 (same ∙ ap (λ (y : List ℕ × _). y.0) (sym is))
none_at n (x ∷ es) (suc f) e none at same = none_at n es f e none.1 at same

place_of : {V : Type 0} (es : List (List ℕ × V)) (i f : ℕ) (e : List ℕ × V)
    → AreDistinct (names_of es) → slice_get es f ≡ Some e
    → position_from (λ (x : List ℕ × V). bytes_eq e.0 x.0) i es ≡ Some (i + f)
place_of [] i f e distinct at = absurd (let no : ⊥ = cc in no)
place_of (x ∷ es) i zero e distinct at =
    let is : x ≡ e = cc in
    let same : bytes_eq e.0 x.0 ≡ true =
    (bytes_eq-Decides e.0 x.0).1 (ap (λ (y : List ℕ × _). y.0) (sym is)) in
    rw same (ap (λ (n : ℕ). Some n) (omega arith))
place_of {V} (x ∷ es) i (suc f) e distinct at =
    by_test (place_of es (i + 1) f e distinct.1 at) (bytes_eq e.0 x.0) refl
  where
    by_test : position_from (λ (y : List ℕ × V). bytes_eq e.0 y.0) (i + 1) es ≡ Some (i + 1 + f)
        → (b : Bool) → bytes_eq e.0 x.0 ≡ b
        → position_from (λ (y : List ℕ × V). bytes_eq e.0 y.0) i (x ∷ es) ≡ Some (i + suc f)
    by_test later true same =
        absurd (none_at x.0 es f e distinct.0 at (sym ((bytes_eq-Decides e.0 x.0).0 same)))
    by_test later false other = rw other (later ∙ ap (λ (n : ℕ). Some n) (omega arith))

-- the symbol with a number is the one with its name
pub named_by_number : (sig : Signature) (f : ℕ) (name : List ℕ) (info : SymInfo)
    → AreDistinct (names_of sig.symbols) → slice_get sig.symbols f ≡ Some (name, info)
    → symbol_named sig name ≡ Some info
named_by_number sig f name info distinct at =
    let number : number_of_name sig.symbols name ≡ Some f =
    place_of sig.symbols 0 f (name, info) distinct at ∙ ap (λ (n : ℕ). Some n) (omega arith) in
    ap (option_and_then (symbol_info sig)) number
    ∙ ap (option_map (λ (e : List ℕ × SymInfo). e.1)) at
