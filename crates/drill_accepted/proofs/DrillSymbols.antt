-- What a signature that a drill's declarations give has for their symbols.
use Rattle.std.proofs.Common.{◌≡◌, ◌<◌, ◌≤◌, ◌^◌, ℕ, zero, suc, false, List, [], ◌∷◌, ◌++◌, map}
use Rattle.std.proofs.Common.{length, Option, Some, None, refl, ap, sym, ◌∙◌, subst, arith, ◌⊎◌}
use Rattle.std.proofs.Common.{inl, inr, codes}
use Rattle.std.specs.Prelude.{slice_get}
use Rattle.std.specs.List.{AllZip}
use Rattle.std.proofs.lemmas.Bool.{cases_lt}
use Rattle.std.proofs.lemmas.List.{length-append}
use Rattle.kore_text.specs.Trees.{SymbolDeclaration, DefinitionTree}
use Rattle.rule_core.specs.DistinctNames.{names_of, AreDistinct}
use Rattle.rule_core.specs.declared.signature.Signature.{Signature}
use Rattle.rule_core.specs.declared.signature.SortInfo.{SortInfo}
use Rattle.rule_core.specs.declared.signature.SymInfo.{SymInfo}
use Rattle.rule_core.specs.declared.signature.SymKind.{SymKind}
use Rattle.rule_core.specs.declared.signature.SymKind.TheVariants.{Ctor, Equations}
use Rattle.rule_core.specs.declared.signature.SortRef.{SortRef}
use Rattle.rule_core.specs.declared.signature.SortRef.TheVariants.{Sort}
use Rattle.kore_sig.specs.Declarations.{symbols_of}
use Rattle.kore_sig.specs.Signatures.{IsSymbolEntry, IsSignatureOf}
use Rattle.kore_sig.specs.SortReferences.{sort_reference}
use Rattle.kore_sig.specs.SymbolKinds.{injection_of, kind_of, ac_names, is_ac}
use Rattle.kore_check.specs.PatternSorts.{symbol_named}
use Rattle.kore_rules.proofs.DeclaredKinds.{named_by_number}
use Rattle.kore_rules.proofs.SignatureFacts.{distinct_symbols}
use Rattle.drill_accepted.proofs.Parts.{numbered_name}
use Rattle.drill_accepted.proofs.DrillTrees.{add_symbol, ge_symbol, state_symbol, step_symbol}
use Rattle.drill_accepted.proofs.DrillDeclared.{Layout, steps_of, first_symbols, declarations}
use Rattle.drill_accepted.proofs.DrillDeclared.{tree_with, drill_sorts, entries-are, symbols-are}
use Rattle.drill_accepted.proofs.DrillDeclared.{no-injection-is, no-ac-are}
use Rattle.drill_accepted.proofs.NoDeclarationFault.{no-declaration-fault}

-- the reference to the declared sort with this number
abbrev pub sort_no : ℕ → SortRef
sort_no n = Sort (record { 0 = n })

-- the symbol of this name is there, without sort parameters, and has these sorts
pub record HasSymbol (sig : Signature) (name : List ℕ) (kind : SymKind) (args : List SortRef)
    (result : SortRef) : Type 0
  where
    pub number : ℕ
    pub info : SymInfo
    pub there : slice_get sig.symbols number ≡ Some (name, info)
    pub named : symbol_named sig name ≡ Some info
    pub kind_is : info.kind ≡ kind
    pub params : info.params ≡ 0
    pub args_are : info.args.items ≡ args
    pub result_is : info.result ≡ result
    pub ac : info.ac ≡ false

-- a signature has the sorts of a drill, its state and the symbols of so many steps
pub record HasStates (m : ℕ) (sig : Signature) : Type 0 where
  pub sorts : sig.sorts ≡ drill_sorts
  pub distinct : AreDistinct (names_of sig.symbols)
  pub state : HasSymbol sig (codes "st") Ctor (sort_no 2 ∷ sort_no 0 ∷ []) (sort_no 3)
  pub step : (i : ℕ) → i < m → HasSymbol sig (numbered_name i) Ctor [] (sort_no 2)

-- .. and its two functions
pub record HasFunctions (sig : Signature) : Type 0 where
  pub add : HasSymbol sig (codes "add") Equations (sort_no 0 ∷ sort_no 0 ∷ []) (sort_no 0)
  pub ge : HasSymbol sig (codes "ge") Equations (sort_no 0 ∷ sort_no 0 ∷ []) (sort_no 1)

-- ---- the declarations by number

pub last-at-length : {X : Type 0} (xs : List X) (y : X)
    → slice_get (xs ++ y ∷ []) (length xs) ≡ Some y
last-at-length [] y = refl
last-at-length (x ∷ xs) y = last-at-length xs y

pub kept-in-front : {X : Type 0} (xs ys : List X) (k : ℕ) (x : X) → slice_get xs k ≡ Some x
    → slice_get (xs ++ ys) k ≡ Some x
kept-in-front [] ys k x e = let no : ⊥ = cc in absurd no
kept-in-front (y ∷ xs) ys zero x e = e
kept-in-front (y ∷ xs) ys (suc k) x e = kept-in-front xs ys k x e

length-steps : (q : Layout) (n : ℕ) → length (steps_of q n) ≡ n
length-steps q zero = refl
length-steps q (suc n) =
    omega (arith, length-append (steps_of q n) (step_symbol n (q n) ∷ []), length-steps q n)

step-there : (q : Layout) (n i : ℕ) → i < n
    → slice_get (steps_of q n) i ≡ Some (step_symbol i (q i))
step-there q zero i less = absurd (omega arith)
step-there q (suc n) i less = by_case (cases_lt i n) (λ lower. step-there q n i lower) where
  by_case : (i < n) ⊎ (n ≤ i) → (i < n → slice_get (steps_of q n) i ≡ Some (step_symbol i (q i)))
      → slice_get (steps_of q (suc n)) i ≡ Some (step_symbol i (q i))
  by_case (inl lower) before =
      kept-in-front (steps_of q n) (step_symbol n (q n) ∷ []) i (step_symbol i (q i)) (before lower)
  by_case (inr last) before =
      let same : i ≡ n = omega (arith, less, last) in
      ap (slice_get (steps_of q (suc n))) (same ∙ sym (length-steps q n))
      ∙ last-at-length (steps_of q n) (step_symbol n (q n))
      ∙ ap (λ (j : ℕ). Some (step_symbol j (q j))) (sym same)

-- ---- the entries of the declarations

pub zipped-at : {X Y : Type 0} (R : X → Y → Type 0) (xs : List X) (ys : List Y) (k : ℕ) (x : X)
    → AllZip R xs ys → slice_get xs k ≡ Some x
    → (y : Y) × (slice_get ys k ≡ Some y) × R x y
zipped-at R [] ys k x zipped e = let no : ⊥ = cc in absurd no
zipped-at R (x ∷ xs) [] k z zipped e = absurd zipped
zipped-at R (x ∷ xs) (y ∷ ys) zero z zipped e =
    let same : x ≡ z = cc in (y, refl, subst (λ (w : _). R w y) same zipped.0)
zipped-at R (x ∷ xs) (y ∷ ys) (suc k) z zipped e = zipped-at R xs ys k z zipped.1 e

same-items : {X : Type 0} (xs ys : List X) → map Some xs ≡ map Some ys → xs ≡ ys
same-items [] [] e = refl
same-items [] (y ∷ ys) e = let no : ⊥ = cc in absurd no
same-items (x ∷ xs) [] e = let no : ⊥ = cc in absurd no
same-items (x ∷ xs) (y ∷ ys) e =
    let first : x ≡ y = cc in
    let rest : map Some xs ≡ map Some ys = cc in
    let tail : xs ≡ ys = same-items xs ys rest in cc

-- an entry has what its declaration says
entry-has : (sig : Signature) (d : SymbolDeclaration) (k : ℕ) (e : List ℕ × SymInfo)
    (kind : SymKind) (args : List SortRef) (result : SortRef)
    → AreDistinct (names_of sig.symbols) → slice_get sig.symbols k ≡ Some e
    → IsSymbolEntry drill_sorts None [] d e
    → kind_of None d ≡ kind → d.params ≡ [] → map (sort_reference drill_sorts d.params) d.args
    ≡ map Some args
    → sort_reference drill_sorts d.params d.result ≡ Some result → is_ac [] d ≡ false
    → HasSymbol sig d.name kind args result
entry-has sig d k e kind args result distinct at is kind_is plain args_are result_is ac =
    let there : slice_get sig.symbols k ≡ Some (d.name, e.1) =
    at ∙ ap (λ (n : List ℕ). Some (n, e.1)) is.name in
    let same : Some e.1.result ≡ Some result = is.result ∙ result_is in record {
      number = k;
      info = e.1;
      there = there;
      named = named_by_number sig k d.name e.1 distinct there;
      kind_is = is.kind ∙ kind_is;
      params = is.params ∙ ap length plain;
      args_are = same-items e.1.args.items args (is.args ∙ args_are);
      result_is = (let same_result : e.1.result ≡ result = cc in same_result);
      ac = is.ac ∙ ac;
    }

-- ---- the signature of a drill

abbrev EntriesAre : List (List ℕ × SortInfo) → Option (List ℕ) → List (List ℕ)
    → List SymbolDeclaration → Signature → Type 0
EntriesAre sorts injection ac ds sig = AllZip (IsSymbolEntry sorts injection ac) ds sig.symbols

drill-entries : (p q r : Layout) (m n : ℕ) (sig : Signature)
    → IsSignatureOf (tree_with (declarations p q r m n)) sig
    → EntriesAre drill_sorts None [] (first_symbols p ++ steps_of q m) sig
drill-entries p q r m n sig is =
    let d : DefinitionTree = tree_with (declarations p q r m n) in
    subst (λ (sorts : List (List ℕ × SortInfo)). EntriesAre sorts None []
    (first_symbols p ++ steps_of q m) sig)
    (is.sorts ∙ entries-are p q r m n)
    (subst (λ (i : Option (List ℕ)). EntriesAre sig.sorts i []
    (first_symbols p ++ steps_of q m) sig) (no-injection-is p q r m n)
    (subst (λ (ac : List (List ℕ)). EntriesAre sig.sorts (injection_of (symbols_of d)) ac
    (first_symbols p ++ steps_of q m) sig) (no-ac-are p q r m n)
    (subst (λ (ds : List SymbolDeclaration). EntriesAre sig.sorts (injection_of (symbols_of d))
    (ac_names d) ds sig) (symbols-are p q r m n) is.symbols)))

pub drill-states : (p q r : Layout) (m n : ℕ) (sig : Signature) → m < 2 ^ 64
    → IsSignatureOf (tree_with (declarations p q r m n)) sig
    → HasStates m sig
drill-states p q r m n sig few is =
    let d : DefinitionTree = tree_with (declarations p q r m n) in
    let distinct = distinct_symbols d sig (no-declaration-fault p q r m n few) is in
    let entries = drill-entries p q r m n sig is in
    let state = zipped-at (IsSymbolEntry drill_sorts None [])
    (first_symbols p ++ steps_of q m) sig.symbols 2 (state_symbol (p 6)) entries refl in
    record {
      sorts = is.sorts ∙ entries-are p q r m n;
      distinct = distinct;
      state = entry-has sig (state_symbol (p 6)) 2 state.0 Ctor (sort_no 2 ∷ sort_no 0 ∷ [])
          (sort_no 3) distinct state.1 state.2
          refl refl refl refl refl;
      step = λ i less.
          let at = zipped-at (IsSymbolEntry drill_sorts None [])
          (first_symbols p ++ steps_of q m) sig.symbols (suc (suc (suc i)))
          (step_symbol i (q i)) entries (step-there q m i less) in
          entry-has sig (step_symbol i (q i)) (suc (suc (suc i))) at.0 Ctor []
          (sort_no 2) distinct at.1 at.2 refl refl refl refl refl;
    }

pub drill-functions : (p q r : Layout) (m n : ℕ) (sig : Signature) → m < 2 ^ 64
    → IsSignatureOf (tree_with (declarations p q r m n)) sig
    → HasFunctions sig
drill-functions p q r m n sig few is =
    let d : DefinitionTree = tree_with (declarations p q r m n) in
    let distinct = distinct_symbols d sig (no-declaration-fault p q r m n few) is in
    let entries = drill-entries p q r m n sig is in
    let add = zipped-at (IsSymbolEntry drill_sorts None [])
    (first_symbols p ++ steps_of q m) sig.symbols 0 (add_symbol (p 4)) entries refl in
    let ge = zipped-at (IsSymbolEntry drill_sorts None [])
    (first_symbols p ++ steps_of q m) sig.symbols 1 (ge_symbol (p 5)) entries refl in
    record {
      add = entry-has sig (add_symbol (p 4)) 0 add.0 Equations (sort_no 0 ∷ sort_no 0 ∷ [])
          (sort_no 0) distinct add.1 add.2
          refl refl refl refl refl;
      ge = entry-has sig (ge_symbol (p 5)) 1 ge.0 Equations (sort_no 0 ∷ sort_no 0 ∷ [])
          (sort_no 1) distinct ge.1 ge.2
          refl refl refl refl refl;
    }
